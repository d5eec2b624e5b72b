use Rattle.fp_dictionary.proofs.Pieces.{whole_text}
use Rattle.fp_dictionary.proofs.root.text_of.Goals as goal

pub returns : goal.returns
returns c =
    whole_text c.args.model.now c.args.topology.now _ _ _ _ _ _ _ _ _ _ _ _ _ _ c.new-out.ensures c.in_ok-push_text.ensures c.in_ok-push_members.ensures (c.in_ok-push_text-2).ensures
    (c.in_ok-push_members-2).ensures (c.in_ok-push_text-3).ensures c.in_ok-push_metadata.ensures (c.in_ok-push_text-4).ensures (c.in_ok-push_members-3).ensures (c.in_ok-push_text-5).ensures
    (c.in_ok-push_members-4).ensures (c.in_ok-push_text-6).ensures c.in_ok-push_types.ensures (c.in_ok-push_text-7).ensures
