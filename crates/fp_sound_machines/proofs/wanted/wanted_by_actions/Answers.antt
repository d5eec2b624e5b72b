use Rattle.std.proofs.Common.{ℕ, Bool, ◌&&◌, slice_get, ap, ap₂, sym, ◌∙◌}
use Rattle.std.proofs.lemmas.List.Folds.{list_all_more}
use Rattle.fp_tables.specs.Machines.{is_given}
use Rattle.fp_sound_machines.specs.Wanted.{meets, wanted_by}
use Rattle.fp_sound_machines.proofs.Wants.{meets_both, meets_one}
use Rattle.fp_sound_machines.proofs.wanted.wanted_by_actions.Goals as goal

pub loop-action-preserved : goal.loop-action-preserved
loop-action-preserved c = λ given.
    let types = c.args.types.now in
    let m = c.args.machine.now in
    let test : ℕ → Bool = λ a. is_given types m given (slice_get m.actions a) in
    let more = ap (meets types given) (c.wanted_by-more.ensures ∙ ap (wanted_by types) c.get.ensures.value) ∙ meets_one types given m _ in
    ap (meets types given) c.both_wanted-wanted.ensures ∙ meets_both types given c.loop-action.wanted c.wanted_by-more.result
    ∙ ap₂ (λ (a b : Bool). a && b) (c.loop-action.invariant given) more
    ∙ sym (list_all_more test c.args.actions.now c.loop-action.action-index 0 c.loop-action-test.true)
