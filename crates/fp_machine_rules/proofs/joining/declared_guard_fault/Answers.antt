use Rattle.std.proofs.Common.{map, ◌∙◌}
use Rattle.fp_base.proofs.Options.{if_ok_then}
use Rattle.fp_base.specs.declared.rule.Rule.TheVariants.{MachineNameRepeated}
use Rattle.fp_machine_rules.specs.declared.item.Item.{Item}
use Rattle.fp_machine_rules.specs.Repeated.{key_by, declared_guard}
use Rattle.fp_machine_rules.proofs.Joined.{keys_placed, lengths_same}
use Rattle.fp_machine_rules.proofs.joining.declared_guard_fault.Goals as goal

pub repeat_fault-requires : goal.repeat_fault-requires
repeat_fault-requires c =
    lengths_same (λ (x : Item). x.place) (key_by declared_guard) c.args.items.now _ _ c.requires (c.deref.ensures.value ∙ c.in_ok-keys.ensures)

pub returns : goal.returns
returns c =
    let items = c.args.items.now in
    if_ok_then c.repeat_fault.result _ _
    (λ o l. keys_placed MachineNameRepeated (λ (x : Item). x.place) items c.args.places.now _ (map (key_by declared_guard) items) o c.requires (c.deref.ensures.value ∙ c.in_ok-keys.ensures) l)
    c.repeat_fault.ensures
