use Rattle.std.proofs.Common.{◌≡◌, true, take}
use Rattle.std.specs.List.{list_all}
use Rattle.fp_tables.specs.Sound.{form_differs}
use Rattle.fp_tables.specs.declared.kind.TypeDef.{TypeDef}
use Rattle.fp_sound_types.proofs.types.members_differ.Given as goal

abbrev pub invariant-loop-definition : goal.invariant-loop-definition
invariant-loop-definition l = list_all (λ (definition : TypeDef). form_differs definition.form) (take l.definition-index l.types) ≡ true
