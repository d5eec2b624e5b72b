use Rattle.std.proofs.Common.{◌≡◌, map, take}
use Rattle.fp_sound_types.specs.Marks.{uses_marked}
use Rattle.fp_tables.specs.declared.kind.TypeDef.{TypeDef}
use Rattle.fp_sound_types.proofs.chains.users_of.Given as goal

abbrev pub invariant-loop-definition : goal.invariant-loop-definition
invariant-loop-definition l = l.users.items ≡ map (λ (definition : TypeDef). uses_marked l.marks l.constants definition.form) (take l.definition-index l.types)
