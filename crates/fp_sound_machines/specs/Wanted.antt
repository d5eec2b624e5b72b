-- What value actions and guards want.
use Rattle.std.specs.Prelude.{Bool, true, false, cond, List, Option, None, Some}
use Rattle.fp_tables.specs.Lists.{some_and}
use Rattle.fp_tables.specs.Components.{same_kind}
use Rattle.fp_tables.specs.Machines.{target}
use Rattle.fp_tables.specs.declared.kind.Kind.{Kind}
use Rattle.fp_tables.specs.declared.kind.TypeDef.{TypeDef}
use Rattle.fp_tables.specs.declared.machine.Named.{Named}
use Rattle.fp_sound_machines.specs.declared.wanted.Wanted.{Wanted}
use Rattle.fp_sound_machines.specs.declared.wanted.Wanted.TheVariants.{Nothing, One, Never}

-- whether what is given will do
abbrev pub meets : List TypeDef → Option Kind → Wanted → Bool
meets types given Nothing = true
meets types given (One k) = some_and (λ g. same_kind (target types g) k) given
meets types given Never = false

-- what wants both
abbrev pub both_wanted : Wanted → Wanted → Wanted
both_wanted Nothing w = w
both_wanted (One j) Nothing = One j
both_wanted (One j) (One k) = cond (same_kind j k) (One j) Never
both_wanted (One j) Never = Never
both_wanted Never w = Never

-- what an action or guard wants
abbrev pub wanted_by : List TypeDef → Option Named → Wanted
wanted_by types None = Never
wanted_by types (Some x) = of_kind x.kind
  where
    of_kind : Option Kind → Wanted
    of_kind None = Nothing
    of_kind (Some k) = One (target types k)
