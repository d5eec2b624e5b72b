use Rattle.std.proofs.Common.{◌≡◌, ◌++◌, take}
use Rattle.std.specs.Prelude.{map}
use Rattle.fp_tables.specs.declared.component.Param.{Param}
use Rattle.fp_dictionary.proofs.listing.push_params.Given as goal

abbrev pub invariant-loop-param : goal.invariant-loop-param
invariant-loop-param l = l.kinds ≡ l.initial.kinds ++ map (λ (p : Param). p.kind) (take l.param-index l.params)
