use Rattle.std.proofs.Common.{◌≡◌, map, take}
use Rattle.fp_tables.specs.declared.component.Param.{Param}
use Rattle.fp_cell.proofs.opening.defaults.Given as goal

abbrev pub invariant-loop-param : goal.invariant-loop-param
invariant-loop-param l = l.values.items ≡ map (λ (p : Param). p.default) (take l.param-index l.params)
