use Rattle.std.proofs.Common.{◌≡◌, map, take}
use Rattle.fp_tables.specs.Tops.{top_of}
use Rattle.fp_tables.proofs.tops.tops_of.Given as goal

abbrev pub invariant-loop-component : goal.invariant-loop-component
invariant-loop-component l = l.tops.items ≡ map top_of (take l.component-index l.components)
