use Rattle.std.proofs.Common.{◌≡◌, map, take}
use Rattle.fp_tree.specs.declared.name.Name.{Name}
use Rattle.fp_type_formats.proofs.sorts.texts_of.Given as goal

abbrev pub invariant-loop-name : goal.invariant-loop-name
invariant-loop-name l = l.texts ≡ map (λ (n : Name). n.text) (take l.name-index l.names)
