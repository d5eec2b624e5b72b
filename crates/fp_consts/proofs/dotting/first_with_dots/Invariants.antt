use Rattle.std.proofs.Common.{◌≡◌, ◌∷◌, ◌++◌, flat_map, take}
use Rattle.fp_consts.proofs.dotting.first_with_dots.Given as goal

abbrev pub invariant-loop-other : goal.invariant-loop-other
invariant-loop-other l = l.text ≡ l.initial.text ++ flat_map (λ n. 46 ∷ n) (take l.other-index l.others)
