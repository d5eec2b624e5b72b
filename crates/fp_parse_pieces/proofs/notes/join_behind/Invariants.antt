use Rattle.std.proofs.Common.{◌≡◌, ◌++◌, ◌∷◌, take}
use Rattle.std.specs.Prelude.{flat_map}
use Rattle.fp_parse_pieces.proofs.notes.join_behind.Given as goal

abbrev pub invariant-loop-line : goal.invariant-loop-line
invariant-loop-line l = l.text ≡ l.first ++ flat_map (λ line. 10 ∷ line) (take l.line-index l.more)
