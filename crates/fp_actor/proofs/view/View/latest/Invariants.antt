use Rattle.std.proofs.Common.{◌≡◌, length, map, reverse}
use Rattle.std.specs.List.{find}
use Rattle.fp_base.specs.Same.{same_text}
use Rattle.fp_actor.specs.Seen.{binding}
use Rattle.fp_actor.proofs.view.View.latest.Given as goal

abbrev pub invariant-loop-last : goal.invariant-loop-last
invariant-loop-last l =
    find (λ b. same_text b.0 l.name) (map (binding l.self) (reverse l.fn.made)) ≡ find (λ b. same_text b.0 l.name) (map (binding l.self) (reverse l.left))

abbrev pub decreases-loop-last : goal.decreases-loop-last
decreases-loop-last l = length l.left
