use Rattle.std.proofs.Common.{pos, [], ◌∷◌, lit<, refl, ap, ◌∙◌}
use Rattle.fp_queue.proofs.Known.{known_at}
use Rattle.fp_checks.proofs.Known.{known_all}
use Rattle.fp_checks.proofs.queues.the_greatest_and_then_the_earliest_is_taken.Goals as goal

pub answer_all-requires : goal.answer_all-requires
answer_all-requires g c =
    let has = ap (λ q. q.priorities) c.in_ok-queue.ensures in
    known_all _ _ _ _ _ _ _ _ _ _ (c.from_vec.ensures ∙ c.in_ok-calls.ensures.items)
    (known_at _ (pos 1 ∷ pos 5 ∷ []) 0 (pos 1) has (lit< tt) refl) (known_at _ (pos 1 ∷ pos 5 ∷ []) 1 (pos 5) has (lit< tt) refl)
    (known_at _ (pos 1 ∷ pos 5 ∷ []) 0 (pos 1) has (lit< tt) refl) (known_at _ (pos 1 ∷ pos 5 ∷ []) 1 (pos 5) has (lit< tt) refl)
    tt tt tt tt
