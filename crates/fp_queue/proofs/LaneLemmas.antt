-- What the lanes hold after a put and a take, and which is the greatest in use.
use Rattle.std.proofs.Common.{◌≡◌, ◌≤ℤ◌, ℕ, ℤ, pos, ◌<◌, ◌≤◌, nat_eq, List, [], ◌∷◌, ◌++◌, length, drop, get_or, set, refl, sym, ap, subst, ◌∙◌, arith, ⊎_elim}
use Rattle.std.specs.List.{All, Contains, count_by}
use Rattle.std.specs.List.{AllByRecursion}
use Rattle.std.specs.List.Sorted.{IsSorted}
use Rattle.std.specs.Ordering.{int_cmp}
use Rattle.fp_queue.specs.Lanes.{IsLaid}
use Rattle.std.specs.VecDeque.{deque_capacity}
use Rattle.std.specs.declared.collections.VecDeque.{VecDeque}
use Rattle.std.specs.declared.alloc.Global.{Global}
use Rattle.std.proofs.lemmas.Bool.{cases_eq, eq-eqb}
use Rattle.std.proofs.lemmas.List.{get_or-set_same, get_or-set_other, length-set, get_or_default}
use Rattle.std.proofs.lemmas.List.Elements.{All-from_recursion, recursion_from_All}
use Rattle.fp_queue.specs.declared.pending.Pending.{Pending}
use Rattle.fp_queue.specs.Taking.{without_first}
use Rattle.fp_queue.specs.Lanes.{items_of, HoldEach, AreNoted}
use Rattle.fp_queue.proofs.TakingLemmas.{items_of-push_own, items_of-push_other, items_left, items_kept, each_some}
use Rattle.fp_queue.proofs.CountLemmas.{one_if, count_by-cons, counted_within}
use Rattle.fp_queue.proofs.RankLemmas.{rank_upto}

module _ {M : Type 0} where
  -- an item joins the lane of its priority
  pub hold_put : (size : ℕ) (ranks : List ℤ) (lanes : List (VecDeque M Global)) (pending : List (Pending M)) (p : Pending M) (at : ℕ) (d lane : VecDeque M Global)
      → HoldEach size ranks lanes pending → length lanes ≡ length ranks → at < length lanes
      → ((i j : ℕ) → i < length ranks → j < length ranks → get_or ranks i (pos 0) ≡ get_or ranks j (pos 0) → i ≡ j)
      → get_or ranks at (pos 0) ≡ p.priority → lane.items ≡ (get_or lanes at d).items ++ p.item ∷ [] → deque_capacity lane ≡ deque_capacity (get_or lanes at d)
      → HoldEach size ranks (set lanes at lane) (pending ++ p ∷ [])
  hold_put size ranks lanes pending p at d lane each level h apart rank items cap i e below =
      let l : i < length lanes = subst (λ n. i < n) (length-set lanes at lane) below in
      ⊎_elim
      (λ own. subst (λ n. ((get_or (set lanes at lane) n e).items ≡ items_of (get_or ranks n (pos 0)) (pending ++ p ∷ [])) × (size ≤ deque_capacity (get_or (set lanes at lane) n e))) (sym own)
      (rw (get_or-set_same lanes at lane e h) (
        items ∙ ap (λ (ws : List M). ws ++ p.item ∷ []) (each at d h).0 ∙ sym (items_of-push_own (get_or ranks at (pos 0)) pending p rank),
        subst (λ n. size ≤ n) (sym cap) (each at d h).1,
      )))
      (λ ne. rw (get_or-set_other lanes at i lane e ne) (
        (each i e l).0 ∙ sym (items_of-push_other (get_or ranks i (pos 0)) pending p (λ same. ne (apart i at (omega arith) (omega arith) (same ∙ sym rank)))),
        (each i e l).1,
      ))
      (cases_eq i at)

  -- the first item leaves the lane of its priority
  pub hold_take : (size : ℕ) (ranks : List ℤ) (lanes : List (VecDeque M Global)) (pending : List (Pending M)) (at : ℕ) (d lane : VecDeque M Global)
      → HoldEach size ranks lanes pending → length lanes ≡ length ranks → at < length lanes
      → ((i j : ℕ) → i < length ranks → j < length ranks → get_or ranks i (pos 0) ≡ get_or ranks j (pos 0) → i ≡ j)
      → lane.items ≡ drop 1 (get_or lanes at d).items → deque_capacity lane ≡ deque_capacity (get_or lanes at d)
      → HoldEach size ranks (set lanes at lane) (without_first (get_or ranks at (pos 0)) pending)
  hold_take size ranks lanes pending at d lane each level h apart items cap i e below =
      let k = get_or ranks at (pos 0) in
      let l : i < length lanes = subst (λ n. i < n) (length-set lanes at lane) below in
      ⊎_elim
      (λ own. subst (λ n. ((get_or (set lanes at lane) n e).items ≡ items_of (get_or ranks n (pos 0)) (without_first k pending)) × (size ≤ deque_capacity (get_or (set lanes at lane) n e))) (sym own)
      (rw (get_or-set_same lanes at lane e h) (
        items ∙ ap (λ (ws : List M). drop 1 ws) (each at d h).0 ∙ sym (items_left k pending),
        subst (λ n. size ≤ n) (sym cap) (each at d h).1,
      )))
      (λ ne. rw (get_or-set_other lanes at i lane e ne) (
        (each i e l).0 ∙ sym (items_kept (get_or ranks i (pos 0)) k pending (λ same. ne (apart i at (omega arith) (omega arith) same))),
        (each i e l).1,
      ))
      (cases_eq i at)

pub element : {X : Type 0} (xs : List X) → 0 < length xs → X
element [] h = absurd (omega arith)
element (x ∷ xs) h = x

module _ {M : Type 0} where
  -- the lane of each item that waits is noted
  noted_of : (size : ℕ) (ranks : List ℤ) (lanes : List (VecDeque M Global)) (noted : List ℕ) (pending : List (Pending M)) (d : VecDeque M Global)
      → IsLaid size ranks lanes noted pending → (p : Pending M) → 0 < length (items_of p.priority pending) → (there : Contains ranks p.priority)
      → (get_or ranks there.0 (pos 0) ≡ p.priority) × (there.0 < length lanes) × (0 < count_by (λ j. nat_eq j there.0) noted)
  noted_of size ranks lanes noted pending d laid p some there =
      let j = there.0 in
      let l : j < length lanes = subst (λ n. j < n) (sym laid.level) there.1 in
      let rank : get_or ranks j (pos 0) ≡ p.priority = get_or_default ranks j (pos 0) p.priority there.1 ∙ there.2 in
      let items : (get_or lanes j d).items ≡ items_of p.priority pending = (laid.each j d l).0 ∙ ap (λ k. items_of k pending) rank in
      let n = laid.notes.each j d l in
      let e : length (get_or lanes j d).items ≡ length (items_of p.priority pending) = ap length items in
      (rank, l, omega arith)

  -- no item that waits has a priority above that of the greatest lane in use
  pub bounded_by_top : (size : ℕ) (ranks : List ℤ) (lanes : List (VecDeque M Global)) (noted : List ℕ) (pending : List (Pending M)) (at : ℕ) (d : VecDeque M Global)
      → IsSorted int_cmp ranks → IsLaid size ranks lanes noted pending → at < length lanes → All (λ j. j ≤ at) noted → AllByRecursion (λ p. p.priority ≤ℤ get_or ranks at (pos 0)) pending
  bounded_by_top size ranks lanes noted pending at d up laid h top =
      recursion_from_All (λ p. p.priority ≤ℤ get_or ranks at (pos 0)) pending (λ k e below.
      let p = get_or pending k e in
      let some : 0 < length (items_of p.priority pending) = All-from_recursion (λ q. 0 < length (items_of q.priority pending)) pending (each_some pending) k e below in
      let there = laid.ranked k e below in
      let n = noted_of size ranks lanes noted pending d laid p some there in
      subst (λ w. w ≤ℤ get_or ranks at (pos 0)) n.0
      (rank_upto ranks up there.0 at (counted_within at there.0 noted (recursion_from_All (λ j. j ≤ at) noted top) n.2) (subst (λ m. at < m) laid.level h)))

  -- the greatest lane in use is not empty
  pub top_in_use : (lanes : List (VecDeque M Global)) (noted : List ℕ) (at : ℕ) (d : VecDeque M Global) → AreNoted lanes noted → 0 < length noted → at ≡ get_or noted 0 at → (at < length lanes) × (0 < length (get_or lanes at d).items)
  top_in_use lanes [] at d a some e = absurd (omega arith)
  top_in_use lanes (j ∷ noted) at d a some e =
      let l : at < length lanes = subst (λ n. n < length lanes) (sym e) (a.within 0 j (omega arith)) in
      let n = a.each at d l in
      let c = count_by-cons (λ i. nat_eq i at) j noted in
      let one : one_if (nat_eq j at) ≡ 1 = ap one_if (eq-eqb j at (sym e)) in
      (l, omega arith)

  -- where no lane is in use, nothing waits
  pub none_waits : (size : ℕ) (ranks : List ℤ) (lanes : List (VecDeque M Global)) (pending : List (Pending M)) → IsLaid size ranks lanes [] pending → pending ≡ []
  none_waits size ranks lanes [] laid = refl
  none_waits size ranks lanes (p ∷ ps) laid =
      let there = laid.ranked 0 p (omega arith) in
      let l : there.0 < length lanes = subst (λ n. there.0 < n) (sym laid.level) there.1 in
      let n = noted_of size ranks lanes [] (p ∷ ps) (element lanes (omega arith)) laid p ((each_some (p ∷ ps)).0) there in
      let c : 0 < 0 = n.2 in absurd (omega arith)
