-- What a queue keeps through its calls.
use Rattle.std.proofs.Common.{suc, zero, ◌≡◌, ◌≢◌, ℕ, ℤ, pos, ◌+◌, ◌-◌, ◌<◌, ◌≤◌, Bool, true, false, min, nat_lt, List, [], ◌∷◌, ◌++◌, length, drop, get_or, set, refl, sym, ap, subst, ◌∙◌, arith}
use Rattle.std.specs.List.{All, Contains, count_by}
use Rattle.std.specs.List.Sorted.{IsPermutation}
use Rattle.std.specs.List.{AllByRecursion}
use Rattle.std.proofs.Common.{Option, Some, None, IsSome, IfSome, is_some, ◌↔◌}
use Rattle.std.specs.Option.{option_map, option_map_or, option_and_then}
use Rattle.std.proofs.lemmas.List.Sorted.{le_from_greatest}
use Rattle.std.proofs.Common.{Result, Ok, Err, IsOk, OnOk, IsTrue}
use Rattle.std.proofs.lemmas.Bool.{iff_false}
use Rattle.fp_queue.specs.Lanes.{IsRanking, IsLaid, IsReady}
use Rattle.std.specs.VecDeque.{deque_capacity, deque_len}
use Rattle.std.specs.BinaryHeap.{IsHeap, IsUpperBound, PopsGreatest, heap_items, heap_len, heap_capacity}
use Rattle.std.specs.declared.collections.BinaryHeap.{BinaryHeap}
use Rattle.std.specs.Ordering.{nat_cmp}
use Rattle.std.proofs.lemmas.List.{length_push}
use Rattle.std.proofs.lemmas.List.Elements.{All-push, Contains-get_or}
use Rattle.std.specs.declared.collections.VecDeque.{VecDeque}
use Rattle.std.specs.declared.alloc.Global.{Global}
use Rattle.std.proofs.lemmas.Bool.{false≢true}
use Rattle.std.proofs.lemmas.List.{length-set, get_or_default}
use Rattle.std.proofs.lemmas.List.Elements.{All-from_recursion, recursion_from_All}
use Rattle.fp_base.proofs.Lists.{no_items}
use Rattle.fp_queue.specs.declared.pending.Pending.{Pending}
use Rattle.fp_queue.specs.Contents.{Contents}
use Rattle.fp_queue.specs.Taking.{greatest_priority, first_of, without_first, taken_of, rest_of}
use Rattle.fp_queue.specs.Lanes.{items_of, is_in_use, AreNoted}
use Rattle.fp_queue.proofs.TakingLemmas.{one_fewer, all_kept, fewer_of_one, first_of_is, greatest_is}
use Rattle.fp_queue.proofs.CountLemmas.{one_if, count_by-cons}
use Rattle.fp_queue.proofs.NotedLemmas.{note_kept, note_added, note_dropped, room_to_note}
use Rattle.fp_queue.proofs.LaneLemmas.{hold_put, hold_take, bounded_by_top, top_in_use, none_waits}

module _ {M : Type 0} (size len : ℕ) (priorities ranks : List ℤ) (lanes : List (VecDeque M Global)) (noted : BinaryHeap ℕ Global) (pending : List (Pending M)) (ready : IsReady size len priorities ranks lanes noted pending) where
  -- a lane that is read has room for one more, unless the queue is full
  pub room_in_lane : (at : ℕ) (lane : VecDeque M Global) → at < length ranks → lane ≡ get_or lanes at lane → len ≢ size → deque_len lane < deque_capacity lane
  room_in_lane at lane h is ne =
      let l : at < length lanes = subst (λ n. at < n) (sym ready.laid.level) h in
      let e = ready.laid.each at lane l in
      let items : lane.items ≡ items_of (get_or ranks at (pos 0)) pending = ap (λ (v : VecDeque M Global). v.items) is ∙ e.0 in
      let cap : deque_capacity lane ≡ deque_capacity (get_or lanes at lane) = ap (λ (v : VecDeque M Global). deque_capacity v) is in
      let n : length lane.items ≡ length (items_of (get_or ranks at (pos 0)) pending) = ap length items in
      let few = fewer_of_one (get_or ranks at (pos 0)) pending in let own = lane.ok.0 in let s = ready.laid.short in let c = ready.counted in let r = e.1 in omega arith

  -- after a put, where what is noted is right
  put_ready : (now : BinaryHeap ℕ Global) (pending' : List (Pending M)) (p : Pending M) (at : ℕ) (lane lane' : VecDeque M Global)
      → at < length ranks → get_or ranks at (pos 0) ≡ p.priority → lane ≡ get_or lanes at lane → len ≢ size
      → lane'.items ≡ lane.items ++ p.item ∷ [] → deque_capacity lane' ≡ deque_capacity lane → pending' ≡ pending ++ p ∷ []
      → AreNoted (set lanes at lane') (heap_items now) → IsHeap nat_cmp (heap_items now) → heap_capacity noted ≤ heap_capacity now
      → IsReady size (len + 1) priorities ranks (set lanes at lane') now pending'
  put_ready now pending' p at lane lane' h rank is ne items cap more notes ordered room =
      let l : at < length lanes = subst (λ n. at < n) (sym ready.laid.level) h in
      subst (λ ps. IsReady size (len + 1) priorities ranks (set lanes at lane') now ps) (sym more) (record {
        counted = ap (λ n. n + 1) ready.counted ∙ sym (length_push pending p);
        ranking = ready.ranking;
        laid = record {
          short = let e = length_push pending p in let s = ready.laid.short in let c = ready.counted in omega arith;
          level = length-set lanes at lane' ∙ ready.laid.level;
          each = hold_put size ranks lanes pending p at lane lane' ready.laid.each ready.laid.level l ready.ranking.apart rank
              (items ∙ ap (λ (v : VecDeque M Global). v.items ++ p.item ∷ []) is) (cap ∙ ap (λ (v : VecDeque M Global). deque_capacity v) is);
          ranked = All-push (λ q. Contains ranks q.priority) pending p ready.laid.ranked (subst (Contains ranks) rank (Contains-get_or ranks at (pos 0) h));
          notes = notes;
        };
        ordered = ordered;
        room = let e = length-set lanes at lane' in let r = ready.room in omega arith;
      })

  -- after a put into a lane that was in use
  pub put_more : (pending' : List (Pending M)) (p : Pending M) (at : ℕ) (lane lane' : VecDeque M Global)
      → at < length ranks → get_or ranks at (pos 0) ≡ p.priority → lane ≡ get_or lanes at lane → len ≢ size
      → lane'.items ≡ lane.items ++ p.item ∷ [] → deque_capacity lane' ≡ deque_capacity lane → pending' ≡ pending ++ p ∷ [] → 0 < deque_len lane
      → IsReady size (len + 1) priorities ranks (set lanes at lane') noted pending'
  put_more pending' p at lane lane' h rank is ne items cap more some =
      let l : at < length lanes = subst (λ n. at < n) (sym ready.laid.level) h in
      let e : length (get_or lanes at lane).items ≡ length lane.items = ap (λ (v : VecDeque M Global). length v.items) (sym is) in
      let f : length lane'.items ≡ length lane.items + 1 = ap length items ∙ length_push lane.items p.item in
      let own = lane.ok.0 in
      put_ready noted pending' p at lane lane' h rank is ne items cap more (note_kept lanes (heap_items noted) at lane lane' ready.laid.notes l (omega arith)) ready.ordered (omega arith)

  -- there is room to note a lane that comes into use
  pub room_in_heap : (at : ℕ) (lane : VecDeque M Global) → at < length ranks → lane ≡ get_or lanes at lane → deque_len lane ≡ 0 → heap_len noted < heap_capacity noted
  room_in_heap at lane h is none =
      let l : at < length lanes = subst (λ n. at < n) (sym ready.laid.level) h in
      let e : length (get_or lanes at lane).items ≡ length lane.items = ap (λ (v : VecDeque M Global). length v.items) (sym is) in
      let own = lane.ok.0 in let n = noted.data.ok.0 in let r = ready.room in
      let f = room_to_note lanes (heap_items noted) at lane ready.laid.notes l (omega arith) in omega arith

  -- after a put into a lane that was out of use
  pub put_first : (now : BinaryHeap ℕ Global) (pending' : List (Pending M)) (p : Pending M) (at : ℕ) (lane lane' : VecDeque M Global)
      → at < length ranks → get_or ranks at (pos 0) ≡ p.priority → lane ≡ get_or lanes at lane → len ≢ size
      → lane'.items ≡ lane.items ++ p.item ∷ [] → deque_capacity lane' ≡ deque_capacity lane → pending' ≡ pending ++ p ∷ [] → deque_len lane ≡ 0
      → IsPermutation (at ∷ heap_items noted) (heap_items now) → (IsHeap nat_cmp (heap_items noted) → IsHeap nat_cmp (heap_items now)) → heap_capacity noted ≤ heap_capacity now
      → IsReady size (len + 1) priorities ranks (set lanes at lane') now pending'
  put_first now pending' p at lane lane' h rank is ne items cap more none moved ordered room =
      let l : at < length lanes = subst (λ n. at < n) (sym ready.laid.level) h in
      let e : length (get_or lanes at lane).items ≡ length lane.items = ap (λ (v : VecDeque M Global). length v.items) (sym is) in
      let f : length lane'.items ≡ length lane.items + 1 = ap length items ∙ length_push lane.items p.item in
      let own = lane.ok.0 in
      put_ready now pending' p at lane lane' h rank is ne items cap more
      (note_added lanes (heap_items noted) (heap_items now) at lane lane' ready.laid.notes l (omega arith) (omega arith) moved) (ordered ready.ordered) room

pub at_ok : {T E : Type 0} (r : Result T E) (P : Type 0) → IsOk r → OnOk r P → P
at_ok (Ok x) P h p = p
at_ok (Err e) P h p = absurd (false≢true h)

-- the number that a heap's pop gives is the one that was seen at its top
pub popped : (r : Option ℕ) (noted now : List ℕ) (at : ℕ) → IsSome r → IfSome r (λ x. x ≡ get_or noted 0 x) → at ≡ get_or noted 0 at → 0 < length noted → IfSome r (λ x. IsPermutation noted (x ∷ now)) → IsPermutation noted (at ∷ now)
popped None noted now at h top is some moved = absurd (false≢true h)
popped (Some x) noted now at h top is some moved =
    subst (λ n. IsPermutation noted (n ∷ now)) (top ∙ get_or_default noted 0 x at some ∙ sym is) moved

pub still_heap : (r : Option ℕ) (noted now : List ℕ) → IsSome r → IfSome r (λ x. PopsGreatest nat_cmp noted x now) → IsHeap nat_cmp noted → IsHeap nat_cmp now
still_heap None noted now h pops heap = absurd (false≢true h)
still_heap (Some x) noted now h pops heap = (pops heap).0

pub nothing_seen : {A : Type 0} (r : Option A) (n : ℕ) → r ≡ None → (IsSome r ↔ (0 < n)) → n ≡ 0
nothing_seen r zero e h = refl
nothing_seen r (suc n) e h = absurd (false≢true (subst (λ s. is_some s ≡ true) e (h.1 (omega arith))))

pub something_seen : {A : Type 0} (r : Option A) (x : A) (n : ℕ) → r ≡ Some x → (IsSome r ↔ (0 < n)) → 0 < n
something_seen r x n e h = h.0 (ap is_some e)

module _ {M : Type 0} where
  -- where nothing waits, a queue stays as it is
  pub rest_of_none : (q : Contents M) → q.pending ≡ [] → q ≡ record q { pending = rest_of q.pending }
  rest_of_none q e = ap (λ (ps : List (Pending M)). record q { pending = ps }) (e ∙ ap rest_of (sym e))

module _ {M : Type 0} (size len : ℕ) (priorities ranks : List ℤ) (lanes : List (VecDeque M Global)) (noted : BinaryHeap ℕ Global) (pending : List (Pending M)) (ready : IsReady size len priorities ranks lanes noted pending) where
  pub nothing_waits : heap_len noted ≡ 0 → pending ≡ []
  nothing_waits e =
      let own = noted.data.ok.0 in
      none_waits size ranks lanes pending (subst (λ ns. IsLaid size ranks lanes ns pending) (no_items (heap_items noted) (omega arith)) ready.laid)

  -- the lane at the heap's top
  module _ (at : ℕ) (some : 0 < heap_len noted) (is : at ≡ get_or (heap_items noted) 0 at) where
    some_noted : 0 < length (heap_items noted)
    some_noted = let own = noted.data.ok.0 in omega arith

    pub top_within : (at < length lanes)
    top_within = subst (λ n. n < length lanes) (sym is) (ready.laid.notes.within 0 at some_noted)

    pub top_not_empty : (lane : VecDeque M Global) → lane ≡ get_or lanes at lane → 0 < deque_len lane
    top_not_empty lane read =
        let own = lane.ok.0 in
        let u = (top_in_use lanes (heap_items noted) at lane ready.laid.notes some_noted is).1 in
        let e : length lane.items ≡ length (get_or lanes at lane).items = ap (λ (v : VecDeque M Global). length v.items) read in omega arith

    module _ (heap : IsHeap nat_cmp (heap_items noted) → IsUpperBound nat_cmp at (heap_items noted)) (lane : VecDeque M Global) (read : lane ≡ get_or lanes at lane) where
      abbrev rank : ℤ
      rank = get_or ranks at (pos 0)

      lane_items : lane.items ≡ items_of rank pending
      lane_items = ap (λ (v : VecDeque M Global). v.items) read ∙ (ready.laid.each at lane top_within).0

      some_items : 0 < length (items_of rank pending)
      some_items = let e : length lane.items ≡ length (items_of rank pending) = ap length lane_items in let n = top_not_empty lane read in let own = lane.ok.0 in omega arith

      top_rank : greatest_priority pending ≡ Some rank
      top_rank =
          greatest_is rank pending
          (bounded_by_top size ranks lanes (heap_items noted) pending at lane ready.ranking.ascending ready.laid top_within (le_from_greatest at (heap_items noted) (heap ready.ordered)))
          some_items

      -- the item that leaves the lane is the one that is taken
      pub taken_item : (x : M) (xs : List M) → lane.items ≡ x ∷ xs → option_map (λ p. p.item) (taken_of pending) ≡ Some x
      taken_item x xs e =
          ap (λ g. option_map (λ p. p.item) (option_and_then (λ k. first_of k pending) g)) top_rank
          ∙ first_of_is rank pending x xs (sym lane_items ∙ e)

      -- after a take, where what is noted is right
      take_ready : (now : BinaryHeap ℕ Global) (pending' : List (Pending M)) (lane' : VecDeque M Global)
          → lane'.items ≡ drop 1 lane.items → deque_capacity lane' ≡ deque_capacity lane → pending' ≡ rest_of pending
          → AreNoted (set lanes at lane') (heap_items now) → IsHeap nat_cmp (heap_items now) → heap_capacity now ≡ heap_capacity noted
          → IsReady size (len - 1) priorities ranks (set lanes at lane') now pending'
      take_ready now pending' lane' items cap less notes ordered room =
          subst (λ ps. IsReady size (len - 1) priorities ranks (set lanes at lane') now ps)
          (sym (less ∙ ap (λ g. option_map_or (λ k. without_first k pending) g pending) top_rank)) (record {
            counted = let e = one_fewer rank pending some_items in let c = ready.counted in omega arith;
            ranking = ready.ranking;
            laid = record {
              short = let e = one_fewer rank pending some_items in let s = ready.laid.short in omega arith;
              level = length-set lanes at lane' ∙ ready.laid.level;
              each = hold_take size ranks lanes pending at lane lane' ready.laid.each ready.laid.level top_within ready.ranking.apart
                  (items ∙ ap (λ (v : VecDeque M Global). drop 1 v.items) read) (cap ∙ ap (λ (v : VecDeque M Global). deque_capacity v) read);
              ranked = All-from_recursion (λ p. Contains ranks p.priority) (without_first rank pending)
                  (all_kept (λ p. Contains ranks p.priority) rank pending (recursion_from_All (λ p. Contains ranks p.priority) pending ready.laid.ranked));
              notes = notes;
            };
            ordered = ordered;
            room = let e = length-set lanes at lane' in let r = ready.room in omega arith;
          })

      lane_used : 0 < length (get_or lanes at lane).items
      lane_used = (top_in_use lanes (heap_items noted) at lane ready.laid.notes some_noted is).1

      -- after a take from a lane that stays in use
      pub take_more : (pending' : List (Pending M)) (lane' : VecDeque M Global)
          → lane'.items ≡ drop 1 lane.items → deque_capacity lane' ≡ deque_capacity lane → pending' ≡ rest_of pending → deque_len lane' ≢ 0
          → IsReady size (len - 1) priorities ranks (set lanes at lane') noted pending'
      take_more pending' lane' items cap less some_left =
          let own = lane'.ok.0 in let u = lane_used in
          take_ready noted pending' lane' items cap less (note_kept lanes (heap_items noted) at lane lane' ready.laid.notes top_within (omega arith)) ready.ordered refl

      -- after the last item of a lane was taken
      pub take_last : (now : BinaryHeap ℕ Global) (pending' : List (Pending M)) (lane' : VecDeque M Global) (r : Option ℕ)
          → lane'.items ≡ drop 1 lane.items → deque_capacity lane' ≡ deque_capacity lane → pending' ≡ rest_of pending → deque_len lane' ≡ 0
          → (IsSome r ↔ (0 < heap_len noted)) → IfSome r (λ x. x ≡ get_or (heap_items noted) 0 x) → IfSome r (λ x. IsPermutation (heap_items noted) (x ∷ heap_items now))
          → IfSome r (λ x. PopsGreatest nat_cmp (heap_items noted) x (heap_items now)) → heap_capacity now ≡ heap_capacity noted
          → IsReady size (len - 1) priorities ranks (set lanes at lane') now pending'
      take_last now pending' lane' r items cap less none_left variant top moved pops room =
          let own = lane'.ok.0 in let there = variant.1 some in
          take_ready now pending' lane' items cap less
          (note_dropped lanes (heap_items noted) (heap_items now) at lane lane' ready.laid.notes top_within lane_used (omega arith) (popped r (heap_items noted) (heap_items now) at there top is some_noted moved))
          (still_heap r (heap_items noted) (heap_items now) there pops ready.ordered) room

module _ {M : Type 0} where
  pub lanes_more : (size n : ℕ) (lanes lanes' : List (VecDeque M Global)) (lane : VecDeque M Global) → lanes' ≡ lanes ++ lane ∷ [] → length lanes ≡ n
      → All (λ (l : VecDeque M Global). (l.items ≡ []) × (size ≤ deque_capacity l)) lanes → lane.items ≡ [] → size ≤ deque_capacity lane
      → (length lanes' ≡ n + 1) × All (λ (l : VecDeque M Global). (l.items ≡ []) × (size ≤ deque_capacity l)) lanes'
  lanes_more size n lanes lanes' lane e count each none room =
      subst (λ (ls : List (VecDeque M Global)). (length ls ≡ n + 1) × All (λ (l : VecDeque M Global). (l.items ≡ []) × (size ≤ deque_capacity l)) ls) (sym e)
      (length_push lanes lane ∙ ap (λ m. m + 1) count, All-push (λ (l : VecDeque M Global). (l.items ≡ []) × (size ≤ deque_capacity l)) lanes lane each (none, room))

  none_in_use : (lanes : List (VecDeque M Global)) → AllByRecursion (λ (lane : VecDeque M Global). lane.items ≡ []) lanes → count_by is_in_use lanes ≡ 0
  none_in_use [] h = refl
  none_in_use (lane ∷ lanes) h =
      let b = count_by-cons is_in_use lane lanes in let r = none_in_use lanes h.1 in
      let z : one_if (is_in_use lane) ≡ 0 = ap (λ (ws : List M). one_if (nat_lt 0 (length ws))) h.0 in omega arith

  -- a queue that was just made
  pub new_ready : (size : ℕ) (priorities ranks : List ℤ) (lanes : List (VecDeque M Global)) (noted : BinaryHeap ℕ Global) (pending : List (Pending M))
      → IsRanking priorities ranks → length lanes ≡ length ranks
      → All (λ (lane : VecDeque M Global). (lane.items ≡ []) × (size ≤ deque_capacity lane)) lanes
      → heap_items noted ≡ [] → IsHeap nat_cmp (heap_items noted) → length ranks ≤ heap_capacity noted → pending ≡ []
      → IsReady size 0 priorities ranks lanes noted pending
  new_ready size priorities ranks lanes noted pending ranking level each none ordered room nothing =
      subst (λ ps. IsReady size 0 priorities ranks lanes noted ps) (sym nothing) (record {
        counted = refl;
        ranking = ranking;
        laid = record {
          short = omega arith;
          level = level;
          each = each;
          ranked = λ k d h. absurd (omega arith);
          notes = subst (λ ns. AreNoted lanes ns) (sym none) (record {
            each = λ i d h. sym (ap (λ (ws : List M). min 1 (length ws)) (each i d h).0);
            within = λ k d h. absurd (omega arith);
            total = sym (none_in_use lanes (recursion_from_All (λ (lane : VecDeque M Global). lane.items ≡ []) lanes (λ i d h. (each i d h).0)));
          });
        };
        ordered = ordered;
        room = omega arith;
      })

-- what the answer that a queue is not full says of its fields
pub not_full : {M : Type 0} (b : Bool) (len : ℕ) (shown q : Contents M) → shown ≡ q → len ≡ length shown.pending → (IsTrue b ↔ (length q.pending ≡ q.size)) → b ≡ false → len ≢ shown.size
not_full b len shown q e count full below h =
    iff_false full below (ap (λ (c : Contents _). length c.pending) (sym e) ∙ sym count ∙ h ∙ ap (λ (c : Contents _). c.size) e)
