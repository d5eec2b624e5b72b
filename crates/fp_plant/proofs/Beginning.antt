-- The passes of the locks, dealt out one lock after the other, and the hands that are made of them.
use Rattle.std.proofs.Common.{◌≡◌, ◌≤◌, ◌<◌, ◌⊎◌, inl, inr, ℕ, suc, ◌+◌, false, List, [], ◌∷◌, ◌++◌, map, drop, length, slice_get, Some, refl, sym, ap, ◌∙◌, subst, arith}
use Rattle.std.specs.Prelude.{All}
use Rattle.std.proofs.lemmas.List.{length-append, length-map, map-append}
use Rattle.std.proofs.lemmas.Option.{slice_get_within}
use Rattle.fp_base.proofs.Lists.{get_last, same_items, drop_head}
use Rattle.fp_base.proofs.Options.{same_some}
use Rattle.fp_base.proofs.Spots.{item_below, push_cases}
use Rattle.fp_base.proofs.Mapped.{get_mapped}
use Rattle.fp_tables.specs.Lookup.{Described, placed}
use Rattle.fp_tables.specs.declared.program.Program.{Program}
use Rattle.fp_events.specs.declared.event.Entry.{Entry}
use Rattle.fp_events.specs.Actor.{ActorState, opened_actor}
use Rattle.fp_events.specs.Fits.{actor_count}
use Rattle.fp_actor.specs.Acting.{Acting}
use Rattle.fp_gate.specs.declared.booked.Booked.{Ghosts}
use Rattle.fp_gate.specs.declared.lock.Pass.{Pass}
use Rattle.fp_gate.specs.Locks.{LockId, IsPass, IsIdle, IsNew}
use Rattle.fp_plant.specs.declared.held.CellName.{CellName}
use Rattle.fp_plant.specs.Hands.{passing, IsHand, IsOwn}
use Rattle.fp_plant.specs.Opened.{IsNewPass, AreDealt, AreNewPasses, IsHandOf}
use Rattle.fp_plant.specs.Planted.{Passing, Handed, AreAll, IsOpened}
use Rattle.fp_plant.specs.Rows.{EachItem, HasShape, Gets}
use Rattle.fp_plant.proofs.Dealing.{shape_more, each_more, all_push}

-- the actor of a number at the opening
abbrev pub opened_acting : Described → Program → ℕ → Acting
opened_acting t p n = record { tables = t; program = p; number = n; state = record { thread = opened_actor p n; last = 0 }; trace = []; has_room = false }

abbrev opened_at : Program → ℕ → ActorState
opened_at p n = record { thread = opened_actor p n; last = 0 }

module _ {T : Type 0} {g : Ghosts T CellName Entry} (t : Described) (p : Program) where
  pub new_pass : (lock : LockId) (i count a : ℕ) (name : CellName) (x : Pass T CellName Entry g) → count ≡ actor_count t p
      → name ≡ record { tables = t; program = p; instance = i } → IsPass lock count a x × IsIdle x × IsNew name x → IsNewPass t p lock i a x
  new_pass lock i count a name x count_is name_is k = record {
    pass = subst (λ (n : ℕ). IsPass lock n a x) count_is k.0;
    idle = k.1;
    fresh = subst (λ (n : CellName). IsNew n x) name_is k.2;
  }

  pub no_lock : (rows : List (List (Pass T CellName Entry g))) (n : ℕ) → HasShape rows n 0 → n ≡ actor_count t p → AreDealt t p [] rows
  no_lock rows n shape is = record {
    shape = subst (λ (m : ℕ). HasShape rows m 0) is shape;
    each = λ a k row x at its lock i there placed_there. absurd (cc);
  }

  -- the pass of the lock and the instance at its place
  abbrev Dealt : List LockId → ℕ → ℕ → Pass T CellName Entry g → Type 0
  Dealt locks a k x = (l : LockId) (j : ℕ) → slice_get locks k ≡ Some l → slice_get (placed t) k ≡ Some j → IsNewPass t p l j a x

  pub one_lock : (locks : List LockId) (rows more : List (List (Pass T CellName Entry g))) (lock : LockId) (i : ℕ) → AreDealt t p locks rows
      → Gets (IsNewPass t p lock i) rows more → slice_get (placed t) (length locks) ≡ Some i → AreDealt t p (locks ++ lock ∷ []) more
  one_lock locks rows more lock i dealt gets at_end = record {
    shape = subst (λ (n : ℕ). HasShape more (actor_count t p) n) (sym (length-append locks (lock ∷ [])))
        (shape_more (IsNewPass t p lock i) rows more (actor_count t p) (length locks) dealt.shape gets);
    each = each_more (IsNewPass t p lock i) rows more (actor_count t p) (length locks) dealt.shape gets (Dealt (locks ++ lock ∷ [])) old_ones
        (λ a x new l j at_l at_j. subst (λ (z : LockId). IsNewPass t p z j a x) (same_some (sym (get_last locks lock) ∙ at_l))
        (subst (λ (z : ℕ). IsNewPass t p lock z a x) (same_some (sym at_end ∙ at_j)) new));
  }
    where
      old_ones : EachItem (Dealt (locks ++ lock ∷ [])) rows
      old_ones a k row x at its l j at_l at_j = go (push_cases locks lock k l at_l)
        where
          go : (slice_get locks k ≡ Some l) ⊎ ((k ≡ length locks) × (l ≡ lock)) → IsNewPass t p l j a x
          go (inl e) = dealt.each a k row x at its l j e at_j
          go (inr e) = let low : k < length row = slice_get_within row k x its in let wide : length row ≡ length locks = dealt.shape.each a row at in absurd (omega (arith, low, wide, e.0))

  -- the locks of the instances that were gone through
  pub record AreLocks {L : Type 0} (id : L → LockId) (seats : L → ℕ) (count : ℕ) (instances : List ℕ) (at : ℕ) (locks : List L) (rows : List (List (Pass T CellName Entry g))) : Type 0 where
    pub long : length locks ≡ at
    pub within : at ≤ length instances
    pub seated : All (λ (l : L). seats l ≡ count) locks
    pub dealt : AreDealt t p (map id locks) rows

  pub more_locks : {L : Type 0} (id : L → LockId) (seats : L → ℕ) (count : ℕ) (instances : List ℕ) (at i : ℕ) (locks more : List L) (lock : L) (rows new : List (List (Pass T CellName Entry g)))
      → instances ≡ placed t → AreLocks id seats count instances at locks rows → at < length instances → slice_get instances at ≡ Some i → seats lock ≡ count
      → Gets (IsNewPass t p (id lock) i) rows new → more ≡ locks ++ lock ∷ [] → AreLocks id seats count instances (at + 1) more new
  more_locks {L} id seats count instances at i locks more lock rows new are k low here seated gets is = record {
    long = ap length is ∙ (length-append locks (lock ∷ []) ∙ ap (λ (n : ℕ). n + 1) k.long);
    within = omega (arith, low);
    seated = all_push (λ (l : L). seats l ≡ count) locks lock more k.seated seated is;
    dealt = subst (λ (ls : List LockId). AreDealt t p ls new) (sym (ap (map id) is ∙ map-append id locks (lock ∷ [])))
        (one_lock (map id locks) rows new (id lock) i k.dealt gets
        (ap (slice_get (placed t)) (length-map locks id ∙ k.long) ∙ (ap (λ (ns : List ℕ). slice_get ns at) (sym are) ∙ here)));
  }

  pub rows_new : (locks : List LockId) (rows : List (List (Pass T CellName Entry g))) → AreDealt t p locks rows → length locks ≡ length (placed t)
      → (a : ℕ) (row : List (Pass T CellName Entry g)) → slice_get rows a ≡ Some row → AreNewPasses t p a row
  rows_new locks rows dealt long a row at = record {
    count = dealt.shape.each a row at ∙ long;
    each = λ k i x at_i its.
        let low : k < length row = slice_get_within row k x its in
        let wide : length row ≡ length locks = dealt.shape.each a row at in
        let lock = item_below locks k (omega (arith, low, wide)) in
        (lock.0, dealt.each a k row x at its lock.0 i lock.1 at_i);
  }

  -- a hand of new passes, and of an actor at the opening
  pub new_hand : (a : ℕ) (row : List (Pass T CellName Entry g)) (actor : Acting) → AreNewPasses t p a row → actor ≡ opened_acting t p a
      → IsHand (record { actor = actor; passes = map (λ x. passing x) row })
  new_hand a row actor new is = subst (λ (b : Acting). IsHand (record { actor = b; passes = map (λ x. passing x) row })) (sym is) (record {
    told = refl;
    count = length-map row (λ x. passing x) ∙ new.count;
    own = λ k i q at its.
        let x = get_mapped (λ x. passing x) row k q its in
        let n = new.each k i x.0 at x.1 in
        subst (IsOwn (opened_acting t p a) i) x.2 (record { number = n.1.pass.1; made = n.1.pass.2; name = n.1.fresh.0; left = n.1.fresh.1 });
  })

  pub all_idle : (a : ℕ) (row : List (Pass T CellName Entry g)) → AreNewPasses t p a row → (k : ℕ) (x : Pass T CellName Entry g) → slice_get row k ≡ Some x → IsIdle x
  all_idle a row new k x its =
      let low : k < length row = slice_get_within row k x its in
      let i = item_below (placed t) k (omega (arith, low, new.count)) in
      (new.each k i.0 x i.1 its).1.idle

  -- the hands that were made so far, and the rows that are left
  pub record AreHandedOut (rows : List (List (Pass T CellName Entry g))) (number : ℕ) (rest : List (List (Pass T CellName Entry g))) (hands : List Handed) : Type 0 where
    pub left : drop number rows ≡ rest
    pub within : number + length rest ≡ length rows
    pub count : length hands ≡ number
    pub each : (a : ℕ) (row : List (Pass T CellName Entry g)) (h : Handed) → slice_get rows a ≡ Some row → slice_get hands a ≡ Some h → IsHandOf t p a row h

  pub no_hand : (rows : List (List (Pass T CellName Entry g))) → AreHandedOut rows 0 rows []
  no_hand rows = record { left = refl; within = omega arith; count = refl; each = λ a row h at its. absurd (cc) }

  pub next_row : (rows : List (List (Pass T CellName Entry g))) (number : ℕ) (row : List (Pass T CellName Entry g)) (all rest : List (List (Pass T CellName Entry g))) (hands : List Handed)
      → AreHandedOut rows number all hands → all ≡ row ∷ rest → slice_get rows number ≡ Some row
  next_row rows number row all rest hands out is = (drop_head rows number row rest (out.left ∙ is)).0

  pub one_hand : (rows : List (List (Pass T CellName Entry g))) (number : ℕ) (row : List (Pass T CellName Entry g)) (all rest : List (List (Pass T CellName Entry g))) (hands more : List Handed) (h : Handed)
      → AreHandedOut rows number all hands → all ≡ row ∷ rest → IsHandOf t p number row h → more ≡ hands ++ h ∷ [] → AreHandedOut rows (number + 1) rest more
  one_hand rows number row all rest hands more h out is hand more_is =
      let long : length all ≡ length (row ∷ rest) = ap length is in
      let head = drop_head rows number row rest (out.left ∙ is) in
      let on : suc number ≡ number + 1 = omega arith in
      record {
        left = ap (λ (n : ℕ). drop n rows) (sym on) ∙ sym head.1;
        within = omega (arith, long, out.within);
        count = ap length more_is ∙ (length-append hands (h ∷ []) ∙ ap (λ (n : ℕ). n + 1) out.count);
        each = λ a its_row its at there. go a its_row its at (push_cases hands h a its (subst (λ (z : List Handed). slice_get z a ≡ Some its) more_is there));
      }
    where
      go : (a : ℕ) (its_row : List (Pass T CellName Entry g)) (its : Handed) → slice_get rows a ≡ Some its_row
          → (slice_get hands a ≡ Some its) ⊎ ((a ≡ length hands) × (its ≡ h)) → IsHandOf t p a its_row its
      go a its_row its at (inl e) = out.each a its_row its at e
      go a its_row its at (inr e) =
          let a_is : a ≡ number = e.0 ∙ out.count in
          let row_is : row ≡ its_row = same_some (sym (next_row rows number row all rest hands out is) ∙ (ap (slice_get rows) (sym a_is) ∙ at)) in
          subst (λ (n : ℕ). IsHandOf t p n its_row its) (sym a_is)
          (subst (λ (z : List (Pass T CellName Entry g)). IsHandOf t p number z its) row_is (subst (λ (z : Handed). IsHandOf t p number row z) (sym e.1) hand))

  -- all hands, in order
  module _ (locks : List LockId) (rows : List (List (Pass T CellName Entry g))) (hands : List Handed) (dealt : AreDealt t p locks rows) (long : length locks ≡ length (placed t))
      (each : (a : ℕ) (row : List (Pass T CellName Entry g)) (h : Handed) → slice_get rows a ≡ Some row → slice_get hands a ≡ Some h → IsHandOf t p a row h)
      (count : length hands ≡ length rows) where
    row_of : (a : ℕ) (h : Handed) → slice_get hands a ≡ Some h → (row : List (Pass T CellName Entry g)) × (slice_get rows a ≡ Some row) × IsHandOf t p a row h
    row_of a h at =
        let low : a < length hands = slice_get_within hands a h at in
        let row = item_below rows a (omega (arith, low, count)) in
        (row.0, row.1, each a row.0 h row.1 at)

    the_locks : (a : ℕ) (row : List (Pass T CellName Entry g)) → slice_get rows a ≡ Some row → map (λ (q : Passing). q.lock) (map (λ x. passing x) row) ≡ locks
    the_locks a row at =
        same_items (map (λ (q : Passing). q.lock) (map (λ x. passing x) row)) locks
        (length-map (map (λ x. passing x) row) (λ (q : Passing). q.lock) ∙ (length-map row (λ x. passing x) ∙ dealt.shape.each a row at))
        (λ k l m at_l at_m.
        let q = get_mapped (λ (q : Passing). q.lock) (map (λ x. passing x) row) k l at_l in
        let x = get_mapped (λ x. passing x) row k q.0 q.1 in
        let low : k < length locks = slice_get_within locks k m at_m in
        let i = item_below (placed t) k (omega (arith, low, long)) in
        let new : IsNewPass t p m i.0 a x.0 = dealt.each a k row x.0 at x.1 m i.0 at_m i.1 in
        sym q.2 ∙ (ap (λ (z : Passing). z.lock) (sym x.2) ∙ new.pass.0))

    pub are_all : AreAll (record { tables = t; program = p; locks = locks }) hands
    are_all = record {
      count = count ∙ dealt.shape.count;
      each = λ a h at.
          let r = row_of a h at in (
            record {
              tables = ap (λ (b : Acting). b.tables) r.2.actor;
              program = ap (λ (b : Acting). b.program) r.2.actor;
              locks = ap (map (λ (q : Passing). q.lock)) r.2.passes ∙ the_locks a r.0 r.1;
            },
            ap (λ (b : Acting). b.number) r.2.actor,
          );
    }

    pub are_opened : (a : ℕ) (h : Handed) → slice_get hands a ≡ Some h → IsOpened h
    are_opened a h at =
        let r = row_of a h at in
        record {
          state = ap (λ (b : Acting). b.state) r.2.actor
              ∙ (ap (λ (z : Program). opened_at z a) (sym (ap (λ (b : Acting). b.program) r.2.actor)) ∙ ap (λ (n : ℕ). opened_at h.actor.program n) (sym (ap (λ (b : Acting). b.number) r.2.actor)));
          trace = ap (λ (b : Acting). b.trace) r.2.actor;
          passes = λ k q its.
              let x = get_mapped (λ x. passing x) r.0 k q (subst (λ (z : List Passing). slice_get z k ≡ Some q) r.2.passes its) in
              let low : k < length r.0 = slice_get_within r.0 k x.0 x.1 in
              let wide : length r.0 ≡ length locks = dealt.shape.each a r.0 r.1 in
              let lock = item_below locks k (omega (arith, low, wide)) in
              let i = item_below (placed t) k (omega (arith, low, wide, long)) in
              let new : IsNewPass t p lock.0 i.0 a x.0 = dealt.each a k r.0 x.0 r.1 x.1 lock.0 i.0 lock.1 i.1 in
              subst (λ (z : Passing). (z.view.left ≡ []) × (z.view.base ≡ []) × (z.view.turns ≡ 0)) x.2 (new.fresh.1, new.fresh.2, new.fresh.3);
        }
