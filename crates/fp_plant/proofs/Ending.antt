-- Hands taken apart, locks closed, and the records that they give.
use Rattle.std.proofs.Common.{◌≡◌, ◌<◌, ◌⊎◌, inl, inr, ℕ, zero, suc, ◌+◌, List, [], ◌∷◌, ◌++◌, map, drop, take, length, slice_get, Some, option_map, refl, sym, ap, ◌∙◌, subst, arith}
use Rattle.std.specs.Prelude.{All}
use Rattle.std.proofs.Math.Nat.{eq-or-lt_of_le}
use Rattle.std.proofs.lemmas.List.{length-append, length-map, map-append, take_all}
use Rattle.std.proofs.lemmas.Option.{slice_get-map, slice_get_within}
use Rattle.std.proofs.lemmas.Slice.Zip.{firsts-zip}
use Rattle.fp_base.proofs.Lists.{take_next, same_items, drop_head}
use Rattle.fp_base.proofs.Options.{same_some}
use Rattle.fp_base.proofs.Spots.{item_below, push_cases}
use Rattle.fp_base.proofs.Mapped.{get_mapped}
use Rattle.fp_events.specs.SystemRun.{Kept}
use Rattle.fp_tables.specs.Lookup.{Described, placed}
use Rattle.fp_tables.specs.declared.program.Program.{Program}
use Rattle.fp_events.specs.declared.event.Entry.{Entry}
use Rattle.fp_events.specs.Fits.{actor_count}
use Rattle.fp_events.specs.Step.{core}
use Rattle.fp_events.specs.Run.{IsKept, IsTold}
use Rattle.fp_actor.specs.Acting.{Acting}
use Rattle.fp_gate.specs.declared.booked.Booked.{Ghosts}
use Rattle.fp_gate.specs.declared.booked.Entry.{Entry as Left}
use Rattle.fp_gate.specs.declared.lock.Pass.{Pass}
use Rattle.fp_gate.specs.declared.lock.TicketLock.{TicketLock}
use Rattle.fp_gate.specs.Entries.{entries_of}
use Rattle.fp_gate.specs.Locks.{LockId, id_of, seats_of, lock_of, view_of, IsPass, IsIdle}
use Rattle.fp_gate.specs.Passes.{EachAt, made_at}
use Rattle.fp_gate.proofs.Entries.{entries_of-map}
use Rattle.fp_run_laws.specs.Seen.{IsTimed, entries, seen_by, seen_at, with_stamps, AreSeen}
use Rattle.fp_plant.specs.declared.held.CellName.{CellName}
use Rattle.fp_plant.specs.Closed.{WasHeld, WasClosed, IsOf, MayClose}
use Rattle.fp_plant.specs.Hands.{passing, IsHand, IsOwn}
use Rattle.fp_plant.specs.Noted.{NotedCell, IsNoted, noted, with_seen, booked, cell_name}
use Rattle.fp_plant.specs.Planted.{Passing, Handed, Planted, AreAll}
use Rattle.fp_plant.specs.Rows.{EachItem, HasShape, Extends, Gets}
use Rattle.fp_plant.proofs.Dealing.{shape_more, each_more, at_get, get_at, all_get, gets_of}

-- ---- a cell whose passes have come back

-- what a pass left tells which entries they are
abbrev unnoted : Left Entry → Entry × ℕ
unnoted e = (e.item, e.seen)

same_noted : (ps qs : List (Entry × ℕ)) → map noted ps ≡ map noted qs → ps ≡ qs
same_noted ps qs same = sym (back ps) ∙ (ap (map unnoted) same ∙ back qs)
  where
    back : (xs : List (Entry × ℕ)) → map unnoted (map noted xs) ≡ xs
    back [] = refl
    back (x ∷ xs) = ap (λ l. x ∷ l) (back xs)

pub as_many_passes : (w : Planted) (hands : List Handed) → AreAll w hands → (a : ℕ) (h : Handed) → slice_get hands a ≡ Some h → length h.passes ≡ length w.locks
as_many_passes w hands all a h at = sym (length-map h.passes (λ (q : Passing). q.lock)) ∙ ap length (all.each a h at).0.locks

-- where each item has one that goes with it, there is a list of these
choose : {X Y : Type 0} (P : ℕ → X → Y → Type 0) (xs : List X) → ((k : ℕ) (x : X) → slice_get xs k ≡ Some x → (y : Y) × P k x y)
    → (ys : List Y) × (length ys ≡ length xs) × ((k : ℕ) (x : X) (y : Y) → slice_get xs k ≡ Some x → slice_get ys k ≡ Some y → P k x y)
choose P [] h = ([], refl, λ k x y at its. absurd (cc))
choose {X} {Y} P (x ∷ xs) h = go (h zero x refl) (choose (λ k. P (suc k)) xs (λ k y e. h (suc k) y e))
  where
    go : (y : Y) × P zero x y
        → (ys : List Y) × (length ys ≡ length xs) × ((k : ℕ) (z : X) (y : Y) → slice_get xs k ≡ Some z → slice_get ys k ≡ Some y → P (suc k) z y)
        → (ys : List Y) × (length ys ≡ suc (length xs)) × ((k : ℕ) (z : X) (y : Y) → slice_get (x ∷ xs) k ≡ Some z → slice_get ys k ≡ Some y → P k z y)
    go first rest = (first.0 ∷ rest.0, ap suc rest.1, each)
      where
        each : (k : ℕ) (z : X) (y : Y) → slice_get (x ∷ xs) k ≡ Some z → slice_get (first.0 ∷ rest.0) k ≡ Some y → P k z y
        each zero z y at its = subst (λ (u : X). P zero u y) (same_some at) (subst (λ (v : Y). P zero x v) (same_some its) first.1)
        each (suc k) z y at its = rest.2 k z y at its

module _ {T : Type 0} {g : Ghosts T CellName Entry} where
  pub was_closed : (passes : List (Pass T CellName Entry g)) (h : NotedCell) (history : List Entry) → IsNoted h → history ≡ h.cell.history
      → EachAt (λ a p. ((view_of p).name ≡ Some (cell_name h.cell.seat)) × (entries_of a (booked h) ≡ (view_of p).left)) passes
      → WasClosed (map (λ p. passing p) passes) history
  was_closed passes h history known is closes a q name at named = (with_seen h, subst (λ (n : CellName). WasHeld n.tables n.program n.instance (map (λ p. passing p) passes) history (with_seen h)) name_is held)
    where
      closes_at : (b : ℕ) (z : Passing) → slice_get (map (λ p. passing p) passes) b ≡ Some z → (z.view.name ≡ Some (cell_name h.cell.seat)) × (entries_of b (booked h) ≡ z.view.left)
      closes_at b z at_b =
          let x = get_mapped (λ p. passing p) passes b z at_b in
          subst (λ (y : Passing). (y.view.name ≡ Some (cell_name h.cell.seat)) × (entries_of b (booked h) ≡ y.view.left)) x.2
          (at_get (λ c p. ((view_of p).name ≡ Some (cell_name h.cell.seat)) × (entries_of c (booked h) ≡ (view_of p).left)) passes b x.0 closes x.1)

      name_is : cell_name h.cell.seat ≡ name
      name_is = same_some (sym (closes_at a q at).0 ∙ named)

      entries_are : entries (with_seen h) ≡ history
      entries_are = firsts-zip h.cell.history h.seen (sym known.count) ∙ sym is

      held : WasHeld h.cell.seat.tables h.cell.seat.program h.cell.seat.instance (map (λ p. passing p) passes) history (with_seen h)
      held = record {
        history_is = entries_are;
        timed = known.timed;
        kept = (h.cell.state, subst (λ (es : List Entry). Kept (core h.cell.seat.tables h.cell.seat.program) h.cell.seat.instance es h.cell.state) (sym is) known.kept);
        left = λ b z at_b. sym (entries_of-map b noted (with_seen h)) ∙ (closes_at b z at_b).1;
      }

  -- ---- a hand taken apart

  pub dealt_of : (items xs : List (Pass T CellName Entry g)) (actor : Acting) (h : Handed) (old new : List (List (Pass T CellName Entry g)))
      → ◌≡◌ {A = Handed} (record { actor = actor; passes = map (λ p. passing p) items }) h → All (λ p. IsIdle p) items → xs ≡ items → length h.passes ≡ length old → Extends old xs new → Gets (IsOf h) old new
  dealt_of items xs actor h old new is idle same long more =
      gets_of (IsOf h) old xs new (ap length same ∙ (sym (length-map items (λ p. passing p)) ∙ (ap (λ (z : Handed). length z.passes) is ∙ long))) more
      (λ k x at.
      let here : slice_get items k ≡ Some x = ap (λ (l : List (Pass T CellName Entry g)). slice_get l k) (sym same) ∙ at in (
        all_get (λ p. IsIdle p) items k x idle here,
        ap (λ (z : Handed). slice_get z.passes k) (sym is) ∙ (slice_get-map (λ p. passing p) items k ∙ ap (option_map (λ p. passing p)) here),
      ))

  -- ---- all hands taken apart

  pub record AreTaken (old : List (List (Pass T CellName Entry g))) (hands rest : List Handed) (traces : List (List Entry)) (columns : List (List (Pass T CellName Entry g))) : Type 0 where
    pub done : ℕ
    pub left : drop done hands ≡ rest
    pub within : done + length rest ≡ length hands
    pub traces_are : traces ≡ map (λ (h : Handed). h.actor.trace) (take done hands)
    pub known : (a : ℕ) (h : Handed) → a < done → slice_get hands a ≡ Some h → IsHand h
    pub shape : HasShape columns (length old) done
    pub each : EachItem (λ k a p. (h : Handed) → slice_get hands a ≡ Some h → IsOf h k p) columns

  pub none_taken : (old : List (List (Pass T CellName Entry g))) (hands : List Handed) → HasShape old (length old) 0 → AreTaken old hands hands [] old
  none_taken old hands shape = record {
    done = 0;
    left = refl;
    within = omega arith;
    traces_are = refl;
    known = λ a h low at. absurd (omega (arith, low));
    shape = shape;
    each = λ k a column x at its h there. let low : a < length column = slice_get_within column a x its in absurd (omega (arith, low, shape.each k column at));
  }

  module _ (old : List (List (Pass T CellName Entry g))) (hands all rest : List Handed) (traces : List (List Entry)) (columns : List (List (Pass T CellName Entry g))) (h : Handed)
      (taken : AreTaken old hands all traces columns) (is : all ≡ h ∷ rest) where
    pub here_it_is : slice_get hands taken.done ≡ Some h
    here_it_is = (drop_head hands taken.done h rest (taken.left ∙ is)).0

    pub as_wide : ((a : ℕ) (h : Handed) → slice_get hands a ≡ Some h → length h.passes ≡ length old) → length h.passes ≡ length columns
    as_wide wide = wide taken.done h here_it_is ∙ sym taken.shape.count

    pub one_taken : (more : List (List (Pass T CellName Entry g))) (more_traces : List (List Entry)) → IsHand h → Gets (IsOf h) columns more → more_traces ≡ traces ++ h.actor.trace ∷ []
        → AreTaken old hands rest more_traces more
    one_taken more more_traces hand gets traces_more =
        let long : length all ≡ length (h ∷ rest) = ap length is in
        let head = drop_head hands taken.done h rest (taken.left ∙ is) in
        let on : suc taken.done ≡ taken.done + 1 = omega arith in
        record {
          done = taken.done + 1;
          left = ap (λ (n : ℕ). drop n hands) (sym on) ∙ sym head.1;
          within = omega (arith, long, taken.within);
          traces_are = traces_more
              ∙ (ap (λ (l : List (List Entry)). l ++ h.actor.trace ∷ []) taken.traces_are
              ∙ (sym (map-append (λ (x : Handed). x.actor.trace) (take taken.done hands) (h ∷ [])) ∙ ap (map (λ (x : Handed). x.actor.trace)) (sym (take_next hands taken.done h head.0))));
          known = λ a x low at. go a x at (eq-or-lt_of_le (omega (arith, low)));
          shape = shape_more (IsOf h) columns more (length old) taken.done taken.shape gets;
          each = each_more (IsOf h) columns more (length old) taken.done taken.shape gets (λ k a p. (x : Handed) → slice_get hands a ≡ Some x → IsOf x k p) taken.each
              (λ k p its x at. subst (λ (z : Handed). IsOf z k p) (same_some (sym head.0 ∙ at)) its);
        }
      where
        go : (a : ℕ) (x : Handed) → slice_get hands a ≡ Some x → (a ≡ taken.done) ⊎ (a < taken.done) → IsHand x
        go a x at (inl e) = subst IsHand (same_some (sym here_it_is ∙ (ap (slice_get hands) (sym e) ∙ at))) hand
        go a x at (inr low) = taken.known a x low at

  module _ (old : List (List (Pass T CellName Entry g))) (hands rest : List Handed) (traces : List (List Entry)) (columns : List (List (Pass T CellName Entry g)))
      (taken : AreTaken old hands rest traces columns) (none : length rest ≡ 0) where
    all_done : taken.done ≡ length hands
    all_done = omega (arith, none, taken.within)

    pub its_traces : traces ≡ map (λ (h : Handed). h.actor.trace) hands
    its_traces = taken.traces_are ∙ ap (map (λ (h : Handed). h.actor.trace)) (take_all taken.done hands (omega (arith, all_done)))

    pub all_known : (a : ℕ) (h : Handed) → slice_get hands a ≡ Some h → IsHand h
    all_known a h at = let low : a < length hands = slice_get_within hands a h at in taken.known a h (omega (arith, low, all_done)) at

    pub its_shape : HasShape columns (length old) (length hands)
    its_shape = subst (HasShape columns (length old)) all_done taken.shape

  -- ---- all locks closed

  pub record AreClosed (locks : List (TicketLock T CellName Entry)) (columns : List (List (Pass T CellName Entry g))) (locks_left : List (TicketLock T CellName Entry))
      (columns_left : List (List (Pass T CellName Entry g))) (histories : List (List Entry)) : Type 0 where
    pub locks_are : drop (length histories) locks ≡ locks_left
    pub columns_are : drop (length histories) columns ≡ columns_left
    pub within : length histories + length locks_left ≡ length locks
    pub as_many : length histories + length columns_left ≡ length locks
    pub each : (k : ℕ) (passes : List (Pass T CellName Entry g)) (history : List Entry) → slice_get columns k ≡ Some passes → slice_get histories k ≡ Some history
        → WasClosed (map (λ p. passing p) passes) history

  pub none_closed : (locks : List (TicketLock T CellName Entry)) (columns : List (List (Pass T CellName Entry g))) → length columns ≡ length locks → AreClosed locks columns locks columns []
  none_closed locks columns long = record {
    locks_are = refl;
    columns_are = refl;
    within = omega arith;
    as_many = omega (arith, long);
    each = λ k passes history at its. absurd (cc);
  }

  module _ (locks all_locks locks_left : List (TicketLock T CellName Entry)) (columns all_columns columns_left : List (List (Pass T CellName Entry g))) (histories : List (List Entry))
      (lock : TicketLock T CellName Entry) (passes : List (Pass T CellName Entry g)) (closed : AreClosed locks columns all_locks all_columns histories) (is : all_locks ≡ lock ∷ locks_left) where
    pub lock_here : slice_get locks (length histories) ≡ Some lock
    lock_here = (drop_head locks (length histories) lock locks_left (closed.locks_are ∙ is)).0

    module _ (has : all_columns ≡ passes ∷ columns_left) where
      pub column_here : slice_get columns (length histories) ≡ Some passes
      column_here = (drop_head columns (length histories) passes columns_left (closed.columns_are ∙ has)).0

      pub one_closed : (more : List (List Entry)) (history : List Entry) → WasClosed (map (λ p. passing p) passes) history → more ≡ histories ++ history ∷ []
          → AreClosed locks columns locks_left columns_left more
      one_closed more history was more_is =
          let a : length all_columns ≡ length (passes ∷ columns_left) = ap length has in
          let b : length all_locks ≡ length (lock ∷ locks_left) = ap length is in
          let n : length more ≡ length histories + 1 = ap length more_is ∙ length-append histories (history ∷ []) in
          let on : suc (length histories) ≡ length more = omega (arith, n) in
          record {
            locks_are = ap (λ (k : ℕ). drop k locks) (sym on) ∙ sym (drop_head locks (length histories) lock locks_left (closed.locks_are ∙ is)).1;
            columns_are = ap (λ (k : ℕ). drop k columns) (sym on) ∙ sym (drop_head columns (length histories) passes columns_left (closed.columns_are ∙ has)).1;
            within = omega (arith, b, n, closed.within);
            as_many = omega (arith, a, n, closed.as_many);
            each = λ k its h at there. go k its h at (push_cases histories history k h (subst (λ (z : List (List Entry)). slice_get z k ≡ Some h) more_is there));
          }
        where
          go : (k : ℕ) (its : List (Pass T CellName Entry g)) (h : List Entry) → slice_get columns k ≡ Some its → (slice_get histories k ≡ Some h) ⊎ ((k ≡ length histories) × (h ≡ history))
              → WasClosed (map (λ p. passing p) its) h
          go k its h at (inl e) = closed.each k its h at e
          go k its h at (inr e) =
              let its_is : passes ≡ its = same_some (sym column_here ∙ (ap (slice_get columns) (sym e.0) ∙ at)) in
              subst (λ (z : List (Pass T CellName Entry g)). WasClosed (map (λ p. passing p) z) h) its_is
              (subst (λ (z : List Entry). WasClosed (map (λ p. passing p) passes) z) (sym e.1) was)

  -- ---- what the passes of all hands are to the locks

  module _ (w : Planted) (hands : List Handed) (all : AreAll w hands) (known : (a : ℕ) (h : Handed) → slice_get hands a ≡ Some h → IsHand h)
      (columns : List (List (Pass T CellName Entry g))) (shape : HasShape columns (length w.locks) (length hands))
      (each : EachItem (λ k a p. (h : Handed) → slice_get hands a ≡ Some h → IsOf h k p) columns) (placed_all : length w.locks ≡ length (placed w.tables)) where
    -- the hand of a pass
    hand_at : (k a : ℕ) (column : List (Pass T CellName Entry g)) (x : Pass T CellName Entry g) → slice_get columns k ≡ Some column → slice_get column a ≡ Some x
        → (h : Handed) × (slice_get hands a ≡ Some h) × IsOf h k x
    hand_at k a column x at its =
        let low : a < length column = slice_get_within column a x its in
        let h = item_below hands a (omega (arith, low, shape.each k column at)) in
        (h.0, h.1, each k a column x at its h.0 h.1)

    -- its own, of the instance at its place
    owned : (k a i : ℕ) (h : Handed) (x : Pass T CellName Entry g) → slice_get hands a ≡ Some h → slice_get (placed w.tables) k ≡ Some i → IsOf h k x → IsOwn h.actor i (passing x)
    owned k a i h x at_h at_i of =
        (known a h at_h).own k i (passing x) (subst (λ (t : Described). slice_get (placed t) k ≡ Some i) (sym (all.each a h at_h).0.tables) at_i) of.1

    lock_is : (k a : ℕ) (h : Handed) (x : Pass T CellName Entry g) (l : LockId) → slice_get hands a ≡ Some h → IsOf h k x → slice_get w.locks k ≡ Some l → lock_of x ≡ l
    lock_is k a h x l at_h of at_l =
        let found : slice_get (map (λ (q : Passing). q.lock) h.passes) k ≡ Some (lock_of x) =
        slice_get-map (λ (q : Passing). q.lock) h.passes k ∙ ap (option_map (λ (q : Passing). q.lock)) of.1 in
        same_some (sym found ∙ (ap (λ (ls : List LockId). slice_get ls k) (all.each a h at_h).0.locks ∙ at_l))

    pub may_close : (k : ℕ) (lock : TicketLock T CellName Entry) (column : List (Pass T CellName Entry g)) → slice_get w.locks k ≡ Some (id_of lock)
        → seats_of lock ≡ actor_count w.tables w.program → slice_get columns k ≡ Some column → MayClose lock column
    may_close k lock column at_l seats at = record {
      count = shape.each k column at ∙ (all.count ∙ sym seats);
      each = get_at (λ a p. IsPass (id_of lock) (seats_of lock) a p × IsIdle p) column (λ a x its.
          let h = hand_at k a column x at its in
          let low : k < length w.locks = slice_get_within w.locks k (id_of lock) at_l in
          let i = item_below (placed w.tables) k (omega (arith, low, placed_all)) in
          let own = owned k a i.0 h.0 x h.1 i.1 h.2 in
          let number : h.0.actor.number ≡ a = (all.each a h.0 h.1).1 in
          let made : made_at (actor_count h.0.actor.tables h.0.actor.program) h.0.actor.number ≡ made_at (seats_of lock) a =
          ap (λ (t : Described). made_at (actor_count t h.0.actor.program) h.0.actor.number) (all.each a h.0 h.1).0.tables
          ∙ (ap (λ (p : Program). made_at (actor_count w.tables p) h.0.actor.number) (all.each a h.0 h.1).0.program
          ∙ (ap (λ (n : ℕ). made_at (actor_count w.tables w.program) n) number ∙ ap (λ (n : ℕ). made_at n a) (sym seats))) in
          ((lock_is k a h.0 x (id_of lock) h.1 h.2 at_l, own.number ∙ number, own.made ∙ made), h.2.0));
    }

    -- ---- the records

    module _ (some_actor : 0 < actor_count w.tables w.program) (histories : List (List Entry)) (count : length histories ≡ length w.locks)
        (closed : (k : ℕ) (passes : List (Pass T CellName Entry g)) (history : List Entry) → slice_get columns k ≡ Some passes → slice_get histories k ≡ Some history
        → WasClosed (map (λ p. passing p) passes) history) where
      -- what is known of the history at a place
      record AtPlace (k : ℕ) (history : List Entry) (ps : List (Entry × ℕ)) : Type 0 where
        history_is : entries ps ≡ history
        timed : IsTimed ps
        kept : (i : ℕ) → slice_get (placed w.tables) k ≡ Some i → IsKept w.tables w.program i history
        left : (i a : ℕ) (h : Handed) → slice_get (placed w.tables) k ≡ Some i → slice_get hands a ≡ Some h → seen_by a ps ≡ seen_at i (with_stamps h.actor.trace)

      at_place : (k : ℕ) (history : List Entry) → slice_get histories k ≡ Some history → (ps : List (Entry × ℕ)) × AtPlace k history ps
      at_place k history at =
          let low : k < length histories = slice_get_within histories k history at in
          let i = item_below (placed w.tables) k (omega (arith, low, count, placed_all)) in
          let column = item_below columns k (omega (arith, low, count, shape.count)) in
          let wide : length column.0 ≡ length hands = shape.each k column.0 column.1 in
          let first = item_below column.0 0 (omega (arith, wide, all.count, some_actor)) in
          let h = hand_at k 0 column.0 first.0 column.1 first.1 in
          let own = owned k 0 i.0 h.0 first.0 h.1 i.1 h.2 in
          let held = closed k column.0 history column.1 at 0 (passing first.0) _ (slice_get-map (λ p. passing p) column.0 0 ∙ ap (option_map (λ p. passing p)) first.1) own.name in (
            held.0,
            record {
              history_is = held.1.history_is;
              timed = held.1.timed;
              kept = λ j at_j.
                  let its = all.each 0 h.0 h.1 in
                  let at_i : IsKept w.tables w.program i.0 history =
                  subst (λ (t : Described). IsKept t w.program i.0 history) its.0.tables
                  (subst (λ (p : Program). IsKept h.0.actor.tables p i.0 history) its.0.program held.1.kept) in
                  subst (λ (n : ℕ). IsKept w.tables w.program n history) (same_some (sym i.1 ∙ at_j)) at_i;
              left = λ j a x at_j at_x.
                  let low_a : a < length hands = slice_get_within hands a x at_x in
                  let pass = item_below column.0 a (omega (arith, low_a, wide)) in
                  let of = each k a column.0 pass.0 column.1 pass.1 x at_x in
                  same_noted (seen_by a held.0) (seen_at j (with_stamps x.actor.trace))
                  (held.1.left a (passing pass.0) (slice_get-map (λ p. passing p) column.0 a ∙ ap (option_map (λ p. passing p)) pass.1) ∙ (owned k a j x pass.0 at_x at_j of).left);
            },
          )

      pub are_seen : (traces : List (List Entry)) → traces ≡ map (λ (h : Handed). h.actor.trace) hands
          → (held : List (List (Entry × ℕ))) × AreSeen w.tables w.program held traces × (map entries held ≡ histories)
      are_seen traces traces_are = (held.0, seen, listed)
        where
          held : (held : List (List (Entry × ℕ))) × (length held ≡ length histories)
              × ((k : ℕ) (history : List Entry) (ps : List (Entry × ℕ)) → slice_get histories k ≡ Some history → slice_get held k ≡ Some ps → AtPlace k history ps)
          held = choose AtPlace histories at_place

          here : (k : ℕ) (ps : List (Entry × ℕ)) → slice_get held.0 k ≡ Some ps → (history : List Entry) × AtPlace k history ps
          here k ps at =
              let low : k < length held.0 = slice_get_within held.0 k ps at in
              let history = item_below histories k (omega (arith, low, held.1)) in
              (history.0, held.2 k history.0 ps history.1 at)

          listed : map entries held.0 ≡ histories
          listed = same_items (map entries held.0) histories (length-map held.0 entries ∙ held.1) (λ k x y at_x at_y.
              let ps = get_mapped entries held.0 k x at_x in sym ps.2 ∙ (held.2 k y ps.0 at_y ps.1).history_is)

          its_hand : (a : ℕ) (es : List Entry) → slice_get traces a ≡ Some es → (h : Handed) × (slice_get hands a ≡ Some h) × (h.actor.trace ≡ es)
          its_hand a es at = get_mapped (λ (h : Handed). h.actor.trace) hands a es (ap (λ (l : List (List Entry)). slice_get l a) (sym traces_are) ∙ at)

          told_by : (a : ℕ) (es : List Entry) → slice_get traces a ≡ Some es → IsTold w.tables w.program a es
          told_by a es at =
              let h = its_hand a es at in
              let its = all.each a h.0 h.1 in
              let told : IsTold h.0.actor.tables h.0.actor.program h.0.actor.number h.0.actor.trace = (h.0.actor.state, (known a h.0 h.1).told) in
              subst (λ (l : List Entry). IsTold w.tables w.program a l) h.2
              (subst (λ (n : ℕ). IsTold w.tables w.program n h.0.actor.trace) its.1
              (subst (λ (p : Program). IsTold w.tables p h.0.actor.number h.0.actor.trace) its.0.program
              (subst (λ (t : Described). IsTold t h.0.actor.program h.0.actor.number h.0.actor.trace) its.0.tables told)))

          seen : AreSeen w.tables w.program held.0 traces
          seen = record {
            instances = held.1 ∙ (count ∙ placed_all);
            actors = ap length traces_are ∙ (length-map hands (λ (h : Handed). h.actor.trace) ∙ all.count);
            timed = λ k ps at. (here k ps at).1.timed;
            kept = λ k i ps at_i at. let x = here k ps at in subst (IsKept w.tables w.program i) (sym x.1.history_is) (x.1.kept i at_i);
            told = told_by;
            left = λ k i a ps es at_i at at_es.
                let h = its_hand a es at_es in
                (here k ps at).1.left i a h.0 at_i h.1 ∙ ap (λ (l : List Entry). seen_at i (with_stamps l)) h.2;
          }

  -- ---- the locks of a plant, and all its hands, taken apart

  module _ (t : Described) (program : Program) (locks : List (TicketLock T CellName Entry)) (hands : List Handed)
      (all : AreAll (record { tables = t; program = program; locks = map (λ l. id_of l) locks }) hands) (known : (a : ℕ) (h : Handed) → slice_get hands a ≡ Some h → IsHand h)
      (columns : List (List (Pass T CellName Entry g))) (high : ℕ) (shape : HasShape columns high (length hands)) (as_high : high ≡ length locks)
      (each : EachItem (λ k a p. (h : Handed) → slice_get hands a ≡ Some h → IsOf h k p) columns) (placed_all : length locks ≡ length (placed t)) where
    abbrev its_plant : Planted
    its_plant = record { tables = t; program = program; locks = map (λ l. id_of l) locks }

    as_many_locks : length (map (λ l. id_of l) locks) ≡ length locks
    as_many_locks = length-map locks (λ l. id_of l)

    full : HasShape columns (length (map (λ l. id_of l) locks)) (length hands)
    full = subst (λ (n : ℕ). HasShape columns n (length hands)) (as_high ∙ sym as_many_locks) shape

    pub each_may_close : All (λ l. seats_of l ≡ actor_count t program) locks → (k : ℕ) (lock : TicketLock T CellName Entry) (passes : List (Pass T CellName Entry g))
        → slice_get locks k ≡ Some lock → slice_get columns k ≡ Some passes → MayClose lock passes
    each_may_close seats k lock passes at its =
        may_close its_plant hands all known columns full each (as_many_locks ∙ placed_all) k lock passes
        (slice_get-map (λ l. id_of l) locks k ∙ ap (option_map (λ l. id_of l)) at) (all_get (λ l. seats_of l ≡ actor_count t program) locks k lock seats at) its

    pub all_seen : 0 < actor_count t program → (histories : List (List Entry)) → length histories ≡ length locks
        → ((k : ℕ) (passes : List (Pass T CellName Entry g)) (history : List Entry) → slice_get columns k ≡ Some passes → slice_get histories k ≡ Some history
        → WasClosed (map (λ p. passing p) passes) history) → (traces : List (List Entry)) → traces ≡ map (λ (h : Handed). h.actor.trace) hands
        → (held : List (List (Entry × ℕ))) × AreSeen t program held traces × (map entries held ≡ histories)
    all_seen some_actor histories count closed =
        are_seen its_plant hands all known columns full each (as_many_locks ∙ placed_all) some_actor histories (count ∙ sym as_many_locks) closed
