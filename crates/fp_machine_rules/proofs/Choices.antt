-- What is behind a target through choices.
use Rattle.std.proofs.Common.{◌≡◌, ℕ, zero, suc, ◌+◌, ◌<◌, ◌≤◌, ◌⊎◌, ◌&&◌, ◌==◌, not, Bool, true, false, MatchBool, List, [], ◌∷◌, ◌++◌, length, slice_get, Option, Some, None, option_map, unwrap_or, refl, sym, ap, subst, ◌∙◌, inl, inr, arith}
use Rattle.std.proofs.lemmas.Option.{slice_get_within, slice_get-map}
use Rattle.std.proofs.lemmas.Bool.{eqb-true}
use Rattle.fp_machine_rules.specs.declared.item.Target.{Target}
use Rattle.fp_machine_rules.specs.declared.item.Target.TheVariants as target
use Rattle.fp_machine_rules.specs.declared.item.Form.{Form}
use Rattle.fp_machine_rules.specs.declared.item.Form.TheVariants as form
use Rattle.fp_machine_rules.specs.declared.item.Item.{Item}
use Rattle.fp_machine_rules.specs.Forms.{IsState, is_state, Inside, directly, deeper, InsideOf}
use Rattle.fp_machine_rules.specs.Reaching.{IsAmong, Edge, Reaches, begins, goes_on, IsReached}
use Rattle.fp_machine_rules.specs.Through.{Branches, met, unmet, Through, here, past, IsOnRing, Escapes, LeavesItsState}
use Rattle.fp_machine_rules.specs.Branching.{branches_in, branch_rows, initial_target, IsOutside, SomeOutside}
use Rattle.fp_machine_rules.specs.Leaving.{AreFlags, parent_at}
use Rattle.fp_machine_rules.specs.Visits.{row_at}
use Rattle.fp_base.proofs.Spots.{get_push, before_or_not, item_below}
use Rattle.fp_machine_rules.proofs.Steps.{among_none}
use Rattle.fp_machine_rules.proofs.Outward.{parent_stands, stands_parent}
use Rattle.fp_base.proofs.Options.{same_some}
use Rattle.fp_base.proofs.Lists.{no_items}
use Rattle.fp_base.proofs.Bools.{not_both}
use Rattle.fp_machine_rules.proofs.Deciding.{decided}

pub flags_more : (P : ℕ → Type 0) (n : ℕ) (b : Bool) (flags flags' : List Bool) → AreFlags P n flags → MatchBool b (P n) (P n → ⊥) → flags' ≡ flags ++ b ∷ []
    → length flags' ≡ n + 1 → AreFlags P (n + 1) flags'
flags_more P n b flags flags' h now is size = record { each = size; exact = λ v c e. by v c (get_push flags b c v (ap (λ (fs : List Bool). slice_get fs v) (sym is) ∙ e)) }
  where
    by : (v : ℕ) (c : Bool) → (slice_get flags v ≡ Some c) ⊎ ((v ≡ length flags) × (b ≡ c)) → MatchBool c (P v) (P v → ⊥)
    by v c (inl e) = h.exact v c e
    by v c (inr t) = subst (λ (k : ℕ). MatchBool c (P k) (P k → ⊥)) (sym (t.0 ∙ h.each)) (subst (λ (d : Bool). MatchBool d (P n) (P n → ⊥)) t.1 now)

some_target : (a b : Target) → ◌≡◌ {A = Option Target} (Some a) (Some b) → a ≡ b
some_target a b z = cc

some_item : (a b : Item) → ◌≡◌ {A = Option Item} (Some a) (Some b) → a ≡ b
some_item a b z = cc

module _ (items : List Item) where
  branch_among : {v : ℕ} {t : Target} → Branches items v t → (x : Item) × (slice_get items v ≡ Some x) × IsAmong (branches_in x.form) t
  branch_among {t = t} (met {name = n} {other = o} s) = (s.item, s.here, subst (λ (f : Form). IsAmong (branches_in f) t) (sym s.form) (0, refl))
  branch_among {t = t} (unmet {name = n} {other = o} s) = (s.item, s.here, subst (λ (f : Form). IsAmong (branches_in f) t) (sym s.form) (1, refl))

  among_branch : (v : ℕ) (t : Target) (x : Item) → slice_get items v ≡ Some x → (f : Form) → x.form ≡ f → IsAmong (branches_in f) t → Branches items v t
  among_branch v t x at (form.Choice n a b) is (zero, e) =
      subst (λ (u : Target). Branches items v u) (some_target a t e) (met (record { item = x; here = at; form = is; parent = refl }))
  among_branch v t x at (form.Choice n a b) is (suc zero, e) =
      subst (λ (u : Target). Branches items v u) (some_target b t e) (unmet (record { item = x; here = at; form = is; parent = refl }))
  among_branch v t x at (form.Choice n a b) is (suc (suc k), e) = absurd (among_none t (k, e))
  among_branch v t x at (form.State n) is h = absurd (among_none t h)
  among_branch v t x at (form.Initial u) is h = absurd (among_none t h)
  among_branch v t x at (form.On s m u) is h = absurd (among_none t h)
  among_branch v t x at form.Entry is h = absurd (among_none t h)
  among_branch v t x at form.Exit is h = absurd (among_none t h)
  among_branch v t x at (form.Declares d) is h = absurd (among_none t h)

  module _ (rows : List (List Target)) (is : rows ≡ branch_rows items) where
    pub rows_length : length rows ≡ length items
    rows_length = ap (λ (r : List (List Target)). length r) is ∙ length_map items
      where
        length_map : (xs : List Item) → length (branch_rows xs) ≡ length xs
        length_map [] = refl
        length_map (x ∷ xs) = ap suc (length_map xs)

    row_there : (v : ℕ) (x : Item) → slice_get items v ≡ Some x → slice_get rows v ≡ Some (branches_in x.form)
    row_there v x at =
        ap (λ (r : List (List Target)). slice_get r v) is
        ∙ (slice_get-map (λ (y : Item). branches_in y.form) items v ∙ ap (λ (o : Option Item). option_map (λ (y : Item). branches_in y.form) o) at)

    row_of : (v : ℕ) (row : List Target) → slice_get rows v ≡ Some row → (x : Item) × (slice_get items v ≡ Some x) × (branches_in x.form ≡ row)
    row_of v row e =
        let t = item_below items v (let l = slice_get_within rows v row e in omega (arith, l, rows_length)) in
        (t.0, t.1, same (branches_in t.0.form) row (sym (row_there v t.0 t.1) ∙ e))
      where
        same : (a b : List Target) → ◌≡◌ {A = Option (List Target)} (Some a) (Some b) → a ≡ b
        same a b z = cc

    edge_branch : (v w : ℕ) → Edge rows v w → Branches items v (target.To w)
    edge_branch v w e =
        let t = row_of v e.row e.here in among_branch v (target.To w) t.0 t.1 t.0.form refl (subst (λ (r : List Target). IsAmong r (target.To w)) (sym t.2) e.among)

    branch_edge : {v w : ℕ} → Branches items v (target.To w) → Edge rows v w
    branch_edge {v = v} b = let t = branch_among b in record { row = branches_in t.0.form; here = row_there v t.0 t.1; among = t.2 }

    branch_within : {v : ℕ} {t : Target} → Branches items v t → v < length rows
    branch_within {v = v} b = let t = branch_among b in let l = slice_get_within items v t.0 t.1 in omega (arith, l, rows_length)

    row_branches : (v : ℕ) (t : Target) → IsAmong (row_at rows v) t → Branches items v t
    row_branches v t h = go (slice_get rows v) refl
      where
        go : (o : Option (List Target)) → slice_get rows v ≡ o → Branches items v t
        go (Some row) e =
            let x = row_of v row e in
            among_branch v t x.0 x.1 x.0.form refl
            (subst (λ (r : List Target). IsAmong r t) (ap (λ (o : Option (List Target)). unwrap_or o []) e ∙ sym x.2) h)
        go None e = absurd (among_none t (subst (λ (r : List Target). IsAmong r t) (ap (λ (o : Option (List Target)). unwrap_or o []) e) h))

    branches_row : (v : ℕ) (t : Target) → Branches items v t → IsAmong (row_at rows v) t
    branches_row v t b =
        let x = branch_among b in
        subst (λ (r : List Target). IsAmong r t) (sym (ap (λ (o : Option (List Target)). unwrap_or o []) (row_there v x.0 x.1))) x.2

    pub to_through : {starts : List Target} {w : ℕ} → Reaches rows starts w → (b : ℕ) × IsAmong starts (target.To b) × (b < length rows) × Through items b w
    to_through (begins {v = v} a l) = (v, a, l, here)
    to_through (goes_on {v = v} {w = w} r e l) = let t = to_through r in (t.0, t.1, t.2, past t.3 (edge_branch v w e))

    pub from_through : {starts : List Target} {b w : ℕ} → IsAmong starts (target.To b) → Through items b w → w < length rows → Reaches rows starts w
    from_through a here l = begins a l
    from_through a (past t b) l = goes_on (from_through a t (branch_within b)) (branch_edge b) l

    -- ---- rings

    pub ring_told : (v : ℕ) (b : Bool) → v < length items → MatchBool b (Reaches rows (row_at rows v) v) (Reaches rows (row_at rows v) v → ⊥)
        → MatchBool b (IsOnRing items v) (IsOnRing items v → ⊥)
    ring_told v true l m = let t = to_through m in record { branch = t.0; leads = row_branches v (target.To t.0) t.1; back = t.3 }
    ring_told v false l m = λ r. m (from_through (branches_row v (target.To r.branch) r.leads) r.back (omega (arith, l, rows_length)))

    -- ---- escapes

    pub escape_told : (p : Option ℕ) (t : Target) (seen : List Bool) (found : List ℕ) (b : Bool) → IsReached rows (t ∷ []) seen found
        → MatchBool b (SomeOutside items p found) (SomeOutside items p found → ⊥) → MatchBool b (Escapes items p t) (Escapes items p t → ⊥)
    escape_told p t seen found true visit m =
        let r = to_through ((visit.listed m.0).0 m.1) in
        record { vertex = r.0; to = only t (target.To r.0) r.1; state = m.0; is = m.2.0; reaches = r.3; outside = m.2.1 }
      where
        only : (a b : Target) → IsAmong (a ∷ []) b → a ≡ b
        only a b (zero, e) = some_target a b e
        only a b (suc k, e) = absurd (among_none b (k, e))
    escape_told p t seen found false visit m =
        λ e.
        m (
          e.state,
          (visit.listed e.state).1 (from_through (0, ap Some e.to) e.reaches (let l = slice_get_within items e.state e.is.item e.is.here in omega (arith, l, rows_length))),
          (e.is, e.outside),
        )

  pub outside_told : (p : Option ℕ) (v : ℕ) (s i : Bool) → MatchBool s (IsState items v) (IsState items v → ⊥)
      → MatchBool i (InsideOf items p v) (InsideOf items p v → ⊥) → MatchBool (s && not i) (IsOutside items p v) (IsOutside items p v → ⊥)
  outside_told p v true true m n = λ o. o.1 n
  outside_told p v true false m n = (m, n)
  outside_told p v false i m n = λ o. m o.0

  pub state_told : (v : ℕ) (x : Item) → slice_get items v ≡ Some x → (b : Bool) → b ≡ is_state x.form → MatchBool b (IsState items v) (IsState items v → ⊥)
  state_told v x at b is =
      decided b (IsState items v) (λ e. record { item = x; here = at; holds = sym is ∙ e })
      (λ e s. not_both (is ∙ (ap (λ (y : Item). is_state y.form) (some_item x s.item (sym at ∙ s.here)) ∙ s.holds)) e)

  pub state_none : (v : ℕ) → slice_get items v ≡ None → IsState items v → ⊥
  state_none v e s = differ (sym e ∙ s.here)
    where
      differ : ◌≡◌ {A = Option Item} None (Some s.item) → ⊥
      differ z = cc

  pub outside_none : (p : Option ℕ) (found : List ℕ) → ((k v : ℕ) → k < length found → slice_get found k ≡ Some v → IsOutside items p v → ⊥) → SomeOutside items p found → ⊥
  outside_none p found none t = none t.1.0 t.0 (slice_get_within found t.1.0 t.0 t.1.1) t.1.1 t.2

  pub outside_more : (p : Option ℕ) (found : List ℕ) (n u : ℕ) → ((k v : ℕ) → k < n → slice_get found k ≡ Some v → IsOutside items p v → ⊥) → slice_get found n ≡ Some u
      → (IsOutside items p u → ⊥) → (k v : ℕ) → k < n + 1 → slice_get found k ≡ Some v → IsOutside items p v → ⊥
  outside_more p found n u before at now k v l e = go (before_or_not k n)
    where
      some_same : (a b : ℕ) → ◌≡◌ {A = Option ℕ} (Some a) (Some b) → a ≡ b
      some_same a b z = cc

      go : (k < n) ⊎ (n ≤ k) → IsOutside items p v → ⊥
      go (inl b) = before k v b e
      go (inr b) =
          subst (λ (m : ℕ). IsOutside items p m → ⊥) (some_same u v (sym at ∙ (ap (λ (m : ℕ). slice_get found m) (let s : n ≡ k = omega arith in s) ∙ e))) now

  -- ---- inside

  same_number : (a b : ℕ) → ◌≡◌ {A = Option ℕ} (Some a) (Some b) → a ≡ b
  same_number a b z = cc

  pub inside_goes_on : (state at around : ℕ) → parent_at items at ≡ Some around → (around ≡ state → ⊥) → Inside items state at → Inside items state around
  inside_goes_on state at around e other (directly s) = absurd (other (same_number around state (sym e ∙ stands_parent items at at state s)))
  inside_goes_on state at around e other (deeper {around = q} s i) =
      subst (λ (m : ℕ). Inside items state m) (same_number q around (sym (stands_parent items at at q s) ∙ e)) i

  pub inside_ends : (state at : ℕ) → parent_at items at ≡ None → Inside items state at → ⊥
  inside_ends state at e (directly s) = differ (sym e ∙ stands_parent items at at state s)
    where
      differ : ◌≡◌ {A = Option ℕ} None (Some state) → ⊥
      differ z = cc
  inside_ends state at e (deeper {around = q} s i) = differ (sym e ∙ stands_parent items at at q s)
    where
      differ : ◌≡◌ {A = Option ℕ} None (Some q) → ⊥
      differ z = cc

  pub inside_here : (state at around : ℕ) → parent_at items at ≡ Some around → around ≡ state → Inside items state at
  inside_here state at around e s = directly (parent_stands items at at state (e ∙ ap Some s))

  pub inside_deeper : (state at around : ℕ) → parent_at items at ≡ Some around → Inside items state around → Inside items state at
  inside_deeper state at around e i = deeper (parent_stands items at at around e) i

  -- ---- initial transitions

  initial_is : (f : Form) (t : Target) → initial_target f ≡ Some t → f ≡ form.Initial t
  initial_is (form.Initial u) t e = ap (λ (v : Target). form.Initial v) (same_some e)
  initial_is (form.State n) t e = absurd cc
  initial_is (form.Choice n a b) t e = absurd cc
  initial_is (form.On s m u) t e = absurd cc
  initial_is form.Entry t e = absurd cc
  initial_is form.Exit t e = absurd cc
  initial_is (form.Declares d) t e = absurd cc

  target_there : (v : ℕ) (x : Item) → slice_get items v ≡ Some x → (l : LeavesItsState items v) → initial_target x.form ≡ Some l.target
  target_there v x at l =
      ap (λ (y : Item). initial_target y.form) (some_item x l.stands.item (sym at ∙ l.stands.here)) ∙ ap (λ (f : Form). initial_target f) l.stands.form

  parent_there : (v : ℕ) (x : Item) → slice_get items v ≡ Some x → (l : LeavesItsState items v) → l.parent ≡ x.parent
  parent_there v x at l = sym l.stands.parent ∙ ap (λ (y : Item). y.parent) (some_item l.stands.item x (sym l.stands.here ∙ at))

  pub leaving_told : (v : ℕ) (x : Item) (t : Target) (b : Bool) → slice_get items v ≡ Some x → initial_target x.form ≡ Some t
      → MatchBool b (Escapes items x.parent t) (Escapes items x.parent t → ⊥) → MatchBool b (LeavesItsState items v) (LeavesItsState items v → ⊥)
  leaving_told v x t true at e m =
      record { parent = x.parent; target = t; stands = record { item = x; here = at; form = initial_is x.form t e; parent = refl }; escapes = m }
  leaving_told v x t false at e m = λ l.
      m (subst (λ (q : Option ℕ). Escapes items q t) (parent_there v x at l)
      (subst (λ (u : Target). Escapes items l.parent u) (same_some (sym (target_there v x at l) ∙ e)) l.escapes))

  pub leaving_none : (v : ℕ) (x : Item) → slice_get items v ≡ Some x → initial_target x.form ≡ None → LeavesItsState items v → ⊥
  leaving_none v x at e l = differ (sym (target_there v x at l) ∙ e)
    where
      differ : ◌≡◌ {A = Option Target} (Some l.target) None → ⊥
      differ z = cc

pub reaches_nothing : (rows : List (List Target)) (starts : List Target) → starts ≡ [] → {v : ℕ} → Reaches rows starts v → ⊥
reaches_nothing rows starts none (begins {v = v} a l) = among_none (target.To v) (subst (λ (s : List Target). IsAmong s (target.To v)) none a)
reaches_nothing rows starts none (goes_on r e l) = reaches_nothing rows starts none r

pub none_of_length : {A : Type 0} (xs : List A) (b : Bool) → b ≡ true → b ≡ (length xs == 0) → xs ≡ []
none_of_length xs b t e = no_items xs (eqb-true (length xs) 0 (sym e ∙ t))
