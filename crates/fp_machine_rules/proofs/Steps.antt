-- Rows of the steps on from each item, and what they reach.
use Rattle.std.proofs.Common.{◌≡◌, ℕ, zero, suc, ◌+◌, ◌<◌, ◌≤◌, ◌⊎◌, ◌&&◌, ◌||◌, not, Bool, true, false, MatchBool, List, [], ◌∷◌, ◌++◌, length, slice_get, Option, Some, None, option_map, unwrap_or, refl, sym, ap, subst, ◌∙◌, inl, inr, arith}
use Rattle.std.specs.List.{list_any}
use Rattle.std.proofs.lemmas.Option.{slice_get_within}
use Rattle.fp_machine_rules.specs.declared.item.Target.{Target}
use Rattle.fp_machine_rules.specs.declared.item.Target.TheVariants as target
use Rattle.fp_machine_rules.specs.declared.item.Form.{Form}
use Rattle.fp_machine_rules.specs.declared.item.Form.TheVariants as form
use Rattle.fp_machine_rules.specs.declared.item.Item.{Item}
use Rattle.fp_machine_rules.specs.Forms.{Stands, IsState, IsVertex, is_state, is_vertex}
use Rattle.fp_machine_rules.specs.Members.{names, initials}
use Rattle.fp_machine_rules.specs.Reaching.{IsAmong, Edge, Reaches, begins, goes_on}
use Rattle.fp_machine_rules.specs.Reaching as reaching
use Rattle.fp_machine_rules.specs.Reached.{Leaves, IsReached, IsWanting, IsUnreached}
use Rattle.fp_machine_rules.specs.Reached as leaves
use Rattle.fp_machine_rules.specs.Leaving.{AreCounted, AreSteps, AreRows, AreFlags, MeetsUndefined, form_at}
use Rattle.fp_machine_rules.specs.Undefined.{is_undefined, is_marked, flag, flags_from}
use Rattle.fp_machine_rules.specs.Visits.{row_at}
use Rattle.fp_base.proofs.Spots.{get_push, before_or_not, item_below}
use Rattle.fp_base.proofs.Bools.{not_both}

pub among_none : {A : Type 0} (x : A) → IsAmong [] x → ⊥
among_none x (k, e) = cc

-- what a form is, as a fact with no equations
pub is_state_of : (items : List Item) (v : ℕ) (f : Form) → form_at items v ≡ Some f → is_state f ≡ true → IsState items v
is_state_of items v f e is = go (slice_get items v) refl
  where
    none : ◌≡◌ {A = Option Form} None (Some f) → ⊥
    none x = cc

    same : (g : Form) → ◌≡◌ {A = Option Form} (Some g) (Some f) → g ≡ f
    same g x = cc

    go : (o : Option Item) → slice_get items v ≡ o → IsState items v
    go (Some x) here =
        record { item = x; here = here; holds = ap (λ (g : Form). is_state g) (same x.form (sym (ap (λ (o : Option Item). option_map (λ (y : Item). y.form) o) here) ∙ e)) ∙ is }
    go None here = absurd (none (sym (ap (λ (o : Option Item). option_map (λ (y : Item). y.form) o) here) ∙ e))

pub stands_form : (items : List Item) (v : ℕ) (f : Form) (p : Option ℕ) → Stands items v f p → form_at items v ≡ Some f
stands_form items v f p h = ap (λ (o : Option Item). option_map (λ (y : Item). y.form) o) h.here ∙ ap Some h.form

pub form_stands : (items : List Item) (v : ℕ) (f : Form) → form_at items v ≡ Some f → (p : Option ℕ) × Stands items v f p
form_stands items v f e = go (slice_get items v) refl
  where
    none : ◌≡◌ {A = Option Form} None (Some f) → ⊥
    none x = cc

    same : (g : Form) → ◌≡◌ {A = Option Form} (Some g) (Some f) → g ≡ f
    same g x = cc

    go : (o : Option Item) → slice_get items v ≡ o → (p : Option ℕ) × Stands items v f p
    go (Some x) here =
        (x.parent, record { item = x; here = here; form = same x.form (sym (ap (λ (o : Option Item). option_map (λ (y : Item). y.form) o) here) ∙ e); parent = refl })
    go None here = absurd (none (sym (ap (λ (o : Option Item). option_map (λ (y : Item). y.form) o) here) ∙ e))

pub state_form : (items : List Item) (v : ℕ) → IsState items v → (f : Form) × (form_at items v ≡ Some f) × (is_state f ≡ true)
state_form items v h = (h.item.form, ap (λ (o : Option Item). option_map (λ (y : Item). y.form) o) h.here, h.holds)

pub same_form : (f g : Form) → ◌≡◌ {A = Option Form} (Some f) (Some g) → f ≡ g
same_form f g e = cc

vertex_of_state : (f : Form) → is_state f ≡ true → is_vertex f ≡ true
vertex_of_state (form.State n) e = refl
vertex_of_state (form.Choice n a b) e = refl
vertex_of_state (form.Initial t) e = e
vertex_of_state (form.On s m t) e = e
vertex_of_state form.Entry e = e
vertex_of_state form.Exit e = e
vertex_of_state (form.Declares d) e = e

module _ (items : List Item) (v : ℕ) where
  -- the steps from a form that is known
  leaves_by : (f : Form) (t : Target) → form_at items v ≡ Some f → Leaves items v t
      → ((name : ℕ) (other : Target) → f ≡ form.Choice name t other → ⊥) → ((name : ℕ) (other : Target) → f ≡ form.Choice name other t → ⊥) → (is_state f ≡ true → ⊥) → ⊥
  leaves_by f t e (leaves.met {name = n} {other = o} {p = p} s) a b c = a n o (same_form f (form.Choice n t o) (sym e ∙ stands_form items v (form.Choice n t o) p s))
  leaves_by f t e (leaves.unmet {name = n} {other = o} {p = p} s) a b c = b n o (same_form f (form.Choice n o t) (sym e ∙ stands_form items v (form.Choice n o t) p s))
  leaves_by f t e (leaves.starts h _ _) a b c =
      let s = state_form items v h in c (ap (λ (g : Form). is_state g) (same_form f s.0 (sym e ∙ s.1)) ∙ s.2)
  leaves_by f t e (leaves.moves h _ _) a b c =
      let s = state_form items v h in c (ap (λ (g : Form). is_state g) (same_form f s.0 (sym e ∙ s.1)) ∙ s.2)

  pub steps_other : (f : Form) (row : List Target) → form_at items v ≡ Some f → is_vertex f ≡ false → row ≡ [] → AreSteps items v row
  steps_other f row e no_vertex none t = (λ h. absurd (among_none t (subst (λ (r : List Target). IsAmong r t) none h)), λ l. absurd (go l))
    where
      go : Leaves items v t → ⊥
      go l =
          leaves_by f t e l (λ n o s. not_both (ap (λ (g : Form). is_vertex g) s) no_vertex)
          (λ n o s. not_both (ap (λ (g : Form). is_vertex g) s) no_vertex) (λ s. not_both (vertex_of_state f s) no_vertex)

  pub steps_choice : (name : ℕ) (met unmet : Target) (row : List Target) → form_at items v ≡ Some (form.Choice name met unmet) → row ≡ met ∷ unmet ∷ []
      → AreSteps items v row
  steps_choice name met unmet row e is t = (λ h. to (subst (λ (r : List Target). IsAmong r t) is h), λ l. subst (λ (r : List Target). IsAmong r t) (sym is) (back l))
    where
      stands : (p : Option ℕ) × Stands items v (form.Choice name met unmet) p
      stands = form_stands items v (form.Choice name met unmet) e

      some_same : (a b : Target) → ◌≡◌ {A = Option Target} (Some a) (Some b) → a ≡ b
      some_same a b x = cc

      to : IsAmong (met ∷ unmet ∷ []) t → Leaves items v t
      to (zero, x) = subst (λ (u : Target). Leaves items v u) (some_same met t x) (leaves.met stands.1)
      to (suc zero, x) = subst (λ (u : Target). Leaves items v u) (some_same unmet t x) (leaves.unmet stands.1)
      to (suc (suc k), x) = absurd (among_none t (k, x))

      first_part : (n m : ℕ) (a b c d : Target) → form.Choice n a b ≡ form.Choice m c d → (a ≡ c) × (b ≡ d)
      first_part n m a b c d x = (ap one x, ap other x)
        where
          one : Form → Target
          one (form.Choice k i j) = i
          one _ = a

          other : Form → Target
          other (form.Choice k i j) = j
          other _ = b

      back : Leaves items v t → IsAmong (met ∷ unmet ∷ []) t
      back (leaves.met {name = n} {other = o} {p = p} s) =
          (0, ap Some (first_part name n met unmet t o (same_form _ _ (sym e ∙ stands_form items v (form.Choice n t o) p s))).0)
      back (leaves.unmet {name = n} {other = o} {p = p} s) =
          (1, ap Some (first_part name n met unmet o t (same_form _ _ (sym e ∙ stands_form items v (form.Choice n o t) p s))).1)
      back (leaves.starts h _ _) = let s = state_form items v h in absurd (no_state s.0 (sym s.1 ∙ e) s.2)
        where
          no_state : (f : Form) → ◌≡◌ {A = Option Form} (Some f) (Some (form.Choice name met unmet)) → is_state f ≡ true → ⊥
          no_state f x y = differ (sym y ∙ ap (λ (g : Form). is_state g) (same_form f (form.Choice name met unmet) x))
            where
              differ : ◌≡◌ {A = Bool} true false → ⊥
              differ z = cc
      back (leaves.moves h _ _) = let s = state_form items v h in absurd (no_state s.0 (sym s.1 ∙ e) s.2)
        where
          no_state : (f : Form) → ◌≡◌ {A = Option Form} (Some f) (Some (form.Choice name met unmet)) → is_state f ≡ true → ⊥
          no_state f x y = differ (sym y ∙ ap (λ (g : Form). is_state g) (same_form f (form.Choice name met unmet) x))
            where
              differ : ◌≡◌ {A = Bool} true false → ⊥
              differ z = cc

  state_no_choice : (name : ℕ) (a b : Target) (p : Option ℕ) → IsState items v → Stands items v (form.Choice name a b) p → ⊥
  state_no_choice name a b p h s =
      let f = state_form items v h in
      differ (sym f.2 ∙ ap (λ (g : Form). is_state g) (same_form f.0 (form.Choice name a b) (sym f.1 ∙ stands_form items v (form.Choice name a b) p s)))
    where
      differ : ◌≡◌ {A = Bool} true false → ⊥
      differ z = cc

  pub steps_leaf : (row : List Target) → IsState items v → names items (Some v) ≡ [] → AreCounted items v row → AreSteps items v row
  steps_leaf row is none counted t = (λ h. let c = (counted t).0 h in leaves.moves is none c.1, back)
    where
      back : Leaves items v t → IsAmong row t
      back (leaves.met {name = n} {other = o} {p = p} s) = absurd (state_no_choice n t o p is s)
      back (leaves.unmet {name = n} {other = o} {p = p} s) = absurd (state_no_choice n o t p is s)
      back (leaves.starts _ some _) = absurd (some none)
      back (leaves.moves {signal = s} _ _ c) = (counted t).1 (s, c)

  pub steps_holder : (row : List Target) → IsState items v → (names items (Some v) ≡ [] → ⊥) → row ≡ initials items (Some v) → AreSteps items v row
  steps_holder row is some e t = (λ h. leaves.starts is some (subst (λ (r : List Target). IsAmong r t) e h), back)
    where
      back : Leaves items v t → IsAmong row t
      back (leaves.met {name = n} {other = o} {p = p} s) = absurd (state_no_choice n t o p is s)
      back (leaves.unmet {name = n} {other = o} {p = p} s) = absurd (state_no_choice n o t p is s)
      back (leaves.starts _ _ a) = subst (λ (r : List Target). IsAmong r t) (sym e) a
      back (leaves.moves _ none _) = absurd (some none)

pub rows_more : (items : List Item) (n : ℕ) (rows : List (List Target)) (row : List Target) (rows' : List (List Target)) → AreRows items n rows → AreSteps items n row
    → rows' ≡ rows ++ row ∷ [] → length rows' ≡ n + 1 → AreRows items (n + 1) rows'
rows_more items n rows row rows' h steps e size = record { each = size; exact = λ v r i. by v r (get_push rows row r v (ap (λ (x : List (List Target)). slice_get x v) (sym e) ∙ i)) }
  where
    by : (v : ℕ) (r : List Target) → (slice_get rows v ≡ Some r) ⊎ ((v ≡ length rows) × (row ≡ r)) → AreSteps items v r
    by v r (inl i) = h.exact v r i
    by v r (inr t) = subst (λ (x : List Target). AreSteps items v x) t.1 (subst (λ (k : ℕ). AreSteps items k row) (sym (t.0 ∙ h.each)) steps)

-- ---- what is reached

module _ (items : List Item) (rows : List (List Target)) (h : AreRows items (length items) rows) where
  vertex_leaves : {v : ℕ} {t : Target} → Leaves items v t → IsVertex items v
  vertex_leaves (leaves.met s) = record { item = s.item; here = s.here; holds = ap (λ (g : Form). is_vertex g) s.form }
  vertex_leaves (leaves.unmet s) = record { item = s.item; here = s.here; holds = ap (λ (g : Form). is_vertex g) s.form }
  vertex_leaves (leaves.starts s _ _) = record { item = s.item; here = s.here; holds = vertex_of_state s.item.form s.holds }
  vertex_leaves (leaves.moves s _ _) = record { item = s.item; here = s.here; holds = vertex_of_state s.item.form s.holds }

  vertex_within : {v : ℕ} → IsVertex items v → v < length rows
  vertex_within {v = v} s = let l = slice_get_within items v s.item s.here in omega (arith, l, h.each)

  row_of_vertex : (v : ℕ) → v < length rows → (row : List Target) × (slice_get rows v ≡ Some row) × AreSteps items v row
  row_of_vertex v l = let t = item_below rows v l in (t.0, t.1, h.exact v t.0 t.1)

  row_is : (v : ℕ) (row : List Target) → slice_get rows v ≡ Some row → row_at rows v ≡ row
  row_is v row e = ap (λ (o : Option (List Target)). unwrap_or o []) e

  pub to_reached : {v : ℕ} → Reaches rows (initials items None) v → IsVertex items v → IsReached items v
  to_reached (begins a _) is = leaves.first a is
  to_reached (goes_on {v = u} {w = w} r e _) is =
      let l = (h.exact u e.row e.here (target.To w)).0 e.among in leaves.next (to_reached r (vertex_leaves l)) l is

  pub from_reached : {v : ℕ} → IsReached items v → Reaches rows (initials items None) v
  from_reached (leaves.first a is) = begins a (vertex_within is)
  from_reached (leaves.next {v = u} {w = w} r l is) =
      let t = row_of_vertex u (vertex_within (vertex_leaves l)) in
      goes_on (from_reached r) (record { row = t.0; here = t.1; among = (t.2 (target.To w)).1 l }) (vertex_within is)

  module _ (seen : List Bool) (found : List ℕ) (visit : reaching.IsReached rows (initials items None) seen found) where
    pub wanting_met : MeetsUndefined (initials items None) rows found → IsWanting items
    wanting_met (inl a) = leaves.begins a
    wanting_met (inr t) =
        let r = (visit.listed t.0).0 t.1 in
        let row = row_of_vertex t.0 (within r) in
        let l = (row.2 target.Undefined).0 (subst (λ (x : List Target). IsAmong x target.Undefined) (row_is t.0 row.0 row.1) t.2) in
        leaves.goes_on (to_reached r (vertex_leaves l)) l
      where
        within : {v : ℕ} → Reaches rows (initials items None) v → v < length rows
        within (begins _ l) = l
        within (goes_on _ _ l) = l

    pub met_wanting : IsWanting items → MeetsUndefined (initials items None) rows found
    met_wanting (leaves.begins a) = inl a
    met_wanting (leaves.goes_on {v = v} r l) =
        let t = row_of_vertex v (vertex_within (vertex_leaves l)) in
        inr (v, (visit.listed v).1 (from_reached r), subst (λ (x : List Target). IsAmong x target.Undefined) (sym (row_is v t.0 t.1)) ((t.2 target.Undefined).1 l))

-- ---- undefined targets

undefined_is : (t : Target) → is_undefined t ≡ true → t ≡ target.Undefined
undefined_is target.Undefined e = refl
undefined_is target.Stays e = absurd cc
undefined_is (target.To v) e = absurd cc

pub any_among : (row : List Target) → list_any is_undefined row ≡ true → IsAmong row target.Undefined
any_among [] e = absurd cc
any_among (t ∷ row) e = go (λ h. any_among row h) (is_undefined t) refl e
  where
    go : (list_any is_undefined row ≡ true → IsAmong row target.Undefined) → (b : Bool) → is_undefined t ≡ b → (b || list_any is_undefined row) ≡ true
        → IsAmong (t ∷ row) target.Undefined
    go again true is h = (0, ap Some (undefined_is t is))
    go again false is h = let k = again h in (suc k.0, k.1)

pub none_among : (row : List Target) → list_any is_undefined row ≡ false → IsAmong row target.Undefined → ⊥
none_among [] e h = among_none target.Undefined h
none_among (t ∷ row) e (zero, x) = differ (sym (ap (λ (u : Target). is_undefined u || list_any is_undefined row) (some_same t x)) ∙ e)
  where
    some_same : (u : Target) → ◌≡◌ {A = Option Target} (Some u) (Some target.Undefined) → u ≡ target.Undefined
    some_same u y = cc

    differ : ◌≡◌ {A = Bool} true false → ⊥
    differ z = cc
none_among (t ∷ row) e (suc k, x) = none_among row (second (is_undefined t) (list_any is_undefined row) e) (k, x)
  where
    second : (a b : Bool) → (a || b) ≡ false → b ≡ false
    second true b h = absurd cc
    second false b h = h

module _ (starts : List Target) (rows : List (List Target)) (found : List ℕ) where
  pub meets_at : (k v : ℕ) → slice_get found k ≡ Some v → list_any is_undefined (row_at rows v) ≡ true → MeetsUndefined starts rows found
  meets_at k v here e = inr (v, (k, here), any_among (row_at rows v) e)

  pub meets_none : list_any is_undefined starts ≡ false
      → ((k v : ℕ) → k < length found → slice_get found k ≡ Some v → list_any is_undefined (row_at rows v) ≡ false) → MeetsUndefined starts rows found → ⊥
  meets_none e none (inl a) = none_among starts e a
  meets_none e none (inr t) = none_among (row_at rows t.0) (none t.1.0 t.0 (slice_get_within found t.1.0 t.0 t.1.1) t.1.1) t.2

-- ---- flags

pub flags_get : (f : ℕ → Item → Bool) (n : ℕ) (xs : List Item) (v m : ℕ) → m ≡ n + v → slice_get (flags_from f n xs) v ≡ option_map (λ (x : Item). f m x) (slice_get xs v)
flags_get f n [] v m e = refl
flags_get f n (x ∷ xs) zero m e = ap (λ (k : ℕ). Some (f k x)) (let s : n ≡ m = omega arith in s)
flags_get f n (x ∷ xs) (suc v) m e = flags_get f (n + 1) xs v m (omega arith)

pub flags_length : (f : ℕ → Item → Bool) (n : ℕ) (xs : List Item) → length (flags_from f n xs) ≡ length xs
flags_length f n [] = refl
flags_length f n (x ∷ xs) = ap suc (flags_length f (n + 1) xs)

module _ (items : List Item) (rows : List (List Target)) (h : AreRows items (length items) rows) (seen : List Bool) (found : List ℕ)
    (visit : reaching.IsReached rows (initials items None) seen found) (wanting : Bool)
    (met : MatchBool wanting (MeetsUndefined (initials items None) rows found) (MeetsUndefined (initials items None) rows found → ⊥)) where
  seen_by : (v : ℕ) (b : Bool) → IsVertex items v → is_marked seen v ≡ b → MatchBool b (IsReached items v) (IsReached items v → ⊥)
  seen_by v b is e = go (item_below seen v (let l = vertex_within items rows h is in omega (arith, l, visit.each)))
    where
      go : (c : Bool) × (slice_get seen v ≡ Some c) → MatchBool b (IsReached items v) (IsReached items v → ⊥)
      go t = by t.0 (visit.exact v t.0 t.1) (sym e ∙ ap (λ (o : Option Bool). unwrap_or o false) t.1)
        where
          by : (c : Bool) → MatchBool c (Reaches rows (initials items None) v) (Reaches rows (initials items None) v → ⊥) → b ≡ c
              → MatchBool b (IsReached items v) (IsReached items v → ⊥)
          by true m s = subst (λ (x : Bool). MatchBool x (IsReached items v) (IsReached items v → ⊥)) (sym s) (to_reached items rows h m is)
          by false m s = subst (λ (x : Bool). MatchBool x (IsReached items v) (IsReached items v → ⊥)) (sym s) (λ r. m (from_reached items rows h r))

  flag_exact : (v : ℕ) (x : Item) → slice_get items v ≡ Some x → (b : Bool) → flag seen wanting v x ≡ b → MatchBool b (IsUnreached items v) (IsUnreached items v → ⊥)
  flag_exact v x here b e = by_vertex (is_vertex x.form) refl
    where
      wanted : (w : Bool) → wanting ≡ w → MatchBool w (MeetsUndefined (initials items None) rows found) (MeetsUndefined (initials items None) rows found → ⊥)
      wanted w s = subst (λ (y : Bool). MatchBool y (MeetsUndefined (initials items None) rows found) (MeetsUndefined (initials items None) rows found → ⊥)) s met

      told : (c : Bool) → flag seen wanting v x ≡ c → MatchBool c (IsUnreached items v) (IsUnreached items v → ⊥) → MatchBool b (IsUnreached items v) (IsUnreached items v → ⊥)
      told c s m = subst (λ (y : Bool). MatchBool y (IsUnreached items v) (IsUnreached items v → ⊥)) (sym s ∙ e) m

      same_item : (y : Item) → slice_get items v ≡ Some y → x ≡ y
      same_item y s = some_same (sym here ∙ s)
        where
          some_same : ◌≡◌ {A = Option Item} (Some x) (Some y) → x ≡ y
          some_same z = cc

      by_seen : (is : IsVertex items v) → is_vertex x.form ≡ true → wanting ≡ false → (m : Bool) → is_marked seen v ≡ m → MatchBool b (IsUnreached items v) (IsUnreached items v → ⊥)
      by_seen is t w true s =
          told false (ap (λ (a : Bool). a && not (wanting || is_marked seen v)) t ∙ (ap (λ (a : Bool). not (a || is_marked seen v)) w ∙ ap (λ (a : Bool). not a) s))
          (λ u. u.never (seen_by v true is s))
      by_seen is t w false s =
          told true (ap (λ (a : Bool). a && not (wanting || is_marked seen v)) t ∙ (ap (λ (a : Bool). not (a || is_marked seen v)) w ∙ ap (λ (a : Bool). not a) s))
          (record { is = is; never = seen_by v false is s; known = λ k. wanted false w (met_wanting items rows h seen found visit k) })

      by_wanting : IsVertex items v → is_vertex x.form ≡ true → (w : Bool) → wanting ≡ w → MatchBool b (IsUnreached items v) (IsUnreached items v → ⊥)
      by_wanting is t true w =
          told false (ap (λ (a : Bool). a && not (wanting || is_marked seen v)) t ∙ ap (λ (a : Bool). not (a || is_marked seen v)) w)
          (λ u. u.known (wanting_met items rows h seen found visit (wanted true w)))
      by_wanting is t false w = by_seen is t w (is_marked seen v) refl

      by_vertex : (t : Bool) → is_vertex x.form ≡ t → MatchBool b (IsUnreached items v) (IsUnreached items v → ⊥)
      by_vertex true t = by_wanting (record { item = x; here = here; holds = t }) t wanting refl
      by_vertex false t =
          told false (ap (λ (a : Bool). a && not (wanting || is_marked seen v)) t)
          (λ u. differ (sym u.is.holds ∙ (ap (λ (y : Item). is_vertex y.form) (sym (same_item u.is.item u.is.here)) ∙ t)))
        where
          differ : ◌≡◌ {A = Bool} true false → ⊥
          differ z = cc

  pub flags_exact : (flags : List Bool) → flags ≡ flags_from (flag seen wanting) 0 items → AreFlags (IsUnreached items) (length items) flags
  flags_exact flags is = record { each = ap length is ∙ flags_length (flag seen wanting) 0 items; exact = exact }
    where
      exact : (v : ℕ) (b : Bool) → slice_get flags v ≡ Some b → MatchBool b (IsUnreached items v) (IsUnreached items v → ⊥)
      exact v b e = go (slice_get items v) refl (sym (flags_get (flag seen wanting) 0 items v v (omega arith)) ∙ (ap (λ (fs : List Bool). slice_get fs v) (sym is) ∙ e))
        where
          go : (o : Option Item) → slice_get items v ≡ o → option_map (λ (x : Item). flag seen wanting v x) (slice_get items v) ≡ Some b
              → MatchBool b (IsUnreached items v) (IsUnreached items v → ⊥)
          go (Some x) here s = flag_exact v x here b (some_same (flag seen wanting v x) (sym (ap (λ (o : Option Item). option_map (λ (x : Item). flag seen wanting v x) o) here) ∙ s))
            where
              some_same : (c : Bool) → ◌≡◌ {A = Option Bool} (Some c) (Some b) → c ≡ b
              some_same c z = cc
          go None here s = absurd (none (sym (ap (λ (o : Option Item). option_map (λ (x : Item). flag seen wanting v x) o) here) ∙ s))
            where
              none : ◌≡◌ {A = Option Bool} None (Some b) → ⊥
              none z = cc

pub none_more : (rows : List (List Target)) (found : List ℕ) (n u : ℕ)
    → ((k v : ℕ) → k < n → slice_get found k ≡ Some v → list_any is_undefined (row_at rows v) ≡ false) → slice_get found n ≡ Some u
    → list_any is_undefined (row_at rows u) ≡ false → (k v : ℕ) → k < n + 1 → slice_get found k ≡ Some v → list_any is_undefined (row_at rows v) ≡ false
none_more rows found n u before here now k v l e = go (before_or_not k n)
  where
    some_same : (a b : ℕ) → ◌≡◌ {A = Option ℕ} (Some a) (Some b) → a ≡ b
    some_same a b z = cc

    go : (k < n) ⊎ (n ≤ k) → list_any is_undefined (row_at rows v) ≡ false
    go (inl b) = before k v b e
    go (inr b) =
        subst (λ (m : ℕ). list_any is_undefined (row_at rows m) ≡ false)
        (some_same u v (sym here ∙ (ap (λ (m : ℕ). slice_get found m) (let s : n ≡ k = omega arith in s) ∙ e))) now
