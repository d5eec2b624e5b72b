-- In which items another value is given.
use Rattle.std.proofs.Common.{◌≡◌, ℕ, zero, suc, ◌<◌, ◌⊎◌, ◌&&◌, ◌==◌, not, cond, Bool, true, false, MatchBool, List, [], ◌∷◌, length, slice_get, Option, Some, None, unwrap_or, refl, sym, ap, subst, ◌∙◌, inl, inr, arith, eq-eqb}
use Rattle.std.proofs.lemmas.Option.{slice_get_within}
use Rattle.std.proofs.lemmas.Bool.{eqb-true}
use Rattle.fp_machine_rules.specs.declared.item.Target.{Target}
use Rattle.fp_machine_rules.specs.declared.item.Target.TheVariants as target
use Rattle.fp_machine_rules.specs.declared.item.Form.{Form}
use Rattle.fp_machine_rules.specs.declared.item.Form.TheVariants as form
use Rattle.fp_machine_rules.specs.declared.item.Item.{Item}
use Rattle.fp_machine_rules.specs.Forms.{is_choice}
use Rattle.fp_machine_rules.specs.Reaching.{IsAmong, Reaches, IsReached}
use Rattle.fp_machine_rules.specs.Branching.{branch_rows}
use Rattle.fp_machine_rules.specs.Values.{Gives, Enters, IsGiven, IsGivenOther}
use Rattle.fp_machine_rules.specs.Values as values
use Rattle.fp_machine_rules.specs.Giving.{plain_form, signal_other, gives_other, target_in, start_in, other_starts, other_flag}
use Rattle.fp_machine_rules.specs.Leaving.{AreFlags}
use Rattle.fp_machine_rules.specs.Undefined.{flags_from, is_marked}
use Rattle.fp_base.proofs.Lists.{get_front}
use Rattle.fp_base.proofs.Spots.{item_below}
use Rattle.fp_machine_rules.proofs.Places.{behind, in_one_part}
use Rattle.fp_machine_rules.proofs.Steps.{among_none}
use Rattle.fp_machine_rules.proofs.Choices.{to_through, from_through, rows_length}
use Rattle.fp_base.proofs.Bools.{both, or_cases, neither, not_both}
use Rattle.fp_base.proofs.Options.{same_some, then_some, no_some}
use Rattle.fp_machine_rules.proofs.Deciding.{decided, and_not, flags_tell}

some_target : (a b : Target) → ◌≡◌ {A = Option Target} (Some a) (Some b) → a ≡ b
some_target a b z = cc

some_item : (a b : Item) → ◌≡◌ {A = Option Item} (Some a) (Some b) → a ≡ b
some_item a b z = cc

module _ (items : List Item) (signals : List (Option ℕ)) (wanted : ℕ) where
  abbrev Other : Form → Type 0
  Other f = (value : Option ℕ) × Gives items signals f value × (value ≡ Some wanted → ⊥)

  false_true : ◌≡◌ {A = Bool} false true → ⊥
  false_true z = cc

  other_of : (f : Form) → gives_other signals wanted f ≡ true → Other f
  other_of (form.Initial t) e = (None, values.initial, λ e. no_some e)
  other_of form.Entry e = (None, values.entry, λ e. no_some e)
  other_of form.Exit e = (None, values.exit, λ e. no_some e)
  other_of (form.State n) e = absurd (false_true e)
  other_of (form.Declares d) e = absurd (false_true e)
  other_of (form.Choice n a b) e = absurd (false_true e)
  other_of (form.On s None t) e = absurd (false_true e)
  other_of (form.On s (Some at) t) e = go (slice_get signals at) refl e
    where
      not_true : (b : Bool) → not b ≡ true → b ≡ true → ⊥
      not_true true x y = differ x
        where
          differ : ◌≡◌ {A = Bool} false true → ⊥
          differ z = cc
      not_true false x y = differ y
        where
          differ : ◌≡◌ {A = Bool} false true → ⊥
          differ z = cc

      go : (o : Option (Option ℕ)) → slice_get signals at ≡ o → signal_other o wanted ≡ true → Other (form.On s (Some at) t)
      go None is h = absurd (differ h)
        where
          differ : ◌≡◌ {A = Bool} false true → ⊥
          differ z = cc
      go (Some None) is h = (None, values.on is, λ e. no_some e)
      go (Some (Some k)) is h = (Some k, values.on is, λ s. not_true (k == wanted) h (eq-eqb k wanted (same_some s)))

  other_value : (value : Option ℕ) → (value ≡ Some wanted → ⊥) → signal_other (Some value) wanted ≡ true
  other_value None n = refl
  other_value (Some k) n = go (k == wanted) refl
    where
      go : (b : Bool) → (k == wanted) ≡ b → not b ≡ true
      go true e = absurd (n (ap Some (eqb-true k wanted e)))
      go false e = refl

  of_other : {f : Form} {value : Option ℕ} → Gives items signals f value → (value ≡ Some wanted → ⊥) → gives_other signals wanted f ≡ true
  of_other values.initial n = refl
  of_other values.entry n = refl
  of_other values.exit n = refl
  of_other {value = value} (values.on e) n = ap (λ (o : Option (Option ℕ)). signal_other o wanted) e ∙ other_value value n

  enters_among : {f : Form} {v : ℕ} → Enters items signals f v → IsAmong (target_in f) (target.To v)
  enters_among values.initial = (0, refl)
  enters_among values.on = (0, refl)

  among_enters : (f : Form) (v : ℕ) → IsAmong (target_in f) (target.To v) → Enters items signals f v
  among_enters (form.Initial t) v (zero, e) = subst (λ (u : Target). Enters items signals (form.Initial u) v) (sym (some_target t (target.To v) e)) values.initial
  among_enters (form.Initial t) v (suc k, e) = absurd (among_none (target.To v) (k, e))
  among_enters (form.On s m t) v (zero, e) = subst (λ (u : Target). Enters items signals (form.On s m u) v) (sym (some_target t (target.To v) e)) values.on
  among_enters (form.On s m t) v (suc k, e) = absurd (among_none (target.To v) (k, e))
  among_enters (form.State n) v h = absurd (among_none (target.To v) h)
  among_enters (form.Choice n a b) v h = absurd (among_none (target.To v) h)
  among_enters form.Entry v h = absurd (among_none (target.To v) h)
  among_enters form.Exit v h = absurd (among_none (target.To v) h)
  among_enters (form.Declares d) v h = absurd (among_none (target.To v) h)

  start_parts : (f : Form) (t : Target) → IsAmong (start_in signals wanted f) t → (gives_other signals wanted f ≡ true) × IsAmong (target_in f) t
  start_parts f t h = go (gives_other signals wanted f) refl h
    where
      go : (b : Bool) → gives_other signals wanted f ≡ b → IsAmong (cond b (target_in f) []) t → (gives_other signals wanted f ≡ true) × IsAmong (target_in f) t
      go true e a = (e, a)
      go false e a = absurd (among_none t a)

  start_made : (f : Form) (t : Target) → gives_other signals wanted f ≡ true → IsAmong (target_in f) t → IsAmong (start_in signals wanted f) t
  start_made f t e a = subst (λ (b : Bool). IsAmong (cond b (target_in f) []) t) (sym e) a

  -- what isn't a choice gives its own value alone
  plain_told : (v : ℕ) (x : Item) → slice_get items v ≡ Some x → is_choice x.form ≡ false
      → MatchBool (gives_other signals wanted x.form) (IsGivenOther items signals wanted v) (IsGivenOther items signals wanted v → ⊥)
  plain_told v x at plain = decided (gives_other signals wanted x.form) (IsGivenOther items signals wanted v) to (λ e g. back e g.given g.other)
    where
      to : gives_other signals wanted x.form ≡ true → IsGivenOther items signals wanted v
      to e =
          let o = other_of x.form e in
          record { value = o.0; given = values.own (record { item = x; here = at; form = refl; parent = refl }) o.1; other = o.2 }

      back : gives_other signals wanted x.form ≡ false → {value : Option ℕ} → IsGiven items signals v value → (value ≡ Some wanted → ⊥) → ⊥
      back e (values.own {f = f} s h) n =
          not_both (of_other h n)
          (ap (λ (k : Form). gives_other signals wanted k) (sym s.form ∙ ap (λ (y : Item). y.form) (some_item s.item x (sym s.here ∙ at))) ∙ e)
      back e (values.entered c s h en th) n =
          not_both (ap (λ (y : Item). is_choice y.form) (some_item x c.item (sym at ∙ c.here)) ∙ c.holds) plain

  pub plain_given : (v : ℕ) (f : Form) → plain_form items v ≡ Some f
      → MatchBool (gives_other signals wanted f) (IsGivenOther items signals wanted v) (IsGivenOther items signals wanted v → ⊥)
  plain_given v f e = go (then_some (λ (x : Item). cond (is_choice x.form) None (Some x.form)) (slice_get items v) f e)
    where
      kept : (b : Bool) (g : Form) → ◌≡◌ {A = Option Form} (cond b None (Some g)) (Some f) → (b ≡ false) × (g ≡ f)
      kept true g z = cc
      kept false g z = (refl, same_some z)

      go : (x : Item) × (slice_get items v ≡ Some x) × (cond (is_choice x.form) None (Some x.form) ≡ Some f)
          → MatchBool (gives_other signals wanted f) (IsGivenOther items signals wanted v) (IsGivenOther items signals wanted v → ⊥)
      go (x, at, c) =
          let t = kept (is_choice x.form) x.form c in
          subst (λ (g : Form). MatchBool (gives_other signals wanted g) (IsGivenOther items signals wanted v) (IsGivenOther items signals wanted v → ⊥)) t.1
          (plain_told v x at t.0)

  starts_from : (xs : List Item) (t : Target) → IsAmong (other_starts signals wanted xs) t → (w : ℕ) × (x : Item) × (slice_get xs w ≡ Some x) × IsAmong (start_in signals wanted x.form) t
  starts_from [] t h = absurd (among_none t h)
  starts_from (x ∷ xs) t h = go (λ k. starts_from xs t k) (in_one_part (start_in signals wanted x.form) (other_starts signals wanted xs) t h)
    where
      go : (IsAmong (other_starts signals wanted xs) t → (w : ℕ) × (y : Item) × (slice_get xs w ≡ Some y) × IsAmong (start_in signals wanted y.form) t)
          → IsAmong (start_in signals wanted x.form) t ⊎ IsAmong (other_starts signals wanted xs) t
          → (w : ℕ) × (y : Item) × (slice_get (x ∷ xs) w ≡ Some y) × IsAmong (start_in signals wanted y.form) t
      go again (inl a) = (0, x, refl, a)
      go again (inr a) = let r = again a in (suc r.0, r.1, r.2, r.3)

  starts_have : (xs : List Item) (w : ℕ) (x : Item) (t : Target) → slice_get xs w ≡ Some x → IsAmong (start_in signals wanted x.form) t
      → IsAmong (other_starts signals wanted xs) t
  starts_have [] w x t e a = absurd (none e)
    where
      none : ◌≡◌ {A = Option Item} None (Some x) → ⊥
      none z = cc
  starts_have (y ∷ xs) zero x t e a =
      let b = subst (λ (z : Item). IsAmong (start_in signals wanted z.form) t) (sym (some_item y x e)) a in
      (b.0, get_front (start_in signals wanted y.form) (other_starts signals wanted xs) b.0 t b.1)
  starts_have (y ∷ xs) (suc w) x t e a = behind (start_in signals wanted y.form) (other_starts signals wanted xs) t (starts_have xs w x t e a)

  module _ (rows : List (List Target)) (is : rows ≡ branch_rows items) (seen : List Bool) (found : List ℕ)
      (visit : IsReached rows (other_starts signals wanted items) seen found) where
    seen_told : (v : ℕ) → v < length items → (b : Bool) → is_marked seen v ≡ b
        → MatchBool b (Reaches rows (other_starts signals wanted items) v) (Reaches rows (other_starts signals wanted items) v → ⊥)
    seen_told v l b e = go (item_below seen v (omega (arith, l, visit.each, rows_length items rows is)))
      where
        go : (c : Bool) × (slice_get seen v ≡ Some c) → MatchBool b (Reaches rows (other_starts signals wanted items) v) (Reaches rows (other_starts signals wanted items) v → ⊥)
        go t =
            subst (λ (c : Bool). MatchBool c (Reaches rows (other_starts signals wanted items) v) (Reaches rows (other_starts signals wanted items) v → ⊥))
            (sym (ap (λ (o : Option Bool). unwrap_or o false) t.1) ∙ e) (visit.exact v t.0 t.1)

    each : (v : ℕ) (x : Item) → slice_get items v ≡ Some x
        → MatchBool (other_flag signals wanted seen v x) (IsGivenOther items signals wanted v) (IsGivenOther items signals wanted v → ⊥)
    each v x at = decided (other_flag signals wanted seen v x) (IsGivenOther items signals wanted v) to back
      where
        within : v < length items
        within = slice_get_within items v x at

        to_by : (gives_other signals wanted x.form ≡ true) ⊎ ((is_choice x.form && is_marked seen v) ≡ true) → IsGivenOther items signals wanted v
        to_by (inl e) =
            let o = other_of x.form e in
            record { value = o.0; given = values.own (record { item = x; here = at; form = refl; parent = refl }) o.1; other = o.2 }
        to_by (inr e) =
            let p = both (is_choice x.form) (is_marked seen v) e in
            let t = to_through items rows is (seen_told v within true p.1) in
            let w = starts_from items (target.To t.0) t.1 in
            let s = start_parts w.1.form (target.To t.0) w.3 in
            let o = other_of w.1.form s.0 in
            record {
              value = o.0;
              given = values.entered (record { item = x; here = at; holds = p.0 }) (record { item = w.1; here = w.2; form = refl; parent = refl }) o.1
                  (among_enters w.1.form t.0 s.1) t.3;
              other = o.2;
            }

        to : other_flag signals wanted seen v x ≡ true → IsGivenOther items signals wanted v
        to e = to_by (or_cases (gives_other signals wanted x.form) (is_choice x.form && is_marked seen v) e)

        not_given : gives_other signals wanted x.form ≡ false → (is_choice x.form && is_marked seen v) ≡ false → {value : Option ℕ} → IsGiven items signals v value
            → (value ≡ Some wanted → ⊥) → ⊥
        not_given e g (values.own {f = f} s h) n =
            not_both (of_other h n)
            (ap (λ (k : Form). gives_other signals wanted k) (sym s.form ∙ ap (λ (y : Item). y.form) (some_item s.item x (sym s.here ∙ at))) ∙ e)
        not_given e g (values.entered {way = w} {target = b} {f = f} c s h en th) n =
            and_not (is_choice x.form) (is_marked seen v) g
            (ap (λ (y : Item). is_choice y.form) (some_item x c.item (sym at ∙ c.here)) ∙ c.holds)
            (marked (is_marked seen v) refl)
          where
            start : IsAmong (other_starts signals wanted items) (target.To b)
            start =
                starts_have items w s.item (target.To b) s.here
                (subst (λ (k : Form). IsAmong (start_in signals wanted k) (target.To b)) (sym s.form) (start_made f (target.To b) (of_other h n) (enters_among en)))

            marked : (m : Bool) → is_marked seen v ≡ m → is_marked seen v ≡ true
            marked true z = z
            marked false z =
                absurd (seen_told v within false z (from_through items rows is start th (omega (arith, within, rows_length items rows is))))

        back : other_flag signals wanted seen v x ≡ false → IsGivenOther items signals wanted v → ⊥
        back e g =
            let p = neither (gives_other signals wanted x.form) (is_choice x.form && is_marked seen v) e in not_given p.0 p.1 g.given g.other

    pub given_told : (flags : List Bool) → flags ≡ flags_from (other_flag signals wanted seen) 0 items → AreFlags (IsGivenOther items signals wanted) (length items) flags
    given_told flags e = flags_tell (IsGivenOther items signals wanted) (other_flag signals wanted seen) items flags e each
