-- The transitions that count at a state, gathered from the state outward.
use Rattle.std.proofs.Common.{◌≡◌, ℕ, ◌<◌, ◌⊎◌, ◌==◌, ◌||◌, Bool, true, false, cond, List, [], ◌∷◌, ◌++◌, length, slice_get, Option, Some, None, option_and_then, is_some, refl, sym, ap, subst, ◌∙◌, inl, inr, arith}
use Rattle.std.proofs.lemmas.Bool.{or_from}
use Rattle.fp_base.proofs.Bools.{neither}
use Rattle.fp_machine_rules.specs.declared.item.Target.{Target}
use Rattle.fp_machine_rules.specs.declared.item.Item.{Item}
use Rattle.fp_machine_rules.specs.declared.gathering.Move.{Move}
use Rattle.fp_machine_rules.specs.Forms.{StandsIn, IsLaid}
use Rattle.fp_machine_rules.specs.Members.{moves, first_on}
use Rattle.fp_machine_rules.specs.Reaching.{IsAmong}
use Rattle.fp_machine_rules.specs.Inherited.{Counts, own, inherited}
use Rattle.fp_machine_rules.specs.Leaving.{AddsOwn, AreCounted, parent_at}

pub own_none : (had : ℕ → Bool) (row : List Target) → AddsOwn [] had row had row
own_none had row = record { notes = λ s. or_false (had s); keeps = λ t h. h; adds = λ s t _ e. absurd (none t e); only = λ t h. inl h }
  where
    or_false : (b : Bool) → b ≡ (b || false)
    or_false true = refl
    or_false false = refl

    none : (t : Target) → ◌≡◌ {A = Option Target} None (Some t) → ⊥
    none t e = cc

-- on a list behind another, the first is the one's, or the other's where the one has none
first_before : (s : ℕ) (xs ys : List Move) (t : Target) → first_on s xs ≡ Some t → first_on s (xs ++ ys) ≡ Some t
first_before s [] ys t e = cc
first_before s (m ∷ xs) ys t e = go (λ h. first_before s xs ys t h) (m.signal == s) e
  where
    go : (first_on s xs ≡ Some t → first_on s (xs ++ ys) ≡ Some t) → (b : Bool) → cond b (Some m.target) (first_on s xs) ≡ Some t
        → cond b (Some m.target) (first_on s (xs ++ ys)) ≡ Some t
    go again true h = h
    go again false h = again h

first_behind : (s : ℕ) (xs ys : List Move) → first_on s xs ≡ None → first_on s (xs ++ ys) ≡ first_on s ys
first_behind s [] ys e = refl
first_behind s (m ∷ xs) ys e = go (λ h. first_behind s xs ys h) (m.signal == s) e
  where
    differ : (t : Target) → ◌≡◌ {A = Option Target} (Some t) None → ⊥
    differ t x = cc

    go : (first_on s xs ≡ None → first_on s (xs ++ ys) ≡ first_on s ys) → (b : Bool) → cond b (Some m.target) (first_on s xs) ≡ None
        → cond b (Some m.target) (first_on s (xs ++ ys)) ≡ first_on s ys
    go again true h = absurd (differ m.target h)
    go again false h = again h

some_or_none : (o : Option Target) → ((t : Target) × (o ≡ Some t)) ⊎ (o ≡ None)
some_or_none (Some t) = inl (t, refl)
some_or_none None = inr refl

none_of : (o : Option Target) → is_some o ≡ false → o ≡ None
none_of None e = refl
none_of (Some t) e = absurd cc

module _ (xs ys : List Move) (had : ℕ → Bool) (row : List Target) (has : ℕ → Bool) (row' : List Target) (has' : ℕ → Bool) (row'' : List Target) where
  pub own_both : AddsOwn xs had row has row' → AddsOwn ys has row' has' row'' → AddsOwn (xs ++ ys) had row has' row''
  own_both a b = record { notes = notes; keeps = λ t h. b.keeps t (a.keeps t h); adds = adds; only = only }
    where
      three : (x y z : Bool) → ((x || y) || z) ≡ (x || (y || z))
      three true y z = refl
      three false y z = refl

      joined : (s : ℕ) → (is_some (first_on s xs) || is_some (first_on s ys)) ≡ is_some (first_on s (xs ++ ys))
      joined s = go (some_or_none (first_on s xs))
        where
          go : ((t : Target) × (first_on s xs ≡ Some t)) ⊎ (first_on s xs ≡ None) → (is_some (first_on s xs) || is_some (first_on s ys)) ≡ is_some (first_on s (xs ++ ys))
          go (inl t) =
              ap (λ (o : Option Target). is_some o || is_some (first_on s ys)) t.1
              ∙ ap (λ (o : Option Target). is_some o) (sym (first_before s xs ys t.0 t.1))
          go (inr e) = ap (λ (o : Option Target). is_some o || is_some (first_on s ys)) e ∙ ap (λ (o : Option Target). is_some o) (sym (first_behind s xs ys e))

      notes : (s : ℕ) → has' s ≡ (had s || is_some (first_on s (xs ++ ys)))
      notes s =
          b.notes s
          ∙ (ap (λ (x : Bool). x || is_some (first_on s ys)) (a.notes s)
          ∙ (three (had s) (is_some (first_on s xs)) (is_some (first_on s ys)) ∙ ap (λ (x : Bool). had s || x) (joined s)))

      fresh : (s : ℕ) → has s ≡ false → (had s ≡ false) × (first_on s xs ≡ None)
      fresh s e = let p = neither (had s) (is_some (first_on s xs)) (sym (a.notes s) ∙ e) in (p.0, none_of (first_on s xs) p.1)

      adds : (s : ℕ) (t : Target) → had s ≡ false → first_on s (xs ++ ys) ≡ Some t → IsAmong row'' t
      adds s t h e = go (some_or_none (first_on s xs))
        where
          same : (u : Target) → ◌≡◌ {A = Option Target} (Some u) (Some t) → u ≡ t
          same u x = cc

          go : ((u : Target) × (first_on s xs ≡ Some u)) ⊎ (first_on s xs ≡ None) → IsAmong row'' t
          go (inl u) = b.keeps t (a.adds s t h (u.1 ∙ (sym (first_before s xs ys u.0 u.1) ∙ e)))
          go (inr n) = b.adds s t (a.notes s ∙ or_from (had s) (is_some (first_on s xs)) h (ap (λ (o : Option Target). is_some o) n)) (sym (first_behind s xs ys n) ∙ e)

      only_first : (t : Target) → IsAmong row t ⊎ ((s : ℕ) × (had s ≡ false) × (first_on s xs ≡ Some t)) → IsAmong row t ⊎ ((s : ℕ) × (had s ≡ false) × (first_on s (xs ++ ys) ≡ Some t))
      only_first t (inl h) = inl h
      only_first t (inr u) = inr (u.0, u.1, first_before u.0 xs ys t u.2)

      only_by : (t : Target) → IsAmong row' t ⊎ ((s : ℕ) × (has s ≡ false) × (first_on s ys ≡ Some t)) → IsAmong row t ⊎ ((s : ℕ) × (had s ≡ false) × (first_on s (xs ++ ys) ≡ Some t))
      only_by t (inl h) = only_first t (a.only t h)
      only_by t (inr u) = let f = fresh u.0 u.1 in inr (u.0, f.0, first_behind u.0 xs ys f.1 ∙ u.2)

      only : (t : Target) → IsAmong row'' t → IsAmong row t ⊎ ((s : ℕ) × (had s ≡ false) × (first_on s (xs ++ ys) ≡ Some t))
      only t h = only_by t (b.only t h)

-- what stands on the way from a state outward, before the state in hand
pub record IsCounting (items : List Item) (state : ℕ) (around : Option ℕ) (had : ℕ → Bool) (row : List Target) : Type 0 where
  pub within : (v : ℕ) → around ≡ Some v → v < length items
  pub sound : (t : Target) → IsAmong row t → (s : ℕ) × Counts items state s t
  pub whole : (s : ℕ) (t : Target) → Counts items state s t → IsAmong row t ⊎ ((v : ℕ) × (around ≡ Some v) × (had s ≡ false) × Counts items v s t)
  pub lifts : (v s : ℕ) (t : Target) → around ≡ Some v → had s ≡ false → Counts items v s t → Counts items state s t

module _ (items : List Item) (state : ℕ) where
  same_number : (a b : ℕ) → ◌≡◌ {A = Option ℕ} (Some a) (Some b) → a ≡ b
  same_number a b e = cc

  pub counting_begins : (had : ℕ → Bool) → state < length items → ((s : ℕ) → had s ≡ false) → IsCounting items state (Some state) had []
  counting_begins had within none = record {
    within = λ v e. subst (λ (n : ℕ). n < length items) (same_number state v e) within;
    sound = λ t h. absurd (empty t h);
    whole = λ s t c. inr (state, refl, none s, c);
    lifts = λ v s t e _ c. subst (λ (n : ℕ). Counts items n s t) (sym (same_number state v e)) c;
  }
    where
      empty : (t : Target) → IsAmong [] t → ⊥
      empty t (k, e) = cc

  pub parent_stands : (v p : ℕ) → parent_at items v ≡ Some p → StandsIn items v (Some p)
  parent_stands v p e = go (slice_get items v) refl
    where
      none : ◌≡◌ {A = Option ℕ} None (Some p) → ⊥
      none x = cc

      go : (o : Option Item) → slice_get items v ≡ o → StandsIn items v (Some p)
      go (Some x) is = record { item = x; here = is; parent = sym (ap (λ (o : Option Item). option_and_then (λ (y : Item). y.parent) o) is) ∙ e }
      go None is = absurd (none (sym (ap (λ (o : Option Item). option_and_then (λ (y : Item). y.parent) o) is) ∙ e))

  pub stands_parent : (v p : ℕ) → StandsIn items v (Some p) → parent_at items v ≡ Some p
  stands_parent v p h = ap (λ (o : Option Item). option_and_then (λ (y : Item). y.parent) o) h.here ∙ h.parent

  pub parent_before : IsLaid items → (v p : ℕ) → parent_at items v ≡ Some p → p < v
  parent_before laid v p e = (laid v p (parent_stands v p e)).0

  pub counting_goes_on : IsLaid items → (v : ℕ) (had : ℕ → Bool) (row : List Target) (has : ℕ → Bool) (row' : List Target) → IsCounting items state (Some v) had row
      → AddsOwn (moves items (Some v)) had row has row' → IsCounting items state (parent_at items v) has row'
  counting_goes_on laid v had row has row' h a = record { within = within; sound = sound; whole = whole; lifts = lifts }
    where
      within : (p : ℕ) → parent_at items v ≡ Some p → p < length items
      within p e = let b = parent_before laid v p e in let l = h.within v refl in omega (arith, b, l)

      sound_by : (t : Target) → IsAmong row t ⊎ ((s : ℕ) × (had s ≡ false) × (first_on s (moves items (Some v)) ≡ Some t)) → (s : ℕ) × Counts items state s t
      sound_by t (inl i) = h.sound t i
      sound_by t (inr u) = (u.0, h.lifts v u.0 t refl u.1 (own u.2))

      sound : (t : Target) → IsAmong row' t → (s : ℕ) × Counts items state s t
      sound t i = sound_by t (a.only t i)

      Left : ℕ → Target → Type 0
      Left s t = IsAmong row' t ⊎ ((p : ℕ) × (parent_at items v ≡ Some p) × (has s ≡ false) × Counts items p s t)

      from_here : (s : ℕ) (t : Target) → had s ≡ false → Counts items v s t → Left s t
      from_here s t n (own e) = inl (a.adds s t n e)
      from_here s t n (inherited {around = p} e stands c) =
          inr (p, stands_parent v p stands, a.notes s ∙ or_from (had s) (is_some (first_on s (moves items (Some v)))) n (ap (λ (o : Option Target). is_some o) e), c)

      whole_by : (s : ℕ) (t : Target) → IsAmong row t ⊎ ((w : ℕ) × (Some v ≡ Some w) × (had s ≡ false) × Counts items w s t) → Left s t
      whole_by s t (inl i) = inl (a.keeps t i)
      whole_by s t (inr u) = from_here s t u.2 (subst (λ (n : ℕ). Counts items n s t) (sym (same_number v u.0 u.1)) u.3)

      whole : (s : ℕ) (t : Target) → Counts items state s t → Left s t
      whole s t c = whole_by s t (h.whole s t c)

      lifts : (p s : ℕ) (t : Target) → parent_at items v ≡ Some p → has s ≡ false → Counts items p s t → Counts items state s t
      lifts p s t e n c =
          let b = neither (had s) (is_some (first_on s (moves items (Some v)))) (sym (a.notes s) ∙ n) in
          h.lifts v s t refl b.0 (inherited (none_of (first_on s (moves items (Some v))) b.1) (parent_stands v p e) c)

  pub counting_ends : (around : Option ℕ) (had : ℕ → Bool) (row : List Target) → around ≡ None → IsCounting items state around had row → AreCounted items state row
  counting_ends around had row end h t = (λ i. h.sound t i, λ c. go (h.whole c.0 t c.1))
    where
      none : (v : ℕ) → around ≡ Some v → ⊥
      none v e = differ (sym end ∙ e)
        where
          differ : ◌≡◌ {A = Option ℕ} None (Some v) → ⊥
          differ x = cc

      go : {s : ℕ} → IsAmong row t ⊎ ((v : ℕ) × (around ≡ Some v) × (had s ≡ false) × Counts items v s t) → IsAmong row t
      go (inl i) = i
      go (inr u) = absurd (none u.0 u.1)
