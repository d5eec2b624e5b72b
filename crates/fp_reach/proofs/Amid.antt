-- What is among the items of a list, and what leads to what.
use Rattle.std.proofs.Common.{◌≡◌, ◌<◌, ◌≤◌, ◌+◌, ◌∙◌, ◌⊎◌, inl, inr, ℕ, zero, suc, List, [], ◌∷◌, ◌++◌, flat_map, length, take, slice_get, Some, refl, sym, ap, subst, append_assoc}
use Rattle.std.proofs.lemmas.List.{take_all}
use Rattle.fp_graph.specs.Visits.{Among}
use Rattle.fp_base.proofs.Lists.{take_next}
use Rattle.fp_base.proofs.Options.{same_some}
use Rattle.fp_base.proofs.Spots.{item_below}
use Rattle.fp_reach.specs.Reaching.{Reaches, once, again}

pub among_left : {A : Type 0} (xs ys : List A) (x : A) → Among xs x → Among (xs ++ ys) x
among_left [] ys x h = absurd h
among_left (y ∷ xs) ys x (inl e) = inl e
among_left (y ∷ xs) ys x (inr h) = inr (among_left xs ys x h)

pub among_right : {A : Type 0} (xs ys : List A) (x : A) → Among ys x → Among (xs ++ ys) x
among_right [] ys x h = h
among_right (y ∷ xs) ys x h = inr (among_right xs ys x h)

either_next : {A : Type 0} (xs ys : List A) (y x : A) → Among xs x ⊎ Among ys x → Among (y ∷ xs) x ⊎ Among ys x
either_next xs ys y x (inl h) = inl (inr h)
either_next xs ys y x (inr h) = inr h

pub among_either : {A : Type 0} (xs ys : List A) (x : A) → Among (xs ++ ys) x → Among xs x ⊎ Among ys x
among_either [] ys x h = inr h
among_either (y ∷ xs) ys x (inl e) = inl (inl e)
among_either (y ∷ xs) ys x (inr h) = either_next xs ys y x (among_either xs ys x h)

flat_next : {A B : Type 0} (f : A → List B) (x : A) (xs : List A) (y : B) → Among (f x) y ⊎ Among (flat_map f xs) y
    → (Among (flat_map f xs) y → (z : A) × Among xs z × Among (f z) y) → (z : A) × Among (x ∷ xs) z × Among (f z) y
flat_next f x xs y (inl k) rest = (x, inl refl, k)
flat_next f x xs y (inr k) rest = let t = rest k in (t.0, inr t.1, t.2)

pub among_flat : {A B : Type 0} (f : A → List B) (xs : List A) (y : B) → Among (flat_map f xs) y → (x : A) × Among xs x × Among (f x) y
among_flat f [] y h = absurd h
among_flat f (x ∷ xs) y h = flat_next f x xs y (among_either (f x) (flat_map f xs) y h) (among_flat f xs y)

pub flat_among : {A B : Type 0} (f : A → List B) (xs : List A) (x : A) (y : B) → Among xs x → Among (f x) y → Among (flat_map f xs) y
flat_among f [] x y h k = absurd h
flat_among f (z ∷ xs) x y (inl e) k = among_left (f z) (flat_map f xs) y (subst (λ (w : _). Among (f w) y) (sym e) k)
flat_among f (z ∷ xs) x y (inr h) k = among_right (f z) (flat_map f xs) y (flat_among f xs x y h k)

module _ {A : Type 0} {S : A → A → Type 0} where
  pub reaches_join : {u v w : A} → Reaches S u v → Reaches S v w → Reaches S u w
  reaches_join (once s) q = again s q
  reaches_join (again s p) q = again s (reaches_join p q)

  pub comes_join : {u v w : A} → (u ≡ v) ⊎ Reaches S u v → Reaches S v w → Reaches S u w
  comes_join {w = w} (inl e) q = subst (λ (x : A). Reaches S x w) (sym e) q
  comes_join (inr p) q = reaches_join p q

  pub join_comes : {u v w : A} → Reaches S u v → (v ≡ w) ⊎ Reaches S v w → Reaches S u w
  join_comes {u = u} p (inl e) = subst (λ (x : A). Reaches S u x) e p
  join_comes p (inr q) = reaches_join p q

  pub comes_comes : {u v w : A} → (u ≡ v) ⊎ Reaches S u v → (v ≡ w) ⊎ Reaches S v w → (u ≡ w) ⊎ Reaches S u w
  comes_comes {u = u} p (inl e) = subst (λ (x : A). (u ≡ x) ⊎ Reaches S u x) e p
  comes_comes p (inr q) = inr (comes_join p q)

  pub first_step : {u v : A} → Reaches S u v → (w : A) × S u w × ((w ≡ v) ⊎ Reaches S w v)
  first_step {v = v} (once s) = (v, s, inl refl)
  first_step (again {v = w} s p) = (w, s, inr p)

  pub last_step : {u v : A} → Reaches S u v → (w : A) × S w v
  last_step {u = u} (once s) = (u, s)
  last_step (again s p) = last_step p

pub reaches_each : {A : Type 0} {S T : A → A → Type 0} → ((u v : A) → S u v → T u v) → {u v : A} → Reaches S u v → Reaches T u v
reaches_each f (once {u = u} {v = v} s) = once (f u v s)
reaches_each f (again {u = u} {v = v} s p) = again (f u v s) (reaches_each f p)

pub get_among : {A : Type 0} (xs : List A) (k : ℕ) (x : A) → slice_get xs k ≡ Some x → Among xs x
get_among [] k x h = absurd (cc)
get_among (y ∷ xs) zero x h = inl (same_some h)
get_among (y ∷ xs) (suc k) x h = inr (get_among xs k x h)

-- nothing of the kind is among the items so far
pub none_more : {A : Type 0} (P : A → Type 0) (xs : List A) (k : ℕ) (x : A) → slice_get xs k ≡ Some x → ((y : A) → P y → Among (take k xs) y → ⊥) → (P x → ⊥)
    → (y : A) → P y → Among (take (k + 1) xs) y → ⊥
none_more {A = A} P xs k x at before other y p h = go (among_either (take k xs) (x ∷ []) y (subst (λ (zs : List A). Among zs y) (take_next xs k x at) h))
  where
    go : Among (take k xs) y ⊎ Among (x ∷ []) y → ⊥
    go (inl b) = before y p b
    go (inr (inl e)) = other (subst P (sym e) p)
    go (inr (inr b)) = b

pub none_at_all : {A : Type 0} (P : A → Type 0) (xs : List A) (k : ℕ) → length xs ≤ k → ((y : A) → P y → Among (take k xs) y → ⊥) → (y : A) → P y → Among xs y → ⊥
none_at_all {A = A} P xs k end before y p h = before y p (subst (λ (zs : List A). Among zs y) (sym (take_all k xs end)) h)

-- a list that got one part after another
pub two_pushed : {A : Type 0} (old mid new first second : List A) → mid ≡ old ++ first → new ≡ mid ++ second → new ≡ old ++ (first ++ second)
two_pushed {A = A} old mid new first second e f = f ∙ ap (λ (l : List A). l ++ second) e ∙ append_assoc old first second

-- an item that isn't of the kind
pub none_next : {A : Type 0} (P : A → Type 0) (xs : List A) (k : ℕ) → k < length xs → ((x : A) → slice_get xs k ≡ Some x → P x → ⊥) → ((y : A) → P y → Among (take k xs) y → ⊥)
    → (y : A) → P y → Among (take (k + 1) xs) y → ⊥
none_next P xs k low other before = let t = item_below xs k low in none_more P xs k t.0 t.1 before (other t.0 t.1)
