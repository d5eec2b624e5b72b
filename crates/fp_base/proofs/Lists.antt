-- What a list has at an index, and what holds of each of its items.
use Rattle.std.proofs.Common.{◌≡◌, ℕ, zero, suc, ◌+◌, ◌-◌, ◌<◌, ◌≤◌, Bool, true, List, [], ◌∷◌, ◌++◌, length, map, flat_map, take, drop, get_or, slice_get, slice_range, Option, Some, None, refl, sym, ap, ◌∙◌, subst, arith}
use Rattle.std.specs.Prelude.{is_some, nat_lt}
use Rattle.std.specs.List.{AllByRecursion, Contains, list_all, list_any, slice_index_or}
use Rattle.std.proofs.lemmas.Bool.Decides.{nat_tests}
use Rattle.std.proofs.lemmas.List.Elements.{All-contains, All-from_recursion, Contains-get_or, recursion_from_All}
use Rattle.std.proofs.lemmas.List.{drop_all, take-append-le, take_all, take_more}
use Rattle.std.proofs.lemmas.Option.{get_or_from_slice_get, slice_get_within}
use Rattle.fp_base.proofs.Bools.{both}
use Rattle.fp_base.proofs.Options.{same_some}

pub get_front : {A : Type 0} (xs ys : List A) (k : ℕ) (x : A) → slice_get xs k ≡ Some x → slice_get (xs ++ ys) k ≡ Some x
get_front [] ys k x h = absurd (cc)
get_front (y ∷ xs) ys zero x h = h
get_front (y ∷ xs) ys (suc k) x h = get_front xs ys k x h

pub get_last : {A : Type 0} (xs : List A) (x : A) → slice_get (xs ++ x ∷ []) (length xs) ≡ Some x
get_last [] x = refl
get_last (y ∷ xs) x = get_last xs x

pub get_within : {A : Type 0} (xs : List A) (k : ℕ) (x : A) → slice_get xs k ≡ Some x → k < length xs
get_within xs k x h = slice_get_within xs k x h

there_below : {A : Type 0} (xs : List A) (k : ℕ) → k < length xs → is_some (slice_get xs k) ≡ true
there_below [] k h = absurd (omega arith)
there_below (x ∷ xs) zero h = refl
there_below (x ∷ xs) (suc k) h = let low : k < length xs = omega arith in there_below xs k low

pub get_below : {A : Type 0} (xs : List A) (k : ℕ) → nat_lt k (length xs) ≡ true → is_some (slice_get xs k) ≡ true
get_below xs k h = let low : k < length xs = grind (arith, nat_tests) in there_below xs k low

pub take_next : {A : Type 0} (xs : List A) (k : ℕ) (x : A) → slice_get xs k ≡ Some x → take (k + 1) xs ≡ take k xs ++ x ∷ []
take_next xs k x h = let on : suc k ≡ k + 1 = omega arith in ap (λ n. take n xs) (sym on) ∙ step xs k x h
  where
    step : {A : Type 0} (xs : List A) (k : ℕ) (x : A) → slice_get xs k ≡ Some x → take (suc k) xs ≡ take k xs ++ x ∷ []
    step [] k x h = absurd (cc)
    step (y ∷ xs) zero x h = ap (λ z. z ∷ []) (same_some h)
    step (y ∷ xs) (suc k) x h = ap (λ zs. y ∷ zs) (step xs k x h)

pub taken_next : {A : Type 0} (xs : List A) (k : ℕ) (x : A) → k < length xs → x ≡ get_or xs k x → take (k + 1) xs ≡ take k xs ++ x ∷ []
taken_next xs k x low is = take_more xs k x low ∙ ap (λ y. take k xs ++ y ∷ []) (sym is)

pub take_none : {A : Type 0} (xs : List A) → take 0 xs ≡ []
take_none [] = refl
take_none (x ∷ xs) = refl

pub front_of : {A : Type 0} (xs front : List A) (at : ℕ) → front ≡ slice_range xs 0 at → front ≡ take at xs
front_of xs front at e = let same : at - 0 ≡ at = omega arith in e ∙ ap (λ (n : ℕ). take n (drop 0 xs)) same ∙ ap (take at) (none_dropped xs)
  where
    none_dropped : {A : Type 0} (ys : List A) → drop 0 ys ≡ ys
    none_dropped [] = refl
    none_dropped (y ∷ ys) = refl

pub drop_next : {A : Type 0} (xs : List A) (k : ℕ) (x : A) → slice_get xs k ≡ Some x → drop k xs ≡ x ∷ drop (suc k) xs
drop_next [] k x e = absurd (cc)
drop_next (y ∷ xs) zero x e = ap (λ z. z ∷ xs) (same_some e)
drop_next (y ∷ xs) (suc k) x e = drop_next xs k x e

pub drop_here : {A : Type 0} (xs : List A) (k : ℕ) (x : A) → slice_get xs k ≡ Some x → drop k xs ≡ x ∷ drop (k + 1) xs
drop_here xs k x e = let on : suc k ≡ k + 1 = omega arith in drop_next xs k x e ∙ ap (λ n. x ∷ drop n xs) on

pub drop_past : {A : Type 0} (xs : List A) (k : ℕ) → slice_get xs k ≡ None → drop k xs ≡ []
drop_past [] zero e = refl
drop_past [] (suc k) e = refl
drop_past (y ∷ ys) zero e = absurd (cc)
drop_past (y ∷ ys) (suc k) e = drop_past ys k e

pub drop_over : {A : Type 0} (xs : List A) (n : ℕ) → length xs ≤ n → drop n xs ≡ []
drop_over xs n h = drop_all n xs h

pub split_at : {A : Type 0} (xs : List A) (k : ℕ) (x : A) → slice_get xs k ≡ Some x → xs ≡ take k xs ++ x ∷ drop (suc k) xs
split_at [] k x e = absurd (cc)
split_at (y ∷ xs) zero x e = ap (λ z. z ∷ xs) (same_some e)
split_at (y ∷ xs) (suc k) x e = ap (λ zs. y ∷ zs) (split_at xs k x e)

pub get_before : {A : Type 0} (xs ys : List A) (k : ℕ) → k < length xs → slice_get (xs ++ ys) k ≡ slice_get xs k
get_before [] ys k l = absurd (omega arith)
get_before (x ∷ xs) ys zero l = refl
get_before (x ∷ xs) ys (suc k) l = let low : k < length xs = omega arith in get_before xs ys k low

-- what one list has, a list that is the same has
pub get_along : {A : Type 0} {xs ys : List A} (k : ℕ) (x : A) → xs ≡ ys → slice_get xs k ≡ Some x → slice_get ys k ≡ Some x
get_along {A = A} k x e h = subst (λ (l : List A). slice_get l k ≡ Some x) e h

pub no_item : {A B : Type 0} (k : ℕ) (x : A) → slice_get [] k ≡ Some x → B
no_item k x e = absurd (cc)

pub past_end : {A : Type 0} (xs : List A) (k : ℕ) → slice_get xs k ≡ None → length xs ≤ k
past_end [] k e = omega arith
past_end (x ∷ xs) zero e = absurd (cc)
past_end (x ∷ xs) (suc k) e = let l = past_end xs k e in omega arith

pub told_within : {A : Type 0} (xs : List A) (k : ℕ) (x : A) → slice_get xs k ≡ Some x → nat_lt k (length xs) ≡ true
told_within xs k x h = let low : k < length xs = slice_get_within xs k x h in grind (arith, nat_tests)

pub get_at : {A : Type 0} (xs : List A) (i : ℕ) (x y : A) → i < length xs → x ≡ get_or xs i y → slice_get xs i ≡ Some x
get_at [] i x y lt is = absurd (omega arith)
get_at (z ∷ zs) zero x y lt is = ap (λ w. Some w) (sym is)
get_at (z ∷ zs) (suc i) x y lt is = get_at zs i x y (omega arith) is

pub same_default : {A : Type 0} (xs : List A) (k : ℕ) (d e : A) → k < length xs → get_or xs k d ≡ get_or xs k e
same_default [] k d e l = absurd (omega arith)
same_default (x ∷ xs) zero d e l = refl
same_default (x ∷ xs) (suc k) d e l = same_default xs k d e (omega arith)

pub head_same : {A : Type 0} (x y : A) (xs ys : List A) → x ∷ xs ≡ y ∷ ys → x ≡ y
head_same x y xs ys e = cc

pub tail_same : {A : Type 0} (x y : A) (xs ys : List A) → x ∷ xs ≡ y ∷ ys → xs ≡ ys
tail_same x y xs ys e = cc

pub same_joined : {A : Type 0} {x y : A} {xs ys : List A} → x ≡ y → xs ≡ ys → x ∷ xs ≡ y ∷ ys
same_joined e f = cc

pub drop_head : {A : Type 0} (xs : List A) (n : ℕ) (x : A) (rest : List A) → drop n xs ≡ x ∷ rest → (slice_get xs n ≡ Some x) × (rest ≡ drop (suc n) xs)
drop_head [] zero x rest h = absurd (cc)
drop_head [] (suc n) x rest h = absurd (cc)
drop_head (y ∷ xs) zero x rest h = let here : y ≡ x = cc in let behind : xs ≡ rest = cc in (ap Some here, sym behind)
drop_head (y ∷ xs) (suc n) x rest h = drop_head xs n x rest h

pub written_back : {A : Type 0} (n : ℕ) (xs ys : List A) → n ≡ length ys → length xs ≡ length ys → take n (xs ++ drop (length xs) ys) ≡ xs
written_back n xs ys e d = take-append-le n xs (drop (length xs) ys) (omega arith) ∙ take_all n xs (omega arith)

pub one_item : {A : Type 0} {x y : A} (k : ℕ) → slice_get (x ∷ []) k ≡ Some y → x ≡ y
one_item zero e = same_some e
one_item (suc k) e = absurd (cc)

pub no_items : {A : Type 0} (xs : List A) → length xs ≡ 0 → xs ≡ []
no_items [] e = refl
no_items (x ∷ xs) e = absurd (omega arith)

pub same_items : {A : Type 0} (xs ys : List A) → length xs ≡ length ys → ((k : ℕ) (x y : A) → slice_get xs k ≡ Some x → slice_get ys k ≡ Some y → x ≡ y) → xs ≡ ys
same_items [] [] e h = refl
same_items [] (y ∷ ys) e h = absurd (omega (arith, e))
same_items (x ∷ xs) [] e h = absurd (omega (arith, e))
same_items {A = A} (x ∷ xs) (y ∷ ys) e h =
    ap (λ (z : A). z ∷ xs) (h 0 x y refl refl) ∙ ap (λ (zs : List A). y ∷ zs) (same_items xs ys (omega (arith, e)) (λ k a b p q. h (suc k) a b p q))

pub all_get : {A : Type 0} (p : A → Bool) (xs : List A) (k : ℕ) (x : A) → list_all p xs ≡ true → slice_get xs k ≡ Some x → p x ≡ true
all_get p [] k x h e = absurd (cc)
all_get p (y ∷ xs) zero x h e = subst (λ z. p z ≡ true) (same_some e) (both (p y) (list_all p xs) h).0
all_get p (y ∷ xs) (suc k) x h e = all_get p xs k x (both (p y) (list_all p xs) h).1 e

pub any_same : {A : Type 0} (p q : A → Bool) → ((x : A) → p x ≡ q x) → (xs : List A) → list_any p xs ≡ list_any q xs
any_same p q same [] = refl
any_same p q same (x ∷ xs) = rw (same x, any_same p q same xs) refl

-- of what an option holds
abbrev pub InOption : {A : Type 0} → (A → Type 0) → Option A → Type 0
InOption P None = Unit {0}
InOption P (Some x) = P x

module _ {A : Type 0} (P : A → Type 0) where
  pub each_append : (xs ys : List A) → AllByRecursion P xs → AllByRecursion P ys → AllByRecursion P (xs ++ ys)
  each_append [] ys h k = k
  each_append (x ∷ xs) ys h k = (h.0, each_append xs ys h.1 k)

  pub each_before : (xs ys : List A) → AllByRecursion P (xs ++ ys) → AllByRecursion P xs
  each_before [] ys h = tt
  each_before (x ∷ xs) ys h = (h.0, each_before xs ys h.1)

  pub each_behind : (xs ys : List A) → AllByRecursion P (xs ++ ys) → AllByRecursion P ys
  each_behind [] ys h = h
  each_behind (x ∷ xs) ys h = each_behind xs ys h.1

  pub each_push : (xs : List A) (x : A) → AllByRecursion P xs → P x → AllByRecursion P (xs ++ x ∷ [])
  each_push xs x h k = each_append xs (x ∷ []) h (k, tt)

  pub each_flat : {B : Type 0} (f : B → List A) (ys : List B) → AllByRecursion (λ y. AllByRecursion P (f y)) ys → AllByRecursion P (flat_map f ys)
  each_flat f [] h = tt
  each_flat f (y ∷ ys) h = each_append (f y) (flat_map f ys) h.0 (each_flat f ys h.1)

  pub each_mapped : {B : Type 0} (f : B → A) (ys : List B) → AllByRecursion (λ y. P (f y)) ys → AllByRecursion P (map f ys)
  each_mapped f [] h = tt
  each_mapped f (y ∷ ys) h = (h.0, each_mapped f ys h.1)

  pub each_of_any : ((x : A) → P x) → (xs : List A) → AllByRecursion P xs
  each_of_any any [] = tt
  each_of_any any (x ∷ xs) = (any x, each_of_any any xs)

  pub each_contained : (xs : List A) → ((x : A) → Contains xs x → P x) → AllByRecursion P xs
  each_contained xs h = recursion_from_All P xs (λ k d lt. h (slice_index_or xs k d) (Contains-get_or xs k d lt))

  pub of_contained : (xs : List A) (x : A) → AllByRecursion P xs → Contains xs x → P x
  of_contained xs x h c = All-contains P xs x (All-from_recursion P xs h) c

  pub of_item : (xs : List A) (k : ℕ) (x : A) → AllByRecursion P xs → slice_get xs k ≡ Some x → P x
  of_item xs k x h e = subst P (get_or_from_slice_get xs k x x e) (All-from_recursion P xs h k x (slice_get_within xs k x e))

pub each_weaker : {A : Type 0} (P Q : A → Type 0) → ((x : A) → P x → Q x) → (xs : List A) → AllByRecursion P xs → AllByRecursion Q xs
each_weaker P Q to [] h = tt
each_weaker P Q to (x ∷ xs) h = (to x h.0, each_weaker P Q to xs h.1)

pub each_item : {A : Type 0} (P : A → Type 0) (xs : List A) → ((k : ℕ) (x : A) → slice_get xs k ≡ Some x → P x) → AllByRecursion P xs
each_item P [] h = tt
each_item P (x ∷ xs) h = (h 0 x refl, each_item P xs (λ k y e. h (suc k) y e))

pub each_part : {A B : Type 0} (P : A → Type 0) (f : B → List A) (xs : List B) → AllByRecursion P (flat_map f xs) → AllByRecursion (λ (x : B). AllByRecursion P (f x)) xs
each_part P f [] h = tt
each_part P f (x ∷ xs) h = (each_before P (f x) (flat_map f xs) h, each_part P f xs (each_behind P (f x) (flat_map f xs) h))
