-- What a part gives of the elements of a list, one after another, and where each stands that it gives.
use Rattle.std.proofs.Common.{◌≡◌, ℕ, zero, suc, ◌+◌, ◌<◌, ◌≤◌, ◌⊎◌, Bool, true, false, cond, List, [], ◌∷◌, ◌++◌, length, filter, take, slice_get, Option, Some, None, is_some, refl, sym, ap, subst, ◌∙◌, inl, inr, arith}
use Rattle.std.specs.Option.{option_to_list}
use Rattle.fp_base.proofs.Options.{same_some}

-- those that it gives, from a position on
abbrev pub listed : {E X : Type 0} → (ℕ → E → Option X) → ℕ → List E → List X
listed part at [] = []
listed part at (e ∷ more) = option_to_list (part at e) ++ listed part (at + 1) more

-- how many pass before a position
abbrev pub count : {E : Type 0} → (E → Bool) → List E → ℕ → ℕ
count test es at = length (filter test (take at es))

abbrev pub one_if : Bool → ℕ
one_if true = 1
one_if false = 0

-- where it stands what is given of the element at a position
pub record IsGivenAt {E X : Type 0} (part : ℕ → E → Option X) (test : E → Bool) (es : List E) (base n : ℕ) (x : X) : Type 0 where
  pub at : ℕ
  pub element : E
  pub here : slice_get es at ≡ Some element
  pub gives : part (base + at) element ≡ Some x
  pub number : n ≡ count test es at

-- ---- counting

module _ {E : Type 0} (test : E → Bool) where
  counted : (b : Bool) (e : E) (es : List E) → length (cond b (e ∷ es) es) ≡ one_if b + length es
  counted true e es = omega arith
  counted false e es = omega arith

  -- one element more in front
  pub count_next : (e : E) (es : List E) (at : ℕ) → count test (e ∷ es) (suc at) ≡ one_if (test e) + count test es at
  count_next e es at = counted (test e) e (filter test (take at es))

  pub count_rises : (es : List E) (i j : ℕ) → i ≤ j → count test es i ≤ count test es j
  count_rises [] zero zero h = omega arith
  count_rises [] zero (suc j) h = omega arith
  count_rises [] (suc i) zero h = omega arith
  count_rises [] (suc i) (suc j) h = omega arith
  count_rises (e ∷ es) zero j h = omega arith
  count_rises (e ∷ es) (suc i) zero h = absurd (omega arith)
  count_rises (e ∷ es) (suc i) (suc j) h =
      let rest = count_rises es i j (omega arith) in
      let a = count_next e es i in let b = count_next e es j in
      omega (arith, rest, a, b)

  -- past one that passes
  pub count_past : (es : List E) (at : ℕ) (e : E) → slice_get es at ≡ Some e → test e ≡ true → count test es (suc at) ≡ suc (count test es at)
  count_past [] at e h t = absurd cc
  count_past (x ∷ es) zero e h t =
      let a = count_next x es zero in
      let one : one_if (test x) ≡ 1 = ap (λ (b : Bool). one_if b) (ap test (same_some h) ∙ t) in
      omega (arith, a, one)
  count_past (x ∷ es) (suc at) e h t =
      let rest = count_past es at e h t in
      let a = count_next x es at in let b = count_next x es (suc at) in
      omega (arith, rest, a, b)

  -- past one that doesn't
  pub count_stays : (es : List E) (at : ℕ) (e : E) → slice_get es at ≡ Some e → test e ≡ false → count test es (suc at) ≡ count test es at
  count_stays [] at e h t = absurd cc
  count_stays (x ∷ es) zero e h t =
      let a = count_next x es zero in
      let none : one_if (test x) ≡ 0 = ap (λ (b : Bool). one_if b) (ap test (same_some h) ∙ t) in
      omega (arith, a, none)
  count_stays (x ∷ es) (suc at) e h t =
      let rest = count_stays es at e h t in
      let a = count_next x es at in let b = count_next x es (suc at) in
      omega (arith, rest, a, b)

  pub count_grows : (es : List E) (i j : ℕ) (e : E) → slice_get es i ≡ Some e → test e ≡ true → i < j → count test es i < count test es j
  count_grows es i j e h t l =
      let a = count_past es i e h t in let b = count_rises es (suc i) j (omega arith) in omega (arith, a, b)

  before_same_or_behind : (i j : ℕ) → (i ≡ j) ⊎ ((i < j) ⊎ (j < i))
  before_same_or_behind i j = grind arith

  -- of those that pass, no two have one number
  pub count_once : (es : List E) (i j : ℕ) (d e : E) → slice_get es i ≡ Some d → test d ≡ true → slice_get es j ≡ Some e → test e ≡ true
      → count test es i ≡ count test es j → i ≡ j
  count_once es i j d e h t k s same = go (before_same_or_behind i j)
    where
      go : (i ≡ j) ⊎ ((i < j) ⊎ (j < i)) → i ≡ j
      go (inl q) = q
      go (inr (inl l)) = let a = count_grows es i j d h t l in absurd (omega (arith, a, same))
      go (inr (inr l)) = let a = count_grows es j i e k s l in absurd (omega (arith, a, same))

  pub count_below : (es : List E) (at : ℕ) (e : E) → slice_get es at ≡ Some e → test e ≡ true → count test es at < length (filter test es)
  count_below [] at e h t = absurd cc
  count_below (x ∷ es) zero e h t =
      let all = counted (test x) x (filter test es) in
      let one : one_if (test x) ≡ 1 = ap (λ (b : Bool). one_if b) (ap test (same_some h) ∙ t) in
      omega (arith, all, one)
  count_below (x ∷ es) (suc at) e h t =
      let rest = count_below es at e h t in
      let a = count_next x es at in
      let all = counted (test x) x (filter test es) in
      omega (arith, rest, a, all)

-- ---- what is given

module _ {E X : Type 0} (part : ℕ → E → Option X) (test : E → Bool) (same : (at : ℕ) (e : E) → is_some (part at e) ≡ test e) where
  begins : (o : Option X) (x : X) (rest : List X) → o ≡ Some x → slice_get (option_to_list o ++ rest) 0 ≡ Some x
  begins None x rest h = absurd cc
  begins (Some y) x rest h = h

  behind : (o : Option X) (b : Bool) (n : ℕ) (rest : List X) → is_some o ≡ b → slice_get (option_to_list o ++ rest) (one_if b + n) ≡ slice_get rest n
  behind None true n rest h = absurd cc
  behind None false n rest h = let e : 0 + n ≡ n = omega arith in ap (λ (k : ℕ). slice_get rest k) e
  behind (Some y) true n rest h = let e : 1 + n ≡ suc n = omega arith in ap (λ (k : ℕ). slice_get (y ∷ rest) k) e
  behind (Some y) false n rest h = absurd cc

  pub given_here : (es : List E) (base at j : ℕ) (e : E) (x : X) → slice_get es at ≡ Some e → j ≡ base + at → part j e ≡ Some x
      → slice_get (listed part base es) (count test es at) ≡ Some x
  given_here [] base at j e x h p g = absurd cc
  given_here (d ∷ es) base zero j e x h p g =
      begins (part base d) x (listed part (base + 1) es)
      (let q : base ≡ j = omega arith in ap (λ (n : ℕ). part n d) q ∙ (ap (part j) (same_some h) ∙ g))
  given_here (d ∷ es) base (suc at) j e x h p g =
      ap (λ (n : ℕ). slice_get (option_to_list (part base d) ++ listed part (base + 1) es) n) (count_next test d es at)
      ∙ (behind (part base d) (test d) (count test es at) (listed part (base + 1) es) (same base d)
      ∙ given_here es (base + 1) at j e x h (omega arith) g)

  shifted : (d : E) (es : List E) (base n m : ℕ) (x : X) → IsGivenAt part test es (base + 1) n x → m ≡ one_if (test d) + n → IsGivenAt part test (d ∷ es) base m x
  shifted d es base n m x g e = record {
    at = suc g.at;
    element = g.element;
    here = g.here;
    gives = (let q : base + suc g.at ≡ base + 1 + g.at = omega arith in ap (λ (k : ℕ). part k g.element) q ∙ g.gives);
    number = e ∙ (ap (λ (k : ℕ). one_if (test d) + k) g.number ∙ sym (count_next test d es g.at));
  }

  pub given_back : (es : List E) (base n : ℕ) (x : X) → slice_get (listed part base es) n ≡ Some x → IsGivenAt part test es base n x
  given_back [] base n x h = absurd cc
  given_back (d ∷ es) base n x h = go (part base d) (test d) refl refl (same base d) n h (λ m. given_back es (base + 1) m x)
    where
      go : (o : Option X) (b : Bool) → part base d ≡ o → test d ≡ b → is_some (part base d) ≡ test d → (n : ℕ) → slice_get (option_to_list o ++ listed part (base + 1) es) n ≡ Some x
          → ((m : ℕ) → slice_get (listed part (base + 1) es) m ≡ Some x → IsGivenAt part test es (base + 1) m x)
          → IsGivenAt part test (d ∷ es) base n x
      go None true is t s n k rest = absurd cc
      go None false is t s n k rest =
          shifted d es base n n x (rest n k) (let z : one_if (test d) ≡ 0 = ap (λ (b : Bool). one_if b) t in omega (arith, z))
      go (Some y) b is t s zero k rest = record {
        at = 0;
        element = d;
        here = refl;
        gives = (let q : base + 0 ≡ base = omega arith in ap (λ (j : ℕ). part j d) q ∙ (is ∙ k));
        number = refl;
      }
      go (Some y) false is t s (suc n) k rest = absurd cc
      go (Some y) true is t s (suc n) k rest =
          shifted d es base n (suc n) x (rest n k) (let z : one_if (test d) ≡ 1 = ap (λ (b : Bool). one_if b) t in omega (arith, z))

  given_length : (o : Option X) (b : Bool) (rest : List X) → is_some o ≡ b → length (option_to_list o ++ rest) ≡ one_if b + length rest
  given_length None true rest h = absurd cc
  given_length None false rest h = omega arith
  given_length (Some y) true rest h = omega arith
  given_length (Some y) false rest h = absurd cc

  pub listed_length : (es : List E) (base : ℕ) → length (listed part base es) ≡ length (filter test es)
  listed_length [] base = refl
  listed_length (d ∷ es) base =
      given_length (part base d) (test d) (listed part (base + 1) es) (same base d)
      ∙ (ap (λ (n : ℕ). one_if (test d) + n) (listed_length es (base + 1)) ∙ sym (counted test (test d) d (filter test es)))

-- from the beginning
pub from_zero : {E X : Type 0} (part : ℕ → E → Option X) (at : ℕ) (e : E) (x : X) → part (0 + at) e ≡ Some x → part at e ≡ Some x
from_zero part at e x h = let zero : 0 + at ≡ at = omega arith in subst (λ (k : ℕ). part k e ≡ Some x) zero h
