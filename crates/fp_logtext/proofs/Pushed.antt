-- A row to which several parts were added, one behind another.
use Rattle.std.proofs.Common.{◌≡◌, ℕ, ◌+◌, ◌<◌, List, ◌++◌, length, take, get_or, flat_map, ap, subst, sym, ◌∙◌, Result, Ok, Err, OnOk}
use Rattle.std.proofs.lemmas.List.{append_assoc, take_more, flat_map_more}

-- `now` is `old` with this text behind it
pub record Added (old now text : List ℕ) : Type 0 where
  pub is : now ≡ old ++ text

pub first : {now : List ℕ} (old text : List ℕ) → now ≡ old ++ text → Added old now text
first old text e = record { is = e }

module _ {old now text : List ℕ} (before : Added old now text) (more : List ℕ) where
  both : (later : List ℕ) → later ≡ now ++ more → later ≡ old ++ (text ++ more)
  both later e = e ∙ ap (λ (t : List ℕ). t ++ more) before.is ∙ append_assoc old text more

  pub next : {later : List ℕ} → later ≡ now ++ more → Added old later (text ++ more)
  next {later} e = record { is = both later e }

  -- a part that is known to be equal to what was added
  pub same : {later part : List ℕ} → part ≡ more → later ≡ now ++ part → Added old later (text ++ more)
  same is e = next (e ∙ ap (λ (t : List ℕ). now ++ t) is)

  -- the last part, for which there may be no memory
  pub last : {T E : Type 0} (later : List ℕ) (r : Result T E) → OnOk r (later ≡ now ++ more) → OnOk r (later ≡ old ++ (text ++ more))
  last later (Ok v) e = both later e
  last later (Err e) h = tt

  pub last_same : {T E : Type 0} {part : List ℕ} → part ≡ more → (later : List ℕ) (r : Result T E) → OnOk r (later ≡ now ++ part) → OnOk r (later ≡ old ++ (text ++ more))
  last_same is later r h = last later r (subst (λ (t : List ℕ). OnOk r (later ≡ now ++ t)) is h)

-- what is given of one item more
pub one_item : {A : Type 0} (f : A → List ℕ) (xs : List A) (i : ℕ) (x : A) → i < length xs → x ≡ get_or xs i x → (old before now : List ℕ) →
    before ≡ old ++ flat_map f (take i xs) → now ≡ before ++ f x → now ≡ old ++ flat_map f (take (i + 1) xs)
one_item {A} f xs i x lt is old before now stood given =
    given ∙ ap (λ (bs : List ℕ). bs ++ f x) stood
    ∙ ap (λ (y : A). (old ++ flat_map f (take i xs)) ++ f y) is
    ∙ flat_map_more f old (take i xs) (get_or xs i x)
    ∙ ap (λ (ys : List A). old ++ flat_map f ys) (sym (take_more xs i x lt))
