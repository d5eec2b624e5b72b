-- Entries that are put one behind another, and what a loop has taken of a list.
use Rattle.std.proofs.Common.{◌≡◌, ◌<◌, ◌≤◌, ◌+◌, ℕ, List, [], ◌∷◌, ◌++◌, length, get_or, take, map, refl, sym, subst, ap, ◌∙◌, arith}
use Rattle.std.specs.List.{enumerate_from}
use Rattle.std.proofs.lemmas.List.{take_all, take_more, map-append}
use Rattle.std.proofs.lemmas.List.FromFn.{length-enumerate_from, get_or-enumerate_from}
use Rattle.serde_json.specs.Data.{Data, Members, no_members, put}
use Rattle.fp_dictionary.specs.Objects.{Entry, with_entries}

pub with_entries-append : (es fs : List Entry) (ms : Members) → with_entries (es ++ fs) ms ≡ with_entries fs (with_entries es ms)
with_entries-append [] fs ms = refl
with_entries-append (e ∷ es) fs ms = with_entries-append es fs _

-- an item more of a list whose items are entries
pub entry_more : {A : Type 0} (f : A → Entry) (xs ys : List A) (x : A) (before after : Members) (key : List ℕ) (d : Data) → ys ≡ xs ++ x ∷ [] → before ≡ with_entries (map f xs) no_members
    → key ≡ (f x).0 → d ≡ (f x).1 → after ≡ with_entries ((key, d) ∷ []) before → after ≡ with_entries (map f ys) no_members
entry_more f xs ys x before after key d grown so_far name value there =
    there ∙ ap (λ k. put k d before) name ∙ ap (λ e. put (f x).0 e before) value ∙ ap (put (f x).0 (f x).1) so_far
    ∙ sym (with_entries-append (map f xs) (f x ∷ []) no_members) ∙ ap (λ es. with_entries es no_members) (sym (map-append f xs (x ∷ [])))
    ∙ ap (λ zs. with_entries (map f zs) no_members) (sym grown)

module _ {A : Type 0} (xs : List A) (i : ℕ) where
  pub next_item : (x y : A) → i < length xs → x ≡ get_or xs i y → take (i + 1) xs ≡ take i xs ++ x ∷ []
  next_item x y within is = take_more xs i y within ∙ ap (λ z. take i xs ++ z ∷ []) (sym is)

  pub next_numbered : (x : A) → i < length xs → x ≡ get_or xs i x → take (i + 1) (enumerate_from 0 xs) ≡ take i (enumerate_from 0 xs) ++ (i, x) ∷ []
  next_numbered x within is =
      let from_0 : 0 + i ≡ i = omega arith in
      take_more (enumerate_from 0 xs) i (0, x) (subst (λ n. i < n) (sym (length-enumerate_from 0 xs)) within)
      ∙ ap (λ (z : ℕ × A). take i (enumerate_from 0 xs) ++ z ∷ []) (get_or-enumerate_from 0 xs i (0, x) within)
      ∙ ap (λ (n : ℕ). take i (enumerate_from 0 xs) ++ (n, get_or xs i x) ∷ []) from_0
      ∙ ap (λ (z : A). take i (enumerate_from 0 xs) ++ (i, z) ∷ []) (sym is)

  pub all_numbered : length xs ≤ i → take i (enumerate_from 0 xs) ≡ enumerate_from 0 xs
  all_numbered past = take_all i (enumerate_from 0 xs) (subst (λ (n : ℕ). n ≤ i) (sym (length-enumerate_from 0 xs)) past)
