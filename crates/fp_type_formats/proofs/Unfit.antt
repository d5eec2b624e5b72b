-- What fields print, by flags of the parameters that are no integers.
use Rattle.std.proofs.Common.{◌≡◌, ℕ, zero, suc, ◌+◌, Bool, true, false, List, [], ◌∷◌, ◌++◌, length, take, slice_get, Option, Some, refl, sym, ap, subst}
use Rattle.fp_base.proofs.Lists.{take_next}
use Rattle.fp_base.proofs.Options.{same_some}
use Rattle.fp_base.specs.declared.refusal.Refusal.{Refusal}
use Rattle.fp_base.specs.Least.{IsLeast}
use Rattle.fp_tree.specs.declared.dictionary.Event.{Event}
use Rattle.fp_tree.specs.declared.part.Formal.{Formal}
use Rattle.fp_tree.specs.declared.type_name.TypeForm.{TypeForm}
use Rattle.fp_meaning.specs.declared.item.Item.{Item}
use Rattle.fp_meaning.specs.Names.{Path}
use Rattle.fp_type_formats.specs.Broken.{BrokenByEvent, BrokenByFields, PrintsNoInteger}
use Rattle.fp_type_formats.specs.Integers.{NamesNoInteger}
use Rattle.fp_type_formats.specs.Sorted.{AreUnfit, IsUnfit, unfit_at}
use Rattle.fp_type_formats.proofs.Judged.{least_of_fields}

-- one answer for all fields
pub always : (b : Bool) (k : ℕ) → unfit_at (b ∷ []) b k ≡ b
always b zero = refl
always b (suc k) = refl

module _ (is : List Item) (scope : Path) where
  pub yes_unfit : (t : TypeForm) (b : Bool) → IsUnfit is scope t b → b ≡ true → NamesNoInteger is 256 scope t
  yes_unfit t true h e = h
  yes_unfit t false h e = absurd (cc)

  pub no_unfit : (t : TypeForm) (b : Bool) → IsUnfit is scope t b → NamesNoInteger is 256 scope t → b ≡ true
  no_unfit t true h k = refl
  no_unfit t false h k = absurd (h k)

  pub as_many_flags : (xs : List Formal) (bs : List Bool) → AreUnfit is scope xs bs → length bs ≡ length xs
  as_many_flags [] [] h = refl
  as_many_flags [] (b ∷ bs) h = absurd h
  as_many_flags (x ∷ xs) [] h = absurd h
  as_many_flags (x ∷ xs) (b ∷ bs) h = ap (λ (n : ℕ). suc n) (as_many_flags xs bs h.1)

  prints_further : (x : Formal) (xs : List Formal) (k : ℕ) → PrintsNoInteger is scope xs k → PrintsNoInteger is scope (x ∷ xs) (suc k)
  prints_further x xs k (y, at, h) = (y, at, h)

  pub prints_none : (xs : List Formal) (bs : List Bool) → AreUnfit is scope xs bs → (k : ℕ) → unfit_at bs false k ≡ true → PrintsNoInteger is scope xs k
  prints_none [] [] h k e = absurd (cc)
  prints_none [] (b ∷ bs) h k e = absurd h
  prints_none (x ∷ xs) [] h k e = absurd h
  prints_none (x ∷ xs) (b ∷ bs) h zero e = (x, refl, yes_unfit x.of.form b h.0 e)
  prints_none (x ∷ xs) (b ∷ bs) h (suc k) e = prints_further x xs k (prints_none xs bs h.1 k e)

  pub flagged : (xs : List Formal) (bs : List Bool) → AreUnfit is scope xs bs → (k : ℕ) → PrintsNoInteger is scope xs k → unfit_at bs false k ≡ true
  flagged [] [] h k (y, at, u) = absurd (cc)
  flagged [] (b ∷ bs) h k p = absurd h
  flagged (x ∷ xs) [] h k p = absurd h
  flagged (x ∷ xs) (b ∷ bs) h zero (y, at, u) =
      no_unfit x.of.form b h.0 (subst (λ (z : Formal). NamesNoInteger is 256 scope z.of.form) (sym (same_some at)) u)
  flagged (x ∷ xs) (b ∷ bs) h (suc k) (y, at, u) = flagged xs bs h.1 k (y, at, u)

  -- ---- one after another

  pub none_flagged : (xs : List Formal) → AreUnfit is scope (take 0 xs) []
  none_flagged xs = tt

  one_flagged : (xs : List Formal) (bs : List Bool) (x : Formal) (b : Bool) → AreUnfit is scope xs bs → IsUnfit is scope x.of.form b → AreUnfit is scope (xs ++ x ∷ []) (bs ++ b ∷ [])
  one_flagged [] [] x b h u = (u, tt)
  one_flagged [] (c ∷ bs) x b h u = absurd h
  one_flagged (y ∷ xs) [] x b h u = absurd h
  one_flagged (y ∷ xs) (c ∷ bs) x b h u = (h.0, one_flagged xs bs x b h.1 u)

  pub next_flagged : (xs : List Formal) (k : ℕ) (x : Formal) (old new : List Bool) (b : Bool) → slice_get xs k ≡ Some x → AreUnfit is scope (take k xs) old → IsUnfit is scope x.of.form b
      → new ≡ old ++ b ∷ [] → AreUnfit is scope (take (k + 1) xs) new
  next_flagged xs k x old new b at h u e =
      subst (λ (l : List Formal). AreUnfit is scope l new) (sym (take_next xs k x at)) (subst (λ (l : List Bool). AreUnfit is scope (take k xs ++ x ∷ []) l) (sym e) (one_flagged (take k xs) old x b h u))

  -- ---- an event

  pub event_least : (e : Event) (o : Option Refusal) (bs cs : List Bool) (xs : List Formal) → xs ≡ e.formals → cs ≡ bs → AreUnfit is scope xs bs
      → IsLeast (BrokenByFields e.format.text e.format.at.first (length cs) (λ k. unfit_at cs false k ≡ true)) o → IsLeast (BrokenByEvent is scope e) o
  event_least e o bs cs xs same flags h l =
      let g : AreUnfit is scope e.formals bs = subst (λ (ys : List Formal). AreUnfit is scope ys bs) same h in
      let text = e.format.text in
      let place = e.format.at.first in
      let m : IsLeast (BrokenByFields text place (length bs) (λ k. unfit_at bs false k ≡ true)) o
      = subst (λ (ds : List Bool). IsLeast (BrokenByFields text place (length ds) (λ k. unfit_at ds false k ≡ true)) o) flags l in
      least_of_fields text place (length e.formals) (λ k. unfit_at bs false k ≡ true) (PrintsNoInteger is scope e.formals) (prints_none e.formals bs g) (flagged e.formals bs g)
      (subst (λ (n : ℕ). IsLeast (BrokenByFields text place n (λ k. unfit_at bs false k ≡ true)) o) (as_many_flags e.formals bs g) m)
