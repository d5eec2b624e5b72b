-- The graph of imports as rows of numbers.
use Rattle.std.proofs.Common.{◌≡◌, ◌↔◌, ℕ, zero, suc, ◌+◌, ◌<◌, List, [], ◌∷◌, ◌++◌, length, map, take, slice_get, Option, Some, None, refl, sym, ap, subst, ◌∙◌}
use Rattle.std.specs.List.{cons_option, filter_map}
use Rattle.std.proofs.lemmas.List.Elements.{filter_map-append}
use Rattle.fp_base.proofs.Lists.{take_next}
use Rattle.fp_base.proofs.Options.{same_some}
use Rattle.fp_base.proofs.Mapped.{map_get, get_mapped, many_mapped}
use Rattle.fp_graph.specs.Rows.{IsListed}
use Rattle.fp_written_parts.specs.declared.port.WrittenImport.{WrittenImport}
use Rattle.fp_written_parts.specs.declared.member.WrittenInterface.{WrittenInterface}
use Rattle.fp_written_parts.specs.declared.member.WrittenMember.{WrittenMember}
use Rattle.fp_written_parts.specs.declared.member.WrittenMember.TheVariants.{Port, Import, Command, Event, Channel, Param, Match, Running}
use Rattle.fp_written_parts.specs.Giving.{Imports}
use Rattle.fp_component_rules.specs.Gifts.{AreWithin}
use Rattle.fp_component_rules.specs.Links.{imported_by, imported_in}

-- ---- what a filter that maps has

module _ {A B : Type 0} (f : A → Option B) where
  pub record ComesFrom (xs : List A) (y : B) : Type 0 where
    pub k : ℕ
    pub item : A
    pub here : slice_get xs k ≡ Some item
    pub is : f item ≡ Some y

  comes_next : (x : A) (xs : List A) (y : B) → ComesFrom xs y → ComesFrom (x ∷ xs) y
  comes_next x xs y c = record { k = suc c.k; item = c.item; here = c.here; is = c.is }

  pub from_filtered : (xs : List A) (k : ℕ) (y : B) → slice_get (filter_map f xs) k ≡ Some y → ComesFrom xs y
  from_filtered [] k y e = absurd (cc)
  from_filtered (x ∷ xs) k y e = go (λ j h. from_filtered xs j y h) (f x) refl k e
    where
      go : ((j : ℕ) → slice_get (filter_map f xs) j ≡ Some y → ComesFrom xs y) → (o : Option B) → f x ≡ o → (k : ℕ) → slice_get (cons_option o (filter_map f xs)) k ≡ Some y
          → ComesFrom (x ∷ xs) y
      go rest None is k e = comes_next x xs y (rest k e)
      go rest (Some z) is zero e = record { k = zero; item = x; here = refl; is = is ∙ e }
      go rest (Some z) is (suc k) e = comes_next x xs y (rest k e)

  pub to_filtered : (xs : List A) (k : ℕ) (x : A) (y : B) → slice_get xs k ≡ Some x → f x ≡ Some y → (j : ℕ) × (slice_get (filter_map f xs) j ≡ Some y)
  to_filtered [] k x y e is = absurd (cc)
  to_filtered (z ∷ xs) zero x y e is =
      let here : f z ≡ Some y = ap f (same_some e) ∙ is in
      (zero, ap (λ (o : Option B). slice_get (cons_option o (filter_map f xs)) zero) here)
  to_filtered (z ∷ xs) (suc k) x y e is = go (f z) (to_filtered xs k x y e is)
    where
      go : (o : Option B) → ((j : ℕ) × (slice_get (filter_map f xs) j ≡ Some y)) → (j : ℕ) × (slice_get (cons_option o (filter_map f xs)) j ≡ Some y)
      go None t = t
      go (Some w) t = (suc t.0, t.1)

  -- one item more
  pub filtered_next : (xs : List A) (k : ℕ) (x : A) → slice_get xs k ≡ Some x → filter_map f (take (k + 1) xs) ≡ filter_map f (take k xs) ++ filter_map f (x ∷ [])
  filtered_next xs k x e = ap (filter_map f) (take_next xs k x e) ∙ filter_map-append f (take k xs) (x ∷ [])

by_import : (m : WrittenMember) (w : ℕ) → imported_by m ≡ Some w → (i : WrittenImport) × (m ≡ Import i) × (i.interface ≡ w)
by_import (Import i) w e = (i, refl, same_some e)
by_import (Port p) w e = absurd (cc)
by_import (Command p) w e = absurd (cc)
by_import (Event p) w e = absurd (cc)
by_import (Channel p) w e = absurd (cc)
by_import (Param p) w e = absurd (cc)
by_import (Match p) w e = absurd (cc)
by_import (Running p) w e = absurd (cc)

module _ (fs : List WrittenInterface) (within : AreWithin fs) where
  abbrev rows : List (List ℕ)
  rows = map (λ (f : WrittenInterface). imported_in f.members) fs

  imports_listed : (v w : ℕ) → Imports fs v w → IsListed rows v w
  imports_listed v w i =
      let found : imported_by (Import i.import_) ≡ Some w = ap Some i.of in
      let t = to_filtered imported_by i.written.members i.k (Import i.import_) w i.member found in
      let low : w < length fs = subst (λ (n : ℕ). n < length fs) i.of (within v i.written i.here i.k i.import_ i.member) in
      record {
        row = imported_in i.written.members;
        here = map_get (λ (f : WrittenInterface). imported_in f.members) fs v i.written i.here;
        k = t.0;
        target = t.1;
        within = subst (λ (n : ℕ). w < n) (sym (many_mapped (λ (f : WrittenInterface). imported_in f.members) fs)) low;
      }

  listed_imports : (v w : ℕ) → IsListed rows v w → Imports fs v w
  listed_imports v w l =
      let t = get_mapped (λ (f : WrittenInterface). imported_in f.members) fs v l.row l.here in
      let c = from_filtered imported_by t.0.members l.k w (subst (λ (xs : List ℕ). slice_get xs l.k ≡ Some w) (sym t.2) l.target) in
      let b = by_import c.item w c.is in
      record { written = t.0; here = t.1; k = c.k; import_ = b.0; member = c.here ∙ ap Some b.1; of = b.2 }

  pub same_imports : (v w : ℕ) → Imports fs v w ↔ IsListed rows v w
  same_imports v w = (imports_listed v w, listed_imports v w)
