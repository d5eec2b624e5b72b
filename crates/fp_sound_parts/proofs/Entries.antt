-- What has a name and an id of its own beside what is listed of it: where no name and no id is repeated, they differ.
use Rattle.std.proofs.Common.{◌≡◌, inl, inr, ℕ, pos, true, ◌==◌, List, map, refl, sym, subst, ◌∙◌}
use Rattle.std.specs.Str.{bytes_eq}
use Rattle.fp_base.specs.Least.{IsUnbroken, broken_at}
use Rattle.fp_base.specs.declared.rule.Rule.TheVariants.{IdRepeated, NameRepeated}
use Rattle.fp_base.proofs.Numbers.{same_number}
use Rattle.fp_base.proofs.Bytes.{same_bytes}
use Rattle.fp_tables.specs.Names.{numbers_differ, texts_differ}
use Rattle.fp_tables.proofs.Indexed.{mapped_apart}
use Rattle.fp_dictdefs.specs.declared.listed.Listed.{Listed}
use Rattle.fp_dictdefs.specs.Broken.{BrokenList}
use Rattle.fp_dictdefs.specs.Ids.{HasId}
use Rattle.fp_components.specs.Resolved.{AreEach, IsId}
use Rattle.fp_sound_parts.proofs.ComponentEach.{apart_beside}
use Rattle.fp_sound_parts.proofs.ComponentListed.{listed_at}

module _ {X Y : Type 0} (is : ℕ → X → Y → Type 0) (xs : List X) (ys : List Y) (each : AreEach is xs ys) (listed : List Listed) (unbroken : IsUnbroken (BrokenList listed)) (of : X → Listed)
    (alike : listed ≡ map of xs) where
  pub names_apart : (name : Y → List ℕ) → ((k : ℕ) (x : X) (y : Y) → is k x y → name y ≡ (of x).name) → texts_differ (map name ys) ≡ true
  names_apart name named =
      mapped_apart bytes_eq name ys
      (apart_beside is xs ys each (λ x y. bytes_eq (name x) (name y) ≡ true)
      (λ j k a b x y low d e i l same.
      let first : (of a).name ≡ (of b).name = sym (named j a x i) ∙ same_bytes (name x) (name y) same ∙ named k b y l in
      unbroken (broken_at NameRepeated (of b).at)
      (inl (k, of b, listed_at of xs listed alike k b e, (refl, ((of b).name, j, low, (of a, listed_at of xs listed alike j a d, first), (of b, listed_at of xs listed alike k b e, refl)))))))

  pub ids_apart : (id : Y → ℕ) → ((k : ℕ) (x : X) (y : Y) → is k x y → IsId listed k (id y)) → numbers_differ (map id ys) ≡ true
  ids_apart id numbered =
      mapped_apart (λ m n. m == n) id ys
      (apart_beside is xs ys each (λ x y. (id x == id y) ≡ true)
      (λ j k a b x y low d e i l same.
      let first : HasId listed j (pos (id y)) = subst (λ (n : ℕ). HasId listed j (pos n)) (same_number (id x) (id y) same) (numbered j a x i) in
      unbroken (broken_at IdRepeated (of b).at) (inr (k, of b, listed_at of xs listed alike k b e, inl (refl, (pos (id y), j, low, first, numbered k b y l))))))
