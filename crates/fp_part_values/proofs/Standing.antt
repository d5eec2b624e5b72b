-- Type names stand where their uses have meanings, their sizes have values, and no rule is broken at them.
use Rattle.std.proofs.Common.{◌≡◌, ◌+◌, Bool, true, false, ℕ, zero, suc, ℤ, List, [], ◌∷◌, drop, flat_map, slice_get, Option, Some, None, refl, inl, inr, ap, ◌∙◌, subst}
use Rattle.std.specs.List.{AllByRecursion}
use Rattle.fp_base.proofs.Lists.{each_before, each_behind, of_item}
use Rattle.fp_base.specs.Least.{IsUnbroken}
use Rattle.fp_base.specs.declared.place.Place.{Place}
use Rattle.fp_base.specs.declared.refusal.Refusal.{Refusal}
use Rattle.fp_base.specs.declared.value.Value.{Value}
use Rattle.fp_tables.specs.declared.kind.Kind.{Kind}
use Rattle.fp_tables.specs.declared.kind.Kind.TheVariants as kind
use Rattle.fp_tree.specs.declared.expression.Expr.{Expr}
use Rattle.fp_tree.specs.declared.source.Source.{Source}
use Rattle.fp_tree.specs.declared.type_name.TypeForm.{TypeForm}
use Rattle.fp_tree.specs.declared.type_name.TypeForm.TheVariants as type
use Rattle.fp_meaning.specs.declared.item.Item.{Item}
use Rattle.fp_meaning.specs.declared.item.Item.TheVariants as item
use Rattle.fp_meaning.specs.Layout.{items, model_own_items, type_form_items}
use Rattle.fp_meaning.specs.Names.{definitions}
use Rattle.fp_meaning.specs.Origins.{Placed, expressions, expressions_of, one}
use Rattle.fp_meaning.specs.Sites.{Path, Declaration, in_optional, value_in}
use Rattle.fp_meaning.specs.Values.{Val, number_in, opened}
use Rattle.fp_type_forms.specs.declared.resolving.Resolution.{Resolution}
use Rattle.fp_type_forms.specs.Broken.{BrokenByForm, BrokenBySize, is_size}
use Rattle.fp_type_forms.specs.Resolved.{AreResolved, UseMeans}
use Rattle.fp_type_forms.specs.Written.{IsStringSize, KindIs, NumberIs, types_before}
use Rattle.fp_base.specs.declared.rule.Rule.TheVariants.{StringSize}
use Rattle.fp_type_forms.proofs.Following.{items_owned}
use Rattle.fp_type_forms.proofs.Sized.{size_number}
use Rattle.fp_part_values.specs.FormBroken.{PartFormsBroken, scope_inside}
use Rattle.fp_part_values.specs.Names.{type_names_of}
use Rattle.fp_part_values.specs.FormStanding.{AreValued, NamesStand, NumbersStand}
use Rattle.fp_part_values.proofs.Following.{OfName, names_among}

-- ---- lists

module _ {A : Type 0} (P : A → Type 0) where
  pub each_given : (xs : List A) → ((k : ℕ) (x : A) → slice_get xs k ≡ Some x → P x) → AllByRecursion P xs
  each_given [] h = tt
  each_given (x ∷ xs) h = (h 0 x refl, each_given xs (λ k. h (suc k)))

  pub each_dropped : (k : ℕ) (xs : List A) → AllByRecursion P xs → AllByRecursion P (drop k xs)
  each_dropped zero [] h = tt
  each_dropped (suc k) [] h = tt
  each_dropped zero (x ∷ xs) h = h
  each_dropped (suc k) (x ∷ xs) h = each_dropped k xs h.1

pub owned : (source : Source) (Q : Item → Type 0) (k : ℕ) (d : Declaration) → slice_get (items source) k ≡ Some (item.Declared d) → AllByRecursion Q (items source)
    → AllByRecursion Q (model_own_items d.scope d.definition)
owned source Q k d at h =
    let t = items_owned source k d at in
    each_before Q (model_own_items d.scope d.definition) t.0 (subst (λ (l : List Item). AllByRecursion Q l) t.1 (each_dropped Q (suc k) (items source) h))

-- ---- each use means something, and each expression has a value

module _ (source : Source) where
  abbrev pub HasValue : Placed → Type 0
  HasValue p = (v : Value) × Val source p.scope (opened p.expression) v

  abbrev pub Stands : Item → Type 0
  Stands (item.Used since n) = (number : ℕ) × UseMeans source n number
  Stands (item.Written since p) = HasValue p
  Stands _ = Unit {0}

  pub all_stand : (marks : List (Option Value)) (rs : List Resolution) (is : List Item) (a : ℕ) → AreResolved source marks rs is a → AllByRecursion HasValue (flat_map expressions_of is)
      → AllByRecursion Stands is
  all_stand marks rs [] a h v = tt
  all_stand marks rs (item.Defined s ∷ is) a h v =
      (tt, all_stand marks rs is (a + 1) h.1 (each_behind HasValue (in_optional (one s.scope) (value_in s.definition)) (flat_map expressions_of is) v))
  all_stand marks rs (item.Enumerated e ∷ is) a h v =
      (tt, all_stand marks rs is (a + 1) h.1 (each_behind HasValue (in_optional (one e.scope) e.constant.value) (flat_map expressions_of is) v))
  all_stand marks rs (item.Declared d ∷ is) a h v = (tt, all_stand marks rs is (a + 1) h.1 v)
  all_stand marks rs (item.Used since n ∷ is) a h v = ((h.0.2.0, h.0.2.1), all_stand marks rs is (a + 1) h.1 v)
  all_stand marks rs (item.Written since p ∷ is) a h v = (v.0, all_stand marks rs is (a + 1) h.1 v.1)

-- ---- a type name

module _ (source : Source) (scope : Path) where
  text_size : (e : Expr) (v : Value) → Val source scope (opened e) v → ((f : Refusal) → BrokenBySize source scope StringSize 65535 e f → ⊥) → (n : ℕ) × IsStringSize source scope e n
  text_size e v h sound = go (number_in v) refl
    where
      tested : (z : ℤ) → number_in v ≡ Some z → (b : Bool) → is_size 65535 z ≡ b → (n : ℕ) × IsStringSize source scope e n
      tested z is true test = let t = size_number 65535 z test in (t.0, record { number = (v, h, is ∙ ap (λ (x : ℤ). Some x) t.1); least = t.2; greatest = t.3 })
      tested z is false test = absurd (sound _ (inr (refl, z, (v, h, is), test)))

      go : (o : Option ℤ) → number_in v ≡ o → (n : ℕ) × IsStringSize source scope e n
      go None is = absurd (sound _ (inl (refl, v, h, is)))
      go (Some z) is = tested z is (is_size 65535 z) refl

  pub kind_of : (place : Place) (t : TypeForm) → AllByRecursion (Stands source) (type_form_items 0 scope t) → ((f : Refusal) → BrokenByForm source scope place t f → ⊥)
      → (k : Kind) × KindIs source scope t k
  kind_of place type.U8 h sound = (kind.U8, refl)
  kind_of place type.U16 h sound = (kind.U16, refl)
  kind_of place type.U32 h sound = (kind.U32, refl)
  kind_of place type.U64 h sound = (kind.U64, refl)
  kind_of place type.I8 h sound = (kind.I8, refl)
  kind_of place type.I16 h sound = (kind.I16, refl)
  kind_of place type.I32 h sound = (kind.I32, refl)
  kind_of place type.I64 h sound = (kind.I64, refl)
  kind_of place type.F32 h sound = absurd (sound _ refl)
  kind_of place type.F64 h sound = absurd (sound _ refl)
  kind_of place type.Bool h sound = (kind.Bool, refl)
  kind_of place (type.Text None) h sound = (kind.Str 80, refl)
  kind_of place (type.Text (Some e)) h sound = let n = text_size e h.0.0 h.0.1 sound in (kind.Str n.0, (n.0, n.1, refl))
  kind_of place (type.Use q) h sound = (kind.Named (types_before (definitions source) h.0.0), (h.0.0, h.0.1, refl))

-- ---- all of them

module _ (source : Source) (unbroken : IsUnbroken (PartFormsBroken source)) (k : ℕ) (d : Declaration) (at : slice_get (items source) k ≡ Some (item.Declared d)) where
  pub names_stand : (marks : List (Option Value)) (rs : List Resolution) → AreResolved source marks rs (items source) 0 → AreValued source → NamesStand source d.scope d.definition
  names_stand marks rs resolved valued j t there =
      let inside : Path = scope_inside d.scope d.definition in
      let stand = all_stand source marks rs (items source) 0 resolved (each_given (HasValue source) (expressions source) valued) in
      let mine = names_among (Stands source) d.scope d.definition (owned source (Stands source) k d at stand) in
      kind_of source inside t.at.first t.form (of_item (OfName (Stands source) inside) (type_names_of d.definition) j t mine there)
      (λ f broken. unbroken f (k, item.Declared d, at, inl (j, t, there, broken)))

  pub numbers_stand : NumbersStand source d.scope d.definition
  numbers_stand j e there v h = go (number_in v) refl
    where
      go : (o : Option ℤ) → number_in v ≡ o → (n : ℤ) × NumberIs source (scope_inside d.scope d.definition) e n
      go None is = absurd (unbroken _ (k, item.Declared d, at, inr (j, e, there, (refl, v, h, is))))
      go (Some n) is = (n, (v, h, is))
