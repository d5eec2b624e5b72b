-- Where what is written of a type breaks no rule, its form exists, and has a size where the types that it uses have sizes.
use Rattle.std.proofs.Common.{◌≡◌, ℕ, suc, ◌+◌, ◌*◌, ◌-◌, ◌⊎◌, inl, inr, Bool, true, false, List, [], ◌∷◌, ◌++◌, length, flat_map, slice_get, Option, Some, None, refl, ap, subst, ◌∙◌, arith, length-append}
use Rattle.std.specs.Prelude.{ℤ, max}
use Rattle.std.proofs.lemmas.Grind.{flat_map-append}
use Rattle.fp_base.specs.declared.place.Place.{Place}
use Rattle.fp_base.specs.declared.refusal.Refusal.{Refusal}
use Rattle.fp_base.specs.declared.rule.Rule.{Rule}
use Rattle.fp_base.specs.declared.rule.Rule.TheVariants.{ArraySize, StringSize}
use Rattle.fp_tree.specs.declared.source.Source.{Source}
use Rattle.fp_tree.specs.declared.expression.Expr.{Expr}
use Rattle.fp_tree.specs.declared.type_name.TypeForm.{TypeForm}
use Rattle.fp_tree.specs.declared.type_name.TypeForm.TheVariants as type
use Rattle.fp_tree.specs.declared.part.Field.{Field as Member}
use Rattle.fp_tables.specs.Types.{Shape, integer}
use Rattle.fp_tables.specs.declared.kind.Kind.{Kind}
use Rattle.fp_tables.specs.declared.kind.Kind.TheVariants as kind
use Rattle.fp_tables.specs.declared.kind.Form.{Form}
use Rattle.fp_tables.specs.declared.kind.Field.{Field}
use Rattle.fp_meaning.specs.declared.group.Group.TheVariants as group
use Rattle.fp_meaning.specs.declared.item.Item.{Item}
use Rattle.fp_meaning.specs.Layout.{expression_items, type_form_items, type_items, field_items, items}
use Rattle.fp_meaning.specs.Names.{Path, definitions, definitions_of, mentioned}
use Rattle.fp_meaning.specs.Origins.{placed}
use Rattle.fp_meaning.specs.Sites.{in_optional}
use Rattle.fp_meaning.specs.Uses.{Uses}
use Rattle.fp_meaning.specs.Values.{number_in}
use Rattle.fp_type_sizes.specs.declared.written.WrittenType.{WrittenType}
use Rattle.fp_type_sizes.specs.Sizes.{IsPlain, HasForm, EndsAs, at_plain, at_form, behind_alias, Measures, plain, named, MeasuresForm, abstract_, alias, array, struct, enum, MeasuresFields, no_field, field, MeasuresMember, one, many}
use Rattle.fp_type_sizes.proofs.Limits.{HasSize}
use Rattle.fp_type_forms.specs.Broken.{BrokenByForm, BrokenByMember, BrokenBySize, ByOptional, is_size}
use Rattle.fp_type_forms.specs.Written.{AllAt, FieldIs, IsSizeTo, KindIs, SizeIs, field_with, types_before}
use Rattle.fp_type_forms.proofs.Sized.{size_number}
use Rattle.fp_source_types.proofs.Deep.{IsOf}
use Rattle.fp_source_types.proofs.Expressed.{Valued}
use Rattle.fp_source_types.proofs.Meant.{Stands}
use Rattle.fp_source_types.proofs.Standing.{AllFrom, all_behind, all_front}

-- ---- integer types

mutual
  pub some_end : {ws : List WrittenType} {k : Kind} {a b : ℕ} → Measures ws k a b → (e : Kind) × EndsAs ws k e
  some_end (plain {k = k} p) = (k, at_plain p)
  some_end (named {i = i} h m) = form_end i h m

  form_end : {ws : List WrittenType} {f : Form} {a b : ℕ} (i : ℕ) → HasForm ws i f → MeasuresForm ws f a b → (e : Kind) × EndsAs ws (kind.Named i) e
  form_end i h abstract_ = (kind.Named i, at_form h (λ x. x))
  form_end i h (alias m) = let t = some_end m in (t.0, behind_alias h t.1)
  form_end i h (array m) = (kind.Named i, at_form h (λ x. x))
  form_end i h (struct m) = (kind.Named i, at_form h (λ x. x))
  form_end i h (enum r m) = (kind.Named i, at_form h (λ x. x))

pub integer_or_not : (s : Shape) → ((low : ℤ) × (high : ℤ) × (s ≡ integer low high)) ⊎ ((low high : ℤ) → s ≡ integer low high → ⊥)
integer_or_not (integer low high) = inl (low, high, refl)
integer_or_not s = inr (λ low high e. absurd (cc))

-- ---- what defines nothing

pub none_more : (b n : ℕ) → n ≡ 0 → b ≡ b + n
none_more b n e = omega arith

pub form_defines_none : (scope : Path) (t : TypeForm) → length (flat_map definitions_of (type_form_items 0 scope t)) ≡ 0
form_defines_none scope (type.Text None) = refl
form_defines_none scope (type.Text (Some e)) = refl
form_defines_none scope (type.Use q) = refl
form_defines_none scope t = refl

pub size_defines_none : (scope : Path) (o : Option Expr) → length (flat_map definitions_of (in_optional (expression_items 0 scope) o)) ≡ 0
size_defines_none scope None = refl
size_defines_none scope (Some e) = refl

pub field_defines_none : (scope : Path) (f : Member) → length (flat_map definitions_of (field_items scope f)) ≡ 0
field_defines_none scope f =
    let sizes = in_optional (expression_items 0 scope) f.size in
    let none = size_defines_none scope f.size in
    let nothing = form_defines_none scope f.of.form in
    ap length (flat_map-append definitions_of sizes (type_items 0 scope f.of)) ∙ both_none (flat_map definitions_of sizes) (flat_map definitions_of (type_items 0 scope f.of)) none nothing
  where
    both_none : {A : Type 0} (xs ys : List A) → length xs ≡ 0 → length ys ≡ 0 → length (xs ++ ys) ≡ 0
    both_none xs ys e g = length-append xs ys ∙ omega arith

module _ (source : Source) (scope : Path) where
  abbrev pub AllStand : ℕ → List Item → Type 0
  AllStand b is = AllFrom (Stands source) b is

  -- an expression that is an item has a value
  pub written_valued : (b since : ℕ) (e : Expr) → AllStand b (expression_items since scope e) → Valued source scope e
  written_valued b since e h = h.0.values 0 (placed scope e) refl

  pub size_of : (rule : Rule) (most : ℕ) (e : Expr) → Valued source scope e → ((f : Refusal) → BrokenBySize source scope rule most e f → ⊥) → (n : ℕ) × IsSizeTo source scope most e n
  size_of rule most e (v, h) sound = go (number_in v) refl
    where
      tested : (z : ℤ) → number_in v ≡ Some z → (b : Bool) → is_size most z ≡ b → (n : ℕ) × IsSizeTo source scope most e n
      tested z is true test = let t = size_number most z test in (t.0, record { number = (v, h, is ∙ ap (λ (x : ℤ). Some x) t.1); least = t.2; greatest = t.3 })
      tested z is false test = absurd (sound _ (inr (refl, z, (v, h, is), test)))

      go : (o : Option ℤ) → number_in v ≡ o → (n : ℕ) × IsSizeTo source scope most e n
      go None is = absurd (sound _ (inl (refl, v, h, is)))
      go (Some z) is = tested z is (is_size most z) refl

  size_if : (b : ℕ) (o : Option Expr) → AllStand b (in_optional (expression_items 0 scope) o) → ((f : Refusal) → ByOptional (BrokenBySize source scope ArraySize 256) o f → ⊥)
      → (size : Option ℕ) × SizeIs source scope o size
  size_if b None h sound = (None, refl)
  size_if b (Some e) h sound = let n = size_of ArraySize 256 e (written_valued b 0 e h) sound in (Some n.0, (n.0, n.1, refl))

  module _ (ws : List WrittenType) (u : ℕ) (sized : (number : ℕ) → Uses (items source) u number → IsOf (items source) group.Kind number → HasSize ws (kind.Named (types_before (definitions source) number))) where
    abbrev pub KindSized : TypeForm → Type 0
    KindSized t = (k : Kind) × KindIs source scope t k × HasSize ws k

    leaf : (t : TypeForm) (k : Kind) → IsPlain k → KindIs source scope t k → KindSized t
    leaf t k p is = (k, is, (1, 1, plain p))

    pub kind_of : (b : ℕ) (place : Place) (t : TypeForm) → b ≡ u + 1 → AllStand b (type_form_items 0 scope t) → ((f : Refusal) → BrokenByForm source scope place t f → ⊥) → KindSized t
    kind_of b place type.U8 e h sound = leaf type.U8 kind.U8 tt refl
    kind_of b place type.U16 e h sound = leaf type.U16 kind.U16 tt refl
    kind_of b place type.U32 e h sound = leaf type.U32 kind.U32 tt refl
    kind_of b place type.U64 e h sound = leaf type.U64 kind.U64 tt refl
    kind_of b place type.I8 e h sound = leaf type.I8 kind.I8 tt refl
    kind_of b place type.I16 e h sound = leaf type.I16 kind.I16 tt refl
    kind_of b place type.I32 e h sound = leaf type.I32 kind.I32 tt refl
    kind_of b place type.I64 e h sound = leaf type.I64 kind.I64 tt refl
    kind_of b place type.F32 e h sound = absurd (sound _ refl)
    kind_of b place type.F64 e h sound = absurd (sound _ refl)
    kind_of b place type.Bool e h sound = leaf type.Bool kind.Bool tt refl
    kind_of b place (type.Text None) e h sound = leaf (type.Text None) (kind.Str 80) tt refl
    kind_of b place (type.Text (Some size)) e h sound =
        let n = size_of StringSize 65535 size (written_valued b 0 size h) sound in
        leaf (type.Text (Some size)) (kind.Str n.0) tt (n.0, n.1, refl)
    kind_of b place (type.Use q) e h sound =
        let t = h.0.uses 0 (mentioned group.Kind scope q) refl in
        let named_there = t.1.meant.named in
        let owner : b - 1 - 0 ≡ u = omega arith in (
          kind.Named (types_before (definitions source) t.0),
          (t.0, t.1, refl),
          sized t.0 (subst (λ (n : ℕ). Uses (items source) n t.0) owner t.2) (named_there.definition, named_there.here, named_there.of_group),
        )

    -- ---- members

    abbrev FieldSized : Member → Type 0
    FieldSized f = (x : Field) × FieldIs source scope f x × ((a : ℕ) × (b : ℕ) × MeasuresMember ws x.size x.kind a b)

    member_of : (f : Member) (size : Option ℕ) (k : Kind) → SizeIs source scope f.size size → KindIs source scope f.of.form k → HasSize ws k → FieldSized f
    member_of f None k s is (a, b, m) = (field_with f None k, (None, k, s, is, refl), (a, b, one m))
    member_of f (Some n) k s is (a, b, m) = (field_with f (Some n) k, (Some n, k, s, is, refl), (n * a, 1 + b, many m))

    field_of : (b : ℕ) (f : Member) → b ≡ u + 1 → AllStand b (field_items scope f) → ((g : Refusal) → BrokenByMember source scope f g → ⊥) → FieldSized f
    field_of b f e h sound =
        let sizes = in_optional (expression_items 0 scope) f.size in
        let nothing = size_defines_none scope f.size in
        let size = size_if b f.size (all_front (Stands source) sizes (type_items 0 scope f.of) b h) (λ g x. sound g (inl x)) in
        let k = kind_of b f.of.at.first f.of.form e (all_behind (Stands source) sizes (type_items 0 scope f.of) b b (none_more b _ nothing) h) (λ g x. sound g (inr x)) in
        member_of f size.0 k.0 size.1 k.1 k.2

    pub fields_of : (b k : ℕ) (fs : List Member) → b ≡ u + 1 → AllStand b (flat_map (field_items scope) fs)
        → ((j : ℕ) (f : Member) → slice_get fs j ≡ Some f → (g : Refusal) → BrokenByMember source scope f g → ⊥)
        → (xs : List Field) × AllAt (λ position. FieldIs source scope) k fs xs × ((a : ℕ) × (b : ℕ) × MeasuresFields ws xs a b)
    fields_of b k [] e h sound = ([], tt, (0, 0, no_field))
    fields_of b k (f ∷ fs) e h sound =
        let none = field_defines_none scope f in
        let x = field_of b f e (all_front (Stands source) (field_items scope f) (flat_map (field_items scope) fs) b h) (sound 0 f refl) in
        let xs = fields_of b (suc k) fs e (all_behind (Stands source) (field_items scope f) (flat_map (field_items scope) fs) b b (none_more b _ none) h) (λ j. sound (suc j)) in
        (x.0 ∷ xs.0, (x.1, xs.1), (x.2.0 + xs.2.0, max x.2.1 xs.2.1, field x.2.2 xs.2.2))
