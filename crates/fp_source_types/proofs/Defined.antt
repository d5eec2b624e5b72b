-- Where what is written of a type definition breaks no rule, its form exists, and has a size where the types that it uses have sizes.
use Rattle.std.proofs.Common.{◌≡◌, ℕ, suc, ◌+◌, ◌*◌, ◌⊎◌, inl, inr, List, [], ◌∷◌, ◌++◌, length, flat_map, slice_get, Option, Some, None, refl, sym, ap, subst, ◌∙◌}
use Rattle.std.specs.Prelude.{ℤ, pos, max}
use Rattle.fp_base.proofs.Options.{same_some, no_some}
use Rattle.fp_base.specs.declared.refusal.Refusal.{Refusal}
use Rattle.fp_base.specs.declared.rule.Rule.TheVariants.{ArraySize, BadConversion}
use Rattle.fp_base.specs.declared.value.Value.{Value}
use Rattle.fp_base.specs.Least.{broken_at}
use Rattle.fp_tree.specs.declared.source.Source.{Source}
use Rattle.fp_tree.specs.declared.definition.Def.{Def}
use Rattle.fp_tree.specs.declared.definition.Def.TheVariants as def
use Rattle.fp_tree.specs.declared.definition.Enum.{Enum}
use Rattle.fp_tree.specs.declared.expression.Expr.{Expr}
use Rattle.fp_tree.specs.declared.type_name.TypeName.{TypeName}
use Rattle.fp_tree.specs.declared.part.EnumConst.{EnumConst}
use Rattle.fp_tables.specs.Types.{integer, shape}
use Rattle.fp_tables.specs.declared.kind.Kind.{Kind}
use Rattle.fp_tables.specs.declared.kind.Kind.TheVariants as kind
use Rattle.fp_tables.specs.declared.kind.Form.{Form}
use Rattle.fp_tables.specs.declared.kind.Form.TheVariants as form
use Rattle.fp_tables.specs.declared.kind.Constant.{Constant}
use Rattle.fp_meaning.specs.declared.group.Group.TheVariants as group
use Rattle.fp_meaning.specs.Layout.{expression_items, type_items, field_items, constant_items, part_items, items}
use Rattle.fp_meaning.specs.Names.{Path, definitions, definitions_of, group_of}
use Rattle.fp_meaning.specs.Origins.{Placed, one, placed}
use Rattle.fp_meaning.specs.Sites.{in_optional}
use Rattle.fp_meaning.specs.Uses.{Uses}
use Rattle.fp_meaning.specs.Values.{number_in, opened, Val, IsImplied, constant_value}
use Rattle.fp_type_sizes.specs.declared.written.WrittenType.{WrittenType}
use Rattle.fp_type_sizes.specs.Sizes.{EndsAs, at_plain, IsInteger, plain, MeasuresForm, abstract_, alias, array, struct, enum}
use Rattle.fp_type_sizes.proofs.Counted.{one_end}
use Rattle.fp_type_sizes.proofs.Limits.{HasSize}
use Rattle.fp_type_forms.specs.Broken.{BrokenByEnum, BrokenByName, BrokenByNumber, BrokenByParts, ByOptional, IsBadRepr, IsNoNumber}
use Rattle.fp_type_forms.specs.Written.{AllAt, ConstantIs, EnumeratedIs, FormIs, ReprIs, text_in, types_before}
use Rattle.fp_source_types.proofs.Deep.{IsOf}
use Rattle.fp_source_types.proofs.Expressed.{Valued}
use Rattle.fp_source_types.proofs.Formed.{AllStand, fields_of, form_defines_none, integer_or_not, kind_of, none_more, size_of, some_end, written_valued}
use Rattle.fp_source_types.proofs.Meant.{Stands}
use Rattle.fp_source_types.proofs.Named.{default_in}
use Rattle.fp_source_types.proofs.Numbered.{all_implied}
use Rattle.fp_source_types.proofs.Standing.{all_behind, all_front}

name_defines_none : (scope : Path) (o : Option TypeName) → length (flat_map definitions_of (in_optional (type_items 0 scope) o)) ≡ 0
name_defines_none scope None = refl
name_defines_none scope (Some t) = form_defines_none scope t.form

module _ (source : Source) (scope : Path) where
  -- ---- constants

  number_of : (d : Enum) (position : ℕ) (c : EnumConst) → ((j : ℕ) (q : Placed) → slice_get (in_optional (one scope) c.value) j ≡ Some q → Valued source q.scope q.expression)
      → ((f : Refusal) → BrokenByNumber source scope c f → ⊥) → (c.value ≡ None → IsImplied d) → (n : ℤ) × ConstantIs source scope d position c.value n
  number_of d position c valued sound implied = go c.value refl
    where
      with_value : (x : Expr) (v : Value) → c.value ≡ Some x → Val source scope (opened x) v → (o : Option ℤ) → number_in v ≡ o → (n : ℤ) × ConstantIs source scope d position (Some x) n
      with_value x v is h None i =
          absurd (sound (broken_at BadConversion x.at.first) (subst (λ (o : Option Expr). ByOptional (IsNoNumber source scope) o (broken_at BadConversion x.at.first)) (sym is) (refl, v, h, i)))
      with_value x v is h (Some n) i = (n, (v, h, i))

      go : (o : Option Expr) → c.value ≡ o → (n : ℤ) × ConstantIs source scope d position o n
      go None is = (pos position, (implied is, refl))
      go (Some x) is =
          let v = valued 0 (placed scope x) (ap (λ (o : Option Expr). slice_get (in_optional (one scope) o) 0) is) in
          with_value x v.0 is v.1 (number_in v.0) refl

  constants_of : (d : Enum) (b position : ℕ) (cs : List EnumConst) → AllStand source scope b (constant_items scope d position cs)
      → ((j : ℕ) (c : EnumConst) → slice_get cs j ≡ Some c → (f : Refusal) → BrokenByNumber source scope c f → ⊥)
      → ((j : ℕ) (c : EnumConst) → slice_get cs j ≡ Some c → c.value ≡ None → IsImplied d) → (xs : List Constant) × AllAt (EnumeratedIs source scope d) position cs xs
  constants_of d b position [] h sound implied = ([], tt)
  constants_of d b position (c ∷ cs) h sound implied =
      let n = number_of d position c h.0.values (sound 0 c refl) (implied 0 c refl) in
      let xs = constants_of d (b + 1) (suc position) cs h.1 (λ j. sound (suc j)) (λ j. implied (suc j)) in
      (record { name = c.name.text; value = constant_value scope d c n.0; note = c.note } ∷ xs.0, ((n.0, n.1, refl), xs.1))

  abbrev pub FormSized : List WrittenType → Def → Type 0
  FormSized ws d = (f : Form) × FormIs source scope d f × ((a : ℕ) × (b : ℕ) × MeasuresForm ws f a b)

  module _ (ws : List WrittenType) (u : ℕ) (sized : (number : ℕ) → Uses (items source) u number → IsOf (items source) group.Kind number → HasSize ws (kind.Named (types_before (definitions source) number))) where
    -- ---- representations

    repr_of : (b : ℕ) (o : Option TypeName) → b ≡ u + 1 → AllStand source scope b (in_optional (type_items 0 scope) o) → ((f : Refusal) → ByOptional (BrokenByName source scope) o f → ⊥)
        → (k : Kind) × ReprIs source scope o k × HasSize ws k
    repr_of b None e h sound = (kind.I32, refl, (1, 1, plain tt))
    repr_of b (Some t) e h sound = kind_of source scope ws u sized b t.at.first t.form e h sound

    integer_of : (d : Enum) (o : Option TypeName) (k : Kind) → d.repr ≡ o → ReprIs source scope o k → HasSize ws k → ((f : Refusal) → IsBadRepr source scope ws d f → ⊥)
        → (low : ℤ) × (high : ℤ) × IsInteger ws k low high
    integer_of d None k is repr size sound =
        subst (λ (x : Kind). (low : ℤ) × (high : ℤ) × IsInteger ws x low high) (sym repr) (_, _, (kind.I32, at_plain tt, refl))
    integer_of d (Some t) k is repr size sound = let e = some_end size.2 in go e.0 e.1 (integer_or_not (shape [] e.0))
      where
        go : (e : Kind) → EndsAs ws k e → ((low : ℤ) × (high : ℤ) × (shape [] e ≡ integer low high)) ⊎ ((low high : ℤ) → shape [] e ≡ integer low high → ⊥) → (low : ℤ) × (high : ℤ) × IsInteger ws k low high
        go e ends (inl (low, high, is_integer)) = (low, high, (e, ends, is_integer))
        go e ends (inr never) =
            absurd (sound (broken_at BadConversion t.at.first)
            (t, is, refl, inr (k, repr, (size.0, size.1, size.2, λ low high i. never low high (ap (shape []) (one_end ends i.1) ∙ i.2)))))

    -- ---- definitions

    enumeration : (d : Enum) → AllStand source scope (u + 1) (part_items scope (def.Enum d)) → ((f : Refusal) → BrokenByParts source scope (def.Enum d) f → ⊥)
        → ((f : Refusal) → IsBadRepr source scope ws d f → ⊥) → FormSized ws (def.Enum d)
    enumeration d h sound fit =
        let reprs = in_optional (type_items 0 scope) d.repr in
        let listed = constant_items scope d 0 d.constants in
        let front = all_front (Stands source) (reprs ++ listed) (in_optional (expression_items (length d.constants) scope) d.default) (u + 1) h in
        let k = repr_of (u + 1) d.repr refl (all_front (Stands source) reprs listed (u + 1) front) (λ f b. sound f (inl b)) in
        let n = integer_of d d.repr k.0 refl k.1 k.2 fit in
        let xs = constants_of d (u + 1) 0 d.constants
        (all_behind (Stands source) reprs listed (u + 1) (u + 1) (none_more (u + 1) _ (name_defines_none scope d.repr)) front)
        (λ j c at f b. sound f (inr (inl (j, c, at, b))))
        (λ j c at none. all_implied d j c at none (λ both. sound _ (inr (inr (refl, both))))) in
        (form.Enum k.0 xs.0, (k.0, xs.0, k.1, xs.1, refl), (1, 1, enum n.2 k.2.2))

    pub formed : (d : Def) → group_of d ≡ group.Kind → AllStand source scope (u + 1) (part_items scope d) → ((f : Refusal) → BrokenByParts source scope d f → ⊥)
        → ((f : Refusal) → BrokenByEnum source scope ws d f → ⊥) → FormSized ws d
    formed (def.Constant d) is h sound fit = absurd (cc)
    formed (def.Port d) is h sound fit = absurd (cc)
    formed (def.Abstract d) is h sound fit = (form.Abstract, refl, (1, 1, abstract_))
    formed (def.Alias d) is h sound fit =
        let k = kind_of source scope ws u sized (u + 1) d.target.at.first d.target.form refl h sound in
        (form.Alias k.0, (k.0, k.1, refl), (k.2.0, k.2.1, alias k.2.2))
    formed (def.Array d) is h sound fit =
        let sizes = expression_items 0 scope d.size in
        let elements = type_items 0 scope d.element in
        let front = all_front (Stands source) (sizes ++ elements) (in_optional (expression_items 0 scope) d.default) (u + 1) h in
        let n = size_of source scope ArraySize 256 d.size (written_valued source scope (u + 1) 0 d.size (all_front (Stands source) sizes elements (u + 1) front)) (λ f b. sound f (inl b)) in
        let k = kind_of source scope ws u sized (u + 1) d.element.at.first d.element.form refl
        (all_behind (Stands source) sizes elements (u + 1) (u + 1) (none_more (u + 1) _ refl) front) (λ f b. sound f (inr b)) in
        (form.Array n.0 k.0 (text_in d.format), (n.0, k.0, n.1, k.1, refl), (n.0 * k.2.0, 1 + k.2.1, array k.2.2))
    formed (def.Struct d) is h sound fit =
        let fields = flat_map (field_items scope) d.fields in
        let xs = fields_of source scope ws u sized (u + 1) 0 d.fields refl (all_front (Stands source) fields (in_optional (expression_items 0 scope) d.default) (u + 1) h)
        (λ j f at g b. sound g (j, f, at, b)) in
        (form.Struct xs.0, (xs.0, xs.1, refl), (max 1 xs.2.0, 1 + xs.2.1, struct xs.2.2))
    formed (def.Enum d) is h sound fit = enumeration d h sound (λ f b. fit f (inl b))

  -- ---- what stands behind `default`

  own_valued : (b since : ℕ) (o : Option Expr) (e : Expr) → o ≡ Some e → AllStand source scope b (in_optional (expression_items since scope) o) → Valued source scope e
  own_valued b since None e is h = no_some is
  own_valued b since (Some x) e is h = subst (λ (y : Expr). Valued source scope y) (same_some is) (written_valued source scope b since x h)

  pub default_valued : (b : ℕ) (d : Def) (e : Expr) → default_in d ≡ Some e → AllStand source scope b (part_items scope d) → Valued source scope e
  default_valued b (def.Array d) e is h =
      let front = expression_items 0 scope d.size ++ type_items 0 scope d.element in
      own_valued _ 0 d.default e is (all_behind (Stands source) front (in_optional (expression_items 0 scope) d.default) b _ refl h)
  default_valued b (def.Struct d) e is h =
      own_valued _ 0 d.default e is (all_behind (Stands source) (flat_map (field_items scope) d.fields) (in_optional (expression_items 0 scope) d.default) b _ refl h)
  default_valued b (def.Enum d) e is h =
      let front = in_optional (type_items 0 scope) d.repr ++ constant_items scope d 0 d.constants in
      own_valued _ (length d.constants) d.default e is (all_behind (Stands source) front (in_optional (expression_items (length d.constants) scope) d.default) b _ refl h)
  default_valued b (def.Constant d) e is h = no_some is
  default_valued b (def.Abstract d) e is h = no_some is
  default_valued b (def.Alias d) e is h = no_some is
  default_valued b (def.Port d) e is h = no_some is
