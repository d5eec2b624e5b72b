-- Types that are wanted of values, and the rules that values break.
use Rattle.std.proofs.Common.{◌≡◌, Bool, true, false, cond, ℤ, List, [], ◌∷◌, Option, Some, None, refl, sym, ap, ◌∙◌, subst}
use Rattle.fp_base.proofs.Calculus.{least_same}
use Rattle.fp_base.proofs.Options.{same_some, no_some}
use Rattle.fp_base.proofs.Bools.{not_both}
use Rattle.fp_base.specs.declared.refusal.Refusal.{Refusal}
use Rattle.fp_base.specs.declared.value.Value.{Value}
use Rattle.fp_base.specs.Least.{IsLeast}
use Rattle.fp_tree.specs.declared.source.Source.{Source}
use Rattle.fp_tree.specs.declared.expression.Expr.{Expr}
use Rattle.fp_tree.specs.declared.type_name.TypeForm.{TypeForm}
use Rattle.fp_tables.specs.Types as types
use Rattle.fp_tables.specs.declared.kind.Kind.{Kind}
use Rattle.fp_tables.specs.declared.kind.Kind.TheVariants as kind
use Rattle.fp_meaning.specs.Names.{Path}
use Rattle.fp_meaning.specs.Values.{Val, opened}
use Rattle.fp_type_sizes.specs.declared.written.WrittenType.{WrittenType}
use Rattle.fp_type_sizes.specs.declared.written.TypeExtent.{TypeExtent}
use Rattle.fp_type_sizes.specs.Found.{AreExtents}
use Rattle.fp_tables.specs.Types.{is_integer_kind}
use Rattle.fp_type_sizes.specs.Sized.{ends_in_integer, kind_extent}
use Rattle.fp_type_sizes.specs.Sizes.{IsPlain, IsInteger}
use Rattle.fp_type_sizes.proofs.Counted.{kind_holds, kind_only, one_end, end_integer}
use Rattle.fp_type_sizes.proofs.Limits.{is_sound, misses_none}
use Rattle.fp_type_forms.specs.Written.{IsOnly, KindIs}
use Rattle.fp_type_forms.proofs.Represented.{measured}
use Rattle.fp_types.specs.Converting as converting
use Rattle.fp_types.specs.Converting.{of_kind}
use Rattle.fp_types.specs.Faults.{Misfits}
use Rattle.fp_part_values.specs.Broken.{IntegerIs, IsIntegerType, IsUnfit}
use Rattle.fp_part_values.specs.Tested.{MisfitsIf, integer_in}

-- ---- integer types

end_range : (k : Kind) → is_integer_kind k ≡ true → (low high : ℤ) × (types.shape [] k ≡ types.integer low high)
end_range kind.U8 e = (_, _, refl)
end_range kind.U16 e = (_, _, refl)
end_range kind.U32 e = (_, _, refl)
end_range kind.U64 e = (_, _, refl)
end_range kind.I8 e = (_, _, refl)
end_range kind.I16 e = (_, _, refl)
end_range kind.I32 e = (_, _, refl)
end_range kind.I64 e = (_, _, refl)
end_range kind.Bool e = absurd (cc)
end_range (kind.Str size) e = absurd (cc)
end_range (kind.Named i) e = absurd (cc)

pub integer_plain : (k : Kind) (low high : ℤ) → types.shape [] k ≡ types.integer low high → IsPlain k
integer_plain (kind.Named i) low high h = absurd (cc)
integer_plain k low high h = tt

module _ (ws : List WrittenType) (table : List (Option TypeExtent)) (are : AreExtents ws table) where
  integer_when : (k : Kind) (o : Option TypeExtent) → kind_extent table k ≡ o → ends_in_integer o ≡ true → IsIntegerType ws k
  integer_when k None is h = not_both h refl
  integer_when k (Some x) is h =
      let p = kind_holds ws table k x (is_sound ws table are) is in
      let r = end_range x.end h in
      (r.0, r.1, (x.end, p.ends, r.2))

  integer_then : (k : Kind) (o : Option TypeExtent) → kind_extent table k ≡ o → ends_in_integer o ≡ false → (low high : ℤ) → IsInteger ws k low high → ⊥
  integer_then k None is h low high t =
      let x = kind_only ws table k 1 1 (misses_none ws table are (k ∷ [])) (measured t.1 (integer_plain t.0 low high t.2)) in
      no_some (sym is ∙ x.1)
  integer_then k (Some x) is h low high t =
      let p = kind_holds ws table k x (is_sound ws table are) is in
      not_both (ap is_integer_kind (one_end p.ends t.1) ∙ end_integer t.0 low high t.2) h

  module _ (source : Source) (scope : Path) (form : TypeForm) where
    one_integer : (k : Kind) → IsOnly (KindIs source scope form) (Some k) → (b : Bool) → ends_in_integer (kind_extent table k) ≡ b
        → IsOnly (IntegerIs source ws scope form) (cond b (Some k) None)
    one_integer k only true is = record {
      holds = λ x e. subst (λ (y : Kind). IntegerIs source ws scope form y) (same_some e) (only.holds k refl, integer_when k (kind_extent table k) refl is);
      only = λ x t. only.only x t.0;
    }
    one_integer k only false is = record {
      holds = λ x e. no_some e;
      only = λ x t.
          let same : x ≡ k = sym (same_some (only.only x t.0)) in
          absurd (integer_then k (kind_extent table k) refl is t.1.0 t.1.1 (subst (λ (y : Kind). IsInteger ws y t.1.0 t.1.1) same t.1.2));
    }

    pub integer_only : (o q : Option Kind) → q ≡ integer_in table o → IsOnly (KindIs source scope form) o → IsOnly (IntegerIs source ws scope form) q
    integer_only None q is only = subst (λ (x : Option Kind). IsOnly (IntegerIs source ws scope form) x) (sym is) (record { holds = λ x e. no_some e; only = λ x t. no_some (only.only x t.0) })
    integer_only (Some k) q is only =
        subst (λ (x : Option Kind). IsOnly (IntegerIs source ws scope form) x) (sym is) (one_integer k only (ends_in_integer (kind_extent table k)) refl)

-- ---- what doesn't fit

module _ (source : Source) (ws : List WrittenType) (scope : Path) (IsWanted : Kind → Type 0) (e : Expr) where
  pub unfit_least : (k : Option Kind) (o : Option Value) (r : Option Refusal) → IsOnly IsWanted k → IsOnly (Val source scope (opened e)) o
      → IsLeast (MisfitsIf ws e.at.first k o) r → IsLeast (IsUnfit source ws scope IsWanted e) r
  unfit_least None o r wanted valued l = least_same (λ f b. absurd b) (λ f t. no_some (wanted.only t.1 t.3)) l
  unfit_least (Some k) None r wanted valued l = least_same (λ f b. absurd b) (λ f t. no_some (valued.only t.0 t.2)) l
  unfit_least (Some k) (Some v) r wanted valued l =
      least_same (λ f b. (v, k, valued.holds v refl, wanted.holds k refl, b))
      (λ f t.
      subst (λ (x : Kind). Misfits ws e.at.first (converting.opened v) (of_kind x) f) (sym (same_some (wanted.only t.1 t.3)))
      (subst (λ (x : Value). Misfits ws e.at.first (converting.opened x) (of_kind t.1) f) (sym (same_some (valued.only t.0 t.2))) t.4))
      l
