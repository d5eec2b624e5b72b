-- Representations, and the numbers outside them, by what is found of types.
use Rattle.std.proofs.Common.{◌≡◌, ℕ, Bool, true, false, cond, is_none, ◌||◌, ◌⊎◌, inl, inr, ℤ, List, [], ◌∷◌, Option, Some, None, refl, sym, ap, ◌∙◌, subst}
use Rattle.fp_base.proofs.Bools.{neither, or_cases, not_both}
use Rattle.fp_base.proofs.Calculus.{least_along, least_either, least_none, least_only, least_same}
use Rattle.fp_base.proofs.Options.{same_some, none_is, no_some}
use Rattle.fp_base.specs.Least.{broken_at, InSome, IsLeast, lesser_of}
use Rattle.fp_base.specs.declared.refusal.Refusal.{Refusal}
use Rattle.fp_base.specs.declared.rule.Rule.TheVariants.{BadConversion, OutsideType}
use Rattle.fp_tree.specs.declared.source.Source.{Source}
use Rattle.fp_tree.specs.declared.definition.Def.TheVariants as def
use Rattle.fp_tree.specs.declared.definition.Enum.{Enum}
use Rattle.fp_tree.specs.declared.part.EnumConst.{EnumConst}
use Rattle.fp_tree.specs.declared.type_name.TypeName.{TypeName}
use Rattle.fp_tree.specs.declared.type_name.TypeForm.{TypeForm}
use Rattle.fp_tree.specs.declared.type_name.TypeForm.TheVariants as type
use Rattle.fp_tables.specs.Types.{Shape, integer, shape}
use Rattle.fp_tables.specs.declared.kind.Kind.{Kind}
use Rattle.fp_tables.specs.declared.kind.Kind.TheVariants as kind
use Rattle.fp_meaning.specs.Names.{Path}
use Rattle.fp_type_sizes.specs.declared.written.WrittenType.{WrittenType}
use Rattle.fp_type_sizes.specs.declared.written.TypeExtent.{TypeExtent}
use Rattle.fp_type_sizes.specs.Found.{AreExtents}
use Rattle.fp_type_sizes.specs.Sized.{kind_extent}
use Rattle.fp_type_sizes.specs.Sizes.{IsPlain, EndsAs, at_plain, at_form, behind_alias, IsInteger, Measures, plain, named, alias}
use Rattle.fp_type_sizes.proofs.Counted.{kind_holds, kind_only, one_end}
use Rattle.fp_type_sizes.proofs.Limits.{is_sound, misses_none}
use Rattle.fp_type_forms.specs.declared.ranges.Range.{Range}
use Rattle.fp_type_forms.specs.Broken.{BrokenByEnum, HasRange, IsBadRepr, IsFloat, IsNoInteger, IsOutside, constant_place}
use Rattle.fp_type_forms.specs.Tested.{IsBeyond, beyond_fault, extent_of, is_float, is_no_integer, is_within, range_in, range_of, range_with, repr_fault}
use Rattle.fp_type_forms.specs.Written.{ConstantIs, IsOnly, KindIs, ReprIs}
use Rattle.fp_type_forms.proofs.Only.{only_same}

-- ---- integer types

integer_plain : (k : Kind) (low high : ℤ) → shape [] k ≡ integer low high → IsPlain k
integer_plain (kind.Named i) low high h = absurd (cc)
integer_plain k low high h = tt

with_range : (s : Shape) (r : Range) → range_with s ≡ Some r → s ≡ integer r.low r.high
with_range (integer low high) r h = ap (λ (x : Range). integer x.low x.high) (same_some h)
with_range s r h = no_some h

pub measured : {ws : List WrittenType} {k e : Kind} → EndsAs ws k e → IsPlain e → Measures ws k 1 1
measured (at_plain p) h = plain p
measured (at_form f n) h = absurd h
measured (behind_alias f r) h = named f (alias (measured r h))

module _ (ws : List WrittenType) (table : List (Option TypeExtent)) (are : AreExtents ws table) where
  range_found : (k : Kind) (o : Option TypeExtent) → kind_extent table k ≡ o → IsOnly (λ (r : Range). IsInteger ws k r.low r.high) (range_in o)
  range_found k None is = record {
    holds = λ r e. no_some e;
    only = λ r t.
        let x = kind_only ws table k 1 1 (misses_none ws table are (k ∷ [])) (measured t.1 (integer_plain t.0 r.low r.high t.2)) in
        no_some (sym is ∙ x.1);
  }
  range_found k (Some x) is =
      let p = kind_holds ws table k x (is_sound ws table are) is in record {
        holds = λ r e. (x.end, p.ends, with_range (shape [] x.end) r e);
        only = λ r t. ap range_of (one_end p.ends t.1) ∙ ap range_with t.2;
      }

  module _ (source : Source) (scope : Path) where
    no_integer_when : (k : Kind) (o : Option TypeExtent) → kind_extent table k ≡ o → is_no_integer o ≡ true → IsNoInteger source scope ws k
    no_integer_when k None is h = not_both h refl
    no_integer_when k (Some x) is h =
        let p = kind_holds ws table k x (is_sound ws table are) is in
        let none : range_of x.end ≡ None = none_is (range_of x.end) h in
        (p.leaves, p.levels, p.measures, λ low high t. no_some (sym none ∙ (range_found k (Some x) is).only (record { low = low; high = high }) t))

    no_integer_then : (k : Kind) (o : Option TypeExtent) → kind_extent table k ≡ o → is_no_integer o ≡ false → IsNoInteger source scope ws k → ⊥
    no_integer_then k None is h t = let x = kind_only ws table k t.0 t.1 (misses_none ws table are (k ∷ [])) t.2 in no_some (sym is ∙ x.1)
    no_integer_then k (Some x) is h t = go (range_of x.end) refl
      where
        go : (o : Option Range) → range_of x.end ≡ o → ⊥
        go None e = not_both (ap is_none e) h
        go (Some r) e = t.3 r.low r.high ((range_found k (Some x) is).holds r e)

-- ---- what represents an enumeration

float_when : (t : TypeForm) → is_float t ≡ true → IsFloat t
float_when type.F32 h = tt
float_when type.F64 h = tt
float_when t h = not_both h refl

float_then : (t : TypeForm) → IsFloat t → is_float t ≡ true
float_then type.F32 h = refl
float_then type.F64 h = refl
float_then t h = absurd h

module _ (ws : List WrittenType) (table : List (Option TypeExtent)) (are : AreExtents ws table) (source : Source) (scope : Path) (d : Enum) where
  module _ (t : TypeName) (is : d.repr ≡ Some t) (o : Option Kind) (only : IsOnly (KindIs source scope t.form) o) where
    abbrev IsBad : TypeName → Type 0
    IsBad x = IsFloat x.form ⊎ ((k : Kind) × KindIs source scope x.form k × IsNoInteger source scope ws k)

    bad_when : (is_float t.form || is_no_integer (extent_of table o)) ≡ true → IsBad t
    bad_when h = go (or_cases (is_float t.form) (is_no_integer (extent_of table o)) h)
      where
        kind_when : (q : Option Kind) → o ≡ q → is_no_integer (extent_of table q) ≡ true → IsBad t
        kind_when None e g = not_both g refl
        kind_when (Some k) e g = inr (k, only.holds k e, no_integer_when ws table are source scope k (kind_extent table k) refl g)

        go : (is_float t.form ≡ true) ⊎ (is_no_integer (extent_of table o) ≡ true) → IsBad t
        go (inl g) = inl (float_when t.form g)
        go (inr g) = kind_when o refl g

    bad_then : (is_float t.form || is_no_integer (extent_of table o)) ≡ false → (x : TypeName) → x ≡ t → IsBad x → ⊥
    bad_then h x e = go (neither (is_float t.form) (is_no_integer (extent_of table o)) h)
      where
        go : (is_float t.form ≡ false) × (is_no_integer (extent_of table o) ≡ false) → IsBad x → ⊥
        go n (inl f) = not_both (float_then x.form f) (ap (λ (y : TypeName). is_float y.form) e ∙ n.0)
        go n (inr u) =
            let found : o ≡ Some u.0 = only.only u.0 (subst (λ (y : TypeName). KindIs source scope y.form u.0) e u.1) in
            no_integer_then ws table are source scope u.0 (kind_extent table u.0) refl (ap (λ (q : Option Kind). is_no_integer (extent_of table q)) (sym found) ∙ n.1) u.2

    bad_tested : (b : Bool) → (is_float t.form || is_no_integer (extent_of table o)) ≡ b
        → IsLeast (IsBadRepr source scope ws d) (cond b (Some (broken_at BadConversion t.at.first)) None)
    bad_tested true h =
        least_only (broken_at BadConversion t.at.first) (t, is, refl, bad_when h)
        (λ f b. b.2 ∙ ap (λ (x : TypeName). broken_at BadConversion x.at.first) (same_some (sym b.1 ∙ is)))
    bad_tested false h = least_none (λ f b. bad_then h b.0 (same_some (sym b.1 ∙ is)) b.3)

  bad_least : (r : Option TypeName) (o : Option Kind) → d.repr ≡ r → IsOnly (ReprIs source scope r) o → IsLeast (IsBadRepr source scope ws d) (repr_fault r (extent_of table o))
  bad_least None o is only = least_none (λ f b. no_some (sym is ∙ b.1))
  bad_least (Some t) o is only =
      bad_tested t is o (record { holds = only.holds; only = only.only }) (is_float t.form || is_no_integer (extent_of table o)) refl

  range_only : (o : Option Kind) → IsOnly (ReprIs source scope d.repr) o → IsOnly (λ (r : Range). HasRange source scope ws d r.low r.high) (range_in (extent_of table o))
  range_only None only = record { holds = λ r e. no_some e; only = λ r t. no_some (only.only t.0 t.1) }
  range_only (Some k) only =
      let found = range_found ws table are k (kind_extent table k) refl in record {
        holds = λ r e. (k, only.holds k refl, found.holds r e);
        only = λ r t. found.only r (subst (λ (x : Kind). IsInteger ws x r.low r.high) (sym (same_some (only.only t.0 t.1))) t.2);
      }

-- ---- numbers outside a range

module _ (source : Source) (scope : Path) (d : Enum) where
  within_tested : (k : ℕ) (c : EnumConst) (r : Range) (n : ℤ) → IsOnly (ConstantIs source scope d k c.value) (Some n) → (b : Bool) → is_within r n ≡ b
      → IsLeast (IsBeyond source scope (Some r) d k c) (cond b None (Some (broken_at OutsideType (constant_place c))))
  within_tested k c r n only true h =
      least_none (λ f t.
      let same : is_within r n ≡ is_within t.1 t.2 = ap (λ (x : Range). is_within x n) (same_some t.3) ∙ ap (is_within t.1) (same_some (only.only t.2 t.4)) in
      not_both h (same ∙ t.5))
  within_tested k c r n only false h = least_only (broken_at OutsideType (constant_place c)) (refl, r, n, refl, only.holds n refl, h) (λ f t. t.0)

  pub beyond_least : (k : ℕ) (c : EnumConst) (range : Option Range) (o : Option ℤ) → IsOnly (ConstantIs source scope d k c.value) o
      → IsLeast (IsBeyond source scope range d k c) (beyond_fault (constant_place c) range o)
  beyond_least k c None o only = least_none (λ f t. no_some t.3)
  beyond_least k c (Some r) None only = least_none (λ f t. no_some (only.only t.2 t.4))
  beyond_least k c (Some r) (Some n) only = within_tested k c r n only (is_within r n) refl

  outside_least : (ws : List WrittenType) (range : Option Range) (first : Option Refusal) → IsOnly (λ (r : Range). HasRange source scope ws d r.low r.high) range
      → IsLeast (InSome (IsBeyond source scope range d) d.constants) first → IsLeast (InSome (IsOutside source scope ws d) d.constants) first
  outside_least ws range first only l = least_same to back l
    where
      to : (f : Refusal) → InSome (IsBeyond source scope range d) d.constants f → InSome (IsOutside source scope ws d) d.constants f
      to f (k, c, at, b) = (k, c, at, (b.0, b.1.low, b.1.high, b.2, only.holds b.1 b.3, b.4, b.5))

      back : (f : Refusal) → InSome (IsOutside source scope ws d) d.constants f → InSome (IsBeyond source scope range d) d.constants f
      back f (k, c, at, b) =
          (k, c, at, (b.0, record { low = b.1; high = b.2 }, b.3, only.only (record { low = b.1; high = b.2 }) b.4, b.5, b.6))

-- ---- an enumeration

pub enum_least : (ws : List WrittenType) (table : List (Option TypeExtent)) → AreExtents ws table → (source : Source) (scope : Path) (d : Enum)
    (o : Option Kind) (extent : Option TypeExtent) (range : Option Range) (bad beyond first : Option Refusal)
    → extent ≡ extent_of table o → bad ≡ repr_fault d.repr extent → range ≡ range_in extent → first ≡ lesser_of bad beyond
    → IsOnly (ReprIs source scope d.repr) o → IsLeast (InSome (IsBeyond source scope range d) d.constants) beyond
    → IsLeast (BrokenByEnum source scope ws (def.Enum d)) first
enum_least ws table are source scope d o extent range bad beyond first extent_is bad_is range_is first_is only l =
    least_along (sym first_is)
    (least_either bad beyond
    (least_along (sym (bad_is ∙ ap (repr_fault d.repr) extent_is)) (bad_least ws table are source scope d d.repr o refl only))
    (outside_least source scope d ws range beyond
    (only_same (λ (r : Range). HasRange source scope ws d r.low r.high) (range_is ∙ ap range_in extent_is) (range_only ws table are source scope d o only)) l))
