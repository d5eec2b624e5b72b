-- Types that break no rule of sizes and of defaults, and that want for nothing, have defaults.
use Rattle.std.proofs.Common.{◌≡◌, ◌⊎◌, inl, inr, ℕ, suc, ◌<◌, List, [], ◌∷◌, replicate, slice_get, Option, Some, None, refl, subst}
use Rattle.std.proofs.lemmas.Option.{slice_get_within}
use Rattle.fp_base.specs.declared.value.Value.{Value, Array, Struct, Opaque}
use Rattle.fp_base.specs.declared.value.MemberValue.{MemberValue}
use Rattle.fp_tables.specs.declared.kind.Kind.{Kind}
use Rattle.fp_tables.specs.declared.kind.Kind.TheVariants as kind
use Rattle.fp_tables.specs.declared.kind.Form.{Form}
use Rattle.fp_tables.specs.declared.kind.Form.TheVariants as form
use Rattle.fp_tables.specs.declared.kind.Field.{Field}
use Rattle.fp_tables.specs.declared.kind.TypeDef.{TypeDef}
use Rattle.fp_type_sizes.specs.declared.written.WrittenType.{WrittenType}
use Rattle.fp_type_sizes.specs.declared.written.Own.{Own}
use Rattle.fp_type_sizes.specs.declared.written.Own.TheVariants as own
use Rattle.fp_type_sizes.specs.Sizes.{HasForm, IsOfSize}
use Rattle.fp_type_sizes.proofs.Counted.{formed}
use Rattle.fp_types.specs.declared.target.Rest.TheVariants.{OfMembers}
use Rattle.fp_types.specs.Converting.{opened, HasOwn, form_target, member, part_for, value_named, Completes, given_here, left_out, in_type, Default, repeated, of_each, first, the_one, by_form, by_value, DefaultIs}
use Rattle.fp_types.specs.Converting as convert
use Rattle.fp_types.specs.Given.{AreTypesGiven}
use Rattle.fp_types.specs.Unbroken.{AreUnbroken}
use Rattle.fp_types.proofs.Total.{BothIn, BothInForm, Made, Unfits, both, not_unfit, total_form}

module _ (ws : List WrittenType) where
  -- members that are left out have the defaults of their types
  members : (fs : List Field) → ((i : ℕ) (f : Field) → slice_get fs i ≡ Some f → BothIn ws (member f)) → (given : List MemberValue) → (made : List MemberValue) × Completes ws OfMembers given fs made
  members [] parts given = ([], convert.no_field)
  members (f ∷ fs) parts given = go (value_named given f.name) refl (members fs (λ i g e. parts (suc i) g e) given)
    where
      go : (o : Option Value) → value_named given f.name ≡ o → (made : List MemberValue) × Completes ws OfMembers given fs made → (made : List MemberValue) × Completes ws OfMembers given (f ∷ fs) made
      go (Some w) e (made, c) = (part_for f w ∷ made, given_here e c)
      go None e (made, c) = let d = (parts 0 f refl).0 in (part_for f d.0 ∷ made, left_out e (in_type d.1) c)

  form_members : (f : Form) → BothInForm ws f → (fields : List Field) → f ≡ form.Struct fields → (given : List MemberValue) → (made : List MemberValue) × Completes ws OfMembers given fields made
  form_members f parts fields is = members fields (subst (λ (x : Form). BothInForm ws x) is parts)

  form_default : (f : Form) → ((k : Kind) → f ≡ form.Enum k [] → ⊥) → BothInForm ws f → (w : Value) × Default ws (form_target OfMembers f) w
  form_default form.Abstract listed parts = (Opaque, the_one)
  form_default (form.Alias k) listed parts = parts.0
  form_default (form.Array size k format) listed parts = (Array (replicate size parts.0.0), repeated parts.0.1)
  form_default (form.Struct fields) listed parts = let c = members fields parts [] in (Struct c.0, of_each c.1)
  form_default (form.Enum k []) listed parts = absurd (listed k refl)
  form_default (form.Enum k (c ∷ cs)) listed parts = (c.value, first)

  module _ (are : AreUnbroken ws) where
    default_of : (i : ℕ) (f : Form) (h : HasForm ws i f) → BothInForm ws f → IsOfSize ws (kind.Named i) → (o : Own) → h.written.default ≡ o → (d : Value) × DefaultIs ws (kind.Named i) d
    default_of i f h parts size own.Unwritten is =
        let d = form_default f (λ k e. are.listed i k (subst (λ (x : Form). HasForm ws i x) e h)) parts in
        (d.0, by_form h size (record { written = h.written; here = h.here; own = is }) d.1)
    default_of i f h parts size own.NoValue is = absurd (are.valued i (record { written = h.written; here = h.here; own = is }))
    default_of i f h parts size (own.Has v) is = go (total_form ws OfMembers f (form_members f parts) parts (opened v))
      where
        has : HasOwn ws i (own.Has v)
        has = record { written = h.written; here = h.here; own = is }

        go : Made ws (opened v) (form_target OfMembers f) ⊎ Unfits ws (opened v) (form_target OfMembers f) → (d : Value) × DefaultIs ws (kind.Named i) d
        go (inl (w, b)) = (w, by_value h size has b)
        go (inr u) =
            let fit = are.fit i (slice_get_within ws i h.written h.here) in
            absurd (not_unfit ws fit.0 (opened v) (form_target OfMembers f) (λ g m. fit.1 g (record { value = v; has = has; shape = f; form = h; of_size = size; misfits = m })) u)

    settled : (i : ℕ) (f : Form) → HasForm ws i f → BothInForm ws f → IsOfSize ws (kind.Named i) × ((d : Value) × DefaultIs ws (kind.Named i) d)
    settled i f h parts =
        let size = are.of_size i (slice_get_within ws i h.written h.here) in
        (size, default_of i f h parts size h.written.default refl)

    pub all_given : (given : List (Option TypeDef)) → AreTypesGiven ws given → (i : ℕ) (o : Option TypeDef) → slice_get given i ≡ Some o → (d : TypeDef) × (o ≡ Some d)
    all_given given types i o at =
        let size = are.of_size i (subst (λ (n : ℕ). i < n) types.each (slice_get_within given i o at)) in
        let f = formed ws i size.0 size.1 size.2 in
        let d = (both ws settled size.2).0 in
        (types.at i o at).only f.0 d.0 f.1 d.1
