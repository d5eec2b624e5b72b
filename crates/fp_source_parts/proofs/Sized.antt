-- Each type that is named has a default and a size, where each type of the source is given.
use Rattle.std.proofs.Common.{◌≡◌, ℕ, ◌<◌, ◌≤◌, List, length, map, slice_get, Some, None, refl, sym, ap, subst, ◌∙◌, arith}
use Rattle.std.specs.Prelude.{option_map}
use Rattle.std.proofs.lemmas.List.{length-map}
use Rattle.std.proofs.lemmas.Option.{slice_get-map}
use Rattle.fp_topology_forms.proofs.Places.{as_long}
use Rattle.fp_base.proofs.Spots.{item_below}
use Rattle.fp_base.specs.declared.value.Value.{Value}
use Rattle.fp_tree.specs.declared.source.Source.{Source}
use Rattle.fp_tree.specs.declared.type_name.TypeForm.{TypeForm}
use Rattle.fp_tree.specs.declared.type_name.TypeForm.TheVariants as type
use Rattle.fp_tables.specs.declared.kind.Kind.{Kind}
use Rattle.fp_tables.specs.declared.kind.Kind.TheVariants as kind
use Rattle.fp_tables.specs.declared.kind.TypeDef.{TypeDef}
use Rattle.fp_meaning.specs.Names.{Path, definitions}
use Rattle.fp_type_sizes.specs.declared.written.WrittenType.{WrittenType}
use Rattle.fp_type_sizes.specs.Sizes.{IsOfSize, plain}
use Rattle.fp_types.specs.Converting.{DefaultIs, empty, plainly, untrue, zero}
use Rattle.fp_types.specs.Given.{AreTypesGiven}
use Rattle.fp_type_forms.specs.Written.{AreWritten, IsWritten, KindIs, types, types_before}
use Rattle.fp_source_parts.proofs.Positions.{type_lies}

small : 1 ≤ 65536
small = omega arith

one_level : 1 ≤ 64
one_level = omega arith

module _ (source : Source) (ws : List WrittenType) (ts : List TypeDef) (written : AreWritten source ws) (given : AreTypesGiven ws (map (λ (d : TypeDef). Some d) ts))
    (size_of_default : (ws : List WrittenType) (i : ℕ) (v : Value) → DefaultIs ws (kind.Named i) v → IsOfSize ws (kind.Named i)) where
  -- a type of the source that is named lies among them
  pub named_lies : (scope : Path) (t : TypeForm) (k : Kind) (i : ℕ) → KindIs source scope t k → k ≡ kind.Named i → i < length ws
  named_lies scope (type.Use q) k i h e =
      let low = type_lies source scope q h.0 h.1 in
      let same : types_before (definitions source) h.0 ≡ i = same_named (sym h.2 ∙ e) in
      subst (λ (n : ℕ). i < n) (as_long (IsWritten source) 0 (types source) ws written) (subst (λ (n : ℕ). n < length (types source)) same low)
    where
      same_named : {m n : ℕ} → kind.Named m ≡ kind.Named n → m ≡ n
      same_named e = cc
  named_lies scope (type.Text None) k i h e = absurd (cc)
  named_lies scope (type.Text (Some x)) k i h e = let is = h.2 in absurd (cc)
  named_lies scope type.U8 k i h e = absurd (cc)
  named_lies scope type.U16 k i h e = absurd (cc)
  named_lies scope type.U32 k i h e = absurd (cc)
  named_lies scope type.U64 k i h e = absurd (cc)
  named_lies scope type.I8 k i h e = absurd (cc)
  named_lies scope type.I16 k i h e = absurd (cc)
  named_lies scope type.I32 k i h e = absurd (cc)
  named_lies scope type.I64 k i h e = absurd (cc)
  named_lies scope type.F32 k i h e = absurd (cc)
  named_lies scope type.F64 k i h e = absurd (cc)
  named_lies scope type.Bool k i h e = absurd (cc)

  given_default : (i : ℕ) → i < length ws → (v : Value) × DefaultIs ws (kind.Named i) v
  given_default i low =
      let long : length (map (λ (d : TypeDef). Some d) ts) ≡ length ws = given.each in
      let d = item_below ts i (subst (λ (n : ℕ). i < n) (sym (sym (length-map ts (λ (d : TypeDef). Some d)) ∙ long)) low) in
      let there = given.at i (Some d.0) (slice_get-map (λ (x : TypeDef). Some x) ts i ∙ ap (option_map (λ (x : TypeDef). Some x)) d.1) in
      (d.0.default, (there.holds d.0 refl).1)

  -- by the kind, of which a type of the source lies among them
  has_default : (k : Kind) → ((i : ℕ) → k ≡ kind.Named i → i < length ws) → (v : Value) × DefaultIs ws k v
  has_default kind.U8 h = (_, plainly tt zero)
  has_default kind.U16 h = (_, plainly tt zero)
  has_default kind.U32 h = (_, plainly tt zero)
  has_default kind.U64 h = (_, plainly tt zero)
  has_default kind.I8 h = (_, plainly tt zero)
  has_default kind.I16 h = (_, plainly tt zero)
  has_default kind.I32 h = (_, plainly tt zero)
  has_default kind.I64 h = (_, plainly tt zero)
  has_default kind.Bool h = (_, plainly tt untrue)
  has_default (kind.Str size) h = (_, plainly tt empty)
  has_default (kind.Named i) h = given_default i (h i refl)

  has_size : (k : Kind) → ((i : ℕ) → k ≡ kind.Named i → i < length ws) → IsOfSize ws k
  has_size kind.U8 h = (_, _, plain tt, small, one_level)
  has_size kind.U16 h = (_, _, plain tt, small, one_level)
  has_size kind.U32 h = (_, _, plain tt, small, one_level)
  has_size kind.U64 h = (_, _, plain tt, small, one_level)
  has_size kind.I8 h = (_, _, plain tt, small, one_level)
  has_size kind.I16 h = (_, _, plain tt, small, one_level)
  has_size kind.I32 h = (_, _, plain tt, small, one_level)
  has_size kind.I64 h = (_, _, plain tt, small, one_level)
  has_size kind.Bool h = (_, _, plain tt, small, one_level)
  has_size (kind.Str size) h = (_, _, plain tt, small, one_level)
  has_size (kind.Named i) h = let d = given_default i (h i refl) in size_of_default ws i d.0 d.1

  pub kind_has_default : (scope : Path) (t : TypeForm) (k : Kind) → KindIs source scope t k → (v : Value) × DefaultIs ws k v
  kind_has_default scope t k h = has_default k (λ i. named_lies scope t k i h)

  pub kind_has_size : (scope : Path) (t : TypeForm) (k : Kind) → KindIs source scope t k → IsOfSize ws k
  kind_has_size scope t k h = has_size k (λ i. named_lies scope t k i h)
