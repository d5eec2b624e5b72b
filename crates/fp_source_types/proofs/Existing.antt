-- Where no rule of constants and of types is broken, each expression has a value.
use Rattle.std.proofs.Common.{◌≡◌, ℕ, ◌+◌, ◌⊎◌, inl, inr, List, [], ◌∷◌, length, flat_map, slice_get, Option, Some}
use Rattle.fp_base.specs.Least.{IsUnbroken}
use Rattle.fp_base.specs.declared.value.Value.{Value}
use Rattle.fp_base.proofs.Options.{no_some}
use Rattle.fp_graph.proofs.Places.{get_joined}
use Rattle.fp_tree.specs.declared.source.Source.{Source}
use Rattle.fp_meaning.specs.declared.item.Item.{Item}
use Rattle.fp_meaning.specs.ConstantFaults.{ConstantsBroken}
use Rattle.fp_meaning.specs.Layout.{items}
use Rattle.fp_meaning.specs.Meaning.{AreMeanings}
use Rattle.fp_meaning.specs.Names.{definitions, definitions_of, mentions}
use Rattle.fp_meaning.specs.Origins.{Placed, expressions, expressions_of}
use Rattle.fp_meaning.specs.Values.{opened, Val}
use Rattle.fp_tables.specs.declared.kind.TypeDef.{TypeDef}
use Rattle.fp_source_types.specs.Broken.{TypesBroken}
use Rattle.fp_source_types.specs.Typed.{AreTypesOf}
use Rattle.fp_source_types.proofs.Expressed.{Valued}
use Rattle.fp_source_types.proofs.Meant.{Stands, all_stand}
use Rattle.fp_source_types.proofs.Numbered.{are_numbered}
use Rattle.fp_source_types.proofs.Standing.{AllFrom}

module _ (source : Source) where
  valued_among : (b : ℕ) (is : List Item) → AllFrom (Stands source) b is → (k : ℕ) (p : Placed) → slice_get (flat_map expressions_of is) k ≡ Some p → Valued source p.scope p.expression
  valued_among b [] h k p at = no_some at
  valued_among b (i ∷ is) h k p at = go (get_joined (expressions_of i) (flat_map expressions_of is) p k at) (valued_among (b + length (definitions_of i)) is h.1)
    where
      go : (slice_get (expressions_of i) k ≡ Some p) ⊎ ((j : ℕ) × (k ≡ length (expressions_of i) + j) × (slice_get (flat_map expressions_of is) j ≡ Some p))
          → ((j : ℕ) (q : Placed) → slice_get (flat_map expressions_of is) j ≡ Some q → Valued source q.scope q.expression) → Valued source p.scope p.expression
      go (inl f) rest = h.0.values k p f
      go (inr (j, e, f)) rest = rest j p f

pub values_exist : (source : Source) (meanings : List ℕ) (given : List (Option TypeDef)) → AreMeanings (definitions source) (mentions source) meanings → IsUnbroken (ConstantsBroken source)
    → IsUnbroken (TypesBroken source) → AreTypesOf source given → (k : ℕ) (p : Placed) → slice_get (expressions source) k ≡ Some p → (v : Value) × Val source p.scope (opened p.expression) v
values_exist source meanings given meant constants types of k p at =
    let numbered = are_numbered source (λ f b. types f (record { written = of.written; are = of.are; broken = inr (inl (inl b)) })) in
    valued_among source 0 (items source) (all_stand source meanings meant constants numbered) k p at
