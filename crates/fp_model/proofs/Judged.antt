-- What is found of values, types, formats, parts and phases of a source that is laid out flat, put together.
use Rattle.std.proofs.Common.{◌≡◌, ℕ, inl, inr, List, flat_map, map, Option, Some, None, sym, subst}
use Rattle.std.specs.Prelude.{option_to_list}
use Rattle.fp_base.specs.Least.{Either, IsLeast, IsUnbroken, lesser_of}
use Rattle.fp_base.specs.declared.refusal.Refusal.{Refusal}
use Rattle.fp_base.specs.declared.value.Value.{Value}
use Rattle.fp_base.proofs.Calculus.{least_along, least_either, least_same, none_broken}
use Rattle.fp_tree.specs.declared.source.Source.{Source}
use Rattle.fp_tables.specs.declared.kind.TypeDef.{TypeDef}
use Rattle.fp_meaning.specs.declared.item.Item.{Item}
use Rattle.fp_meaning.specs.Broken.{BrokenByDefinitions, NamesBroken}
use Rattle.fp_meaning.specs.ConstantFaults.{ConstantsBroken}
use Rattle.fp_meaning.specs.Layout.{items}
use Rattle.fp_meaning.specs.Meaning.{AreMeanings}
use Rattle.fp_meaning.specs.Names.{definitions, mentions}
use Rattle.fp_meaning.specs.Origins.{expressions}
use Rattle.fp_consts.specs.Marked.{AreValues}
use Rattle.fp_type_sizes.specs.declared.written.WrittenType.{WrittenType}
use Rattle.fp_type_forms.specs.declared.resolving.Resolution.{Resolution}
use Rattle.fp_type_forms.specs.Resolved.{AreItemsOf, AreResolved, ResolvesItems}
use Rattle.fp_type_forms.specs.Written.{AreWritten}
use Rattle.fp_type_forms.proofs.OneForm.{one_list}
use Rattle.fp_type_formats.specs.Broken.{BrokenByFormats, FormatsBroken}
use Rattle.fp_source_types.specs.Broken.{TypesBroken}
use Rattle.fp_source_types.specs.Resolved.{EachIsGiven}
use Rattle.fp_source_types.specs.Typed.{AreTypesOf}
use Rattle.fp_source_types.proofs.Resolved.{given_types}
use Rattle.fp_part_values.specs.FormBroken.{PartFormsBroken}
use Rattle.fp_part_values.specs.FormStanding.{AreValued}
use Rattle.fp_part_values.specs.Broken.{PartValuesBroken}
use Rattle.fp_part_values.specs.Phases.{PhasesBroken}
use Rattle.fp_source_parts.specs.Valued.{IsValued}
use Rattle.fp_model.specs.Broken.{ConversionsBroken, ValuesBroken}

module _ (source : Source) (is : List Item) (laid : is ≡ items source) where
  pub items_of : (meanings : List ℕ) (at given : List (Option Value)) → given ≡ at → AreMeanings (definitions source) (mentions source) meanings → AreValues source (expressions source) at
      → AreItemsOf source is meanings given
  items_of meanings at given same meant valued =
      record { laid = laid; meant = meant; valued = subst (λ (os : List (Option Value)). AreValues source (expressions source) os) (sym same) valued }

  -- the least of all, from those of each sort of rules
  pub judged : (constants types formats of_parts behind of_types first : Option Refusal) → IsLeast (ConstantsBroken source) constants → IsLeast (TypesBroken source) types
      → IsLeast (BrokenByFormats is) formats → IsLeast (Either (PartFormsBroken source) (Either (ConversionsBroken source) (PhasesBroken source))) of_parts
      → behind ≡ lesser_of formats of_parts → of_types ≡ lesser_of types behind → first ≡ lesser_of constants of_types → IsLeast (ValuesBroken source) first
  judged constants types formats of_parts behind of_types first c t f p d e g =
      let formatted : IsLeast (FormatsBroken source) formats = subst (λ (xs : List Item). IsLeast (BrokenByFormats xs) formats) laid f in
      least_along (sym g) (least_either constants of_types c (least_along (sym e) (least_either types behind t (least_along (sym d) (least_either formats of_parts formatted p)))))

-- what is written of the types is one list
pub conversions_least : (source : Source) (ws : List WrittenType) (o : Option Refusal) → AreWritten source ws → IsLeast (PartValuesBroken source ws) o → IsLeast (ConversionsBroken source) o
conversions_least source ws o are l =
    least_same (λ f b. (ws, are, b)) (λ f b. subst (λ (vs : List WrittenType). PartValuesBroken source vs f) (one_list source b.0 ws b.1 are) b.2) l

module _ (source : Source) (unbroken : IsUnbroken (ValuesBroken source)) where
  pub constants_unbroken : IsUnbroken (ConstantsBroken source)
  constants_unbroken f b = unbroken f (inl b)

  pub types_unbroken : IsUnbroken (TypesBroken source)
  types_unbroken f b = unbroken f (inr (inl b))

  -- where each expression has its value
  pub valued_with : (values : List (Option Value)) (rs : List Resolution) (ws : List WrittenType) (ts : List TypeDef) → AreResolved source values rs (items source) 0 → AreValued source
      → AreWritten source ws → AreTypesOf source (map (λ (d : TypeDef). Some d) ts) → IsValued source values rs ws ts
  valued_with values rs ws ts resolved valued written given = record {
    resolved = resolved;
    valued = valued;
    written = written;
    given = given;
    types_unbroken = types_unbroken;
    formats_unbroken = λ f b. unbroken f (inr (inr (inl b)));
    forms_unbroken = λ f b. unbroken f (inr (inr (inr (inl b))));
    conversions_unbroken = λ f b. unbroken f (inr (inr (inr (inr (inl (ws, written, b))))));
  }

-- what is found of a source: what its items are resolved to, what is written of its types and what they come to, and the least rule of values
pub record IsFound (source : Source) (values : List (Option Value)) (rs : List Resolution) (ws : List WrittenType) (marked : List (Option TypeDef)) (first : Option Refusal) : Type 0 where
  pub resolved : AreResolved source values rs (items source) 0
  pub written : AreWritten source ws
  pub typed : AreTypesOf source marked
  pub least : IsLeast (ValuesBroken source) first

-- from what the calls say of any source of these items
module _ (source : Source) (is : List Item) (laid : is ≡ items source) (meanings : List ℕ) (values at : List (Option Value)) (same : at ≡ values)
    (meant : AreMeanings (definitions source) (mentions source) meanings) (valued : AreValues source (expressions source) values) (rs : List Resolution) (ws : List WrittenType)
    (resolves : ResolvesItems is meanings at rs) (writes : (s : Source) → AreItemsOf s is meanings at → AreWritten s ws) where
  abbrev pub FoundHere : (Source → Refusal → Type 0) → Option Refusal → Type 0
  FoundHere Broken o = (s : Source) → is ≡ items s → AreResolved s at rs is 0 → AreWritten s ws → IsLeast (Broken s) o

  pub found : (marked : List (Option TypeDef)) → ((s : Source) → AreWritten s ws → AreTypesOf s marked) → (constants types formats of_parts behind of_types first : Option Refusal)
      → IsLeast (ConstantsBroken source) constants → FoundHere TypesBroken types → IsLeast (BrokenByFormats is) formats
      → FoundHere (λ s. Either (PartFormsBroken s) (Either (ConversionsBroken s) (PhasesBroken s))) of_parts → behind ≡ lesser_of formats of_parts → of_types ≡ lesser_of types behind
      → first ≡ lesser_of constants of_types
      → IsFound source values rs ws marked first
  found marked gives constants types formats of_parts behind of_types first c t f p d e g =
      let of = items_of source is laid meanings values at same meant valued in
      let resolved : AreResolved source at rs is 0 = resolves source of in
      let written : AreWritten source ws = writes source of in
      record {
        resolved = subst (λ (xs : List Item). AreResolved source values rs xs 0) laid (subst (λ (os : List (Option Value)). AreResolved source os rs is 0) same resolved);
        written = written;
        typed = gives source written;
        least = judged source is laid constants types formats of_parts behind of_types first c (t source laid resolved written) f (p source laid resolved written) d e g;
      }

module _ (source : Source) (values : List (Option Value)) (rs : List Resolution) (ws : List WrittenType) (marked : List (Option TypeDef)) (first : Option Refusal)
    (found : IsFound source values rs ws marked first) (none : first ≡ None) where
  pub unbroken_found : IsUnbroken (ValuesBroken source)
  unbroken_found = none_broken (least_along none found.least)

  -- by the laws on what exists where no rule is broken
  pub all_valued : (IsUnbroken (ConstantsBroken source) → IsUnbroken (TypesBroken source) → AreTypesOf source marked → AreValued source) → AreValued source
  all_valued exist = exist (constants_unbroken source unbroken_found) (types_unbroken source unbroken_found) found.typed

  pub valued_found : (ts : List TypeDef) → ts ≡ flat_map option_to_list marked
      → (IsUnbroken (ConstantsBroken source) → IsUnbroken (TypesBroken source) → AreTypesOf source marked → AreValued source)
      → (IsUnbroken (ConstantsBroken source) → IsUnbroken (TypesBroken source) → AreTypesOf source marked → EachIsGiven marked) → IsValued source values rs ws ts
  valued_found ts is exist given =
      valued_with source unbroken_found values rs ws ts found.resolved (all_valued exist) found.written
      (given_types source marked ts is (given (constants_unbroken source unbroken_found) (types_unbroken source unbroken_found) found.typed) found.typed)

pub definitions_once : (source : Source) → IsUnbroken (NamesBroken source) → IsUnbroken (BrokenByDefinitions source)
definitions_once source unbroken f b = unbroken f (inl b)
