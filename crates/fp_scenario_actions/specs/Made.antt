-- What is made of JSON values: a value, or nothing where there is none.
use Rattle.std.specs.Prelude.{◌≡◌, ℕ, Bool, List, Option, Some, None, cond, option_map, option_and_then}
use Rattle.serde_json.specs.Data as json
use Rattle.serde_json.specs.Find.{as_integer}
use Rattle.fp_base.specs.declared.value.Value.{Value, Bool as Truth, Text, Struct, Opaque}
use Rattle.fp_base.specs.declared.value.MemberValue.{MemberValue}
use Rattle.fp_tables.specs.Arguments.{Scope, is_one_kind}
use Rattle.fp_tables.specs.Types.{Shape, integer, truth, words, constants, opaque}
use Rattle.fp_tables.specs.declared.kind.Kind.{Kind}
use Rattle.fp_tables.specs.declared.kind.Field.{Field}
use Rattle.fp_tables.specs.declared.kind.Constant.{Constant}
use Rattle.fp_tables.specs.declared.kind.TypeDef.{TypeDef}
use Rattle.fp_tables.specs.declared.program.Arg.{Arg}
use Rattle.fp_tables.specs.declared.program.Arg.TheVariants.{Bound}
use Rattle.fp_types.specs.Converting.{member_named, parts_in}
use Rattle.fp_types.specs.Making.{number_within}
use Rattle.fp_scenario_actions.specs.Wanted.{Wanted, member, constant_named, with_given}
use Rattle.fp_scenario_actions.specs.Arguments.{Means, MembersMean, IsArgument, AreArguments}

-- ---- values without parts

abbrev pub number_made : Shape → json.Num → Option Value
number_made (integer low high) n = option_and_then (number_within low high) (as_integer n)
number_made _ n = None

abbrev pub truth_made : Shape → Bool → Option Value
truth_made truth b = Some (Truth b)
truth_made _ b = None

abbrev pub text_made : Shape → List ℕ → Option Value
text_made words s = Some (Text s)
text_made (constants cs) s = option_map (λ (x : Constant). x.value) (constant_named cs s)
text_made _ s = None

abbrev pub null_made : Shape → Option Value
null_made opaque = Some Opaque
null_made _ = None

abbrev pub completed : Value → List MemberValue → Value
completed default given = Struct (with_given given (parts_in default))

-- ---- all values

-- a name that is bound to the type
abbrev pub named_made : List TypeDef → Scope → Kind → List ℕ → Option Arg
named_made types scope k name = option_and_then (λ j. cond (is_one_kind types j k) (Some (Bound name)) None) (scope name)

module _ (types : List TypeDef) where
  abbrev pub IsMade : Wanted → json.Data → Option Value → Type 0
  IsMade w d (Some v) = Means types w d v
  IsMade w d None = (v : Value) → Means types w d v → ⊥

  -- the value of one key
  abbrev pub IsMadeAt : List Field → List ℕ → json.Data → Option Value → Type 0
  IsMadeAt fields k d (Some v) = (f : Field) × (member_named fields k ≡ Some f) × Means types (member types f) d v
  IsMadeAt fields k d None = (f : Field) (v : Value) → member_named fields k ≡ Some f → Means types (member types f) d v → ⊥

  abbrev pub AreMadeAt : List Field → json.Members → Option (List MemberValue) → Type 0
  AreMadeAt fields ms (Some given) = MembersMean types fields ms given
  AreMadeAt fields ms None = (given : List MemberValue) → MembersMean types fields ms given → ⊥

  abbrev pub IsArgumentMade : Scope → Kind → json.Data → Option Arg → Type 0
  IsArgumentMade scope k d (Some a) = IsArgument types scope k d a
  IsArgumentMade scope k d None = (a : Arg) → IsArgument types scope k d a → ⊥

  abbrev pub AreArgumentsMade : Scope → List Kind → List json.Data → Option (List Arg) → Type 0
  AreArgumentsMade scope ks ds (Some given) = AreArguments types scope ks ds given
  AreArgumentsMade scope ks ds None = (given : List Arg) → AreArguments types scope ks ds given → ⊥
