-- What a JSON value is as a value of a type, and as an argument.
use Rattle.std.specs.Prelude.{◌≡◌, ℕ, Bool, true, false, ◌==◌, ℤ, codes, cond, List, [], ◌∷◌, length, Option, Some, None, option_and_then, unwrap_or, option_map, is_some, ⊤}
use Rattle.fp_tables.specs.Lists.{if_some}
use Rattle.serde_json.specs.Data as json
use Rattle.serde_json.specs.Find.{get, as_str, as_object, as_integer}
use Rattle.serde_json.specs.Events.{members_len}
use Rattle.fp_base.specs.declared.value.Value.{Value, Int, Bool as Truth, Text, Array, Struct, Opaque}
use Rattle.fp_base.specs.declared.value.MemberValue.{MemberValue}
use Rattle.fp_tables.specs.Arguments.{Scope, is_one_kind}
use Rattle.fp_tables.specs.declared.kind.Kind.{Kind}
use Rattle.fp_tables.specs.declared.kind.Field.{Field}
use Rattle.fp_tables.specs.declared.kind.Constant.{Constant}
use Rattle.fp_tables.specs.declared.kind.TypeDef.{TypeDef}
use Rattle.fp_tables.specs.declared.program.Arg.{Arg}
use Rattle.fp_tables.specs.declared.program.Arg.TheVariants.{Given, Bound}
use Rattle.fp_types.specs.Converting.{IsWithin, member_named, parts_in}
use Rattle.fp_scenario_actions.specs.Wanted.{Wanted, integer, truth, words, array, struct, constants, opaque, wanted, member, constant_named, with_given}

-- ---- values

mutual
  pub data Means (types : List TypeDef) : Wanted → json.Data → Value → Type 0 where
    -- a whole number in the type's range
    number : {low high z : ℤ} {n : json.Num} → as_integer n ≡ Some z → IsWithin low high z → Means types (integer low high) (json.number n) (Int z)
    truth_value : {b : _} → Means types truth (json.boolean b) (Truth b)
    text : {s : List ℕ} → Means types words (json.string s) (Text s)
    -- the name of a constant, for that constant
    constant : {s : List ℕ} {cs : List Constant} {x : Constant} → constant_named cs s ≡ Some x → Means types (constants cs) (json.string s) x.value
    -- null, for the one value of an abstract type
    no_value : Means types opaque json.null Opaque
    -- a list of the exact length
    items : {size : ℕ} {k : Kind} {ds : json.Items} {vs : List Value} → EachMeans types (wanted types k) ds vs → length vs ≡ size → Means types (array size k) (json.array ds) (Array vs)
    -- an object with members of the struct; those that it leaves out are as in the struct's default
    members : {fields : List Field} {default : Value} {ms : json.Members} {given : List MemberValue} → MembersMean types fields ms given
        → Means types (struct fields default) (json.object ms) (Struct (with_given given (parts_in default)))

  pub data EachMeans (types : List TypeDef) : Wanted → json.Items → List Value → Type 0 where
    none : {w : Wanted} → EachMeans types w json.no_items []
    more : {w : Wanted} {d : json.Data} {v : Value} {ds : json.Items} {vs : List Value} → Means types w d v → EachMeans types w ds vs → EachMeans types w (json.item d ds) (v ∷ vs)

  -- each key is the name of a field
  pub data MembersMean (types : List TypeDef) : List Field → json.Members → List MemberValue → Type 0 where
    no_member : {fields : List Field} → MembersMean types fields json.no_members []
    in_member : {fields : List Field} {f : Field} {k : List ℕ} {d : json.Data} {v : Value} {ms : json.Members} {given : List MemberValue} → member_named fields k ≡ Some f → Means types (member types f) d v
        → MembersMean types fields ms given → MembersMean types fields (json.member k d ms) (record { name = k; value = v } ∷ given)

-- ---- arguments

abbrev pub has_one_member : json.Data → Bool
has_one_member d = unwrap_or (option_map (λ ms. members_len ms == 1) (as_object d)) false

-- the name in an object that has a text at `$` alone
abbrev pub name_in : json.Data → Option (List ℕ)
name_in d = cond (has_one_member d) (option_and_then as_str (get (codes "$") d)) None

-- the value names nothing that isn't bound
abbrev pub is_bound : Scope → json.Data → Bool
is_bound scope d = if_some (λ name. is_some (scope name)) (name_in d)

-- a name that is bound to the type, or a value of it
pub data IsArgument (types : List TypeDef) (scope : Scope) (k : Kind) (d : json.Data) : Arg → Type 0 where
  bound : {name : List ℕ} {j : Kind} → name_in d ≡ Some name → scope name ≡ Some j → is_one_kind types j k ≡ true → IsArgument types scope k d (Bound name)
  value : {v : Value} → name_in d ≡ None → Means types (wanted types k) d v → IsArgument types scope k d (Given v)

-- one argument for each type, in order
abbrev pub AreArguments : List TypeDef → Scope → List Kind → List json.Data → List Arg → Type 0
AreArguments types scope [] [] [] = ⊤
AreArguments types scope (k ∷ ks) (d ∷ ds) (a ∷ as_) = IsArgument types scope k d a × AreArguments types scope ks ds as_
AreArguments types scope _ _ _ = ⊥
