-- The rules that a scenario's text keeps, each with the path of what breaks it.
use Rattle.std.specs.Prelude.{◌≡◌, ◌<◌, ◌⊎◌, ℕ, List, [], ◌∷◌, ◌++◌, length, codes, true, false, Some, None, IsSome, is_some, decimal}
use Rattle.std.specs.List.{list_all}
use Rattle.std.specs.Str.{IsUtf8}
use Rattle.serde_json.specs.Data.{Data}
use Rattle.serde_json.specs.Read.{read}
use Rattle.serde_json.specs.Find.{get, at, as_object}
use Rattle.fp_base.specs.declared.rule.Rule.{Rule}
use Rattle.fp_base.specs.declared.rule.Rule.TheVariants.{NotJson, UnknownKey, WrongKindOfValue, MissingKey, PastSize}
use Rattle.fp_scenario.specs.Keys.{first_of, wants_object, needed, wanted_at, wanted_of_items}
use Rattle.fp_scenario.specs.Kinds.{is_of_kind, is_of_size}
use Rattle.fp_scenario.specs.declared.wanted.Wanted.{Wanted}
use Rattle.fp_scenario.specs.declared.wanted.Wanted.TheVariants.{Scenario}

-- the text is UTF-8 and JSON, and this is its value
abbrev pub Reads : List ℕ → Data → Type 0
Reads bytes d = IsUtf8 bytes × (read bytes ≡ Some d)

abbrev pub below : List ℕ → List ℕ → List ℕ
below step path = 47 ∷ step ++ path

-- the part of a value at a path, with what is wanted of it: the value itself, or a part of what stands at a known key or in a list
pub data PartOf : Wanted → Data → List ℕ → Wanted → Data → Type 0 where
  itself : {w : Wanted} {d : Data} {path : List ℕ} → path ≡ [] → PartOf w d path w d
  in_member : {w u : Wanted} {d y : Data} {path rest : List ℕ} (k : List ℕ) (x : Data) (v : Wanted) → get k d ≡ Some x → wanted_at w d k ≡ Some v → PartOf v x rest u y → path ≡ below k rest → PartOf w d path u y
  in_item : {w u : Wanted} {d y : Data} {path rest : List ℕ} (i : ℕ) (x : Data) (v : Wanted) → at i d ≡ Some x → wanted_of_items w ≡ Some v → PartOf v x rest u y → path ≡ below (decimal i) rest → PartOf w d path u y

-- a key that is none of such an object's, at the key
abbrev pub HasUnknownKey : Wanted → Data → List ℕ → Type 0
HasUnknownKey w d path = (k : List ℕ) × (path ≡ below k []) × (wants_object w ≡ true) × IsSome (get k d) × (wanted_at w d k ≡ None)

-- a value of another kind, at the value
abbrev pub IsOfOtherKind : Wanted → Data → List ℕ → Type 0
IsOfOtherKind w d path = (path ≡ []) × (is_of_kind w d ≡ false)

-- a key that must be there is missing, at the object
abbrev pub LacksKey : Wanted → Data → List ℕ → Type 0
LacksKey w d path = (path ≡ []) × IsSome (as_object d) × (list_all (λ k. is_some (get k d)) (needed w (first_of d)) ≡ false)

-- a limit is passed, at the value
abbrev pub PassesLimit : Wanted → Data → List ℕ → Type 0
PassesLimit w d path = (path ≡ []) × (is_of_kind w d ≡ true) × (is_of_size w d ≡ false)

-- what is wanted of a value, and the value, break a rule at a path of the value
abbrev pub Flaw : Rule → Wanted → Data → List ℕ → Type 0
Flaw UnknownKey w d path = HasUnknownKey w d path
Flaw WrongKindOfValue w d path = IsOfOtherKind w d path
Flaw MissingKey w d path = LacksKey w d path
Flaw PastSize w d path = PassesLimit w d path
Flaw _ w d path = ⊥

-- some part of the value does
pub record Breaks (w : Wanted) (d : Data) (rule : Rule) (path : List ℕ) : Type 0 where
  pub part_wanted : Wanted
  pub part : Data
  pub before : List ℕ
  pub after : List ℕ
  pub stands : PartOf w d before part_wanted part
  pub flaw : Flaw rule part_wanted part after
  pub joined : path ≡ before ++ after

-- the path as it is named: the root is `/`
abbrev pub named : List ℕ → List ℕ
named [] = codes "/"
named (byte ∷ bytes) = byte ∷ bytes

-- a file of more than 4 MiB
abbrev pub IsTooLong : List ℕ → Type 0
IsTooLong bytes = 4194304 < length bytes

abbrev pub IsNotJson : List ℕ → Type 0
IsNotJson bytes = (d : Data) → Reads bytes d → ⊥

abbrev pub BreaksInside : List ℕ → Rule → List ℕ → Type 0
BreaksInside bytes rule path = (d : Data) × (inner : List ℕ) × Reads bytes d × Breaks Scenario d rule inner × (path ≡ named inner)

-- the text of a scenario breaks a rule at a path
abbrev pub IsTextBroken : List ℕ → Rule → List ℕ → Type 0
IsTextBroken bytes NotJson path = (path ≡ codes "/") × IsNotJson bytes
IsTextBroken bytes PastSize path = ((path ≡ codes "/") × IsTooLong bytes) ⊎ BreaksInside bytes PastSize path
IsTextBroken bytes rule path = BreaksInside bytes rule path
