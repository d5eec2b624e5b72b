-- JSON objects by their keys. Those that have nothing to say aren't there, and a JSON value has its keys in the order of their bytes.
use Rattle.std.specs.Prelude.{ℕ, codes, List, [], ◌∷◌, Option, Some, None}
use Rattle.serde_json.specs.Data.{Data, number, string, array, object, unsigned, Members, no_members, put}
use Rattle.serde_json.specs.View.{items_of, members_view}
use Rattle.fp_dictionary.specs.declared.objects.Object.{Object}

-- a key with what it says
abbrev pub Entry : Type 0
Entry = List ℕ × Data

abbrev pub with_entries : List Entry → Members → Members
with_entries [] members = members
with_entries (e ∷ es) members = with_entries es (put e.0 e.1 members)

abbrev pub object_of : List Entry → Data
object_of es = object (with_entries es no_members)

abbrev pub list_of : List Data → Data
list_of ds = array (items_of ds)

abbrev pub natural : ℕ → Data
natural n = number (unsigned n)

-- an annotation, where one is written
abbrev pub annotation : List ℕ → List Entry
annotation [] = []
annotation (b ∷ bs) = (codes "annotation", string (b ∷ bs)) ∷ []

-- a key that says something only where there is something
abbrev pub optional : {A : Type 0} → List ℕ → (A → Data) → Option A → List Entry
optional key f None = []
optional key f (Some x) = (key, f x) ∷ []

-- the members that stand in an object so far
abbrev pub held : Object → Members
held o = members_view o.map.entries
