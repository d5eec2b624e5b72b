-- The texts that an object of a scenario is told from others by, and what is given a second time.
use Rattle.std.specs.Prelude.{◌≡◌, ◌&&◌, ◌==◌, ℕ, Bool, List, [], map, Option, Some, None}
use Rattle.std.specs.Ordering.{nat_cmp, ordering_then, is_eq}
use Rattle.std.specs.Cmp.Lexicographic.{slice_cmp}
use Rattle.std.specs.declared.cmp.Ordering.{Ordering}
use Rattle.std.specs.Str.{bytes_eq}
use Rattle.fp_tables.specs.Lists.{some_and}
use Rattle.fp_tables.specs.Lookup.{Described}
use Rattle.std.specs.List.{list_any}
use Rattle.std.specs.BTreeSet.{BTreeSet, contains_by}
use Rattle.fp_scenario.specs.declared.scenario.Scenario.{Scenario}
use Rattle.fp_scenario.specs.declared.scenario.HandlerText.{HandlerText}
use Rattle.fp_scenario_actions.specs.Named.{placed_named}
use Rattle.fp_scenario_check.specs.Planned.{IsRepeated}
use denote.Ref.{Bor}

-- up to three texts
abbrev pub Key : Type 0
Key = Bor (List ℕ) × Bor (List ℕ) × Bor (List ℕ)

abbrev pub text_cmp : Bor (List ℕ) → Bor (List ℕ) → Ordering
text_cmp a b = slice_cmp nat_cmp a.now b.now

abbrev pub key_cmp : Key → Key → Ordering
key_cmp a b = ordering_then (ordering_then (text_cmp a.0 b.0) (text_cmp a.1 b.1)) (text_cmp a.2 b.2)

abbrev pub same_key : Key → Key → Bool
same_key a b = is_eq (key_cmp a b)

abbrev pub texts_of : Key → List ℕ × List ℕ × List ℕ
texts_of key = (key.0.now, key.1.now, key.2.now)

-- one that is given before, and none only where nothing is given twice
abbrev pub IsRepeat : {A : Type 0} → (A → A → Bool) → List A → Option ℕ → Type 0
IsRepeat same xs (Some n) = IsRepeated same xs n
IsRepeat same xs None = (n : ℕ) → IsRepeated same xs n → ⊥

-- an instance, and the text of a place
abbrev pub Owned : Type 0
Owned = ℕ × Bor (List ℕ)

abbrev pub owned_cmp : Owned → Owned → Ordering
owned_cmp a b = ordering_then (nat_cmp a.0 b.0) (text_cmp a.1 b.1)

-- the handler is the instance's own, for the place
abbrev pub is_own : Described → ℕ → List ℕ → HandlerText → Bool
is_own t i on g = bytes_eq g.on_ on && some_and (λ j. j == i) (placed_named t g.of)

abbrev pub AreOwnedBy : Described → List HandlerText → BTreeSet Owned → Type 0
AreOwnedBy t texts owned = (i : ℕ) (on : Bor (List ℕ)) → contains_by (owned_cmp (i, on)) owned ≡ list_any (is_own t i on.now) texts

-- which instances have handlers of their own, and for which places
abbrev pub AreOwned : Described → Scenario → BTreeSet Owned → Type 0
AreOwned t scenario owned = AreOwnedBy t scenario.handlers owned
