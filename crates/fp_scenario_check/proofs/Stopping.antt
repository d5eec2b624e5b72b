-- Stops, a step of the path at a time.
use Rattle.std.proofs.Common.{◌≡◌, ℕ, List, [], ◌∷◌, decimal, Some, Ok, Err, Result, IfErr, IsErrAnd, slice_get, sym, refl, subst}
use Rattle.std.specs.Prelude.{⊤}
use Rattle.fp_base.specs.declared.rule.Rule.{Rule}
use Rattle.fp_scenario.specs.Broken.{below}
use Rattle.fp_scenario.specs.Checked.{Stops, StopsBelow}
use Rattle.fp_scenario.specs.declared.scenario.ScenarioStop.{ScenarioStop}
use Rattle.fp_scenario.specs.declared.scenario.ScenarioStop.TheVariants.{Broken, NoMemory}
use Rattle.fp_scenario_check.specs.Planned.{action_path}
use Rattle.fp_scenario_actions.specs.declared.listing.ListHalt.{ListHalt}
use Rattle.fp_scenario_actions.specs.declared.listing.ListHalt.TheVariants as halt
use Rattle.fp_scenario_check.specs.Faults.{IsStop, StopsInList, InItem}

pub stopped : (P : Rule → List ℕ → Type 0) (rule : Rule) (path : List ℕ) (stop : ScenarioStop) → Stops rule path stop → P rule path → IsStop P stop
stopped P rule path (Broken stop) h p = subst (λ r. P r stop.path) (sym h.0) (subst (λ q. P rule q) (sym h.1) p)
stopped P rule path NoMemory h p = tt

pub no_memory : (P : Rule → List ℕ → Type 0) (stop : ScenarioStop) → stop ≡ NoMemory → IsStop P stop
no_memory P stop is = subst (λ s. IsStop P s) (sym is) tt

pub lifted : (P Q : Rule → List ℕ → Type 0) (step : List ℕ) (stop seen : ScenarioStop) → StopsBelow step stop seen → ((rule : Rule) (path : List ℕ) → P rule path → Q rule (below step path)) → IsStop P stop → IsStop Q seen
lifted P Q step (Broken stop) seen is f h = stopped Q stop.rule (below step stop.path) seen is (f stop.rule stop.path h)
lifted P Q step NoMemory seen is f h = no_memory Q seen is

pub weaker : (P Q : Rule → List ℕ → Type 0) (stop : ScenarioStop) → ((rule : Rule) (path : List ℕ) → P rule path → Q rule path) → IsStop P stop → IsStop Q stop
weaker P Q (Broken stop) f h = f stop.rule stop.path h
weaker P Q NoMemory f h = tt

pub stops_below : (rule : Rule) (path step : List ℕ) (stop seen : ScenarioStop) → Stops rule path stop → StopsBelow step stop seen → Stops rule (below step path) seen
stops_below rule path step (Broken stop) seen h is = subst (λ r. Stops r (below step path) seen) h.0 (subst (λ q. Stops stop.rule (below step q) seen) h.1 is)
stops_below rule path step NoMemory seen h is = subst (λ s. Stops rule (below step path) s) (sym is) tt

-- an item's fault is the list's
pub in_item : {A : Type 0} (P : A → Rule → List ℕ → Type 0) (xs : List A) (n : ℕ) (x : A) (stop seen : ScenarioStop) → slice_get xs n ≡ Some x → StopsBelow (decimal n) stop seen → IsStop (P x) stop → IsStop (InItem P xs) seen
in_item P xs n x stop seen here is h = lifted (P x) (InItem P xs) (decimal n) stop seen is (λ rule path p. (n, x, path, here, refl, p)) h

abbrev pub IsListStop : (Rule → ℕ → Type 0) → ListHalt → Type 0
IsListStop Q (halt.Broken rule at) = Q rule at
IsListStop Q halt.NoMemory = ⊤

-- a list's halt stops at the action
pub list_stopped : (P : Rule → List ℕ → Type 0) (Q : Rule → ℕ → Type 0) (h : ListHalt) (stop : ScenarioStop) → StopsInList h stop → ((rule : Rule) (k : ℕ) → Q rule k → P rule (action_path k)) → IsListStop Q h → IsStop P stop
list_stopped P Q (halt.Broken rule at) stop is f broken = stopped P rule (action_path at) stop is (f rule at broken)
list_stopped P Q halt.NoMemory stop is f broken = no_memory P stop is

-- an error that `?` hands on
pub passed : {A : Type 0} (P Q : Rule → List ℕ → Type 0) (r : Result A ScenarioStop) (stop : ScenarioStop) → ((rule : Rule) (path : List ℕ) → P rule path → Q rule path) → IsErrAnd r (λ y. y ≡ stop) → IsStop P stop → IfErr r (IsStop Q)
passed P Q (Ok a) stop f e h = tt
passed P Q (Err y) stop f e h = subst (λ s. IsStop Q s) (sym e) (weaker P Q stop f h)
