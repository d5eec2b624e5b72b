-- A handler at one of its instances, refused for what its list or its place is.
use Rattle.std.proofs.Common.{◌≡◌, ℕ, Bool, true, List, [], Option, Some, None, refl, sym, ap, ◌∙◌, subst}
use Rattle.std.specs.Prelude.{option_and_then}
use Rattle.fp_base.specs.declared.rule.Rule.{Rule}
use Rattle.fp_base.specs.declared.rule.Rule.TheVariants.{UnknownName, BadReturn}
use Rattle.fp_tables.specs.Arguments.{Scope}
use Rattle.fp_tables.specs.Lookup.{Described}
use Rattle.fp_tables.specs.Positions.{component_of}
use Rattle.fp_tables.specs.declared.component.Component.{Component}
use Rattle.fp_tables.specs.declared.program.Spot.{Spot}
use Rattle.fp_scenario.specs.Checked.{Stops}
use Rattle.fp_scenario.specs.declared.scenario.ActText.{ActText}
use Rattle.fp_scenario.specs.declared.scenario.HandlerText.{HandlerText}
use Rattle.fp_scenario.specs.declared.scenario.ScenarioStop.{ScenarioStop}
use Rattle.fp_scenario_actions.specs.Listing.{BreaksAt, IsListHalt, lacks_return}
use Rattle.fp_scenario_actions.specs.Spots.{spot_in}
use Rattle.fp_scenario_actions.specs.declared.listing.ListHalt.{ListHalt}
use Rattle.fp_scenario_actions.specs.declared.listing.ListHalt.TheVariants as halt
use Rattle.fp_scenario_check.specs.Planned.{action_path, list_path}
use Rattle.fp_scenario_check.specs.Faults.{IsStop, StopsInList, ListFault, HandlerFault, in_action, return_missing, no_place}
use Rattle.fp_scenario_check.proofs.Stopping.{stopped, no_memory}

module _ (t : Described) (h : HandlerText) (i : ℕ) where
  pub lacking : (c : Component) (place : Spot) (begins : Scope) (texts : List ActText) (b : Bool) (stop : ScenarioStop) → texts ≡ h.do_ → b ≡ true → b ≡ lacks_return t i c place texts → Stops BadReturn list_path stop
      → IsStop (ListFault t h i c place begins) stop
  lacking c place begins texts b stop same is told stops =
      stopped (ListFault t h i c place begins) BadReturn list_path stop stops (return_missing (ap (lacks_return t i c place) (sym same) ∙ sym told ∙ is))

  pub halted : (c : Component) (place : Spot) (begins : Scope) (texts : List ActText) (halted_by : ListHalt) (stop : ScenarioStop) → texts ≡ h.do_ → IsListHalt t i c place begins texts halted_by → StopsInList halted_by stop
      → IsStop (ListFault t h i c place begins) stop
  halted c place begins texts (halt.Broken rule at) stop same broken is =
      stopped (ListFault t h i c place begins) rule (action_path at) stop is (in_action rule at (subst (λ xs. BreaksAt t i c place rule at begins xs) same broken))
  halted c place begins texts halt.NoMemory stop same broken is = no_memory (ListFault t h i c place begins) stop is

  pub without_component : (stop : ScenarioStop) → component_of t.model i ≡ None → Stops UnknownName [] stop → IsStop (HandlerFault t h i) stop
  without_component stop none stops =
      stopped (HandlerFault t h i) UnknownName [] stop stops (no_place (ap (option_and_then (λ (c : Component). spot_in t c h.on_)) none))

  pub without_place : (c : Component) (on : List ℕ) (stop : ScenarioStop) → component_of t.model i ≡ Some c → on ≡ h.on_ → spot_in t c on ≡ None → Stops UnknownName [] stop → IsStop (HandlerFault t h i) stop
  without_place c on stop has same none stops =
      stopped (HandlerFault t h i) UnknownName [] stop stops (no_place (ap (option_and_then (λ (d : Component). spot_in t d h.on_)) has ∙ ap (spot_in t c) (sym same) ∙ none))
