use Rattle.std.proofs.Common.{refl, sym, ◌∙◌, ap}
use Rattle.fp_tables.specs.Bound.{scope_of}
use Rattle.fp_scenario_actions.specs.Spots.{spot_in}
use Rattle.fp_scenario_actions.proofs.Halting.{component_short}
use Rattle.fp_scenario_check.proofs.Beginning.{spot_begins}
use Rattle.fp_scenario_check.specs.Faults.{HandlerFault, ListFault, in_list}
use Rattle.fp_scenario_check.proofs.AtPlace.{without_component, without_place}
use Rattle.fp_scenario_check.proofs.Stopping.{passed}
use Rattle.fp_scenario_check.proofs.handling.handler_at.Goals as goal

pub spot_in-requires-clause-here : goal.spot_in-requires-clause-here
spot_in-requires-clause-here c = component_short c.args.tables.now.model c.args.instance c.in-Some.component.now c.requires (sym c.in-Some.ensures)

pub bound_of-requires : goal.bound_of-requires
bound_of-requires c =
    let d = c.in-Some.component.now in
    spot_begins c.args.tables.now c.args.instance d (sym c.in-Some.ensures) c.args.text.now.on_ c.in-Some-spot_in.place
    (ap (spot_in c.args.tables.now d) (sym c.as_bytes.ensures.value) ∙ sym c.in-Some-spot_in.ensures)

pub acts_at-requires-clause-here : goal.acts_at-requires-clause-here
acts_at-requires-clause-here c = component_short c.args.tables.now.model c.args.instance c.in-Some.component.now c.requires (sym c.in-Some.ensures)

pub returns-in_err-acts-in-Some-spot_in-clause-broken : goal.returns-in_err-acts-in-Some-spot_in-clause-broken
returns-in_err-acts-in-Some-spot_in-clause-broken c =
    let t = c.args.tables.now in
    let h = c.args.text.now in
    let i = c.args.instance in
    let d = c.in-Some.component.now in
    let place = c.in-Some-spot_in.place in
    let begins = scope_of c.in_ok-bound-in-Some-spot_in.bound in
    passed (ListFault t h i d place begins) (HandlerFault t h i) _ _
    (λ rule path fault. in_list d place begins rule path (sym c.in-Some.ensures) (ap (spot_in t d) (sym c.as_bytes.ensures.value) ∙ sym c.in-Some-spot_in.ensures) c.in_ok-bound-in-Some-spot_in.ensures fault)
    c.from_residual-in_err-acts-in-Some-spot_in.ensures.1 c.in_err-acts-in-Some-spot_in.ensures.broken

pub returns-in-None-spot_in-clause-broken : goal.returns-in-None-spot_in-clause-broken
returns-in-None-spot_in-clause-broken c =
    without_place c.args.tables.now c.args.text.now c.args.instance c.in-Some.component.now c.as_bytes.result.now c.stop_here.result (sym c.in-Some.ensures) c.as_bytes.ensures.value (sym c.in-None-spot_in.ensures) c.stop_here.ensures

pub returns-in-None-clause-broken : goal.returns-in-None-clause-broken
returns-in-None-clause-broken c = without_component c.args.tables.now c.args.text.now c.args.instance c.stop_here-in-None.result (sym c.in-None.ensures) c.stop_here-in-None.ensures
