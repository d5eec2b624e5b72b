use Rattle.std.proofs.Common.{List, Option, sym, subst, ◌∙◌}
use Rattle.fp_base.specs.declared.value.Value.{Value}
use Rattle.fp_base.specs.Least.{IsStop}
use Rattle.fp_meaning.specs.Layout.{items}
use Rattle.fp_meaning.specs.Origins.{expressions}
use Rattle.fp_tables.specs.declared.topology.Topology.{Topology}
use Rattle.fp_topologies.specs.Resolved.{HaveNoWires}
use Rattle.fp_type_forms.specs.declared.resolving.Resolution.{Resolution}
use Rattle.fp_type_forms.specs.Resolved.{AreResolved}
use Rattle.fp_model.specs.Broken.{ModelBroken}
use Rattle.fp_model.specs.Given.{StandFrom}
use Rattle.fp_model.proofs.Stopping.{none_stops, numbers_stop, passed}
use Rattle.fp_model.proofs.Wiring.{wired_defined, wired_short}
use Rattle.fp_model.proofs.resolving.resolve.Goals as goal

pub settled_in-requires-clause-laid : goal.settled_in-requires-clause-laid
settled_in-requires-clause-laid c = c.items-items.ensures ∙ c.in_ok-layout.ensures

pub deployed_in-requires-clause-laid : goal.deployed_in-requires-clause-laid
deployed_in-requires-clause-laid c = c.items-items.ensures ∙ c.in_ok-layout.ensures

pub deployed_in-requires-clause-resolved : goal.deployed_in-requires-clause-resolved
deployed_in-requires-clause-resolved c =
    let source = c.args.source.now in
    subst (λ (vs : List (Option Value)). AreResolved source vs c.as_slice-resolutions.result.now (items source) 0) (sym c.as_slice-at.ensures)
    (subst (λ (rs : List Resolution). AreResolved source c.in_ok-settled.settled.values rs (items source) 0) (sym c.as_slice-resolutions.ensures) c.in_ok-settled.ensures.settled.valued.resolved)

pub deployed_in-requires-clause-valued : goal.deployed_in-requires-clause-valued
deployed_in-requires-clause-valued c = c.in_ok-settled.ensures.settled.valued.valued

pub deployed_in-requires-clause-parts : goal.deployed_in-requires-clause-parts
deployed_in-requires-clause-parts c = (c.in_ok-settled.settled.measured.written, c.in_ok-settled.ensures.settled.valued.written, c.in_ok-settled.ensures.settled.parts)

pub numbered-requires-clause-joined : goal.numbered-requires-clause-joined
numbered-requires-clause-joined c =
    let settled = c.in_ok-settled.ensures.settled in
    let stand = subst (λ (vs : List (Option Value)). StandFrom c.args.source.now vs (expressions c.args.source.now) 0) (sym c.as_slice-at.ensures) settled.stand in
    c.in_ok-joined.ensures.joined c.args.source.now c.in_ok-settled.settled.measured.written (c.items-items.ensures ∙ c.in_ok-layout.ensures) stand settled.valued.given settled.valued.written settled.parts
    settled.machines c.in_ok-deployed.ensures.deployed

pub numbered-requires-clause-positions : goal.numbered-requires-clause-positions
numbered-requires-clause-positions c =
    let settled = c.in_ok-settled.ensures.settled in
    let stand = subst (λ (vs : List (Option Value)). StandFrom c.args.source.now vs (expressions c.args.source.now) 0) (sym c.as_slice-at.ensures) settled.stand in
    let joined =
    c.in_ok-joined.ensures.joined c.args.source.now c.in_ok-settled.settled.measured.written (c.items-items.ensures ∙ c.in_ok-layout.ensures) stand settled.valued.given settled.valued.written settled.parts
    settled.machines c.in_ok-deployed.ensures.deployed in
    c.joined_lies.ensures.positions c.args.source.now c.in_ok-settled.settled.values c.in_ok-settled.settled.measured.resolutions c.in_ok-joined.joined settled.valued.resolved settled.valued.valued c.requires.names
    c.requires.fields c.requires.parts c.requires.machines c.in_ok-deployed.ensures.unbroken joined
    (subst (λ (ts : List Topology). HaveNoWires ts) (sym c.in_ok-joined.ensures.topologies) c.in_ok-deployed.ensures.deployed.wires) c.in_ok-joined.ensures.short

pub numbered-requires-clause-sizes : goal.numbered-requires-clause-sizes
numbered-requires-clause-sizes c =
    let settled = c.in_ok-settled.ensures.settled in
    let stand = subst (λ (vs : List (Option Value)). StandFrom c.args.source.now vs (expressions c.args.source.now) 0) (sym c.as_slice-at.ensures) settled.stand in
    let joined =
    c.in_ok-joined.ensures.joined c.args.source.now c.in_ok-settled.settled.measured.written (c.items-items.ensures ∙ c.in_ok-layout.ensures) stand settled.valued.given settled.valued.written settled.parts
    settled.machines c.in_ok-deployed.ensures.deployed in
    c.joined_lies.ensures.sizes c.args.source.now c.in_ok-joined.joined c.in_ok-deployed.ensures.unbroken joined

pub returns-in_err-settled-clause-stop : goal.returns-in_err-settled-clause-stop
returns-in_err-settled-clause-stop c =
    passed c.from_residual-in_err-settled.result _ (IsStop (ModelBroken c.args.source.now)) c.from_residual-in_err-settled.ensures.1 c.in_err-settled.ensures.stop

pub returns-in_err-deployed-clause-stop : goal.returns-in_err-deployed-clause-stop
returns-in_err-deployed-clause-stop c =
    passed c.from_residual-in_err-deployed.result _ (IsStop (ModelBroken c.args.source.now)) c.from_residual-in_err-deployed.ensures.1 c.in_err-deployed.ensures.stop

pub returns-in_err-model-clause-stop : goal.returns-in_err-model-clause-stop
returns-in_err-model-clause-stop c =
    let hold = c.in_ok-deployed.ensures.unbroken in
    passed c.from_residual-in_err-model.result _ (IsStop (ModelBroken c.args.source.now)) c.from_residual-in_err-model.ensures.1
    (numbers_stop c.args.source.now hold.before hold.instances hold.topologies _ c.in_err-model.ensures.stop)

pub returns-clause-unbroken : goal.returns-clause-unbroken
returns-clause-unbroken c = none_stops c.args.source.now c.in_ok-deployed.ensures.unbroken c.in_ok-model.ensures.unbroken

pub returns-clause-defined : goal.returns-clause-defined
returns-clause-defined c =
    let settled = c.in_ok-settled.ensures.settled in
    let stand = subst (λ (vs : List (Option Value)). StandFrom c.args.source.now vs (expressions c.args.source.now) 0) (sym c.as_slice-at.ensures) settled.stand in
    let joined =
    c.in_ok-joined.ensures.joined c.args.source.now c.in_ok-settled.settled.measured.written (c.items-items.ensures ∙ c.in_ok-layout.ensures) stand settled.valued.given settled.valued.written settled.parts
    settled.machines c.in_ok-deployed.ensures.deployed in
    wired_defined c.args.source.now c.in_ok-joined.joined c.in_ok-model.model c.in_ok-model.ensures.wired c.numbering_keeps_topologies.ensures.topologies joined

pub returns-clause-sound : goal.returns-clause-sound
returns-clause-sound c =
    let valued = c.in_ok-settled.ensures.settled.valued in
    c.defined_is_sound.ensures.sound c.args.source.now c.in_ok-settled.settled.values c.in_ok-settled.settled.measured.resolutions c.in_ok-model.model valued.resolved valued.valued c.requires.names c.requires.fields
    c.requires.parts c.requires.machines (returns-clause-unbroken c) (returns-clause-defined c)
    (wired_short c.args.source.now c.in_ok-joined.joined c.in_ok-model.model c.in_ok-model.ensures.wired c.in_ok-joined.ensures.short)

pub returns-clause-sound_with : goal.returns-clause-sound_with
returns-clause-sound_with c t o at =
    c.defined_is_sound.ensures.sound_with c.args.source.now c.in_ok-model.model c.requires.names (returns-clause-unbroken c) (returns-clause-defined c) (returns-clause-sound c) t o at
