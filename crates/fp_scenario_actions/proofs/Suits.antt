-- What a handler's actions are planned as suits its instance and place.
use Rattle.std.proofs.Common.{◌≡◌, ℕ, suc, Bool, true, false, not, ◌&&◌, ◌==◌, List, [], ◌∷◌, map, length, Option, Some, None, is_some, option_map, refl, sym, ap, ap₂, ◌∙◌, subst}
use Rattle.std.specs.Prelude.{codes, position, option_and_then, option_to_list, slice_get, nat_le, unwrap_or}
use Rattle.std.specs.List.{AllByRecursion}
use Rattle.std.specs.Str.{bytes_eq}
use Rattle.serde_json.specs.View.{view}
use Rattle.fp_base.proofs.Bools.{both, join}
use Rattle.fp_base.proofs.Options.{same_some, some_of, mapped_some, then_some}
use Rattle.fp_base.proofs.Numbers.{number_itself}
use Rattle.fp_base.proofs.Passing.{position_passes}
use Rattle.fp_base.specs.Names.{is_name}
use Rattle.fp_base.specs.Same.{same_bool}
use Rattle.fp_tables.specs.Acts as acts
use Rattle.fp_tables.specs.Acts.{has_role, command_of, machine_at, result_at, bound_to, binds, suit_in_turn, takes, takes_one, component_passes}
use Rattle.fp_tables.specs.Arguments.{Scope, kinds_of, arguments_suit}
use Rattle.fp_tables.specs.Lists.{some_and}
use Rattle.fp_tables.specs.Lookup.{Described, wire_from}
use Rattle.fp_tables.specs.Positions.{component_of, port_of}
use Rattle.fp_tables.specs.Programs as programs
use Rattle.fp_tables.specs.Programs.{is_general_output, is_general_input, is_internal, is_command, is_queued, is_of_commands, leads_to, returned_at, verb_suits, act_suits, return_stands}
use Rattle.fp_tables.specs.Sound.{IsSoundFor}
use Rattle.fp_tables.specs.Specials.{is_special, no_parts, special_port}
use Rattle.fp_tables.specs.declared.kind.Kind.{Kind}
use Rattle.fp_tables.specs.declared.kind.PortDef.{PortDef}
use Rattle.fp_tables.specs.declared.component.Special.TheVariants.{CmdRecv, CmdResp}
use Rattle.fp_tables.specs.declared.component.Port.{Port}
use Rattle.fp_tables.specs.declared.component.Command.{Command}
use Rattle.fp_tables.specs.declared.component.Event.{Event}
use Rattle.fp_tables.specs.declared.component.Channel.{Channel}
use Rattle.fp_tables.specs.declared.component.Param.{Param}
use Rattle.fp_tables.specs.declared.component.Running.{Running}
use Rattle.fp_tables.specs.declared.component.Component.{Component}
use Rattle.fp_tables.specs.declared.machine.Named.{Named}
use Rattle.fp_tables.specs.declared.machine.Machine.{Machine}
use Rattle.fp_tables.specs.declared.topology.End.{End}
use Rattle.fp_tables.specs.declared.program.Verb.{Verb}
use Rattle.fp_tables.specs.declared.program.Verb.TheVariants as verb
use Rattle.fp_tables.specs.declared.program.Act.{Act}
use Rattle.fp_tables.specs.declared.program.Spot.{Spot}
use Rattle.fp_tables.proofs.Optional.{some_and_at}
use Rattle.fp_tables.proofs.Untyped.{none_bound}
use Rattle.fp_scenario.specs.Same.{IsNamed}
use Rattle.fp_scenario.specs.declared.scenario.ActText.{ActText}
use Rattle.fp_scenario.specs.declared.first_key.FirstKey.{FirstKey}
use Rattle.fp_scenario.specs.declared.first_key.FirstKey.TheVariants as key
use Rattle.fp_scenario_actions.proofs.MeantKinds.{arguments_kinds}
use Rattle.fp_scenario_actions.specs.Acting.{verb_of, end_at, wire_at, is_for_commands, is_recv, command_at, takes_at, machine_in, subject_of, wire_of, kinds_in, Plans, answered, scope_after}
use Rattle.fp_scenario_actions.specs.Listing.{is_end, is_return, ActsPlan, lacks_return}
use Rattle.fp_scenario_actions.specs.Named.{port_where, running_named, name_of}
use Rattle.fp_scenario_actions.proofs.Identifiers.{identifier_is_name}
use Rattle.fp_scenario_actions.proofs.Wired.{tested_if, where_is, wire_is, wire_to_general}

there_some : {A : Type 0} (o : Option A) (x : A) → o ≡ Some x → is_some o ≡ true
there_some o x e = ap is_some e

module _ (t : Described) (sound : IsSoundFor t.model (Some t.topology)) (i : ℕ) (c : Component) (there : component_of t.model i ≡ Some c) (place : Spot) where
  port_is : (p : ℕ) → port_of t.model i p ≡ slice_get c.ports p
  port_is p = ap (option_and_then (λ (d : Component). slice_get d.ports p)) there

  component_is : (test : Component → Bool) → test c ≡ true → component_passes t i test ≡ true
  component_is test h = some_and_at test (component_of t.model i) c there h

  machine_runs : (o : Option Running) → option_and_then (slice_get t.model.machines) (option_map (λ (x : Running). x.machine) o) ≡ option_and_then (λ (x : Running). slice_get t.model.machines x.machine) o
  machine_runs None = refl
  machine_runs (Some x) = refl

  machine_is : (r : ℕ) → machine_at t i r ≡ machine_in t c r
  machine_is r =
      ap (λ o. option_and_then (slice_get t.model.machines) (option_map (λ (x : Running). x.machine) (option_and_then (λ (d : Component). slice_get d.machines r) o))) there
      ∙ machine_runs (slice_get c.machines r)

  module _ (scope : Scope) (last : Bool) (a : ActText) (act : Act) where
    abbrev Planned : FirstKey → Type 0
    Planned k = Plans t i c place k scope last a act

    abbrev Suit : List Kind → Type 0
    Suit ks = arguments_suit t.model.types scope ks act.with ≡ true

    suit : (k : FirstKey) → (plan : Planned k) → Suit plan.arguments.0
    suit k plan = arguments_kinds t.model sound.0.types scope plan.arguments.0 (map view a.with) act.with plan.arguments.2

    suit_for : (k : FirstKey) (ks : List Kind) → Planned k → kinds_in t i c place k a ≡ Some ks → Suit ks
    suit_for k ks plan is = subst Suit (same_some (sym plan.arguments.1 ∙ is)) (suit k plan)

    -- a port that is found by its name
    port_found : (test : Port → Bool) (n p : ℕ) → option_map (λ q. end_at i q n) (port_where test c.ports a.first) ≡ Some (end_at i p n) → port_where test c.ports a.first ≡ Some p
    port_found test n p e = let q = mapped_some (λ q. end_at i q n) (port_where test c.ports a.first) (end_at i p n) e in q.1 ∙ ap Some (ap (λ (x : End). x.port) q.2)

    abbrev CallsAt : End → Bool
    CallsAt e = some_and (λ (x : Port). is_general_output x.role && takes t scope x.formals act) (port_of t.model e.instance e.port) && leads_to t is_general_input e

    call_suits : Planned key.Call → CallsAt act.subject ≡ true
    call_suits plan =
        let p = mapped_some (λ q. end_at i q a.at) (port_where (λ (x : Port). is_general_output x.role) c.ports a.first) act.subject plan.subject in
        let e = end_at i p.0 a.at in
        let x = where_is (λ (x : Port). is_general_output x.role) c.ports a.first p.0 p.1 in
        let kinds = ap (λ o. option_map (λ (y : Port). kinds_of y.formals) (option_and_then (λ q. slice_get c.ports q) o)) p.1 ∙ ap (option_map (λ (y : Port). kinds_of y.formals)) x.1 in
        let subject : subject_of t i c place key.Call a ≡ Some e = ap (option_map (λ q. end_at i q a.at)) p.1 in
        let wire = some_of (wire_at t e) (tested_if (λ (y : End). is_some (wire_at t y)) (subject_of t i c place key.Call a) e subject plan.wired) in
        let allowed = tested_if (λ (y : End). not (is_recv t y)) (wire_of t i c place key.Call a) wire.0 (ap (option_and_then (wire_at t)) subject ∙ wire.1) plan.allowed in
        ap CallsAt (sym p.2)
        ∙ join _ _ (some_and_at (λ (y : Port). is_general_output y.role && takes t scope y.formals act) (port_of t.model i p.0) x.0 (port_is p.0 ∙ x.1) (join _ _ x.2 (suit_for key.Call (kinds_of x.0.formals) plan kinds)))
        (some_and_at (has_role t is_general_input) (wire_from t e) wire.0 (wire_is t e wire.0 wire.1) (wire_to_general t sound e wire.0 (wire_is t e wire.0 wire.1) allowed))

    abbrev SendsAt : End → Bool
    SendsAt e =
        has_role t is_general_output e && is_of_commands t e && leads_to t (is_special CmdRecv) e
        && some_and (λ (to : End). some_and (λ (x : Command). takes t scope x.formals act) (command_of t to.instance act.name)) (wire_from t e)

    send_suits : Planned key.Command → SendsAt act.subject ≡ true
    send_suits plan =
        let p = mapped_some (λ q. end_at i q a.at) (port_where (is_for_commands t) c.ports a.first) act.subject plan.subject in
        let e = end_at i p.0 a.at in
        let x = where_is (is_for_commands t) c.ports a.first p.0 p.1 in
        let roles = both (is_general_output x.0.role) (some_and (λ (d : PortDef). bytes_eq d.name (codes "Fw.Cmd")) (option_and_then (slice_get t.model.ports) x.0.of)) x.2 in
        let port = port_is p.0 ∙ x.1 in
        let subject : subject_of t i c place key.Command a ≡ Some e = ap (option_map (λ q. end_at i q a.at)) p.1 in
        let wire = some_of (wire_at t e) (tested_if (λ (y : End). is_some (wire_at t y)) (subject_of t i c place key.Command a) e subject plan.wired) in
        let along : wire_of t i c place key.Command a ≡ Some wire.0 = ap (option_and_then (wire_at t)) subject ∙ wire.1 in
        let leads = wire_is t e wire.0 wire.1 in
        let recv = tested_if (is_recv t) (wire_of t i c place key.Command a) wire.0 along plan.allowed in
        let named : command_at t a.name wire.0 ≡ Some act.name = sym (ap (option_and_then (command_at t a.name)) along) ∙ plan.name in
        let kinds : takes_at t wire.0 act.name ≡ Some plan.arguments.0 =
        sym (ap (option_and_then (takes_at t wire.0)) named) ∙ sym (ap (option_and_then (λ (y : End). option_and_then (takes_at t y) (command_at t a.name y))) along) ∙ plan.arguments.1 in
        let x2 = mapped_some (λ (y : Command). kinds_of y.formals) (command_of t wire.0.instance act.name) plan.arguments.0 kinds in
        ap SendsAt (sym p.2)
        ∙ join _ _
        (join _ _ (join _ _ (some_and_at (λ (y : Port). is_general_output y.role) (port_of t.model i p.0) x.0 port roles.0)
        (ap (λ o. some_and (λ (d : PortDef). bytes_eq d.name (codes "Fw.Cmd")) (option_and_then (slice_get t.model.ports) (option_and_then (λ (y : Port). y.of) o))) port ∙ roles.1))
        (some_and_at (has_role t (is_special CmdRecv)) (wire_from t e) wire.0 leads recv))
        (some_and_at (λ (to : End). some_and (λ (y : Command). takes t scope y.formals act) (command_of t to.instance act.name)) (wire_from t e) wire.0 leads
        (some_and_at (λ (y : Command). takes t scope y.formals act) (command_of t wire.0.instance act.name) x2.0 x2.1 (subst Suit (sym x2.2) (suit key.Command plan))))

    emit_suits : Planned key.Emit → programs.emits t scope act ≡ true
    emit_suits plan =
        let kinds = sym (ap (λ o. option_map (λ (y : Event). kinds_of y.formals) (option_and_then (λ n. slice_get c.events n) o)) plan.name) ∙ plan.arguments.1 in
        let x = mapped_some (λ (y : Event). kinds_of y.formals) (slice_get c.events act.name) plan.arguments.0 kinds in
        ap (λ (e : End). component_passes t e.instance (λ (d : Component). some_and (λ (y : Event). takes t scope y.formals act) (slice_get d.events act.name))) (sym (same_some plan.subject))
        ∙ component_is (λ (d : Component). some_and (λ (y : Event). takes t scope y.formals act) (slice_get d.events act.name))
        (some_and_at (λ (y : Event). takes t scope y.formals act) (slice_get c.events act.name) x.0 x.1 (subst Suit (sym x.2) (suit key.Emit plan)))

    write_suits : Planned key.Write → programs.writes t scope act ≡ true
    write_suits plan =
        let kinds = sym (ap (λ o. option_map (λ (y : Channel). y.kind ∷ []) (option_and_then (λ n. slice_get c.channels n) o)) plan.name) ∙ plan.arguments.1 in
        let x = mapped_some (λ (y : Channel). y.kind ∷ []) (slice_get c.channels act.name) plan.arguments.0 kinds in
        ap (λ (e : End). component_passes t e.instance (λ (d : Component). some_and (λ (y : Channel). takes_one t scope y.kind act) (slice_get d.channels act.name))) (sym (same_some plan.subject))
        ∙ component_is (λ (d : Component). some_and (λ (y : Channel). takes_one t scope y.kind act) (slice_get d.channels act.name))
        (some_and_at (λ (y : Channel). takes_one t scope y.kind act) (slice_get c.channels act.name) x.0 x.1 (subst Suit (sym x.2) (suit key.Write plan)))

    read_suits : Planned key.Read → is_some a.as_ ≡ true → programs.reads t act ≡ true
    read_suits plan bound =
        let x = position_passes (λ (y : Param). bytes_eq y.name a.first) c.params act.name plan.name in
        join _ _
        (ap (λ (e : End). component_passes t e.instance (λ (d : Component). is_some (slice_get d.params act.name))) (sym (same_some plan.subject))
        ∙ component_is (λ (d : Component). is_some (slice_get d.params act.name)) (there_some (slice_get c.params act.name) x.0 x.1))
        (ap is_some plan.bind ∙ bound)

    signal_suits : Planned key.Signal → programs.signals t scope act ≡ true
    signal_suits plan =
        let r = mapped_some (λ q. end_at i q 0) (running_named c.machines a.first) act.subject plan.subject in
        let of_running : ℕ → Option ℕ = λ q. option_and_then (λ (m : Machine). name_of m.signals a.name) (machine_in t c q) in
        let named : of_running r.0 ≡ Some act.name = sym (ap (option_and_then of_running) r.1) ∙ plan.name in
        let m = then_some (λ (m : Machine). name_of m.signals a.name) (machine_in t c r.0) act.name named in
        let signals_of : Machine → Option (List Kind) = λ m. option_map (λ (y : Named). option_to_list y.kind) (option_and_then (λ n. slice_get m.signals n) (name_of m.signals a.name)) in
        let kinds : signals_of m.0 ≡ Some plan.arguments.0 =
        sym (ap (option_and_then signals_of) m.1) ∙ sym (ap (option_and_then (λ q. option_and_then signals_of (machine_in t c q))) r.1) ∙ plan.arguments.1 in
        let x = mapped_some (λ (y : Named). option_to_list y.kind) (slice_get m.0.signals act.name) plan.arguments.0
        (sym (ap (λ o. option_map (λ (y : Named). option_to_list y.kind) (option_and_then (λ n. slice_get m.0.signals n) o)) m.2) ∙ kinds) in
        ap (λ (e : End). some_and (λ (d : Machine). some_and (λ (y : Named). arguments_suit t.model.types scope (option_to_list y.kind) act.with) (slice_get d.signals act.name)) (machine_at t e.instance e.port)) (sym r.2)
        ∙ some_and_at (λ (d : Machine). some_and (λ (y : Named). arguments_suit t.model.types scope (option_to_list y.kind) act.with) (slice_get d.signals act.name)) (machine_at t i r.0) m.0 (machine_is r.0 ∙ m.1)
        (some_and_at (λ (y : Named). arguments_suit t.model.types scope (option_to_list y.kind) act.with) (slice_get m.0.signals act.name) x.0 x.1 (subst Suit (sym x.2) (suit key.Signal plan)))

    post_suits : Planned key.Post → programs.posts t scope act ≡ true
    post_suits plan =
        let p = mapped_some (λ q. end_at i q 0) (port_where (λ (x : Port). is_internal x.role) c.ports a.first) act.subject plan.subject in
        let x = where_is (λ (x : Port). is_internal x.role) c.ports a.first p.0 p.1 in
        let kinds = ap (λ o. option_map (λ (y : Port). kinds_of y.formals) (option_and_then (λ q. slice_get c.ports q) o)) p.1 ∙ ap (option_map (λ (y : Port). kinds_of y.formals)) x.1 in
        ap (λ (e : End). some_and (λ (y : Port). is_internal y.role && takes t scope y.formals act) (port_of t.model e.instance e.port)) (sym p.2)
        ∙ some_and_at (λ (y : Port). is_internal y.role && takes t scope y.formals act) (port_of t.model i p.0) x.0 (port_is p.0 ∙ x.1) (join _ _ x.2 (suit_for key.Post (kinds_of x.0.formals) plan kinds))

    abbrev RespondsAt : End → Bool
    RespondsAt e = is_command place && has_role t (is_special CmdResp) e && nat_le e.number 0 && is_some (wire_from t e)

    respond_suits : Planned key.Respond → is_name a.first ≡ true → programs.responds t place act ≡ true
    respond_suits plan named =
        let p = mapped_some (λ q. end_at i q 0) (special_port t i CmdResp) act.subject plan.subject in
        let e = end_at i p.0 0 in
        let ports = ap (λ o. (unwrap_or o no_parts).ports) there in
        let x = position_passes (λ (y : Port). is_special CmdResp y.role) c.ports p.0 (sym (ap (position (λ (y : Port). is_special CmdResp y.role)) ports) ∙ p.1) in
        let subject : subject_of t i c place key.Respond a ≡ Some e = ap (option_map (λ q. end_at i q 0)) p.1 in
        let wire = some_of (wire_at t e) (sym (ap (λ o. is_some (option_and_then (wire_at t) o)) subject) ∙ plan.wired) in
        join _ _
        (ap RespondsAt (sym p.2)
        ∙ join _ _ (join _ _ (join _ _ plan.allowed (some_and_at (λ (y : Port). is_special CmdResp y.role) (port_of t.model i p.0) x.0 (port_is p.0 ∙ x.1) x.2)) refl)
        (there_some (wire_from t e) wire.0 (wire_is t e wire.0 wire.1)))
        (some_and_at is_name act.bind a.first plan.bind named)

    dispatch_suits : Planned key.Dispatch → programs.dispatches t act ≡ true
    dispatch_suits plan =
        ap (λ (e : End). component_passes t e.instance (λ (d : Component). is_queued d.queueing)) (sym (same_some plan.subject)) ∙ component_is (λ (d : Component). is_queued d.queueing) plan.dispatched

    return_suits : Planned key.Return → programs.returns t place scope act ≡ true
    return_suits plan =
        let k = mapped_some (λ j. j ∷ []) (returned_at t i place) plan.arguments.0 plan.arguments.1 in
        ap (λ (e : End). some_and (λ j. takes_one t scope j act) (returned_at t e.instance place)) (sym (same_some plan.subject))
        ∙ some_and_at (λ j. takes_one t scope j act) (returned_at t i place) k.0 k.1 (subst Suit (sym k.2) (suit key.Return plan))

    -- ---- whichever the verb

    abbrev with_verb : Verb → Act
    with_verb v = record act { verb = v }

    suits_as : (v : Verb) → act.verb ≡ v → verb_suits t place scope (with_verb v) ≡ true → verb_suits t place scope act ≡ true
    suits_as v is h = ap (λ (w : Verb). verb_suits t place scope (with_verb w)) is ∙ h

    verb_suits_by : (k : FirstKey) → Planned k → (k ≡ key.Respond → is_name a.first ≡ true) → (k ≡ key.Read → is_some a.as_ ≡ true) → verb_suits t place scope act ≡ true
    verb_suits_by key.Call plan named bound = suits_as verb.Call plan.verb (call_suits plan)
    verb_suits_by key.Command plan named bound = suits_as verb.Command plan.verb (send_suits plan)
    verb_suits_by key.Emit plan named bound = suits_as verb.Emit plan.verb (emit_suits plan)
    verb_suits_by key.Write plan named bound = suits_as verb.Write plan.verb (write_suits plan)
    verb_suits_by key.Read plan named bound = suits_as verb.Read plan.verb (read_suits plan (bound refl))
    verb_suits_by key.Signal plan named bound = suits_as verb.Signal plan.verb (signal_suits plan)
    verb_suits_by key.Post plan named bound = suits_as verb.Post plan.verb (post_suits plan)
    verb_suits_by key.Respond plan named bound = suits_as verb.Respond plan.verb (respond_suits plan (named refl))
    verb_suits_by key.Dispatch plan named bound = suits_as verb.Dispatch plan.verb (dispatch_suits plan)
    verb_suits_by key.Return plan named bound = suits_as verb.Return plan.verb (return_suits plan)

    in_place : (f : ℕ → End) → ((q : ℕ) → (f q).instance ≡ i) → (o : Option ℕ) → option_map f o ≡ Some act.subject → act.subject.instance ≡ i
    in_place f at o is = let q = mapped_some f o act.subject is in ap (λ (e : End). e.instance) (sym q.2) ∙ at q.0

    own_instance : (k : FirstKey) → Planned k → act.subject.instance ≡ i
    own_instance key.Call plan = in_place (λ q. end_at i q a.at) (λ q. refl) (port_where (λ (x : Port). is_general_output x.role) c.ports a.first) plan.subject
    own_instance key.Command plan = in_place (λ q. end_at i q a.at) (λ q. refl) (port_where (is_for_commands t) c.ports a.first) plan.subject
    own_instance key.Signal plan = in_place (λ q. end_at i q 0) (λ q. refl) (running_named c.machines a.first) plan.subject
    own_instance key.Post plan = in_place (λ q. end_at i q 0) (λ q. refl) (port_where (λ (x : Port). is_internal x.role) c.ports a.first) plan.subject
    own_instance key.Respond plan = in_place (λ q. end_at i q 0) (λ q. refl) (special_port t i CmdResp) plan.subject
    own_instance key.Emit plan = ap (λ (e : End). e.instance) (sym (same_some plan.subject))
    own_instance key.Write plan = ap (λ (e : End). e.instance) (sym (same_some plan.subject))
    own_instance key.Read plan = ap (λ (e : End). e.instance) (sym (same_some plan.subject))
    own_instance key.Dispatch plan = ap (λ (e : End). e.instance) (sym (same_some plan.subject))
    own_instance key.Return plan = ap (λ (e : End). e.instance) (sym (same_some plan.subject))

    act_suits_by : (k : FirstKey) → Planned k → (k ≡ key.Respond → is_name a.first ≡ true) → (k ≡ key.Read → is_some a.as_ ≡ true) → act_suits t i place scope act ≡ true
    act_suits_by k plan named bound = join _ _ (ap (λ (n : ℕ). n == i) (own_instance k plan) ∙ number_itself i) (verb_suits_by k plan named bound)

    -- ---- what it binds

    binds_as : (v : Verb) → act.verb ≡ v → binds t act scope ≡ binds t (with_verb v) scope
    binds_as v is = ap (λ (w : Verb). binds t (with_verb w) scope) is

    nothing_answered : (k : FirstKey) → answered t i c place k a ≡ None → acts.answered t (with_verb (verb_of k)) ≡ None → Planned k → binds t act scope ≡ scope_after t i c place k a scope
    nothing_answered k none no_answer plan =
        binds_as (verb_of k) plan.verb ∙ ap (λ o. bound_to act.bind o scope) no_answer ∙ none_bound act.bind scope ∙ sym (ap (λ o. bound_to a.as_ o scope) none ∙ none_bound a.as_ scope)

    call_answers : Planned key.Call → result_at t act.subject.instance act.subject.port ≡ answered t i c place key.Call a
    call_answers plan =
        let p = mapped_some (λ q. end_at i q a.at) (port_where (λ (x : Port). is_general_output x.role) c.ports a.first) act.subject plan.subject in
        ap (λ (e : End). result_at t e.instance e.port) (sym p.2) ∙ sym (ap (option_and_then (λ q. result_at t i q)) p.1)

    read_answers : Planned key.Read → acts.kind_of_param t act ≡ answered t i c place key.Read a
    read_answers plan =
        ap (λ (e : End). option_map (λ (x : Param). x.kind) (option_and_then (λ (d : Component). slice_get d.params act.name) (component_of t.model e.instance))) (sym (same_some plan.subject))
        ∙ ap (λ o. option_map (λ (x : Param). x.kind) (option_and_then (λ (d : Component). slice_get d.params act.name) o)) there
        ∙ sym (ap (λ o. option_map (λ (x : Param). x.kind) (option_and_then (λ n. slice_get c.params n) o)) plan.name)

    binds_same : (k : FirstKey) → Planned k → binds t act scope ≡ scope_after t i c place k a scope
    binds_same key.Call plan = binds_as verb.Call plan.verb ∙ ap₂ (λ b o. bound_to b o scope) plan.bind (call_answers plan)
    binds_same key.Read plan = binds_as verb.Read plan.verb ∙ ap₂ (λ b o. bound_to b o scope) plan.bind (read_answers plan)
    binds_same key.Command plan = nothing_answered key.Command refl refl plan
    binds_same key.Emit plan = nothing_answered key.Emit refl refl plan
    binds_same key.Write plan = nothing_answered key.Write refl refl plan
    binds_same key.Signal plan = nothing_answered key.Signal refl refl plan
    binds_same key.Post plan = nothing_answered key.Post refl refl plan
    binds_same key.Respond plan = nothing_answered key.Respond refl refl plan
    binds_same key.Dispatch plan = nothing_answered key.Dispatch refl refl plan
    binds_same key.Return plan = nothing_answered key.Return refl refl plan

  pub acts_suit : (scope : Scope) (texts : List ActText) (planned : List Act) → AllByRecursion IsNamed texts → ActsPlan t i c place scope texts planned → suit_in_turn t (act_suits t i place) scope planned ≡ true
  acts_suit scope [] [] whole plan = refl
  acts_suit scope [] (x ∷ xs) whole plan = absurd plan
  acts_suit scope (a ∷ rest) [] whole plan = absurd plan
  acts_suit scope (a ∷ rest) (x ∷ xs) whole plan =
      join _ _ (act_suits_by scope (is_end rest) a x a.key plan.0 (λ is. sym (identifier_is_name a.first) ∙ whole.0.responds is) whole.0.reads)
      (ap (λ s. suit_in_turn t (act_suits t i place) s xs) (binds_same scope (is_end rest) a x a.key plan.0) ∙ acts_suit (scope_after t i c place a.key a scope) rest xs whole.1 plan.1)

-- ---- returns

same_return : (k : FirstKey) (v : Verb) (act : Act) → act.verb ≡ v → v ≡ verb_of k → programs.is_return act ≡ is_return k
same_return k v act is same = ap (λ (w : Verb). programs.is_return (record act { verb = w })) (is ∙ same) ∙ of_key k
  where
    of_key : (j : FirstKey) → programs.is_return (record act { verb = verb_of j }) ≡ is_return j
    of_key key.Call = refl
    of_key key.Command = refl
    of_key key.Emit = refl
    of_key key.Write = refl
    of_key key.Read = refl
    of_key key.Signal = refl
    of_key key.Post = refl
    of_key key.Respond = refl
    of_key key.Dispatch = refl
    of_key key.Return = refl

module _ (t : Described) (i : ℕ) (c : Component) (place : Spot) where
  abbrev wanted : Bool
  wanted = is_some (returned_at t i place)

  -- the last one is a return where one is wanted, and no other one is
  last_stands : (k : FirstKey) (w : Bool) (act : Act) → programs.is_return act ≡ is_return k → (is_return k ≡ true → w ≡ true) → (w && not (is_return k)) ≡ false → same_bool (programs.is_return act) w ≡ true
  last_stands k w act is wants lacks = ap (λ (b : Bool). same_bool b w) is ∙ go (is_return k) w wants lacks
    where
      go : (b v : Bool) → (b ≡ true → v ≡ true) → (v && not b) ≡ false → same_bool b v ≡ true
      go true true wants lacks = refl
      go true false wants lacks = absurd (let e = wants refl in cc)
      go false true wants lacks = absurd (cc)
      go false false wants lacks = refl

  wants_return : (k : FirstKey) (last : Bool) (scope : Scope) (a : ActText) (act : Act) → Plans t i c place k scope last a act → is_return k ≡ true → (wanted && last) ≡ true
  wants_return key.Return last scope a act plan is = plan.returned
  wants_return key.Call last scope a act plan is = absurd (cc)
  wants_return key.Command last scope a act plan is = absurd (cc)
  wants_return key.Emit last scope a act plan is = absurd (cc)
  wants_return key.Write last scope a act plan is = absurd (cc)
  wants_return key.Read last scope a act plan is = absurd (cc)
  wants_return key.Signal last scope a act plan is = absurd (cc)
  wants_return key.Post last scope a act plan is = absurd (cc)
  wants_return key.Respond last scope a act plan is = absurd (cc)
  wants_return key.Dispatch last scope a act plan is = absurd (cc)

  no_return : (b : Bool) → (b ≡ true → (wanted && false) ≡ true) → b ≡ false
  no_return false h = refl
  no_return true h = absurd (let e = (both wanted false (h refl)).1 in cc)

  pub returns_stand : (scope : Scope) (texts : List ActText) (planned : List Act) → ActsPlan t i c place scope texts planned → lacks_return t i c place texts ≡ false → return_stands wanted planned ≡ true
  returns_stand scope [] [] plan lacks = go wanted lacks
    where
      go : (w : Bool) → (w && true) ≡ false → not w ≡ true
      go true h = absurd (cc)
      go false h = refl
  returns_stand scope [] (x ∷ xs) plan lacks = absurd plan
  returns_stand scope (a ∷ rest) [] plan lacks = absurd plan
  returns_stand scope (a ∷ []) (x ∷ []) plan lacks =
      last_stands a.key wanted x (same_return a.key x.verb x refl plan.0.verb) (λ is. (both wanted true (wants_return a.key true scope a x plan.0 is)).0) lacks
  returns_stand scope (a ∷ []) (x ∷ y ∷ xs) plan lacks = absurd plan.1
  returns_stand scope (a ∷ b ∷ rest) (x ∷ []) plan lacks = absurd plan.1
  returns_stand scope (a ∷ b ∷ rest) (x ∷ y ∷ xs) plan lacks =
      join _ _ (ap not (same_return a.key x.verb x refl plan.0.verb ∙ no_return (is_return a.key) (λ is. wants_return a.key false scope a x plan.0 is)))
      (returns_stand (scope_after t i c place a.key a scope) (b ∷ rest) (y ∷ xs) plan.1 lacks)

  pub as_long : (scope : Scope) (texts : List ActText) (planned : List Act) → ActsPlan t i c place scope texts planned → length planned ≡ length texts
  as_long scope [] [] plan = refl
  as_long scope [] (x ∷ xs) plan = absurd plan
  as_long scope (a ∷ rest) [] plan = absurd plan
  as_long scope (a ∷ rest) (x ∷ xs) plan = ap suc (as_long (scope_after t i c place a.key a scope) rest xs plan.1)
