-- What a caller's actions are planned as suits.
use Rattle.std.proofs.Common.{◌≡◌, ℕ, suc, Bool, true, false, cond, ◌&&◌, ◌||◌, ◌==◌, List, [], ◌∷◌, map, length, Option, Some, None, is_some, option_map, refl, sym, ap, ap₂, ◌∙◌, subst}
use Rattle.std.specs.Prelude.{option_and_then, position, slice_get, nat_le, nat_lt}
use Rattle.serde_json.specs.View.{view}
use Rattle.fp_base.proofs.Bools.{join}
use Rattle.fp_base.proofs.Options.{same_some, some_of, mapped_some, then_some}
use Rattle.fp_tables.specs.Acts as acts
use Rattle.fp_tables.specs.Acts.{command_of, is_placed, result_at, bound_to, binds, suit_in_turn, takes}
use Rattle.fp_tables.specs.Arguments.{Scope, kinds_of, arguments_suit}
use Rattle.fp_tables.specs.Lists.{is_in, some_and}
use Rattle.fp_tables.specs.Lookup.{Described, instance_named, place_of, placed}
use Rattle.fp_tables.specs.Positions.{component_of, port_of}
use Rattle.fp_tables.specs.Programs.{is_general_input, caller_act_suits}
use Rattle.fp_tables.specs.Sound.{IsSoundFor}
use Rattle.fp_tables.specs.declared.kind.Kind.{Kind}
use Rattle.fp_tables.specs.declared.component.Port.{Port}
use Rattle.fp_tables.specs.declared.component.Command.{Command}
use Rattle.fp_tables.specs.declared.component.Component.{Component}
use Rattle.fp_tables.specs.declared.topology.End.{End}
use Rattle.fp_tables.specs.declared.program.Verb.{Verb}
use Rattle.fp_tables.specs.declared.program.Verb.TheVariants as verb
use Rattle.fp_tables.specs.declared.program.Act.{Act}
use Rattle.fp_tables.proofs.Firsts.{position_cons}
use Rattle.fp_tables.proofs.Optional.{some_and_at}
use Rattle.fp_tables.proofs.Untyped.{none_bound}
use Rattle.fp_scenario.specs.declared.scenario.ActText.{ActText}
use Rattle.fp_scenario.specs.declared.first_key.FirstKey.{FirstKey}
use Rattle.fp_scenario.specs.declared.first_key.FirstKey.TheVariants as key
use Rattle.fp_scenario_actions.proofs.MeantKinds.{arguments_kinds}
use Rattle.fp_scenario_actions.specs.Acting.{end_at, command_at, takes_at}
use Rattle.fp_scenario_actions.specs.Calling.{input_at, input_of_parts, input_named, input_port, last_parted, Plans, scope_after, ActsPlan}
use Rattle.fp_scenario_actions.specs.Named.{port_where, placed_named}
use Rattle.fp_scenario_actions.proofs.Wired.{tested_if, where_is}

in_list : (i : ℕ) (ns : List ℕ) (p : ℕ) → position (λ k. k == i) ns ≡ Some p → is_in i ns ≡ true
in_list i [] p e = absurd (cc)
in_list i (n ∷ ns) p e = go (n == i) (position (λ k. k == i) ns) (in_list i ns) (sym (position_cons (λ k. k == i) n ns) ∙ e)
  where
    go : (b : Bool) (o : Option ℕ) → ((q : ℕ) → o ≡ Some q → is_in i ns ≡ true) → cond b (Some 0) (option_map suc o) ≡ Some p → (b || is_in i ns) ≡ true
    go true o rest e = refl
    go false None rest e = absurd (cc)
    go false (Some q) rest e = rest q refl

module _ (t : Described) (sound : IsSoundFor t.model (Some t.topology)) where
  kept_placed : (j i : ℕ) (b : Bool) → is_some (place_of t j) ≡ b → cond b (Some j) None ≡ Some i → is_placed t i ≡ true
  kept_placed j i true is e =
      let p = some_of (place_of t j) is in
      subst (λ (n : ℕ). is_placed t n ≡ true) (same_some e) (in_list j (placed t) p.0 p.1)
  kept_placed j i false is e = absurd (cc)

  named_placed : (name : List ℕ) (i : ℕ) → placed_named t name ≡ Some i → is_placed t i ≡ true
  named_placed name i e = let j = then_some (λ (n : ℕ). cond (is_some (place_of t n)) (Some n) None) (instance_named t.model name) i e in kept_placed j.0 i (is_some (place_of t j.0)) refl j.2

  -- a general input of an instance of the topology
  input_is : (text : List ℕ) (e : End) → input_named t text ≡ Some e → (is_placed t e.instance ≡ true) × (x : Port) × (port_of t.model e.instance e.port ≡ Some x) × (is_general_input x.role ≡ true)
  input_is text e is =
      let parts = then_some (input_of_parts t) (last_parted text) e is in
      let i = then_some (input_at t parts.0.1) (placed_named t parts.0.0) e parts.2 in
      let p = mapped_some (λ q. end_at i.0 q 0) (option_and_then (λ (c : Component). port_where (λ (x : Port). is_general_input x.role) c.ports parts.0.1) (component_of t.model i.0)) e i.2 in
      let c = then_some (λ (c : Component). port_where (λ (x : Port). is_general_input x.role) c.ports parts.0.1) (component_of t.model i.0) p.0 p.1 in
      let x = where_is (λ (x : Port). is_general_input x.role) c.0.ports parts.0.1 p.0 c.2 in (
        ap (λ (f : End). is_placed t f.instance) (sym p.2) ∙ named_placed parts.0.0 i.0 i.1,
        x.0,
        ap (λ (f : End). port_of t.model f.instance f.port) (sym p.2) ∙ ap (option_and_then (λ (d : Component). slice_get d.ports p.0)) c.1 ∙ x.1,
        x.2,
      )

  module _ (scope : Scope) (a : ActText) (act : Act) where
    abbrev Planned : FirstKey → Type 0
    Planned k = Plans t k scope a act

    abbrev Suit : List Kind → Type 0
    Suit ks = arguments_suit t.model.types scope ks act.with ≡ true

    suit : (k : FirstKey) → (plan : Planned k) → Suit plan.arguments.0
    suit k plan = arguments_kinds t.model sound.0.types scope plan.arguments.0 (map view a.with) act.with plan.arguments.2

    abbrev CallsAt : End → Bool
    CallsAt e = is_placed t e.instance && some_and (λ (x : Port). is_general_input x.role && nat_lt e.number x.size && takes t scope x.formals act) (port_of t.model e.instance e.port)

    call_suits : Planned key.Call → CallsAt act.subject ≡ true
    call_suits plan =
        let e = mapped_some (λ (f : End). end_at f.instance f.port a.at) (input_named t a.first) act.subject plan.subject in
        let x = input_is a.first e.0 e.1 in
        let port : input_port t a.first ≡ Some x.1 = ap (option_and_then (λ (f : End). port_of t.model f.instance f.port)) e.1 ∙ x.2 in
        let kinds = same_some (sym plan.arguments.1 ∙ ap (option_map (λ (y : Port). kinds_of y.formals)) port) in
        let below = tested_if (λ (y : Port). nat_lt a.at y.size) (input_port t a.first) x.1 port plan.numbered in
        ap CallsAt (sym e.2)
        ∙ join _ _ x.0 (some_and_at (λ (y : Port). is_general_input y.role && nat_lt a.at y.size && takes t scope y.formals act) (port_of t.model e.0.instance e.0.port) x.1 x.2
        (join _ _ (join _ _ x.3 below) (subst Suit kinds (suit key.Call plan))))

    abbrev SendsAt : End → Bool
    SendsAt e = is_placed t e.instance && (nat_le e.number 0 && some_and (λ (x : Command). takes t scope x.formals act) (command_of t e.instance act.name))

    send_suits : Planned key.Command → SendsAt act.subject ≡ true
    send_suits plan =
        let i = mapped_some (λ n. end_at n 0 a.at) (placed_named t a.first) act.subject plan.subject in
        let named : command_at t a.name (end_at i.0 0 0) ≡ Some act.name = sym (ap (option_and_then (λ n. command_at t a.name (end_at n 0 0))) i.1) ∙ plan.name in
        let kinds : takes_at t (end_at i.0 0 0) act.name ≡ Some plan.arguments.0 =
        sym (ap (option_and_then (takes_at t (end_at i.0 0 0))) named) ∙ sym (ap (option_and_then (λ n. option_and_then (takes_at t (end_at n 0 0)) (command_at t a.name (end_at n 0 0)))) i.1) ∙ plan.arguments.1 in
        let x = mapped_some (λ (y : Command). kinds_of y.formals) (command_of t i.0 act.name) plan.arguments.0 kinds in
        ap SendsAt (sym i.2)
        ∙ join _ _ (named_placed a.first i.0 i.1) (join _ _ plan.numbered
        (some_and_at (λ (y : Command). takes t scope y.formals act) (command_of t i.0 act.name) x.0 x.1 (subst Suit (sym x.2) (suit key.Command plan))))

    abbrev with_verb : Verb → Act
    with_verb v = record act { verb = v }

    suits_as : (v : Verb) → act.verb ≡ v → caller_act_suits t scope (with_verb v) ≡ true → caller_act_suits t scope act ≡ true
    suits_as v is h = ap (λ (w : Verb). caller_act_suits t scope (with_verb w)) is ∙ h

    act_suits_by : (k : FirstKey) → Planned k → caller_act_suits t scope act ≡ true
    act_suits_by key.Call plan = suits_as verb.Call plan.verb (call_suits plan)
    act_suits_by key.Command plan = suits_as verb.Command plan.verb (send_suits plan)
    act_suits_by key.Emit plan = absurd (let e : false ≡ true = plan.allowed in cc)
    act_suits_by key.Write plan = absurd (let e : false ≡ true = plan.allowed in cc)
    act_suits_by key.Read plan = absurd (let e : false ≡ true = plan.allowed in cc)
    act_suits_by key.Signal plan = absurd (let e : false ≡ true = plan.allowed in cc)
    act_suits_by key.Post plan = absurd (let e : false ≡ true = plan.allowed in cc)
    act_suits_by key.Respond plan = absurd (let e : false ≡ true = plan.allowed in cc)
    act_suits_by key.Dispatch plan = absurd (let e : false ≡ true = plan.allowed in cc)
    act_suits_by key.Return plan = absurd (let e : false ≡ true = plan.allowed in cc)

    call_answers : Planned key.Call → result_at t act.subject.instance act.subject.port ≡ option_and_then (λ (e : End). result_at t e.instance e.port) (input_named t a.first)
    call_answers plan =
        let e = mapped_some (λ (f : End). end_at f.instance f.port a.at) (input_named t a.first) act.subject plan.subject in
        ap (λ (f : End). result_at t f.instance f.port) (sym e.2) ∙ sym (ap (option_and_then (λ (f : End). result_at t f.instance f.port)) e.1)

    binds_same : (k : FirstKey) → Planned k → binds t act scope ≡ scope_after t k a scope
    binds_same key.Call plan = ap (λ (w : Verb). binds t (with_verb w) scope) plan.verb ∙ ap₂ (λ b o. bound_to b o scope) plan.bind (call_answers plan)
    binds_same key.Command plan = ap (λ (w : Verb). binds t (with_verb w) scope) plan.verb ∙ none_bound act.bind scope
    binds_same key.Emit plan = absurd (let e : false ≡ true = plan.allowed in cc)
    binds_same key.Write plan = absurd (let e : false ≡ true = plan.allowed in cc)
    binds_same key.Read plan = absurd (let e : false ≡ true = plan.allowed in cc)
    binds_same key.Signal plan = absurd (let e : false ≡ true = plan.allowed in cc)
    binds_same key.Post plan = absurd (let e : false ≡ true = plan.allowed in cc)
    binds_same key.Respond plan = absurd (let e : false ≡ true = plan.allowed in cc)
    binds_same key.Dispatch plan = absurd (let e : false ≡ true = plan.allowed in cc)
    binds_same key.Return plan = absurd (let e : false ≡ true = plan.allowed in cc)

  pub calls_suit : (scope : Scope) (texts : List ActText) (planned : List Act) → ActsPlan t scope texts planned → suit_in_turn t (caller_act_suits t) scope planned ≡ true
  calls_suit scope [] [] plan = refl
  calls_suit scope [] (x ∷ xs) plan = absurd plan
  calls_suit scope (a ∷ rest) [] plan = absurd plan
  calls_suit scope (a ∷ rest) (x ∷ xs) plan =
      join _ _ (act_suits_by scope a x a.key plan.0)
      (ap (λ s. suit_in_turn t (caller_act_suits t) s xs) (binds_same scope a x a.key plan.0) ∙ calls_suit (scope_after t a.key a scope) rest xs plan.1)

pub calls_as_long : (t : Described) (scope : Scope) (texts : List ActText) (planned : List Act) → ActsPlan t scope texts planned → length planned ≡ length texts
calls_as_long t scope [] [] plan = refl
calls_as_long t scope [] (x ∷ xs) plan = absurd plan
calls_as_long t scope (a ∷ rest) [] plan = absurd plan
calls_as_long t scope (a ∷ rest) (x ∷ xs) plan = ap suc (calls_as_long t (scope_after t a.key a scope) rest xs plan.1)
