-- What is due of a frame that suits: it fits, and it says what the action binds.
use Rattle.std.proofs.Common.{◌≡◌, ℕ, true, false, ◌&&◌, nat_lt, nat_le, List, [], ◌∷◌, Option, Some, None, option_map, option_and_then, option_to_list, unwrap_or, is_some, refl, sym, ap, ◌∙◌, subst, slice_get, arith}
use Rattle.std.proofs.lemmas.Bool.Decides.{nat_tests}
use Rattle.fp_base.specs.declared.value.Value.{Value}
use Rattle.fp_base.proofs.Bools.{both, join}
use Rattle.fp_tables.specs.Acts.{bound_to, command_of, machine_at, has_role, component_passes, is_placed}
use Rattle.fp_tables.specs.Arguments.{Scope, with_bound, kinds_of, arguments_suit}
use Rattle.fp_tables.specs.Lists.{some_and}
use Rattle.fp_tables.specs.Lookup.{Described, wire_from}
use Rattle.fp_tables.specs.Positions.{component_of, port_of}
use Rattle.fp_tables.specs.Programs as programs
use Rattle.fp_tables.specs.Programs.{is_general_input, is_general_output, is_internal, caller_act_suits, act_suits, verb_suits, returned_at}
use Rattle.fp_tables.specs.Sound.{IsSoundFor}
use Rattle.fp_tables.specs.Types.{has_kind, have_kinds}
use Rattle.fp_tables.specs.declared.kind.Kind.{Kind}
use Rattle.fp_tables.specs.declared.component.Channel.{Channel}
use Rattle.fp_tables.specs.declared.component.Command.{Command}
use Rattle.fp_tables.specs.declared.component.Component.{Component}
use Rattle.fp_tables.specs.declared.component.Event.{Event}
use Rattle.fp_tables.specs.declared.component.Param.{Param}
use Rattle.fp_tables.specs.declared.component.Port.{Port as PortOf}
use Rattle.fp_tables.specs.declared.component.Role.{Role}
use Rattle.fp_tables.specs.declared.component.Role.TheVariants as role
use Rattle.fp_tables.specs.declared.component.Special.{Special}
use Rattle.fp_tables.specs.declared.component.Special.TheVariants as special
use Rattle.fp_tables.specs.declared.machine.Machine.{Machine}
use Rattle.fp_tables.specs.declared.machine.Named.{Named}
use Rattle.fp_tables.specs.declared.topology.End.{End}
use Rattle.fp_tables.specs.declared.program.Arg.{Arg}
use Rattle.fp_tables.specs.declared.program.Program.{Program}
use Rattle.fp_tables.specs.declared.program.Spot.{Spot}
use Rattle.fp_tables.specs.declared.program.Verb.{Verb}
use Rattle.fp_tables.specs.declared.program.Verb.TheVariants as verb
use Rattle.fp_events.specs.Actor.{Bindings, Action, act, advance, Doing, Opened, own, arrived, taken}
use Rattle.fp_events.specs.Due.{values, first_value, first_in, first_action, sent_from, at_port, asks_out, ends_with, asks_in}
use Rattle.fp_events.specs.Fits.{point_fits, origin_fits, event_takes, value_fits, ask_fits}
use Rattle.fp_events.specs.Follows.{name_for, bound_name}
use Rattle.fp_tables.specs.Specials.{component, is_special, special_wire}
use Rattle.fp_events.specs.declared.event.Ask.{Ask}
use Rattle.fp_events.specs.declared.event.Ask.TheVariants as ask
use Rattle.fp_events.specs.declared.event.Point.{Point}
use Rattle.fp_events.specs.declared.event.Point.TheVariants.{Port, Command as OfCommand, Post, Signal}
use Rattle.fp_events.specs.declared.event.Origin.{Origin}
use Rattle.fp_events.specs.declared.event.Origin.TheVariants.{Caller, Own, Wire}
use Rattle.fp_base.proofs.Options.{same_some, some_of}
use Rattle.fp_base.specs.Names.{is_name}
use Rattle.fp_run_laws.specs.Notes.{is_special_end, ask_note_fits}
use Rattle.fp_run_laws.specs.Suits.{BoundSuits, result_of_point, source, ActionSuits, after, ActionsSuit, MayReturn, DoingsSuit, Returns}
use Rattle.fp_run_laws.proofs.Parts.{event_in, channel_in, param_in}
use Rattle.fp_run_laws.proofs.Scopes.{arguments_kinds, one_value}
use Rattle.fp_run_laws.proofs.Wires.{joins, is_general, one_kinds}
use Rattle.fp_run_laws.proofs.Results.{wire_results}
use Rattle.fp_run_laws.proofs.Responding.{special_wired}
use Rattle.fp_run_laws.proofs.Notes.{special_end, general_end, bind_is_name}
use Rattle.fp_run_laws.proofs.Places.{port_fits, post_fits, command_fits, signal_fits, wire_fits, sent_fits}
use Rattle.fp_tables.proofs.Optional.{some_and_of}
use Rattle.fp_tables.proofs.Untyped.{none_bound}

pub never : false ≡ true → ⊥
never h = cc

-- ---- the first action

-- what the first action of a list is
pub record FirstSuits (t : Described) (program : Program) (o : Opened) (i : ℕ) (result : Option Kind) (x : Action) (b : Bindings) : Type 0 where
  pub place : Spot
  pub scope : Scope
  pub returns : MayReturn t program o i result place
  pub action : ActionSuits t program (source o i place) scope x
  pub bound : BoundSuits t.model.types scope b

module _ (t : Described) (program : Program) (o : Opened) (i : ℕ) (result : Option Kind) where
  pub first_suits : (ds : List Doing) (x : Action) (b : Bindings) → DoingsSuit t program o i result (λ scope. scope) ds → first_action ds ≡ Some (x, b) → FirstSuits t program o i result x b
  first_suits [] x b h e = absurd (cc)
  first_suits (d ∷ ds) x b h e = go d.actions h.0.actions e (λ rest. first_suits ds x b h.1 rest)
    where
      go : (xs : List Action) → ActionsSuit t program (source o i h.0.place) h.0.scope xs → first_in d xs (first_action ds) ≡ Some (x, b) → (first_action ds ≡ Some (x, b) → FirstSuits t program o i result x b)
          → FirstSuits t program o i result x b
      go [] k is rest = rest is
      go (y ∷ ys) k is rest =
          let pair : (y, d.bound) ≡ (x, b) = same_some is in
          let head : y ≡ x = ap (λ (q : Action × Bindings). q.0) pair in
          let tail : d.bound ≡ b = ap (λ (q : Action × Bindings). q.1) pair in
          record {
            place = h.0.place;
            scope = h.0.scope;
            returns = h.0.returns;
            action = subst (λ (a : Action). ActionSuits t program (source o i h.0.place) h.0.scope a) head k.0;
            bound = subst (λ (c : Bindings). BoundSuits t.model.types h.0.scope c) tail h.0.bound;
          }

-- ---- what is due

module _ (t : Described) (program : Program) where
  -- the name of a read's value, and its type
  pub record Reads (i : ℕ) (x : Action) (d : ℕ) (param : ℕ) : Type 0 where
    pub here : d ≡ i
    pub name : List ℕ
    pub parameter : Param
    pub found : slice_get (component t i).params param ≡ Some parameter
    pub named : (bound : Bindings) → bound_name t program (Some (x, bound)) ≡ name
    pub binds : (scope : Scope) → after t program x scope ≡ with_bound name parameter.kind scope

  -- what the action binds, and what a frame that ends returns
  abbrev pub Binds : Opened → ℕ → Option Kind → Action → ℕ → Ask → Type 0
  Binds o i result x j (ask.Arrive r) = (bound : Bindings) (scope : Scope) → after t program x scope ≡ bound_to (name_for (Some (x, bound))) (result_of_point t j r.point) scope
  Binds o i result x j (ask.Leave v) = (default : Option Value) × (name : Option (List ℕ)) × (o ≡ arrived default name) × Returns t program result v
  Binds o i result x j ask.Done = o ≡ taken
  Binds o i result x j ask.Take = ⊥
  Binds o i result x j (ask.Read param) = Reads i x j param
  Binds o i result x j (ask.Advance running signal v) = (o ≡ own → ⊥) × (j ≡ i) × (x ≡ advance running signal v)
  Binds o i result x j _ = (o ≡ own → ⊥) × (j ≡ i) × ((scope : Scope) → after t program x scope ≡ scope)

  pub record AskSuits (o : Opened) (i : ℕ) (result : Option Kind) (x : Action) (d : ℕ × Ask) : Type 0 where
    pub placed : is_placed t d.0 ≡ true
    pub fits : ask_fits t program d.0 d.1 ≡ true
    pub noted : ask_note_fits t.model d.1 ≡ true
    pub binds : Binds o i result x d.0 d.1

  -- there is an ask, and it suits
  abbrev pub DueSuits : Opened → ℕ → Option Kind → Action → Option (ℕ × Ask) → Type 0
  DueSuits o i result x None = ⊥
  DueSuits o i result x (Some d) = AskSuits o i result x d

module _ (t : Described) (program : Program) (sound : IsSoundFor t.model (Some t.topology)) where
  -- ---- a caller's own actions

  arrival_fits_by : (i : ℕ) (point : Point) (origin : Origin) (vs : List Value) → point_fits t program i point vs ≡ true → origin_fits t program origin ≡ true → ask_fits t program i (ask.Arrive (record { point = point; origin = origin; with = vs })) ≡ true
  unfolding ask_fits
  arrival_fits_by i point origin vs h k = join (point_fits t program i point vs) (origin_fits t program origin) h k

  -- ---- sends

  -- an action that binds nothing and awaits nothing
  abbrev pub IsQuiet : Action → Type 0
  IsQuiet x = ((bound : Bindings) → name_for (Some (x, bound)) ≡ None) × ((scope : Scope) → after t program x scope ≡ scope)

  pub send_suits : (o : Opened) (i : ℕ) (result : Option Kind) (x : Action) (s : Special) (note : List ℕ) → IsQuiet x → is_some (special_wire t i s) ≡ true → is_name note ≡ true → DueSuits t program o i result x (sent_from t program (special_wire t i s) note)
  send_suits o i result x s note quiet h named =
      let w = some_of (special_wire t i s) h in
      let f = sent_fits t program sound i s w.0 note w.1 in
      subst (λ (o' : Option (End × End)). DueSuits t program o i result x (sent_from t program o' note)) (sym w.1)
      (record { placed = f.placed; fits = arrival_fits_by w.0.1.instance (Port w.0.1.port w.0.1.number) (Wire w.0.0 (Some note)) _ f.point f.origin; noted = join (is_special_end t.model w.0.0) (is_name note) (special_end t i s w.0 w.1) named; binds = λ bound scope. quiet.1 scope ∙ ap (λ (n : Option (List ℕ)). bound_to n (result_of_point t w.0.1.instance (Port w.0.1.port w.0.1.number)) scope) (sym (quiet.0 bound)) })

  module _ (scope : Scope) (bound : Bindings) (suits : BoundSuits t.model.types scope bound) where
    pub caller_suits : (i : ℕ) (result : Option Kind) (v : Verb) (subject : End) (name : ℕ) (with : List Arg) (given : Option (List ℕ))
        → caller_act_suits t scope (record { verb = v; subject = subject; name = name; with = with; bind = given }) ≡ true
        → DueSuits t program own i result (act (record { verb = v; subject = subject; name = name; with = with; bind = given }))
        (asks_out t program (record { verb = v; subject = subject; name = name; with = with; bind = given }) (values bound with) v)
    caller_suits i result verb.Call subject name with given h =
        let b = both (is_placed t subject.instance) _ h in
        let p = some_and_of (λ (p : PortOf). is_general_input p.role && nat_lt subject.number p.size && arguments_suit t.model.types scope (kinds_of p.formals) with) (port_of t.model subject.instance subject.port) b.1 in
        let x = both (is_general_input p.0.role && nat_lt subject.number p.0.size) (arguments_suit t.model.types scope (kinds_of p.0.formals) with) p.2 in
        let y = both (is_general_input p.0.role) (nat_lt subject.number p.0.size) x.0 in
        record {
          placed = b.0;
          fits = arrival_fits_by subject.instance (Port subject.port subject.number) Caller (values bound with)
              (port_fits t program subject.instance subject.port subject.number p.0 (values bound with) p.1 y.0 y.1
              (arguments_kinds t.model.types sound.0.types.no_type_uses_itself scope bound (kinds_of p.0.formals) with suits x.1))
              refl;
          noted = refl;
          binds = λ bound scope. refl;
        }
    caller_suits i result verb.Command subject name with given h =
        let b = both (is_placed t subject.instance) _ h in
        let n = both (nat_le subject.number 0) (some_and (λ (c : Command). arguments_suit t.model.types scope (kinds_of c.formals) with) (command_of t subject.instance name)) b.1 in
        let c = some_and_of (λ (c : Command). arguments_suit t.model.types scope (kinds_of c.formals) with) (command_of t subject.instance name) n.1 in
        record {
          placed = b.0;
          fits = arrival_fits_by subject.instance (OfCommand name) Caller (values bound with)
              (command_fits t program subject.instance name c.0 (values bound with) c.1
              (arguments_kinds t.model.types sound.0.types.no_type_uses_itself scope bound (kinds_of c.0.formals) with suits c.2))
              refl;
          noted = refl;
          binds = λ bound scope. none_bound given scope;
        }
    caller_suits i result verb.Emit subject name with given h = absurd (never (both (is_placed t subject.instance) false h).1)
    caller_suits i result verb.Write subject name with given h = absurd (never (both (is_placed t subject.instance) false h).1)
    caller_suits i result verb.Read subject name with given h = absurd (never (both (is_placed t subject.instance) false h).1)
    caller_suits i result verb.Signal subject name with given h = absurd (never (both (is_placed t subject.instance) false h).1)
    caller_suits i result verb.Post subject name with given h = absurd (never (both (is_placed t subject.instance) false h).1)
    caller_suits i result verb.Respond subject name with given h = absurd (never (both (is_placed t subject.instance) false h).1)
    caller_suits i result verb.Dispatch subject name with given h = absurd (never (both (is_placed t subject.instance) false h).1)
    caller_suits i result verb.Return subject name with given h = absurd (never (both (is_placed t subject.instance) false h).1)

    -- ---- an action at an instance

    fits_emit : (i event : ℕ) (vs : List Value) (e : Event) → slice_get (component t i).events event ≡ Some e → have_kinds t.model.types (kinds_of e.formals) vs ≡ true → ask_fits t program i (ask.Emit event vs) ≡ true
    unfolding ask_fits
    fits_emit i event vs e found h = ap (λ (o : Option Event). unwrap_or (option_map (event_takes t program vs) o) false) found ∙ h

    fits_write : (i channel : ℕ) (v : Value) (x : Channel) → slice_get (component t i).channels channel ≡ Some x → has_kind t.model.types x.kind v ≡ true → ask_fits t program i (ask.Write channel v) ≡ true
    unfolding ask_fits
    fits_write i channel v x found h = ap (λ (o : Option Channel). value_fits t program (option_map (λ (x : Channel). x.kind) o) v) found ∙ h

    fits_read : (i param : ℕ) (x : Param) → slice_get (component t i).params param ≡ Some x → ask_fits t program i (ask.Read param) ≡ true
    unfolding ask_fits
    fits_read i param x found = ap is_some found

    fits_plain : (i : ℕ) (v : Option Value) → (ask_fits t program i (ask.Leave v) ≡ true) × (ask_fits t program i ask.Done ≡ true) × (ask_fits t program i ask.Dispatch ≡ true)
    unfolding ask_fits
    fits_plain i v = (refl, refl, refl)

    output_general : (r : Role) → is_general_output r ≡ true → is_general r ≡ true
    unfolding is_general
    output_general role.Output h = refl
    output_general (role.Input way) h = absurd (cc)
    output_general (role.Special s) h = absurd (cc)
    output_general (role.Internal way) h = absurd (cc)

    input_general : (r : Role) → is_general_input r ≡ true → is_general r ≡ true
    unfolding is_general
    input_general (role.Input way) h = refl
    input_general role.Output h = absurd (cc)
    input_general (role.Special s) h = absurd (cc)
    input_general (role.Internal way) h = absurd (cc)

    zero_below : (n : ℕ) → nat_le n 0 ≡ true → n ≡ 0
    zero_below n h = grind (arith, nat_tests)

    -- the value of a return
    return_suits : (o : Opened) (subject : End) (result : Option Kind) (place : Spot) (with : List Arg) (x : Action) → is_placed t subject.instance ≡ true → MayReturn t program o subject.instance result place → (o ≡ own → ⊥)
        → programs.returns t place scope (record { verb = verb.Return; subject = subject; name = 0; with = with; bind = None }) ≡ true
        → DueSuits t program o subject.instance result x (ends_with t program o subject.instance (Some (first_value (values bound with))))
    return_suits own subject result place with x here may inside h = absurd (inside refl)
    return_suits taken subject result place with x here may inside h = record { placed = here; fits = (fits_plain subject.instance None).1; noted = refl; binds = refl }
    return_suits (arrived default name) subject result place with x here may inside h =
        let k = some_and_of (λ k. arguments_suit t.model.types scope (k ∷ []) with) (returned_at t subject.instance place) h in
        let value = one_value t.model.types sound.0.types.no_type_uses_itself scope bound k.0 with suits k.2 in
        record {
          placed = here;
          fits = (fits_plain subject.instance (Some (first_value (values bound with)))).0;
          noted = refl;
          binds = (default, name, refl, subst (λ (r : Option Kind). Returns t program r (Some (first_value (values bound with)))) (sym (may k.0 k.1)) value);
        }

    pub inside_suits : (o : Opened) (result : Option Kind) (place : Spot) (v : Verb) (subject : End) (name : ℕ) (with : List Arg) (given : Option (List ℕ))
        → (o ≡ own → ⊥) → is_placed t subject.instance ≡ true → MayReturn t program o subject.instance result place
        → verb_suits t place scope (record { verb = v; subject = subject; name = name; with = with; bind = given }) ≡ true
        → DueSuits t program o subject.instance result (act (record { verb = v; subject = subject; name = name; with = with; bind = given }))
        (asks_in t program o subject.instance (record { verb = v; subject = subject; name = name; with = with; bind = given }) (values bound with) v)
    inside_suits o result place verb.Call subject name with given inside here may h =
        let b = both (some_and (λ (p : PortOf). is_general_output p.role && arguments_suit t.model.types scope (kinds_of p.formals) with) (port_of t.model subject.instance subject.port)) (programs.leads_to t is_general_input subject) h in
        let p = some_and_of (λ (p : PortOf). is_general_output p.role && arguments_suit t.model.types scope (kinds_of p.formals) with) (port_of t.model subject.instance subject.port) b.0 in
        let x = both (is_general_output p.0.role) (arguments_suit t.model.types scope (kinds_of p.0.formals) with) p.2 in
        let e = some_and_of (has_role t is_general_input) (wire_from t subject) b.1 in
        let q = some_and_of (λ (p : PortOf). is_general_input p.role) (port_of t.model e.0.instance e.0.port) e.2 in
        let j = joins t program sound subject e.0 e.1 in
        let out : p.0 ≡ j.output = same_some (sym p.1 ∙ j.from_port) in
        let into : q.0 ≡ j.input = same_some (sym q.1 ∙ j.to_port) in
        let of : p.0.of ≡ q.0.of = ap (λ (p : PortOf). p.of) out ∙ j.of ∙ ap (λ (p : PortOf). p.of) (sym into) in
        let same : kinds_of p.0.formals ≡ kinds_of q.0.formals =
        one_kinds t program sound subject.instance subject.port e.0.instance e.0.port p.0 q.0 p.1 q.1 (output_general p.0.role x.0) (input_general q.0.role q.2) of in
        let values_fit = arguments_kinds t.model.types sound.0.types.no_type_uses_itself scope bound (kinds_of p.0.formals) with suits x.1 in
        subst (λ (w : Option End). DueSuits t program o subject.instance result (act (record { verb = verb.Call; subject = subject; name = name; with = with; bind = given }))
        (option_map (λ (to : End). (to.instance, ask.Arrive (record { point = at_port t program to; origin = Wire subject None; with = values bound with }))) w)) (sym e.1)
        (record {
          placed = j.to_placed;
          fits = arrival_fits_by e.0.instance (Port e.0.port e.0.number) (Wire subject None) (values bound with)
              (port_fits t program e.0.instance e.0.port e.0.number q.0 (values bound with) q.1 q.2
              (ap (λ (p : PortOf). nat_lt e.0.number p.size) into ∙ j.to_below)
              (ap (λ (ks : List Kind). have_kinds t.model.types ks (values bound with)) (sym same) ∙ values_fit))
              (wire_fits t program subject None j.output j.from_placed j.from_port j.from_below);
          noted = general_end t subject (ap (some_and (λ (p : PortOf). is_general_output p.role)) p.1 ∙ x.0);
          binds = λ bound scope. ap (λ (k : Option Kind). bound_to given k scope) (wire_results t sound program subject e.0 e.1);
        })
    inside_suits o result place verb.Command subject name with given inside here may h =
        let b = both _ (programs.takes_sent t scope (record { verb = verb.Command; subject = subject; name = name; with = with; bind = given })) h in
        let e = some_and_of (λ (e : End). some_and (λ (c : Command). arguments_suit t.model.types scope (kinds_of c.formals) with) (command_of t e.instance name)) (wire_from t subject) b.1 in
        let c = some_and_of (λ (c : Command). arguments_suit t.model.types scope (kinds_of c.formals) with) (command_of t e.0.instance name) e.2 in
        let j = joins t program sound subject e.0 e.1 in
        subst (λ (w : Option End). DueSuits t program o subject.instance result (act (record { verb = verb.Command; subject = subject; name = name; with = with; bind = given }))
        (option_map (λ (to : End). (to.instance, ask.Arrive (record { point = OfCommand name; origin = Wire subject None; with = values bound with }))) w)) (sym e.1)
        (record {
          placed = j.to_placed;
          fits = arrival_fits_by e.0.instance (OfCommand name) (Wire subject None) (values bound with)
              (command_fits t program e.0.instance name c.0 (values bound with) c.1
              (arguments_kinds t.model.types sound.0.types.no_type_uses_itself scope bound (kinds_of c.0.formals) with suits c.2))
              (wire_fits t program subject None j.output j.from_placed j.from_port j.from_below);
          noted = general_end t subject (both _ _ (both _ _ b.0).0).0;
          binds = λ bound scope. none_bound given scope;
        })
    inside_suits o result place verb.Respond subject name with given inside here may h =
        let a = both _ (programs.has_identifier (record { verb = verb.Respond; subject = subject; name = name; with = with; bind = given })) h in
        let b = both _ (is_some (wire_from t subject)) a.0 in
        let c = both _ (nat_le subject.number 0) b.0 in
        let d = both (programs.is_command place) (has_role t (is_special special.CmdResp) subject) c.0 in
        send_suits o subject.instance result (act (record { verb = verb.Respond; subject = subject; name = name; with = with; bind = given })) special.CmdResp (unwrap_or given [])
        (λ bound. refl, λ scope. none_bound given scope)
        (special_wired t sound special.CmdResp subject d.1 (zero_below subject.number c.1) b.1) (bind_is_name given a.1)
    inside_suits o result place verb.Post subject name with given inside here may h =
        let p = some_and_of (λ (p : PortOf). is_internal p.role && arguments_suit t.model.types scope (kinds_of p.formals) with) (port_of t.model subject.instance subject.port) h in
        let x = both (is_internal p.0.role) (arguments_suit t.model.types scope (kinds_of p.0.formals) with) p.2 in
        record {
          placed = here;
          fits = arrival_fits_by subject.instance (Post subject.port) Own (values bound with)
              (post_fits t program subject.instance subject.port p.0 (values bound with) p.1 x.0
              (arguments_kinds t.model.types sound.0.types.no_type_uses_itself scope bound (kinds_of p.0.formals) with suits x.1))
              refl;
          noted = refl;
          binds = λ bound scope. none_bound given scope;
        }
    inside_suits o result place verb.Signal subject name with given inside here may h =
        let m = some_and_of (λ (m : Machine). some_and (λ (s : Named). arguments_suit t.model.types scope (option_to_list s.kind) with) (slice_get m.signals name)) (machine_at t subject.instance subject.port) h in
        let s = some_and_of (λ (s : Named). arguments_suit t.model.types scope (option_to_list s.kind) with) (slice_get m.0.signals name) m.2 in
        record {
          placed = here;
          fits = arrival_fits_by subject.instance (Signal subject.port name) Own (values bound with)
              (signal_fits t program subject.instance subject.port name m.0 s.0 (values bound with) m.1 s.1
              (arguments_kinds t.model.types sound.0.types.no_type_uses_itself scope bound (option_to_list s.0.kind) with suits s.2))
              refl;
          noted = refl;
          binds = λ bound scope. none_bound given scope;
        }
    inside_suits o result place verb.Emit subject name with given inside here may h =
        let c = some_and_of (λ (c : Component). some_and (λ (e : Event). arguments_suit t.model.types scope (kinds_of e.formals) with) (slice_get c.events name)) (component_of t.model subject.instance) h in
        let e = some_and_of (λ (e : Event). arguments_suit t.model.types scope (kinds_of e.formals) with) (slice_get c.0.events name) c.2 in
        record {
          placed = here;
          fits = fits_emit subject.instance name (values bound with) e.0 (event_in t subject.instance name ∙ ap (option_and_then (λ (c : Component). slice_get c.events name)) c.1 ∙ e.1)
              (arguments_kinds t.model.types sound.0.types.no_type_uses_itself scope bound (kinds_of e.0.formals) with suits e.2);
          noted = refl;
          binds = (inside, refl, λ scope. none_bound given scope);
        }
    inside_suits o result place verb.Write subject name with given inside here may h =
        let c = some_and_of (λ (c : Component). some_and (λ (x : Channel). arguments_suit t.model.types scope (x.kind ∷ []) with) (slice_get c.channels name)) (component_of t.model subject.instance) h in
        let e = some_and_of (λ (x : Channel). arguments_suit t.model.types scope (x.kind ∷ []) with) (slice_get c.0.channels name) c.2 in
        record {
          placed = here;
          fits = fits_write subject.instance name (first_value (values bound with)) e.0 (channel_in t subject.instance name ∙ ap (option_and_then (λ (c : Component). slice_get c.channels name)) c.1 ∙ e.1)
              (one_value t.model.types sound.0.types.no_type_uses_itself scope bound e.0.kind with suits e.2);
          noted = refl;
          binds = (inside, refl, λ scope. none_bound given scope);
        }
    inside_suits o result place verb.Read subject name with given inside here may h =
        let b = both (component_passes t subject.instance (λ c. is_some (slice_get c.params name))) (is_some given) h in
        let c = some_and_of (λ (c : Component). is_some (slice_get c.params name)) (component_of t.model subject.instance) b.0 in
        let e = some_of (slice_get c.0.params name) c.2 in
        let n = some_of given b.1 in
        let there : option_and_then (λ (c : Component). slice_get c.params name) (component_of t.model subject.instance) ≡ Some e.0 = ap (option_and_then (λ (c : Component). slice_get c.params name)) c.1 ∙ e.1 in
        let found : slice_get (component t subject.instance).params name ≡ Some e.0 = param_in t subject.instance name ∙ there in
        record {
          placed = here;
          fits = fits_read subject.instance name e.0 found;
          noted = refl;
          binds = record {
            here = refl;
            name = n.0;
            parameter = e.0;
            found = found;
            named = λ bound. ap (λ (o : Option (List ℕ)). unwrap_or o []) n.1;
            binds = λ scope. ap (λ (k : Option Kind). bound_to given k scope) (ap (option_map (λ (x : Param). x.kind)) there) ∙ ap (λ (o : Option (List ℕ)). bound_to o (Some e.0.kind) scope) n.1;
          };
        }
    inside_suits o result place verb.Dispatch subject name with given inside here may h =
        record { placed = here; fits = (fits_plain subject.instance None).2; noted = refl; binds = (inside, refl, λ scope. none_bound given scope) }
    inside_suits o result place verb.Return subject name with given inside here may h =
        return_suits o subject result place with (act (record { verb = verb.Return; subject = subject; name = name; with = with; bind = given })) here may inside h
