-- Where the places of a point are, and when what arrives there fits.
use Rattle.std.proofs.Common.{◌≡◌, ℕ, Bool, true, false, cond, nat_lt, List, [], map, Option, Some, None, option_map, option_and_then, option_to_list, unwrap_or, is_some, refl, sym, ap, ◌∙◌, slice_get}
use Rattle.std.specs.List.{position}
use Rattle.std.specs.Str.{bytes_eq}
use Rattle.fp_base.proofs.Bytes.{same_bytes}
use Rattle.fp_tables.specs.Specials.{component, is_special, special_wire}
use Rattle.fp_base.proofs.Options.{then_some, mapped_some, same_some}
use Rattle.fp_base.specs.declared.value.Value.{Value}
use Rattle.fp_base.proofs.Bools.{both, join}
use Rattle.fp_base.proofs.Passing.{position_passes}
use Rattle.fp_tables.specs.Acts as acts
use Rattle.fp_tables.specs.Arguments.{kinds_of}
use Rattle.fp_tables.specs.Components as components
use Rattle.fp_tables.specs.Lists.{some_and}
use Rattle.fp_tables.specs.Lookup.{Described, wire_from, is_input, is_output}
use Rattle.fp_tables.specs.Positions.{component_of, port_of}
use Rattle.fp_tables.specs.Programs.{is_general_input, is_internal}
use Rattle.fp_tables.specs.Sound.{IsSoundFor}
use Rattle.fp_tables.specs.Types.{have_kinds}
use Rattle.fp_tables.specs.declared.kind.Formal.{Formal}
use Rattle.fp_tables.specs.declared.kind.Kind.{Kind}
use Rattle.fp_tables.specs.declared.kind.PortDef.{PortDef}
use Rattle.fp_tables.specs.declared.component.Command.{Command}
use Rattle.fp_tables.specs.declared.component.Component.{Component}
use Rattle.fp_tables.specs.declared.component.Port.{Port as PortOf}
use Rattle.fp_tables.specs.declared.component.Role.{Role}
use Rattle.fp_tables.specs.declared.component.Role.TheVariants as role
use Rattle.fp_tables.specs.declared.component.Running.{Running}
use Rattle.fp_tables.specs.declared.component.Special.{Special}
use Rattle.fp_tables.specs.declared.component.Special.TheVariants.{CmdRecv, CmdReg, CmdResp, Event, TextEvent, Tlm, Time, PrmGet, PrmSet}
use Rattle.fp_tables.specs.declared.component.Way.{Way}
use Rattle.fp_tables.specs.declared.machine.Machine.{Machine}
use Rattle.fp_tables.specs.declared.machine.Named.{Named}
use Rattle.fp_tables.specs.declared.topology.End.{End}
use Rattle.fp_tables.specs.declared.program.Program.{Program}
use Rattle.fp_events.specs.Fits.{kinds, port_at, place_kinds, point_fits, origin_fits, signal_kinds, signal_at}
use Rattle.fp_tables.specs.Acts.{is_placed}
use Rattle.fp_events.specs.Lookup.{machine, default_of}
use Rattle.fp_events.specs.Manners.{Manner, by, manner, input_manner, internal_manner, command_manner}
use Rattle.fp_events.specs.declared.event.Point.{Point}
use Rattle.fp_events.specs.declared.event.Point.TheVariants.{Port, Command as OfCommand, Post, Signal}
use Rattle.fp_events.specs.declared.event.Origin.TheVariants.{Wire}
use Rattle.fp_run_laws.proofs.Parts.{port_in, command_in, running_in}
use Rattle.fp_run_laws.proofs.Wires.{joins, port_sound, port_lies_at}
use Rattle.fp_run_laws.proofs.Results.{defaults_fit}
use Rattle.fp_tables.proofs.Optional.{some_and_of}

module _ (t : Described) (program : Program) where
  port_here : (i n : ℕ) (p : PortOf) → port_of t.model i n ≡ Some p → slice_get (component t i).ports n ≡ Some p
  port_here i n p h = port_in t i n ∙ h

  -- a point with a manner and kinds that the values have
  point_with : (i : ℕ) (point : Point) (vs : List Value) (m : Manner) (ks : List Kind) → manner t i point ≡ Some m → place_kinds t program i point ≡ Some ks → have_kinds t.model.types ks vs ≡ true → point_fits t program i point vs ≡ true
  point_with i point vs m ks treated there h =
      join (is_some (manner t i point)) (unwrap_or (option_map (λ ks. have_kinds t.model.types ks vs) (place_kinds t program i point)) false)
      (ap is_some treated) (ap (λ (o : Option (List Kind)). unwrap_or (option_map (λ ks. have_kinds t.model.types ks vs) o) false) there ∙ h)

  input_is : (r : Role) → is_general_input r ≡ true → (way : Way) × (r ≡ role.Input way)
  input_is (role.Input way) h = (way, refl)
  input_is role.Output h = absurd (cc)
  input_is (role.Special s) h = absurd (cc)
  input_is (role.Internal way) h = absurd (cc)

  internal_is : (r : Role) → is_internal r ≡ true → (way : Way) × (r ≡ role.Internal way)
  internal_is (role.Internal way) h = (way, refl)
  internal_is role.Output h = absurd (cc)
  internal_is (role.Special s) h = absurd (cc)
  internal_is (role.Input way) h = absurd (cc)

  pub port_fits : (i n number : ℕ) (p : PortOf) (vs : List Value) → port_of t.model i n ≡ Some p → is_general_input p.role ≡ true → nat_lt number p.size ≡ true → have_kinds t.model.types (kinds_of p.formals) vs ≡ true
      → point_fits t program i (Port n number) vs ≡ true
  port_fits i n number p vs found input below h =
      let r = input_is p.role input in
      point_with i (Port n number) vs (by r.0) (kinds_of p.formals)
      (ap (option_and_then (λ (p : PortOf). input_manner p.role)) (port_here i n p found) ∙ ap input_manner r.1)
      (ap (option_and_then (λ (p : PortOf). cond (nat_lt number p.size) (Some (kinds t program p.formals)) None)) (port_here i n p found) ∙ ap (λ (b : Bool). cond b (Some (kinds t program p.formals)) None) below)
      h

  pub post_fits : (i n : ℕ) (p : PortOf) (vs : List Value) → port_of t.model i n ≡ Some p → is_internal p.role ≡ true → have_kinds t.model.types (kinds_of p.formals) vs ≡ true
      → point_fits t program i (Post n) vs ≡ true
  post_fits i n p vs found internal h =
      let r = internal_is p.role internal in
      point_with i (Post n) vs (by r.0) (kinds_of p.formals)
      (ap (option_and_then (λ (p : PortOf). internal_manner p.role)) (port_here i n p found) ∙ ap internal_manner r.1)
      (ap (option_map (λ (p : PortOf). kinds t program p.formals)) (port_here i n p found))
      h

  pub command_fits : (i n : ℕ) (c : Command) (vs : List Value) → acts.command_of t i n ≡ Some c → have_kinds t.model.types (kinds_of c.formals) vs ≡ true → point_fits t program i (OfCommand n) vs ≡ true
  command_fits i n c vs found h =
      let here : slice_get (component t i).commands n ≡ Some c = command_in t i n ∙ found in
      point_with i (OfCommand n) vs (command_manner c.way c.part) (kinds_of c.formals)
      (ap (option_map (λ (c : Command). command_manner c.way c.part)) here)
      (ap (option_map (λ (c : Command). kinds t program c.formals)) here)
      h

  -- ---- machines

  pub machine_here : (i running : ℕ) → machine t i running ≡ acts.machine_at t i running
  machine_here i running = ap (option_and_then (λ (r : Running). slice_get t.model.machines r.machine)) (running_in t i running) ∙ go (option_and_then (λ (c : Component). slice_get c.machines running) (component_of t.model i))
    where
      go : (o : Option Running) → option_and_then (λ (r : Running). slice_get t.model.machines r.machine) o ≡ option_and_then (slice_get t.model.machines) (option_map (λ (r : Running). r.machine) o)
      go None = refl
      go (Some r) = refl

  pub signal_here : (i running signal : ℕ) (m : Machine) (s : Named) → acts.machine_at t i running ≡ Some m → slice_get m.signals signal ≡ Some s → signal_at t program i running signal ≡ Some s
  signal_here i running signal m s found is = ap (option_and_then (λ (m : Machine). slice_get m.signals signal)) (machine_here i running ∙ found) ∙ is

  pub kinds_of_signal : (k : Option Kind) → signal_kinds t program k ≡ option_to_list k
  kinds_of_signal None = refl
  kinds_of_signal (Some k) = refl

  pub signal_fits : (i running signal : ℕ) (m : Machine) (s : Named) (vs : List Value) → acts.machine_at t i running ≡ Some m → slice_get m.signals signal ≡ Some s → have_kinds t.model.types (option_to_list s.kind) vs ≡ true
      → point_fits t program i (Signal running signal) vs ≡ true
  signal_fits i running signal m s vs found is h =
      let r = then_some (λ (r : Running). slice_get t.model.machines r.machine) (slice_get (component t i).machines running) m (machine_here i running ∙ found) in
      point_with i (Signal running signal) vs (by r.0.way) (signal_kinds t program s.kind)
      (ap (option_map (λ (r : Running). by r.way)) r.1)
      (ap (option_map (λ (s : Named). signal_kinds t program s.kind)) (signal_here i running signal m s found is))
      (ap (λ (ks : List Kind). have_kinds t.model.types ks vs) (kinds_of_signal s.kind) ∙ h)

  -- ---- origins

  pub wire_fits : (e : End) (sent : Option (List ℕ)) (p : PortOf) → is_placed t e.instance ≡ true → port_of t.model e.instance e.port ≡ Some p → nat_lt e.number p.size ≡ true → origin_fits t program (Wire e sent) ≡ true
  wire_fits e sent p here found below =
      join (is_placed t e.instance) (unwrap_or (option_map (λ (p : PortOf). nat_lt e.number p.size) (port_at t program e.instance e.port)) false)
      here (ap (λ (o : Option PortOf). unwrap_or (option_map (λ (p : PortOf). nat_lt e.number p.size) o) false) (port_here e.instance e.port p found) ∙ below)

-- ---- special ports

-- both ends of the wire of a special port
pub record SpecialWire (t : Described) (i : ℕ) (s : Special) (w : End × End) : Type 0 where
  pub port : ℕ
  pub output : PortOf
  pub found : port_of t.model i port ≡ Some output
  pub is : is_special s output.role ≡ true
  pub from : w.0 ≡ record { instance = i; port = port; number = 0 }
  pub wired : wire_from t w.0 ≡ Some w.1

pub special_wire_is : (t : Described) (i : ℕ) (s : Special) (w : End × End) → special_wire t i s ≡ Some w → SpecialWire t i s w
special_wire_is t i s w h =
    let k = then_some (λ port. option_map (λ to. (record { instance = i; port = port; number = 0 }, to)) (wire_from t (record { instance = i; port = port; number = 0 }))) (position (λ p. is_special s p.role) (component t i).ports) w h in
    let p = position_passes (λ (p : PortOf). is_special s p.role) (component t i).ports k.0 k.1 in
    let to = mapped_some (λ to. (record { instance = i; port = k.0; number = 0 }, to)) (wire_from t (record { instance = i; port = k.0; number = 0 })) w k.2 in
    record {
      port = k.0;
      output = p.0;
      found = sym (port_in t i k.0) ∙ p.1;
      is = p.2;
      from = ap (λ (q : End × End). q.0) (sym to.2);
      wired = ap (λ (q : End × End). wire_from t q.0) (sym to.2) ∙ to.1 ∙ ap (λ (q : End × End). Some q.1) to.2;
    }

module _ (t : Described) (program : Program) (sound : IsSoundFor t.model (Some t.topology)) where
  definition_is : (i k : ℕ) (p : PortOf) (s : Special) → port_of t.model i k ≡ Some p → p.role ≡ role.Special s → some_and (λ (d : PortDef). bytes_eq d.name (components.definition_of s)) (components.definition t.model.ports p) ≡ true
  definition_is i k p s found is =
      ap (λ (r : Role). components.suits_its_role t.model.ports (record p { role = r })) (sym is)
      ∙ port_sound t.model (components.suits_its_role t.model.ports) i k p sound.0.ports.ports_suit_their_roles found

  -- commands are received at ports of a definition of their own
  other_definition : (s : Special) → is_output (role.Special s) ≡ true → bytes_eq (components.definition_of s) (components.definition_of CmdRecv) ≡ true → ⊥
  other_definition CmdRecv h e = cc
  other_definition CmdReg h e = cc
  other_definition CmdResp h e = cc
  other_definition Event h e = cc
  other_definition TextEvent h e = cc
  other_definition Tlm h e = cc
  other_definition Time h e = cc
  other_definition PrmGet h e = cc
  other_definition PrmSet h e = cc

  special_role : (s : Special) (r : Role) → is_special s r ≡ true → (q : Special) × (r ≡ role.Special q)
  special_role s (role.Special q) h = (q, refl)
  special_role s role.Output h = absurd (cc)
  special_role s (role.Input way) h = absurd (cc)
  special_role s (role.Internal way) h = absurd (cc)

  -- a wire from a special port leads to a general input
  general_input : (o q : PortOf) (i k j n : ℕ) (s : Special) → port_of t.model i k ≡ Some o → port_of t.model j n ≡ Some q → o.of ≡ q.of → o.role ≡ role.Special s → is_output o.role ≡ true → is_input q.role ≡ true
      → is_general_input q.role ≡ true
  general_input o q i k j n s found there of is out h = go q.role refl h
    where
      go : (r : Role) → q.role ≡ r → is_input r ≡ true → is_general_input r ≡ true
      go (role.Input way) e h = refl
      go role.Output e h = absurd (cc)
      go (role.Internal way) e h = absurd (cc)
      go (role.Special r) e h =
          let a = some_and_of (λ (d : PortDef). bytes_eq d.name (components.definition_of s)) (components.definition t.model.ports o) (definition_is i k o s found is) in
          let c : r ≡ CmdRecv = received r h in
          let b = some_and_of (λ (d : PortDef). bytes_eq d.name (components.definition_of r)) (components.definition t.model.ports q) (definition_is j n q r there e) in
          let same : a.0 ≡ b.0 = same_some (sym a.1 ∙ ap (λ (o : Option ℕ). option_and_then (slice_get t.model.ports) o) of ∙ b.1) in
          let x : a.0.name ≡ components.definition_of s = same_bytes a.0.name (components.definition_of s) a.2 in
          let y : b.0.name ≡ components.definition_of r = same_bytes b.0.name (components.definition_of r) b.2 in
          let z : components.definition_of s ≡ components.definition_of CmdRecv = sym x ∙ ap (λ (d : PortDef). d.name) same ∙ y ∙ ap components.definition_of c in
          absurd (other_definition s (ap is_output (sym is) ∙ out) (ap (λ (l : List ℕ). bytes_eq l (components.definition_of CmdRecv)) z ∙ refl))
        where
          received : (r : Special) → is_input (role.Special r) ≡ true → r ≡ CmdRecv
          received CmdRecv h = refl
          received CmdReg h = absurd (cc)
          received CmdResp h = absurd (cc)
          received Event h = absurd (cc)
          received TextEvent h = absurd (cc)
          received Tlm h = absurd (cc)
          received Time h = absurd (cc)
          received PrmGet h = absurd (cc)
          received PrmSet h = absurd (cc)

  -- what is sent along a wire from a special port
  pub record SentFits (i : ℕ) (w : End × End) (note : List ℕ) : Type 0 where
    pub placed : is_placed t w.1.instance ≡ true
    pub point : point_fits t program w.1.instance (Port w.1.port w.1.number) (unwrap_or (option_map (λ (p : PortOf). map (λ (f : Formal). default_of t f.kind) p.formals) (slice_get (component t w.1.instance).ports w.1.port)) []) ≡ true
    pub origin : origin_fits t program (Wire w.0 (Some note)) ≡ true

  pub sent_fits : (i : ℕ) (s : Special) (w : End × End) (note : List ℕ) → special_wire t i s ≡ Some w → SentFits i w note
  sent_fits i s w note h =
      let a = special_wire_is t i s w h in
      let j = joins t program sound w.0 w.1 a.wired in
      let r = special_role s a.output.role a.is in
      let same : a.output ≡ j.output = same_some (sym a.found ∙ ap (λ (e : End). port_of t.model e.instance e.port) (sym a.from) ∙ j.from_port) in
      let is : j.output.role ≡ role.Special r.0 = ap (λ (p : PortOf). p.role) (sym same) ∙ r.1 in
      let input = general_input j.output j.input w.0.instance w.0.port w.1.instance w.1.port r.0 j.from_port j.to_port j.of is j.is_output j.is_input in
      let lies = port_lies_at t program sound w.1.instance w.1.port j.input j.to_port in
      let values : unwrap_or (option_map (λ (p : PortOf). map (λ (f : Formal). default_of t f.kind) p.formals) (slice_get (component t w.1.instance).ports w.1.port)) [] ≡ map (λ (f : Formal). default_of t f.kind) j.input.formals =
      ap (λ (o : Option PortOf). unwrap_or (option_map (λ (p : PortOf). map (λ (f : Formal). default_of t f.kind) p.formals) o) []) (port_here t program w.1.instance w.1.port j.input j.to_port) in
      record {
        placed = j.to_placed;
        point = port_fits t program w.1.instance w.1.port w.1.number j.input _ j.to_port input j.to_below
            (ap (λ (vs : List Value). have_kinds t.model.types (kinds_of j.input.formals) vs) values ∙ defaults_fit t sound j.input.formals (both _ _ lies).0);
        origin = wire_fits t program w.0 (Some note) j.output j.from_placed j.from_port j.from_below;
      }
