-- The notes of what is sent are names, and they come along the wires of special ports alone.
use Rattle.std.proofs.Common.{◌≡◌, ℕ, true, not, Option, Some, None, option_map, option_and_then, unwrap_or, is_some, refl, sym, ap, ◌∙◌, slice_get, List, [], ◌∷◌}
use Rattle.fp_base.specs.declared.value.Value.{Value}
use Rattle.fp_base.specs.Names.{is_name}
use Rattle.fp_base.proofs.Bools.{both}
use Rattle.fp_base.proofs.Lists.{all_get}
use Rattle.fp_base.proofs.Options.{then_some, some_of}
use Rattle.fp_tables.specs.Acts.{has_role}
use Rattle.fp_tables.specs.Lists.{some_and}
use Rattle.fp_tables.specs.Lookup.{Described}
use Rattle.fp_tables.specs.Positions.{component_of, port_of}
use Rattle.fp_tables.specs.Programs.{is_general_output}
use Rattle.fp_tables.specs.Sound.{IsSound, component_has_names}
use Rattle.fp_tables.specs.Specials.{component, is_special, special_wire}
use Rattle.fp_tables.specs.declared.component.Channel.{Channel}
use Rattle.fp_tables.specs.declared.component.Command.{Command}
use Rattle.fp_tables.specs.declared.component.Component.{Component}
use Rattle.fp_tables.specs.declared.component.Event.{Event}
use Rattle.fp_tables.specs.declared.component.Param.{Param}
use Rattle.fp_tables.specs.declared.component.CommandPart.TheVariants as part
use Rattle.fp_tables.specs.declared.component.Port.{Port as PortOf}
use Rattle.fp_tables.specs.declared.component.Role.{Role}
use Rattle.fp_tables.specs.declared.component.Role.TheVariants as role
use Rattle.fp_tables.specs.declared.component.Special.{Special}
use Rattle.fp_tables.specs.declared.model.Model.{Model}
use Rattle.fp_tables.specs.declared.topology.End.{End}
use Rattle.fp_tables.specs.declared.program.Program.{Program}
use Rattle.fp_events.specs.Fits.{saved_kind, value_fits}
use Rattle.fp_events.specs.Follows.{parameter_of, parameter_name}
use Rattle.fp_events.specs.Manners.{Manner, by, sets, saves, manner}
use Rattle.fp_events.specs.declared.event.Point.{Point}
use Rattle.fp_events.specs.declared.event.Point.TheVariants.{Command as OfCommand}
use Rattle.fp_run_laws.specs.Notes.{is_special_end, is_special_role}
use Rattle.fp_run_laws.proofs.Parts.{command_in, event_in, channel_in, param_in, of_component}
use Rattle.fp_run_laws.proofs.Places.{special_wire_is}
use Rattle.fp_run_laws.proofs.Commands.{implied, of_save, saves_part}

-- ---- where notes come from

special_role : (s : Special) (r : Role) → is_special s r ≡ true → is_special_role r ≡ true
special_role s (role.Special q) h = refl
special_role s _ h = absurd (cc)

-- a special port's wire begins at a special port
pub special_end : (t : Described) (i : ℕ) (s : Special) (w : End × End) → special_wire t i s ≡ Some w → is_special_end t.model w.0 ≡ true
special_end t i s w h =
    let a = special_wire_is t i s w h in
    ap (is_special_end t.model) a.from ∙ ap (some_and (λ (p : PortOf). is_special_role p.role)) a.found ∙ special_role s a.output.role a.is

-- no special port is a general output
pub general_end : (t : Described) (e : End) → has_role t is_general_output e ≡ true → not (is_special_end t.model e) ≡ true
general_end t e h = go (port_of t.model e.instance e.port) h
  where
    of_role : (r : Role) → is_general_output r ≡ true → not (is_special_role r) ≡ true
    of_role role.Output h = refl
    of_role (role.Input way) h = absurd (cc)
    of_role (role.Special s) h = absurd (cc)
    of_role (role.Internal way) h = absurd (cc)

    go : (o : Option PortOf) → some_and (λ (x : PortOf). is_general_output x.role) o ≡ true → not (some_and (λ (p : PortOf). is_special_role p.role) o) ≡ true
    go None h = absurd (cc)
    go (Some p) h = of_role p.role h

-- ---- names

pub bind_is_name : (o : Option (List ℕ)) → some_and is_name o ≡ true → is_name (unwrap_or o []) ≡ true
bind_is_name None h = absurd (cc)
bind_is_name (Some name) h = h

-- each note is a name
abbrev pub AreNamed : List (Special × List ℕ) → Type 0
AreNamed [] = Unit {0}
AreNamed (p ∷ ps) = (is_name p.1 ≡ true) × AreNamed ps

names_at : (m : Model) → IsSound m → (i : ℕ) (c : Component) → component_of m i ≡ Some c → component_has_names c ≡ true
names_at m sound i c e = of_component m component_has_names i c (both _ _ (both _ _ sound.names.own_names_are_names).0).1 e

module _ (t : Described) (program : Program) (sound : IsSound t.model) where
  pub event_named : (i k : ℕ) → is_some (slice_get (component t i).events k) ≡ true → is_name (unwrap_or (option_map (λ (e : Event). e.name) (slice_get (component t i).events k)) []) ≡ true
  event_named i k h =
      let e = some_of (slice_get (component t i).events k) h in
      let c = then_some (λ (c : Component). slice_get c.events k) (component_of t.model i) e.0 (sym (event_in t i k) ∙ e.1) in
      let all = (both _ _ (both _ _ (both _ _ (both _ _ (names_at t.model sound i c.0 c.1)).0).0).0).1 in
      ap (λ (o : Option Event). is_name (unwrap_or (option_map (λ (e : Event). e.name) o) [])) e.1 ∙ (both _ _ (all_get _ c.0.events k e.0 all c.2)).0

  pub channel_named : (i k : ℕ) → is_some (slice_get (component t i).channels k) ≡ true → is_name (unwrap_or (option_map (λ (x : Channel). x.name) (slice_get (component t i).channels k)) []) ≡ true
  channel_named i k h =
      let e = some_of (slice_get (component t i).channels k) h in
      let c = then_some (λ (c : Component). slice_get c.channels k) (component_of t.model i) e.0 (sym (channel_in t i k) ∙ e.1) in
      let all = (both _ _ (both _ _ (both _ _ (names_at t.model sound i c.0 c.1)).0).0).1 in
      ap (λ (o : Option Channel). is_name (unwrap_or (option_map (λ (x : Channel). x.name) o) [])) e.1 ∙ all_get _ c.0.channels k e.0 all c.2

  param_named : (i k : ℕ) (p : Param) → slice_get (component t i).params k ≡ Some p → is_name p.name ≡ true
  param_named i k p h =
      let c = then_some (λ (c : Component). slice_get c.params k) (component_of t.model i) p (sym (param_in t i k) ∙ h) in
      let all = (both _ _ (both _ _ (names_at t.model sound i c.0 c.1)).0).1 in
      all_get _ c.0.params k p all c.2

  saved_param : (i : ℕ) (m : Option Manner) (v : Value) → value_fits t program (saved_kind t program i m) v ≡ true → (k : ℕ) × (p : Param) × (m ≡ Some (saves k)) × (slice_get (component t i).params k ≡ Some p)
  saved_param i (Some (saves k)) v h = go (slice_get (component t i).params k) refl h
    where
      go : (o : Option Param) → slice_get (component t i).params k ≡ o → value_fits t program (option_map (λ (x : Param). x.kind) o) v ≡ true
          → (j : ℕ) × (p : Param) × (Some (saves k) ≡ Some (saves j)) × (slice_get (component t i).params j ≡ Some p)
      go None is e = absurd (cc)
      go (Some p) is e = (k, p, refl, is)
  saved_param i (Some (by way)) v h = absurd (cc)
  saved_param i (Some (sets k)) v h = absurd (cc)
  saved_param i None v h = absurd (cc)

  pub saved_named : (i : ℕ) (point : Point) (v : Value) → value_fits t program (saved_kind t program i (manner t i point)) v ≡ true → is_name (parameter_name t program i point) ≡ true
  saved_named i point v h =
      let s = saved_param i (manner t i point) v h in
      let m = implied t i point (saves s.0) (of_save s.0) s.2 in
      let p : m.command.part ≡ part.SaveParam s.0 = saves_part m.command.way m.command.part s.0 m.treated in
      let found : slice_get (component t i).commands m.number ≡ Some m.command = command_in t i m.number ∙ m.found in
      let number : option_and_then (λ (c : Command). parameter_of t program c.part) (slice_get (component t i).commands m.number) ≡ Some s.0 =
      ap (option_and_then (λ (c : Command). parameter_of t program c.part)) found ∙ ap (parameter_of t program) p in
      let named : parameter_name t program i (OfCommand m.number) ≡ s.1.name =
      ap (λ (o : Option ℕ). unwrap_or (option_map (λ (p : Param). p.name) (option_and_then (slice_get (component t i).params) o)) []) number
      ∙ ap (λ (o : Option Param). unwrap_or (option_map (λ (p : Param). p.name) o) []) s.3 in
      ap (λ (q : Point). is_name (parameter_name t program i q)) m.is ∙ ap is_name named ∙ param_named i s.0 s.1 s.3
