-- Actions from what they name and their arguments.
use Rattle.std.proofs.Common.{◌≡◌, ℕ, Bool, true, ◌&&◌, List, [], ◌∷◌, map, Option, Some, None, refl, sym, ap, ◌∙◌, subst}
use Rattle.std.proofs.lemmas.Bool.{and_right}
use Rattle.std.specs.Prelude.{Result, Ok, Err, IfOk, IfErr, slice_get, option_and_then, option_to_list, is_some}
use Rattle.std.specs.List.{list_all}
use Rattle.serde_json.specs.View.{view}
use Rattle.fp_scenario_actions.specs.Arguments.{AreArguments}
use Rattle.fp_base.specs.declared.rule.Rule.{Rule}
use Rattle.fp_base.specs.declared.rule.Rule.TheVariants.{UnknownName, BadArgument}
use Rattle.fp_tables.specs.Lookup.{Described}
use Rattle.fp_tables.specs.Positions.{component_of, lists_are_short, is_short, machine_is_short, component_is_short}
use Rattle.fp_tables.specs.declared.topology.Instance.{Instance}
use Rattle.fp_tables.specs.Arguments.{Scope, kinds_of}
use Rattle.fp_tables.specs.Programs.{is_general_output, is_internal}
use Rattle.fp_base.proofs.Bools.{both}
use Rattle.fp_base.proofs.Lists.{all_get}
use Rattle.fp_tables.specs.declared.kind.Kind.{Kind}
use Rattle.fp_tables.specs.declared.kind.TypeDef.{TypeDef}
use Rattle.fp_tables.specs.declared.component.Port.{Port}
use Rattle.fp_tables.specs.declared.component.Command.{Command}
use Rattle.fp_tables.specs.declared.component.Event.{Event}
use Rattle.fp_tables.specs.declared.component.Channel.{Channel}
use Rattle.fp_tables.specs.declared.component.Running.{Running}
use Rattle.fp_tables.specs.declared.component.Component.{Component}
use Rattle.fp_tables.specs.declared.machine.Named.{Named}
use Rattle.fp_tables.specs.declared.machine.Machine.{Machine}
use Rattle.fp_tables.specs.declared.topology.End.{End}
use Rattle.fp_tables.specs.declared.topology.Topology.{Topology}
use Rattle.fp_tables.specs.declared.model.Model.{Model}
use Rattle.fp_tables.specs.declared.program.Verb.{Verb}
use Rattle.fp_tables.specs.declared.program.Act.{Act}
use Rattle.fp_tables.specs.declared.program.Spot.{Spot}
use Rattle.fp_scenario.specs.declared.scenario.ActText.{ActText}
use Rattle.fp_scenario.specs.declared.first_key.FirstKey.{FirstKey}
use Rattle.fp_scenario.specs.declared.first_key.FirstKey.TheVariants as key
use Rattle.fp_scenario_actions.specs.Named.{port_where, command_named, event_named, channel_named, running_named, name_of}
use Rattle.fp_scenario_actions.specs.Halts.{IsHalt}
use Rattle.fp_scenario_actions.specs.declared.halt.Halt.{Halt}
use Rattle.fp_scenario_actions.specs.declared.halt.Halt.TheVariants as halt
use Rattle.fp_scenario_actions.specs.Acting.{verb_of, binding, names_are_bound, ArgumentsBreak, PlansWith, subject_of, name_in, kinds_in, is_known, is_wired, is_allowed, returns_well, dispatches_well, machine_in, command_at, takes_at, SendBreaks, Breaks, Plans}

module _ (t : Described) (i : ℕ) (c : Component) (place : Spot) (k : FirstKey) (scope : Scope) (last : Bool) (a : ActText) where
  lifted : (kinds : List Kind) (rule : Rule) → kinds_in t i c place k a ≡ Some kinds → ArgumentsBreak t.model.types scope kinds a rule → Breaks t i c place rule k scope last a
  lifted kinds UnknownName is h = and_right (is_known t i c place k a) (names_are_bound scope a) h
  lifted kinds BadArgument is h = (kinds, is, h)
  lifted kinds _ is h = absurd h

  pub halted : (types : List TypeDef) (kinds ks : List Kind) (r : Result Act Halt) → types ≡ t.model.types → ks ≡ kinds → kinds_in t i c place k a ≡ Some kinds
      → IfErr r (IsHalt (ArgumentsBreak types scope ks a)) → IfErr r (IsHalt (λ rule. Breaks t i c place rule k scope last a))
  halted types kinds ks (Ok act) e d is h = h
  halted types kinds ks (Err halt.NoMemory) e d is h = tt
  halted types kinds ks (Err (halt.Broken rule)) e d is h = lifted kinds rule is (subst (λ xs. ArgumentsBreak t.model.types scope xs a rule) d (subst (λ ts. ArgumentsBreak ts scope ks a rule) e h))

  pub planned : (types : List TypeDef) (kinds ks : List Kind) (v : Verb) (e : End) (n : ℕ) (b : Option (List ℕ)) (r : Result Act Halt) → types ≡ t.model.types → ks ≡ kinds → kinds_in t i c place k a ≡ Some kinds
      → v ≡ verb_of k → subject_of t i c place k a ≡ Some e → name_in t i c place k a ≡ Some n → b ≡ binding k a
      → is_known t i c place k a ≡ true → is_wired t i c place k a ≡ true → is_allowed t i c place k a ≡ true → returns_well t i c place k last ≡ true → dispatches_well t i c place k ≡ true
      → IfOk r (PlansWith types scope ks v e n b a) → IfOk r (Plans t i c place k scope last a)
  planned types kinds ks v e n b (Err x) types_are kinds_are is v_is e_is n_is b_is known wired allowed returned dispatched h = h
  planned types kinds ks v e n b (Ok act) types_are kinds_are is v_is e_is n_is b_is known wired allowed returned dispatched h = record {
    verb = h.verb ∙ v_is;
    subject = e_is ∙ ap Some (sym h.subject);
    name = n_is ∙ ap Some (sym h.name);
    arguments = (kinds, is, subst (λ xs. AreArguments t.model.types scope xs (map view a.with) act.with) kinds_are (subst (λ ts. AreArguments ts scope ks (map view a.with) act.with) types_are h.arguments));
    bind = h.bind ∙ b_is;
    known = known;
    wired = wired;
    allowed = allowed;
    returned = returned;
    dispatched = dispatched;
  }

-- ---- the types of arguments, verb by verb

module _ (t : Described) (i : ℕ) (c : Component) (place : Spot) (a : ActText) where
  pub call_kinds : (n : ℕ) (x : Port) → port_where (λ (y : Port). is_general_output y.role) c.ports a.first ≡ Some n → slice_get c.ports n ≡ Some x → kinds_in t i c place key.Call a ≡ Some (kinds_of x.formals)
  call_kinds n x is found = rw (is, found) refl

  pub post_kinds : (n : ℕ) (x : Port) → port_where (λ (y : Port). is_internal y.role) c.ports a.first ≡ Some n → slice_get c.ports n ≡ Some x → kinds_in t i c place key.Post a ≡ Some (kinds_of x.formals)
  post_kinds n x is found = rw (is, found) refl

  pub emit_kinds : (n : ℕ) (x : Event) → event_named c.events a.first ≡ Some n → slice_get c.events n ≡ Some x → kinds_in t i c place key.Emit a ≡ Some (kinds_of x.formals)
  emit_kinds n x is found = rw (is, found) refl

  pub write_kinds : (n : ℕ) (x : Channel) → channel_named c.channels a.first ≡ Some n → slice_get c.channels n ≡ Some x → kinds_in t i c place key.Write a ≡ Some (x.kind ∷ [])
  write_kinds n x is found = rw (is, found) refl

  pub signal_kinds : (r n : ℕ) (m : Machine) (x : Named) → running_named c.machines a.first ≡ Some r → machine_in t c r ≡ Some m → name_of m.signals a.name ≡ Some n → slice_get m.signals n ≡ Some x
      → kinds_in t i c place key.Signal a ≡ Some (option_to_list x.kind)
  signal_kinds r n m x is runs named found = rw (is, runs, named, found) refl

  pub signal_name : (r n : ℕ) (m : Machine) → running_named c.machines a.first ≡ Some r → machine_in t c r ≡ Some m → name_of m.signals a.name ≡ Some n → name_in t i c place key.Signal a ≡ Some n
  signal_name r n m is runs named = rw (is, runs, named) refl

-- ---- lists that are short

signals_of_short : (x : Machine) → machine_is_short x ≡ true → is_short x.signals ≡ true
signals_of_short x h =
    let a = both (is_short x.signals && is_short x.actions && is_short x.guards) (is_short x.vertices) h in
    let b = both (is_short x.signals && is_short x.actions) (is_short x.guards) a.0 in
    (both (is_short x.signals) (is_short x.actions) b.0).0

pub actions_of_short : (x : Machine) → machine_is_short x ≡ true → is_short x.actions ≡ true
actions_of_short x h =
    let a = both (is_short x.signals && is_short x.actions && is_short x.guards) (is_short x.vertices) h in
    let b = both (is_short x.signals && is_short x.actions) (is_short x.guards) a.0 in
    (both (is_short x.signals) (is_short x.actions) b.0).1

pub machine_at_short : (m : Model) (n : ℕ) (x : Machine) → lists_are_short m ≡ true → slice_get m.machines n ≡ Some x → machine_is_short x ≡ true
machine_at_short m n x h e =
    let a = both _ (list_all (λ (o : Topology). is_short o.instances) m.topologies) h in
    all_get machine_is_short m.machines n x (both _ (list_all machine_is_short m.machines) a.0).1 e

in_machine : (m : Model) (o : Option Running) (x : Machine) → lists_are_short m ≡ true → option_and_then (λ (r : Running). slice_get m.machines r.machine) o ≡ Some x → machine_is_short x ≡ true
in_machine m (Some r) x h e = machine_at_short m r.machine x h e
in_machine m None x h e = absurd (cc)

pub signals_short : (t : Described) (c : Component) (r : ℕ) (x : Machine) → lists_are_short t.model ≡ true → machine_in t c r ≡ Some x → is_short x.signals ≡ true
signals_short t c r x h e = signals_of_short x (in_machine t.model (slice_get c.machines r) x h e)

pub actions_short : (t : Described) (c : Component) (r : ℕ) (x : Machine) → lists_are_short t.model ≡ true → machine_in t c r ≡ Some x → is_short x.actions ≡ true
actions_short t c r x h e = actions_of_short x (in_machine t.model (slice_get c.machines r) x h e)

in_components : (m : Model) (o : Option Instance) (c : Component) → lists_are_short m ≡ true → option_and_then (λ (x : Instance). slice_get m.components x.component) o ≡ Some c → component_is_short c ≡ true
in_components m (Some x) c h e =
    let a = both _ (list_all (λ (o : Topology). is_short o.instances) m.topologies) h in
    let b = both _ (list_all machine_is_short m.machines) a.0 in
    all_get component_is_short m.components x.component c (both _ (list_all component_is_short m.components) b.0).1 e
in_components m None c h e = absurd (cc)

pub component_short : (m : Model) (i : ℕ) (c : Component) → lists_are_short m ≡ true → component_of m i ≡ Some c → component_is_short c ≡ true
component_short m i c h e = in_components m (slice_get m.instances i) c h e

-- ---- commands that are sent

module _ (t : Described) (scope : Scope) (e : End) (a : ActText) where
  sent_lifted : (n : ℕ) (kinds : List Kind) (rule : Rule) → command_at t a.name e ≡ Some n → takes_at t e n ≡ Some kinds → ArgumentsBreak t.model.types scope kinds a rule → SendBreaks t scope e a rule
  sent_lifted n kinds UnknownName is takes h = and_right (is_some (command_at t a.name e)) (names_are_bound scope a) h
  sent_lifted n kinds BadArgument is takes h = (kinds, ap (option_and_then (takes_at t e)) is ∙ takes, h)
  sent_lifted n kinds _ is takes h = absurd h

  pub sent_halted : (types : List TypeDef) (n : ℕ) (kinds ks : List Kind) (r : Result Act Halt) → types ≡ t.model.types → ks ≡ kinds → command_at t a.name e ≡ Some n → takes_at t e n ≡ Some kinds
      → IfErr r (IsHalt (ArgumentsBreak types scope ks a)) → IfErr r (IsHalt (SendBreaks t scope e a))
  sent_halted types n kinds ks (Ok act) p d is takes h = h
  sent_halted types n kinds ks (Err halt.NoMemory) p d is takes h = tt
  sent_halted types n kinds ks (Err (halt.Broken rule)) p d is takes h = sent_lifted n kinds rule is takes (subst (λ xs. ArgumentsBreak t.model.types scope xs a rule) d (subst (λ ts. ArgumentsBreak ts scope ks a rule) p h))

pub command_found : (t : Described) (e : End) (name : List ℕ) (d : Component) (n : ℕ) → component_of t.model e.instance ≡ Some d → command_named d.commands name ≡ Some n → command_at t name e ≡ Some n
command_found t e name d n there named = rw there named

pub command_takes : (t : Described) (e : End) (d : Component) (n : ℕ) (x : Command) → component_of t.model e.instance ≡ Some d → slice_get d.commands n ≡ Some x → takes_at t e n ≡ Some (kinds_of x.formals)
command_takes t e d n x there found = rw (there, found) refl
