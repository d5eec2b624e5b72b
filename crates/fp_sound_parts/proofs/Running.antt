-- Instances of state machines are of machines that have a body, and differ in their names.
use Rattle.std.proofs.Common.{◌≡◌, inl, inr, ℕ, zero, suc, ◌<◌, Bool, true, not, List, [], ◌∷◌, length, map, flat_map, slice_get, Option, Some, None, refl, sym, ap, ◌∙◌, arith}
use Rattle.std.specs.Prelude.{is_none, option_map}
use Rattle.std.specs.List.{AllByRecursion, list_all, list_any}
use Rattle.std.specs.Str.{bytes_eq}
use Rattle.std.proofs.lemmas.Option.{slice_get-map}
use Rattle.std.proofs.lemmas.Bool.{false_from_ne_true}
use Rattle.fp_topology_forms.proofs.Places.{second_read, as_long}
use Rattle.fp_base.proofs.Bools.{join, not_either}
use Rattle.fp_base.proofs.Lists.{each_of_any}
use Rattle.fp_base.proofs.Passing.{all_items}
use Rattle.fp_base.proofs.Bytes.{same_bytes}
use Rattle.fp_base.proofs.Spots.{item_below}
use Rattle.fp_base.specs.Least.{IsUnbroken, broken_at}
use Rattle.fp_base.specs.declared.rule.Rule.TheVariants.{ExternalMachine, MachineNameRepeated}
use Rattle.fp_tree.specs.declared.source.Source.{Source}
use Rattle.fp_tree.specs.declared.component.Interface.{Interface}
use Rattle.fp_tree.specs.declared.component.InterfacePart.{InterfacePart}
use Rattle.fp_tree.specs.declared.component.InterfacePart.TheVariants as interface_part
use Rattle.fp_tree.specs.declared.component.Part.{Part}
use Rattle.fp_tree.specs.declared.component.Part.TheVariants as part
use Rattle.fp_tree.specs.declared.machine.Behavior.{Behavior}
use Rattle.fp_tables.specs.Names.{texts_differ}
use Rattle.fp_tables.specs.declared.kind.Kind.{Kind}
use Rattle.fp_tables.specs.declared.machine.Machine.{Machine}
use Rattle.fp_written_parts.specs.declared.member.WrittenMember.{WrittenMember}
use Rattle.fp_written_parts.specs.declared.member.WrittenMember.TheVariants as member
use Rattle.fp_written_parts.specs.declared.member.WrittenRunning.{WrittenRunning}
use Rattle.fp_dictdefs.specs.Running.{InstanceBroken}
use Rattle.fp_machines.specs.Made.{machine_of}
use Rattle.fp_components.specs.Resolved.{running_in}
use Rattle.fp_component_forms.specs.declared.writing.WrittenSource.{WrittenSource}
use Rattle.fp_component_forms.specs.Written.{IsWrittenSource, Scoped, interfaces, part_of}
use Rattle.fp_source_parts.specs.Machines.{InstancesBroken, externals, is_outside, machines}
use Rattle.fp_source_parts.specs.MachineBuilt.{AreMachinesOf, IsMachine}
use Rattle.fp_sound_parts.specs.Ready.{OfEachMember, RunsFitting, instances_differ}
use Rattle.fp_sound_parts.proofs.Each.{ByForm, any_component, any_interface, in_interface, of_each_member}
use Rattle.fp_sound_parts.proofs.Machines.{machine_lies}

-- ---- the machine of an instance

-- the model has it, and the source says whether it has a body
abbrev RunsKnown : Source → List Machine → WrittenMember → Type 0
RunsKnown source ms (member.Running r) = (m : Machine) × (slice_get ms r.machine ≡ Some m) × (slice_get (externals source) r.machine ≡ Some m.external)
RunsKnown source ms _ = Unit {0}

outside_of : (name : List ℕ) (b : Option Behavior) (kinds : List (Option Kind)) → (machine_of name b kinds).external ≡ is_none b
outside_of name None kinds = refl
outside_of name (Some b) kinds = refl

module _ (source : Source) (ms : List Machine) (built : AreMachinesOf source ms) where
  known_at : (k : ℕ) → k < length (machines source) → (m : Machine) × (slice_get ms k ≡ Some m) × (slice_get (externals source) k ≡ Some m.external)
  known_at k low =
      let long = as_long (IsMachine source) 0 (machines source) ms built in
      let t = item_below ms k (omega (arith, low, long)) in
      let of = second_read (IsMachine source) 0 (machines source) ms k t.0 built t.1 in (
        t.0,
        t.1,
        slice_get-map is_outside (machines source) k ∙ ap (option_map is_outside) of.here
            ∙ ap Some (sym (ap (λ (m : Machine). m.external) of.related.made ∙ outside_of _ of.one.node.behavior of.related.kinds)),
      )

  runs_known : ByForm source (λ (p : Part). Unit {0}) (RunsKnown source ms)
  runs_known = record {
    general = λ scope p w h is. tt;
    special = λ scope p w h is. tt;
    internal = λ scope p w h is. tt;
    imported = λ scope p w h is. tt;
    command = λ scope p w h is. tt;
    event = λ scope p w h is. tt;
    channel = λ scope p w h is. tt;
    param = λ scope p w h is. tt;
    matched = λ scope p w h is. tt;
    running = λ scope p w h is. known_at w.machine (machine_lies source scope p.of w.machine is.machine);
  }

-- no part of an interface is an instance
abbrev RunsNone : Part → Type 0
RunsNone (part.Running r) = ⊥
RunsNone _ = Unit {0}

inner_none : (p : InterfacePart) → RunsNone (part_of p)
inner_none (interface_part.General p) = tt
inner_none (interface_part.Special p) = tt
inner_none (interface_part.Import i) = tt

none_runs : (source : Source) (ms : List Machine) → ByForm source RunsNone (RunsFitting ms)
none_runs source ms = record {
  general = λ scope p w h is. tt;
  special = λ scope p w h is. tt;
  internal = λ scope p w h is. tt;
  imported = λ scope p w h is. tt;
  command = λ scope p w h is. tt;
  event = λ scope p w h is. tt;
  channel = λ scope p w h is. tt;
  param = λ scope p w h is. tt;
  matched = λ scope p w h is. tt;
  running = λ scope p w h is. absurd h;
}

fit : (source : Source) (ms : List Machine) (all : List WrittenMember) (k : ℕ) (m : WrittenMember) → RunsKnown source ms m → IsUnbroken (InstanceBroken (externals source) all k m) → RunsFitting ms m
fit source ms all k (member.Running r) h u =
    (h.0, h.1, false_from_ne_true h.0.external (λ e. u (broken_at ExternalMachine r.at) (inr (refl, h.2 ∙ ap Some e))))
fit source ms all k (member.Port p) h u = tt
fit source ms all k (member.Import i) h u = tt
fit source ms all k (member.Command c) h u = tt
fit source ms all k (member.Event e) h u = tt
fit source ms all k (member.Channel t) h u = tt
fit source ms all k (member.Param p) h u = tt
fit source ms all k (member.Match d) h u = tt

-- ---- names of instances

-- no two instances have one name
abbrev NamesApart : List WrittenMember → Type 0
NamesApart ms =
    (j k : ℕ) (r s : WrittenRunning) → j < k → slice_get ms j ≡ Some (member.Running r) → slice_get ms k ≡ Some (member.Running s) → bytes_eq r.name s.name ≡ true → ⊥

abbrev names_in : List WrittenMember → List (List ℕ)
names_in ms = map (λ (r : WrittenRunning). r.name) (flat_map running_in ms)

none_named : (test : List ℕ → Bool) (ms : List WrittenMember) → ((k : ℕ) (s : WrittenRunning) → slice_get ms k ≡ Some (member.Running s) → test s.name ≡ true → ⊥)
    → not (list_any test (names_in ms)) ≡ true
none_named test [] h = refl
none_named test (member.Running r ∷ ms) h =
    not_either (test r.name) (list_any test (names_in ms)) (h zero r refl) (none_named test ms (λ k s e. h (suc k) s e))
none_named test (member.Port p ∷ ms) h = none_named test ms (λ k s e. h (suc k) s e)
none_named test (member.Import i ∷ ms) h = none_named test ms (λ k s e. h (suc k) s e)
none_named test (member.Command c ∷ ms) h = none_named test ms (λ k s e. h (suc k) s e)
none_named test (member.Event e ∷ ms) h = none_named test ms (λ k s f. h (suc k) s f)
none_named test (member.Channel t ∷ ms) h = none_named test ms (λ k s e. h (suc k) s e)
none_named test (member.Param p ∷ ms) h = none_named test ms (λ k s e. h (suc k) s e)
none_named test (member.Match d ∷ ms) h = none_named test ms (λ k s e. h (suc k) s e)

apart_behind : (m : WrittenMember) (ms : List WrittenMember) → NamesApart (m ∷ ms) → NamesApart ms
apart_behind m ms h j k r s low a b same = h (suc j) (suc k) r s (omega (arith, low)) a b same

names_apart : (ms : List WrittenMember) → NamesApart ms → texts_differ (names_in ms) ≡ true
names_apart [] h = refl
names_apart (member.Running r ∷ ms) h =
    join (not (list_any (bytes_eq r.name) (names_in ms))) (texts_differ (names_in ms))
    (none_named (bytes_eq r.name) ms (λ k s e same. h zero (suc k) r s (omega arith) refl e same)) (names_apart ms (apart_behind (member.Running r) ms h))
names_apart (member.Port p ∷ ms) h = names_apart ms (apart_behind (member.Port p) ms h)
names_apart (member.Import i ∷ ms) h = names_apart ms (apart_behind (member.Import i) ms h)
names_apart (member.Command c ∷ ms) h = names_apart ms (apart_behind (member.Command c) ms h)
names_apart (member.Event e ∷ ms) h = names_apart ms (apart_behind (member.Event e) ms h)
names_apart (member.Channel t ∷ ms) h = names_apart ms (apart_behind (member.Channel t) ms h)
names_apart (member.Param p ∷ ms) h = names_apart ms (apart_behind (member.Param p) ms h)
names_apart (member.Match d ∷ ms) h = names_apart ms (apart_behind (member.Match d) ms h)

-- ---- of a source

module _ (source : Source) (w : WrittenSource) (are : IsWrittenSource source w) where
  pub running_fit : (ms : List Machine) → AreMachinesOf source ms → IsUnbroken (InstancesBroken source) → OfEachMember w.interfaces w.components (RunsFitting ms)
  running_fit ms built u =
      let known = of_each_member source w are (λ (p : Part). Unit {0}) (RunsKnown source ms) (runs_known source ms built) (any_component source) (any_interface source) in
      record {
        of_interfaces =
            in_interface source w are RunsNone (RunsFitting ms) (none_runs source ms)
            (each_of_any (λ (s : Scoped Interface). AllByRecursion (λ (p : InterfacePart). RunsNone (part_of p)) s.node.parts) (λ s. each_of_any (λ (p : InterfacePart). RunsNone (part_of p)) inner_none s.node.parts) (interfaces source));
        of_components = λ v k c m here at.
            fit source ms c.members k m (known.of_components v k c m here at)
            (λ f broken. u f (record { written = w; are = are; broken = (v, c, here, (k, m, at, broken)) }));
      }

  pub running_differ : IsUnbroken (InstancesBroken source) → list_all instances_differ w.components ≡ true
  running_differ u =
      all_items instances_differ w.components
      (λ v c here.
      names_apart c.members
      (λ j k r s low a b same.
      u (broken_at MachineNameRepeated s.at)
      (record { written = w; are = are; broken = (v, c, here, (k, member.Running s, b, inl (refl, (s.name, j, low, (r, a, same_bytes r.name s.name same), (s, b, refl))))) })))
