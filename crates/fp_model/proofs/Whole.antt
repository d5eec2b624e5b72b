-- The model that a source defines is sound.
use Rattle.std.proofs.Common.{◌≡◌, ℕ, suc, true, List, [], ◌∷◌, length, map, flat_map, Some, refl, ap, ◌∙◌}
use Rattle.std.specs.Prelude.{nat_lt}
use Rattle.std.specs.List.{list_all}
use Rattle.fp_base.proofs.Bools.{join}
use Rattle.fp_base.specs.declared.value.Value.{Value}
use Rattle.fp_tree.specs.declared.source.Source.{Source}
use Rattle.fp_tables.specs.Chains.{chains_are_short}
use Rattle.fp_tables.specs.Names.{is_qualified, texts_differ}
use Rattle.fp_tables.specs.Positions.{form_lies, item_lies, lists_are_short, positions_lie, topology_lies}
use Rattle.fp_tables.specs.Sound.{HasSoundInstances, IsSound, form_has_names}
use Rattle.fp_tables.specs.Types.{is_of_size}
use Rattle.fp_tables.specs.declared.kind.Constant.{Constant}
use Rattle.fp_tables.specs.declared.kind.TypeDef.{TypeDef}
use Rattle.fp_tables.specs.declared.model.Model.{Model}
use Rattle.fp_tables.specs.declared.topology.Instance.{Instance}
use Rattle.fp_tables.specs.declared.topology.Topology.{Topology}
use Rattle.fp_meaning.specs.Layout.{items}
use Rattle.fp_meaning.specs.Names.{Path}
use Rattle.fp_meaning.specs.Values.{Opened, Val}
use Rattle.fp_type_forms.specs.Written.{AllAt, types}
use Rattle.fp_types.specs.WellWritten.{AreSoundTypes}
use Rattle.fp_source_parts.specs.Machines.{machine_declared, machines}
use Rattle.fp_source_parts.specs.MachineBuilt.{IsMachine}
use Rattle.fp_sound_parts.specs.ComponentSound.{AreSound}
use Rattle.fp_sound_parts.specs.Machines.{AreSoundMachines}
use Rattle.fp_source_types.specs.Named.{DefinitionsAreNamed}
use Rattle.fp_model.specs.Defined.{IsConstant}
use Rattle.fp_model.specs.Definitions.{ConstantHere, constants_of}
use Rattle.fp_model.specs.Joined.{Joined}
use Rattle.fp_model.proofs.Deploying.{IsOne, instances_long, topologies_long}
use Rattle.fp_model.proofs.Lengths.{as_long, components_long, ports_long}
use Rattle.fp_model.proofs.Numbering.{order_lies}
use Rattle.fp_model.proofs.Qualified.{each_constant_qualified}
use Rattle.fp_model.proofs.Sounds.{AreSoundLists, positions_hold, sound_with}

sized : (source : Source) → ((scope : Path) (s : Opened) (v : Value) → Val source scope s v → is_of_size v ≡ true) → (k : ℕ) (hs : List ConstantHere) (cs : List Constant)
    → AllAt (λ position. IsConstant source) k hs cs → list_all (λ (c : Constant). is_of_size c.value) cs ≡ true
sized source size k [] [] are = refl
sized source size k [] (c ∷ cs) are = absurd are
sized source size k (h ∷ hs) [] are = absurd are
sized source size k (h ∷ hs) (c ∷ cs) are =
    join (is_of_size c.value) (list_all (λ (x : Constant). is_of_size x.value) cs) (size _ _ c.value are.0.value) (sized source size (suc k) hs cs are.1)

-- what the laws on types say of the types of a model
pub record AreKnown (source : Source) (ts : List TypeDef) : Type 0 where
  pub lie : list_all (λ (d : TypeDef). form_lies (length ts) d.form) ts ≡ true
  pub long : length (types source) ≡ length ts
  pub own : list_all (λ (d : TypeDef). form_has_names d.form) ts ≡ true
  pub named : list_all (λ (d : TypeDef). is_qualified d.name) ts ≡ true
  pub differ : texts_differ (map (λ (d : TypeDef). d.name) ts) ≡ true
  pub sound : AreSoundTypes ts
  pub chains : chains_are_short ts ≡ true

module _ (source : Source) (m : Model) (d : Joined source m) (one : IsOne source m) (known : AreKnown source m.types) (parts : AreSound m.types m.machines m.ports m.components)
    (moving : AreSoundMachines m.types m.machines) (placed : list_all (λ (i : Instance). nat_lt i.component (length m.components)) m.instances ≡ true)
    (joined : list_all (topology_lies m) m.topologies ≡ true) where
  constants_long : length (flat_map constants_of (items source)) ≡ length m.constants
  constants_long = as_long (IsConstant source) 0 (flat_map constants_of (items source)) m.constants d.constants

  machines_long : length (flat_map machine_declared (items source)) ≡ length m.machines
  machines_long = as_long (IsMachine source) 0 (machines source) m.machines d.machines

  order_there : list_all (item_lies m) m.order ≡ true
  order_there =
      ap (list_all (item_lies m)) d.order
      ∙ order_lies m (items source) constants_long known.long (ports_long source m d.parts) (components_long source m d.parts) machines_long (instances_long source m one) (topologies_long source m one)

  pub whole_lies : positions_lie m ≡ true
  whole_lies = positions_hold m known.lie parts.lists moving placed joined order_there

  module _ (named : DefinitionsAreNamed source) (short : lists_are_short m ≡ true) (size : (scope : Path) (s : Opened) (v : Value) → Val source scope s v → is_of_size v ≡ true)
      (instances_named : list_all (λ (i : Instance). is_qualified i.name) m.instances ≡ true) (topologies_named : list_all (λ (t : Topology). is_qualified t.name) m.topologies ≡ true)
      (instances_differ : texts_differ (map (λ (i : Instance). i.name) m.instances) ≡ true) (sound : HasSoundInstances m) where
    pub whole_sound : IsSound m
    whole_sound = sound_with m (record {
      lie = whole_lies;
      short = short;
      own = known.own;
      constants_named = each_constant_qualified source named m.constants d.constants;
      types_named = known.named;
      instances_named = instances_named;
      topologies_named = topologies_named;
      instances_differ = instances_differ;
      types_differ = known.differ;
      types = known.sound;
      chains = known.chains;
      sized = sized source size 0 (flat_map constants_of (items source)) m.constants d.constants;
      parts = parts;
      instances = sound;
      machines = moving;
    })
