-- What the state machines of a source break, and the instances of them in its components, is broken at places of the source.
use Rattle.std.proofs.Common.{ℕ, Bool, List, Option, Some, None, inl, inr}
use Rattle.std.specs.List.{AllByRecursion as Each}
use Rattle.fp_base.specs.declared.place.Place.{Place}
use Rattle.fp_base.specs.declared.refusal.Refusal.{Refusal}
use Rattle.fp_base.specs.Least.{InSome}
use Rattle.fp_base.proofs.Lists.{of_item}
use Rattle.fp_tree.specs.declared.source.Source.{Source}
use Rattle.fp_tree.specs.declared.machine.Behavior.{Behavior}
use Rattle.fp_tables.specs.declared.kind.TypeDef.{TypeDef}
use Rattle.fp_meaning.specs.declared.item.Item.{Item}
use Rattle.fp_meaning.specs.declared.item.Item.TheVariants as item
use Rattle.fp_meaning.specs.Layout.{items}
use Rattle.fp_meaning.specs.Names.{Path, model_name}
use Rattle.fp_meaning.specs.Sites.{ModelDef, component, in_optional, instance, interface, machine, topology}
use Rattle.fp_written_parts.specs.declared.member.WrittenComponent.{WrittenComponent}
use Rattle.fp_written_parts.specs.declared.member.WrittenMember.{WrittenMember}
use Rattle.fp_written_parts.specs.declared.member.WrittenMember.TheVariants as member
use Rattle.fp_dictdefs.specs.Running.{InstanceBroken, RunningBroken}
use Rattle.fp_source_parts.specs.MachineBroken.{BrokenBehavior, BrokenItem, BrokenModel, MachinesBroken}
use Rattle.fp_places.specs.Places.{places_in_behavior, places_in_element, places_of_model}
use Rattle.fp_places.proofs.Definitions.{StandOf}
use Rattle.fp_source_laws.proofs.Machines.{machine_placed}
use Rattle.fp_source_laws.proofs.Parted.{same_place, split}
use Rattle.fp_source_laws.proofs.Written.{MemberStands}
use Rattle.fp_source_laws.proofs.WrittenSource.{ComponentStands}

module _ (G : Place → Type 0) where
  -- ---- machines

  module _ (types : List TypeDef) (source : Source) where
    behavior_placed : (scope : Path) (place : Place) (o : Option Behavior) (f : Refusal) → G place → Each G (in_optional places_in_behavior o) → BrokenBehavior types source scope place o f → G f.place
    behavior_placed scope place None f here h b = absurd b
    behavior_placed scope place (Some d) f here h b = machine_placed G place d.elements _ f here (split G places_in_element d.elements h) b.broken

    model_placed : (scope : Path) (d : ModelDef) (f : Refusal) → G (model_name d).at.first → Each G (places_of_model d) → BrokenModel types source scope d f → G f.place
    model_placed scope (machine m) f here h b = behavior_placed scope m.name.at.first m.behavior f here h.1 b
    model_placed scope (component d) f here h b = absurd b
    model_placed scope (interface d) f here h b = absurd b
    model_placed scope (instance d) f here h b = absurd b
    model_placed scope (topology d) f here h b = absurd b

    item_placed : (i : Item) (f : Refusal) → StandOf G i → BrokenItem types source i f → G f.place
    item_placed (item.Declared d) f h b = model_placed d.scope d.definition f h.0 h.1 b
    item_placed i f h b = absurd b

  pub machines_placed : (source : Source) → Each (StandOf G) (items source) → (f : Refusal) → MachinesBroken source f → G f.place
  machines_placed source all f b = found b.broken
    where
      found : InSome (λ (k : ℕ). BrokenItem b.types source) (items source) f → G f.place
      found (k, i, at, broken) = item_placed b.types source i f (of_item (StandOf G) (items source) k i all at) broken

  -- ---- instances of them

  module _ (externals : List Bool) where
    instance_placed : (ms : List WrittenMember) (k : ℕ) (m : WrittenMember) (f : Refusal) → MemberStands G m → InstanceBroken externals ms k m f → G f.place
    instance_placed ms k (member.Running r) f h (inl b) = same_place G f _ b.0 h.here
    instance_placed ms k (member.Running r) f h (inr b) = same_place G f _ b.0 h.here
    instance_placed ms k m f h b = absurd b

    running_placed : (c : WrittenComponent) (f : Refusal) → ComponentStands G c → RunningBroken externals c f → G f.place
    running_placed c f h (k, m, at, b) = instance_placed c.members k m f (of_item (MemberStands G) c.members k m h.of_members at) b

    pub instances_placed : (cs : List WrittenComponent) (f : Refusal) → Each (ComponentStands G) cs → InSome (λ (k : ℕ). RunningBroken externals) cs f → G f.place
    instances_placed cs f h (k, c, at, b) = running_placed c f (of_item (ComponentStands G) cs k c h at) b
