-- The state machines of a source: what a name means lies among them, and what they come to is sound where they break no rule.
use Rattle.std.proofs.Common.{◌≡◌, ℕ, ◌<◌, true, List, [], ◌∷◌, length, map, slice_get, Option, Some, None, refl, sym, ap, subst}
use Rattle.std.specs.Prelude.{option_and_then}
use Rattle.std.specs.List.{AllByRecursion}
use Rattle.fp_topology_forms.proofs.Places.{second_read, as_long, position_lies}
use Rattle.fp_base.proofs.Lists.{each_flat, each_weaker, of_item, each_item}
use Rattle.fp_base.specs.Least.{IsUnbroken}
use Rattle.fp_base.specs.declared.place.Place.{Place}
use Rattle.fp_tree.specs.declared.source.Source.{Source}
use Rattle.fp_tree.specs.declared.definition.Def.{Def}
use Rattle.fp_tree.specs.declared.definition.Def.TheVariants as def
use Rattle.fp_tree.specs.declared.machine.Behavior.{Behavior}
use Rattle.fp_tree.specs.declared.machine.BehaviorElement.{BehaviorElement}
use Rattle.fp_tree.specs.declared.machine.ElementForm.{ElementForm}
use Rattle.fp_tree.specs.declared.machine.ElementForm.TheVariants as element
use Rattle.fp_tree.specs.declared.machine.Machine.{Machine as Written}
use Rattle.fp_tree.specs.declared.name.Qual.{Qual}
use Rattle.fp_tree.specs.declared.type_name.TypeName.{TypeName}
use Rattle.fp_meaning.specs.declared.group.Group.TheVariants as group
use Rattle.fp_meaning.specs.declared.item.Item.{Item}
use Rattle.fp_meaning.specs.declared.item.Item.TheVariants as item
use Rattle.fp_meaning.specs.Layout.{items}
use Rattle.fp_meaning.specs.Names.{Path, defined, definitions_of, group_of, model_group, model_name, name_of}
use Rattle.fp_meaning.specs.Sites.{ModelDef, component, interface, instance, machine, topology}
use Rattle.fp_names.specs.Named.{PartsAreNamed, HasNamedParts, elements_are_named, elements_in}
use Rattle.fp_tables.specs.Names.{is_qualified}
use Rattle.fp_tables.specs.Positions.{kind_lies}
use Rattle.fp_tables.specs.declared.kind.Kind.{Kind}
use Rattle.fp_tables.specs.declared.kind.TypeDef.{TypeDef}
use Rattle.fp_tables.specs.declared.machine.Machine.{Machine}
use Rattle.fp_type_forms.specs.Written.{types}
use Rattle.fp_source_types.specs.Named.{DefinitionsAreNamed}
use Rattle.fp_source_types.specs.Typed.{AreTypesOf}
use Rattle.fp_machines.specs.Made.{kind_at, machine_of, machine_with}
use Rattle.fp_machines.specs.Ordered.{AreWellPlaced}
use Rattle.fp_component_forms.specs.Written.{PositionIs, Scoped, among, qualified}
use Rattle.fp_source_parts.specs.Machines.{machine_in, machines}
use Rattle.fp_source_parts.specs.Machines as all
use Rattle.fp_source_parts.specs.MachineBroken.{BrokenBehavior, BrokenItem, BrokenMachine, BrokenModel, MachinesBroken}
use Rattle.fp_source_parts.specs.MachineBuilt.{AreMachinesOf, IsMachine}
use Rattle.fp_source_parts.specs.DeclaredElements.{DeclareAll, Declares, FormDeclares, TypeIs}
use Rattle.fp_source_parts.specs.Ordered.{IsOrdered, IsOrderedModel, MachinesAreOrdered}
use Rattle.fp_sound_parts.specs.Sound.{HasSoundBody, HasSoundOutline, IsUnbrokenBehavior}
use Rattle.fp_sound_parts.specs.Machines.{AreSoundMachines, IsSoundMachine}
use Rattle.fp_sound_parts.proofs.Lying.{as_many, kind_lying}
use Rattle.fp_sound_parts.proofs.Named.{HasName, NamesHold, items_named, qualified_name}

-- ---- positions

one_machine_of : (i : Item) → among group.Machine (definitions_of i) ≡ length (all.machine_declared i)
one_machine_of (item.Defined s) = of_definition s.scope s.definition
  where
    of_definition : (scope : Path) (d : Def) → among group.Machine (defined (group_of d) scope (name_of d) ∷ []) ≡ 0
    of_definition scope (def.Constant d) = refl
    of_definition scope (def.Abstract d) = refl
    of_definition scope (def.Alias d) = refl
    of_definition scope (def.Array d) = refl
    of_definition scope (def.Struct d) = refl
    of_definition scope (def.Enum d) = refl
    of_definition scope (def.Port d) = refl
one_machine_of (item.Enumerated e) = refl
one_machine_of (item.Declared d) = of_model d.scope d.definition
  where
    of_model : (scope : Path) (d : ModelDef) → among group.Machine (defined (model_group d) scope (model_name d) ∷ []) ≡ length (machine_in scope d)
    of_model scope (machine d) = refl
    of_model scope (component d) = refl
    of_model scope (interface d) = refl
    of_model scope (instance d) = refl
    of_model scope (topology d) = refl
one_machine_of (item.Used since n) = refl
one_machine_of (item.Written since p) = refl

pub machine_lies : (source : Source) (scope : Path) (q : Qual) (position : ℕ) → PositionIs source scope group.Machine q position → position < length (machines source)
machine_lies = position_lies group.Machine all.machine_declared one_machine_of

-- ---- what is known of each machine

module _ (source : Source) (ts : List TypeDef) where
  record ItemKept (i : Item) : Type 0 where
    names : NamesHold i
    ordered : IsOrdered i
    unbroken : IsUnbroken (BrokenItem ts source i)

  record MachineKept (s : Scoped Written) : Type 0 where
    name : is_qualified (qualified s.scope s.node.name) ≡ true
    named : elements_are_named (elements_in s.node.behavior) ≡ true
    placed : AreWellPlaced (elements_in s.node.behavior)
    unbroken : IsUnbroken (BrokenMachine ts source s.scope s.node)

  machine_kept : (i : Item) → ItemKept i → AllByRecursion MachineKept (all.machine_declared i)
  machine_kept (item.Declared d) h = of_model d.scope d.definition h.names.own.0 h.names.parts h.ordered h.unbroken
    where
      of_model : (scope : Path) (m : ModelDef) → HasName scope (model_name m).text → HasNamedParts m → IsOrderedModel m → IsUnbroken (BrokenModel ts source scope m)
          → AllByRecursion MachineKept (machine_in scope m)
      of_model scope (machine m) h k o u = (record { name = qualified_name scope m.name.text h; named = k; placed = o; unbroken = u }, tt)
      of_model scope (component m) h k o u = tt
      of_model scope (interface m) h k o u = tt
      of_model scope (instance m) h k o u = tt
      of_model scope (topology m) h k o u = tt
  machine_kept (item.Defined s) h = tt
  machine_kept (item.Enumerated e) h = tt
  machine_kept (item.Used since n) h = tt
  machine_kept (item.Written since p) h = tt

  module _ (given : AreTypesOf source (map (λ (d : TypeDef). Some d) ts)) (definitions : DefinitionsAreNamed source) (parts : PartsAreNamed source) (ordered : MachinesAreOrdered source)
      (unbroken : IsUnbroken (MachinesBroken source)) where
    machines_kept : AllByRecursion MachineKept (machines source)
    machines_kept =
        each_flat MachineKept all.machine_declared (items source)
        (each_weaker ItemKept (λ (i : Item). AllByRecursion MachineKept (all.machine_declared i)) machine_kept (items source)
        (each_item ItemKept (items source)
        (λ k i at. record {
          names = of_item NamesHold (items source) k i (items_named source definitions parts) at;
          ordered = ordered k i at;
          unbroken = λ f b. unbroken f (record { types = ts; given = given; broken = (k, i, at, b) });
        })))

    -- ---- kinds of what is declared

    lies_here : (k : Kind) → kind_lies (length (types source)) k ≡ true → kind_lies (length ts) k ≡ true
    lies_here k h = subst (λ (n : ℕ). kind_lies n k ≡ true) (sym (as_many source ts given)) h

    type_lying : (scope : Path) (t : Option TypeName) (k : Kind) → TypeIs source scope t (Some k) → kind_lies (length ts) k ≡ true
    type_lying scope None k h = absurd (cc)
    type_lying scope (Some t) k h = lies_here k (kind_lying source scope t.form k (h.holds k refl))

    form_lying : (scope : Path) (f : ElementForm) (k : Kind) → FormDeclares source scope f (Some k) → kind_lies (length ts) k ≡ true
    form_lying scope (element.Signal t) k h = type_lying scope t.of k h
    form_lying scope (element.Action t) k h = type_lying scope t.of k h
    form_lying scope (element.Guard t) k h = type_lying scope t.of k h
    form_lying scope (element.State n) k h = absurd (cc)
    form_lying scope (element.Choice c) k h = absurd (cc)
    form_lying scope (element.Initial g) k h = absurd (cc)
    form_lying scope (element.On o) k h = absurd (cc)
    form_lying scope (element.Entry d) k h = absurd (cc)
    form_lying scope (element.Exit d) k h = absurd (cc)

    -- what is given at a place of a list of optional kinds
    kind_there : (o : Option (Option Kind)) (k : Kind) → ◌≡◌ {A = Option Kind} (option_and_then (λ (p : Option Kind). p) o) (Some k) → o ≡ Some (Some k)
    kind_there None k e = absurd (cc)
    kind_there (Some p) k e = ap Some e

    kinds_lying : (scope : Path) (es : List BehaviorElement) (kinds : List (Option Kind)) → DeclareAll source scope es kinds → (at : ℕ) (k : Kind) → kind_at kinds at ≡ Some k
        → kind_lies (length ts) k ≡ true
    kinds_lying scope es kinds declared at k e =
        let of = second_read (Declares source scope) 0 es kinds at (Some k) declared (kind_there (slice_get kinds at) k e) in
        form_lying scope of.one.form k of.related

    -- ---- each machine

    -- over the laws on machines whose elements break no rule
    module _ (outlines : (types : List TypeDef) (place : Place) (es : List BehaviorElement) (kinds : List (Option Kind)) (name : List ℕ) → IsUnbrokenBehavior types place es kinds → HasSoundOutline types (machine_with es name kinds))
        (bodies : (types : List TypeDef) (place : Place) (es : List BehaviorElement) (kinds : List (Option Kind)) (name : List ℕ) → IsUnbrokenBehavior types place es kinds → HasSoundBody types (machine_with es name kinds)) where
      by_behavior : (scope : Path) (place : Place) (name : List ℕ) (b : Option Behavior) (kinds : List (Option Kind)) → is_qualified name ≡ true → elements_are_named (elements_in b) ≡ true
          → AreWellPlaced (elements_in b) → IsUnbroken (BrokenBehavior ts source scope place b) → DeclareAll source scope (elements_in b) kinds → IsSoundMachine ts (machine_of name b kinds)
      by_behavior scope place name None kinds q named placed u declared = record {
        qualified = q;
        outline = record { lies = refl; in_preorder = refl; has_names = refl; names_differ = refl; siblings_differ = refl; of_size = refl; leads = refl };
        body = λ e. absurd (cc);
      }
      by_behavior scope place name (Some b) kinds q named placed u declared =
          let behaves : IsUnbrokenBehavior ts place b.elements kinds = record {
            in_order = placed.in_order;
            declared_outside = placed.declared_outside;
            unbroken = λ f broken. u f (record { kinds = kinds; declared = declared; broken = broken });
            named = named;
            kinds_each = sym (as_long (Declares source scope) 0 b.elements kinds declared);
            kinds_lie = kinds_lying scope b.elements kinds declared;
          } in
          record {
            qualified = q;
            outline = outlines ts place b.elements kinds name behaves;
            body = λ e. bodies ts place b.elements kinds name behaves;
          }

      pub machines_sound : (ms : List Machine) → AreMachinesOf source ms → AreSoundMachines ts ms
      machines_sound ms built k m at =
          let of = second_read (IsMachine source) 0 (machines source) ms k m built at in
          let s = of.one in
          let kept = of_item MachineKept (machines source) k s machines_kept of.here in
          subst (IsSoundMachine ts) (sym of.related.made)
          (by_behavior s.scope s.node.name.at.first (qualified s.scope s.node.name) s.node.behavior of.related.kinds kept.name kept.named kept.placed kept.unbroken of.related.declared)
