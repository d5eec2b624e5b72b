-- All places of the type names in what belongs to a definition are places of this.
use Rattle.std.proofs.Common.{List, Option, Some, None}
use Rattle.std.specs.List.{AllByRecursion as Each}
use Rattle.fp_base.specs.declared.place.Place.{Place}
use Rattle.fp_base.specs.declared.place.Span.{Span}
use Rattle.fp_base.proofs.Lists.{each_flat, each_mapped, each_weaker}
use Rattle.fp_tree.specs.declared.type_name.TypeName.{TypeName}
use Rattle.fp_tree.specs.declared.part.Formal.{Formal}
use Rattle.fp_tree.specs.declared.machine.Behavior.{Behavior}
use Rattle.fp_tree.specs.declared.machine.BehaviorElement.{BehaviorElement}
use Rattle.fp_tree.specs.declared.machine.ElementForm.{ElementForm}
use Rattle.fp_tree.specs.declared.machine.ElementForm.TheVariants as element
use Rattle.fp_tree.specs.declared.component.Part.{Part}
use Rattle.fp_tree.specs.declared.component.Part.TheVariants as part
use Rattle.fp_meaning.specs.Sites.{ModelDef, component, in_optional, instance, interface, machine, topology}
use Rattle.fp_part_values.specs.Names.{behavior_names, element_names, form_names, formal_names, part_names, type_names_of, written}
use Rattle.fp_places.specs.Places.{places_in_behavior, places_in_element, places_in_element_form, places_in_formal, places_in_formals, places_in_part, places_in_type, places_of_model}
use Rattle.fp_places.proofs.Definitions.{StandInType}
use Rattle.fp_source_laws.proofs.Parted.{PartStands, channel_places, command_places, event_places, internal_places, param_places, split}

module _ (G : Place → Type 0) where
  formals_named : (fs : List Formal) → Each G (places_in_formals fs) → Each (StandInType G) (formal_names fs)
  formals_named fs h =
      each_mapped (StandInType G) (λ (f : Formal). f.of) fs
      (each_weaker (λ (f : Formal). Each G (places_in_formal f)) (λ (f : Formal). StandInType G f.of) (λ f k. k.1) fs (split G places_in_formal fs h))

  part_named : (p : Part) → PartStands G p → Each (StandInType G) (part_names p)
  part_named (part.Internal p) h = formals_named p.formals (internal_places G p h).0
  part_named (part.Command c) h = formals_named c.formals (command_places G c h).0
  part_named (part.Event e) h = formals_named e.formals (event_places G e h).0
  part_named (part.Channel t) h = ((channel_places G t h).0, tt)
  part_named (part.Param p) h = ((param_places G p h).0, tt)
  part_named p h = tt

  maybe_named : (o : Option TypeName) → Each G (in_optional places_in_type o) → Each (StandInType G) (written o)
  maybe_named None h = tt
  maybe_named (Some t) h = (h, tt)

  form_named : (at : Span) (e : ElementForm) → Each G (places_in_element_form at e) → Each (StandInType G) (form_names e)
  form_named at (element.Signal t) h = maybe_named t.of h.1
  form_named at (element.Action t) h = maybe_named t.of h.1
  form_named at (element.Guard t) h = maybe_named t.of h.1
  form_named at e h = tt

  behavior_named : (o : Option Behavior) → Each G (in_optional places_in_behavior o) → Each (StandInType G) (in_optional behavior_names o)
  behavior_named None h = tt
  behavior_named (Some b) h =
      each_flat (StandInType G) element_names b.elements
      (each_weaker (λ (e : BehaviorElement). Each G (places_in_element e)) (λ (e : BehaviorElement). Each (StandInType G) (element_names e)) (λ e k. form_named e.at e.form k) b.elements
      (split G places_in_element b.elements h))

  pub model_named : (d : ModelDef) → Each G (places_of_model d) → Each (StandInType G) (type_names_of d)
  model_named (machine d) h = behavior_named d.behavior h.1
  model_named (component c) h =
      each_flat (StandInType G) part_names c.parts (each_weaker (PartStands G) (λ (p : Part). Each (StandInType G) (part_names p)) part_named c.parts (split G places_in_part c.parts h))
  model_named (interface d) h = tt
  model_named (instance d) h = tt
  model_named (topology d) h = tt
