-- The items of the type names in what belongs to a definition are among its own items.
use Rattle.std.proofs.Common.{List, [], ◌∷◌, ◌++◌, flat_map, Option, Some, None}
use Rattle.std.specs.List.{AllByRecursion}
use Rattle.fp_base.proofs.Lists.{each_append, each_before, each_behind}
use Rattle.fp_tree.specs.declared.component.Part.{Part}
use Rattle.fp_tree.specs.declared.component.Part.TheVariants as part
use Rattle.fp_tree.specs.declared.machine.Behavior.{Behavior}
use Rattle.fp_tree.specs.declared.machine.ElementForm.{ElementForm}
use Rattle.fp_tree.specs.declared.machine.ElementForm.TheVariants as element
use Rattle.fp_tree.specs.declared.part.Formal.{Formal}
use Rattle.fp_tree.specs.declared.type_name.TypeName.{TypeName}
use Rattle.fp_meaning.specs.declared.item.Item.{Item}
use Rattle.fp_meaning.specs.Layout.{behavior_items, component_scope, element_form_items, element_items, formal_items, formals_items, limits_items, model_own_items, own_items, type_items, value_items}
use Rattle.fp_meaning.specs.Sites.{Path, in_optional, ModelDef, machine, component, interface, instance, topology}
use Rattle.fp_part_values.specs.FormBroken.{scope_inside}
use Rattle.fp_part_values.specs.Names.{behavior_names, element_names, form_names, formal_names, part_names, type_names_of, written}

module _ (Q : Item → Type 0) (scope : Path) where
  abbrev pub OfName : TypeName → Type 0
  OfName t = AllByRecursion Q (type_items 0 scope t)

  abbrev pub OfNames : List TypeName → Type 0
  OfNames ns = AllByRecursion OfName ns

  of_each : {A : Type 0} (g : A → List Item) (names : A → List TypeName) → ((x : A) → AllByRecursion Q (g x) → OfNames (names x)) → (xs : List A)
      → AllByRecursion Q (flat_map g xs) → OfNames (flat_map names xs)
  of_each g names to [] h = tt
  of_each g names to (x ∷ xs) h =
      each_append OfName (names x) (flat_map names xs) (to x (each_before Q (g x) (flat_map g xs) h)) (of_each g names to xs (each_behind Q (g x) (flat_map g xs) h))

  pub of_optional : (o : Option TypeName) → AllByRecursion Q (in_optional (type_items 0 scope) o) → OfNames (written o)
  of_optional None h = tt
  of_optional (Some t) h = (h, tt)

  pub of_formals : (fs : List Formal) → AllByRecursion Q (formals_items scope fs) → OfNames (formal_names fs)
  of_formals [] h = tt
  of_formals (f ∷ fs) h =
      (each_before Q (formal_items scope f) (flat_map (formal_items scope) fs) h, of_formals fs (each_behind Q (formal_items scope f) (flat_map (formal_items scope) fs) h))

  -- of formal parameters, behind which two expressions may stand
  of_three : (fs : List Formal) (xs ys : List Item) → AllByRecursion Q (formals_items scope fs ++ xs ++ ys) → OfNames (formal_names fs)
  of_three fs xs ys h = of_formals fs (each_before Q (formals_items scope fs) xs (each_before Q (formals_items scope fs ++ xs) ys h))

  -- of a type, behind which other items stand
  of_four : (t : TypeName) (xs ys zs : List Item) → AllByRecursion Q (type_items 0 scope t ++ xs ++ ys ++ zs) → OfName t
  of_four t xs ys zs h =
      each_before Q (type_items 0 scope t) xs (each_before Q (type_items 0 scope t ++ xs) ys (each_before Q (type_items 0 scope t ++ xs ++ ys) zs h))

  of_part : (p : Part) → AllByRecursion Q (own_items scope p) → OfNames (part_names p)
  of_part (part.Internal p) h = of_formals p.formals (each_before Q (formals_items scope p.formals) (value_items scope p.priority) h)
  of_part (part.Command c) h = of_three c.formals (value_items scope c.opcode) (value_items scope c.priority) h
  of_part (part.Event e) h = of_three e.formals (value_items scope e.id) (value_items scope e.throttle) h
  of_part (part.Channel t) h = (of_four t.of (value_items scope t.id) (in_optional (limits_items scope) t.low) (in_optional (limits_items scope) t.high) h, tt)
  of_part (part.Param p) h = (
    of_four p.of (value_items scope p.default) (value_items scope p.id) (value_items scope p.set)
        (each_before Q (type_items 0 scope p.of ++ value_items scope p.default ++ value_items scope p.id ++ value_items scope p.set) (value_items scope p.save) h),
    tt,
  )
  of_part p h = tt

  of_form : (f : ElementForm) → AllByRecursion Q (element_form_items scope f) → OfNames (form_names f)
  of_form (element.Signal t) h = of_optional t.of h
  of_form (element.Action t) h = of_optional t.of h
  of_form (element.Guard t) h = of_optional t.of h
  of_form f h = tt

  of_behavior : (o : Option Behavior) → AllByRecursion Q (in_optional (behavior_items scope) o) → OfNames (in_optional behavior_names o)
  of_behavior None h = tt
  of_behavior (Some b) h = of_each (element_items scope) element_names (λ e. of_form e.form) b.elements h

pub names_among : (Q : Item → Type 0) (scope : Path) (d : ModelDef) → AllByRecursion Q (model_own_items scope d) → AllByRecursion (OfName Q (scope_inside scope d)) (type_names_of d)
names_among Q scope (machine d) h = of_behavior Q scope d.behavior h
names_among Q scope (component d) h = of_each Q (component_scope scope d) (own_items (component_scope scope d)) part_names (of_part Q (component_scope scope d)) d.parts h
names_among Q scope (interface d) h = tt
names_among Q scope (instance d) h = tt
names_among Q scope (topology d) h = tt
