-- The expressions in the parts of a source whose expressions all have values.
use Rattle.std.proofs.Common.{◌≡◌, ℕ, suc, ℤ, List, [], ◌∷◌, ◌++◌, flat_map, slice_get, Option, Some, None, refl}
use Rattle.std.specs.List.{AllByRecursion as Each}
use Rattle.fp_base.proofs.Lists.{each_append, each_before, each_behind}
use Rattle.fp_base.specs.declared.value.Value.{Value}
use Rattle.fp_tree.specs.declared.source.Source.{Source}
use Rattle.fp_tree.specs.declared.expression.Expr.{Expr}
use Rattle.fp_tree.specs.declared.part.Formal.{Formal}
use Rattle.fp_tree.specs.declared.component.Component.{Component}
use Rattle.fp_tree.specs.declared.component.General.{General}
use Rattle.fp_tree.specs.declared.component.Interface.{Interface}
use Rattle.fp_tree.specs.declared.component.InterfacePart.{InterfacePart}
use Rattle.fp_tree.specs.declared.component.InterfacePart.TheVariants as interface_part
use Rattle.fp_tree.specs.declared.component.Part.{Part}
use Rattle.fp_tree.specs.declared.component.Part.TheVariants as part
use Rattle.fp_meaning.specs.declared.group.Group.TheVariants.{Machine as MachineGroup, Port as PortGroup}
use Rattle.fp_meaning.specs.declared.item.Item.{Item}
use Rattle.fp_meaning.specs.declared.item.Item.TheVariants as item
use Rattle.fp_meaning.specs.Layout.{component_scope, formals_items, general_items, interface_part_items, items, limits_items, model_own_items, own_items, type_items, use_items, value_items}
use Rattle.fp_meaning.specs.Names.{Path}
use Rattle.fp_meaning.specs.Origins.{expressions}
use Rattle.fp_meaning.specs.Sites.{Declaration, component, declaration, in_optional, interface}
use Rattle.fp_meaning.specs.Values.{Val, opened}
use Rattle.fp_type_forms.specs.Written.{NumberIs}
use Rattle.fp_type_forms.specs.declared.resolving.Resolution.{Resolution}
use Rattle.fp_type_forms.specs.Resolved.{AreResolved}
use Rattle.fp_part_values.specs.Names.{written}
use Rattle.fp_part_values.specs.Numbers.{general_numbers, interface_part_numbers, part_numbers}
use Rattle.fp_part_values.specs.FormStanding.{AreValued, NumbersStand}
use Rattle.fp_source_types.proofs.Expressed.{Valued as HasValue}
use Rattle.fp_part_values.proofs.Standing.{HasValue as IsPlaced, Stands, all_stand, each_given, owned}

module _ (source : Source) where
  own_stand : (marks : List (Option Value)) (rs : List Resolution) → AreResolved source marks rs (items source) 0 → AreValued source
      → (k : ℕ) (d : Declaration) → slice_get (items source) k ≡ Some (item.Declared d) → Each (Stands source) (model_own_items d.scope d.definition)
  own_stand marks rs resolved valued k d at =
      owned source (Stands source) k d at (all_stand source marks rs (items source) 0 resolved (each_given (IsPlaced source) (expressions source) valued))

  module _ (scope : Path) where
    abbrev Valued : List Expr → Type 0
    Valued es = Each (HasValue source scope) es

    of_value : (o : Option Expr) → Each (Stands source) (value_items scope o) → Valued (written o)
    of_value None h = tt
    of_value (Some e) h = (h.0, tt)

    both_of : (xs ys : List Item) (n m : List Expr) → (Each (Stands source) xs → Valued n) → (Each (Stands source) ys → Valued m) → Each (Stands source) (xs ++ ys) → Valued (n ++ m)
    both_of xs ys n m f g h = each_append (HasValue source scope) n m (f (each_before (Stands source) xs ys h)) (g (each_behind (Stands source) xs ys h))

    of_general : (p : General) → Each (Stands source) (general_items scope p) → Valued (general_numbers p)
    of_general p h =
        both_of (value_items scope p.size ++ in_optional (use_items PortGroup scope) p.of) (value_items scope p.priority) (written p.size) (written p.priority)
        (λ k. of_value p.size (each_before (Stands source) (value_items scope p.size) (in_optional (use_items PortGroup scope) p.of) k)) (of_value p.priority) h

    -- behind formal parameters two expressions
    of_two : (fs : List Formal) (a b : Option Expr) → Each (Stands source) (formals_items scope fs ++ value_items scope a ++ value_items scope b) → Valued (written a ++ written b)
    of_two fs a b h =
        both_of (formals_items scope fs ++ value_items scope a) (value_items scope b) (written a) (written b) (λ k. of_value a (each_behind (Stands source) (formals_items scope fs) (value_items scope a) k)) (of_value b) h

    pub of_part : (p : Part) → Each (Stands source) (own_items scope p) → Valued (part_numbers p)
    of_part (part.General p) h = of_general p h
    of_part (part.Internal p) h = of_value p.priority (each_behind (Stands source) (formals_items scope p.formals) (value_items scope p.priority) h)
    of_part (part.Command c) h = of_two c.formals c.opcode c.priority h
    of_part (part.Event e) h = of_two e.formals e.id e.throttle h
    of_part (part.Channel t) h =
        let three = each_before (Stands source) (type_items 0 scope t.of ++ value_items scope t.id ++ in_optional (limits_items scope) t.low) (in_optional (limits_items scope) t.high) h in
        of_value t.id (each_behind (Stands source) (type_items 0 scope t.of) (value_items scope t.id)
        (each_before (Stands source) (type_items 0 scope t.of ++ value_items scope t.id) (in_optional (limits_items scope) t.low) three))
    of_part (part.Param p) h =
        both_of (type_items 0 scope p.of ++ value_items scope p.default ++ value_items scope p.id ++ value_items scope p.set) (value_items scope p.save) (written p.id ++ written p.set) (written p.save)
        (λ k. both_of (type_items 0 scope p.of ++ value_items scope p.default ++ value_items scope p.id) (value_items scope p.set) (written p.id) (written p.set)
        (λ l. of_value p.id (each_behind (Stands source) (type_items 0 scope p.of ++ value_items scope p.default) (value_items scope p.id) l)) (of_value p.set) k) (of_value p.save) h
    of_part (part.Running r) h = of_value r.priority (each_behind (Stands source) (use_items MachineGroup scope r.of) (value_items scope r.priority) h)
    of_part p h = tt

    of_inner : (p : InterfacePart) → Each (Stands source) (interface_part_items scope p) → Valued (interface_part_numbers p)
    of_inner (interface_part.General p) h = of_general p h
    of_inner p h = tt

    -- it has a number
    abbrev pub Numbered : Expr → Type 0
    Numbered e = (n : ℤ) × NumberIs source scope e n

    -- what is known of a part: its expressions have values, and those in whose place a number is wanted are numbers
    pub record PartKnown (p : Part) : Type 0 where
      pub values : Each (Stands source) (own_items scope p)
      pub numbers : Each Numbered (part_numbers p)

    pub record InnerKnown (p : InterfacePart) : Type 0 where
      pub values : Each (Stands source) (interface_part_items scope p)
      pub numbers : Each Numbered (interface_part_numbers p)

    known_parts : (ps : List Part) → Each (Stands source) (flat_map (own_items scope) ps) → Each Numbered (flat_map part_numbers ps) → Each PartKnown ps
    known_parts [] h n = tt
    known_parts (p ∷ ps) h n = (
      record { values = each_before (Stands source) (own_items scope p) (flat_map (own_items scope) ps) h; numbers = each_before Numbered (part_numbers p) (flat_map part_numbers ps) n },
      known_parts ps (each_behind (Stands source) (own_items scope p) (flat_map (own_items scope) ps) h) (each_behind Numbered (part_numbers p) (flat_map part_numbers ps) n),
    )

    known_inners : (ps : List InterfacePart) → Each (Stands source) (flat_map (interface_part_items scope) ps) → Each Numbered (flat_map interface_part_numbers ps) → Each InnerKnown ps
    known_inners [] h n = tt
    known_inners (p ∷ ps) h n = (
      record { values = each_before (Stands source) (interface_part_items scope p) (flat_map (interface_part_items scope) ps) h; numbers = each_before Numbered (interface_part_numbers p) (flat_map interface_part_numbers ps) n },
      known_inners ps (each_behind (Stands source) (interface_part_items scope p) (flat_map (interface_part_items scope) ps) h) (each_behind Numbered (interface_part_numbers p) (flat_map interface_part_numbers ps) n),
    )

    valued_parts : (ps : List Part) → Each (Stands source) (flat_map (own_items scope) ps) → Valued (flat_map part_numbers ps)
    valued_parts [] h = tt
    valued_parts (p ∷ ps) h =
        each_append (HasValue source scope) (part_numbers p) (flat_map part_numbers ps) (of_part p (each_before (Stands source) (own_items scope p) (flat_map (own_items scope) ps) h))
        (valued_parts ps (each_behind (Stands source) (own_items scope p) (flat_map (own_items scope) ps) h))

    valued_inners : (ps : List InterfacePart) → Each (Stands source) (flat_map (interface_part_items scope) ps) → Valued (flat_map interface_part_numbers ps)
    valued_inners [] h = tt
    valued_inners (p ∷ ps) h =
        each_append (HasValue source scope) (interface_part_numbers p) (flat_map interface_part_numbers ps) (of_inner p (each_before (Stands source) (interface_part_items scope p) (flat_map (interface_part_items scope) ps) h))
        (valued_inners ps (each_behind (Stands source) (interface_part_items scope p) (flat_map (interface_part_items scope) ps) h))

    -- those that have values are numbers, where each such is one
    numbered : (es : List Expr) → Valued es → ((j : ℕ) (e : Expr) → slice_get es j ≡ Some e → (v : Value) → Val source scope (opened e) v → Numbered e) → Each Numbered es
    numbered [] h to = tt
    numbered (e ∷ es) h to = (to 0 e refl h.0.0 h.0.1, numbered es h.1 (λ j. to (suc j)))

  module _ (marks : List (Option Value)) (rs : List Resolution) (resolved : AreResolved source marks rs (items source) 0) (valued : AreValued source)
      (numbers : (k : ℕ) (d : Declaration) → slice_get (items source) k ≡ Some (item.Declared d) → NumbersStand source d.scope d.definition) where
    pub component_known : (k : ℕ) (outside : Path) (c : Component) → slice_get (items source) k ≡ Some (item.Declared (declaration outside (component c))) → Each (PartKnown (component_scope outside c)) c.parts
    component_known k outside c at =
        let scope = component_scope outside c in
        let own = own_stand marks rs resolved valued k (declaration outside (component c)) at in
        known_parts scope c.parts own (numbered scope (flat_map part_numbers c.parts) (valued_parts scope c.parts own) (numbers k (declaration outside (component c)) at))

    pub interface_known : (k : ℕ) (scope : Path) (i : Interface) → slice_get (items source) k ≡ Some (item.Declared (declaration scope (interface i))) → Each (InnerKnown scope) i.parts
    interface_known k scope i at =
        let own = own_stand marks rs resolved valued k (declaration scope (interface i)) at in
        known_inners scope i.parts own (numbered scope (flat_map interface_part_numbers i.parts) (valued_inners scope i.parts own) (numbers k (declaration scope (interface i)) at))
