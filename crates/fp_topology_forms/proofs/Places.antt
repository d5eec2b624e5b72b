-- Lists that are related place by place, read at a place; and the position of what a name means, which lies in the list of its group.
use Rattle.std.proofs.Common.{◌≡◌, ℕ, zero, suc, ◌+◌, ◌<◌, Bool, true, cond, List, [], ◌∷◌, ◌++◌, length, flat_map, slice_get, Some, refl, ap, ◌∙◌, subst, arith, length-append}
use Rattle.fp_base.proofs.Options.{same_some}
use Rattle.fp_tree.specs.declared.source.Source.{Source}
use Rattle.fp_tree.specs.declared.definition.Def.{Def}
use Rattle.fp_tree.specs.declared.definition.Def.TheVariants as def
use Rattle.fp_tree.specs.declared.name.Qual.{Qual}
use Rattle.fp_meaning.specs.declared.group.Group.{Group}
use Rattle.fp_meaning.specs.declared.group.Group.TheVariants as group
use Rattle.fp_meaning.specs.declared.item.Item.{Item}
use Rattle.fp_meaning.specs.declared.item.Item.TheVariants as item
use Rattle.fp_meaning.specs.declared.names.Definition.{Definition}
use Rattle.fp_meaning.specs.Layout.{items}
use Rattle.fp_meaning.specs.Names.{Path, definitions, definitions_of, defined, group_of, model_group, model_name, name_of}
use Rattle.fp_meaning.specs.Sites.{ModelDef, machine, component, interface, instance, topology}
use Rattle.fp_type_forms.specs.Written.{AllAt}
use Rattle.fp_component_forms.specs.Written.{PositionIs, among, before, component_in, component_declared, components, same_group}
use Rattle.fp_topology_forms.specs.Written.{instance_in, instance_of, instances, topologies, topology_in, topology_of}

-- what stands at one place of the first, where the second has something
pub record Pair {A B : Type 0} (R : A → B → Type 0) (xs : List A) (n : ℕ) (y : B) : Type 0 where
  pub one : A
  pub here : slice_get xs n ≡ Some one
  pub related : R one y

module _ {A B : Type 0} (R : A → B → Type 0) where
  pub second_read : (k : ℕ) (xs : List A) (ys : List B) (n : ℕ) (y : B) → AllAt (λ position. R) k xs ys → slice_get ys n ≡ Some y → Pair R xs n y
  second_read k [] [] n y h at = absurd (cc)
  second_read k [] (z ∷ ys) n y h at = absurd h
  second_read k (x ∷ xs) [] n y h at = absurd h
  second_read k (x ∷ xs) (z ∷ ys) zero y h at = record { one = x; here = refl; related = subst (λ (v : B). R x v) (same_some at) h.0 }
  second_read k (x ∷ xs) (z ∷ ys) (suc n) y h at =
      let rest = second_read (suc k) xs ys n y h.1 at in
      record { one = rest.one; here = rest.here; related = rest.related }

  pub as_long : (k : ℕ) (xs : List A) (ys : List B) → AllAt (λ position. R) k xs ys → length xs ≡ length ys
  as_long k [] [] h = refl
  as_long k [] (y ∷ ys) h = absurd h
  as_long k (x ∷ xs) [] h = absurd h
  as_long k (x ∷ xs) (y ∷ ys) h = ap (λ (n : ℕ). suc n) (as_long (suc k) xs ys h.1)

-- ---- those of a group, of which as many stand before one as its position says

pub group_itself : (g : Group) → same_group g g ≡ true
group_itself group.Kind = refl
group_itself group.Value = refl
group_itself group.Port = refl
group_itself group.Component = refl
group_itself group.Instance = refl
group_itself group.Topology = refl
group_itself group.Machine = refl
group_itself group.Interface = refl

pub among_joined : (g : Group) (ds es : List Definition) → among g (ds ++ es) ≡ among g ds + among g es
among_joined g [] es = omega arith
among_joined g (d ∷ ds) es = let rest = among_joined g ds es in omega arith

pub before_lies : (g : Group) (ds : List Definition) (n : ℕ) (d : Definition) → slice_get ds n ≡ Some d → same_group g d.group ≡ true → before g ds n < among g ds
before_lies g [] n d at same = absurd (cc)
before_lies g (x ∷ ds) zero d at same =
    let here : ◌≡◌ {A = ℕ} (cond (same_group g x.group) 1 0) 1 = ap (λ (b : Bool). cond b 1 0) (ap (λ (y : Definition). same_group g y.group) (same_some at) ∙ same) in
    omega (arith, here)
before_lies g (x ∷ ds) (suc n) d at same = let rest = before_lies g ds n d at same in omega (arith, rest)

module _ {A : Type 0} (g : Group) (f : Item → List A) (each : (i : Item) → among g (definitions_of i) ≡ length (f i)) where
  among_items : (is : List Item) → among g (flat_map definitions_of is) ≡ length (flat_map f is)
  among_items [] = refl
  among_items (i ∷ is) =
      let long = length-append (f i) (flat_map f is) in
      let split = among_joined g (definitions_of i) (flat_map definitions_of is) in
      let here = each i in
      let rest = among_items is in
      omega (arith, long, split, here, rest)

  -- the position of what a name means in the list of those
  pub position_lies : (source : Source) (scope : Path) (q : Qual) (position : ℕ) → PositionIs source scope g q position → position < length (flat_map f (items source))
  position_lies source scope q position h =
      let named = h.1.meant.named in
      let within = before_lies g (definitions source) h.0 named.definition named.here (ap (same_group g) named.of_group ∙ group_itself g) in
      let all = among_items (items source) in
      let same = h.2 in
      omega (arith, within, all, same)

-- ---- components, instances and topologies

one_component_of : (i : Item) → among group.Component (definitions_of i) ≡ length (component_declared i)
one_component_of (item.Defined s) = of_definition s.scope s.definition
  where
    of_definition : (scope : Path) (d : Def) → among group.Component (defined (group_of d) scope (name_of d) ∷ []) ≡ 0
    of_definition scope (def.Constant d) = refl
    of_definition scope (def.Abstract d) = refl
    of_definition scope (def.Alias d) = refl
    of_definition scope (def.Array d) = refl
    of_definition scope (def.Struct d) = refl
    of_definition scope (def.Enum d) = refl
    of_definition scope (def.Port d) = refl
one_component_of (item.Enumerated e) = refl
one_component_of (item.Declared d) = of_model d.scope d.definition
  where
    of_model : (scope : Path) (d : ModelDef) → among group.Component (defined (model_group d) scope (model_name d) ∷ []) ≡ length (component_in scope d)
    of_model scope (machine d) = refl
    of_model scope (component d) = refl
    of_model scope (interface d) = refl
    of_model scope (instance d) = refl
    of_model scope (topology d) = refl
one_component_of (item.Used since n) = refl
one_component_of (item.Written since p) = refl

pub component_lies : (source : Source) (scope : Path) (q : Qual) (position : ℕ) → PositionIs source scope group.Component q position → position < length (components source)
component_lies = position_lies group.Component component_declared one_component_of

one_instance_of : (i : Item) → among group.Instance (definitions_of i) ≡ length (instance_of i)
one_instance_of (item.Defined s) = of_definition s.scope s.definition
  where
    of_definition : (scope : Path) (d : Def) → among group.Instance (defined (group_of d) scope (name_of d) ∷ []) ≡ 0
    of_definition scope (def.Constant d) = refl
    of_definition scope (def.Abstract d) = refl
    of_definition scope (def.Alias d) = refl
    of_definition scope (def.Array d) = refl
    of_definition scope (def.Struct d) = refl
    of_definition scope (def.Enum d) = refl
    of_definition scope (def.Port d) = refl
one_instance_of (item.Enumerated e) = refl
one_instance_of (item.Declared d) = of_model d.scope d.definition
  where
    of_model : (scope : Path) (d : ModelDef) → among group.Instance (defined (model_group d) scope (model_name d) ∷ []) ≡ length (instance_in scope d)
    of_model scope (machine d) = refl
    of_model scope (component d) = refl
    of_model scope (interface d) = refl
    of_model scope (instance d) = refl
    of_model scope (topology d) = refl
one_instance_of (item.Used since n) = refl
one_instance_of (item.Written since p) = refl

pub instance_lies : (source : Source) (scope : Path) (q : Qual) (position : ℕ) → PositionIs source scope group.Instance q position → position < length (instances source)
instance_lies = position_lies group.Instance instance_of one_instance_of

one_topology_of : (i : Item) → among group.Topology (definitions_of i) ≡ length (topology_of i)
one_topology_of (item.Defined s) = of_definition s.scope s.definition
  where
    of_definition : (scope : Path) (d : Def) → among group.Topology (defined (group_of d) scope (name_of d) ∷ []) ≡ 0
    of_definition scope (def.Constant d) = refl
    of_definition scope (def.Abstract d) = refl
    of_definition scope (def.Alias d) = refl
    of_definition scope (def.Array d) = refl
    of_definition scope (def.Struct d) = refl
    of_definition scope (def.Enum d) = refl
    of_definition scope (def.Port d) = refl
one_topology_of (item.Enumerated e) = refl
one_topology_of (item.Declared d) = of_model d.scope d.definition
  where
    of_model : (scope : Path) (d : ModelDef) → among group.Topology (defined (model_group d) scope (model_name d) ∷ []) ≡ length (topology_in scope d)
    of_model scope (machine d) = refl
    of_model scope (component d) = refl
    of_model scope (interface d) = refl
    of_model scope (instance d) = refl
    of_model scope (topology d) = refl
one_topology_of (item.Used since n) = refl
one_topology_of (item.Written since p) = refl

pub topology_lies : (source : Source) (scope : Path) (q : Qual) (position : ℕ) → PositionIs source scope group.Topology q position → position < length (topologies source)
topology_lies = position_lies group.Topology topology_of one_topology_of
