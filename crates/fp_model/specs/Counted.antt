-- The order of definitions by how many of each sort stand before.
use Rattle.std.specs.Prelude.{◌+◌, List, [], ◌∷◌, ◌++◌}
use Rattle.fp_tree.specs.declared.definition.Def.{Def}
use Rattle.fp_tree.specs.declared.definition.Def.TheVariants as def
use Rattle.fp_tables.specs.declared.model.Item.{Item as Ordered}
use Rattle.fp_tables.specs.declared.model.Item.TheVariants as ordered
use Rattle.fp_meaning.specs.declared.item.Item.{Item}
use Rattle.fp_meaning.specs.declared.item.Item.TheVariants as item
use Rattle.fp_meaning.specs.Sites.{ModelDef, component, instance, machine, topology}
use Rattle.fp_model.specs.declared.ordering.Counts.{Counts}

abbrev pub none_before : Counts
none_before = record { constants = 0; kinds = 0; ports = 0; components = 0; machines = 0; instances = 0; topologies = 0 }

abbrev pub order_by : Counts → Def → Ordered
order_by n (def.Constant d) = ordered.Constant n.constants
order_by n (def.Port p) = ordered.Port n.ports
order_by n _ = ordered.Kind n.kinds

-- with one of that sort more
abbrev pub counted : Counts → Def → Counts
counted n (def.Constant d) = record n { constants = n.constants + 1 }
counted n (def.Port p) = record n { ports = n.ports + 1 }
counted n _ = record n { kinds = n.kinds + 1 }

abbrev pub order_by_model : Counts → ModelDef → List Ordered
order_by_model n (component c) = ordered.Component n.components ∷ []
order_by_model n (machine d) = ordered.Machine n.machines ∷ []
order_by_model n (instance d) = ordered.Instance n.instances ∷ []
order_by_model n (topology d) = ordered.Topology n.topologies ∷ []
order_by_model n _ = []

abbrev pub counted_model : Counts → ModelDef → Counts
counted_model n (component c) = record n { components = n.components + 1 }
counted_model n (machine d) = record n { machines = n.machines + 1 }
counted_model n (instance d) = record n { instances = n.instances + 1 }
counted_model n (topology d) = record n { topologies = n.topologies + 1 }
counted_model n _ = n

abbrev pub order_with : Counts → Item → List Ordered
order_with n (item.Defined s) = order_by n s.definition ∷ []
order_with n (item.Declared d) = order_by_model n d.definition
order_with n _ = []

abbrev pub counted_with : Counts → Item → Counts
counted_with n (item.Defined s) = counted n s.definition
counted_with n (item.Declared d) = counted_model n d.definition
counted_with n _ = n

abbrev pub order_from : Counts → List Item → List Ordered
order_from n [] = []
order_from n (i ∷ is) = order_with n i ++ order_from (counted_with n i) is
