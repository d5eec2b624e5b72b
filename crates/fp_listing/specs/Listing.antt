-- The listing of a model: its definitions in source order, a line each, those of components with their members and those of state
-- machines with their states and choices behind them; and the numbered connections of a topology.
-- The form of both is this profile's own. FPP Language Specification, "Definitions".
use Rattle.std.specs.Prelude.{ℕ, ℤ, codes, decimal, List, [], ◌++◌, flat_map, Option, None, Some, option_map, slice_get}
use Rattle.std.specs.Fmt.{signed_decimal}
use Rattle.std.specs.List.{enumerate_from}
use Rattle.fp_tables.specs.declared.component.Component.{Component}
use Rattle.fp_tables.specs.declared.machine.Machine.{Machine}
use Rattle.fp_tables.specs.declared.machine.Node.{Node}
use Rattle.fp_tables.specs.declared.machine.Node.TheVariants as node
use Rattle.fp_tables.specs.declared.machine.Vertex.{Vertex}
use Rattle.fp_tables.specs.declared.model.Item.{Item}
use Rattle.fp_tables.specs.declared.model.Item.TheVariants as item
use Rattle.fp_tables.specs.declared.model.Model.{Model}
use Rattle.fp_tables.specs.declared.topology.End.{End}
use Rattle.fp_tables.specs.declared.topology.Instance.{Instance}
use Rattle.fp_tables.specs.declared.topology.Topology.{Topology}
use Rattle.fp_tables.specs.declared.topology.Wire.{Wire}
use Rattle.fp_logtext.specs.Log.{port_text}
use Rattle.fp_logtext.specs.Names.{or_nothing, path_of, instance_name}
use Rattle.fp_listing.specs.Definitions.{constant_line, type_line, port_line}
use Rattle.fp_listing.specs.Members.{component_lines}

-- what the thing at a position gives, nothing where there is none
abbrev pub given_at : {A : Type 0} → (A → List ℕ) → List A → ℕ → List ℕ
given_at f xs k = or_nothing (option_map f (slice_get xs k))

abbrev pub vertex_word : Node → List ℕ
vertex_word (node.State initial entry exit on) = codes "state "
vertex_word (node.Choice guard then otherwise) = codes "choice "

-- a state or a choice, with its position
abbrev pub vertex_line : Machine → ℕ × Vertex → List ℕ
vertex_line x numbered = codes "  " ++ vertex_word numbered.1.node ++ path_of x numbered.0 ++ codes "\n"

abbrev pub machine_lines : Machine → List ℕ
machine_lines x = codes "state " ++ codes "machine " ++ x.name ++ codes "\n" ++ flat_map (vertex_line x) (enumerate_from 0 x.vertices)

abbrev pub queue_size : Option ℕ → List ℕ
queue_size None = []
queue_size (Some n) = codes " queue " ++ decimal n

abbrev pub priority_text : Option ℤ → List ℕ
priority_text None = []
priority_text (Some n) = codes " priority " ++ signed_decimal n

abbrev pub topology_line : Topology → List ℕ
topology_line t = codes "topology " ++ t.name ++ codes "\n"

module _ (m : Model) where
  abbrev pub component_name : ℕ → List ℕ
  component_name k = given_at (λ (c : Component). c.name) m.components k

  abbrev pub instance_head : Instance → List ℕ
  instance_head i = codes "instance " ++ i.name ++ codes ": " ++ component_name i.component ++ codes " base " ++ decimal i.base

  abbrev pub instance_line : Instance → List ℕ
  instance_line i = instance_head i ++ queue_size i.queue ++ priority_text i.priority ++ codes "\n"

  abbrev pub item_lines : Item → List ℕ
  item_lines (item.Constant k) = given_at constant_line m.constants k
  item_lines (item.Kind k) = given_at (type_line m.types) m.types k
  item_lines (item.Port k) = given_at (port_line m.types) m.ports k
  item_lines (item.Component k) = given_at (component_lines m) m.components k
  item_lines (item.Machine k) = given_at machine_lines m.machines k
  item_lines (item.Instance k) = given_at instance_line m.instances k
  item_lines (item.Topology k) = given_at topology_line m.topologies k

  abbrev pub Listing : List ℕ
  Listing = flat_map item_lines m.order

  abbrev pub end_text : End → List ℕ
  end_text e = or_nothing (instance_name m e.instance) ++ codes "." ++ port_text m e.instance e.port e.number

  abbrev pub wire_line : Wire → List ℕ
  wire_line w = end_text w.from ++ codes " -> " ++ end_text w.to ++ codes "\n"

  -- the connections of the topology at a position, in their order
  abbrev pub PortLines : ℕ → List ℕ
  PortLines topology = given_at (λ (t : Topology). flat_map wire_line t.wires) m.topologies topology
