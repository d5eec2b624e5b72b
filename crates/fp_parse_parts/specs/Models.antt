-- The members that say what a model is put together from. FPP Language Specification, "State Machine Definitions", "Component Definitions",
-- "Interface Definitions", "Component Instance Definitions" and "Topology Definitions".
use Rattle.std.specs.Prelude.{ℕ, List, [], ◌∷◌}
use Rattle.fp_lexer.specs.Words.{reserved}
use Rattle.fp_lexer.specs.declared.token.Token.{Token}
use Rattle.fp_grammar.specs.Grammar.{Grammar}
use Rattle.fp_grammar.specs.Grammar.Grammar.{map, alt}
use Rattle.fp_parse_pieces.specs.Kinds.{k_open_brace}
use Rattle.fp_parse_defs.specs.Definitions.{k_type}
use Rattle.fp_parse_states.specs.Nested.{machine, elements_go_on}
use Rattle.fp_parse_components.specs.Components.{component, interface}
use Rattle.fp_parse_topologies.specs.Instances.{component_instance, k_at, k_cpu, k_priority, k_queue, k_stack}
use Rattle.fp_parse_topologies.specs.Topologies.{topology}
use Rattle.fp_parse_parts.specs.declared.bare.ModelMember.{ModelMember}
use Rattle.fp_parse_parts.specs.declared.bare.ModelMember.TheVariants as model
use Rattle.fp_parse_parts.specs.FirstWords.{kinds_of}

abbrev pub machine_member : ℕ → Grammar Token ModelMember
machine_member depth = map model.Machine (machine depth)

abbrev pub component_member : ℕ → Grammar Token ModelMember
component_member depth = map model.Component (component depth)

abbrev pub interface_member : ℕ → Grammar Token ModelMember
interface_member depth = map model.Interface (interface depth)

abbrev pub instance_member : ℕ → Grammar Token ModelMember
instance_member depth = map model.Instance (component_instance depth)

abbrev pub topology_member : ℕ → Grammar Token ModelMember
topology_member depth = map model.Topology (topology depth)

-- Machine | Component | Interface | Instance | Topology
abbrev pub any_model : ℕ → Grammar Token ModelMember
any_model depth = alt (machine_member depth) (alt (component_member depth) (alt (interface_member depth) (alt (instance_member depth) (topology_member depth))))

-- the words that these begin with
abbrev pub model_words : List ℕ
model_words = reserved "state" ∷ reserved "active" ∷ reserved "passive" ∷ reserved "queued" ∷ reserved "interface" ∷ reserved "instance" ∷ reserved "topology" ∷ []

abbrev pub model_begins : List ℕ
model_begins = kinds_of model_words

-- what they go on with
abbrev pub model_goes_on : List ℕ
model_goes_on = k_open_brace ∷ k_type ∷ k_at ∷ k_queue ∷ k_stack ∷ k_priority ∷ k_cpu ∷ elements_go_on
