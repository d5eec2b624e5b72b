-- What is known of the ports of a model from elsewhere.
use Rattle.std.specs.Prelude.{◌≡◌, ℕ, List, slice_get, Some, true}
use Rattle.fp_tables.specs.Components.{is_from_1_to, suits_its_role}
use Rattle.fp_tables.specs.Sound.{each_port}
use Rattle.fp_tables.specs.declared.kind.PortDef.{PortDef}
use Rattle.fp_tables.specs.declared.model.Model.{Model}

-- no two definitions of ports have one name
abbrev pub DefinitionsDiffer : List PortDef → Type 0
DefinitionsDiffer ds = (j k : ℕ) (d e : PortDef) → slice_get ds j ≡ Some d → slice_get ds k ≡ Some e → d.name ≡ e.name → j ≡ k

-- what of sound ports the connections of topologies rest on
pub record HasSuitingPorts (m : Model) : Type 0 where
  pub definitions_differ : DefinitionsDiffer m.ports
  pub suit_their_roles : each_port (suits_its_role m.ports) m ≡ true
  pub are_of_size : each_port (λ p. is_from_1_to 1024 p.size) m ≡ true
