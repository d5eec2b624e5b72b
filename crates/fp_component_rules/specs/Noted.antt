-- The names of ports as a set.
use Rattle.std.specs.Prelude.{◌≡◌, ℕ, List}
use Rattle.std.specs.BTreeSet.{BTreeSet}
use denote.Ref.{Bor}
use Rattle.fp_base.specs.NameSets.{has_name}
use Rattle.fp_written_parts.specs.declared.port.WrittenPort.{WrittenPort}
use Rattle.fp_component_rules.specs.Firsts.{has_port}

-- the set has the names of the ports
abbrev pub AreNames : List WrittenPort → BTreeSet (Bor (List ℕ)) → Type 0
AreNames ports names = (name : List ℕ) → has_name names name ≡ has_port name ports
