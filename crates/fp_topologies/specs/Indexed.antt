-- What an index of ports was made of.
use Rattle.std.specs.Prelude.{List}
use Rattle.fp_tables.specs.declared.component.Component.{Component}
use Rattle.fp_tables.specs.declared.kind.PortDef.{PortDef}
use Rattle.fp_tables.specs.declared.topology.Instance.{Instance}

pub record Indexed : Type 0 where
  pub ports : List PortDef
  pub components : List Component
  pub instances : List Instance
