-- What is known of the names of a machine.
use Rattle.std.specs.Prelude.{◌≡◌, List}
use Rattle.fp_tree.specs.declared.machine.BehaviorElement.{BehaviorElement}
use Rattle.fp_machines.specs.Found.{AreScopes}
use Rattle.fp_machines.specs.Outline.{outline}
use Rattle.fp_machines.specs.declared.naming.Names.{Names}
use Rattle.fp_machines.specs.Counted.{AreCounted}

pub record AreNames (es : List BehaviorElement) (names : Names) : Type 0 where
  pub scopes : AreScopes es (outline es) names.scopes
  pub outlines : names.outlines ≡ outline es
  pub counted : AreCounted es names.counts
