use Rattle.std.proofs.Common.{List, ap, sym, subst}
use Rattle.fp_base.specs.Least.{InSome, IsLeast}
use Rattle.fp_tree.specs.declared.instance.Phase.{Phase}
use Rattle.fp_meaning.specs.Read.{read}
use Rattle.fp_meaning.specs.Sites.{ModelDef}
use Rattle.fp_part_values.specs.Phases.{BrokenByDefinition, BrokenByPhase}
use Rattle.fp_part_values.proofs.phases.definition_fault.Goals as goal

pub returns-in-Instance : goal.returns-in-Instance
returns-in-Instance c =
    subst (λ (d : ModelDef). IsLeast (BrokenByDefinition d) c.phases_fault.result) (sym (ap read c.in-Instance.is))
    (subst (λ (ps : List Phase). IsLeast (InSome (λ k. BrokenByPhase) ps) c.phases_fault.result) c.as_slice.ensures c.phases_fault.ensures)
