use Rattle.std.proofs.Common.{◌∙◌, ◌++◌, List, ℕ, ap, subst}
use Rattle.std.specs.Prelude.{IfOk}
use Rattle.fp_topologies.specs.ImportFirsts.{AreFirsts}
use Rattle.fp_topologies.specs.Held.{public_of}
use Rattle.fp_topologies.proofs.MemberSteps.{public_same}
use Rattle.fp_topologies.proofs.holding.with_public_at.Goals as goal

pub returns : goal.returns
returns c all before =
    subst (λ (ns : List ℕ). IfOk c.with_public.result (AreFirsts (all ++ ns))) (ap public_of c.members_at.ensures ∙ public_same c.args.written.now c.args.topology) (c.with_public.ensures all before)
