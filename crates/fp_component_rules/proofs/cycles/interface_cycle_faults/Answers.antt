use Rattle.std.proofs.Common.{◌∙◌, ◌≤◌, Bool, List, ℕ, drop, length, sym, ap, subst}
use Rattle.fp_base.specs.Least.{InSome, IsLeast}
use Rattle.fp_graph.specs.Chains.{AreFlags, IsOnCycle}
use Rattle.fp_graph.specs.Rows.{IsListed}
use Rattle.fp_component_rules.specs.declared.links.Link.{Link}
use Rattle.fp_component_rules.specs.Flagged.{FlaggedLink}
use Rattle.fp_component_rules.proofs.Linked.{enough, least_broken}
use Rattle.fp_component_rules.proofs.cycles.interface_cycle_faults.Goals as goal

pub behind-flags-requires : goal.behind-flags-requires
behind-flags-requires c =
    let fs = c.args.interfaces.now in
    let cyclic = c.in_ok-chained.chained.cyclic.items in
    let flagged =
    subst (λ (rows : List (List ℕ)). AreFlags (length rows) (IsOnCycle (IsListed rows)) cyclic) (c.as_slice.ensures.value ∙ c.in_ok-graph.ensures.rows) c.in_ok-chained.ensures.cyclic in
    subst (λ (flags : List Bool). length fs ≤ length flags) (sym c.as_slice-2.ensures.value) (enough fs c.requires cyclic flagged c.args.rule)

pub returns : goal.returns
returns c =
    let fs = c.args.interfaces.now in
    let cyclic = c.in_ok-chained.chained.cyclic.items in
    let first = c.least_flagged.result in
    let flagged =
    subst (λ (rows : List (List ℕ)). AreFlags (length rows) (IsOnCycle (IsListed rows)) cyclic) (c.as_slice.ensures.value ∙ c.in_ok-graph.ensures.rows) c.in_ok-chained.ensures.cyclic in
    let flags_are = c.behind-flags.ensures ∙ ap (λ (flags : List Bool). drop (length fs) flags) c.as_slice-2.ensures.value in
    let links_are = c.as_slice-3.ensures ∙ c.in_ok-graph.ensures.links in
    least_broken fs c.requires cyclic flagged c.args.rule first
    (subst (λ (links : List Link). IsLeast (InSome (FlaggedLink (drop (length fs) cyclic) c.args.rule) links) first) links_are
    (subst (λ (flags : List Bool). IsLeast (InSome (FlaggedLink flags c.args.rule) c.as_slice-3.result.now) first) flags_are c.least_flagged.ensures))
