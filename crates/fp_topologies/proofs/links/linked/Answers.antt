use Rattle.std.proofs.Common.{◌∙◌, ◌++◌, List, ℕ, length, ap}
use Rattle.fp_topologies.specs.declared.links.Link.{Link}
use Rattle.fp_topologies.specs.Links.{rows_from, targets_of}
use Rattle.fp_topologies.proofs.links.linked.Goals as goal

pub returns-clause-links : goal.returns-clause-links
returns-clause-links c = c.in_ok-graph.ensures.links

pub returns-clause-rows : goal.returns-clause-rows
returns-clause-rows c =
    let fs = c.args.written.now in
    c.in_ok-rows.ensures ∙ ap (λ (rs : List (List ℕ)). rs ++ targets_of c.as_slice.result.now) c.in_ok-graph.ensures.rows
    ∙ ap (λ (ls : List Link). rows_from (length fs) 0 fs ++ targets_of ls) (c.as_slice.ensures ∙ c.in_ok-graph.ensures.links)
