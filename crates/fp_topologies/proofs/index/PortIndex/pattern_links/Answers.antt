use Rattle.std.proofs.Common.{◌≡◌, ◌∙◌, ap, List, Some}
use Rattle.std.specs.Prelude.{filter_map}
use Rattle.fp_base.proofs.Options.{if_ok_then}
use Rattle.fp_tables.specs.declared.topology.Link.{Link}
use Rattle.fp_topologies.specs.Patterns.{join_at, joins_at}
use Rattle.fp_topologies.proofs.Pattern.{listed_whole}
use Rattle.fp_topologies.proofs.index.PortIndex.pattern_links.Goals as goal

pub returns-in-Some : goal.returns-in-Some
returns-in-Some c =
    let p = c.args.pattern.now in
    let listed : Some c.as_slice-in-Some.result.now ≡ p.targets = cc in
    let are : c.as_slice.result.now ≡ joins_at c.args.self.now.ports c.args.self.now.components c.args.self.now.instances p.kind p.of.instance =
    c.as_slice.ensures ∙ c.in_ok-joins.ensures ∙ ap (filter_map (join_at c.args.self.now.ports c.args.self.now.components c.args.self.now.instances p.of.instance)) c.joins_of.ensures in
    if_ok_then c.listed_links.result _ _
    (λ (links : List Link) e. e ∙ listed_whole c.args.self.now.ports c.args.self.now.components c.args.self.now.instances c.args.held.now p c.as_slice-in-Some.result.now c.as_slice.result.now listed are) c.listed_links.ensures
