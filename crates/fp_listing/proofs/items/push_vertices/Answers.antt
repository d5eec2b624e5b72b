use Rattle.std.proofs.Common.{arith}
use Rattle.fp_listing.specs.Listing.{vertex_line}
use Rattle.fp_listing.proofs.Numbered.{one_more, all_numbered}
use Rattle.fp_listing.proofs.items.push_vertices.Goals as goal

pub loop-at-preserved : goal.loop-at-preserved
loop-at-preserved c =
    one_more (vertex_line c.args.machine.now) c.args.vertices.now c.loop-at.at c.index-vertices-at.result c.loop-at-test.true c.args.out.now c.loop-at.out c.push_vertex.new.out
    c.index-vertices-at.is c.loop-at.invariant c.in_ok-push_vertex.ensures

pub returns : goal.returns
returns c = all_numbered (vertex_line c.args.machine.now) c.args.vertices.now c.loop-at.at (omega (arith, c.loop-at-test.false, c.loop-at.auto)) c.args.out.now c.loop-at.out c.loop-at.invariant
