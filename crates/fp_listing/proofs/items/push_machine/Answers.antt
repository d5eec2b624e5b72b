use Rattle.std.proofs.Common.{ap}
use Rattle.std.specs.Prelude.{codes, flat_map}
use Rattle.std.specs.List.{enumerate_from}
use Rattle.fp_listing.specs.Listing.{vertex_line}
use Rattle.fp_logtext.proofs.Pushed.{first, next, same, last_same}
use Rattle.fp_listing.proofs.items.push_machine.Goals as goal

pub returns : goal.returns
returns c =
    let x = c.args.machine.now in
    let state = first c.args.out.now (codes "state ") c.in_ok-push_text.ensures in
    let machine = next state (codes "machine ") c.in_ok-push_text-2.ensures in
    let name = same machine x.name c.as_str.ensures c.in_ok-push_text-3.ensures in
    let line = next name (codes "\n") c.in_ok-push_text-4.ensures in
    last_same line (flat_map (vertex_line x) (enumerate_from 0 x.vertices)) (ap (λ vs. flat_map (vertex_line x) (enumerate_from 0 vs)) c.as_slice.ensures)
    c.push_vertices.new.out c.push_vertices.result c.push_vertices.ensures
