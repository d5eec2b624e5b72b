use Rattle.std.proofs.Common.{length, ap, arith, List}
use Rattle.fp_tables.specs.declared.machine.Vertex.{Vertex}
use Rattle.fp_sound_machines.proofs.Going.{all_closed, all_behind}
use Rattle.fp_sound_machines.proofs.choices.behind_choices.Goals as goal

pub returns : goal.returns
returns c =
    let m = c.args.machine.now in
    let found = c.loop-choice.found.items in
    let all = ap (λ (vs : List Vertex). length vs) c.as_slice-vertices.ensures in
    let closed = all_closed m.vertices found (λ v lt. c.loop-choice.invariant.closed v (omega (arith, all, lt, c.loop-choice-test.false))) in
    all_behind c.args.types.now m found c.loop-choice.invariant.known closed
