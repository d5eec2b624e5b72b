use Rattle.std.proofs.Common.{ℕ, ◌<◌, List, length, take, set, get_or, ap, sym, ◌∙◌, arith}
use Rattle.std.proofs.lemmas.List.{take_more, take_all}
use Rattle.std.proofs.lemmas.Option.{slice_get-get_or}
use Rattle.fp_graph.specs.declared.visit.Mark.{Mark}
use Rattle.fp_graph.specs.declared.visit.Mark.TheVariants.{Done}
use Rattle.fp_graph.specs.Visits.{marked}
use Rattle.fp_graph.proofs.Marks.{marked_push, marked_length}
use Rattle.fp_graph.proofs.visit.mark_all.Goals as goal

pub index_mut-requires : goal.index_mut-requires
index_mut-requires c =
    let members = c.args.members.now in
    let i = c.loop-member.member-index in
    let lt : i < length members = omega arith in
    let in_marks = c.requires i (get_or members i 0) (slice_get-get_or members i 0 lt) in
    let long = ap (λ (ms : List Mark). length ms) c.loop-member.invariant ∙ marked_length (take i members) c.args.cyclic c.args.marks.now.items in
    omega (arith, c.loop-member.marks.ok.0)

pub loop-member-preserved : goal.loop-member-preserved
loop-member-preserved c =
    let members = c.args.members.now in
    let i = c.loop-member.member-index in
    let lt : i < length members = omega arith in
    let x = get_or members i 0 in
    ap (λ (ms : List Mark). set ms x (Done c.args.cyclic)) c.loop-member.invariant
    ∙ sym (marked_push (take i members) x c.args.cyclic c.args.marks.now.items)
    ∙ ap (λ (vs : List ℕ). marked vs c.args.cyclic c.args.marks.now.items) (sym (take_more members i 0 lt))

pub returns : goal.returns
returns c =
    let members = c.args.members.now in
    c.loop-member.invariant
    ∙ ap (λ (vs : List ℕ). marked vs c.args.cyclic c.args.marks.now.items) (take_all c.loop-member.member-index members (omega arith))
