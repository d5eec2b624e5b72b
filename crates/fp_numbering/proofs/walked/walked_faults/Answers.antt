use Rattle.std.proofs.Common.{◌∙◌, ap, sym, Option}
use Rattle.fp_base.specs.declared.refusal.Refusal.{Refusal}
use Rattle.fp_base.specs.Least.{lesser_of}
use Rattle.fp_base.proofs.Calculus.{least_along, least_either}
use Rattle.fp_numbering.specs.Ends.{matches_of}
use Rattle.fp_numbering.specs.Labels.{label_at}
use Rattle.fp_numbering.proofs.walked.walked_faults.Goals as goal

pub returns : goal.returns
returns c =
    let a = c.range_faults-range.result in
    let b = c.in_ok-twice.twice in
    let d = c.in_ok-lack.lack in
    let e = c.in_ok-differ.differ in
    let f = c.none-lanes.result in
    let g = c.none-ports.result in
    let varies = c.in_ok-differ.ensures (matches_of c.args.model.now) (label_at c.args.model.now c.args.walked.now.labels) c.requires.lanes c.requires.walked.looks in
    least_along
    (sym
    (c.lesser-5.ensures ∙ ap (λ (o : Option Refusal). lesser_of a o) (c.lesser-4.ensures ∙ ap (λ (o : Option Refusal). lesser_of b o) (c.lesser-3.ensures ∙ ap (λ (o : Option Refusal). lesser_of d o) (c.lesser-2.ensures ∙ ap (λ (o : Option Refusal). lesser_of e o) c.lesser.ensures)))))
    (least_either a (lesser_of b (lesser_of d (lesser_of e (lesser_of f g)))) c.range_faults-range.ensures
    (least_either b (lesser_of d (lesser_of e (lesser_of f g))) c.in_ok-twice.ensures
    (least_either d (lesser_of e (lesser_of f g)) c.in_ok-lack.ensures (least_either e (lesser_of f g) varies (least_either f g c.none-lanes.ensures c.none-ports.ensures)))))
