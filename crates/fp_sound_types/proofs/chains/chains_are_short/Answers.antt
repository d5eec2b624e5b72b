use Rattle.std.proofs.Common.{◌+◌, ◌∙◌, Bool, not, List, sym, ap, subst, refl, ap₂, arith}
use Rattle.std.specs.List.{list_any}
use Rattle.fp_sound_types.proofs.Chained.{AreMarks, first_marks, next_marks, short_early, short_late, users, zero_is_last}
use Rattle.fp_sound_types.proofs.chains.chains_are_short.Goals as goal

abbrev any_of : List Bool → Bool
any_of marks = list_any (λ mark. mark) marks

pub loop-round-init : goal.loop-round-init
loop-round-init c = let types = c.args.types.now in subst (λ (marks : List Bool). AreMarks types 0 marks) (sym c.in_ok-marks.ensures) (first_marks types)

pub loop-round-preserved : goal.loop-round-preserved
loop-round-preserved c =
    let types = c.args.types.now in
    next_marks types c.loop-round.round (c.loop-round.round + 1) c.loop-round.marks.items c.in_ok-marks-2.marks.items c.loop-round.invariant refl
    (c.in_ok-marks-2.ensures ∙ ap₂ (users types) (c.as_slice-in-loop-round).ensures.value (zero_is_last c.loop-round.round))

pub returns-then-not-any_marked : goal.returns-then-not-any_marked
returns-then-not-any_marked c =
    sym (short_early c.args.types.now 256 c.loop-round.round c.loop-round.marks.items c.loop-round.invariant (omega arith)
    (sym (ap any_of c.as_slice.ensures.value) ∙ sym c.any_marked.ensures ∙ c.if-not-any_marked.true))

pub returns : goal.returns
returns c =
    ap not (c.any_marked-2.ensures ∙ ap any_of c.as_slice-2.ensures.value)
    ∙ short_late c.args.types.now 256 c.loop-round.round c.loop-round.marks.items c.loop-round.invariant (omega arith)
