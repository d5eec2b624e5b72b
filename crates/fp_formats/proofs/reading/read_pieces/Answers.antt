use Rattle.std.proofs.Common.{◌≡◌, ◌++◌, ℕ, List, subst, arith}
use Rattle.std.proofs.lemmas.Grind.{common_steps}
use Rattle.fp_formats.specs.Marks.{mark_text}
use Rattle.fp_formats.proofs.Steps.{Progress, ready, step}
use Rattle.fp_formats.proofs.reading.read_pieces.Goals as goal

pub take_mark-requires : goal.take_mark-requires
take_mark-requires c =
    let e : c.loop-first.rest.now ≡ mark_text c.in_ok-mark.mark ++ c.in_ok-mark.after.now = grind (arith, common_steps, c.in-Some.ensures.cases, c.in_ok-mark.ensures) in
    ready c.args.text.now c.loop-first.parts c.loop-first.plain c.in_ok-mark.after.now c.in_ok-mark.mark
    (subst (λ (t : List ℕ). Progress c.args.text.now c.loop-first.parts c.loop-first.plain t) e c.loop-first.invariant)

pub loop-first-preserved : goal.loop-first-preserved
loop-first-preserved c =
    let e : c.loop-first.rest.now ≡ mark_text c.in_ok-mark.mark ++ c.in_ok-mark.after.now = grind (arith, common_steps, c.in-Some.ensures.cases, c.in_ok-mark.ensures) in
    let p = step c.args.text.now c.loop-first.parts c.loop-first.plain c.in_ok-mark.after.now c.in_ok-mark.mark
    (subst (λ (t : List ℕ). Progress c.args.text.now c.loop-first.parts c.loop-first.plain t) e c.loop-first.invariant) in
    rw (c.in_ok-take_mark.ensures.parts, c.in_ok-take_mark.ensures.plain) p
