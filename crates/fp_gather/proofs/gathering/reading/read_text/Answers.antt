use Rattle.std.proofs.Common.{Bool, Option, None, Some, cond, sym, ap, subst, ◌∙◌}
use Rattle.std.proofs.lemmas.Bool.{MatchBool-at_true, MatchBool-at_false}
use Rattle.fp_base.proofs.Options.{if_ok_then}
use Rattle.fp_base.specs.declared.refusal.Refusal.{Refusal}
use Rattle.fp_base.specs.declared.rule.Rule.TheVariants.{TextTooLong}
use Rattle.fp_base.specs.Least.{broken_at}
use Rattle.fp_gather.specs.gathering.Answers.{IsFound}
use Rattle.fp_gather.specs.gathering.Reading.{nothing_in}
use Rattle.fp_gather.specs.declared.gathering.reading.FileFound.{FileFound}
use Rattle.fp_gather.proofs.FoundInFiles.{found_in_broken, found_in_long, has_tokens}
use Rattle.fp_gather.proofs.gathering.reading.read_text.Goals as goal

pub returns-then-passes : goal.returns-then-passes
returns-then-passes c = λ r en et ei p.
    subst (λ (f : FileFound). IsFound r f) (sym c.broken.ensures)
    (found_in_long r c.args.number c.args.text.now c.args.inside en et ei c.refusal_if-limit.result c.place_of.result (MatchBool-at_true _ _ c.if-passes.true p)
    (c.refusal_if-limit.ensures ∙ ap (λ (b : Bool). cond b (Some (broken_at TextTooLong c.place_of.result)) None) c.if-passes.true) c.place_of.ensures c.in-Ok.ensures.1)

pub returns-in-Ok : goal.returns-in-Ok
returns-in-Ok c =
    if_ok_then c.parsed.result _ _
    (λ found h r en et ei p. h r ei (has_tokens r c.args.number c.args.text.now c.args.inside en et ei c.in-Ok.tokens (MatchBool-at_false _ _ c.if-passes.false p) c.in-Ok.ensures.0 c.in-Ok.ensures.1)) c.parsed.ensures

pub returns-in-Err-Broken : goal.returns-in-Err-Broken
returns-in-Err-Broken c = λ r en et ei p.
    let stop = (rw c.in-Err-Broken.field-0-is at c.in-Err-Broken.ensures) in
    subst (λ (f : FileFound). IsFound r f) (sym (c.broken-in-Err-Broken.ensures ∙ ap (λ (o : Option Refusal). record { given = nothing_in c.args.inside; tokens = o; grammar = None }) c.lesser.ensures))
    (found_in_broken r c.args.number c.args.text.now c.args.inside en et ei c.args.passes c.refusal_if-limit.result c.place_of.result c.in-Err-Broken.refusal p c.refusal_if-limit.ensures c.place_of.ensures stop.0 stop.1)
