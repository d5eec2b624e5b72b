use Rattle.std.proofs.Common.{None, Some, sym, subst}
use Rattle.fp_parse_parts.specs.declared.parsing.Members.{Members}
use Rattle.fp_gather.specs.gathering.Answers.{IsFound}
use Rattle.fp_gather.proofs.FoundInFiles.{found_given, found_stopped}
use Rattle.fp_gather.proofs.gathering.reading.parsed.Goals as goal

pub returns-in-Ok : goal.returns-in-Ok
returns-in-Ok c = λ r ei has. found_given c.one_break.ensures.none r c.args.inside c.args.tokens.now c.in-Ok.given ei has c.in-Ok.ensures

pub returns-in-Err-Broken : goal.returns-in-Err-Broken
returns-in-Err-Broken c = λ r ei has.
    subst (λ (x : Members). IsFound r (record { given = x; tokens = None; grammar = Some c.in-Err-Broken.refusal })) (sym c.nothing_in.ensures)
    (found_stopped c.one_break.ensures.one r c.args.inside c.args.tokens.now c.in-Err-Broken.refusal ei has (rw c.in-Err-Broken.field-0-is at c.in-Err-Broken.ensures))
