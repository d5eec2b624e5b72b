use Rattle.std.proofs.Common.{arith}
use Rattle.fp_grammar.proofs.BrokenLemmas.{accepted_short, accepted_whole}
use Rattle.fp_parse_defs.specs.Reading.{limit}
use Rattle.fp_parse_parts.proofs.Reaching.{halted}
use Rattle.fp_parse_parts.proofs.parsing.whole.Goals as goal

pub refused-requires-clause-broken : goal.refused-requires-clause-broken
refused-requires-clause-broken g c = accepted_short c.in-Ok.ensures c.if-to-tokens.true

pub returns-else-to-tokens : goal.returns-else-to-tokens
returns-else-to-tokens g c = accepted_whole c.in-Ok.ensures (omega (arith, c.if-to-tokens.false))

pub refused-requires-in-Err-Unexpected-clause-broken : goal.refused-requires-in-Err-Unexpected-clause-broken
refused-requires-in-Err-Unexpected-clause-broken g c = halted _ (c.requires.fits limit) _ _ _ c.in-Err-Unexpected.field-0-is c.in-Err-Unexpected.ensures
