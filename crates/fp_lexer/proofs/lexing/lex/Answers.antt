use Rattle.std.proofs.Common.{arith, refl, ℕ, List, subst}
use Rattle.std.specs.Prelude.{MatchResult}
use Rattle.fp_base.specs.declared.refusal.Stop.{Stop}
use Rattle.fp_lexer.specs.Tokens.{Lexed}
use Rattle.fp_lexer.specs.Broken.{IsStop, IsUnbroken}
use Rattle.fp_base.specs.declared.rule.Rule.TheVariants.{TextTooLong}
use Rattle.fp_lexer.specs.declared.token.Token.{Token}
use Rattle.fp_lexer.proofs.First.{broken_within, stops}
use Rattle.fp_lexer.proofs.lexing.lex.Goals as goal

pub refused-requires : goal.refused-requires
refused-requires c =
    let h = c.flaw_of_long.ensures.before TextTooLong 0 (refl, c.if-text-gt-LONGEST.true) in
    record { within = omega (arith, h); short = omega (arith, h) }

pub returns-then-text-gt-LONGEST : goal.returns-then-text-gt-LONGEST
returns-then-text-gt-LONGEST c = stops c.args.file c.args.text.now c.flaw_of_long.result _ c.refused.ensures c.flaw_of_long.ensures

pub returns-in-Ok : goal.returns-in-Ok
returns-in-Ok c = subst (λ (text : List ℕ). MatchResult c.lex_valid.result (λ (tokens : List Token). Lexed c.args.file text tokens × IsUnbroken c.args.file text) (λ (stop : Stop). IsStop c.args.file text stop))
    c.in-Ok.ensures.cases.0 c.lex_valid.ensures

pub refused-requires-in-Err : goal.refused-requires-in-Err
refused-requires-in-Err c =
    let flaw = c.flaw_of_mangled-flaw.result in
    let h = broken_within c.args.text.now flaw.rule flaw.at c.flaw_of_mangled-flaw.ensures.broken in
    record { within = h; short = omega (arith, h, c.if-text-gt-LONGEST.false) }

pub returns-in-Err : goal.returns-in-Err
returns-in-Err c = stops c.args.file c.args.text.now c.flaw_of_mangled-flaw.result _ c.refused-in-Err.ensures c.flaw_of_mangled-flaw.ensures
