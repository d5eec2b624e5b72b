use Rattle.std.proofs.Common.{sym, ◌∙◌, refl}
use Rattle.fp_lexer.specs.Bytes.{indent_at}
use Rattle.fp_lexer.specs.Tokens.{Lexeme}
use Rattle.fp_lexer.specs.Found.{what_of}
use Rattle.fp_lexer.proofs.First.{long_mangled, long_flawed, long_first, long_string}
use Rattle.fp_lexer.proofs.lexing.flaw_of_long.Goals as goal

pub returns-then-valid_len-eq0 : goal.returns-then-valid_len-eq0
returns-then-valid_len-eq0 c = long_mangled c.args.text.now (sym c.valid_len.ensures ∙ c.if-valid_len-eq0.true) c.requires

pub returns-in-Ok : goal.returns-in-Ok
returns-in-Ok c =
    let p : Lexeme = record { what = what_of (indent_at c.args.text.now 0) c.args.text.now c.in-Ok.field-0.0; from = 0; past = c.in-Ok.field-0.1 } in
    let e = c.in-Ok.ensures in
    long_first c.args.text.now p (λ z. c.if-valid_len-eq0.false (c.valid_len.ensures ∙ z)) e.0 e.1 refl c.requires

pub returns-then-flaw-eq0 : goal.returns-then-flaw-eq0
returns-then-flaw-eq0 c = long_flawed c.args.text.now c.in-Err.flaw (λ z. c.if-valid_len-eq0.false (c.valid_len.ensures ∙ z)) c.requires c.in-Err.ensures c.if-flaw-eq0.true

pub returns-else-flaw-eq0 : goal.returns-else-flaw-eq0
returns-else-flaw-eq0 c = long_string c.args.text.now c.in-Err.flaw (λ z. c.if-valid_len-eq0.false (c.valid_len.ensures ∙ z)) c.requires c.in-Err.ensures c.if-flaw-eq0.false
