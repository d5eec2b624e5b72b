use Rattle.std.proofs.Common.{◌≤◌, arith}
use Rattle.std.specs.Str.Lossy.{utf8_valid_len}
use Rattle.fp_lexer.specs.Bytes.{indent_at}
use Rattle.fp_lexer.specs.Tokens.{Lexeme}
use Rattle.fp_lexer.specs.Found.{what_of}
use Rattle.fp_lexer.proofs.Gives.{piece_within}
use Rattle.fp_lexer.proofs.Cuts.{fine_push, piece_grows}
use Rattle.fp_lexer.proofs.First.{first_flaw, mangled_flaw, mangled_string}
use Rattle.fp_lexer.proofs.lexing.flaw_of_mangled.Goals as goal

pub pieces-smaller : goal.pieces-smaller
pieces-smaller c = let p : Lexeme = record { what = what_of (indent_at c.args.text.now c.pieces.at) c.args.text.now c.in-Ok.field-0-0; from = c.pieces.at; past = c.in-Ok.past } in let h = piece_grows c.args.text.now p c.in-Ok.ensures.0 in omega (arith, h)

pub pieces-preserved : goal.pieces-preserved
pieces-preserved c =
    let p : Lexeme = record { what = what_of (indent_at c.args.text.now c.pieces.at) c.args.text.now c.in-Ok.field-0-0; from = c.pieces.at; past = c.in-Ok.past } in
    let e = c.in-Ok.ensures in
    record {
      within = piece_within c.args.text.now p e.0 c.pieces.invariant.within;
      fine = fine_push c.args.text.now p c.pieces.invariant.fine e.0 e.1 e.3;
    }

pub returns-then-flaw-valid : goal.returns-then-flaw-valid
returns-then-flaw-valid c =
    let f = c.pieces.invariant.fine in
    let at : c.pieces.at ≤ utf8_valid_len c.args.text.now = omega (arith, c.requires) in
    first_flaw c.args.text.now c.pieces.at f.ps c.in-Err.flaw (omega (arith, c.requires)) (omega (arith, c.requires)) c.requires.short f.cuts f.whole c.in-Err.ensures (omega (arith, c.requires, c.if-flaw-valid.true))

pub returns-else-flaw-valid : goal.returns-else-flaw-valid
returns-else-flaw-valid c =
    let f = c.pieces.invariant.fine in
    mangled_string c.args.text.now c.pieces.at c.args.valid f.ps c.in-Err.flaw c.requires.valid c.requires.within c.requires.short f.cuts f.whole c.pieces-test.true c.in-Err.ensures c.if-flaw-valid.false

pub returns : goal.returns
returns c =
    let f = c.pieces.invariant.fine in
    mangled_flaw c.args.text.now c.pieces.at c.args.valid f.ps c.requires.valid c.requires.within c.requires.short f.cuts f.whole (let h = c.pieces-test.false in omega (arith, h))
