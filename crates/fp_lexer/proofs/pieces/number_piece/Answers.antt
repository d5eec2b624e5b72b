use Rattle.std.proofs.Common.{true, false}
use Rattle.fp_lexer.proofs.Gives.{gives_float, tail_none, hex_test}
use Rattle.fp_lexer.proofs.pieces.number_piece.Goals as goal

pub hex_piece-requires : goal.hex_piece-requires
hex_piece-requires c = record {
  within = c.requires.within;
  hex = hex_test c.args.text.now c.args.at _ _ true c.byte_at.ensures c.byte_at-2.ensures c.if-hex_starts.ensures;
}

pub returns-then-past-digits : goal.returns-then-past-digits
returns-then-past-digits c = gives_float c.args.text.now c.args.at c.digits_end-digits.result c.tail_end-past.result c.requires.within c.requires.digit
    (hex_test c.args.text.now c.args.at _ _ false c.byte_at.ensures c.byte_at-2.ensures c.if-hex_starts.ensures) c.digits_end-digits.ensures.run c.tail_end-past.ensures.end c.if-past-digits.true

pub decimal_piece-requires : goal.decimal_piece-requires
decimal_piece-requires c = record {
  within = c.requires.within;
  digit = c.requires.digit;
  bare = hex_test c.args.text.now c.args.at _ _ false c.byte_at.ensures c.byte_at-2.ensures c.if-hex_starts.ensures;
  whole = tail_none c.args.text.now c.args.at c.digits_end-digits.result c.tail_end-past.result c.digits_end-digits.ensures.run c.tail_end-past.ensures.end c.if-past-digits.false;
}
