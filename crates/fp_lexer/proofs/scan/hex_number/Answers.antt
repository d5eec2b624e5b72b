use Rattle.std.proofs.Common.{sym, ◌∙◌, arith}
use Rattle.fp_lexer.proofs.Runs.{hex_too_large}
use Rattle.fp_lexer.proofs.scan.hex_number.Goals as goal

pub returns-then-value : goal.returns-then-value
returns-then-value c =
    let h = hex_too_large c.digits.value c.args.text.now c.digits.end 170141183460469231731687303715884105728 c.digits-test.true (sym c.is_hex_digit.ensures ∙ c.if-is_hex_digit.true) (let v = c.if-value.true in omega (arith, v)) in
    omega (arith, h, c.digits.invariant.value)
