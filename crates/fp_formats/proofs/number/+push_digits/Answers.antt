use Rattle.std.proofs.Common.{◌<◌, ◌^◌, arith}
use Rattle.std.proofs.lemmas.Grind.{common_steps}
use Rattle.fp_formats.proofs.Digits.{more_digits, one_digit}
use Rattle.fp_formats.proofs.number.+push_digits.Goals.{then-number-base+in_ok-push_digits, else-number-base}
use Rattle.fp_formats.proofs.number.+push_digits.Goals as goal

pub returns : goal.returns
returns t c =
    elim c.if-number-base.branch [
      | then-number-base+in_ok-push_digits w ↦
          let f : c.args.number < 2 ^ 128 = omega arith in
          let m = more_digits c.args.base c.args.number c.requires f w.if-number-base.true in
          grind (arith, common_steps, m)
      | else-number-base w ↦
          let m = one_digit c.args.base c.args.number c.requires w.if-number-base.false in
          grind (arith, common_steps, m)
    ]
