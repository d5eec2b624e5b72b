use Rattle.std.proofs.Common.{◌≡◌, ◌∙◌, true, [], ap, Some, arith}
use Rattle.std.proofs.lemmas.Grind.{common_steps}
use Rattle.fp_base.specs.Rendered.{rendered}
use Rattle.fp_formats.specs.Fits.{fits}
use Rattle.fp_formats.specs.Marks.{pending}
use Rattle.fp_formats.proofs.Plain.{plain_format, plain_fits, plain_rendered}
use Rattle.fp_formats.proofs.rendering.print_plain.Goals as goal

pub returns-in_err-format-clause-undoubled : goal.returns-in_err-format-clause-undoubled
returns-in_err-format-clause-undoubled c plain h =
    let k = c.in_err-format.ensures.only_format (pending plain) (plain_format c.args.text.now plain h) in
    grind (arith, common_steps, k, c.from_residual.ensures)

pub returns-then-takes_no_value-clause-undoubled : goal.returns-then-takes_no_value-clause-undoubled
returns-then-takes_no_value-clause-undoubled c plain h =
    let k = c.in_ok-format.ensures.only_format (pending plain) (plain_format c.args.text.now plain h) in
    let v = c.new-values.ensures in
    let p : rendered c.in_ok-format.format.parts c.new-values.result ≡ plain = rw (k, v) (plain_rendered plain) in
    ap Some (c.in_ok-render.ensures ∙ p)

pub returns-clause-undoubled : goal.returns-clause-undoubled
returns-clause-undoubled c plain h =
    let k = c.in_ok-format.ensures.only_format (pending plain) (plain_format c.args.text.now plain h) in
    let t : fits c.in_ok-format.format.parts [] ≡ true = rw k (plain_fits plain) in
    let r : c.takes_no_value.result ≡ true = c.takes_no_value.ensures ∙ t in
    let f = c.if-takes_no_value.false in
    absurd (cc)
