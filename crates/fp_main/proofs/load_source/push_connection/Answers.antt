use Rattle.std.proofs.Common.{ℕ, ◌+◌, ap}
use Rattle.std.specs.Prelude.{codes, decimal}
use Rattle.fp_logtext.proofs.Pushed.{first, last, next, same}
use Rattle.fp_main.proofs.load_source.push_connection.Goals as goal

pub returns : goal.returns
returns c =
    let head = first c.args.text.now (codes "      w") c.in_ok-push_text.ensures in
    let number = next head (decimal c.args.number) c.in_ok-push_number.ensures in
    let arrow = next number (codes ".next -> w") c.in_ok-push_text-2.ensures in
    let next_number = same arrow (decimal (c.args.number + 1)) (ap (λ (n : ℕ). decimal (n + 1)) c.from.ensures) c.in_ok-push_number-2.ensures in
    last next_number (codes ".feed\n") c.push_text-3.new.log c.push_text-3.result c.push_text-3.ensures
