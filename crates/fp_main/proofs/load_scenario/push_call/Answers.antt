use Rattle.std.proofs.Common.{ℕ, ◌+◌, ap}
use Rattle.std.specs.Prelude.{codes, decimal}
use Rattle.fp_logtext.proofs.Pushed.{first, last, same}
use Rattle.fp_main.proofs.load_scenario.push_call.Goals as goal

pub returns : goal.returns
returns c =
    let head = first c.args.text.now (codes ",{\"call\":\"Gen.w0.feed\",\"with\":[") c.in_ok-push_text.ensures in
    let number = same head (decimal (c.args.number + 1)) (ap (λ (n : ℕ). decimal (n + 1)) c.from.ensures) c.in_ok-push_number.ensures in
    last number (codes "]}") c.push_text-2.new.log c.push_text-2.result c.push_text-2.ensures
