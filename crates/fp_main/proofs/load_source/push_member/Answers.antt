use Rattle.std.specs.Prelude.{codes, decimal}
use Rattle.fp_logtext.proofs.Pushed.{first, last, next}
use Rattle.fp_main.proofs.load_source.push_member.Goals as goal

pub returns : goal.returns
returns c =
    let head = first c.args.text.now (codes "    instance w") c.in_ok-push_text.ensures in
    let number = next head (decimal c.args.number) c.in_ok-push_number.ensures in
    last number (codes "\n") c.push_text-2.new.log c.push_text-2.result c.push_text-2.ensures
