use Rattle.std.specs.Prelude.{codes, decimal}
use Rattle.fp_logtext.proofs.Pushed.{first, last, next}
use Rattle.fp_main.proofs.load_source.push_instance.Goals as goal

pub returns : goal.returns
returns c =
    let head = first c.args.text.now (codes "  instance w") c.in_ok-push_text.ensures in
    let number = next head (decimal c.args.number) c.in_ok-push_number.ensures in
    let base = next number (codes ": W base id ") c.in_ok-push_text-2.ensures in
    let id = next base (decimal c.args.number) c.in_ok-push_number-2.ensures in
    last id (codes " queue size 4\n") c.push_text-3.new.log c.push_text-3.result c.push_text-3.ensures
