use Rattle.std.proofs.Common.{rules, List, Some, ap, subst}
use Rattle.fp_base.specs.declared.refusal.Stop.{Stop}
use Rattle.fp_base.specs.Least.{lesser_of, IsStop}
use Rattle.fp_base.specs.declared.refusal.Refusal.{Refusal}
use Rattle.fp_tables.specs.declared.topology.Wire.{Wire}
use Rattle.fp_numbering.specs.Answers.{links_of}
use Rattle.fp_numbering.specs.Broken.{Breaks}
use Rattle.fp_numbering.specs.Ends.{matches_of, tips_of}
use Rattle.fp_numbering.specs.declared.wiring.WiresFound.{WiresFound}
use Rattle.fp_numbering.proofs.Finding.{found_with, with_broken, with_numbered}
use Rattle.fp_numbering.proofs.wiring.with_topology.Goals as goal

pub returns-in_ok-push-in-Ok-number : goal.returns-in_ok-push-in-Ok-number
returns-in_ok-push-in-Ok-number c =
    with_numbered c.args.model.now c.args.topology c.in-Ok.at (search rules) c.requires.lies c.args.before _ c.in-Ok-number.row c.in-Ok-number.ensures.ok
    (ap (λ (ws : List (List Wire)). found_with ws c.args.before.first) c.in_ok-push-in-Ok-number.ensures.ok)

pub returns-in-Err-Broken : goal.returns-in-Err-Broken
returns-in-Err-Broken c =
    let m = c.args.model.now in
    with_broken m c.args.topology c.in-Ok.at (search rules) c.requires.lies c.args.before _ c.in-Err-Broken.refusal
    (subst (λ (s : Stop). IsStop (Breaks (matches_of m) (tips_of m (links_of m c.in-Ok.at))) s) c.in-Err-Broken.field-0-is c.in-Err-Broken.ensures.stop)
    (ap (found_with c.args.before.wires) c.lesser-first.ensures)
