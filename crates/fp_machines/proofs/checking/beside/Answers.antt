use Rattle.std.proofs.Common.{Some, sym, ◌∙◌}
use Rattle.fp_base.proofs.Calculus.{least_along, least_either}
use Rattle.fp_machine_rules.proofs.Joined.{least_whole}
use Rattle.fp_machines.specs.Layout.{laid}
use Rattle.fp_machines.proofs.Behind.{stands_first}
use Rattle.fp_machines.proofs.Laid.{whole_laid}
use Rattle.fp_machines.proofs.checking.beside.Goals as goal

pub returns-then-elements_behind : goal.returns-then-elements_behind
returns-then-elements_behind c =
    let place = c.args.place in
    let es = c.args.elements.now in
    let types = c.args.types.now in
    least_whole (laid place es types) c.args.whole (stands_first place es types (sym c.elements_behind.ensures ∙ c.if-elements_behind.true)) (whole_laid place es (Some c.args.whole) c.requires.whole)

pub returns : goal.returns
returns c =
    let place = c.args.place in
    let es = c.args.elements.now in
    least_along (sym c.lesser.ensures) (least_either (Some c.args.whole) _ (whole_laid place es (Some c.args.whole) c.requires.whole) c.in_ok-within.ensures)
