use Rattle.std.proofs.Common.{List, sym, subst}
use Rattle.fp_base.specs.Least.{IsLeast}
use Rattle.fp_base.proofs.Calculus.{least_along, least_either}
use Rattle.fp_dictdefs.specs.declared.listed.Listed.{Listed}
use Rattle.fp_dictdefs.specs.Broken.{BrokenList}
use Rattle.fp_dictdefs.proofs.faults.lists_fault.Goals as goal

pub returns : goal.returns
returns c =
    least_along (sym c.lesser.ensures)
    (least_either c.lesser-near.result c.lesser-far.result
    (least_along (sym c.lesser-near.ensures)
    (least_either c.in_ok-commands.commands c.in_ok-events.events
    (subst (λ (xs : List Listed). IsLeast (BrokenList xs) c.in_ok-commands.commands) c.in_ok-lists.ensures.commands c.in_ok-commands.ensures)
    (subst (λ (xs : List Listed). IsLeast (BrokenList xs) c.in_ok-events.events) c.in_ok-lists.ensures.events c.in_ok-events.ensures)))
    (least_along (sym c.lesser-far.ensures)
    (least_either c.in_ok-channels.channels c.in_ok-params.params
    (subst (λ (xs : List Listed). IsLeast (BrokenList xs) c.in_ok-channels.channels) c.in_ok-lists.ensures.channels c.in_ok-channels.ensures)
    (subst (λ (xs : List Listed). IsLeast (BrokenList xs) c.in_ok-params.params) c.in_ok-lists.ensures.params c.in_ok-params.ensures))))
