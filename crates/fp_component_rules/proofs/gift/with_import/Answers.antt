use Rattle.std.proofs.Common.{◌∙◌, None, Some, slice_get, sym, ap}
use Rattle.fp_base.proofs.Options.{no_some}
use Rattle.fp_component_rules.proofs.Summed.{if_served}
use Rattle.fp_component_rules.proofs.gift.with_import.Goals as goal

pub returns-in-Some : goal.returns-in-Some
returns-in-Some c fs before i is h served =
    if_served fs before i c.args.gift c.in-Some.more.now c.args.gifts.now c.with_gift.result h served (c.in-Some.ensures ∙ ap (slice_get c.args.gifts.now) (sym is)) c.with_gift.ensures.sums
    c.with_gift.ensures.leads

pub returns-in-None : goal.returns-in-None
returns-in-None c fs before i is h served = no_some (c.in-None.ensures ∙ ap (slice_get c.args.gifts.now) (sym is) ∙ served.here)
