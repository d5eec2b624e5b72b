use Rattle.fp_component_rules.proofs.Ordered.{serves_within}
use Rattle.fp_component_rules.proofs.gift.gift_of.Goals as goal

pub returns : goal.returns
returns c fs all within = c.gift_among.ensures fs (serves_within fs c.args.gifts.now c.args.members.now all within)
