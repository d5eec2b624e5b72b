use Rattle.fp_component_forms.proofs.Ranked.{ranks_are}
use Rattle.fp_component_forms.proofs.positions.ranks_among.Goals as goal

pub returns : goal.returns
returns c source laid = ranks_are c.args.group source c.args.items.now c.in_ok-ranks.ranks laid c.in_ok-ranks.ensures
