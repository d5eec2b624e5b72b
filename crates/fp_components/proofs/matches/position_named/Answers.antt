use Rattle.std.proofs.Common.{◌∙◌, sym}
use Rattle.fp_components.proofs.Matched.{no_position}
use Rattle.fp_components.proofs.matches.position_named.Goals as goal

pub returns-in-Some : goal.returns-in-Some
returns-in-Some c all finds has = sym (finds c.args.name.now) ∙ sym c.found.ensures ∙ c.in-Some.is

pub returns-in-None : goal.returns-in-None
returns-in-None c all finds has = no_position all c.args.name.now c.found.result (c.found.ensures ∙ finds c.args.name.now) (sym c.in-None.is) has
