use Rattle.std.proofs.Common.{◌∙◌, ap, refl, rules}
use Rattle.std.proofs.lemmas.Int.{to_z-of_z}
use mir.Syntax.{w128}
use mir.Val.{SFits}
use Rattle.fp_base.specs.declared.value.Value.{Int}
use Rattle.fp_components.proofs.channels.limit_of.Goals as goal

pub returns : goal.returns
returns c has =
    let fits : SFits w128 c.number_in.result = search rules in
    record { high = refl; color = c.color_code.ensures; value = (has.0, has.1, ap Int (to_z-of_z w128 c.number_in.result fits ∙ c.number_in.ensures has.0 has.1)) }
