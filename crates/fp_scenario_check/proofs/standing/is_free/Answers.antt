use Rattle.std.proofs.Common.{Bool, ◌&&◌, not, ap, ap₂, ◌∙◌}
use Rattle.fp_scenario_check.specs.Planned.{is_of}
use Rattle.fp_scenario_check.proofs.standing.is_free.Goals as goal

pub returns : goal.returns
returns c = λ scenario owns.
    ap₂ (λ (a b : Bool). a && not b) (c.is_of-is.ensures ∙ ap (λ name. is_of c.args.tables.now name c.args.instance) c.as_bytes.ensures.value) (c.has_own-has.ensures scenario owns)
