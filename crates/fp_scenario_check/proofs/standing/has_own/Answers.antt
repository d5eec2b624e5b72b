use Rattle.std.proofs.Common.{◌∙◌, ap}
use Rattle.std.specs.List.{list_any}
use Rattle.fp_scenario_check.specs.Keys.{is_own}
use Rattle.fp_scenario_check.proofs.standing.has_own.Goals as goal

pub returns : goal.returns
returns c = λ scenario owns.
    c.contains.ensures ∙ owns c.args.instance c.as_str.result ∙ ap (λ on. list_any (is_own c.args.tables.now c.args.instance on) scenario.handlers) c.as_str.ensures
