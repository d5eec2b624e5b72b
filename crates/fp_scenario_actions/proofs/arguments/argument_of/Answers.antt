use Rattle.std.proofs.Common.{refl, sym, ◌∙◌, ap}
use Rattle.serde_json.specs.View.{view}
use Rattle.fp_tables.specs.Bound.{scope_of}
use Rattle.fp_base.proofs.Options.{if_ok_then}
use Rattle.fp_scenario_actions.proofs.Arguing.{named_is, given_is}
use Rattle.fp_scenario_actions.proofs.arguments.argument_of.Goals as goal

pub returns-in-Some : goal.returns-in-Some
returns-in-Some c =
    if_ok_then c.named.result _ _ (λ m e. named_is c.args.types.now (scope_of c.args.bound.now) c.args.kind (view c.args.value.now) c.in-Some.name.now m (sym c.in-Some.ensures) e) c.named.ensures

pub returns-in_ok-made-in-None : goal.returns-in_ok-made-in-None
returns-in_ok-made-in-None c =
    given_is c.args.types.now (scope_of c.args.bound.now) c.args.kind (view c.args.value.now) _ _ c.given.result (sym c.in-None.ensures) c.wanted_of-wanted.ensures c.given.ensures c.in_ok-made-in-None.ensures
