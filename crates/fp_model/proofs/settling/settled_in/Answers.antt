use Rattle.std.proofs.Common.{List, Option, sym, subst}
use Rattle.fp_base.specs.declared.value.Value.{Value}
use Rattle.fp_base.specs.Least.{IsStop}
use Rattle.fp_meaning.specs.declared.item.Item.{Item}
use Rattle.fp_meaning.specs.Layout.{items}
use Rattle.fp_type_forms.specs.declared.resolving.Resolution.{Resolution}
use Rattle.fp_type_forms.specs.Resolved.{AreResolved}
use Rattle.fp_model.specs.Broken.{ModelBroken}
use Rattle.fp_model.proofs.Stopping.{names_stop, parts_stop, passed, states_stop, values_stop}
use Rattle.fp_model.proofs.settling.settled_in.Goals as goal

pub machines_of-requires-clause-resolved : goal.machines_of-requires-clause-resolved
machines_of-requires-clause-resolved c =
    let source = c.args.source.now in
    let values = c.as_slice-at.result.now in
    let resolutions = c.as_slice-resolutions.result.now in
    subst (λ (is : List Item). AreResolved source values resolutions is 0) (sym c.requires.laid)
    (subst (λ (vs : List (Option Value)). AreResolved source vs resolutions (items source) 0) (sym c.as_slice-at.ensures)
    (subst (λ (rs : List Resolution). AreResolved source c.in_ok-valued.valued.values rs (items source) 0) (sym c.as_slice-resolutions.ensures) c.in_ok-valued.ensures.valued.resolved))

pub returns-in_err-names-clause-stop : goal.returns-in_err-names-clause-stop
returns-in_err-names-clause-stop c =
    passed c.from_residual.result _ (IsStop (ModelBroken c.args.source.now)) c.from_residual.ensures.1 (names_stop c.args.source.now _ c.in_err-names.ensures.stop)

pub returns-in_err-uses-clause-stop : goal.returns-in_err-uses-clause-stop
returns-in_err-uses-clause-stop c =
    passed c.from_residual-in_err-uses.result _ (IsStop (ModelBroken c.args.source.now)) c.from_residual-in_err-uses.ensures.1 (names_stop c.args.source.now _ c.in_err-uses.ensures.stop)

pub returns-in_err-valued-clause-stop : goal.returns-in_err-valued-clause-stop
returns-in_err-valued-clause-stop c =
    passed c.from_residual-in_err-valued.result _ (IsStop (ModelBroken c.args.source.now)) c.from_residual-in_err-valued.ensures.1
    (values_stop c.args.source.now c.in_ok-uses.ensures.unbroken _ c.in_err-valued.ensures.stop)

pub returns-in_err-found-clause-stop : goal.returns-in_err-found-clause-stop
returns-in_err-found-clause-stop c =
    passed c.from_residual-in_err-found.result _ (IsStop (ModelBroken c.args.source.now)) c.from_residual-in_err-found.ensures.1
    (parts_stop c.args.source.now c.in_ok-uses.ensures.unbroken c.in_ok-valued.ensures.unbroken _ c.in_err-found.ensures.stop)

pub returns-in_err-machines-clause-stop : goal.returns-in_err-machines-clause-stop
returns-in_err-machines-clause-stop c =
    passed c.from_residual-in_err-machines.result _ (IsStop (ModelBroken c.args.source.now)) c.from_residual-in_err-machines.ensures.1
    (states_stop c.args.source.now c.in_ok-uses.ensures.unbroken c.in_ok-valued.ensures.unbroken c.in_ok-found.ensures.unbroken _ c.in_err-machines.ensures.stop)

pub returns-clause-unbroken : goal.returns-clause-unbroken
returns-clause-unbroken c =
    record {
      names = c.in_ok-uses.ensures.unbroken;
      values = c.in_ok-valued.ensures.unbroken;
      parts = c.in_ok-found.ensures.unbroken;
      states = c.in_ok-machines.ensures.unbroken;
    }

pub returns-clause-settled : goal.returns-clause-settled
returns-clause-settled c =
    record {
      stand = c.in_ok-valued.ensures.values;
      valued = c.in_ok-valued.ensures.valued;
      parts = c.in_ok-found.ensures.parts;
      machines = c.in_ok-machines.ensures.machines;
    }
