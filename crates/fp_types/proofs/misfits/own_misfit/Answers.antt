use Rattle.std.proofs.Common.{None, sym, subst}
use Rattle.fp_base.specs.Least.{IsLeast}
use Rattle.fp_base.proofs.Calculus.{least_none}
use Rattle.fp_type_sizes.specs.declared.written.Own.{Own}
use Rattle.fp_types.specs.Converting.{opened, Target}
use Rattle.fp_types.specs.Faults.{Misfits}
use Rattle.fp_types.specs.Meeting.{IsReachedBy, OwnMisfits}
use Rattle.fp_types.proofs.misfits.own_misfit.Goals as goal

pub returns-in-Has : goal.returns-in-Has
returns-in-Has c = λ enough.
    let types = c.args.types.now in
    let v = opened c.in-Has.value in
    let form = c.args.form.now in
    let at = subst (λ (t : Target). IsReachedBy types v t → IsLeast (Misfits types c.args.place v t) c.misfit_at.result) c.own_target.ensures c.misfit_at.ensures in
    subst (λ (o : Own). IsLeast (OwnMisfits types c.args.place o form) c.misfit_at.result) (sym c.in-Has.is) (at (λ test passes m. enough))

pub returns-in-Unwritten : goal.returns-in-Unwritten
returns-in-Unwritten c = λ enough. subst (λ (o : Own). IsLeast (OwnMisfits c.args.types.now c.args.place o c.args.form.now) None) (sym c.in-Unwritten.is) (least_none (λ f m. m))

pub returns-in-NoValue : goal.returns-in-NoValue
returns-in-NoValue c = λ enough. subst (λ (o : Own). IsLeast (OwnMisfits c.args.types.now c.args.place o c.args.form.now) None) (sym c.in-NoValue.is) (least_none (λ f m. m))
