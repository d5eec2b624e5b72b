use Rattle.std.proofs.Common.{List, Option, sym, subst}
use Rattle.fp_tree.specs.declared.topology.Target.{Target}
use Rattle.fp_meaning.specs.Names.{in_optional}
use Rattle.fp_meaning.specs.Layout.{targets_items}
use Rattle.fp_type_forms.proofs.Taking.{taken_nothing}
use Rattle.fp_part_values.specs.Passed.{Passes}
use Rattle.fp_part_values.proofs.form_passing.pass_targets.Goals as goal

pub returns-in-Some : goal.returns-in-Some
returns-in-Some c source marks scope =
    subst (λ (x : Option (List Target)). Passes source marks c.args.resolutions.now (in_optional (targets_items scope) x) c.args.next.now c.pass_each_target.new.next) (sym c.in-Some.is)
    (subst (λ (l : List Target). Passes source marks c.args.resolutions.now (targets_items scope l) c.args.next.now c.pass_each_target.new.next) c.as_slice.ensures (c.pass_each_target.ensures source marks scope))

pub returns-in-None : goal.returns-in-None
returns-in-None c source marks scope =
    subst (λ (x : Option (List Target)). Passes source marks c.args.resolutions.now (in_optional (targets_items scope) x) c.args.next.now c.args.next.now) (sym c.in-None.is) (taken_nothing source marks c.args.resolutions.now c.args.next.now tt)
