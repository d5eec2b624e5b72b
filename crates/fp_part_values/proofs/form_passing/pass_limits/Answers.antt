use Rattle.std.proofs.Common.{List, Option, flat_map, sym, subst}
use Rattle.fp_tree.specs.declared.dictionary.Limits.{Limits}
use Rattle.fp_tree.specs.declared.dictionary.Limit.{Limit}
use Rattle.fp_meaning.specs.Names.{in_optional}
use Rattle.fp_meaning.specs.Layout.{limit_items, limits_items}
use Rattle.fp_type_forms.proofs.Taking.{taken_nothing}
use Rattle.fp_part_values.specs.Passed.{Passes}
use Rattle.fp_part_values.proofs.form_passing.pass_limits.Goals as goal

pub returns-in-Some : goal.returns-in-Some
returns-in-Some c source marks scope =
    subst (λ (x : Option Limits). Passes source marks c.args.resolutions.now (in_optional (limits_items scope) x) c.args.next.now c.pass_each_limit.new.next) (sym c.in-Some.is)
    (subst (λ (l : List Limit). Passes source marks c.args.resolutions.now (flat_map (limit_items scope) l) c.args.next.now c.pass_each_limit.new.next) c.as_slice.ensures (c.pass_each_limit.ensures source marks scope))

pub returns-in-None : goal.returns-in-None
returns-in-None c source marks scope =
    subst (λ (x : Option Limits). Passes source marks c.args.resolutions.now (in_optional (limits_items scope) x) c.args.next.now c.args.next.now) (sym c.in-None.is) (taken_nothing source marks c.args.resolutions.now c.args.next.now tt)
