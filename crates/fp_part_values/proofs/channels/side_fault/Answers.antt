use Rattle.std.proofs.Common.{Option, None, List, flat_map, sym, subst}
use Rattle.fp_base.specs.Least.{ByOptional, InSome, IsLeast}
use Rattle.fp_tree.specs.declared.dictionary.Limit.{Limit}
use Rattle.fp_tree.specs.declared.dictionary.Limits.{Limits}
use Rattle.fp_meaning.specs.Layout.{limit_items, limits_items}
use Rattle.fp_meaning.specs.Names.{in_optional}
use Rattle.fp_type_forms.specs.Resolved.{Takes}
use Rattle.fp_type_forms.proofs.Breaking.{nothing_broken}
use Rattle.fp_part_values.specs.Broken.{BrokenByLimit, BrokenByLimits}
use Rattle.fp_part_values.proofs.channels.side_fault.Goals as goal

pub returns-in-Some : goal.returns-in-Some
returns-in-Some c source scope form wanted =
    let ws = c.args.types.now in
    let marks = c.args.marks.now in
    let rs = c.args.resolutions.now in
    subst (λ (x : Option Limits). Takes source marks rs (in_optional (limits_items scope) x) c.args.next.now c.limits_fault.new.next (IsLeast (ByOptional (BrokenByLimits source ws scope form) x) c.limits_fault.result)) (sym c.in-Some.is)
    (subst (λ (ls : List Limit). Takes source marks rs (flat_map (limit_items scope) ls) c.args.next.now c.limits_fault.new.next (IsLeast (InSome (λ k. BrokenByLimit source ws scope form) ls) c.limits_fault.result)) c.as_slice-limits.ensures
    (c.limits_fault.ensures source scope form wanted))

pub returns-in-None : goal.returns-in-None
returns-in-None c source scope form wanted =
    subst (λ (x : Option Limits). Takes source c.args.marks.now c.args.resolutions.now (in_optional (limits_items scope) x) c.args.next.now c.args.next.now (IsLeast (ByOptional (BrokenByLimits source c.args.types.now scope form) x) None)) (sym c.in-None.is)
    (nothing_broken source c.args.marks.now c.args.resolutions.now c.args.next.now (λ f h. h))
