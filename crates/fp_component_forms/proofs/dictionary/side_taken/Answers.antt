use Rattle.std.proofs.Common.{List, [], flat_map, Option, sym, subst}
use Rattle.fp_base.proofs.Options.{if_ok_then}
use Rattle.fp_tree.specs.declared.dictionary.Limits.{Limits}
use Rattle.fp_tree.specs.declared.dictionary.Limit.{Limit}
use Rattle.fp_meaning.specs.Layout.{limit_items, limits_items}
use Rattle.fp_meaning.specs.Names.{in_optional}
use Rattle.fp_type_forms.specs.Resolved.{Takes}
use Rattle.fp_type_forms.specs.Written.{AllAt}
use Rattle.fp_type_forms.proofs.Taking.{taken_nothing}
use Rattle.fp_written_parts.specs.declared.dictionary.WrittenLimit.{WrittenLimit}
use Rattle.fp_component_forms.specs.Written.{LimitIs, SideIs}
use Rattle.fp_component_forms.proofs.dictionary.side_taken.Goals as goal

pub returns-in-Some : goal.returns-in-Some
returns-in-Some c =
    if_ok_then c.limits_taken.result _ _
    (λ row h source scope.
    subst (λ (x : Option Limits). Takes source c.args.marks.now c.args.resolutions.now (in_optional (limits_items scope) x) c.args.next.now c.limits_taken.new.next (SideIs source scope c.args.high x row)) (sym c.in-Some.is)
    (subst (λ (ls : List Limit). Takes source c.args.marks.now c.args.resolutions.now (flat_map (limit_items scope) ls) c.args.next.now c.limits_taken.new.next (AllAt (λ position. LimitIs source scope c.args.high) 0 ls row)) c.as_slice-limits.ensures (h source scope)))
    c.limits_taken.ensures

pub returns-in-None : goal.returns-in-None
returns-in-None c source scope =
    subst (λ (x : Option Limits). Takes source c.args.marks.now c.args.resolutions.now (in_optional (limits_items scope) x) c.args.next.now c.args.next.now (SideIs source scope c.args.high x c.new.result)) (sym c.in-None.is)
    (taken_nothing source c.args.marks.now c.args.resolutions.now c.args.next.now (subst (λ (ws : List WrittenLimit). AllAt (λ position. LimitIs source scope c.args.high) 0 [] ws) (sym c.new.ensures) tt))
