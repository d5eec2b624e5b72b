use Rattle.std.proofs.Common.{List, [], flat_map, Option, sym, subst}
use Rattle.fp_base.proofs.Options.{if_ok_then}
use Rattle.fp_tree.specs.declared.machine.Behavior.{Behavior}
use Rattle.fp_tree.specs.declared.machine.BehaviorElement.{BehaviorElement}
use Rattle.fp_tables.specs.declared.kind.Kind.{Kind}
use Rattle.fp_meaning.specs.Layout.{behavior_items, element_items}
use Rattle.fp_meaning.specs.Names.{in_optional}
use Rattle.fp_names.specs.Named.{elements_in}
use Rattle.fp_type_forms.specs.Resolved.{AreResolved}
use Rattle.fp_type_forms.proofs.Taking.{taken_all}
use Rattle.fp_source_parts.specs.DeclaredElements.{DeclareAll}
use Rattle.fp_source_parts.proofs.kinds.kinds_in.Goals as goal

pub returns-in-None : goal.returns-in-None
returns-in-None c source scope h =
    subst (λ (b : Option Behavior). DeclareAll source scope (elements_in b) c.new.result) (sym c.in-None.is)
    (subst (λ (ks : List (Option Kind)). DeclareAll source scope [] ks) (sym c.new.ensures) tt)

pub returns-in-Some : goal.returns-in-Some
returns-in-Some c =
    if_ok_then c.kinds_taken.result _ _
    (λ ks t source scope h.
    subst (λ (b : Option Behavior). AreResolved source c.args.marks.now c.args.resolutions.now (in_optional (behavior_items scope) b) c.args.start → DeclareAll source scope (elements_in b) ks) (sym c.in-Some.is)
    (subst (λ (es : List BehaviorElement). AreResolved source c.args.marks.now c.args.resolutions.now (flat_map (element_items scope) es) c.args.start → DeclareAll source scope es ks) c.as_slice-elements.ensures
    (taken_all source c.args.marks.now c.args.resolutions.now (flat_map (element_items scope) c.as_slice-elements.result.now) c.args.start c.kinds_taken.new.next (t source scope))) h)
    c.kinds_taken.ensures
