use Rattle.std.proofs.Common.{sym, ap, subst}
use Rattle.std.specs.Option.{option_to_list}
use Rattle.fp_base.proofs.Options.{if_ok_then}
use Rattle.fp_tree.specs.declared.source.Source.{Source}
use Rattle.fp_meaning.specs.declared.item.Item.{Item}
use Rattle.fp_type_forms.specs.Resolved.{AreResolved, parts_of_item}
use Rattle.fp_type_forms.specs.Written.{AllAt}
use Rattle.fp_component_forms.specs.Positions.{ArePositions}
use Rattle.fp_component_forms.specs.Written.{ComponentIs, ItemNamesStand, component_declared}
use Rattle.fp_component_forms.proofs.Lists.{given_nothing}
use Rattle.fp_component_forms.proofs.writing.component_declared.Goals as goal

pub returns-in-Defined : goal.returns-in-Defined
returns-in-Defined c =
    given_nothing ComponentIs component_declared (λ (source : Source). ArePositions source c.args.positions.now) c.args.marks.now c.args.resolutions.now c.args.start c.args.item.now (ap component_declared c.in-Defined.is)

pub returns-in-Enumerated : goal.returns-in-Enumerated
returns-in-Enumerated c =
    given_nothing ComponentIs component_declared (λ (source : Source). ArePositions source c.args.positions.now) c.args.marks.now c.args.resolutions.now c.args.start c.args.item.now (ap component_declared c.in-Enumerated.is)

pub returns-in-Used : goal.returns-in-Used
returns-in-Used c =
    given_nothing ComponentIs component_declared (λ (source : Source). ArePositions source c.args.positions.now) c.args.marks.now c.args.resolutions.now c.args.start c.args.item.now (ap component_declared c.in-Used.is)

pub returns-in-Written : goal.returns-in-Written
returns-in-Written c =
    given_nothing ComponentIs component_declared (λ (source : Source). ArePositions source c.args.positions.now) c.args.marks.now c.args.resolutions.now c.args.start c.args.item.now (ap component_declared c.in-Written.is)

pub returns-in-Declared : goal.returns-in-Declared
returns-in-Declared c =
    if_ok_then c.component_in.result _ _
    (λ one g source ready named h.
    subst (λ (i : Item). ItemNamesStand source i → AreResolved source c.args.marks.now c.args.resolutions.now (parts_of_item i) c.args.start → AllAt (λ position. ComponentIs source) 0 (component_declared i) (option_to_list one)) (sym c.in-Declared.is)
    (λ has all. g source ready has all) named h)
    c.component_in.ensures
