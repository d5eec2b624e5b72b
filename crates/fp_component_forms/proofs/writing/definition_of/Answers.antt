use Rattle.std.proofs.Common.{sym, ap, subst}
use Rattle.std.specs.Option.{option_to_list}
use Rattle.fp_base.proofs.Options.{if_ok_then}
use Rattle.fp_tree.specs.declared.source.Source.{Source}
use Rattle.fp_tree.specs.declared.definition.Def.{Def}
use Rattle.fp_meaning.specs.declared.item.Item.{Item}
use Rattle.fp_meaning.specs.Layout.{part_items}
use Rattle.fp_meaning.specs.Names.{Path}
use Rattle.fp_type_forms.specs.Resolved.{AreResolved, parts_of_item}
use Rattle.fp_type_forms.specs.Written.{AllAt}
use Rattle.fp_component_forms.specs.Written.{DefNamesStand, ItemNamesStand, PortDefIs, port_in, port_declared}
use Rattle.fp_component_forms.proofs.Lists.{given_nothing}
use Rattle.fp_component_forms.proofs.writing.definition_of.Goals as goal

pub returns-in-Enumerated : goal.returns-in-Enumerated
returns-in-Enumerated c =
    given_nothing PortDefIs port_declared (λ (source : Source). Unit {0}) c.args.marks.now c.args.resolutions.now c.args.start c.args.item.now (ap port_declared c.in-Enumerated.is)

pub returns-in-Declared : goal.returns-in-Declared
returns-in-Declared c =
    given_nothing PortDefIs port_declared (λ (source : Source). Unit {0}) c.args.marks.now c.args.resolutions.now c.args.start c.args.item.now (ap port_declared c.in-Declared.is)

pub returns-in-Used : goal.returns-in-Used
returns-in-Used c =
    given_nothing PortDefIs port_declared (λ (source : Source). Unit {0}) c.args.marks.now c.args.resolutions.now c.args.start c.args.item.now (ap port_declared c.in-Used.is)

pub returns-in-Written : goal.returns-in-Written
returns-in-Written c =
    given_nothing PortDefIs port_declared (λ (source : Source). Unit {0}) c.args.marks.now c.args.resolutions.now c.args.start c.args.item.now (ap port_declared c.in-Written.is)

pub returns-in-Defined : goal.returns-in-Defined
returns-in-Defined c =
    if_ok_then c.port_in.result _ _
    (λ one g source ready named h.
    let s = c.in-Defined.sited in
    let made = subst (λ (x : Path). DefNamesStand source x c.definition.result.now → AreResolved source c.args.marks.now c.args.resolutions.now (part_items x c.definition.result.now) c.args.start → AllAt (λ position. PortDefIs source) 0 (port_in x c.definition.result.now) (option_to_list one)) c.scope-scope.ensures (g source) in
    let right = subst (λ (x : Def). DefNamesStand source s.scope x → AreResolved source c.args.marks.now c.args.resolutions.now (part_items s.scope x) c.args.start → AllAt (λ position. PortDefIs source) 0 (port_in s.scope x) (option_to_list one)) c.definition.ensures made in
    subst (λ (i : Item). ItemNamesStand source i → AreResolved source c.args.marks.now c.args.resolutions.now (parts_of_item i) c.args.start → AllAt (λ position. PortDefIs source) 0 (port_declared i) (option_to_list one)) (sym c.in-Defined.is) right named h)
    c.port_in.ensures
