use Rattle.std.proofs.Common.{sym, ap, subst}
use Rattle.std.specs.Option.{option_to_list}
use Rattle.fp_base.proofs.Options.{if_ok_then}
use Rattle.fp_meaning.specs.declared.item.Item.{Item}
use Rattle.fp_type_forms.specs.Resolved.{AreResolved, parts_of_item}
use Rattle.fp_type_forms.specs.Written.{AllAt}
use Rattle.fp_topology_forms.specs.Written.{TopologyIs, topology_of}
use Rattle.fp_topology_forms.proofs.Items.{given_nothing}
use Rattle.fp_topology_forms.proofs.writing.topology_of.Goals as goal

pub returns-in-Defined : goal.returns-in-Defined
returns-in-Defined c = given_nothing TopologyIs topology_of c.args.ranks.now c.args.marks.now c.args.resolutions.now c.args.start c.args.item.now (ap topology_of c.in-Defined.is)

pub returns-in-Enumerated : goal.returns-in-Enumerated
returns-in-Enumerated c = given_nothing TopologyIs topology_of c.args.ranks.now c.args.marks.now c.args.resolutions.now c.args.start c.args.item.now (ap topology_of c.in-Enumerated.is)

pub returns-in-Used : goal.returns-in-Used
returns-in-Used c = given_nothing TopologyIs topology_of c.args.ranks.now c.args.marks.now c.args.resolutions.now c.args.start c.args.item.now (ap topology_of c.in-Used.is)

pub returns-in-Written : goal.returns-in-Written
returns-in-Written c = given_nothing TopologyIs topology_of c.args.ranks.now c.args.marks.now c.args.resolutions.now c.args.start c.args.item.now (ap topology_of c.in-Written.is)

pub returns-in-Declared : goal.returns-in-Declared
returns-in-Declared c =
    if_ok_then c.topology_among.result _ _
    (λ one g source ready h.
    subst (λ (i : Item). AreResolved source c.args.marks.now c.args.resolutions.now (parts_of_item i) c.args.start → AllAt (λ position. TopologyIs source) 0 (topology_of i) (option_to_list one)) (sym c.in-Declared.is)
    (λ all. g source ready all) h)
    c.topology_among.ensures
