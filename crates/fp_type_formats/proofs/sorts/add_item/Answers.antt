use Rattle.std.proofs.Common.{None, Some, refl, ap, subst}
use Rattle.std.proofs.lemmas.Result.{on_ok_weaker}
use Rattle.fp_tree.specs.declared.definition.Def.{Def}
use Rattle.fp_meaning.specs.Sites.{Path}
use Rattle.fp_type_formats.specs.Integers.{sites_of}
use Rattle.fp_type_formats.specs.Sorted.{IsSortOfDefinition}
use Rattle.fp_type_formats.specs.declared.sorts.Sort.TheVariants as sort
use Rattle.fp_type_formats.proofs.Followed.{add_site}
use Rattle.fp_type_formats.proofs.sorts.add_item.Goals as goal

pub returns-in_ok-sort-in-Defined : goal.returns-in_ok-sort-in-Defined
returns-in_ok-sort-in-Defined c =
    let x = c.in_ok-sort-in-Defined.sort in
    let ds = c.args.names.now in
    let s = c.in-Defined.sited in
    let h : IsSortOfDefinition ds s.scope s.definition x
    = subst (λ (p : Path). IsSortOfDefinition ds p s.definition x) c.scope.ensures (subst (λ (d : Def). IsSortOfDefinition ds c.scope.result.now d x) c.definition.ensures c.in_ok-sort-in-Defined.ensures) in
    on_ok_weaker c.push.result (λ e. add_site ds c.args.item.now (Some s) x c.args.found.now c.push.new.self (ap sites_of c.in-Defined.is) h e) c.push.ensures.ok

pub returns-in-Enumerated : goal.returns-in-Enumerated
returns-in-Enumerated c =
    on_ok_weaker c.push-in-Enumerated.result
    (λ e. add_site c.args.names.now c.args.item.now None sort.Nothing c.args.found.now c.push-in-Enumerated.new.self (ap sites_of c.in-Enumerated.is) refl e) c.push-in-Enumerated.ensures.ok

pub returns-in-Declared : goal.returns-in-Declared
returns-in-Declared c =
    on_ok_weaker c.push-in-Declared.result
    (λ e. add_site c.args.names.now c.args.item.now None sort.Nothing c.args.found.now c.push-in-Declared.new.self (ap sites_of c.in-Declared.is) refl e) c.push-in-Declared.ensures.ok
