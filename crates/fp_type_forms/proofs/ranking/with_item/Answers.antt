use Rattle.std.proofs.Common.{refl, sym, ap, ◌∙◌}
use Rattle.fp_base.proofs.Options.{if_ok_then}
use Rattle.fp_meaning.specs.Names.{constant_of, defined, definitions_of, group_of, model_group, model_name, name_of}
use Rattle.fp_type_forms.specs.Written.{is_kind}
use Rattle.fp_type_forms.proofs.Ranks.{never_kind, ranked_definition, ranked_nothing}
use Rattle.fp_type_forms.proofs.ranking.with_item.Goals as goal

pub returns-in-Defined : goal.returns-in-Defined
returns-in-Defined c =
    let s = c.in-Defined.sited in
    if_ok_then c.with_definition.result _ _
    (λ after made. ranked_definition c.args.item.now (defined (group_of s.definition) s.scope (name_of s.definition)) c.args.before after c.defines_type.result (ap definitions_of c.in-Defined.is)
    (ap (λ d. is_kind (group_of d)) (sym c.definition.ensures) ∙ sym c.defines_type.ensures) made)
    c.with_definition.ensures

pub returns-in-Enumerated : goal.returns-in-Enumerated
returns-in-Enumerated c =
    let e = c.in-Enumerated.field-0 in
    if_ok_then c.with_definition-in-Enumerated.result _ _
    (λ after made. ranked_definition c.args.item.now (constant_of e.scope e.enumeration e.constant) c.args.before after _ (ap definitions_of c.in-Enumerated.is) refl made)
    c.with_definition-in-Enumerated.ensures

pub returns-in-Declared : goal.returns-in-Declared
returns-in-Declared c =
    let d = c.in-Declared.field-0 in
    if_ok_then c.with_definition-in-Declared.result _ _
    (λ after made. ranked_definition c.args.item.now (defined (model_group d.definition) d.scope (model_name d.definition)) c.args.before after _ (ap definitions_of c.in-Declared.is)
    (never_kind d.definition) made)
    c.with_definition-in-Declared.ensures

pub returns-in-Used : goal.returns-in-Used
returns-in-Used c = ranked_nothing c.args.item.now c.args.before (ap definitions_of c.in-Used.is)

pub returns-in-Written : goal.returns-in-Written
returns-in-Written c = ranked_nothing c.args.item.now c.args.before (ap definitions_of c.in-Written.is)
