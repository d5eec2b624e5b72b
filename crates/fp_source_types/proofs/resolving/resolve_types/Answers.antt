use Rattle.std.proofs.Common.{◌≡◌, List, map, Option, sym, ap, ◌∙◌, subst}
use Rattle.fp_base.proofs.Calculus.{least_along, none_broken}
use Rattle.fp_base.specs.declared.value.Value.{Value}
use Rattle.fp_meaning.specs.Origins.{expressions}
use Rattle.fp_consts.specs.Marked.{AreValues}
use Rattle.fp_source_types.specs.Resolved.{mark_of}
use Rattle.fp_source_types.proofs.Resolved.{given_types, marks_valued}
use Rattle.fp_source_types.proofs.resolving.resolve_types.Goals as goal

pub types_from-requires-clause-values : goal.types_from-requires-clause-values
types_from-requires-clause-values c =
    let source = c.args.source.now in
    let same : c.as_slice-marks.result.now ≡ map mark_of c.args.values.now.at =
    c.as_slice-marks.ensures ∙ c.in_ok-marked.ensures ∙ ap (λ (vs : List Value). map mark_of vs) c.as_slice-stated.ensures in
    subst (λ (os : List (Option Value)). AreValues source (expressions source) os) (sym same) (marks_valued c.never_opaque.ensures source (expressions source) c.args.values.now.at c.requires.values)

pub returns-in-None-clause-types : goal.returns-in-None-clause-types
returns-in-None-clause-types c =
    let source = c.args.source.now in
    let unbroken = none_broken (least_along c.in-None.is c.in_ok-types.ensures.first) in
    let each = c.unbroken_types_exist.ensures source c.args.uses.now.meanings c.in_ok-types.types.at c.requires.meanings c.requires.enumerations c.requires.constants unbroken c.in_ok-types.ensures.at in
    given_types source c.in_ok-types.types.at c.in_ok-given-in-None.given c.in_ok-given-in-None.ensures each c.in_ok-types.ensures.at

pub returns-in-None-clause-unbroken : goal.returns-in-None-clause-unbroken
returns-in-None-clause-unbroken c = none_broken (least_along c.in-None.is c.in_ok-types.ensures.first)

pub returns-in-None-clause-sound : goal.returns-in-None-clause-sound
returns-in-None-clause-sound c =
    let source = c.args.source.now in
    let unbroken = none_broken (least_along c.in-None.is c.in_ok-types.ensures.first) in
    let each = c.unbroken_types_exist.ensures source c.args.uses.now.meanings c.in_ok-types.types.at c.requires.meanings c.requires.enumerations c.requires.constants unbroken c.in_ok-types.ensures.at in
    c.unbroken_types_are_sound.ensures source c.in_ok-given-in-None.given c.requires.names unbroken
    (given_types source c.in_ok-types.types.at c.in_ok-given-in-None.given c.in_ok-given-in-None.ensures each c.in_ok-types.ensures.at)
