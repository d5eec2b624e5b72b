use Rattle.std.proofs.Common.{refl, ◌∷◌, []}
use Rattle.fp_parse_defs.specs.Specifiers.{k_include}
use Rattle.fp_grammar.specs.Grammar.Grammar.{alt}
use Rattle.fp_grammar.proofs.Answering.{handing}
use Rattle.fp_grammar.proofs.Choices.{absent_beside, absent_unless}
use Rattle.fp_grammar.proofs.Steps.{alt_first_accepts, alt_first_refuses, alt_second_accepts, alt_second_refuses}
use Rattle.fp_parse_parts.specs.Members as M
use Rattle.fp_parse_parts.specs.Members.{k_locate}
use Rattle.fp_parse_parts.proofs.MembersFit.{include_fits, locate_fits, definition_or_model_good, other_member_good}
use Rattle.fp_parse_parts.proofs.members.other_member.Goals as goal

pub returns-then-word_at : goal.returns-then-word_at
returns-then-word_at c =
    let others = absent_beside {b = alt M.locate (M.definition_or_model c.args.expressions)} (k_include ∷ []) c.if-word_at.ensures refl refl refl (other_member_good c.args.expressions).1 in
    handing (λ x to p. alt_first_accepts others p) (λ to p. alt_first_refuses others p) _ c.include.ensures

pub returns-then-word_at-2 : goal.returns-then-word_at-2
returns-then-word_at-2 c =
    let none = absent_unless {b = M.include} c.if-word_at.ensures refl refl include_fits.refs in
    let others = absent_beside {b = M.definition_or_model c.args.expressions} (k_locate ∷ []) c.if-word_at-2.ensures refl refl refl (definition_or_model_good c.args.expressions) in
    handing (λ x to p. alt_second_accepts none (alt_first_accepts others p)) (λ to p. alt_second_refuses none (alt_first_refuses others p)) _ c.locate.ensures

pub returns : goal.returns
returns c =
    let none = absent_unless {b = M.include} c.if-word_at.ensures refl refl include_fits.refs in
    let nowhere = absent_unless {b = M.locate} c.if-word_at-2.ensures refl refl locate_fits.refs in
    handing (λ x to p. alt_second_accepts none (alt_second_accepts nowhere p)) (λ to p. alt_second_refuses none (alt_second_refuses nowhere p)) _ c.definition_or_model.ensures
