use Rattle.std.proofs.Common.{refl}
use Rattle.fp_grammar.proofs.Answering.{handing}
use Rattle.fp_grammar.proofs.Choices.{absent_beside, absent_unless}
use Rattle.fp_grammar.proofs.Steps.{alt_first_accepts, alt_first_refuses, alt_second_accepts, alt_second_refuses}
use Rattle.fp_parse_parts.specs.Members as M
use Rattle.fp_parse_parts.specs.Models.{model_begins}
use Rattle.fp_parse_parts.proofs.MembersFit.{definition_good, model_good}
use Rattle.fp_parse_parts.proofs.members.definition_or_model.Goals as goal

pub returns-then-model_word_at : goal.returns-then-model_word_at
returns-then-model_word_at c =
    let others = absent_beside {b = M.definition_member c.args.expressions} model_begins c.if-model_word_at.ensures refl refl refl (definition_good c.args.expressions) in
    handing (λ x to p. alt_second_accepts others p) (λ to p. alt_second_refuses others p) _ c.model_member.ensures

pub returns : goal.returns
returns c =
    let others = absent_unless {b = M.model_member c.args.expressions} c.if-model_word_at.ensures refl refl (model_good c.args.expressions) in
    handing (λ x to p. alt_first_accepts others p) (λ to p. alt_first_refuses others p) _ c.definition_member.ensures
