use Rattle.std.proofs.Common.{List, ℕ, subst}
use Rattle.std.specs.Str.{IsCharBoundary}
use Rattle.fp_lexer.proofs.Parts.{leading_part, trailing_part}
use Rattle.fp_lexer.proofs.shape.trimmed_text.Goals as goal

pub range_from-rest-requires : goal.range_from-rest-requires
range_from-rest-requires c some =
    subst (λ (line : List ℕ). IsCharBoundary line c.leading.result) c.as_bytes.ensures.value
    (leading_part c.as_bytes.result.now c.leading.result c.as_bytes.ensures.utf8 c.leading.ensures.value c.leading.ensures.within some)

pub range-requires-clause-end_boundary : goal.range-requires-clause-end_boundary
range-requires-clause-end_boundary c =
    subst (λ (line : List ℕ). IsCharBoundary line c.length_trimmed.result) c.as_bytes-2.ensures.value
    (trailing_part c.as_bytes-2.result.now c.length_trimmed.result c.length_trimmed.ensures.within c.length_trimmed.ensures.blank)
