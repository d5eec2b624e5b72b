use Rattle.fp_parse_parts.specs.Members.{words_below, word_count}
use Rattle.fp_parse_parts.proofs.WordsBelow.{found_told, reserved_told}
use Rattle.fp_parse_parts.proofs.words.reserved_word_at.Goals as goal

pub returns-in-Some : goal.returns-in-Some
returns-in-Some c = found_told (words_below word_count) _ _ c.in-Some.token.now _ _ c.in-Some.ensures.lookup.0 c.in-Some.ensures.lookup.1 c.is_reserved.ensures (reserved_told c.in-Some.token.now.what)
