use Rattle.fp_parse_parts.specs.FirstWords.{kinds_of}
use Rattle.fp_parse_parts.proofs.AmongWords.{word_told}
use Rattle.fp_parse_parts.proofs.WordsBelow.{found_told}
use Rattle.fp_parse_parts.proofs.words.one_of_at.Goals as goal

pub returns-in-Some : goal.returns-in-Some
returns-in-Some c = found_told (kinds_of c.args.words.now) _ _ c.in-Some.token.now _ _ c.in-Some.ensures.lookup.0 c.in-Some.ensures.lookup.1 c.is_one_of.ensures (word_told c.args.words.now c.in-Some.token.now.what)
