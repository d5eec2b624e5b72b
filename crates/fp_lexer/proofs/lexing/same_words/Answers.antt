use Rattle.fp_lexer.proofs.SameWords.{same_words}
use Rattle.fp_lexer.proofs.lexing.same_words.Goals as goal

pub returns : goal.returns
returns c file other text changed a b d l m = same_words file other text changed a b d l m
