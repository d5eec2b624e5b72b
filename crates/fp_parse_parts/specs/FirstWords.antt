-- Reserved words by which members are told apart.
use Rattle.std.specs.Prelude.{◌==◌, ℕ, Bool, false, List, map}
use Rattle.std.specs.List.{list_any}
use Rattle.fp_lexer.specs.declared.token.Word.{Word}
use Rattle.fp_lexer.specs.declared.token.Word.TheVariants as word
use Rattle.fp_parse_pieces.specs.Kinds.{k_reserved}

-- the kinds of these reserved words
abbrev pub kinds_of : List ℕ → List ℕ
kinds_of words = map k_reserved words

-- the word is one of these reserved words
abbrev pub is_one_of : List ℕ → Word → Bool
is_one_of words (word.Reserved r) = list_any (λ other. other == r) words
is_one_of words _ = false
