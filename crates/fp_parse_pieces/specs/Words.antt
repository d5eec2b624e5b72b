-- What single tokens spell: names, texts and the places of marks and words.
use Rattle.std.specs.Prelude.{ℕ, List, [], ◌∷◌, ◌++◌, true}
use Rattle.fp_base.specs.declared.place.Span.{Span}
use Rattle.fp_lexer.specs.declared.token.Word.{Word}
use Rattle.fp_lexer.specs.declared.token.Word.TheVariants as word
use Rattle.fp_lexer.specs.declared.token.Token.{Token}
use Rattle.fp_tree.specs.declared.name.Name.{Name}
use Rattle.fp_tree.specs.declared.name.Qual.{Qual}
use Rattle.fp_tree.specs.declared.name.Str.{Str}
use Rattle.fp_grammar.specs.Grammar.{Grammar, after}
use Rattle.fp_grammar.specs.Grammar.Grammar.{token, map, chain}
use Rattle.fp_parse_pieces.specs.Kinds.{k_name, k_string, k_dot}

-- from the first byte of one to the last of another
abbrev pub between : Span → Span → Span
between a b = record { first = a.first; past = b.past }

-- the text of a name
abbrev pub name_text : Word → List ℕ
name_text (word.Name text) = text
name_text _ = []

-- where a token stands
abbrev pub at : ℕ → Grammar Token Span
at k = map (λ t. t.at) (token k)

-- a name with its place
abbrev pub name : Grammar Token Name
name = map (λ t. record { text = name_text t.what; at = t.at }) (token k_name)

abbrev pub one_name : Name → Qual
one_name n = record { names = n ∷ []; at = n.at }

abbrev pub longer : Qual → Name → Qual
longer q n = record { names = q.names ++ n ∷ []; at = between q.at n.at }

-- Qual = name ('.' name)*
abbrev pub qual : Grammar Token Qual
qual = chain (map one_name name) (after k_dot name) (λ _. true) longer

abbrev pub string_text : Word → List ℕ
string_text (word.Str text) = text
string_text _ = []

-- Str
abbrev pub literal_string : Grammar Token Str
literal_string = map (λ t. record { text = string_text t.what; at = t.at }) (token k_string)
