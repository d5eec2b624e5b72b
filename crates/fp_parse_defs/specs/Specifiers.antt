-- The grammar of specifiers that stand in several places. FPP Language Specification, "Include Specifiers", "Interface Import Specifiers"
-- and "Topology Import Specifiers".
use Rattle.std.specs.Prelude.{ℕ, List, []}
use Rattle.fp_base.specs.declared.place.Span.{Span}
use Rattle.fp_lexer.specs.Words.{reserved}
use Rattle.fp_lexer.specs.declared.token.Token.{Token}
use Rattle.fp_tree.specs.declared.name.Qual.{Qual}
use Rattle.fp_tree.specs.declared.name.Str.{Str}
use Rattle.fp_tree.specs.declared.member.Include.{Include}
use Rattle.fp_tree.specs.declared.component.Import.{Import}
use Rattle.fp_grammar.specs.Grammar.{Grammar}
use Rattle.fp_grammar.specs.Grammar.Grammar.{seq, map}
use Rattle.fp_parse_pieces.specs.Kinds.{k_reserved}
use Rattle.fp_parse_pieces.specs.Words.{between, at, qual, literal_string}

abbrev pub k_import : ℕ
k_import = k_reserved (reserved "import")

abbrev pub k_include : ℕ
k_include = k_reserved (reserved "include")

abbrev pub made_include : Span × Str → Include
made_include (word, file) = record { file = file; at = between word file.at; note = [] }

-- Include = 'include' Str
abbrev pub included : Grammar Token Include
included = map made_include (seq (at k_include) literal_string)

-- an annotation of its own
abbrev pub include_with_note : Include → List ℕ → Include
include_with_note i note = record { file = i.file; at = i.at; note = note }

abbrev pub made_import : Span × Qual → Import
made_import (word, of) = record { of = of; at = between word of.at; note = [] }

-- Import = 'import' Qual
abbrev pub imported : Grammar Token Import
imported = map made_import (seq (at k_import) qual)

-- an annotation of its own
abbrev pub import_with_note : Import → List ℕ → Import
import_with_note i note = record { of = i.of; at = i.at; note = note }
