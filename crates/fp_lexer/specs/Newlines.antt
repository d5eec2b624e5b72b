-- Which newlines count. FPP Language Specification, "Lexical Elements", automatic suppression of newlines; this profile: after and before
-- the words listed here.
use Rattle.std.specs.Prelude.{ℕ, ◌||◌, ◌==◌, List, [], ◌∷◌, Bool, true, false, cond}
use Rattle.fp_lexer.specs.Words.{reserved, mark}
use Rattle.fp_lexer.specs.declared.token.Word.{Word}
use Rattle.fp_lexer.specs.declared.token.Word.TheVariants.{Reserved, Mark, Newline, Before, After}
use Rattle.fp_lexer.specs.declared.token.Token.{Token}

-- what a newline means at a place, by what stands before it: it counts, it is ignored, or it is ignored and only annotations of what
-- stands before, and newlines, stand between it and a separator
pub data Ground : Type 0 where
  counts : Ground
  ignored : Ground
  separated : Ground

abbrev pub ignores : Ground → Bool
ignores counts = false
ignores ignored = true
ignores separated = true

-- newlines are ignored after ( * + - -> / : = [ {
abbrev pub opens : ℕ → Bool
opens k = k == mark "(" || (k == mark "*" || (k == mark "+" || (k == mark "-" || (k == mark "->" || (k == mark "/" || (k == mark ":" || (k == mark "=" || (k == mark "[" || (k == mark "{")))))))))

-- after a mark: `,` and `;` separate
abbrev pub after_mark : ℕ → Ground
after_mark k = cond (k == mark "," || k == mark ";") separated (cond (opens k) ignored counts)

-- after an annotation of what stands before
abbrev pub after_post : Ground → Ground
after_post counts = counts
after_post ignored = counts
after_post separated = separated

-- after a word; the newline that ends an annotation of what follows is in its piece
abbrev pub after : Ground → Word → Ground
after here (Mark k) = after_mark k
after here (Before s) = ignored
after here (After s) = after_post here
after here w = counts

-- after a newline, whether or not it counts: newlines in a row are one
abbrev pub after_newline : Ground → Ground
after_newline counts = ignored
after_newline ignored = ignored
after_newline separated = separated

-- newlines are ignored before ) ] } else @<
abbrev pub ignored_before : Word → Bool
ignored_before (Mark k) = k == mark ")" || (k == mark "]" || k == mark "}")
ignored_before (Reserved k) = k == reserved "else"
ignored_before (After s) = true
ignored_before w = false

abbrev pub is_newline : Word → Bool
is_newline Newline = true
is_newline w = false

-- what comes first behind the newlines is the end, or a token before which they are ignored
abbrev pub ignored_by_rest : List Token → Bool
ignored_by_rest [] = true
ignored_by_rest (t ∷ ts) = cond (is_newline t.what) (ignored_by_rest ts) (ignored_before t.what)

-- the tokens that count, by what a newline means at the start: a newline counts where neither what stands before it, nor what comes
-- behind it, lets it be ignored
abbrev pub kept : Ground → List Token → List Token
kept here [] = []
kept here (t ∷ ts) =
    cond (is_newline t.what)
    (cond (ignores here || ignored_by_rest ts) (kept (after_newline here) ts) (t ∷ kept (after_newline here) ts))
    (t ∷ kept (after here t.what) ts)
