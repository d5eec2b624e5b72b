-- One step of the newline rules.
use Rattle.std.proofs.Common.{◌≡◌, List, [], ◌∷◌, ◌++◌, ap, ◌∙◌, refl, cond, true, false, Bool, ◌||◌, append_assoc}
use Rattle.fp_lexer.specs.Found.{resume, newline_read, standing}
use Rattle.fp_lexer.specs.Newlines.{kept, ignored_by_rest, after, after_newline, ignores, Ground, counts, ignored, separated, ignored_before, is_newline}
use Rattle.fp_lexer.specs.declared.token.Token.{Token}
use Rattle.fp_base.specs.declared.place.Span.{Span}
use Rattle.fp_lexer.specs.declared.token.Word.{Word}
use Rattle.fp_lexer.specs.declared.token.Word.TheVariants.{Name, Reserved, Number, Float, Str, Mark, Newline, Before, After}
use Rattle.fp_lexer.specs.declared.newlines.Standing.{Standing}
use Rattle.fp_lexer.specs.declared.newlines.Standing.TheVariants.{Counts, Ignored, Separated, Pending}
use Rattle.fp_lexer.proofs.Runs.{cond_true, cond_false}

newline_is : (w : Word) → is_newline w ≡ true → w ≡ Newline
newline_is Newline e = refl
newline_is (Name s) e = cc
newline_is (Reserved k) e = cc
newline_is (Number n) e = cc
newline_is (Mark k) e = cc
newline_is Float e = cc
newline_is (Str s) e = cc
newline_is (Before s) e = cc
newline_is (After s) e = cc

read_newline : (standing : Standing) (span : Span) (rest : List Token) → resume standing ((record { what = Newline; at = span }) ∷ rest) ≡ resume (newline_read standing span) rest
read_newline Counts span rest = refl
read_newline Ignored span rest = refl
read_newline Separated span rest = refl
read_newline (Pending first) span rest = refl

-- a newline
pub newline_step : (standing : Standing) (w : Word) (span : Span) (rest : List Token) → is_newline w ≡ true → resume standing ((record { what = w; at = span }) ∷ rest) ≡ resume (newline_read standing span) rest
newline_step standing w span rest e = ap (λ (x : Word). resume standing ((record { what = x; at = span }) ∷ rest)) (newline_is w e) ∙ read_newline standing span rest

-- a word that is no newline
pub kept_word : (g : Ground) (w : Word) (span : Span) (rest : List Token) → is_newline w ≡ false → kept g ((record { what = w; at = span }) ∷ rest) ≡ (record { what = w; at = span }) ∷ kept (after g w) rest
kept_word g w span rest e = ap (λ (b : Bool). cond b
    (cond (ignores g || ignored_by_rest rest) (kept (after_newline g) rest) ((record { what = w; at = span }) ∷ kept (after_newline g) rest))
    ((record { what = w; at = span }) ∷ kept (after g w) rest)) e

pending_word : (first : Span) (w : Word) (span : Span) (rest : List Token) → is_newline w ≡ false
    → resume (Pending first) ((record { what = w; at = span }) ∷ rest) ≡ cond (ignored_before w) (kept ignored ((record { what = w; at = span }) ∷ rest)) ((record { what = Newline; at = first }) ∷ kept ignored ((record { what = w; at = span }) ∷ rest))
pending_word first w span rest e = ap (λ (b : Bool). cond (cond b (ignored_by_rest rest) (ignored_before w)) (kept ignored ((record { what = w; at = span }) ∷ rest)) ((record { what = Newline; at = first }) ∷ kept ignored ((record { what = w; at = span }) ∷ rest))) e

-- one that ignores the newline before it
pub pending_ignored : (first : Span) (w : Word) (span : Span) (rest : List Token) → is_newline w ≡ false → ignored_before w ≡ true
    → resume (Pending first) ((record { what = w; at = span }) ∷ rest) ≡ (record { what = w; at = span }) ∷ kept (after ignored w) rest
pending_ignored first w span rest e b = pending_word first w span rest e ∙ cond_true (ignored_before w) _ _ b ∙ kept_word ignored w span rest e

-- one after a newline that counts
pub pending_counts : (first : Span) (w : Word) (span : Span) (rest : List Token) → is_newline w ≡ false → ignored_before w ≡ false
    → resume (Pending first) ((record { what = w; at = span }) ∷ rest) ≡ (record { what = Newline; at = first }) ∷ (record { what = w; at = span }) ∷ kept (after ignored w) rest
pending_counts first w span rest e b = pending_word first w span rest e ∙ cond_false (ignored_before w) _ _ b ∙ ap (λ (ts : List Token). (record { what = Newline; at = first }) ∷ ts) (kept_word ignored w span rest e)

pub resume_after : (g : Ground) (rest : List Token) → resume (standing g) rest ≡ kept g rest
resume_after counts rest = refl
resume_after ignored rest = refl
resume_after separated rest = refl

pub push_one : (ts : List Token) (t : Token) (rest : List Token) → (ts ++ t ∷ []) ++ rest ≡ ts ++ t ∷ rest
push_one ts t rest = append_assoc ts (t ∷ []) rest
