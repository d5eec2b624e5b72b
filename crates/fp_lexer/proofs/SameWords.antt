-- Texts that differ only in comments and blanks have the same words.
use Rattle.std.proofs.Common.{◌≡◌, ℕ, ◌-◌, List, [], ◌∷◌, ◌++◌, length, take, drop, Some, None, Option, sym, ap, ◌∙◌, arith, refl, cond, true, false, Bool, ◌||◌, ◌&&◌, inl, inr, subst, take_at, length-append}
use Rattle.std.specs.Prelude.{◌==◌, slice_index}
use Rattle.std.proofs.lemmas.Bool.{eqb-true}
use Rattle.fp_base.specs.declared.place.Span.{Span}
use Rattle.fp_base.proofs.Bools.{and_left, and_right}
use Rattle.fp_lexer.specs.Bytes.{line, newline_of, newline_len, newline_at, trimmed, body_text, long_text, indent_at}
use Rattle.fp_lexer.specs.Tokens.{Spells, Lined, OneLine, ManyLines, begins_long, IsLexeme, Lexeme, Cuts, Lexed, tokens_of, with_token, span_at}
use Rattle.fp_lexer.specs.Newlines.{kept, is_newline, ignored_by_rest, ignored_before, ignores, Ground, counts, ignored, separated, after, after_newline}
use Rattle.fp_lexer.specs.Alike.{bytes_of, seen, token_pieces, WrittenAlike, AllAlike, DifferInBlanks, words_of}
use Rattle.fp_lexer.specs.declared.token.Word.{Word}
use Rattle.fp_lexer.specs.declared.token.Word.TheVariants.{Name, Reserved, Number, Float, Str, Mark, Newline, Before, After}
use Rattle.fp_lexer.specs.declared.token.Token.{Token}
use Rattle.fp_lexer.proofs.Runs.{bool_cases, cond_true, cond_false}
use Rattle.fp_lexer.proofs.Dedents.{and_none}
use Rattle.fp_lexer.proofs.Lines.{newline_forms}
use Rattle.fp_lexer.proofs.Lined.{not_spelled}
use Rattle.fp_lexer.proofs.Meaning.{spelled_same}
use Rattle.fp_lexer.proofs.Unique.{same_pieces}

-- ---- the meaning of the bytes of a piece that is told by what follows

abbrev note : List ℕ → Option Word
note u = cond (slice_index u 0 == 60) (Some (After (trimmed (drop 1 u)))) (Some (Before (trimmed (line u))))

abbrev quoted : ℕ → List ℕ → Option Word
quoted indent w = cond (begins_long w) (Some (Str (long_text indent (take (length w - 6) (drop 3 w))))) (Some (Str (body_text false (take (length w - 2) (drop 1 w)))))

abbrev lined_meaning : ℕ → List ℕ → Option Word
lined_meaning indent [] = None
lined_meaning indent (b ∷ u) = cond (b == 35) None (cond (b == 64) (note u) (cond (b == 34) (quoted indent (b ∷ u)) None))

not_no : (n : ℕ) (P : Type 0) → n ≡ 0 → (n == 0) ≡ false → P
not_no n P z e = let y : true ≡ false = sym (ap (λ (k : ℕ). k == 0) z) ∙ e in cc

-- a line and its newline begin as the text does
head_same : (t : List ℕ) → slice_index (line t ++ newline_at (drop (length (line t)) t)) 0 ≡ slice_index t 0
head_same [] = refl
head_same (b ∷ bs) = bool_cases (newline_len (b ∷ bs) == 0) _
    (λ n. ap (λ (l : List ℕ). slice_index (l ++ newline_at (drop (length l) (b ∷ bs))) 0) (cond_true (newline_len (b ∷ bs) == 0) (b ∷ line bs) [] n))
    (λ n. ap (λ (l : List ℕ). slice_index (l ++ newline_at (drop (length l) (b ∷ bs))) 0) (cond_false (newline_len (b ∷ bs) == 0) (b ∷ line bs) [] n)
    ∙ newline_forms (b ∷ bs) _
    (λ z. not_no (newline_len (b ∷ bs)) _ z n)
    (λ t i k. ap (λ (j : ℕ). slice_index (take j (b ∷ bs)) 0) k)
    (λ t i k. ap (λ (j : ℕ). slice_index (take j (b ∷ bs)) 0) k))

-- the line of a line and its newline is that line
line_again : (t : List ℕ) → line (line t ++ newline_at (drop (length (line t)) t)) ≡ line t
line_again [] = refl
line_again (b ∷ bs) = bool_cases (newline_len (b ∷ bs) == 0) _
    (λ n.
    let c = cond_true (newline_len (b ∷ bs) == 0) (b ∷ line bs) [] n in
    let u = line bs ++ newline_at (drop (length (line bs)) bs) in
    let plain : (newline_len (b ∷ u) == 0) ≡ true = ap (λ (k : ℕ). newline_of b k == 0) (head_same bs) ∙ n in
    ap (λ (l : List ℕ). line (l ++ newline_at (drop (length l) (b ∷ bs)))) c ∙ cond_true (newline_len (b ∷ u) == 0) (b ∷ line u) [] plain ∙ ap (λ (l : List ℕ). b ∷ l) (line_again bs) ∙ sym c)
    (λ n.
    let c = cond_false (newline_len (b ∷ bs) == 0) (b ∷ line bs) [] n in
    ap (λ (l : List ℕ). line (l ++ newline_at (drop (length l) (b ∷ bs)))) c
    ∙ newline_forms (b ∷ bs) (line (newline_at (b ∷ bs)) ≡ [])
    (λ z. not_no (newline_len (b ∷ bs)) _ z n)
    (λ t i k. ap (λ (j : ℕ). line (take j (b ∷ bs))) k ∙ ap (λ (l : List ℕ). line (take 1 l)) i)
    (λ t i k. ap (λ (j : ℕ). line (take j (b ∷ bs))) k ∙ ap (λ (l : List ℕ). line (take 2 l)) i)
    ∙ sym c)

not_long : (raw more : List ℕ) → begins_long (34 ∷ raw ++ 34 ∷ more) ≡ false → begins_long (34 ∷ raw ++ 34 ∷ []) ≡ false
not_long [] more e = refl
not_long (c ∷ []) more e = e
not_long (c ∷ d ∷ raw) more e = e

lined_meant : (indent : ℕ) (rest w : List ℕ) (what : Option Word) → Lined indent rest w what → lined_meaning indent w ≡ what
lined_meant indent rest w None h = ap (lined_meaning indent) h.2
lined_meant indent rest w (Some (Name s)) h = absurd h
lined_meant indent rest w (Some (Reserved k)) h = absurd h
lined_meant indent rest w (Some (Number n)) h = absurd h
lined_meant indent rest w (Some (Mark k)) h = absurd h
lined_meant indent rest w (Some Newline) h = absurd h
lined_meant indent rest w (Some Float) h = absurd h
lined_meant indent rest w (Some (Str s)) h = elim h [ inl h ↦ one_line h | inr h ↦ many_lines h ]
  where
    one_line : OneLine rest w s → lined_meaning indent w ≡ Some (Str s)
    one_line h =
        let raw = h.0 in
        let u = 34 ∷ raw ++ 34 ∷ [] in
        let short = not_long raw h.1 (sym (ap begins_long h.2) ∙ h.3) in
        let size = length-append raw (34 ∷ []) in
        let inside : take (length u - 2) (raw ++ 34 ∷ []) ≡ raw = take_at raw (34 ∷ []) (length u - 2) (omega (arith, size)) in
        ap (lined_meaning indent) h.5 ∙ cond_false (begins_long u) (Some (Str (long_text indent (take (length u - 6) (drop 3 u))))) (Some (Str (body_text false (take (length u - 2) (drop 1 u))))) short
        ∙ ap (λ (x : List ℕ). Some (Str (body_text false x))) inside ∙ ap (λ (x : List ℕ). Some (Str x)) (sym h.6)

    many_lines : ManyLines indent rest w s → lined_meaning indent w ≡ Some (Str s)
    many_lines h =
        let raw = h.0 in
        let u = 34 ∷ 34 ∷ 34 ∷ raw ++ 34 ∷ 34 ∷ 34 ∷ [] in
        let size = length-append raw (34 ∷ 34 ∷ 34 ∷ []) in
        let inside : take (length u - 6) (raw ++ 34 ∷ 34 ∷ 34 ∷ []) ≡ raw = take_at raw (34 ∷ 34 ∷ 34 ∷ []) (length u - 6) (omega (arith, size)) in
        ap (lined_meaning indent) h.2 ∙ ap (λ (x : List ℕ). Some (Str (long_text indent x))) inside ∙ ap (λ (x : List ℕ). Some (Str x)) (sym h.3)
lined_meant indent rest w (Some (Before s)) h =
    let t = h.0 in
    let u = line t ++ newline_at (drop (length (line t)) t) in
    let first : (slice_index u 0 == 60) ≡ false = ap (λ (b : ℕ). b == 60) (head_same t) ∙ h.2 in
    ap (lined_meaning indent) h.3 ∙ cond_false (slice_index u 0 == 60) (Some (After (trimmed (drop 1 u)))) (Some (Before (trimmed (line u)))) first
    ∙ ap (λ (x : List ℕ). Some (Before (trimmed x))) (line_again t) ∙ ap (λ (x : List ℕ). Some (Before x)) (sym h.4)
lined_meant indent rest w (Some (After s)) h = ap (lined_meaning indent) h.2 ∙ ap (λ (x : List ℕ). Some (After x)) (sym h.3)

-- the column tells nothing but of bytes that begin with `"""`
indent_alike : (n m : ℕ) (w : List ℕ) → ((rest : List ℕ) → w ≡ 34 ∷ 34 ∷ 34 ∷ rest → n ≡ m) → lined_meaning n w ≡ lined_meaning m w
indent_alike n m [] f = refl
indent_alike n m (b ∷ u) f = ap (λ (v : Option Word). cond (b == 35) None (cond (b == 64) (note u) v)) (bool_cases (b == 34) _
    (λ e. cond_true (b == 34) (quoted n (b ∷ u)) None e ∙ by_quotes u (λ rest s. f rest (ap (λ (c : ℕ). c ∷ u) (eqb-true b 34 e) ∙ ap (λ (x : List ℕ). 34 ∷ x) s)) ∙ sym (cond_true (b == 34) (quoted m (b ∷ u)) None e))
    (λ e. cond_false (b == 34) (quoted n (b ∷ u)) None e ∙ sym (cond_false (b == 34) (quoted m (b ∷ u)) None e)))
  where
    short : (v : List ℕ) → begins_long (b ∷ v) ≡ false → quoted n (b ∷ v) ≡ quoted m (b ∷ v)
    short v e = cond_false (begins_long (b ∷ v)) _ (Some (Str (body_text false (take (length (b ∷ v) - 2) v)))) e ∙ sym (cond_false (begins_long (b ∷ v)) _ (Some (Str (body_text false (take (length (b ∷ v) - 2) v)))) e)

    by_quotes : (v : List ℕ) → ((rest : List ℕ) → v ≡ 34 ∷ 34 ∷ rest → n ≡ m) → quoted n (b ∷ v) ≡ quoted m (b ∷ v)
    by_quotes [] g = refl
    by_quotes (c ∷ []) g = short (c ∷ []) (and_none (c == 34))
    by_quotes (c ∷ d ∷ rest) g = bool_cases (c == 34 && d == 34) _
        (λ e. ap (λ (k : ℕ). quoted k (b ∷ c ∷ d ∷ rest)) (g rest (ap (λ (x : ℕ). x ∷ d ∷ rest) (eqb-true c 34 (and_left (c == 34) (d == 34) e)) ∙ ap (λ (x : ℕ). 34 ∷ x ∷ rest) (eqb-true d 34 (and_right (c == 34) (d == 34) e)))))
        (λ e. short (c ∷ d ∷ rest) e)

-- ---- pieces that are written alike

-- the bytes of a piece are those that it spells
piece_bytes : (text : List ℕ) (p : Lexeme) (i : IsLexeme text p) → bytes_of text p ≡ i.0
piece_bytes text p i = let e = i.2 in ap (λ (xs : List ℕ). take (p.past - p.from) xs) i.1.splits ∙ take_at i.0 i.1.more (p.past - p.from) (omega (arith, e))

what_alike : (n m : ℕ) (rest other w more after : List ℕ) (a b : Option Word) → rest ≡ w ++ more → other ≡ w ++ after → Spells n rest w a → Spells m other w b
    → ((u : List ℕ) → w ≡ 34 ∷ 34 ∷ 34 ∷ u → n ≡ m) → a ≡ b
what_alike n m rest other w more after a b e f s t g = elim s [
  | inl p ↦ elim t [ inl q ↦ spelled_same w a b p q | inr q ↦ not_spelled m other w w after b a _ q f p ]
  | inr p ↦ elim t [ inl q ↦ not_spelled n rest w w more a b _ p e q | inr q ↦ sym (lined_meant n rest w a p) ∙ indent_alike n m w g ∙ lined_meant m other w b q ]
]

piece_alike : (text other : List ℕ) (p q : Lexeme) → IsLexeme text p → IsLexeme other q → WrittenAlike text p other q → p.what ≡ q.what
piece_alike text other p q i j a =
    let w : i.0 ≡ j.0 = sym (piece_bytes text p i) ∙ a.0 ∙ piece_bytes other q j in
    let splits : drop q.from other ≡ i.0 ++ j.1.more = j.1.splits ∙ ap (λ (x : List ℕ). x ++ j.1.more) (sym w) in
    let spelled : Spells (indent_at other q.from) (drop q.from other) i.0 q.what = subst (λ (x : List ℕ). Spells (indent_at other q.from) (drop q.from other) x q.what) (sym w) j.1.spelled in
    what_alike (indent_at text p.from) (indent_at other q.from) (drop p.from text) (drop q.from other) i.0 i.1.more j.1.more p.what q.what i.1.splits splits i.1.spelled spelled
    (λ u e. a.1 u (piece_bytes text p i ∙ e))

-- ---- words

abbrev with_word : Option Word → List Word → List Word
with_word None ws = ws
with_word (Some w) ws = w ∷ ws

abbrev words_in : List Lexeme → List Word
words_in [] = []
words_in (p ∷ ps) = with_word p.what (words_in ps)

with_words : (what : Option Word) (span : Span) (ts : List Token) (ws : List Word) → words_of ts ≡ ws → words_of (with_token what span ts) ≡ with_word what ws
with_words None span ts ws e = e
with_words (Some w) span ts ws e = ap (λ (x : List Word). w ∷ x) e

words_are : (file : ℕ) (text : List ℕ) (ps : List Lexeme) → words_of (tokens_of file text ps) ≡ words_in ps
words_are file text [] = refl
words_are file text (p ∷ ps) = with_words p.what (span_at file text p.from p.past) (tokens_of file text ps) (words_in ps) (words_are file text ps)

-- the pieces are pieces of the text
abbrev AllPieces : List ℕ → List Lexeme → Type 0
AllPieces text [] = Unit {0}
AllPieces text (p ∷ ps) = IsLexeme text p × AllPieces text ps

cuts_pieces : (text : List ℕ) (from to : ℕ) (ps : List Lexeme) → Cuts text from ps to → AllPieces text ps
cuts_pieces text from to [] c = tt
cuts_pieces text from to (p ∷ ps) c = (c.1, cuts_pieces text p.past to ps c.2)

seen_pieces : (text : List ℕ) (behind : Bool) (what : Option Word) (p : Lexeme) (rest : Bool → List Lexeme) → IsLexeme text p → ((b : Bool) → AllPieces text (rest b)) → AllPieces text (seen behind what p rest)
seen_pieces text behind None p rest i a = a behind
seen_pieces text behind (Some w) p rest i a = by_newline (is_newline w) behind
  where
    by_newline : (n b : Bool) → AllPieces text (cond n (cond b (rest true) (p ∷ rest true)) (p ∷ rest false))
    by_newline true true = a true
    by_newline true false = (i, a true)
    by_newline false b = (i, a false)

token_pieces_are : (text : List ℕ) (behind : Bool) (ps : List Lexeme) → AllPieces text ps → AllPieces text (token_pieces behind ps)
token_pieces_are text behind [] a = tt
token_pieces_are text behind (p ∷ ps) a = seen_pieces text behind p.what p (λ b. token_pieces b ps) a.0 (λ b. token_pieces_are text b ps a.1)

-- words without newlines that directly follow a newline
abbrev once : Bool → List Word → List Word
once behind [] = []
once behind (w ∷ ws) = cond (is_newline w) (cond behind (once true ws) (w ∷ once true ws)) (w ∷ once false ws)

seen_words : (behind : Bool) (what : Option Word) (p : Lexeme) (rest : Bool → List Lexeme) (ws : List Word) → p.what ≡ what → ((b : Bool) → words_in (rest b) ≡ once b ws)
    → words_in (seen behind what p rest) ≡ once behind (with_word what ws)
seen_words behind None p rest ws e f = f behind
seen_words behind (Some w) p rest ws e f = by_newline (is_newline w) behind
  where
    with_first : (us : List Lexeme) (vs : List Word) → words_in us ≡ vs → words_in (p ∷ us) ≡ w ∷ vs
    with_first us vs g = ap (λ (o : Option Word). with_word o (words_in us)) e ∙ ap (λ (x : List Word). w ∷ x) g

    by_newline : (n b : Bool) → words_in (cond n (cond b (rest true) (p ∷ rest true)) (p ∷ rest false)) ≡ cond n (cond b (once true ws) (w ∷ once true ws)) (w ∷ once false ws)
    by_newline true true = f true
    by_newline true false = with_first (rest true) (once true ws) (f true)
    by_newline false b = with_first (rest false) (once false ws) (f false)

token_words : (behind : Bool) (ps : List Lexeme) → words_in (token_pieces behind ps) ≡ once behind (words_in ps)
token_words behind [] = refl
token_words behind (p ∷ ps) = seen_words behind p.what p (λ b. token_pieces b ps) (words_in ps) refl (λ b. token_words b ps)

alike_words : (text other : List ℕ) (ps qs : List Lexeme) → AllPieces text ps → AllPieces other qs → AllAlike text ps other qs → words_in ps ≡ words_in qs
alike_words text other [] [] i j a = refl
alike_words text other [] (q ∷ qs) i j a = absurd a
alike_words text other (p ∷ ps) [] i j a = absurd a
alike_words text other (p ∷ ps) (q ∷ qs) i j a =
    ap (λ (o : Option Word). with_word o (words_in ps)) (piece_alike text other p q i.0 j.0 a.0) ∙ ap (with_word q.what) (alike_words text other ps qs i.1 j.1 a.1)

-- ---- the newline rules look at words alone

-- what comes first behind the newlines is the end, or a word before which they are ignored
abbrev ends_by : List Word → Bool
ends_by [] = true
ends_by (w ∷ ws) = cond (is_newline w) (ends_by ws) (ignored_before w)

-- one word before the rest, by what a newline means there and whether the rest lets it be ignored
abbrev step : Ground → Word → Bool → List Word → List Word → List Word
step here w ends skipped plain = cond (is_newline w) (cond (ignores here || ends) skipped (w ∷ skipped)) (w ∷ plain)

abbrev kept_words : Ground → List Word → List Word
kept_words here [] = []
kept_words here (w ∷ ws) = step here w (ends_by ws) (kept_words (after_newline here) ws) (kept_words (after here w) ws)

ends_are : (ts : List Token) → ignored_by_rest ts ≡ ends_by (words_of ts)
ends_are [] = refl
ends_are (t ∷ ts) = ap (λ (v : Bool). cond (is_newline t.what) v (ignored_before t.what)) (ends_are ts)

words_cond : (b : Bool) (xs ys : List Token) → words_of (cond b xs ys) ≡ cond b (words_of xs) (words_of ys)
words_cond true xs ys = refl
words_cond false xs ys = refl

kept_are : (here : Ground) (ts : List Token) → words_of (kept here ts) ≡ kept_words here (words_of ts)
kept_are here [] = refl
kept_are here (t ∷ ts) =
    let skipped = kept (after_newline here) ts in
    let plain = kept (after here t.what) ts in
    words_cond (is_newline t.what) (cond (ignores here || ignored_by_rest ts) skipped (t ∷ skipped)) (t ∷ plain)
    ∙ ap (λ (x : List Word). cond (is_newline t.what) x (t.what ∷ words_of plain)) (words_cond (ignores here || ignored_by_rest ts) skipped (t ∷ skipped))
    ∙ ap (λ (v : Bool). step here t.what v (words_of skipped) (words_of plain)) (ends_are ts)
    ∙ ap (λ (x : List Word). step here t.what (ends_by (words_of ts)) x (words_of plain)) (kept_are (after_newline here) ts)
    ∙ ap (λ (x : List Word). step here t.what (ends_by (words_of ts)) (kept_words (after_newline here) (words_of ts)) x) (kept_are (after here t.what) ts)

-- ---- newlines in a row are one

ends_once : (b : Bool) (ws : List Word) → ends_by (once b ws) ≡ ends_by ws
ends_once b [] = refl
ends_once b (w ∷ ws) = bool_cases (is_newline w) _
    (λ e. ap ends_by (cond_true (is_newline w) (cond b (once true ws) (w ∷ once true ws)) (w ∷ once false ws) e) ∙ by_behind b e (ends_once true ws) ∙ sym (cond_true (is_newline w) (ends_by ws) (ignored_before w) e))
    (λ e. ap ends_by (cond_false (is_newline w) (cond b (once true ws) (w ∷ once true ws)) (w ∷ once false ws) e) ∙ cond_false (is_newline w) (ends_by (once false ws)) (ignored_before w) e ∙ sym (cond_false (is_newline w) (ends_by ws) (ignored_before w) e))
  where
    by_behind : (b : Bool) → is_newline w ≡ true → ends_by (once true ws) ≡ ends_by ws → ends_by (cond b (once true ws) (w ∷ once true ws)) ≡ ends_by ws
    by_behind true e f = f
    by_behind false e f = cond_true (is_newline w) (ends_by (once true ws)) (ignored_before w) e ∙ f

stays_ignored : (here : Ground) → ignores here ≡ true → after_newline here ≡ here
stays_ignored counts e = cc
stays_ignored ignored e = refl
stays_ignored separated e = refl

then_ignores : (here : Ground) → ignores (after_newline here) ≡ true
then_ignores counts = refl
then_ignores ignored = refl
then_ignores separated = refl

-- a newline before words of which the first newlines may be left out
kept_newline : (here : Ground) (w : Word) (ws : List Word) (b : Bool) → is_newline w ≡ true → (b ≡ true → ignores here ≡ true) → ((h : Ground) → ignores h ≡ true → kept_words h (once true ws) ≡ kept_words h ws)
    → kept_words here (cond b (once true ws) (w ∷ once true ws)) ≡ kept_words here (w ∷ ws)
kept_newline here w ws true e i f =
    let skipped = kept_words (after_newline here) ws in
    let plain = kept_words (after here w) ws in
    f here (i refl) ∙ sym (ap (λ (h : Ground). kept_words h ws) (stays_ignored here (i refl)))
    ∙ sym (cond_true (is_newline w) (cond (ignores here || ends_by ws) skipped (w ∷ skipped)) (w ∷ plain) e ∙ ap (λ (v : Bool). cond (v || ends_by ws) skipped (w ∷ skipped)) (i refl))
kept_newline here w ws false e i f =
    let skipped = kept_words (after_newline here) ws in
    let other = kept_words (after_newline here) (once true ws) in
    cond_true (is_newline w) (cond (ignores here || ends_by (once true ws)) other (w ∷ other)) (w ∷ kept_words (after here w) (once true ws)) e
    ∙ ap (λ (v : Bool). cond (ignores here || v) other (w ∷ other)) (ends_once true ws)
    ∙ ap (λ (x : List Word). cond (ignores here || ends_by ws) x (w ∷ x)) (f (after_newline here) (then_ignores here))
    ∙ sym (cond_true (is_newline w) (cond (ignores here || ends_by ws) skipped (w ∷ skipped)) (w ∷ kept_words (after here w) ws) e)

kept_once : (b : Bool) (here : Ground) (ws : List Word) → (b ≡ true → ignores here ≡ true) → kept_words here (once b ws) ≡ kept_words here ws
kept_once b here [] i = refl
kept_once b here (w ∷ ws) i = bool_cases (is_newline w) _
    (λ e. ap (kept_words here) (cond_true (is_newline w) (cond b (once true ws) (w ∷ once true ws)) (w ∷ once false ws) e) ∙ kept_newline here w ws b e i (λ h j. kept_once true h ws (λ _. j)))
    (λ e.
    let plain = kept_words (after here w) ws in
    let other = kept_words (after here w) (once false ws) in
    ap (kept_words here) (cond_false (is_newline w) (cond b (once true ws) (w ∷ once true ws)) (w ∷ once false ws) e)
    ∙ cond_false (is_newline w) (cond (ignores here || ends_by (once false ws)) (kept_words (after_newline here) (once false ws)) (w ∷ kept_words (after_newline here) (once false ws))) (w ∷ other) e
    ∙ ap (λ (x : List Word). w ∷ x) (kept_once false (after here w) ws (λ z. cc))
    ∙ sym (cond_false (is_newline w) (cond (ignores here || ends_by ws) (kept_words (after_newline here) ws) (w ∷ kept_words (after_newline here) ws)) (w ∷ plain) e))

-- the words of a text by its pieces
words_told : (file : ℕ) (text : List ℕ) (tokens : List Token) (ps : List Lexeme) → Lexed file text tokens → Cuts text 0 ps (length text) → words_of tokens ≡ kept_words ignored (words_in (token_pieces true ps))
words_told file text tokens ps l c =
    let same = same_pieces text 0 0 (length text) l.0 ps refl l.1 c in
    ap words_of l.2 ∙ kept_are ignored (tokens_of file text l.0)
    ∙ ap (kept_words ignored) (words_are file text l.0 ∙ ap words_in same) ∙ sym (kept_once true ignored (words_in ps) (λ e. refl)) ∙ sym (ap (kept_words ignored) (token_words true ps))

pub same_words : (file other : ℕ) (text changed : List ℕ) (a b : List Token) → DifferInBlanks text changed → Lexed file text a → Lexed other changed b → words_of a ≡ words_of b
same_words file other text changed a b d l m =
    words_told file text a d.ps l d.first
    ∙ ap (kept_words ignored) (alike_words text changed (token_pieces true d.ps) (token_pieces true d.qs)
    (token_pieces_are text true d.ps (cuts_pieces text 0 (length text) d.ps d.first)) (token_pieces_are changed true d.qs (cuts_pieces changed 0 (length changed) d.qs d.second)) d.alike)
    ∙ sym (words_told other changed b d.qs m d.second)
