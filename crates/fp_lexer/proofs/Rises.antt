-- Places and spans rise with offsets.
use Rattle.std.proofs.Common.{◌≡◌, ℕ, ◌<◌, ◌≤◌, ◌+◌, ◌-◌, List, [], ◌∷◌, length, take, get_or, Some, None, Option, sym, ◌∙◌, arith, suc, zero, refl, true, false, not, ◌==◌, subst, ◌||◌, inl, inr, cond, count_by}
use Rattle.std.specs.List.{suffix_len}
use Rattle.std.proofs.lemmas.Grind.{common_steps}
use Rattle.fp_base.specs.Places.{place_at}
use Rattle.fp_base.specs.declared.place.Place.{Place}
use Rattle.fp_lexer.specs.Tokens.{Lexeme, Cuts, Lexed, Rising, tokens_of, with_token, span_at}
use Rattle.fp_lexer.specs.Newlines.{kept, is_newline, ignored_by_rest, Ground, ignored, ignores, after, after_newline}
use Rattle.fp_lexer.specs.Broken.{ComesBefore}
use Rattle.fp_lexer.specs.declared.token.Word.{Word}
use Rattle.fp_lexer.specs.declared.token.Token.{Token}
use Rattle.fp_lexer.proofs.Runs.{bool_cases, cond_true, cond_false}
use Rattle.fp_lexer.proofs.Cuts.{piece_grows}

before_before : (p q r : Place) → ComesBefore p q → ComesBefore q r → ComesBefore p r
before_before p q r a b = elim a [
  | inl l ↦ elim b [ inl m ↦ inl (omega (arith, l, m)) | inr m ↦ inl (let e = m.0 in omega (arith, l, e)) ]
  | inr l ↦ elim b [ inl m ↦ inl (let e = l.0 in omega (arith, e, m)) | inr m ↦ inr (l.0 ∙ m.0, let x = l.1 in let y = m.1 in omega (arith, x, y)) ]
]

count_more : (text : List ℕ) (at : ℕ) → at < length text → (get_or text at 0 == 10) ≡ true → count_by (λ (b : ℕ). b == 10) (take (at + 1) text) ≡ 1 + count_by (λ (b : ℕ). b == 10) (take at text)
count_more text at h e = grind (arith, common_steps)

count_same : (text : List ℕ) (at : ℕ) → at < length text → (get_or text at 0 == 10) ≡ false → count_by (λ (b : ℕ). b == 10) (take (at + 1) text) ≡ count_by (λ (b : ℕ). b == 10) (take at text)
count_same text at h e = grind (arith, common_steps)

suffix_more : (text : List ℕ) (at : ℕ) → at < length text → (get_or text at 0 == 10) ≡ false
    → suffix_len (λ (b : ℕ). not (b == 10)) (take (at + 1) text) ≡ 1 + suffix_len (λ (b : ℕ). not (b == 10)) (take at text)
suffix_more text at h e = grind (arith, common_steps)

one_more : (file : ℕ) (text : List ℕ) (at : ℕ) → at < length text → ComesBefore (place_at file text at) (place_at file text (at + 1))
one_more file text at h = bool_cases (get_or text at 0 == 10) _
    (λ e. inl (let c = count_more text at h e in omega (arith, c)))
    (λ e. inr (let c = count_same text at h e in omega (arith, c), let s = suffix_more text at h e in omega (arith, s)))

some_more : (file : ℕ) (text : List ℕ) (at n : ℕ) → at + suc n ≤ length text → ComesBefore (place_at file text at) (place_at file text (at + suc n))
some_more file text at zero h = one_more file text at (omega arith)
some_more file text at (suc n) h =
    let e : (at + suc n) + 1 ≡ at + suc (suc n) = omega arith in
    subst (λ (k : ℕ). ComesBefore (place_at file text at) (place_at file text k)) e
    (before_before (place_at file text at) (place_at file text (at + suc n)) (place_at file text ((at + suc n) + 1)) (some_more file text at n (omega arith)) (one_more file text (at + suc n) (omega arith)))

pub places_rise : (file : ℕ) (text : List ℕ) (a b : ℕ) → a < b → b ≤ length text → ComesBefore (place_at file text a) (place_at file text b)
places_rise file text a b lt le =
    let e : a + suc (b - a - 1) ≡ b = omega arith in
    subst (λ (k : ℕ). ComesBefore (place_at file text a) (place_at file text k)) e (some_more file text a (b - a - 1) (omega (arith, e)))

-- ---- spans

rising_from : (file : ℕ) (text : List ℕ) (a b : ℕ) (ts : List Token) → a ≤ b → Rising file text b ts → Rising file text a ts
rising_from file text a b [] le r = omega arith
rising_from file text a b (t ∷ ts) le r = (r.0, r.1, let h = r.2 in omega (arith, h), r.3, r.4, r.5)

with_rises : (file : ℕ) (text : List ℕ) (what : Option Word) (from past : ℕ) (ts : List Token) → from < past → Rising file text past ts → Rising file text from (with_token what (span_at file text from past) ts)
with_rises file text None from past ts lt r = rising_from file text from past ts (omega arith) r
with_rises file text (Some w) from past ts lt r = (from, past, omega arith, lt, refl, r)

pieces_rise : (file : ℕ) (text : List ℕ) (from : ℕ) (ps : List Lexeme) → Cuts text from ps (length text) → Rising file text from (tokens_of file text ps)
pieces_rise file text from [] c = omega arith
pieces_rise file text from (p ∷ ps) c =
    subst (λ (k : ℕ). Rising file text k (tokens_of file text (p ∷ ps))) c.0
    (with_rises file text p.what p.from p.past (tokens_of file text ps) (piece_grows text p c.1) (pieces_rise file text p.past ps c.2))

kept_rises : (file : ℕ) (text : List ℕ) (from : ℕ) (here : Ground) (ts : List Token) → Rising file text from ts → Rising file text from (kept here ts)
kept_rises file text from here [] r = r
kept_rises file text from here (t ∷ ts) r =
    let low = r.2 in let up = r.3 in
    let skip = ignores here || ignored_by_rest ts in
    let dropped = kept (after_newline here) ts in
    let inner = cond skip dropped (t ∷ dropped) in
    let plain = t ∷ kept (after here t.what) ts in
    let rest : Rising file text r.1 dropped = kept_rises file text r.1 (after_newline here) ts r.5 in
    bool_cases (is_newline t.what) _
    (λ e. subst (λ (us : List Token). Rising file text from us) (sym (cond_true (is_newline t.what) inner plain e)) (bool_cases skip _
    (λ f. subst (λ (us : List Token). Rising file text from us) (sym (cond_true skip dropped (t ∷ dropped) f)) (rising_from file text from r.1 dropped (omega (arith, low, up)) rest))
    (λ f. subst (λ (us : List Token). Rising file text from us) (sym (cond_false skip dropped (t ∷ dropped) f)) (r.0, r.1, r.2, r.3, r.4, rest))))
    (λ e. subst (λ (us : List Token). Rising file text from us) (sym (cond_false (is_newline t.what) inner plain e))
    (r.0, r.1, r.2, r.3, r.4, kept_rises file text r.1 (after here t.what) ts r.5))

pub spans_rise : (file : ℕ) (text : List ℕ) (tokens : List Token) → Lexed file text tokens → Rising file text 0 tokens
spans_rise file text tokens l =
    subst (λ (ts : List Token). Rising file text 0 ts) (sym l.2) (kept_rises file text 0 ignored (tokens_of file text l.0) (pieces_rise file text 0 l.0 l.1))
