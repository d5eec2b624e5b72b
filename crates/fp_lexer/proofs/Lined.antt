-- Comments, annotations and strings: one piece at most at a place, and no other kind of piece beside it.
use Rattle.std.proofs.Common.{◌≡◌, ℕ, ◌⊎◌, List, [], ◌∷◌, ◌++◌, length, take, drop, Some, None, Option, sym, ap, ◌∙◌, arith, refl, cond, true, false, Bool, inl, inr, ◌||◌, take_at}
use Rattle.std.specs.Prelude.{◌==◌, slice_index}
use Rattle.std.proofs.lemmas.Bool.Decides.{nat_tests}
use Rattle.std.proofs.lemmas.Option.{some_pair_parts, none-some}
use Rattle.fp_base.specs.Names.{is_letter, is_digit}
use Rattle.fp_lexer.specs.Bytes.{line, newline_at, trimmed, body_text, long_text}
use Rattle.fp_lexer.specs.Scan.{string_len, long_len}
use Rattle.fp_lexer.proofs.Strings.{string_complete}
use Rattle.fp_lexer.proofs.LongStrings.{long_complete}
use Rattle.fp_lexer.specs.Tokens.{Spells, Spelled, Lined, OneLine, ManyLines, IsLongest, begins_long}
use Rattle.fp_lexer.specs.declared.token.Word.{Word}
use Rattle.fp_lexer.specs.declared.token.Word.TheVariants.{Name, Reserved, Number, Float, Str, Mark, Newline, Before, After}
use Rattle.fp_lexer.proofs.Runs.{cond_false}
use Rattle.fp_lexer.proofs.FirstBytes.{shape, shaped, ends}

abbrev pub is_lead : ℕ → Bool
is_lead b = b == 35 || (b == 64 || b == 34)

pub letter_no_lead : (b : ℕ) → is_letter b ≡ true → is_lead b ≡ false
letter_no_lead b e = grind (arith, nat_tests)

pub digit_no_lead : (b : ℕ) → is_digit b ≡ true → is_lead b ≡ false
digit_no_lead b e = grind (arith, nat_tests)

abbrev pub at_sign : List ℕ → List ℕ × Option Word
at_sign t = cond (slice_index t 0 == 60) (64 ∷ 60 ∷ line (drop 1 t), Some (After (trimmed (line (drop 1 t))))) (64 ∷ line t ++ newline_at (drop (length (line t)) t), Some (Before (trimmed (line t))))

abbrev pub quoted : List ℕ → Option ℕ → Option (List ℕ × Option Word)
quoted t None = None
quoted t (Some n) = Some (34 ∷ take n t ++ 34 ∷ [], Some (Str (body_text false (take n t))))

abbrev pub long_quoted : ℕ → List ℕ → Option ℕ → Option (List ℕ × Option Word)
long_quoted indent t None = None
long_quoted indent t (Some n) = Some (34 ∷ 34 ∷ 34 ∷ take n t ++ 34 ∷ 34 ∷ 34 ∷ [], Some (Str (long_text indent (take n t))))

-- the string, of either kind, that begins with a quote
abbrev pub at_quote : ℕ → List ℕ → Option (List ℕ × Option Word)
at_quote indent t = cond (begins_long (34 ∷ t)) (long_quoted indent (drop 2 t) (long_len false (drop 2 t))) (quoted t (string_len false t))

-- the one piece of this kind that a text begins with
abbrev pub lined : ℕ → List ℕ → Option (List ℕ × Option Word)
lined indent [] = None
lined indent (b ∷ t) = cond (b == 35) (Some (35 ∷ line t, None)) (cond (b == 64) (Some (at_sign t)) (cond (b == 34) (at_quote indent t) None))

lined_is : (indent : ℕ) (rest v : List ℕ) (what : Option Word) → Lined indent rest v what → lined indent rest ≡ Some (v, what)
lined_is indent rest v None h = ap (lined indent) h.1 ∙ ap (λ (x : List ℕ). Some (x, None)) (sym h.2)
lined_is indent rest v (Some (Name s)) h = absurd h
lined_is indent rest v (Some (Reserved k)) h = absurd h
lined_is indent rest v (Some (Number n)) h = absurd h
lined_is indent rest v (Some (Mark k)) h = absurd h
lined_is indent rest v (Some Newline) h = absurd h
lined_is indent rest v (Some Float) h = absurd h
lined_is indent rest v (Some (Str s)) h = elim h [ inl h ↦ one_line h | inr h ↦ many_lines h ]
  where
    one_line : OneLine rest v s → lined indent rest ≡ Some (v, Some (Str s))
    one_line h =
        let raw = h.0 in let more = h.1 in let body = h.4 in let w = h.5 in let text = h.6 in
        let t = raw ++ 34 ∷ more in
        let short : begins_long (34 ∷ t) ≡ false = sym (ap begins_long h.2) ∙ h.3 in
        ap (lined indent) h.2 ∙ cond_false (begins_long (34 ∷ t)) (long_quoted indent (drop 2 t) (long_len false (drop 2 t))) (quoted t (string_len false t)) short
        ∙ ap (quoted t) (string_complete false raw more body)
        ∙ ap (λ (x : List ℕ). Some (34 ∷ x ++ 34 ∷ [], Some (Str (body_text false x)))) (take_at raw (34 ∷ more) (length raw) refl)
        ∙ ap (λ (x : List ℕ). Some (x, Some (Str (body_text false raw)))) (sym w) ∙ ap (λ (x : List ℕ). Some (v, Some (Str x))) (sym text)

    many_lines : ManyLines indent rest v s → lined indent rest ≡ Some (v, Some (Str s))
    many_lines h =
        let raw = h.0 in let body = h.1 in let w = h.2 in let text = h.3 in
        let t = raw ++ 34 ∷ 34 ∷ 34 ∷ body.more in
        ap (lined indent) body.splits ∙ ap (long_quoted indent t) (long_complete rest raw body)
        ∙ ap (λ (x : List ℕ). Some (34 ∷ 34 ∷ 34 ∷ x ++ 34 ∷ 34 ∷ 34 ∷ [], Some (Str (long_text indent x)))) (take_at raw (34 ∷ 34 ∷ 34 ∷ body.more) (length raw) refl)
        ∙ ap (λ (x : List ℕ). Some (x, Some (Str (long_text indent raw)))) (sym w) ∙ ap (λ (x : List ℕ). Some (v, Some (Str x))) (sym text)
lined_is indent rest v (Some (Before s)) h =
    let e : at_sign h.0 ≡ (64 ∷ line h.0 ++ newline_at (drop (length (line h.0)) h.0), Some (Before (trimmed (line h.0)))) = cond_false (slice_index h.0 0 == 60) _ _ h.2 in
    let w = h.3 in let s' = h.4 in
    ap (lined indent) h.1 ∙ ap (λ (p : List ℕ × Option Word). Some p) e ∙ ap (λ (x : List ℕ). Some (x, Some (Before (trimmed (line h.0))))) (sym w) ∙ ap (λ (x : List ℕ). Some (v, Some (Before x))) (sym s')
lined_is indent rest v (Some (After s)) h =
    ap (lined indent) h.1 ∙ ap (λ (x : List ℕ). Some (x, Some (After (trimmed (line h.0))))) (sym h.2) ∙ ap (λ (x : List ℕ). Some (v, Some (After x))) (sym h.3)

pub lined_same : (indent : ℕ) (rest v w : List ℕ) (a b : Option Word) → Lined indent rest v a → Lined indent rest w b → (v ≡ w) × (a ≡ b)
lined_same indent rest v w a b l m = let e = sym (lined_is indent rest v a l) ∙ lined_is indent rest w b m in some_pair_parts v w a b e

-- it begins with # or @
abbrev pub IsLead : ℕ → Type 0
IsLead b = (b ≡ 35) ⊎ ((b ≡ 64) ⊎ (b ≡ 34))

pub lead_of : (indent : ℕ) (rest v : List ℕ) (what : Option Word) (P : Type 0) → Lined indent rest v what → ((b : ℕ) (t : List ℕ) → rest ≡ b ∷ t → IsLead b → P) → P
lead_of indent rest v None P h k = k 35 h.0 h.1 (inl refl)
lead_of indent rest v (Some (Name s)) P h k = absurd h
lead_of indent rest v (Some (Reserved n)) P h k = absurd h
lead_of indent rest v (Some (Number n)) P h k = absurd h
lead_of indent rest v (Some (Mark n)) P h k = absurd h
lead_of indent rest v (Some Newline) P h k = absurd h
lead_of indent rest v (Some Float) P h k = absurd h
lead_of indent rest v (Some (Str s)) P h k = elim h [
  | inl h ↦ k 34 (h.0 ++ 34 ∷ h.1) h.2 (inr (inr refl))
  | inr h ↦ k 34 (34 ∷ 34 ∷ h.0 ++ 34 ∷ 34 ∷ 34 ∷ h.1.more) h.1.splits (inr (inr refl))
]
lead_of indent rest v (Some (Before s)) P h k = k 64 h.0 h.1 (inr (inl refl))
lead_of indent rest v (Some (After s)) P h k = k 64 (60 ∷ h.0) h.1 (inr (inl refl))

lead_true : (c : ℕ) → IsLead c → is_lead c ≡ true
lead_true c o = elim o [ inl x ↦ ap is_lead x | inr o ↦ elim o [ inl x ↦ ap is_lead x | inr x ↦ ap is_lead x ] ]

pub no_lead : (indent : ℕ) (b : ℕ) (t v : List ℕ) (what : Option Word) (P : Type 0) → Lined indent (b ∷ t) v what → is_lead b ≡ false → P
no_lead indent b t v what P h e = lead_of indent (b ∷ t) v what P h (λ c u s o.
    let same : b ≡ c = cc in
    let y : is_lead b ≡ true = ap is_lead same ∙ lead_true c o in let z : true ≡ false = sym y ∙ e in cc)

-- nothing that is spelled by its bytes alone begins so
lead_ends : (b : ℕ) (u : List ℕ) → IsLead b → ends b u ≡ false
lead_ends b u o = elim o [ inl x ↦ ap (λ (c : ℕ). ends c u) x | inr o ↦ elim o [ inl x ↦ ap (λ (c : ℕ). ends c u) x | inr x ↦ ap (λ (c : ℕ). ends c u) x ] ]

pub not_spelled : (indent : ℕ) (rest w v after : List ℕ) (what other : Option Word) (P : Type 0) → Lined indent rest w what → rest ≡ v ++ after → Spelled v other → P
not_spelled indent rest w v after what other P l e s = lead_of indent rest w what P l (λ b t r o. by_bytes v (shaped v other s) e b t r o)
  where
    by_bytes : (v : List ℕ) → shape v ≡ true → rest ≡ v ++ after → (b : ℕ) (t : List ℕ) → rest ≡ b ∷ t → IsLead b → P
    by_bytes [] h e b t r o = cc
    by_bytes (c ∷ u) h e b t r o =
        let same : c ≡ b = cc in
        let f = lead_ends b u o in
        let g : true ≡ false = sym h ∙ ap (λ (x : ℕ). ends x u) same ∙ f in cc

pub lined_longest : (indent : ℕ) (rest w more : List ℕ) (what : Option Word) → rest ≡ w ++ more → Lined indent rest w what → IsLongest indent rest w what
lined_longest indent rest w more what e l = record {
  more = more;
  splits = e;
  spelled = inr l;
  longest = λ v after other split s. elim s [
    | inl p ↦ not_spelled indent rest w v after what other _ l split p
    | inr m ↦ let h = ap length (lined_same indent rest v w other what m l).0 in omega (arith, h)
  ];
}

-- no piece begins with a byte that leads one, where none is read
pub lead_none : (indent : ℕ) (b : ℕ) (t : List ℕ) → IsLead b → lined indent (b ∷ t) ≡ None → (w more : List ℕ) (what : Option Word) → b ∷ t ≡ w ++ more → Spells indent (b ∷ t) w what → ⊥
lead_none indent b t o e w more what split s = elim s [ inl p ↦ by_bytes w (shaped w what p) split | inr l ↦ none-some (w, what) (sym e ∙ lined_is indent (b ∷ t) w what l) ]
  where
    by_bytes : (v : List ℕ) → shape v ≡ true → b ∷ t ≡ v ++ more → ⊥
    by_bytes [] h e = cc
    by_bytes (c ∷ u) h e =
        let same : c ≡ b = cc in
        let g : true ≡ false = sym h ∙ ap (λ (x : ℕ). ends x u) same ∙ lead_ends b u o in cc
