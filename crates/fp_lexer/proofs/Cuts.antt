-- Two ways to cut a text agree as far as both go.
use Rattle.std.proofs.Common.{◌≡◌, ℕ, ◌<◌, ◌≤◌, ◌⊎◌, List, [], ◌∷◌, ◌++◌, length, drop, Some, None, Option, sym, ap, ◌∙◌, arith, refl, true, subst, pos, inl, inr, length-append, length-drop}
use Rattle.fp_lexer.specs.Found.{IsSmall, HasNoBadEscape}
use Rattle.fp_lexer.specs.Tokens.{Spells, Lined, IsLongest, IsLexeme, Lexeme, Cuts}
use Rattle.fp_lexer.specs.Broken.{NoneBegins, LargeBegins, BadEscapeAt}
use Rattle.fp_lexer.specs.Bytes.{indent_at}
use Rattle.fp_lexer.specs.declared.token.Word.{Word}
use Rattle.fp_lexer.specs.declared.token.Word.TheVariants.{Name, Reserved, Number, Float, Str, Mark, Newline, Before, After}
use Rattle.fp_lexer.proofs.FirstBytes.{shape, shaped}
use Rattle.fp_lexer.proofs.Meaning.{what_same}
use Rattle.fp_lexer.proofs.LongStrings.{same_front}

-- ---- one longest piece

pub same_longest : (indent : ℕ) (rest v w : List ℕ) (a b : Option Word) → IsLongest indent rest v a → IsLongest indent rest w b → v ≡ w
same_longest indent rest v w a b l m =
    let p = l.longest w m.more b m.splits m.spelled in
    let q = m.longest v l.more a l.splits l.spelled in
    same_front v w l.more m.more (sym l.splits ∙ m.splits) (omega arith)

-- two pieces at one offset end together
pub same_past : (text : List ℕ) (p q : Lexeme) → IsLexeme text p → IsLexeme text q → p.from ≡ q.from → p.past ≡ q.past
same_past text p q i j e =
    let l : IsLongest (indent_at text p.from) (drop p.from text) j.0 q.what = subst (λ (k : ℕ). IsLongest (indent_at text k) (drop k text) j.0 q.what) (sym e) j.1 in
    let w = ap length (same_longest (indent_at text p.from) (drop p.from text) i.0 j.0 p.what q.what i.1 l) in
    let a = i.2 in let b = j.2 in omega (arith, w, a, b)

-- a large number and a small piece don't stand at one offset
pub small_large : (text : List ℕ) (p : Lexeme) (at : ℕ) (P : Type 0) → IsLexeme text p → IsSmall p.what → p.from ≡ at → LargeBegins text at → P
small_large text p at P i small e large =
    let l : IsLongest (indent_at text at) (drop at text) i.0 p.what = subst (λ (k : ℕ). IsLongest (indent_at text k) (drop k text) i.0 p.what) e i.1 in
    let m = large.2.1 in
    let w = same_longest (indent_at text at) (drop at text) large.2.0 i.0 (Some (Number (pos large.0))) p.what m l in
    let s = subst (λ (x : List ℕ). Spells (indent_at text at) (drop at text) x (Some (Number (pos large.0)))) w m.spelled in
    let what = what_same (indent_at text at) (drop at text) i.0 l.more p.what (Some (Number (pos large.0))) l.splits l.spelled s in
    let lt = small large.0 what in
    let le = large.3 in
    absurd (omega (arith, lt, le))

pub piece_none : (text : List ℕ) (p : Lexeme) (at : ℕ) (P : Type 0) → IsLexeme text p → p.from ≡ at → NoneBegins text at → P
piece_none text p at P i e none =
    let l : IsLongest (indent_at text at) (drop at text) i.0 p.what = subst (λ (k : ℕ). IsLongest (indent_at text k) (drop k text) i.0 p.what) e i.1 in
    absurd (none i.0 l.more p.what l.splits l.spelled)

-- a piece is not empty
not_empty : (indent : ℕ) (rest w : List ℕ) (what : Option Word) → Spells indent rest w what → 0 < length w
not_empty indent rest w what s = elim s [ inl h ↦ by_shape w (shaped w what h) | inr h ↦ by_line what h ]
  where
    by_shape : (w : List ℕ) → shape w ≡ true → 0 < length w
    by_shape [] h = cc
    by_shape (x ∷ xs) h = omega arith

    by_line : (what : Option Word) → Lined indent rest w what → 0 < length w
    by_line None s = let h = ap length s.2 in omega (arith, h)
    by_line (Some (Name n)) s = absurd s
    by_line (Some (Reserved n)) s = absurd s
    by_line (Some (Number n)) s = absurd s
    by_line (Some (Mark n)) s = absurd s
    by_line (Some Newline) s = absurd s
    by_line (Some Float) s = absurd s
    by_line (Some (Str n)) s = elim s [ inl s ↦ let g = s.5 in let h = ap length g in omega (arith, h) | inr s ↦ let g = s.2 in let h = ap length g in omega (arith, h) ]
    by_line (Some (Before n)) s = let g = s.3 in let h = ap length g in omega (arith, h)
    by_line (Some (After n)) s = let h = ap length s.2 in omega (arith, h)

pub piece_grows : (text : List ℕ) (p : Lexeme) → IsLexeme text p → p.from < p.past
piece_grows text p i = let h = not_empty (indent_at text p.from) (drop p.from text) i.0 p.what i.1.spelled in let e = i.2 in omega (arith, h, e)

-- ---- cuts

abbrev pub EachLexeme : (Lexeme → Type 0) → List Lexeme → Type 0
EachLexeme Q [] = Unit {0}
EachLexeme Q (p ∷ ps) = Q p × EachLexeme Q ps

-- nothing is broken within the piece before an offset
abbrev pub IsFine : List ℕ → ℕ → Lexeme → Type 0
IsFine text m p = IsSmall p.what × ((there : ℕ) → BadEscapeAt text p.from there → m ≤ there)

-- nothing is broken within it
abbrev pub IsWhole : List ℕ → Lexeme → Type 0
IsWhole text p = IsSmall p.what × HasNoBadEscape text p.from

abbrev pub AllWhole : List ℕ → List Lexeme → Type 0
AllWhole text ps = EachLexeme (IsWhole text) ps

pub whole_fine : (text : List ℕ) (m : ℕ) (ps : List Lexeme) → AllWhole text ps → EachLexeme (IsFine text m) ps
whole_fine text m [] s = tt
whole_fine text m (p ∷ ps) s = ((s.0.0, λ there b. absurd (s.0.1 there b)), whole_fine text m ps s.1)

pub finer : (text : List ℕ) (m n : ℕ) (ps : List Lexeme) → m ≤ n → EachLexeme (IsFine text n) ps → EachLexeme (IsFine text m) ps
finer text m n [] le s = tt
finer text m n (p ∷ ps) le s = ((s.0.0, λ there b. let h = s.0.1 there b in omega (arith, le, h)), finer text m n ps le s.1)

pub cuts_up : (text : List ℕ) (a b : ℕ) (ps : List Lexeme) → Cuts text a ps b → a ≤ b
cuts_up text a b [] c = omega arith
cuts_up text a b (p ∷ ps) c =
    let h = cuts_up text p.past b ps c.2 in
    let g = piece_grows text p c.1 in
    let e = c.0 in omega (arith, h, g, e)

pub cuts_push : (text : List ℕ) (a b : ℕ) (ps : List Lexeme) (p : Lexeme) → Cuts text a ps b → p.from ≡ b → IsLexeme text p → Cuts text a (ps ++ p ∷ []) p.past
cuts_push text a b [] p c e i = (e ∙ sym c, i, refl)
cuts_push text a b (q ∷ qs) p c e i = (c.0, c.1, cuts_push text q.past b qs p c.2 e i)

pub each_push : (Q : Lexeme → Type 0) (ps : List Lexeme) (p : Lexeme) → EachLexeme Q ps → Q p → EachLexeme Q (ps ++ p ∷ [])
each_push Q [] p a s = (s, tt)
each_push Q (q ∷ qs) p a s = (a.0, each_push Q qs p a.1 s)

-- whole pieces lead to an offset
pub record Fine (text : List ℕ) (at : ℕ) : Type 0 where
  pub ps : List Lexeme
  pub cuts : Cuts text 0 ps at
  pub whole : AllWhole text ps

pub fine_start : (text : List ℕ) → Fine text 0
fine_start text = record { ps = []; cuts = refl; whole = tt }

pub fine_push : (text : List ℕ) (p : Lexeme) → Fine text p.from → IsLexeme text p → IsSmall p.what → HasNoBadEscape text p.from → Fine text p.past
fine_push text p f i small none = record {
  ps = f.ps ++ p ∷ [];
  cuts = cuts_push text 0 p.from f.ps p f.cuts refl i;
  whole = each_push (IsWhole text) f.ps p f.whole (small, none);
}

-- of two cuts the one goes as far as the other, or has a piece where the other ends
pub meet : (Q : Lexeme → Type 0) (text : List ℕ) (a a' b c : ℕ) (ps qs : List Lexeme) → a ≡ a' → Cuts text a ps b → EachLexeme Q ps → Cuts text a' qs c → (b ≤ c) ⊎ ((p : Lexeme) × IsLexeme text p × Q p × (p.from ≡ c))
meet Q text a a' b c [] qs e p s q = inl (let h = cuts_up text a' c qs q in omega (arith, h, p, e))
meet Q text a a' b c (p ∷ ps) [] e i s q = inr (p, i.1, s.0, i.0 ∙ e ∙ q)
meet Q text a a' b c (p ∷ ps) (r ∷ qs) e i s q =
    meet Q text p.past r.past b c ps qs (same_past text p r i.1 q.1 (i.0 ∙ e ∙ sym q.0)) i.2 s.1 q.2

-- a piece ends within the text, unless it begins past its end
pub piece_ends : (text : List ℕ) (p : Lexeme) → IsLexeme text p → p.from < length text
piece_ends text p i =
    let h = not_empty (indent_at text p.from) (drop p.from text) i.0 p.what i.1.spelled in
    let l = ap length i.1.splits in
    let a = length-append i.0 i.1.more in
    let d = length-drop p.from text in
    omega (arith, h, l, a, d)
