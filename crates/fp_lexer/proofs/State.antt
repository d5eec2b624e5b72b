-- The state of the loop over the pieces.
use Rattle.std.proofs.Common.{◌≡◌, ℕ, ◌≤◌, ◌-◌, arith, List, [], ◌∷◌, ◌++◌, length, Some, None, sym, ap, ◌∙◌, refl, subst, append_assoc, append-nil}
use Rattle.std.specs.Str.{IsUtf8}
use Rattle.fp_base.specs.Places.{place_at}
use Rattle.fp_base.specs.declared.place.Place.{Place}
use Rattle.fp_base.specs.declared.place.Span.{Span}
use Rattle.fp_lexer.specs.Bytes.{indent_at}
use Rattle.fp_lexer.specs.Found.{IsSmall, HasNoBadEscape, resume}
use Rattle.fp_lexer.specs.Tokens.{IsLexeme, Lexeme, Cuts, tokens_of, Lexed, span_at}
use Rattle.fp_lexer.specs.Newlines.{kept, ignored}
use Rattle.fp_lexer.specs.Broken.{IsUnbroken}
use Rattle.fp_lexer.specs.declared.token.Word.{Word}
use Rattle.fp_lexer.specs.declared.token.Token.{Token}
use Rattle.fp_lexer.specs.declared.newlines.Standing.{Standing}
use Rattle.fp_lexer.specs.declared.newlines.Standing.TheVariants.{Counts, Ignored, Separated, Pending}
use Rattle.fp_lexer.proofs.Cuts.{AllWhole, IsWhole, cuts_push, each_push}
use Rattle.fp_lexer.proofs.First.{unbroken}

-- a place that is an offset's in a file is so in its own file
pub own_place : (file : ℕ) (text : List ℕ) (at : ℕ) (place : Place) → place ≡ place_at file text at → place ≡ place_at place.file text at
own_place file text at place e = e ∙ ap (λ (f : ℕ). place_at f text at) (sym (ap (λ (p : Place). p.file) e))

-- the column of an offset tells how many bytes stand before it in its line
pub indent_is : (file : ℕ) (text : List ℕ) (at : ℕ) (place : Place) → place ≡ place_at file text at → place.column - 1 ≡ indent_at text at
indent_is file text at place e = let c = ap (λ (p : Place). p.column) e in omega (arith, c)

-- the pieces so far, and what comes of the tokens of the rest
pub record LexState (file : ℕ) (text : List ℕ) (tokens : List Token) (standing : Standing) (at : ℕ) : Type 0 where
  pub ps : List Lexeme
  pub cuts : Cuts text 0 ps at
  pub whole : AllWhole text ps
  pub told : (rest : List Lexeme) → kept ignored (tokens_of file text (ps ++ rest)) ≡ tokens ++ resume standing (tokens_of file text rest)

pub state_start : (file : ℕ) (text : List ℕ) → LexState file text [] Ignored 0
state_start file text = record { ps = []; cuts = refl; whole = tt; told = λ rest. refl }

-- a blank
pub state_blank : (file : ℕ) (text : List ℕ) (tokens : List Token) (standing : Standing) (at past : ℕ) → LexState file text tokens standing at
    → IsLexeme text (record { what = None; from = at; past = past }) → HasNoBadEscape text at → LexState file text tokens standing past
state_blank file text tokens standing at past s i none =
    let p : Lexeme = record { what = None; from = at; past = past } in
    record {
      ps = s.ps ++ p ∷ [];
      cuts = cuts_push text 0 at s.ps p s.cuts refl i;
      whole = each_push (IsWhole text) s.ps p s.whole ((λ n e. cc), none);
      told = λ rest. ap (λ (qs : List Lexeme). kept ignored (tokens_of file text qs)) (append_assoc s.ps (p ∷ []) rest) ∙ s.told (p ∷ rest);
    }

-- a token
pub state_token : (file : ℕ) (text : List ℕ) (old new : List Token) (before after : Standing) (at past : ℕ) (w : Word) (span : Span) → LexState file text old before at
    → IsLexeme text (record { what = Some w; from = at; past = past }) → IsSmall (Some w) → HasNoBadEscape text at → span ≡ span_at file text at past
    → ((rest : List Token) → old ++ resume before ((record { what = w; at = span }) ∷ rest) ≡ new ++ resume after rest) → LexState file text new after past
state_token file text old new before after at past w span s i small none e step =
    let p : Lexeme = record { what = Some w; from = at; past = past } in
    record {
      ps = s.ps ++ p ∷ [];
      cuts = cuts_push text 0 at s.ps p s.cuts refl i;
      whole = each_push (IsWhole text) s.ps p s.whole (small, none);
      told = λ rest. ap (λ (qs : List Lexeme). kept ignored (tokens_of file text qs)) (append_assoc s.ps (p ∷ []) rest) ∙ s.told (p ∷ rest)
          ∙ sym (ap (λ (x : Span). old ++ resume before ((record { what = w; at = x }) ∷ tokens_of file text rest)) e) ∙ step (tokens_of file text rest);
    }

resume_none : (standing : Standing) → resume standing [] ≡ []
resume_none Counts = refl
resume_none Ignored = refl
resume_none Separated = refl
resume_none (Pending span) = refl

-- at the end
pub state_end : (file : ℕ) (text : List ℕ) (tokens : List Token) (standing : Standing) (at : ℕ) → LexState file text tokens standing at → at ≡ length text → length text ≤ 4194304 → IsUtf8 text
    → Lexed file text tokens × IsUnbroken file text
state_end file text tokens standing at s e short utf8 =
    let cuts : Cuts text 0 s.ps (length text) = subst (λ (k : ℕ). Cuts text 0 s.ps k) e s.cuts in
    let all : kept ignored (tokens_of file text s.ps) ≡ tokens =
    ap (λ (qs : List Lexeme). kept ignored (tokens_of file text qs)) (sym (append-nil s.ps)) ∙ s.told [] ∙ ap (λ (ts : List Token). tokens ++ ts) (resume_none standing) ∙ append-nil tokens in
    ((s.ps, cuts, sym all), unbroken file text s.ps cuts s.whole short utf8)
