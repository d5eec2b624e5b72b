-- Which words are among the reserved words of the table, and whether a word of some kinds is next.
use Rattle.std.proofs.Common.{◌≡◌, ℕ, zero, suc, ◌<◌, ◌⊎◌, inl, inr, arith, refl, sym, ◌∙◌, subst, true, false, nat_lt, get_or, List, length, Some, slice_get}
use Rattle.std.specs.Prelude.{Bool, ltb, MatchBool}
use Rattle.std.proofs.lemmas.Bool.{lt-ltb, le-ltb}
use Rattle.std.proofs.lemmas.Option.{slice_get_read}
use Rattle.fp_base.proofs.Spots.{before_or_not}
use Rattle.fp_base.proofs.Numbers.{is_below}
use Rattle.fp_lexer.specs.declared.token.Token.{Token}
use Rattle.fp_lexer.specs.declared.token.Word.{Word}
use Rattle.fp_lexer.specs.declared.token.Word.TheVariants as word
use Rattle.fp_grammar.specs.Grammar.{Among}
use Rattle.fp_grammar.specs.Parses.{NextAmong}
use Rattle.fp_parse_pieces.specs.Kinds.{kind, k_reserved, word_kind}
use Rattle.fp_parse_parts.specs.Members.{words_below, word_count, is_reserved}

same_or_below : (r n : ℕ) → r < suc n → (r ≡ n) ⊎ (r < n)
same_or_below r n e = grind arith

pub reserved_among : (r n : ℕ) → r < n → Among (k_reserved r) (words_below n)
reserved_among r zero e = absurd (omega (arith, e))
reserved_among r (suc n) e =
    elim (same_or_below r n e) [
      | inl f ↦ inl (omega (arith, f))
      | inr f ↦ inr (reserved_among r n f)
    ]

pub among_reserved : (r n : ℕ) → Among (k_reserved r) (words_below n) → r < n
among_reserved r zero h = absurd h
among_reserved r (suc n) (inl e) = omega (arith, e)
among_reserved r (suc n) (inr h) = let f = among_reserved r n h in omega (arith, f)

-- what is among them is of the kind of a reserved word
kind_among : (k n : ℕ) → Among k (words_below n) → (r : ℕ) × (k ≡ k_reserved r)
kind_among k zero h = absurd h
kind_among k (suc n) (inl e) = (n, e)
kind_among k (suc n) (inr h) = kind_among k n h

not_among : (k n : ℕ) → ((r : ℕ) → k ≡ k_reserved r → ⊥) → Among k (words_below n) → ⊥
not_among k n other h = let f = kind_among k n h in other f.0 f.1

number_told : (r n : ℕ) → MatchBool (ltb r n) (Among (k_reserved r) (words_below n)) (Among (k_reserved r) (words_below n) → ⊥)
number_told r n =
    elim (before_or_not r n) [
      | inl e ↦ subst (λ b. MatchBool b (Among (k_reserved r) (words_below n)) (Among (k_reserved r) (words_below n) → ⊥)) (sym (lt-ltb r n e)) (reserved_among r n e)
      | inr e ↦ subst (λ b. MatchBool b (Among (k_reserved r) (words_below n)) (Among (k_reserved r) (words_below n) → ⊥)) (sym (le-ltb r n e)) (λ h. let f = among_reserved r n h in omega (arith, e, f))
    ]

pub reserved_told : (w : Word) → MatchBool (is_reserved w) (Among (word_kind w) (words_below word_count)) (Among (word_kind w) (words_below word_count) → ⊥)
reserved_told (word.Reserved r) = number_told r word_count
reserved_told (word.Name t) = not_among (word_kind (word.Name t)) word_count (λ r e. omega (arith, e))
reserved_told (word.Number v) = not_among (word_kind (word.Number v)) word_count (λ r e. omega (arith, e))
reserved_told word.Float = not_among (word_kind word.Float) word_count (λ r e. omega (arith, e))
reserved_told (word.Str t) = not_among (word_kind (word.Str t)) word_count (λ r e. omega (arith, e))
reserved_told (word.Mark m) = not_among (word_kind (word.Mark m)) word_count (λ r e. omega (arith, e))
reserved_told word.Newline = not_among (word_kind word.Newline) word_count (λ r e. omega (arith, e))
reserved_told (word.Before t) = not_among (word_kind (word.Before t)) word_count (λ r e. omega (arith, e))
reserved_told (word.After t) = not_among (word_kind (word.After t)) word_count (λ r e. omega (arith, e))

among_told : (ks : List ℕ) (tokens : List Token) (at : ℕ) (t : Token) (b : Bool) → slice_get tokens at ≡ Some t → at < length tokens → MatchBool b (Among (kind t) ks) (Among (kind t) ks → ⊥) → MatchBool b (NextAmong kind ks tokens at) (NextAmong kind ks tokens at → ⊥)
among_told ks tokens at t true e l h = (t, sym e, h, l)
among_told ks tokens at t false e l h = λ n. let f : t ≡ n.0 = (let g : Some t ≡ Some n.0 = sym e ∙ sym n.1 in cc) in h (subst (λ s. Among (kind s) ks) (sym f) n.2)

-- the token that was found says whether a word of these kinds is next
pub found_told : (ks : List ℕ) (tokens : List Token) (at : ℕ) (t : Token) (b c : Bool) → true ≡ nat_lt at (length tokens) → t ≡ get_or tokens at t → b ≡ c → MatchBool c (Among (kind t) ks) (Among (kind t) ks → ⊥) → MatchBool b (NextAmong kind ks tokens at) (NextAmong kind ks tokens at → ⊥)
found_told ks tokens at t b c e f h m =
    let l = is_below at (length tokens) e in
    among_told ks tokens at t b (slice_get_read tokens (length tokens) at t refl l f) l (subst (λ b. MatchBool b (Among (kind t) ks) (Among (kind t) ks → ⊥)) (sym h) m)
