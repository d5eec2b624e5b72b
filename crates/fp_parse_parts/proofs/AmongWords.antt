-- A word is one of a list of reserved words exactly where its kind is among theirs.
use Rattle.std.proofs.Common.{◌≡◌, ℕ, Bool, true, false, List, [], ◌∷◌, refl, inl, inr, arith}
use Rattle.std.specs.Prelude.{◌==◌, ◌||◌, MatchBool}
use Rattle.std.specs.List.{list_any}
use Rattle.std.proofs.lemmas.Bool.{eqb-true, eqb-false}
use Rattle.fp_lexer.specs.declared.token.Word.{Word}
use Rattle.fp_lexer.specs.declared.token.Word.TheVariants as word
use Rattle.fp_grammar.specs.Grammar.{Among}
use Rattle.fp_parse_pieces.specs.Kinds.{k_reserved, word_kind}
use Rattle.fp_parse_parts.specs.FirstWords.{kinds_of, is_one_of}

-- what is among the kinds of reserved words is of the kind of one
kind_of_one : (k : ℕ) (words : List ℕ) → Among k (kinds_of words) → (r : ℕ) × (k ≡ k_reserved r)
kind_of_one k [] h = absurd h
kind_of_one k (v ∷ words) (inl e) = (v, e)
kind_of_one k (v ∷ words) (inr h) = kind_of_one k words h

no_kind : (k : ℕ) (words : List ℕ) → ((r : ℕ) → k ≡ k_reserved r → ⊥) → Among k (kinds_of words) → ⊥
no_kind k words other h = let f = kind_of_one k words h in other f.0 f.1

-- the same of one word more
one_more : (r v : ℕ) (words : List ℕ) (same b : Bool) → (v == r) ≡ same → list_any (λ other. other == r) words ≡ b → MatchBool b (Among (k_reserved r) (kinds_of words)) (Among (k_reserved r) (kinds_of words) → ⊥)
    → MatchBool (same || b) (Among (k_reserved r) (kinds_of (v ∷ words))) (Among (k_reserved r) (kinds_of (v ∷ words)) → ⊥)
one_more r v words true b e f m = let g = eqb-true v r e in inl (omega (arith, g))
one_more r v words false true e f m = inr m
one_more r v words false false e f m = λ n. either n
  where
    either : Among (k_reserved r) (kinds_of (v ∷ words)) → ⊥
    either (inl h) = let g = eqb-false v r e in g (omega (arith, h))
    either (inr h) = m h

number_told : (r : ℕ) (words : List ℕ) → MatchBool (list_any (λ other. other == r) words) (Among (k_reserved r) (kinds_of words)) (Among (k_reserved r) (kinds_of words) → ⊥)
number_told r [] = λ h. h
number_told r (v ∷ words) = one_more r v words (v == r) (list_any (λ other. other == r) words) refl refl (number_told r words)

-- the word is one of them exactly where its kind is among theirs
pub word_told : (words : List ℕ) (w : Word) → MatchBool (is_one_of words w) (Among (word_kind w) (kinds_of words)) (Among (word_kind w) (kinds_of words) → ⊥)
word_told words (word.Reserved r) = number_told r words
word_told words (word.Name t) = no_kind (word_kind (word.Name t)) words (λ r e. omega (arith, e))
word_told words (word.Number v) = no_kind (word_kind (word.Number v)) words (λ r e. omega (arith, e))
word_told words word.Float = no_kind (word_kind word.Float) words (λ r e. omega (arith, e))
word_told words (word.Str t) = no_kind (word_kind (word.Str t)) words (λ r e. omega (arith, e))
word_told words (word.Mark m) = no_kind (word_kind (word.Mark m)) words (λ r e. omega (arith, e))
word_told words word.Newline = no_kind (word_kind word.Newline) words (λ r e. omega (arith, e))
word_told words (word.Before t) = no_kind (word_kind (word.Before t)) words (λ r e. omega (arith, e))
word_told words (word.After t) = no_kind (word_kind (word.After t)) words (λ r e. omega (arith, e))
