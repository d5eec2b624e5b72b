-- What holds of what comes of an annotated list, from what holds of its elements.
use Rattle.std.proofs.Common.{ℕ, List, [], ◌∷◌, ◌++◌, flat_map, Option, Some, None}
use Rattle.std.specs.List.{AllByRecursion as Each}
use Rattle.fp_lexer.specs.declared.token.Token.{Token}
use Rattle.fp_grammar.specs.Grammar.{Grammar}
use Rattle.fp_parse_pieces.specs.Kinds.{kind}
use Rattle.fp_parse_pieces.specs.Lists.{ListPiece, annotated, any_noted, gathered, joined, separated_by, separators, some_of, or_none, with_noted}
use Rattle.fp_parse_pieces.specs.Lists.ListPiece.{element, separator}
use Rattle.fp_tree.specs.declared.name.Name.{Name}
use Rattle.fp_meaning.specs.Names.{in_optional}
use Rattle.fp_base.proofs.Lists.{InOption, each_flat, each_push}
use Rattle.fp_places.proofs.Preserving.{Gives, gives_anything, gives_seq, gives_map, gives_optional, gives_turns}

-- of the element of a piece
abbrev pub InPiece : {X : Type 0} → (X → Type 0) → ListPiece X → Type 0
InPiece Q (element x lines) = Q x
InPiece Q (separator lines) = Unit {0}

module _ {X Z : Type 0} (Q : X → Type 0) (R : Z → Type 0) (add : Z → X → List (List ℕ) → Z) (step : (z : Z) (x : X) (lines : List (List ℕ)) → R z → Q x → R (add z x lines)) where
  gathered_given : (z : Z) (pieces : List (ListPiece X)) → R z → Each (InPiece Q) pieces → R (gathered add z pieces)
  gathered_given z [] h hs = h
  gathered_given z (separator lines ∷ pieces) h hs = gathered_given z pieces h hs.1
  gathered_given z (element x lines ∷ []) h hs = step z x lines h hs.0
  gathered_given z (element x lines ∷ separator more ∷ pieces) h hs = gathered_given (add z x (lines ++ more)) pieces (step z x (lines ++ more) h hs.0) hs.1.1
  gathered_given z (element x lines ∷ element y more ∷ pieces) h hs = gathered_given (add z x lines) (element y more ∷ pieces) (step z x lines h hs.0) hs.1

  pub gives_some_of : {P : Token → Type 0} {a : Grammar Token X} (ks : List ℕ) (none : Z) → R none → Gives kind P a Q → Gives kind P (some_of ks add none a) R
  gives_some_of {P = P} {a = a} ks none first p =
      gives_map R (λ p. gathered add none (p.0 ∷ p.1)) (λ p h. gathered_given none (p.0 ∷ p.1) first h) (gives_seq pieces (gives_turns between pieces))
    where
      pieces : Gives kind P (annotated a) (InPiece Q)
      pieces = gives_map (InPiece Q) (λ p. element p.0 p.1) (λ p h. h)
          (gives_map (λ p. Q p.0) (λ p. (p.1.0, p.0 ++ p.1.1)) (λ p h. h.1.0) (gives_seq gives_anything (gives_seq p gives_anything)))

      between : Gives kind P (separated_by ks) (InPiece Q)
      between = gives_map (InPiece Q) (λ p. separator p.1) (λ p h. tt) gives_anything

-- of each element of a list that may be left out
pub each_or_none : {X : Type 0} (Q : X → Type 0) (o : Option (List X)) → InOption (Each Q) o → Each Q (or_none o)
each_or_none Q None h = tt
each_or_none Q (Some xs) h = h

-- of each element of a list in which each has its annotation
pub gives_any_noted : {X : Type 0} (Q : X → Type 0) (m : ℕ) (with_note : X → List ℕ → X) → ((x : X) (note : List ℕ) → Q x → Q (with_note x note)) → {P : Token → Type 0} {a : Grammar Token X} → Gives kind P a Q → Gives kind P (any_noted m with_note a) (Each Q)
gives_any_noted Q m with_note kept p =
    gives_map (Each Q) or_none (each_or_none Q)
    (gives_optional (gives_some_of Q (Each Q) (with_noted with_note) (λ xs x lines h k. each_push Q xs (with_note x (joined lines)) h (kept x (joined lines) k)) (separators m) [] tt p))

-- the names in what an option holds
pub option_named : {A : Type 0} (N : Name → Type 0) (written : A → List Name) (o : Option A) → InOption (λ x. Each N (written x)) o → Each N (in_optional written o)
option_named N written None h = tt
option_named N written (Some x) h = h

-- and in each of a list
pub list_named : {A : Type 0} (N : Name → Type 0) (written : A → List Name) (xs : List A) → Each (λ x. Each N (written x)) xs → Each N (flat_map written xs)
list_named N written xs hs = each_flat N written xs hs
