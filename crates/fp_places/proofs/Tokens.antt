-- Names, qualified names, texts and spans begin where a token does. G says of a place that it is such a place.
use Rattle.std.proofs.Common.{ℕ, true, List, [], ◌∷◌, Option, Some, None, subst}
use Rattle.std.specs.List.{AllByRecursion as Each}
use Rattle.fp_base.specs.declared.place.Place.{Place}
use Rattle.fp_base.proofs.Lists.{InOption}
use Rattle.fp_lexer.specs.declared.token.Token.{Token}
use Rattle.fp_grammar.specs.Grammar.{Grammar}
use Rattle.fp_grammar.specs.Grammar.Grammar.{one_of}
use Rattle.fp_meaning.specs.Sites.{in_optional}
use Rattle.fp_parse_pieces.specs.Kinds.{kind, k_name, k_dot, k_string}
use Rattle.fp_parse_pieces.specs.Words.{at, name, name_text, one_name, longer, qual, literal_string, string_text}
use Rattle.fp_places.proofs.Preserving.{Gives, gives_token, gives_map, gives_chain, gives_after}

module _ (G : Place → Type 0) where
  abbrev pub Begins : Token → Type 0
  Begins t = G t.at.first

  -- the grammar gives nodes of which Q holds to tokens that begin at such places
  abbrev pub Yields : {X : Type 0} → Grammar Token X → (X → Type 0) → Type 0
  Yields g Q = Gives kind Begins g Q

  pub one_of_yields : (ks : List ℕ) → Yields (one_of ks) Begins
  one_of_yields ks = record { given = λ w t s h. let k : Each Begins (t ∷ []) = subst (λ (v : List Token). Each Begins v) s.0 h in k.0 }

  pub at_yields : (k : ℕ) → Yields (at k) (λ s. G s.first)
  at_yields k = gives_map (λ s. G s.first) (λ t. t.at) (λ t h. h.0) (gives_token k)

  pub name_yields : Yields name (λ n. G n.at.first)
  name_yields = gives_map (λ n. G n.at.first) (λ t. record { text = name_text t.what; at = t.at }) (λ t h. h.0) (gives_token k_name)

  pub string_yields : Yields literal_string (λ s. G s.at.first)
  string_yields = gives_map (λ s. G s.at.first) (λ t. record { text = string_text t.what; at = t.at }) (λ t h. h.0) (gives_token k_string)

  pub qual_yields : Yields qual (λ q. G q.at.first)
  qual_yields = gives_chain (λ _. true) longer (λ q n may h k. h) (gives_map (λ q. G q.at.first) one_name (λ n h. h) name_yields) (gives_after k_dot name_yields)

  -- what may be left out
  pub optional_stands : {A : Type 0} (found : A → List Place) (o : Option A) → InOption (λ x. Each G (found x)) o → Each G (in_optional found o)
  optional_stands found None h = tt
  optional_stands found (Some x) h = h
