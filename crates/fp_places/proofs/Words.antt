-- Names, qualified names and spans begin where a token does. G says of a place that it is such a place, and N of a name that it is the
-- name that a token has.
use Rattle.std.proofs.Common.{◌≡◌, ℕ, true, List, refl, arith}
use Rattle.std.specs.List.{AllByRecursion as Each}
use Rattle.fp_base.proofs.Lists.{each_push}
use Rattle.fp_base.specs.declared.place.Place.{Place}
use Rattle.fp_lexer.specs.declared.token.Word.{Word}
use Rattle.fp_lexer.specs.declared.token.Word.TheVariants as word
use Rattle.fp_lexer.specs.declared.token.Token.{Token}
use Rattle.fp_tree.specs.declared.name.Name.{Name}
use Rattle.fp_tree.specs.declared.name.Qual.{Qual}
use Rattle.fp_grammar.specs.Grammar.{Grammar}
use Rattle.fp_parse_pieces.specs.Kinds.{kind, word_kind, k_name, k_dot}
use Rattle.fp_parse_pieces.specs.Words.{at, name, name_text, one_name, longer, qual}
use Rattle.fp_places.proofs.Preserving.{Gives, gives_token, gives_map, gives_chain, gives_after}

-- the tokens of names are names
named_word : (w : Word) → word_kind w ≡ k_name → w ≡ word.Name (name_text w)
named_word (word.Name text) e = refl
named_word (word.Reserved r) e = absurd (omega (arith, e))
named_word (word.Number n) e = absurd (omega (arith, e))
named_word word.Float e = absurd (omega (arith, e))
named_word (word.Str text) e = absurd (omega (arith, e))
named_word (word.Mark m) e = absurd (omega (arith, e))
named_word word.Newline e = absurd (omega (arith, e))
named_word (word.Before text) e = absurd (omega (arith, e))
named_word (word.After text) e = absurd (omega (arith, e))

module _ (G : Place → Type 0) (N : Name → Type 0) where
  -- a token begins at such a place, and has such a name if it has one
  pub record IsTold (t : Token) : Type 0 where
    pub begins : G t.at.first
    pub named : (text : List ℕ) → t.what ≡ word.Name text → N (record { text = text; at = t.at })

  -- the grammar gives nodes of which Q holds to such tokens
  abbrev pub Yields : {X : Type 0} → Grammar Token X → (X → Type 0) → Type 0
  Yields g Q = Gives kind IsTold g Q

  pub at_yields : (k : ℕ) → Yields (at k) (λ s. G s.first)
  at_yields k = gives_map (λ s. G s.first) (λ t. t.at) (λ t h. h.0.begins) (gives_token k)

  -- a name's place and the name
  pub record SitedName (n : Name) : Type 0 where
    pub begins : G n.at.first
    pub named : N n

  pub name_yields : Yields name SitedName
  name_yields = gives_map SitedName (λ t. record { text = name_text t.what; at = t.at })
      (λ t h. record { begins = h.0.begins; named = h.0.named (name_text t.what) (named_word t.what h.1) }) (gives_token k_name)

  -- those of a qualified name
  pub record SitedQual (q : Qual) : Type 0 where
    pub begins : G q.at.first
    pub named : Each N q.names

  one_found : (n : Name) → SitedName n → SitedQual (one_name n)
  one_found n h = record { begins = h.begins; named = (h.named, tt) }

  longer_found : (q : Qual) (n : Name) → SitedQual q → SitedName n → SitedQual (longer q n)
  longer_found q n h k = record { begins = h.begins; named = each_push N q.names n h.named k.named }

  pub qual_yields : Yields qual SitedQual
  qual_yields = gives_chain (λ _. true) longer (λ q n may. longer_found q n) (gives_map SitedQual one_name one_found name_yields) (gives_after k_dot name_yields)
