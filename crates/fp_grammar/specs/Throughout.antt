-- Grammars of which each part has a spelling, so that what is promised of the whole is promised of its parts.
use Rattle.std.specs.Prelude.{◌≡◌, ℕ, Bool, true, ◌&&◌}
use Rattle.fp_grammar.specs.Grammar.{Grammar}
use Rattle.fp_grammar.specs.Grammar.Grammar.{token, one_of, seq, map, with_tokens, alt, optional, many, alternating, chain, separated, separated_tail, ref}
use Rattle.fp_grammar.specs.Sets.{some_in, is_predictive}
use Rattle.fp_grammar.specs.Promises.{RefsGood}

-- each part has a spelling
abbrev pub each_productive : {T X : Type 0} → Grammar T X → Bool
each_productive (token k) = true
each_productive (one_of ks) = some_in ks
each_productive (seq a b) = each_productive a && each_productive b
each_productive (map f a) = each_productive a
each_productive (with_tokens a) = each_productive a
each_productive (alt a b) = each_productive a && each_productive b
each_productive (optional a) = each_productive a
each_productive (many a) = each_productive a
each_productive (alternating a b) = each_productive a && each_productive b
each_productive (chain a b allows build) = each_productive a && each_productive b
each_productive (separated a seps) = each_productive a
each_productive (separated_tail a seps) = each_productive a
each_productive (ref n) = n.productive

-- what a parser rests on that is put together from the parsers of the parts
pub record FitsThroughout {T X : Type 0} (kind : T → ℕ) (g : Grammar T X) : Type 0 where
  pub predictive : is_predictive g ≡ true
  pub each : each_productive g ≡ true
  pub refs : RefsGood kind g
