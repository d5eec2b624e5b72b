-- A grammar of which each part has a spelling fits, and so do its parts.
use Rattle.std.proofs.Common.{◌≡◌, ℕ, true, refl}
use Rattle.fp_base.proofs.Bools.{or_left, and_left, and_right, join}
use Rattle.fp_grammar.specs.Grammar.{Grammar}
use Rattle.fp_grammar.specs.Grammar.Grammar.{token, one_of, seq, map, with_tokens, alt, optional, many, alternating, chain, separated, separated_tail, ref}
use Rattle.fp_grammar.specs.Sets.{is_predictive, productive}
use Rattle.fp_grammar.specs.Promises.{Fits}
use Rattle.fp_grammar.specs.Throughout.{each_productive, FitsThroughout}

each_some : {T X : Type 0} (g : Grammar T X) → each_productive g ≡ true → productive g ≡ true
each_some (token k) e = refl
each_some (one_of ks) e = e
each_some (seq a b) e = join (productive a) (productive b) (each_some a (and_left (each_productive a) _ e)) (each_some b (and_right (each_productive a) _ e))
each_some (map f a) e = each_some a e
each_some (with_tokens a) e = each_some a e
each_some (alt a b) e = or_left (productive a) (productive b) (each_some a (and_left (each_productive a) _ e))
each_some (optional a) e = refl
each_some (many a) e = refl
each_some (alternating a b) e = refl
each_some (chain a b allows build) e = join (productive a) true (each_some a (and_left (each_productive a) _ e)) refl
each_some (separated a seps) e = refl
each_some (separated_tail a seps) e = refl
each_some (ref n) e = e

module _ {T : Type 0} {kind : T → ℕ} where
  pub fits_whole : {X : Type 0} {g : Grammar T X} → FitsThroughout kind g → Fits kind g
  fits_whole {g = g} f = record { predictive = f.predictive; some = each_some g f.each; refs = f.refs }

  pub fits_one : {A B : Type 0} {a : Grammar T A} {b : Grammar T B} → FitsThroughout kind (seq a b) → FitsThroughout kind a
  fits_one {a = a} f = record { predictive = and_left (is_predictive a) _ f.predictive; each = and_left (each_productive a) _ f.each; refs = f.refs.0 }

  pub fits_other : {A B : Type 0} {a : Grammar T A} {b : Grammar T B} → FitsThroughout kind (seq a b) → FitsThroughout kind b
  fits_other {a = a} {b = b} f = record { predictive = and_left (is_predictive b) _ (and_right (is_predictive a) _ f.predictive); each = and_right (each_productive a) _ f.each; refs = f.refs.1 }

  pub fits_under : {X Y : Type 0} {m : X → Y} {a : Grammar T X} → FitsThroughout kind (map m a) → FitsThroughout kind a
  fits_under f = record { predictive = f.predictive; each = f.each; refs = f.refs }

  pub fits_inside : {X : Type 0} {a : Grammar T X} → FitsThroughout kind (optional a) → FitsThroughout kind a
  fits_inside {a = a} f = record { predictive = and_left (is_predictive a) _ f.predictive; each = f.each; refs = f.refs }
