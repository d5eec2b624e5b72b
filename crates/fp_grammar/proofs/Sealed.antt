-- A sealed production keeps what its sets promise, and is parsed as what is under the seal.
use Rattle.std.proofs.Common.{◌≡◌, ℕ, true, not, List}
use Rattle.fp_base.proofs.Bools.{never_true}
use Rattle.fp_grammar.specs.Grammar.{Grammar}
use Rattle.fp_grammar.specs.Sets.{nullable, first, extends, is_predictive, subset}
use Rattle.fp_grammar.specs.Seal.{seal}
use Rattle.fp_grammar.specs.Parses.{Accepts, Refuses}
use Rattle.fp_grammar.proofs.Lists.{Among-subset}
use Rattle.fp_grammar.specs.Promises.{RefsGood}
use Rattle.fp_grammar.proofs.Fits.{good_of}

module _ {T : Type 0} {kind : T → ℕ} where
  -- the sets of a seal need only hold those that are computed
  pub sealed_good : {X : Type 0} (g : Grammar T X) (fs es : List ℕ) → is_predictive g ≡ true → not (nullable g) ≡ true → subset (first g) fs ≡ true → subset (extends g) es ≡ true → RefsGood kind g → RefsGood kind (seal kind g fs es)
  sealed_good g fs es predictive not_null f e refs =
      let good = good_of g predictive refs in
      record {
        spelling = good.spelling;
        empty = λ x s. absurd (never_true (nullable g) not_null (good.empty x s));
        begin = λ t w x s. Among-subset (kind t) (first g) fs f (good.begin t w x s);
        extend = λ u t w x y s i. Among-subset (kind t) (extends g) es e (good.extend u t w x y s i);
        unique = good.unique;
      }

  pub sealed_accepts : {X : Type 0} {g : Grammar T X} {fs es : List ℕ} {tokens : List T} {from to : ℕ} {x : X} → Accepts kind g tokens from x to → Accepts kind (seal kind g fs es) tokens from x to
  sealed_accepts p = record { w = p.w; place = p.place; splits = p.splits; spelled = p.spelled; stuck = p.stuck }

  pub sealed_refuses : {X : Type 0} {g : Grammar T X} {fs es : List ℕ} {tokens : List T} {from to : ℕ} → Refuses kind g tokens from to → Refuses kind (seal kind g fs es) tokens from to
  sealed_refuses p = record { w = p.w; place = p.place; splits = p.splits; viable = p.viable; none = p.none; stuck = p.stuck }
