-- The histories and the traces of a run agree.
use Rattle.std.proofs.Common.{◌≡◌, ℕ, suc, max, ◌<◌, List, [], ◌∷◌, ◌++◌, eqb, true, false, refl, ap, ap₂, subst, ◌∙◌, ◌≢◌, ◌⊎◌, inl, inr, arith}
use Rattle.std.proofs.lemmas.Bool.Decides.{eqb_tells}
use Rattle.fp_events.specs.System.{System, Laws}
use Rattle.fp_events.specs.SystemRun.{projection, World, at, by, opening, Run, Agree, Mergeable, last_or, Rises}
use Rattle.fp_events.proofs.OfRun.{at_run, by_run, kept_rises, told_rises, run_stamped}
use Rattle.fp_events.proofs.Sorting.{filter-swap}
use Rattle.fp_events.proofs.Turns.{projection-here, projection-other}

pub Rises-member : {E : Type 0} (stamp : E → ℕ) (before : List E) (n : ℕ) (e : E) (rest : List E) → Rises stamp n (before ++ e ∷ rest) → n < stamp e
Rises-member stamp [] n e rest h = h.0
Rises-member stamp (x ∷ xs) n e rest h =
    let above : stamp x < stamp e = Rises-member stamp xs (stamp x) e rest h.1 in
    let low : n < stamp x = h.0 in
    omega arith

-- where an entry stands in both of its projections, it stands in the list after the same entries
module _ {E : Type 0} (number other stamp : E → ℕ) (e : E) where
  abbrev Place : List E → List E → List E → Type 0
  Place es xs us = (before rest : List E) × (es ≡ before ++ e ∷ rest) × (projection number (number e) before ≡ xs) × (projection other (other e) before ≡ us)

  -- the statement for the list es
  abbrev Placed : List E → Type 0
  Placed es = (xs ys us vs : List E) (k l : ℕ)
      → Rises stamp k (projection number (number e) es) → Rises stamp l (projection other (other e) es)
      → projection number (number e) es ≡ xs ++ e ∷ ys → projection other (other e) es ≡ us ++ e ∷ vs
      → Place es xs us

  module _ (f : E) (es : List E) (again : Placed es) where
    in_both : number f ≡ number e → other f ≡ other e → (xs ys us vs : List E)
        → Rises stamp (stamp f) (projection number (number e) es) → Rises stamp (stamp f) (projection other (other e) es)
        → f ∷ projection number (number e) es ≡ xs ++ e ∷ ys → f ∷ projection other (other e) es ≡ us ++ e ∷ vs → Place (f ∷ es) xs us
    in_both n o [] ys [] vs r q h i = let same : f ≡ e = cc in ([], es, ap (λ g. g ∷ es) same, refl, refl)
    in_both n o [] ys (u ∷ us) vs r q h i =
        let same : f ≡ e = cc in
        let tail : projection other (other e) es ≡ us ++ e ∷ vs = cc in
        let above : stamp f < stamp e = Rises-member stamp us (stamp f) e vs (subst (Rises stamp (stamp f)) tail q) in
        absurd (omega (arith, ap stamp same))
    in_both n o (x ∷ xs) ys [] vs r q h i =
        let same : f ≡ e = cc in
        let tail : projection number (number e) es ≡ xs ++ e ∷ ys = cc in
        let above : stamp f < stamp e = Rises-member stamp xs (stamp f) e ys (subst (Rises stamp (stamp f)) tail r) in
        absurd (omega (arith, ap stamp same))
    in_both n o (x ∷ xs) ys (u ∷ us) vs r q h i =
        let first : f ≡ x = cc in
        let second : f ≡ u = cc in
        let p : Place es xs us = again xs ys us vs (stamp f) (stamp f) r q (cc) (cc) in
        (f ∷ p.0, p.1, ap (λ l. f ∷ l) p.2, projection-here number (number e) f p.0 n ∙ ap₂ ◌∷◌ first p.3, projection-here other (other e) f p.0 o ∙ ap₂ ◌∷◌ second p.4)

    in_number : number f ≡ number e → other f ≢ other e → (xs ys us vs : List E) (l : ℕ)
        → Rises stamp (stamp f) (projection number (number e) es) → Rises stamp l (projection other (other e) es)
        → f ∷ projection number (number e) es ≡ xs ++ e ∷ ys → projection other (other e) es ≡ us ++ e ∷ vs → Place (f ∷ es) xs us
    in_number n o [] ys us vs l r q h i = let same : f ≡ e = cc in absurd (o (ap other same))
    in_number n o (x ∷ xs) ys us vs l r q h i =
        let first : f ≡ x = cc in
        let p : Place es xs us = again xs ys us vs (stamp f) l r q (cc) i in
        (f ∷ p.0, p.1, ap (λ l. f ∷ l) p.2, projection-here number (number e) f p.0 n ∙ ap₂ ◌∷◌ first p.3, projection-other other (other e) f p.0 o ∙ p.4)

    in_other : number f ≢ number e → other f ≡ other e → (xs ys us vs : List E) (k : ℕ)
        → Rises stamp k (projection number (number e) es) → Rises stamp (stamp f) (projection other (other e) es)
        → projection number (number e) es ≡ xs ++ e ∷ ys → f ∷ projection other (other e) es ≡ us ++ e ∷ vs → Place (f ∷ es) xs us
    in_other n o xs ys [] vs k r q h i = let same : f ≡ e = cc in absurd (n (ap number same))
    in_other n o xs ys (u ∷ us) vs k r q h i =
        let second : f ≡ u = cc in
        let p : Place es xs us = again xs ys us vs k (stamp f) r q h (cc) in
        (f ∷ p.0, p.1, ap (λ l. f ∷ l) p.2, projection-other number (number e) f p.0 n ∙ p.3, projection-here other (other e) f p.0 o ∙ ap₂ ◌∷◌ second p.4)

    in_neither : number f ≢ number e → other f ≢ other e → (xs ys us vs : List E) (k l : ℕ)
        → Rises stamp k (projection number (number e) es) → Rises stamp l (projection other (other e) es)
        → projection number (number e) es ≡ xs ++ e ∷ ys → projection other (other e) es ≡ us ++ e ∷ vs → Place (f ∷ es) xs us
    in_neither n o xs ys us vs k l r q h i =
        let p : Place es xs us = again xs ys us vs k l r q h i in
        (f ∷ p.0, p.1, ap (λ l. f ∷ l) p.2, projection-other number (number e) f p.0 n ∙ p.3, projection-other other (other e) f p.0 o ∙ p.4)

    one_more : Placed (f ∷ es)
    one_more xs ys us vs k l = go (eqb_tells (number f) (number e)) (eqb_tells (other f) (other e))
      where
        go : ((eqb (number f) (number e) ≡ true) × (number f ≡ number e)) ⊎ ((eqb (number f) (number e) ≡ false) × (number f ≢ number e))
            → ((eqb (other f) (other e) ≡ true) × (other f ≡ other e)) ⊎ ((eqb (other f) (other e) ≡ false) × (other f ≢ other e))
            → Rises stamp k (projection number (number e) (f ∷ es)) → Rises stamp l (projection other (other e) (f ∷ es))
            → projection number (number e) (f ∷ es) ≡ xs ++ e ∷ ys → projection other (other e) (f ∷ es) ≡ us ++ e ∷ vs → Place (f ∷ es) xs us
        go (inl n) (inl o) r q h i = in_both n.1 o.1 xs ys us vs (rw n.0 at r).1 (rw o.0 at q).1 (rw n.0 at h) (rw o.0 at i)
        go (inl n) (inr o) r q h i = in_number n.1 o.1 xs ys us vs l (rw n.0 at r).1 (rw o.0 at q) (rw n.0 at h) (rw o.0 at i)
        go (inr n) (inl o) r q h i = in_other n.1 o.1 xs ys us vs k (rw n.0 at r) (rw o.0 at q).1 (rw n.0 at h) (rw o.0 at i)
        go (inr n) (inr o) r q h i = in_neither n.1 o.1 xs ys us vs k l (rw n.0 at r) (rw o.0 at q) (rw n.0 at h) (rw o.0 at i)

  place : (es : List E) → Placed es
  place [] [] ys us vs k l r q h i = absurd (cc)
  place [] (x ∷ xs) ys us vs k l r q h i = absurd (cc)
  place (f ∷ es) xs ys us vs k l r q h i = one_more f es (place es) xs ys us vs k l r q h i

module _ {S A Q E : Type 0} (y : System S A Q E) (laws : Laws y) where
  pub run_agrees : (es : List E) (v : World S A) → Run y (opening y) es v → Agree y (λ i. at y i es) (λ a. by y a es)
  run_agrees es v h = record {
    entries = λ i a. filter-swap (λ e. eqb (y.actor e) a) (λ e. eqb (y.instance e) i) es;
    stamps = λ e earlier later before rest here mine.
        let p = place y.instance y.actor y.stamp e es earlier later before rest 0 0
        (kept_rises y laws (y.instance e) (at y (y.instance e) es) (v.instances (y.instance e)) (at_run y laws es (opening y) v h (y.instance e)))
        (told_rises y laws (y.actor e) (by y (y.actor e) es) (v.actors (y.actor e)) (by_run y laws es (opening y) v h (y.actor e)))
        here mine in
        run_stamped y laws es v h e p.0 p.1 p.2 ∙ ap₂ (λ xs us. suc (max (last_or y.stamp 0 xs) (last_or y.stamp 0 us))) p.3 p.4;
  }

  pub recorded : (es : List E) (v : World S A) → Run y (opening y) es v → Mergeable y (λ i. at y i es) (λ a. by y a es) v
  recorded es v h = record {
    kept = at_run y laws es (opening y) v h;
    told = by_run y laws es (opening y) v h;
    agree = run_agrees es v h;
  }
