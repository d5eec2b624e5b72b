-- A language that is read in steps keeps what its sets promise, if the grammars of the pieces do.
use Rattle.std.proofs.Common.{◌≡◌, ℕ, true, false, List, [], ◌∷◌, ◌++◌, refl, sym, ◌∙◌, ap, subst, append_assoc, append-nil}
use Rattle.fp_base.proofs.Bools.{never_true}
use Rattle.fp_grammar.specs.Grammar.{Spells, Among}
use Rattle.fp_grammar.specs.Sets.{nullable, productive, first, extends}
use Rattle.fp_grammar.specs.Promises.{Fits, IsGood}
use Rattle.fp_grammar.proofs.Lists.{Cuts, cuts_of, disjoint-apart, Among-subset}
use Rattle.fp_grammar.proofs.Lists.Cuts.{same, longer, shorter}
use Rattle.fp_grammar.proofs.Fits.{good_of}
use Rattle.fp_grammar.specs.Steps.{Next, Steps, SpellsFrom, Driven, from_state}
use Rattle.fp_grammar.specs.Steps.Next.{on, ends}
use Rattle.fp_grammar.specs.Steps.SpellsFrom.{last, more}

pub same_end : {S X : Type 0} (x y : X) → ◌≡◌ {A = Next S X} (ends x) (ends y) → x ≡ y
same_end {S = S} {X = X} x y e = ap (λ n. node n) e
  where
    node : Next S X → X
    node (on s) = x
    node (ends x) = x

pub same_state : {S X : Type 0} (s s' : S) → ◌≡◌ {A = Next S X} (on s) (on s') → s ≡ s'
same_state {S = S} {X = X} s s' e = ap (λ n. state n) e
  where
    state : Next S X → S
    state (on t) = t
    state (ends x) = s

pub not_both : {S X : Type 0} (s : S) (x : X) → ◌≡◌ {A = Next S X} (on s) (ends x) → ⊥
not_both s x e = cc

-- a list begins with no token of these kinds
abbrev pub BeginsApart : {T : Type 0} → (T → ℕ) → List ℕ → List T → Type 0
BeginsApart {T = T} kind over z = (t : T) (r : List T) → z ≡ t ∷ r → Among (kind t) over → ⊥

module _ {T S Y X : Type 0} {kind : T → ℕ} {steps : Steps T S Y X} {over : List ℕ} (d : Driven kind steps over) where
  pub piece_good : (s : S) → IsGood kind (Spells kind (steps.piece s)) (nullable (steps.piece s)) (productive (steps.piece s)) (first (steps.piece s)) over
  piece_good s =
      let good = good_of (steps.piece s) (d.fits s).predictive (d.fits s).refs in
      record {
        spelling = good.spelling;
        empty = good.empty;
        begin = good.begin;
        extend = λ u t w x y p q. Among-subset (kind t) (extends (steps.piece s)) over (d.extended s) (good.extend u t w x y p q);
        unique = good.unique;
      }

  pub begins : (s : S) (w : List T) (x : X) → SpellsFrom kind steps s w x → (t : T) (r : List T) → w ≡ t ∷ r → Among (kind t) (first (steps.piece s))
  begins s w x (last _ _ y _ p e) t r f = (piece_good s).begin t r y (subst (λ l. Spells kind (steps.piece s) l y) f p)
  begins s w x (more _ s' _ u v y _ f p e m) t r g = front u (sym f ∙ g) p
    where
      front : (u : List T) → u ++ v ≡ t ∷ r → Spells kind (steps.piece s) u y → Among (kind t) (first (steps.piece s))
      front [] h p = absurd (never_true (nullable (steps.piece s)) (d.filled s) ((piece_good s).empty y p))
      front (t' ∷ u) h p = let i : t' ≡ t = cc in (piece_good s).begin t u y (subst (λ l. Spells kind (steps.piece s) (l ∷ u) y) i p)

  pub begins_apart : (s : S) (w : List T) (x : X) → SpellsFrom kind steps s w x → BeginsApart kind over w
  begins_apart s w x m t r f h = disjoint-apart (kind t) over (first (steps.piece s)) (d.apart s) h (begins s w x m t r f)

  pub never_empty : (s : S) (w : List T) (x : X) → SpellsFrom kind steps s w x → w ≡ [] → ⊥
  never_empty s w x (last _ _ y _ p e) f = never_true (nullable (steps.piece s)) (d.filled s) ((piece_good s).empty y (subst (λ l. Spells kind (steps.piece s) l y) f p))
  never_empty s w x (more _ s' _ u v y _ f p e m) g = front u (sym f ∙ g) p
    where
      front : (u : List T) → u ++ v ≡ [] → Spells kind (steps.piece s) u y → ⊥
      front [] h p = never_true (nullable (steps.piece s)) (d.filled s) ((piece_good s).empty y p)
      front (t' ∷ u) h p = cc

  -- what follows is a spelling, so it begins apart also with more behind it
  apart_before : (s : S) (w : List T) (x : X) (z : List T) → SpellsFrom kind steps s w x → BeginsApart kind over (w ++ z)
  apart_before s w x z m t r f h = front w refl f
    where
      front : (l : List T) → l ≡ w → l ++ z ≡ t ∷ r → ⊥
      front [] g i = never_empty s w x m (sym g)
      front (t' ∷ l) g i = let j : t' ≡ t = cc in begins_apart s w x m t l (sym g ∙ ap (λ q. q ∷ l) j) h

  -- two cuts behind a piece
  pub cut_apart : (s : S) (u z u' v' : List T) (y y' : Y) → Spells kind (steps.piece s) u y → Spells kind (steps.piece s) u' y' → BeginsApart kind over z → BeginsApart kind over v' → u ++ z ≡ u' ++ v' → (u ≡ u') × (z ≡ v')
  cut_apart s u z u' v' y y' p p' k k' e = go (cuts_of u z u' v' e)
    where
      go : Cuts u z u' v' → (u ≡ u') × (z ≡ v')
      go (same f g) = (f, g)
      go (longer t r f g) = absurd (k t (r ++ v') g ((piece_good s).extend u t r y y' p (subst (λ w. Spells kind (steps.piece s) w y') f p')))
      go (shorter t r f g) = absurd (k' t (r ++ z) g ((piece_good s).extend u' t r y' y p' (subst (λ w. Spells kind (steps.piece s) w y) f p)))

  nothing_apart : BeginsApart kind over []
  nothing_apart t r e h = cc

  -- one cut's piece is the other's
  pub same_piece : (s : S) (u u' : List T) (y y' : Y) → Spells kind (steps.piece s) u y → Spells kind (steps.piece s) u' y' → u ≡ u' → y ≡ y'
  same_piece s u u' y y' p p' e = (piece_good s).unique u' y y' (subst (λ l. Spells kind (steps.piece s) l y) e p) p'

  pub unique : (s : S) (w w' : List T) (x x' : X) → w ≡ w' → SpellsFrom kind steps s w x → SpellsFrom kind steps s w' x' → x ≡ x'
  unique s w w' x x' i (last _ _ y _ p e) (last _ _ y' _ p' e') = same_end x x' (sym e ∙ ap (λ z. steps.leads s z) (same_piece s w w' y y' p p' i) ∙ e')
  unique s w w' x x' i (last _ _ y _ p e) (more _ s' _ u' v' y' _ f p' e' m) =
      let c = cut_apart s w [] u' v' y y' p p' nothing_apart (begins_apart s' v' x' m) (append-nil w ∙ i ∙ f) in
      absurd (never_empty s' v' x' m (sym c.1))
  unique s w w' x x' i (more _ s' _ u v y _ f p e m) (last _ _ y' _ p' e') =
      let c = cut_apart s w' [] u v y' y p' p nothing_apart (begins_apart s' v x m) (append-nil w' ∙ sym i ∙ f) in
      absurd (never_empty s' v x m (sym c.1))
  unique s w w' x x' i (more _ s1 _ u v y _ f p e m) (more _ s2 _ u' v' y' _ f' p' e' m') =
      let c = cut_apart s u v u' v' y y' p p' (begins_apart s1 v x m) (begins_apart s2 v' x' m') (sym f ∙ i ∙ f') in
      let g = same_state s1 s2 (sym e ∙ ap (λ z. steps.leads s z) (same_piece s u u' y y' p p' c.0) ∙ e') in
      unique s1 v v' x x' c.1 m (subst (λ q. SpellsFrom kind steps q v' x') (sym g) m')

  pub extend : (s : S) (u w : List T) (t : T) (r : List T) (x x' : X) → w ≡ u ++ t ∷ r → SpellsFrom kind steps s u x → SpellsFrom kind steps s w x' → Among (kind t) over
  extend s u w t r x x' i (last _ _ y _ p e) (last _ _ y' _ p' e') = (piece_good s).extend u t r y y' p (subst (λ l. Spells kind (steps.piece s) l y') i p')
  extend s u w t r x x' i (last _ _ y _ p e) (more _ s' _ u' v' y' _ f p' e' m) = go (cuts_of u (t ∷ r) u' v' (sym i ∙ f))
    where
      go : Cuts u (t ∷ r) u' v' → Among (kind t) over
      go (same g h) = absurd (not_both s' x (sym e' ∙ ap (λ z. steps.leads s z) (sym (same_piece s u u' y y' p p' g)) ∙ e))
      go (longer t' r' g h) = let j : t' ≡ t = cc in subst (λ z. Among (kind z) over) j ((piece_good s).extend u t' r' y y' p (subst (λ l. Spells kind (steps.piece s) l y') g p'))
      go (shorter t' r' g h) = absurd (begins_apart s' v' x' m t' (r' ++ t ∷ r) h ((piece_good s).extend u' t' r' y' y p' (subst (λ l. Spells kind (steps.piece s) l y) g p)))
  extend s u w t r x x' i (more _ s' _ u1 v1 y _ f p e m) (last _ _ y' _ p' e') =
      let c = cut_apart s u1 (v1 ++ t ∷ r) w [] y y' p p' (apart_before s' v1 x (t ∷ r) m) nothing_apart (sym (append_assoc u1 v1 (t ∷ r)) ∙ ap (λ l. l ++ t ∷ r) (sym f) ∙ sym i ∙ sym (append-nil w)) in
      absurd (some v1 c.1)
    where
      some : (l : List T) → l ++ t ∷ r ≡ [] → ⊥
      some [] g = cc
      some (z ∷ l) g = cc
  extend s u w t r x x' i (more _ s1 _ u1 v1 y _ f p e m) (more _ s2 _ u2 v2 y' _ f' p' e' m') =
      let c = cut_apart s u1 (v1 ++ t ∷ r) u2 v2 y y' p p' (apart_before s1 v1 x (t ∷ r) m) (begins_apart s2 v2 x' m') (sym (append_assoc u1 v1 (t ∷ r)) ∙ ap (λ l. l ++ t ∷ r) (sym f) ∙ sym i ∙ f') in
      let g = same_state s1 s2 (sym e ∙ ap (λ z. steps.leads s z) (same_piece s u1 u2 y y' p p' c.0) ∙ e') in
      extend s1 v1 v2 t r x x' (sym c.1) m (subst (λ q. SpellsFrom kind steps q v2 x') (sym g) m')

  pub from_good : (s : S) → IsGood kind (SpellsFrom kind steps s) false true (first (steps.piece s)) over
  from_good s = record {
    spelling = λ e. d.spelling s;
    empty = λ x m. absurd (never_empty s [] x m refl);
    begin = λ t w x m. begins s (t ∷ w) x m t w refl;
    extend = λ u t w x y m m'. extend s u (u ++ t ∷ w) t w x y refl m m';
    unique = λ w x y m m'. unique s w w x y refl m m';
  }

  pub from_fits : (s : S) → Fits kind (from_state kind steps over s)
  from_fits s = record { predictive = refl; some = refl; refs = from_good s }
