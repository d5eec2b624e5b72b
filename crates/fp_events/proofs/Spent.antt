-- Where a run stops at the limit, an entry has the limit as its stamp.
use Rattle.std.proofs.Common.{◌≡◌, ℕ, suc, max, ◌<◌, ◌≤◌, Bool, true, false, eqb, filter, Some, List, [], ◌∷◌, ◌++◌, refl, sym, ap, subst, ◌∙◌, ◌⊎◌, inl, inr, arith}
use Rattle.fp_events.specs.System.{System, Laws}
use Rattle.fp_events.specs.SystemRun.{World, at, by, opening, Step, Run, last_or, HasStamp}
use Rattle.fp_events.proofs.Turns.{InTurn-split}
use Rattle.fp_events.proofs.OfRun.{at_run, by_run, kept_last, told_last}

module _ {E : Type 0} (stamp : E → ℕ) where
  -- the last stamp is that of an entry, or the one before all
  last_of : (n : ℕ) (es : List E) → (last_or stamp n es ≡ n) ⊎ HasStamp stamp (last_or stamp n es) es
  last_of n [] = inl refl
  last_of n (e ∷ es) = go (last_of (stamp e) es)
    where
      go : (last_or stamp (stamp e) es ≡ stamp e) ⊎ HasStamp stamp (last_or stamp (stamp e) es) es → (last_or stamp n (e ∷ es) ≡ n) ⊎ HasStamp stamp (last_or stamp n (e ∷ es)) (e ∷ es)
      go (inl is) = inr ([], e, es, refl, sym is)
      go (inr h) = inr (e ∷ h.0, h.1, h.2, ap (λ l. e ∷ l) h.3, h.4)

  HasStamp-cons : (m : ℕ) (e : E) (es : List E) → HasStamp stamp m es → HasStamp stamp m (e ∷ es)
  HasStamp-cons m e es h = (e ∷ h.0, h.1, h.2, ap (λ l. e ∷ l) h.3, h.4)

  -- what a projection has the list has
  HasStamp-filter : (p : E → Bool) (m : ℕ) (es : List E) → HasStamp stamp m (filter p es) → HasStamp stamp m es
  HasStamp-filter p m [] h = h
  HasStamp-filter p m (e ∷ es) h = go (p e) refl (HasStamp-filter p m es)
    where
      first : (before : List E) (x : E) (rest : List E) → e ∷ filter p es ≡ before ++ x ∷ rest → stamp x ≡ m → (HasStamp stamp m (filter p es) → HasStamp stamp m es) → HasStamp stamp m (e ∷ es)
      first [] x rest is has more = let same : e ≡ x = cc in ([], e, es, refl, ap stamp same ∙ has)
      first (b ∷ before) x rest is has more = let tail : filter p es ≡ before ++ x ∷ rest = cc in HasStamp-cons m e es (more (before, x, rest, tail, has))

      go : (b : Bool) → p e ≡ b → (HasStamp stamp m (filter p es) → HasStamp stamp m es) → HasStamp stamp m (e ∷ es)
      go true is more = let k : HasStamp stamp m (e ∷ filter p es) = rw is at h in first k.0 k.1 k.2 k.3 k.4 more
      go false is more = let k : HasStamp stamp m (filter p es) = rw is at h in HasStamp-cons m e es (more k)

  -- the last stamp of a projection, where it is not 0
  has_last : (p : E → Bool) (m : ℕ) (es : List E) → last_or stamp 0 (filter p es) ≡ m → 0 < m → HasStamp stamp m es
  has_last p m es is positive = go (last_of 0 (filter p es))
    where
      go : (last_or stamp 0 (filter p es) ≡ 0) ⊎ HasStamp stamp (last_or stamp 0 (filter p es)) (filter p es) → HasStamp stamp m es
      go (inl none) = absurd (omega (arith, is, none))
      go (inr h) = HasStamp-filter p m es (subst (λ n. HasStamp stamp n (filter p es)) is h)

module _ {S A Q E : Type 0} (y : System S A Q E) (laws : Laws y) where
  run_within : (es : List E) (w v : World S A) → Run y w es v → (m : ℕ) → HasStamp y.stamp m es → m ≤ y.steps
  run_within es w v h m has =
      let cut = InTurn-split (Step y) has.0 (has.1 ∷ has.2) w v (subst (λ l. Run y w l v) has.3 h) in
      let step : Step y cut.0 has.1 cut.2.0 = cut.2.1 in
      subst (λ n. n ≤ y.steps) has.4 step.within

  -- a last stamp that is not below the limit is the limit
  at_limit : (p : E → Bool) (es : List E) (w v : World S A) → Run y w es v → 0 < y.steps → (m : ℕ) → last_or y.stamp 0 (filter p es) ≡ m → y.steps ≤ m → HasStamp y.stamp y.steps es
  at_limit p es w v h positive m is high =
      let has = has_last y.stamp p m es is (omega arith) in
      let low : m ≤ y.steps = run_within es w v h m has in
      let same : m ≡ y.steps = omega arith in
      subst (λ n. HasStamp y.stamp n es) same has

  pub spent_stamp : (es : List E) (v : World S A) → Run y (opening y) es v → 0 < y.steps → (a i : ℕ) (ask : Q) (s : S) (e : E)
      → y.instance_part i (v.instances i) a ask (y.actor_stamp (v.actors a)) ≡ Some (e, s) → y.steps < y.stamp e → HasStamp y.stamp y.steps es
  spent_stamp es v h positive a i ask s e given above =
      go (y.instance_stamp (v.instances i)) (y.actor_stamp (v.actors a))
      (kept_last y laws i (at y i es) (v.instances i) (at_run y laws es (opening y) v h i))
      (told_last y laws a (by y a es) (v.actors a) (by_run y laws es (opening y) v h a))
      (laws.gives _ _ _ _ _ _ _ given).stamp
      (greater (y.instance_stamp (v.instances i)) (y.actor_stamp (v.actors a)))
    where
      greater : (m n : ℕ) → (m ≤ n) ⊎ (n ≤ m)
      greater m n = grind arith

      go : (m n : ℕ) → m ≡ last_or y.stamp 0 (at y i es) → n ≡ last_or y.stamp 0 (by y a es) → y.stamp e ≡ suc (max m n) → (m ≤ n) ⊎ (n ≤ m) → HasStamp y.stamp y.steps es
      go m n here mine stamp (inl le) = at_limit (λ e. eqb (y.actor e) a) es (opening y) v h positive n (sym mine) (omega arith)
      go m n here mine stamp (inr le) = at_limit (λ e. eqb (y.instance e) i) es (opening y) v h positive m (sym here) (omega arith)
