-- How much is left of a run: each step of an actor brings its last stamp nearer to the limit.
use Rattle.std.proofs.Common.{◌≡◌, ◌≢◌, ◌<◌, ◌≤◌, ◌+◌, ◌-◌, ◌⊎◌, inl, inr, ℕ, zero, suc, max, Bool, true, false, List, [], ◌∷◌, ◌++◌, append_assoc, append-nil, Some, refl, sym, ap, ◌∙◌, subst, arith, eqb}
use Rattle.std.specs.List.{range_with_len}
use Rattle.std.proofs.lemmas.Bool.Decides.{eqb_tells}
use Rattle.fp_events.specs.SystemRun as system
use Rattle.fp_events.specs.System.{Laws}
use Rattle.fp_events.proofs.OfRun.{by_run, told_last}
use Rattle.fp_events.proofs.Turns.{InTurn-split, last_or-append}
use Rattle.fp_tables.specs.Lookup.{Described}
use Rattle.fp_tables.specs.declared.program.Program.{Program}
use Rattle.fp_events.specs.declared.event.Entry.{Entry}
use Rattle.fp_events.specs.Fits.{actor_count}
use Rattle.fp_events.specs.Run.{World, actors, by, last_stamp, opening, RunTo, IsRun}
use Rattle.fp_events.specs.Step.{core}
use Rattle.fp_running.specs.Progress.{Progress, Added, and_then}
use Rattle.fp_running.proofs.Replaying.{Fitting, Prefixes, known_actor}
use Rattle.fp_running.proofs.Stepping.{more_here, more_other}

abbrev pub total : (ℕ → ℕ) → List ℕ → ℕ
total f [] = 0
total f (x ∷ xs) = f x + total f xs

module _ (f g : ℕ → ℕ) (below : (x : ℕ) → g x ≤ f x) where
  no_more : (xs : List ℕ) → total g xs ≤ total f xs
  no_more [] =
      let of_g : total g [] ≡ 0 = refl in
      let of_f : total f [] ≡ 0 = refl in
      omega (arith, of_g, of_f)
  no_more (x ∷ xs) =
      let h = below x in
      let k = no_more xs in
      let of_g : total g (x ∷ xs) ≡ g x + total g xs = refl in
      let of_f : total f (x ∷ xs) ≡ f x + total f xs = refl in
      omega (arith, h, k, of_g, of_f)

  less : (b n a : ℕ) → b ≤ a → a < b + n → g a < f a → total g (range_with_len b n) < total f (range_with_len b n)
  less b zero a low high h = absurd (omega (arith, low, high))
  less b (suc n) a low high h = go (first b a low) (λ above. less (b + 1) n a (omega (arith, above)) (omega (arith, high)) h)
    where
      first : (b a : ℕ) → b ≤ a → (a ≡ b) ⊎ (b < a)
      first b a low = grind (arith)

      of_g : total g (range_with_len b (suc n)) ≡ g b + total g (range_with_len (b + 1) n)
      of_g = refl

      of_f : total f (range_with_len b (suc n)) ≡ f b + total f (range_with_len (b + 1) n)
      of_f = refl

      go : (a ≡ b) ⊎ (b < a) → (b < a → total g (range_with_len (b + 1) n) < total f (range_with_len (b + 1) n)) → total g (range_with_len b (suc n)) < total f (range_with_len b (suc n))
      go (inl e) later =
          let here : g b < f b = subst (λ (x : ℕ). g x < f x) e h in
          let rest = no_more (range_with_len (b + 1) n) in
          omega (arith, here, rest, of_g, of_f)
      go (inr above) later =
          let here = below b in
          let rest = later above in
          omega (arith, here, rest, of_g, of_f)

module _ (t : Described) (p : Program) where
  -- how far an actor's last stamp is below the limit
  abbrev pub room : List Entry → ℕ → ℕ
  room es a = p.steps - last_stamp (by a es)

  unfoldable pub left : List Entry → ℕ
  left es = total (room es) (actors t p)

  module _ (laws : Laws (core t p)) (fitting : Fitting) (prefixes : Prefixes) where
    module _ (es : List Entry) (e : Entry) (run : IsRun t p (es ++ e ∷ [])) where
      risen : (last_stamp (by e.actor es) < e.stamp) × (e.stamp ≤ p.steps)
      risen =
          let cut = InTurn-split (system.Step (core t p)) es (e ∷ []) (opening t p) run.0 run.1 in
          let step : system.Step (core t p) cut.0 e cut.2.0 = cut.2.1 in
          let stamp : e.stamp ≡ suc (max (cut.0.instances e.instance).last (cut.0.actors e.actor).last) = (laws.gives _ _ _ _ _ _ _ step.instance_part).stamp in
          let last : (cut.0.actors e.actor).last ≡ last_stamp (by e.actor es) =
          told_last (core t p) laws e.actor (by e.actor es) (cut.0.actors e.actor) (by_run (core t p) laws es (opening t p) cut.0 cut.1 e.actor) in
          (omega (arith, stamp, last), step.within)

      room_here : room (es ++ e ∷ []) e.actor < room es e.actor
      room_here =
          let h = risen in
          let last : last_stamp (by e.actor (es ++ e ∷ [])) ≡ e.stamp =
          ap last_stamp (more_here (λ (x : Entry). x.actor) e.actor e es refl) ∙ last_or-append (λ (x : Entry). x.stamp) 0 (by e.actor es) e in
          let after : room (es ++ e ∷ []) e.actor ≡ p.steps - e.stamp = ap (λ n. p.steps - n) last in
          let before : room es e.actor ≡ p.steps - last_stamp (by e.actor es) = refl in
          let low = h.0 in
          let high = h.1 in
          omega (arith, low, high, after, before)

      room_below : (a : ℕ) → room (es ++ e ∷ []) a ≤ room es a
      room_below a = go (eqb_tells e.actor a)
        where
          go : ((eqb e.actor a ≡ true) × (e.actor ≡ a)) ⊎ ((eqb e.actor a ≡ false) × (e.actor ≢ a)) → room (es ++ e ∷ []) a ≤ room es a
          go (inl is) = let h = room_here in subst (λ (n : ℕ). room (es ++ e ∷ []) n ≤ room es n) is.1 (omega (arith, h))
          go (inr is) = let same : room (es ++ e ∷ []) a ≡ room es a = ap (λ l. p.steps - last_stamp l) (more_other (λ (x : Entry). x.actor) a e es is.1) in omega (arith, same)

      pub less_left : left (es ++ e ∷ []) < left es
      unfolding left
      less_left = less (room es) (room (es ++ e ∷ [])) room_below 0 (actor_count t p) e.actor (omega arith) (let h = known_actor fitting t p es e run in omega (arith, h)) room_here

    not_more_left : (es more : List Entry) → IsRun t p (es ++ more) → left (es ++ more) ≤ left es
    not_more_left es [] run = let e : left (es ++ []) ≡ left es = ap left (append-nil es) in omega (arith, e)
    not_more_left es (e ∷ more) run =
        let moved : (es ++ e ∷ []) ++ more ≡ es ++ e ∷ more = append_assoc es (e ∷ []) more in
        let whole : IsRun t p ((es ++ e ∷ []) ++ more) = subst (IsRun t p) (sym moved) run in
        let first = less_left es e (prefixes t p (es ++ e ∷ []) more whole) in
        let rest : left ((es ++ e ∷ []) ++ more) ≤ left (es ++ e ∷ []) = not_more_left (es ++ e ∷ []) more whole in
        let same : left ((es ++ e ∷ []) ++ more) ≡ left (es ++ e ∷ more) = ap left moved in
        omega (arith, first, rest, same)

    pub less_after : (es more : List Entry) (e : Entry) → IsRun t p (es ++ e ∷ more) → left (es ++ e ∷ more) < left es
    less_after es more e run =
        let moved : (es ++ e ∷ []) ++ more ≡ es ++ e ∷ more = append_assoc es (e ∷ []) more in
        let whole : IsRun t p ((es ++ e ∷ []) ++ more) = subst (IsRun t p) (sym moved) run in
        let first = less_left es e (prefixes t p (es ++ e ∷ []) more whole) in
        let rest = not_more_left (es ++ e ∷ []) more whole in
        let same : left ((es ++ e ∷ []) ++ more) ≡ left (es ++ e ∷ more) = ap left moved in
        omega (arith, first, rest, same)

-- where steps were added less is left
pub less_when_added : ((t : Described) (p : Program) → Laws (core t p)) → Fitting → Prefixes → (r s : Progress) → IsRun s.tables s.program s.entries → Added true r s
    → left s.tables s.program s.entries < left r.tables r.program r.entries
less_when_added laws fitting prefixes r s run h =
    let whole : IsRun r.tables r.program (r.entries ++ h.0 ∷ h.1) = subst (λ (q : Progress). IsRun q.tables q.program q.entries) h.2 run in
    let less = less_after r.tables r.program (laws r.tables r.program) fitting prefixes r.entries h.1 h.0 whole in
    subst (λ (q : Progress). left q.tables q.program q.entries < left r.tables r.program r.entries) (sym h.2) less
