-- A run that is replayed entry by entry.
use Rattle.std.proofs.Common.{◌≡◌, ◌<◌, ◌≤◌, ◌+◌, ℕ, suc, Bool, true, false, List, [], ◌∷◌, ◌++◌, length, take, drop, append_assoc, append-nil, Some, refl, sym, ap, ◌∙◌, subst, arith}
use Rattle.std.specs.List.{slice_get}
use Rattle.fp_base.proofs.Lists.{split_at, take_next}
use Rattle.fp_base.proofs.Numbers.{one_more}
use Rattle.fp_tables.specs.Lookup.{Described}
use Rattle.fp_tables.specs.declared.program.Program.{Program}
use Rattle.fp_events.specs.declared.event.Entry.{Entry}
use Rattle.fp_events.specs.declared.event.What.{What}
use Rattle.fp_events.specs.Fits.{actor_count, fits}
use Rattle.fp_events.specs.Run.{IsRun}
use Rattle.fp_events.proofs.Recorded.{fit_parts}
use Rattle.fp_running.specs.Progress.{Progress, Added, GoesOn, and_then}

abbrev pub Prefixes : Type 0
Prefixes = (t : Described) (p : Program) (before rest : List Entry) → IsRun t p (before ++ rest) → IsRun t p before

abbrev pub Fitting : Type 0
Fitting = (t : Described) (p : Program) (es : List Entry) → IsRun t p es → (before rest : List Entry) (e : Entry) → es ≡ before ++ e ∷ rest → fits t p e.actor e.instance e.what ≡ true

-- the actor of the last entry of a run is one of the program
pub known_actor : Fitting → (t : Described) (p : Program) (es : List Entry) (e : Entry) → IsRun t p (es ++ e ∷ []) → e.actor < actor_count t p
known_actor law t p es e run = (fit_parts t p e.actor e.instance e.what (law t p (es ++ e ∷ []) run es [] e refl)).0

module _ (r s : Progress) (es : List Entry) (k : ℕ) (e : Entry) (so_far : s ≡ and_then r (take k es)) (found : slice_get es k ≡ Some e) where
  pub next_run : Prefixes → IsRun r.tables r.program (r.entries ++ es) → IsRun s.tables s.program (s.entries ++ e ∷ [])
  next_run law run =
      subst (λ (q : Progress). IsRun q.tables q.program (q.entries ++ e ∷ [])) (sym so_far)
      (law r.tables r.program ((r.entries ++ take k es) ++ e ∷ []) (drop (suc k) es) (subst (IsRun r.tables r.program) joined run))
    where
      joined : r.entries ++ es ≡ ((r.entries ++ take k es) ++ e ∷ []) ++ drop (suc k) es
      joined =
          ap (λ l. r.entries ++ l) (split_at es k e found) ∙ sym (append_assoc r.entries (take k es) (e ∷ drop (suc k) es))
          ∙ sym (append_assoc (r.entries ++ take k es) (e ∷ []) (drop (suc k) es))

  pub one_further : (q : Progress) (j : ℕ) → j ≡ suc k → q ≡ and_then s (e ∷ []) → q ≡ and_then r (take j es)
  one_further q j is more =
      more ∙ ap (λ (x : Progress). and_then x (e ∷ [])) so_far
      ∙ ap (λ l. record r { entries = l }) (append_assoc r.entries (take k es) (e ∷ []) ∙ ap (λ l. r.entries ++ l) (sym (take_next es k e found) ∙ ap (λ n. take n es) (sym (is ∙ one_more k))))

  pub so_far_goes_on : (q : Progress) → q ≡ s → GoesOn r q
  so_far_goes_on q is = (take k es, is ∙ so_far)

-- what is added goes on, and again
pub added_goes_on : (b : Bool) (r s : Progress) → Added b r s → GoesOn r s
added_goes_on false r s h = ([], h ∙ ap (λ l. record r { entries = l }) (sym (append-nil r.entries)))
added_goes_on true r s h = (h.0 ∷ h.1, h.2)

pub goes_on_same : (r s q : Progress) → GoesOn r s → q ≡ s → GoesOn r q
goes_on_same r s q h is = (h.0, is ∙ h.1)

pub added_more : (b : Bool) (r s q : Progress) → Added b r s → Added true s q → Added true r q
added_more false r s q h k = (k.0, k.1, k.2 ∙ ap (λ (x : Progress). and_then x (k.0 ∷ k.1)) h)
added_more true r s q h k = (
  h.0,
  h.1 ++ k.0 ∷ k.1,
  k.2 ∙ ap (λ (x : Progress). and_then x (k.0 ∷ k.1)) h.2 ∙ ap (λ l. record r { entries = l }) (append_assoc r.entries (h.0 ∷ h.1) (k.0 ∷ k.1)),
)

pub added_same : (b : Bool) (r s q : Progress) → Added b r s → Added false s q → Added b r q
added_same b r s q h k = subst (Added b r) (sym k) h
