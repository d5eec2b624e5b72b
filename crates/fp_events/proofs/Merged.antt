-- A list in order of stamps, with the projections of histories that agree with traces.
use Rattle.std.proofs.Common.{◌≡◌, ℕ, ◌≤◌, List, ◌++◌, filter, eqb, true, false, refl, sym, ap, ◌∙◌, arith, eq-eqb, subst}
use Rattle.std.specs.List.Sorted.{IsStableBy, ties}
use Rattle.std.proofs.lemmas.Bool.Decides.{nat_tests}
use Rattle.std.proofs.lemmas.List.Elements.{filter-append}
use Rattle.fp_events.specs.System.{System, Laws}
use Rattle.fp_events.specs.SystemRun.{Step, at, by, entry_lt, IsStamped, Agree, Mergeable, Rises, World, Run, opening}
use Rattle.std.proofs.Math.Path.{fun_ext}
use Rattle.fp_events.proofs.Agreement.{recorded}
use Rattle.fp_events.proofs.OfRun.{kept_rises, told_rises}
use Rattle.fp_events.proofs.Decompose.{decompose}
use Rattle.fp_events.proofs.Sorting.{filter-swap, NeverFalls, NeverFalls-filter, same_list}
use Rattle.fp_events.proofs.Turns.{InTurn-join, projection-split}

module _ {S A Q E : Type 0} (y : System S A Q E) (histories traces : ℕ → List E) (agree : Agree y histories traces) (es : List E)
    (histories_are : (i : ℕ) → at y i es ≡ histories i) where
  -- the traces follow from the histories
  pub traces_are : NeverFalls y.stamp 0 es → ((a : ℕ) → Rises y.stamp 0 (traces a)) → (a : ℕ) → by y a es ≡ traces a
  traces_are ordered rises a =
      same_list y.stamp (λ z e. eqb (y.instance e) (y.instance z)) (λ e. eq-eqb (y.instance e) (y.instance e) refl) (by y a es) (traces a) 0 0
      (NeverFalls-filter y.stamp (λ e. eqb (y.actor e) a) es 0 ordered) (rises a)
      (λ z. filter-swap (λ e. eqb (y.instance e) (y.instance z)) (λ e. eqb (y.actor e) a) es
      ∙ ap (λ l. by y a l) (histories_are (y.instance z)) ∙ agree.entries (y.instance z) a)

  pub stamps_are : ((a : ℕ) → by y a es ≡ traces a) → IsStamped y es
  stamps_are traces_are e before rest same =
      agree.stamps e (at y (y.instance e) before) (at y (y.instance e) rest) (by y (y.actor e) before) (by y (y.actor e) rest)
      (sym (histories_are (y.instance e)) ∙ ap (λ l. at y (y.instance e) l) same ∙ projection-split y.instance before e rest)
      (sym (traces_are (y.actor e)) ∙ ap (λ l. by y (y.actor e) l) same ∙ projection-split y.actor before e rest)

module _ {S A Q E : Type 0} (y : System S A Q E) (laws : Laws y) where
  pub entry_lt-stamps : (e f : E) → entry_lt y f e ≡ false → y.stamp e ≤ y.stamp f
  entry_lt-stamps e f h = grind (arith, nat_tests)

  pub ties_self : (e : E) → ties (entry_lt y) e e ≡ true
  ties_self e = grind (arith, nat_tests)

  -- any list with these projections
  pub decomposed : (histories traces : ℕ → List E) (v : World S A) → Mergeable y histories traces v → (es : List E)
      → ((i : ℕ) → at y i es ≡ histories i) → ((a : ℕ) → by y a es ≡ traces a) → Run y (opening y) es v
  decomposed histories traces v m es histories_are traces_are =
      decompose y laws es v (stamps_are y histories traces m.agree es histories_are traces_are)
      (λ i. rw (histories_are i) (m.kept i)) (λ a. rw (traces_are a) (m.told a))

  -- a list of all entries, and the same entries by stamp and actor
  module _ (histories traces : ℕ → List E) (v : World S A) (m : Mergeable y histories traces v) (all es : List E)
      (all_are : (i : ℕ) → at y i all ≡ histories i) (ordered : NeverFalls y.stamp 0 es) (stable : IsStableBy (entry_lt y) all es) where
    pub sorted_histories : (i : ℕ) → at y i es ≡ histories i
    sorted_histories i =
        same_list y.stamp (ties (entry_lt y)) ties_self (at y i es) (histories i) 0 0
        (NeverFalls-filter y.stamp (λ e. eqb (y.instance e) i) es 0 ordered)
        (kept_rises y laws i (histories i) (v.instances i) (m.kept i))
        (λ z. filter-swap (ties (entry_lt y) z) (λ e. eqb (y.instance e) i) es
        ∙ ap (λ l. at y i l) (stable z)
        ∙ filter-swap (λ e. eqb (y.instance e) i) (ties (entry_lt y) z) all
        ∙ ap (λ l. filter (ties (entry_lt y) z) l) (all_are i))

    pub sorted_traces : (a : ℕ) → by y a es ≡ traces a
    sorted_traces = traces_are y histories traces m.agree es sorted_histories
        ordered
        (λ a. told_rises y laws a (traces a) (v.actors a) (m.told a))

    pub sorted_run : Run y (opening y) es v
    sorted_run = decomposed histories traces v m es sorted_histories sorted_traces

  -- histories and traces go on as a run goes on from the world that they leave
  pub continued : (histories traces : ℕ → List E) (w v : World S A) → Mergeable y histories traces w → (es more : List E)
      → ((i : ℕ) → at y i es ≡ histories i) → ((a : ℕ) → by y a es ≡ traces a) → Run y w more v
      → Mergeable y (λ i. histories i ++ at y i more) (λ a. traces a ++ by y a more) v
  continued histories traces w v m es more histories_are traces_are h =
      subst (λ l. Mergeable y l (λ a. traces a ++ by y a more) v) (fun_ext (λ i. filter-append (λ e. eqb (y.instance e) i) es more ∙ ap (λ l. l ++ at y i more) (histories_are i)))
      (subst (λ l. Mergeable y (λ i. at y i (es ++ more)) l v) (fun_ext (λ a. filter-append (λ e. eqb (y.actor e) a) es more ∙ ap (λ l. l ++ by y a more) (traces_are a)))
      (recorded y laws (es ++ more) v (InTurn-join (Step y) es more (opening y) w v (decomposed histories traces w m es histories_are traces_are) h)))
