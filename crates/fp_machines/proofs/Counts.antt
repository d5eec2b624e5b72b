-- Counting one element more.
use Rattle.std.proofs.Common.{◌≡◌, ℕ, suc, ◌+◌, ◌<◌, ◌⊎◌, Bool, true, false, cond, List, [], ◌∷◌, ◌++◌, length, take, filter, slice_get, Some, refl, sym, ap, ◌∙◌, inl, inr, arith}
use Rattle.std.proofs.lemmas.List.{append-nil, length-append, take_all, take-append-le}
use Rattle.std.proofs.lemmas.List.Elements.{filter-append}
use Rattle.fp_base.proofs.Lists.{get_front, get_last}
use Rattle.fp_base.proofs.Spots.{below_or_at}
use Rattle.fp_tree.specs.declared.machine.BehaviorElement.{BehaviorElement}
use Rattle.fp_tree.specs.declared.machine.ElementForm.{ElementForm}
use Rattle.fp_tree.specs.declared.machine.ElementForm.TheVariants as element
use Rattle.fp_machines.specs.declared.counting.Counts.{Counts}
use Rattle.fp_machines.specs.declared.counting.CountTable.{CountTable}
use Rattle.fp_machines.specs.Counted.{AreCounted, counts_of, counts_with}
use Rattle.fp_machines.specs.Made.{is_action, is_guard, is_signal, is_vertex}

abbrev more : Bool → ℕ → ℕ
more true n = suc n
more false n = n

length_end : (b : Bool) (ys : List BehaviorElement) (e : BehaviorElement) → length (ys ++ cond b (e ∷ []) []) ≡ more b (length ys)
length_end true ys e = omega (arith, length-append ys (e ∷ []))
length_end false ys e = ap length (append-nil ys)

length_more : (test : ElementForm → Bool) (xs : List BehaviorElement) (e : BehaviorElement)
    → length (filter (λ (x : BehaviorElement). test x.form) (xs ++ e ∷ [])) ≡ more (test e.form) (length (filter (λ (x : BehaviorElement). test x.form) xs))
length_more test xs e =
    ap length (filter-append (λ (x : BehaviorElement). test x.form) xs (e ∷ [])) ∙ length_end (test e.form) (filter (λ (x : BehaviorElement). test x.form) xs) e

abbrev four : ℕ → ℕ → ℕ → ℕ → Counts
four v s a g = record { vertices = v; signals = s; actions = a; guards = g }

four_same : (v v' s s' a a' g g' : ℕ) → v ≡ v' → s ≡ s' → a ≡ a' → g ≡ g' → four v s a g ≡ four v' s' a' g'
four_same v v' s s' a a' g g' p q r t = cc

added : (c : Counts) (f : ElementForm)
    → four (more (is_vertex f) c.vertices) (more (is_signal f) c.signals) (more (is_action f) c.actions) (more (is_guard f) c.guards) ≡ counts_with c f
added c (element.State n) = refl
added c (element.Choice x) = refl
added c (element.Initial g) = refl
added c (element.Signal t) = refl
added c (element.Action t) = refl
added c (element.Guard t) = refl
added c (element.On o) = refl
added c (element.Entry d) = refl
added c (element.Exit d) = refl

counts_more : (xs : List BehaviorElement) (e : BehaviorElement) → counts_of (xs ++ e ∷ []) ≡ counts_with (counts_of xs) e.form
counts_more xs e =
    four_same _ _ _ _ _ _ _ _ (length_more is_vertex xs e) (length_more is_signal xs e) (length_more is_action xs e) (length_more is_guard xs e)
    ∙ added (counts_of xs) e.form

pub counted_more : (xs : List BehaviorElement) (e : BehaviorElement) (t t' : CountTable) → t'.before ≡ t.before ++ t.all ∷ [] → t'.all ≡ counts_with t.all e.form
    → AreCounted xs t → AreCounted (xs ++ e ∷ []) t'
counted_more xs e t t' b a h = record { each = long; exact = exact; all = a ∙ (ap (λ (c : Counts). counts_with c e.form) h.all ∙ sym (counts_more xs e)) }
  where
    long : length t'.before ≡ length (xs ++ e ∷ [])
    long = omega (arith, ap length b, length-append t.before (t.all ∷ []), length-append xs (e ∷ []), h.each)

    by : (at : ℕ) → (at < length xs) ⊎ (at ≡ length xs) → slice_get t'.before at ≡ Some (counts_of (take at (xs ++ e ∷ [])))
    by at (inl l) =
        ap (λ (cs : List Counts). slice_get cs at) b
        ∙ (get_front t.before (t.all ∷ []) at _ (h.exact at l) ∙ ap (λ (ys : List BehaviorElement). Some (counts_of ys)) (sym (take-append-le at xs (e ∷ []) (omega arith))))
    by at (inr s) =
        ap (λ (cs : List Counts). slice_get cs at) b
        ∙ (ap (λ (k : ℕ). slice_get (t.before ++ t.all ∷ []) k) (s ∙ sym h.each)
        ∙ (get_last t.before t.all
        ∙ (ap Some h.all
        ∙ ap (λ (ys : List BehaviorElement). Some (counts_of ys))
        (sym (take-append-le at xs (e ∷ []) (omega arith) ∙ take_all at xs (omega arith))))))

    exact : (at : ℕ) → at < length (xs ++ e ∷ []) → slice_get t'.before at ≡ Some (counts_of (take at (xs ++ e ∷ [])))
    exact at l = by at (below_or_at at (length xs) (omega (arith, length-append xs (e ∷ []))))
