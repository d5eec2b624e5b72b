-- Members gathered by their states, one element after another.
use Rattle.std.proofs.Common.{◌≡◌, ◌≢◌, ℕ, ◌<◌, ◌⊎◌, Bool, true, false, cond, List, [], ◌∷◌, ◌++◌, length, set, filter, slice_get, get_or, Option, Some, None, refl, sym, ap, ◌∙◌, inl, inr, arith, length-set, eq-eqb}
use Rattle.std.specs.List.{filter_map}
use Rattle.std.proofs.lemmas.List.{append-nil}
use Rattle.std.proofs.lemmas.List.Elements.{filter-append}
use Rattle.std.proofs.lemmas.Option.{get_or_from_slice_get}
use Rattle.std.specs.Option.{option_to_list}
use Rattle.fp_base.proofs.Spots.{get_set_same, get_set_other, same_or_other}
use Rattle.fp_base.proofs.Numbers.{number_other}
use Rattle.fp_tree.specs.declared.machine.BehaviorElement.{BehaviorElement}
use Rattle.fp_tree.specs.declared.machine.ElementForm.{ElementForm}
use Rattle.fp_tree.specs.declared.machine.ElementForm.TheVariants as element
use Rattle.fp_tables.specs.declared.machine.On.{On}
use Rattle.fp_tables.specs.declared.machine.Step.{Step}
use Rattle.fp_machine_rules.specs.Members.{same_place}
use Rattle.fp_machines.specs.declared.gathering.Parts.{Parts}
use Rattle.fp_machines.specs.Gathered.{AreGathered, no_parts, or_else, parts, parts_in, with_member}
use Rattle.fp_machines.specs.Made.{entry_in, exit_in, first, initial_in, on_in}
use Rattle.fp_machines.proofs.Kept.{kept_more}

-- ---- those that stand in one state

abbrev those : Option ℕ → List BehaviorElement → List BehaviorElement
those p es = filter (λ (e : BehaviorElement). same_place p e.parent) es

those_more : (xs : List BehaviorElement) (e : BehaviorElement) (p : Option ℕ) (b : Bool) → same_place p e.parent ≡ b
    → those p (xs ++ e ∷ []) ≡ those p xs ++ cond b (e ∷ []) []
those_more xs e p b h =
    filter-append (λ (x : BehaviorElement). same_place p x.parent) xs (e ∷ []) ∙ ap (λ (c : Bool). those p xs ++ cond c (e ∷ []) []) h

-- ---- what one member more gives

abbrev or_given : {A : Type 0} → Option A → Option A → Option A
or_given None o = o
or_given (Some x) o = Some x

first_more : {A : Type 0} (xs : List A) (o : Option A) → first (xs ++ option_to_list o) ≡ or_given (first xs) o
first_more [] None = refl
first_more [] (Some x) = refl
first_more (x ∷ xs) o = refl

given_none : {A : Type 0} (o : Option A) → or_given o None ≡ o
given_none None = refl
given_none (Some x) = refl

given_some : {A : Type 0} (o : Option A) (x : A) → or_given o (Some x) ≡ or_else o x
given_some None x = refl
given_some (Some y) x = refl

abbrev four : Option Step → Option (List ℕ) → Option (List ℕ) → List On → Parts
four i n x o = record { initial = i; entry = n; exit = x; on = o }

four_same : (i i' : Option Step) (n n' x x' : Option (List ℕ)) (o o' : List On) → i ≡ i' → n ≡ n' → x ≡ x' → o ≡ o' → four i n x o ≡ four i' n' x' o'
four_same i i' n n' x x' o o' p q r t = cc

module _ (es : List BehaviorElement) where
  abbrev added : Option ℕ → Parts → ElementForm → Parts
  added p ps f =
      four (or_given ps.initial (initial_in es p f)) (or_given ps.entry (entry_in es f)) (or_given ps.exit (exit_in es f)) (ps.on ++ option_to_list (on_in es p f))

  added_none : (ps : Parts) → four (or_given ps.initial None) (or_given ps.entry None) (or_given ps.exit None) (ps.on ++ []) ≡ ps
  added_none ps = four_same _ _ _ _ _ _ _ _ (given_none ps.initial) (given_none ps.entry) (given_none ps.exit) (append-nil ps.on)

  added_is : (p : Option ℕ) (ps : Parts) (f : ElementForm) → added p ps f ≡ with_member es p ps f
  added_is p ps (element.State n) = added_none ps
  added_is p ps (element.Choice c) = added_none ps
  added_is p ps (element.Initial g) = four_same _ _ _ _ _ _ _ _ (given_some ps.initial _) (given_none ps.entry) (given_none ps.exit) (append-nil ps.on)
  added_is p ps (element.Signal t) = added_none ps
  added_is p ps (element.Action t) = added_none ps
  added_is p ps (element.Guard t) = added_none ps
  added_is p ps (element.On o) = four_same _ _ _ _ _ _ _ _ (given_none ps.initial) (given_none ps.entry) (given_none ps.exit) refl
  added_is p ps (element.Entry d) = four_same _ _ _ _ _ _ _ _ (given_none ps.initial) (given_some ps.entry _) (given_none ps.exit) (append-nil ps.on)
  added_is p ps (element.Exit d) = four_same _ _ _ _ _ _ _ _ (given_none ps.initial) (given_none ps.entry) (given_some ps.exit _) (append-nil ps.on)

  first_with : {A : Type 0} (f : BehaviorElement → Option A) (ms : List BehaviorElement) (e : BehaviorElement)
      → first (filter_map f (ms ++ e ∷ [])) ≡ or_given (first (filter_map f ms)) (f e)
  first_with f ms e = ap first (kept_more f ms e) ∙ first_more (filter_map f ms) (f e)

  parts_with : (p : Option ℕ) (ms : List BehaviorElement) (e : BehaviorElement) → parts_in es p (ms ++ e ∷ []) ≡ with_member es p (parts_in es p ms) e.form
  parts_with p ms e =
      four_same _ _ _ _ _ _ _ _ (first_with (λ (x : BehaviorElement). initial_in es p x.form) ms e) (first_with (λ (x : BehaviorElement). entry_in es x.form) ms e)
      (first_with (λ (x : BehaviorElement). exit_in es x.form) ms e) (kept_more (λ (x : BehaviorElement). on_in es p x.form) ms e)
      ∙ added_is p (parts_in es p ms) e.form

  parts_more : (xs : List BehaviorElement) (e : BehaviorElement) (p : Option ℕ) → same_place p e.parent ≡ true → parts es (xs ++ e ∷ []) p ≡ with_member es p (parts es xs p) e.form
  parts_more xs e p h = ap (parts_in es p) (those_more xs e p true h) ∙ parts_with p (those p xs) e

  parts_other : (xs : List BehaviorElement) (e : BehaviorElement) (p : Option ℕ) → same_place p e.parent ≡ false → parts es (xs ++ e ∷ []) p ≡ parts es xs p
  parts_other xs e p h = ap (parts_in es p) (those_more xs e p false h ∙ append-nil (those p xs))

  module _ (xs : List BehaviorElement) (e : BehaviorElement) (n : ℕ) (table : List Parts) (top : Parts) (h : AreGathered es xs n table top) where
    pub gather_none : (top' : Parts) → e.parent ≡ None → top' ≡ with_member es None top e.form → AreGathered es (xs ++ e ∷ []) n table top'
    gather_none top' s is = record {
      each = h.each;
      exact = λ v l. h.exact v l ∙ ap Some (sym (parts_other xs e (Some v) (ap (λ (o : Option ℕ). same_place (Some v) o) s)));
      own = is ∙ (ap (λ (t : Parts). with_member es None t e.form) h.own ∙ sym (parts_more xs e None (ap (λ (o : Option ℕ). same_place None o) s)));
    }

    pub gather_some : (q : ℕ) (table' : List Parts) → e.parent ≡ Some q → table' ≡ set table q (with_member es (Some q) (get_or table q no_parts) e.form)
        → AreGathered es (xs ++ e ∷ []) n table' top
    gather_some q table' s is = record {
      each = ap length is ∙ (length-set table q put ∙ h.each);
      exact = exact;
      own = h.own ∙ sym (parts_other xs e None (ap (λ (o : Option ℕ). same_place None o) s));
    }
      where
        put : Parts
        put = with_member es (Some q) (get_or table q no_parts) e.form

        put_is : q < n → put ≡ parts es (xs ++ e ∷ []) (Some q)
        put_is l =
            ap (λ (ps : Parts). with_member es (Some q) ps e.form) (get_or_from_slice_get table q _ no_parts (h.exact q l))
            ∙ sym (parts_more xs e (Some q) (ap (λ (o : Option ℕ). same_place (Some q) o) s ∙ eq-eqb q q refl))

        exact_by : (v : ℕ) → v < n → (v ≡ q) ⊎ (v ≢ q)
            → slice_get (set table q put) v ≡ Some (parts es (xs ++ e ∷ []) (Some v))
        exact_by v l (inl k) =
            let within : q < n = omega arith in
            ap (λ (m : ℕ). slice_get (set table q put) m) k
            ∙ (get_set_same table q put (omega (arith, h.each))
            ∙ (ap Some (put_is within) ∙ ap (λ (m : ℕ). Some (parts es (xs ++ e ∷ []) (Some m))) (sym k)))
        exact_by v l (inr d) =
            get_set_other table q v put d
            ∙ (h.exact v l ∙ ap Some (sym (parts_other xs e (Some v) (ap (λ (o : Option ℕ). same_place (Some v) o) s ∙ number_other v q d))))

        exact : (v : ℕ) → v < n → slice_get table' v ≡ Some (parts es (xs ++ e ∷ []) (Some v))
        exact v l = ap (λ (t : List Parts). slice_get t v) is ∙ exact_by v l (same_or_other v q)
