-- What is found of some expressions, one after another.
use Rattle.std.proofs.Common.{◌≡◌, ℕ, zero, suc, ◌+◌, ◌-◌, ◌^◌, ◌≤◌, ◌⊎◌, min, max, true, false, List, [], ◌∷◌, ◌++◌, length, map, flat_map, sum, slice_get, take, Option, Some, None, refl, inl, inr, sym, ap, subst, ◌∙◌, arith, length-append}
use Rattle.std.specs.List.{sum_by}
use Rattle.std.proofs.lemmas.List.Sums.{sum-map, sum_by-append}
use Rattle.fp_base.proofs.Lists.{get_last, take_next}
use Rattle.fp_base.specs.declared.refusal.Refusal.{Refusal}
use Rattle.fp_base.specs.declared.value.Value.{Value}
use Rattle.fp_tree.specs.declared.source.Source.{Source}
use Rattle.fp_tree.specs.declared.expression.Expr.{Expr}
use Rattle.fp_base.specs.Least.{IsLeast, Either, lesser_of}
use Rattle.fp_meaning.specs.Names.{Path, in_expression}
use Rattle.fp_meaning.specs.Values.{opened, leaves, levels, deepest, Val, Vals, none, more}
use Rattle.fp_meaning.specs.ConstantFaults.{BrokenIn}
use Rattle.fp_base.proofs.Calculus.{least_none, least_same, least_along, least_either}
use Rattle.fp_base.proofs.Numbers.{max_none}
use Rattle.fp_consts.specs.declared.measured.Measured.{Measured}
use Rattle.fp_consts.specs.declared.found.Examination.{Examination}
use Rattle.fp_consts.specs.declared.gathered.Gathered.{Gathered}
use Rattle.fp_consts.specs.Examined.{AreGiven, IsFound, IsMeasured, IsNext, IsJoined, IsGathered, AreGathered, PartsBroken, plain}
use Rattle.fp_consts.proofs.Given.{given_split}

-- values one after another
vals_more : {source : Source} {scope : Path} {es : List Expr} (e : Expr) {vs : List Value} {v : Value}
    → Vals source scope es vs → Val source scope (opened e) v → Vals source scope (es ++ e ∷ []) (vs ++ v ∷ [])
vals_more e none h = more h none
vals_more e (more x xs) h = more x (vals_more e xs h)

vals_before : {source : Source} {scope : Path} (es : List Expr) (e : Expr) {ws : List Value} → Vals source scope (es ++ e ∷ []) ws
    → (vs : List Value) × (v : Value) × Vals source scope es vs × Val source scope (opened e) v
vals_before [] e (more {v = v} h none) = ([], v, none, h)
vals_before (x ∷ es) e (more {v = w} h rest) = let t = vals_before es e rest in (w ∷ t.0, t.1, more h t.2, t.3)

sum_more : (vs : List Value) (v : Value) → sum (map leaves (vs ++ v ∷ [])) ≡ sum (map leaves vs) + leaves v
sum_more vs v =
    let whole = sum-map leaves (vs ++ v ∷ []) in
    let split = sum_by-append leaves vs (v ∷ []) in
    let before = sum-map leaves vs in
    let one : 0 + leaves v ≡ sum_by leaves (v ∷ []) = sum-map leaves (v ∷ []) in
    omega arith

deepest_more : (vs : List Value) (v : Value) → deepest (map levels (vs ++ v ∷ [])) ≡ max (deepest (map levels vs)) (levels v)
deepest_more [] v = max_none (levels v)
deepest_more (x ∷ vs) v =
    let rest = deepest_more vs v in
    let same : max (levels x) (deepest (map levels (vs ++ v ∷ []))) ≡ max (max (levels x) (deepest (map levels vs))) (levels v) = omega arith in
    same

leaves_step : (a b c d n : ℕ) → a ≡ min d (2 ^ 32 - 1) → b ≡ min (a + n) (2 ^ 32 - 1) → c ≡ d + n → b ≡ min c (2 ^ 32 - 1)
leaves_step a b c d n e f g = omega arith

leaves_before : (a b n : ℕ) → b ≡ min (a + n) (2 ^ 32 - 1) → b ≤ 65536 → a ≤ 65536
leaves_before a b n e h = omega arith

flat_more : {A B : Type 0} (f : A → List B) (xs : List A) (x : A) → length (flat_map f (xs ++ x ∷ [])) ≡ length (flat_map f xs) + length (f x)
flat_more f [] x = let both : length (f x ++ []) ≡ length (f x) + 0 = length-append (f x) [] in let same : length (f x ++ []) ≡ 0 + length (f x) = omega arith in same
flat_more f (y ∷ xs) x =
    let rest = flat_more f xs x in
    let one = length-append (f y) (flat_map f (xs ++ x ∷ [])) in
    let other = length-append (f y) (flat_map f xs) in
    let same : length (f y ++ flat_map f (xs ++ x ∷ [])) ≡ length (f y ++ flat_map f xs) + length (f x) = omega arith in
    same

-- what stands in a list with one more
in_more : {A : Type 0} (xs : List A) (x : A) (k : ℕ) (y : A) → slice_get (xs ++ x ∷ []) k ≡ Some y → (slice_get xs k ≡ Some y) ⊎ (x ≡ y)
in_more [] x zero y e = inr cc
in_more [] x (suc k) y e = cc
in_more (z ∷ xs) x zero y e = inl e
in_more (z ∷ xs) x (suc k) y e = in_more xs x k y e

pub stays : {A : Type 0} (xs : List A) (x : A) (k : ℕ) (y : A) → slice_get xs k ≡ Some y → slice_get (xs ++ x ∷ []) k ≡ Some y
stays [] x k y e = cc
stays (z ∷ xs) x zero y e = e
stays (z ∷ xs) x (suc k) y e = stays xs x k y e

module _ (source : Source) (scope : Path) where
  parts_more : (es : List Expr) (e : Expr) (o q : Option Refusal) → IsLeast (PartsBroken source scope es) o → IsLeast (BrokenIn source scope e) q
      → IsLeast (PartsBroken source scope (es ++ e ∷ [])) (lesser_of o q)
  parts_more es e o q l m = least_same to back (least_either o q l m)
    where
      to : (f : Refusal) → Either (PartsBroken source scope es) (BrokenIn source scope e) f → PartsBroken source scope (es ++ e ∷ []) f
      to f (inl t) = (t.0, t.1, stays es e t.0 t.1 t.2, t.3)
      to f (inr h) = (length es, e, get_last es e, h)

      split : (f : Refusal) (t : PartsBroken source scope (es ++ e ∷ []) f) → (slice_get es t.0 ≡ Some t.1) ⊎ (e ≡ t.1)
          → Either (PartsBroken source scope es) (BrokenIn source scope e) f
      split f t (inl at) = inl (t.0, t.1, at, t.3)
      split f t (inr same) = inr (subst (λ (x : Expr). BrokenIn source scope x f) (sym same) t.3)

      back : (f : Refusal) → PartsBroken source scope (es ++ e ∷ []) f → Either (PartsBroken source scope es) (BrokenIn source scope e) f
      back f t = split f t (in_more es e t.0 t.1 t.2)

  pub gathered_none : (from : ℕ) → IsGathered source scope [] from (record { complete = true; values = []; leaves = 0; levels = 0; first = None; next = from })
  gathered_none from = record {
    all = λ e. record { values = []; each = none; of_leaves = omega arith; of_levels = refl; kept = λ h. refl };
    none = λ e. cc;
    first = least_none (λ f t. cc);
    next = omega arith;
  }

  -- all had values, and so has one more
  all_more : (es : List Expr) (e : Expr) (g h : Gathered) (m : Measured) → AreGathered source scope es g → IsMeasured m → Val source scope (opened e) m.value
      → (h.leaves ≡ min (g.leaves + m.leaves) (2 ^ 32 - 1)) → (h.levels ≡ max g.levels m.levels) → (h.leaves ≤ 65536 → h.values ≡ g.values ++ m.value ∷ [])
      → AreGathered source scope (es ++ e ∷ []) h
  all_more es e g h m a is val n d kept = record {
    values = a.values ++ m.value ∷ [];
    each = vals_more e a.each val;
    of_leaves = leaves_step g.leaves h.leaves (sum (map leaves (a.values ++ m.value ∷ []))) (sum (map leaves a.values)) m.leaves a.of_leaves n
        (sum_more a.values m.value ∙ ap (λ (k : ℕ). sum (map leaves a.values) + k) (sym is.of_leaves));
    of_levels = d ∙ ap (λ (k : ℕ). max k m.levels) a.of_levels ∙ ap (λ (k : ℕ). max (deepest (map levels a.values)) k) is.of_levels ∙ sym (deepest_more a.values m.value);
    kept = λ small. kept small ∙ ap (λ (vs : List Value). vs ++ m.value ∷ []) (a.kept (leaves_before g.leaves h.leaves m.leaves n small));
  }

  -- one expression more
  pub gathered_next : (es : List Expr) (e : Expr) (from : ℕ) (g : Gathered) (found : Examination) (h : Gathered)
      → IsGathered source scope es from g → IsFound source scope e g.next found → IsNext g found h → IsGathered source scope (es ++ e ∷ []) from h
  gathered_next es e from g found h is f n = record {
    all = (go found.value refl n.joined).0;
    none = (go found.value refl n.joined).1;
    first = least_along (sym n.first) (parts_more es e g.first found.first is.first f.first);
    next =
        let one = n.next in let two = f.next in let three = is.next in let long = flat_more (in_expression scope) es e in
        omega arith;
  }
    where
      go : (o : Option Measured) → found.value ≡ o → IsJoined g o h
          → (h.complete ≡ true → AreGathered source scope (es ++ e ∷ []) h)
          × (h.complete ≡ false → (vs : List Value) → Vals source scope (es ++ e ∷ []) vs → ⊥)
      go None o j = (
        λ c. cc,
        λ c vs v. let t = vals_before es e v in let never : None ≡ Some t.1 = sym (ap plain o) ∙ f.value.only t.1 t.3 in cc,
      )
      go (Some m) o j = (
        λ c. all_more es e g h m (is.all (sym j.0 ∙ c)) (f.measured m o) (f.value.holds m.value (ap plain o)) j.1 j.2 j.3,
        λ c vs v. let t = vals_before es e v in is.none (sym j.0 ∙ c) t.0 t.2,
      )

  -- the uses of one of the expressions are given where those of all are
  pub given_at : (table : List (Option Measured)) (numbers : List ℕ) (es : List Expr) (k : ℕ) (e : Expr) (from : ℕ) → slice_get es k ≡ Some e
      → AreGiven source table numbers (flat_map (in_expression scope) es) from
      → AreGiven source table numbers (in_expression scope e) (from + length (flat_map (in_expression scope) (take k es)))
  given_at table numbers [] k e from at given = cc
  given_at table numbers (x ∷ es) zero e from at given =
      let same : x ≡ e = cc in
      subst (λ (y : Expr). AreGiven source table numbers (in_expression scope y) (from + 0)) same
      (subst (λ (n : ℕ). AreGiven source table numbers (in_expression scope x) n) (omega arith)
      (given_split source table numbers (in_expression scope x) (flat_map (in_expression scope) es) from given).0)
  given_at table numbers (x ∷ es) (suc k) e from at given =
      let rest = given_at table numbers es k e (from + length (in_expression scope x)) at
      (given_split source table numbers (in_expression scope x) (flat_map (in_expression scope) es) from given).1 in
      let long = length-append (in_expression scope x) (flat_map (in_expression scope) (take k es)) in
      let same : from + length (in_expression scope x) + length (flat_map (in_expression scope) (take k es)) ≡ from + length (in_expression scope x ++ flat_map (in_expression scope) (take k es)) = omega arith in
      subst (λ (n : ℕ). AreGiven source table numbers (in_expression scope e) n) same rest

  -- one step of a loop over some expressions
  pub gathered_step : (table : List (Option Measured)) (numbers : List ℕ) (es : List Expr) (k : ℕ) (e : Expr) (from : ℕ) (g : Gathered) (found : Examination) (h : Gathered)
      → slice_get es k ≡ Some e → (AreGiven source table numbers (flat_map (in_expression scope) es) from → IsGathered source scope (take k es) from g)
      → (AreGiven source table numbers (in_expression scope e) g.next → IsFound source scope e g.next found) → IsNext g found h
      → AreGiven source table numbers (flat_map (in_expression scope) es) from → IsGathered source scope (take (k + 1) es) from h
  gathered_step table numbers es k e from g found h at before examined next given =
      let so_far = before given in
      let here = given_at table numbers es k e from at given in
      let f = examined (subst (λ (n : ℕ). AreGiven source table numbers (in_expression scope e) n) (sym so_far.next) here) in
      subst (λ (xs : List Expr). IsGathered source scope xs from h) (sym (take_next es k e at)) (gathered_next (take k es) e from g found h so_far f next)
