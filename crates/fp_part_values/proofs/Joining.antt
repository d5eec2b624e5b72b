-- What is broken among type names and numbers that are read one after another.
use Rattle.std.proofs.Common.{◌≡◌, ◌⊎◌, ℕ, List, [], ◌∷◌, ◌++◌, Option, Some, None, slice_get, inl, inr, sym, ap, ◌∙◌, subst}
use Rattle.std.proofs.lemmas.List.{append-nil}
use Rattle.fp_base.proofs.Calculus.{least_along, least_either, least_none, least_same}
use Rattle.fp_base.specs.Least.{ByOptional, Either, InSome, IsLeast, lesser_of}
use Rattle.fp_base.specs.declared.refusal.Refusal.{Refusal}
use Rattle.fp_base.specs.declared.value.Value.{Value}
use Rattle.fp_tree.specs.declared.expression.Expr.{Expr}
use Rattle.fp_tree.specs.declared.part.Formal.{Formal}
use Rattle.fp_tree.specs.declared.source.Source.{Source}
use Rattle.fp_tree.specs.declared.type_name.TypeName.{TypeName}
use Rattle.fp_meaning.specs.declared.item.Item.{Item}
use Rattle.fp_meaning.specs.Layout.{expression_items, formals_items}
use Rattle.fp_meaning.specs.Sites.{Path}
use Rattle.fp_type_forms.specs.declared.resolving.Resolution.{Resolution}
use Rattle.fp_type_forms.specs.Broken.{BrokenByName, IsNoNumber, value_fault}
use Rattle.fp_type_forms.specs.Resolved.{AreResolved, Moves, Takes, value_resolved}
use Rattle.fp_type_forms.proofs.Breaking.{least_number}
use Rattle.fp_type_forms.proofs.Taking.{taken_as, taken_expression, taken_nothing, taken_then}
use Rattle.fp_part_values.specs.FormBroken.{BrokenAmong}
use Rattle.fp_part_values.specs.Names.{formal_names, written}
use Rattle.fp_part_values.specs.Passed.{Passes}
use Rattle.fp_part_values.proofs.Among.{in_nothing, in_front, in_behind, in_either, in_written, written_in, in_mapped, mapped_in}

module _ (source : Source) (scope : Path) where
  abbrev OfName : TypeName → Refusal → Type 0
  OfName t = BrokenByName source scope t

  abbrev OfNumber : Expr → Refusal → Type 0
  OfNumber e = IsNoNumber source scope e

  none_among : (f : Refusal) → BrokenAmong source scope [] [] f → ⊥
  none_among f = elim [ inl t ↦ in_nothing OfName f t | inr t ↦ in_nothing OfNumber f t ]

  names_alone : (ns : List TypeName) (f : Refusal) → BrokenAmong source scope ns [] f → InSome (λ k. OfName) ns f
  names_alone ns f = elim [ inl t ↦ t | inr t ↦ absurd (in_nothing OfNumber f t) ]

  numbers_alone : (es : List Expr) (f : Refusal) → BrokenAmong source scope [] es f → InSome (λ k. OfNumber) es f
  numbers_alone es f = elim [ inl t ↦ absurd (in_nothing OfName f t) | inr t ↦ t ]

  among_both : (ns ms : List TypeName) (es fs : List Expr) (f : Refusal) → Either (BrokenAmong source scope ns es) (BrokenAmong source scope ms fs) f
      → BrokenAmong source scope (ns ++ ms) (es ++ fs) f
  among_both ns ms es fs f (inl (inl t)) = inl (in_front OfName f ns ms t)
  among_both ns ms es fs f (inl (inr t)) = inr (in_front OfNumber f es fs t)
  among_both ns ms es fs f (inr (inl t)) = inl (in_behind OfName f ns ms t)
  among_both ns ms es fs f (inr (inr t)) = inr (in_behind OfNumber f es fs t)

  both_among : (ns ms : List TypeName) (es fs : List Expr) (f : Refusal) → BrokenAmong source scope (ns ++ ms) (es ++ fs) f
      → Either (BrokenAmong source scope ns es) (BrokenAmong source scope ms fs) f
  both_among ns ms es fs f (inl t) = named (in_either OfName f ns ms t)
    where
      named : InSome (λ k. OfName) ns f ⊎ InSome (λ k. OfName) ms f → Either (BrokenAmong source scope ns es) (BrokenAmong source scope ms fs) f
      named (inl u) = inl (inl u)
      named (inr u) = inr (inl u)
  both_among ns ms es fs f (inr t) = numbered (in_either OfNumber f es fs t)
    where
      numbered : InSome (λ k. OfNumber) es f ⊎ InSome (λ k. OfNumber) fs f → Either (BrokenAmong source scope ns es) (BrokenAmong source scope ms fs) f
      numbered (inl u) = inl (inr u)
      numbered (inr u) = inr (inr u)

-- ---- items that are passed

module _ (source : Source) (marks : List (Option Value)) (rs : List Resolution) where
  pub moved : (i : Item) (a b : ℕ) → Moves rs a b → Passes source marks rs (i ∷ []) a b
  moved i a b moves others h = (tt, subst (λ (n : ℕ). AreResolved source marks rs others n) (sym (moves h.0.0 h.0.1)) h.1)

  pub passed_both : (is js : List Item) (a b c : ℕ) → Passes source marks rs is a b → Passes source marks rs js b c → Passes source marks rs (is ++ js) a c
  passed_both is js a b c h k = taken_as source marks rs (is ++ js) a c (λ t. tt) (taken_then source marks rs is js a b c h k)

-- ---- what is read

module _ (source : Source) (marks : List (Option Value)) (rs : List Resolution) (scope : Path) where
  -- the least that is broken among these names and numbers, from what is read of these items
  abbrev pub Faults : List Item → ℕ → ℕ → List TypeName → List Expr → Option Refusal → Type 0
  Faults is a b ns es r = Takes source marks rs is a b (IsLeast (BrokenAmong source scope ns es) r)

  -- ---- nothing is broken

  pub nothing_there : (a : ℕ) → Faults [] a a [] [] None
  nothing_there a = taken_nothing source marks rs a (least_none (none_among source scope))

  pub nothing_passed : (is : List Item) (a b : ℕ) (r : Option Refusal) → r ≡ None → Passes source marks rs is a b → Faults is a b [] [] r
  nothing_passed is a b r none h = taken_as source marks rs is a b (λ t. least_along (sym none) (least_none (none_among source scope))) h

  -- ---- the same items, with the same names and numbers

  pub faults_at : {A : Type 0} (g : A → List Item) (names : A → List TypeName) (numbers : A → List Expr) (x y : A) (a b : ℕ) (r : Option Refusal) → x ≡ y
      → Faults (g y) a b (names y) (numbers y) r → Faults (g x) a b (names x) (numbers x) r
  faults_at {A = A} g names numbers x y a b r same h = subst (λ (z : A). Faults (g z) a b (names z) (numbers z) r) (sym same) h

  -- ---- one name, one number

  pub of_optional_name : (is : List Item) (a b : ℕ) (o : Option TypeName) (r : Option Refusal) → Takes source marks rs is a b (IsLeast (ByOptional (BrokenByName source scope) o) r)
      → Faults is a b (written o) [] r
  of_optional_name is a b o r h =
      taken_as source marks rs is a b
      (λ l. least_same (λ f p. inl (written_in (OfName source scope) f o p)) (λ f t. in_written (OfName source scope) f o (names_alone source scope (written o) f t)) l) h

  pub of_name : (is : List Item) (a b : ℕ) (t : TypeName) (r : Option Refusal) → Takes source marks rs is a b (IsLeast (BrokenByName source scope t) r) → Faults is a b (t ∷ []) [] r
  of_name is a b t r h = of_optional_name is a b (Some t) r h

  formals_named : (a b : ℕ) (fs : List Formal) (r : Option Refusal)
      → Takes source marks rs (formals_items scope fs) a b (IsLeast (InSome (λ k (p : Formal). BrokenByName source scope p.of) fs) r) → Faults (formals_items scope fs) a b (formal_names fs) [] r
  formals_named a b fs r h =
      taken_as source marks rs (formals_items scope fs) a b
      (λ l. least_same (λ f t. inl (mapped_in (OfName source scope) f (λ (p : Formal). p.of) fs t))
      (λ f t. in_mapped (OfName source scope) f (λ (p : Formal). p.of) fs (names_alone source scope (formal_names fs) f t)) l) h

  pub of_formals : (a b : ℕ) (fs gs : List Formal) (r : Option Refusal) → gs ≡ fs
      → Takes source marks rs (formals_items scope gs) a b (IsLeast (InSome (λ k (p : Formal). BrokenByName source scope p.of) gs) r) → Faults (formals_items scope fs) a b (formal_names fs) [] r
  of_formals a b fs gs r same h = subst (λ (l : List Formal). Faults (formals_items scope l) a b (formal_names l) [] r) same (formals_named a b gs r h)

  pub of_optional_number : (is : List Item) (a b : ℕ) (o : Option Expr) (r : Option Refusal) → Takes source marks rs is a b (IsLeast (ByOptional (IsNoNumber source scope) o) r)
      → Faults is a b [] (written o) r
  of_optional_number is a b o r h =
      taken_as source marks rs is a b
      (λ l. least_same (λ f p. inr (written_in (OfNumber source scope) f o p)) (λ f t. in_written (OfNumber source scope) f o (numbers_alone source scope (written o) f t)) l) h

  pub of_number : (is : List Item) (a b : ℕ) (e : Expr) (r : Option Refusal) → Takes source marks rs is a b (IsLeast (IsNoNumber source scope e) r) → Faults is a b [] (e ∷ []) r
  of_number is a b e r h = of_optional_number is a b (Some e) r h

  pub number_taken_least : (since : ℕ) (e : Expr) (a b : ℕ) (r : Option Refusal) → Moves rs a b → r ≡ value_fault e.at.first (value_resolved marks (slice_get rs a))
      → Takes source marks rs (expression_items since scope e) a b (IsLeast (IsNoNumber source scope e) r)
  number_taken_least since e a b r moves is =
      taken_expression source marks rs since scope e a b moves
      (λ o found only. least_along (sym (is ∙ ap (value_fault e.at.first) found)) (least_number source scope e o only))

  -- ---- one after another

  pub then_faults : (is js : List Item) (a b c : ℕ) (ns ms : List TypeName) (es fs : List Expr) (o q r : Option Refusal) → r ≡ lesser_of o q
      → Faults is a b ns es o → Faults js b c ms fs q → Faults (is ++ js) a c (ns ++ ms) (es ++ fs) r
  then_faults is js a b c ns ms es fs o q r made h k =
      taken_as source marks rs (is ++ js) a c
      (λ t. least_along (sym made) (least_same (among_both source scope ns ms es fs) (both_among source scope ns ms es fs) (least_either o q t.0 t.1)))
      (taken_then source marks rs is js a b c h k)

  pub then_number : (is js : List Item) (a b c : ℕ) (ns : List TypeName) (es : List Expr) (e : Option Expr) (o q r : Option Refusal) → r ≡ lesser_of o q
      → Faults is a b ns es o → Takes source marks rs js b c (IsLeast (ByOptional (IsNoNumber source scope) e) q) → Faults (is ++ js) a c ns (es ++ written e) r
  then_number is js a b c ns es e o q r made h k =
      subst (λ (l : List TypeName). Faults (is ++ js) a c l (es ++ written e) r) (append-nil ns)
      (then_faults is js a b c ns [] es (written e) o q r made h (of_optional_number js b c e q k))

  pub then_passed : (is js : List Item) (a b c : ℕ) (ns : List TypeName) (es : List Expr) (r : Option Refusal)
      → Faults is a b ns es r → Passes source marks rs js b c → Faults (is ++ js) a c ns es r
  then_passed is js a b c ns es r h k = taken_as source marks rs (is ++ js) a c (λ t. t.0) (taken_then source marks rs is js a b c h k)

  pub passed_then : (is js : List Item) (a b c : ℕ) (ns : List TypeName) (es : List Expr) (r : Option Refusal)
      → Passes source marks rs is a b → Faults js b c ns es r → Faults (is ++ js) a c ns es r
  passed_then is js a b c ns es r h k = taken_as source marks rs (is ++ js) a c (λ t. t.1) (taken_then source marks rs is js a b c h k)
