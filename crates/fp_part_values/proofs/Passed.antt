-- What is passed, one part after another.
use Rattle.std.proofs.Common.{◌≡◌, ℕ, ◌+◌, ◌≤◌, List, [], ◌∷◌, ◌++◌, length, take, slice_get, Option, Some, None, sym, subst, append_assoc}
use Rattle.std.proofs.lemmas.List.{take_all}
use Rattle.fp_base.proofs.Calculus.{least_along, least_none}
use Rattle.fp_base.specs.Least.{Either, IsLeast, lesser_of}
use Rattle.fp_base.specs.declared.refusal.Refusal.{Refusal}
use Rattle.fp_base.specs.declared.value.Value.{Value}
use Rattle.fp_tree.specs.declared.source.Source.{Source}
use Rattle.fp_tree.specs.declared.component.Part.{Part}
use Rattle.fp_meaning.specs.declared.item.Item.{Item}
use Rattle.fp_meaning.specs.Layout.{model_own_items, own_items}
use Rattle.fp_meaning.specs.Names.{Path}
use Rattle.fp_meaning.specs.Sites.{ModelDef}
use Rattle.fp_type_sizes.specs.declared.written.WrittenType.{WrittenType}
use Rattle.fp_type_forms.specs.declared.resolving.Resolution.{Resolution}
use Rattle.fp_type_forms.specs.Resolved.{AreResolved, Moves, Takes}
use Rattle.fp_type_forms.proofs.Breaking.{either_taken}
use Rattle.fp_type_forms.proofs.Taking.{items_from, items_next, taken_as, taken_nothing, taken_then}
use Rattle.fp_part_values.specs.Broken.{BrokenByDeclared, BrokenByPart}
use Rattle.fp_part_values.specs.Passed.{Passes}

module _ (source : Source) (marks : List (Option Value)) (rs : List Resolution) where
  pub passed_one : (i : Item) (a b : ℕ) → Moves rs a b → Passes source marks rs (i ∷ []) a b
  passed_one i a b moves others h = (tt, subst (λ (n : ℕ). AreResolved source marks rs others n) (sym (moves h.0.0 h.0.1)) h.1)

  pub passed_nothing : (a : ℕ) → Passes source marks rs [] a a
  passed_nothing a = taken_nothing source marks rs a tt

  pub passed_then : (xs ys : List Item) (a b c : ℕ) → Passes source marks rs xs a b → Passes source marks rs ys b c → Passes source marks rs (xs ++ ys) a c
  passed_then xs ys a b c h k = taken_as source marks rs (xs ++ ys) a c (λ t. tt) (taken_then source marks rs xs ys a b c h k)

  pub passed_as : {P : Type 0} (xs : List Item) (a b : ℕ) → Takes source marks rs xs a b P → Passes source marks rs xs a b
  passed_as xs a b h = taken_as source marks rs xs a b (λ p. tt) h

  -- what is broken in the front, where what is behind is passed
  pub taken_front : {P : Type 0} (xs ys : List Item) (a b c : ℕ) → Takes source marks rs xs a b P → Passes source marks rs ys b c → Takes source marks rs (xs ++ ys) a c P
  taken_front xs ys a b c h k = taken_as source marks rs (xs ++ ys) a c (λ t. t.0) (taken_then source marks rs xs ys a b c h k)

  -- what is read behind rests on what is read in the front
  pub taken_with : {P Q : Type 0} (xs ys : List Item) (a b c : ℕ) → Takes source marks rs xs a b P → (P → Takes source marks rs ys b c Q) → Takes source marks rs (xs ++ ys) a c Q
  taken_with xs ys a b c f g others h =
      let t = f (ys ++ others) (subst (λ (l : List Item). AreResolved source marks rs l a) (append_assoc xs ys others) h) in
      g t.0 others t.1

  -- what is broken in either of two parts, which rest on the same
  pub sides : {W : Type 0} {P Q : Refusal → Type 0} (xs ys zs : List Item) (a b c d : ℕ) (o q r : Option Refusal) → r ≡ lesser_of o q → Takes source marks rs xs a b W
      → (W → Takes source marks rs ys b c (IsLeast P o)) → (W → Takes source marks rs zs c d (IsLeast Q q)) → Takes source marks rs (xs ++ ys ++ zs) a d (IsLeast (Either P Q) r)
  sides {P = P} {Q = Q} xs ys zs a b c d o q r is h low high =
      subst (λ (l : List Item). Takes source marks rs l a d (IsLeast (Either P Q) r)) (sym (append_assoc xs ys zs))
      (taken_with xs (ys ++ zs) a b d h (λ w. either_taken source marks rs ys zs b c d o q r is (low w) (high w)))

  pub quiet : {P : Refusal → Type 0} (xs : List Item) (a b : ℕ) (o : Option Refusal) → ((f : Refusal) → P f → ⊥) → o ≡ None → Passes source marks rs xs a b
      → Takes source marks rs xs a b (IsLeast P o)
  quiet xs a b o none is h = taken_as source marks rs xs a b (λ t. least_along (sym is) (least_none none)) h

  module _ {A : Type 0} (g : ℕ → A → List Item) (xs : List A) where
    -- the first so many
    abbrev pub PassesFirst : ℕ → ℕ → ℕ → Type 0
    PassesFirst k a b = Passes source marks rs (items_from g 0 (take k xs)) a b

    pub passed_next : (k : ℕ) (x : A) (a b c : ℕ) → slice_get xs k ≡ Some x → PassesFirst k a b → Passes source marks rs (g k x) b c → PassesFirst (k + 1) a c
    passed_next k x a b c at before here =
        subst (λ (l : List Item). Passes source marks rs l a c) (sym (items_next g xs k x at)) (passed_then (items_from g 0 (take k xs)) (g k x) a b c before here)

    pub passed_all : (k a b : ℕ) → length xs ≤ k → PassesFirst k a b → Passes source marks rs (items_from g 0 xs) a b
    passed_all k a b past h = subst (λ (l : List A). Passes source marks rs (items_from g 0 l) a b) (take_all k xs past) h

  module _ (ws : List WrittenType) (scope : Path) where
    pub part_as : (p q : Part) (a b : ℕ) (o : Option Refusal) → p ≡ q → Takes source marks rs (own_items scope q) a b (IsLeast (BrokenByPart source ws scope q) o)
        → Takes source marks rs (own_items scope p) a b (IsLeast (BrokenByPart source ws scope p) o)
    part_as p q a b o is h = subst (λ (x : Part). Takes source marks rs (own_items scope x) a b (IsLeast (BrokenByPart source ws scope x) o)) (sym is) h

    pub declared_as : (p q : ModelDef) (start : ℕ) (o : Option Refusal) → p ≡ q → (AreResolved source marks rs (model_own_items scope q) start → IsLeast (BrokenByDeclared source ws scope q) o)
        → AreResolved source marks rs (model_own_items scope p) start → IsLeast (BrokenByDeclared source ws scope p) o
    declared_as p q start o is h = subst (λ (x : ModelDef). AreResolved source marks rs (model_own_items scope x) start → IsLeast (BrokenByDeclared source ws scope x) o) (sym is) h
