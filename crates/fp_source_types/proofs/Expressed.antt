-- An expression in which nothing is broken by itself, and whose names are those of definitions with values, has a value.
use Rattle.std.proofs.Common.{◌≡◌, ℕ, zero, suc, ◌+◌, ◌<◌, ◌≤◌, ◌⊎◌, inl, inr, List, [], ◌∷◌, ◌++◌, length, map, flat_map, slice_get, Option, Some, None, refl, sym, ap, subst, ◌∙◌, arith}
use Rattle.std.specs.Prelude.{ℤ, pos, negsuc, neg_ℤ, FitsSigned, ◌^◌}
use Rattle.std.specs.Int.{w128}
use Rattle.fp_base.proofs.Lists.{get_front}
use Rattle.fp_base.proofs.Spots.{before_or_not}
use Rattle.fp_base.specs.declared.place.Place.{Place}
use Rattle.fp_base.specs.declared.refusal.Refusal.{Refusal}
use Rattle.fp_base.specs.declared.rule.Rule.TheVariants.{ZeroDivisor}
use Rattle.fp_base.specs.Least.{broken_at}
use Rattle.fp_base.specs.declared.value.Value.{Value, Int, Bool as Truth, Text, Array, Struct}
use Rattle.fp_graph.proofs.Places.{get_right}
use Rattle.fp_tree.specs.declared.source.Source.{Source}
use Rattle.fp_tree.specs.declared.name.Qual.{Qual}
use Rattle.fp_tree.specs.declared.expression.Operator.{Operator}
use Rattle.fp_tree.specs.declared.expression.Operator.TheVariants.{Add, Subtract, Multiply, Divide}
use Rattle.fp_tree.specs.declared.expression.Expr.{Expr}
use Rattle.fp_tree.specs.declared.expression.Assignment.{Assignment}
use Rattle.fp_tree.specs.declared.expression.Form.{Form, Form-F, out-Form, out-roll-Form}
use Rattle.fp_tree.specs.declared.expression.Form.TheOpen as form
use Rattle.fp_tree.specs.declared.expression.Form.TheFolds.{ind-Expr, map-Form, map-Expr}
use Rattle.fp_tree.specs.declared.expression.Form.TheViews.{roll-Form, roll-Assignment, roll-Expr}
use Rattle.fp_meaning.specs.declared.group.Group.TheVariants as group
use Rattle.fp_meaning.specs.declared.names.Mention.{Mention}
use Rattle.fp_meaning.specs.ConstantFaults.{BrokenHere, float, negation_outside, result_outside, zero_divisor, minus_kind, left_kind, right_kind, list_too_large, struct_too_large, parts_of, BrokenIn, itself, within}
use Rattle.fp_meaning.specs.Meaning.{Means}
use Rattle.fp_meaning.specs.Names.{Path, definitions, in_expression, mentioned}
use Rattle.fp_meaning.specs.Origins.{Origin, Constant, Enumerated, NoValue, origins}
use Rattle.fp_meaning.specs.Values.{Opened, opened, number_in, names_of, result_of, HasDivisor, values_in, parts_with, IsWithinSize, leaves, levels, Val, number, text, truth, constant, written, implied, negated, combined, enclosed, listed, structured, Vals, none, more}
use Rattle.fp_consts.specs.Examined.{GivesValue, HasValue}
use Rattle.fp_consts.proofs.Rolled.{open_uses, opened_uses}

-- ---- what can be decided

below_or_not : (m n : ℕ) → (m < n) ⊎ (m < n → ⊥)
below_or_not m n = grind arith

fits_or_not : (z : ℤ) → FitsSigned w128 z ⊎ (FitsSigned w128 z → ⊥)
fits_or_not (pos n) = go (below_or_not n (2 ^ 127))
  where
    go : (n < 2 ^ 127) ⊎ (n < 2 ^ 127 → ⊥) → FitsSigned w128 (pos n) ⊎ (FitsSigned w128 (pos n) → ⊥)
    go (inl h) = inl (record { sfits = h })
    go (inr h) = inr (λ f. h f.sfits)
fits_or_not (negsuc n) = go (below_or_not n (2 ^ 127))
  where
    go : (n < 2 ^ 127) ⊎ (n < 2 ^ 127 → ⊥) → FitsSigned w128 (negsuc n) ⊎ (FitsSigned w128 (negsuc n) → ⊥)
    go (inl h) = inl (record { sfits = h })
    go (inr h) = inr (λ f. h f.sfits)

within_size : (v : Value) → IsWithinSize v ⊎ (IsWithinSize v → ⊥)
within_size v = go (before_or_not 65536 (leaves v)) (before_or_not 64 (levels v))
  where
    past : (n most : ℕ) → most < n → n ≤ most → ⊥
    past n most h k = omega arith

    go : (65536 < leaves v) ⊎ (leaves v ≤ 65536) → (64 < levels v) ⊎ (levels v ≤ 64) → IsWithinSize v ⊎ (IsWithinSize v → ⊥)
    go (inl h) k = inr (λ s. past (leaves v) 65536 h s.of_leaves)
    go (inr h) (inl k) = inr (λ s. past (levels v) 64 k s.of_levels)
    go (inr h) (inr k) = inl (record { of_leaves = h; of_levels = k })

divisor_or_not : (operator : Operator) (y : ℤ) → HasDivisor operator y ⊎ ((operator ≡ Divide) × (y ≡ pos 0))
divisor_or_not Add y = inl tt
divisor_or_not Subtract y = inl tt
divisor_or_not Multiply y = inl tt
divisor_or_not Divide y = go (zero_or_not y)
  where
    zero_or_not : (z : ℤ) → (z ≡ pos 0) ⊎ (z ≡ pos 0 → ⊥)
    zero_or_not (pos zero) = inl refl
    zero_or_not (pos (suc n)) = inr (λ e. cc)
    zero_or_not (negsuc n) = inr (λ e. cc)

    go : (y ≡ pos 0) ⊎ (y ≡ pos 0 → ⊥) → HasDivisor Divide y ⊎ ((Divide ≡ Divide) × (y ≡ pos 0))
    go (inl e) = inr (refl, e)
    go (inr h) = inl h

module _ (source : Source) where
  abbrev pub Valued : Path → Expr → Type 0
  Valued scope e = (v : Value) × Val source scope (opened e) v

  -- the names are those of definitions with values
  abbrev pub AreNamesValued : List Mention → Type 0
  AreNamesValued ms = (j : ℕ) (m : Mention) → slice_get ms j ≡ Some m → (number : ℕ) × (v : Value) × Means (definitions source) m.scope m.name group.Value number × HasValue source number v

  names_front : (xs ys : List Mention) → AreNamesValued (xs ++ ys) → AreNamesValued xs
  names_front xs ys h j m at = h j m (get_front xs ys j m at)

  names_behind : (xs ys : List Mention) → AreNamesValued (xs ++ ys) → AreNamesValued ys
  names_behind xs ys h j m at = h (length xs + j) m (get_right xs ys m (length xs + j) j refl at)

  gives : (scope : Path) (name : Qual) (n : ℕ) → Means (definitions source) scope (names_of name) group.Value n → (origin : Origin) (v : Value) → slice_get (origins source) n ≡ Some origin
      → GivesValue source origin v → Val source scope (form.Use name) v
  gives scope name n means (Constant inner e) v at h = constant (n, means, at) h
  gives scope name n means (Enumerated inner enum position c) v at (inl t) = subst (λ (w : Value). Val source scope (form.Use name) w) (sym t.6) (written (n, means, at) t.3 t.4 t.5)
  gives scope name n means (Enumerated inner enum position c) v at (inr t) = subst (λ (w : Value). Val source scope (form.Use name) w) (sym t.2) (implied (n, means, at) t.0 t.1)
  gives scope name n means NoValue v at h = absurd h

  abbrev IsSound : Path → Expr → Type 0
  IsSound scope e = (f : Refusal) → BrokenIn source scope e f → ⊥

  abbrev AreSoundParts : Path → List Expr → Type 0
  AreSoundParts scope es = (k : ℕ) (part : Expr) → slice_get es k ≡ Some part → IsSound scope part

  abbrev OpensValued : Opened → Type 0
  OpensValued s =
      (scope : Path) (place : Place) → ((f : Refusal) → BrokenHere source scope place s f → ⊥) → AreSoundParts scope (parts_of s) → AreNamesValued (open_uses scope s)
      → (v : Value) × Val source scope s v

  abbrev InForm : Form → Type 0
  InForm f = OpensValued (out-Form f)

  abbrev InExpr : Expr → Type 0
  InExpr e = (scope : Path) → IsSound scope e → AreNamesValued (in_expression scope e) → Valued scope e

  abbrev InAssignment : Assignment → Type 0
  InAssignment a = InExpr a.value

  -- ---- parts

  abbrev ValuedAll : Path → List Expr → Type 0
  ValuedAll scope es = (vs : List Value) × Vals source scope es vs

  one_more : {scope : Path} {e : Expr} {es : List Expr} → Valued scope e → ValuedAll scope es → ValuedAll scope (e ∷ es)
  one_more (v, h) (vs, hs) = (v ∷ vs, more h hs)

  items_valued : (scope : Path) (es : List ((e : Expr) × InExpr e)) → AreSoundParts scope (map (λ t. t.0) es) → AreNamesValued (flat_map (in_expression scope) (map (λ t. t.0) es))
      → ValuedAll scope (map (λ t. t.0) es)
  items_valued scope [] sound names = ([], none)
  items_valued scope (e ∷ es) sound names =
      one_more (e.1 scope (sound 0 e.0 refl) (names_front (in_expression scope e.0) (flat_map (in_expression scope) (map (λ t. t.0) es)) names))
      (items_valued scope es (λ k. sound (suc k)) (names_behind (in_expression scope e.0) (flat_map (in_expression scope) (map (λ t. t.0) es)) names))

  members_valued : (scope : Path) (as_ : List ((a : Assignment) × InAssignment a)) → AreSoundParts scope (values_in (map (λ t. t.0) as_))
      → AreNamesValued (flat_map (in_expression scope) (values_in (map (λ t. t.0) as_))) → ValuedAll scope (values_in (map (λ t. t.0) as_))
  members_valued scope [] sound names = ([], none)
  members_valued scope (a ∷ as_) sound names =
      one_more (a.1 scope (sound 0 a.0.value refl) (names_front (in_expression scope a.0.value) (flat_map (in_expression scope) (values_in (map (λ t. t.0) as_))) names))
      (members_valued scope as_ (λ k. sound (suc k)) (names_behind (in_expression scope a.0.value) (flat_map (in_expression scope) (values_in (map (λ t. t.0) as_))) names))

  -- ---- productions

  minus : (scope : Path) (place : Place) (a : Expr) → ((f : Refusal) → BrokenHere source scope place (form.Minus a) f → ⊥) → Valued scope a → (v : Value) × Val source scope (form.Minus a) v
  minus scope place a sound (u, h) = go (number_in u) refl
    where
      with_number : (x : ℤ) → number_in u ≡ Some x → FitsSigned w128 (neg_ℤ x) ⊎ (FitsSigned w128 (neg_ℤ x) → ⊥) → (v : Value) × Val source scope (form.Minus a) v
      with_number x is (inl fits) = (Int (neg_ℤ x), negated h is fits)
      with_number x is (inr unfit) = absurd (sound _ (negation_outside h is unfit))

      go : (o : Option ℤ) → number_in u ≡ o → (v : Value) × Val source scope (form.Minus a) v
      go None is = absurd (sound _ (minus_kind h is))
      go (Some x) is = with_number x is (fits_or_not (neg_ℤ x))

  binary : (scope : Path) (place : Place) (operator : Operator) (a b : Expr) → ((f : Refusal) → BrokenHere source scope place (form.Binary operator a b) f → ⊥) → Valued scope a → Valued scope b
      → (v : Value) × Val source scope (form.Binary operator a b) v
  binary scope place operator a b sound (u, h) (w, k) = go (number_in u) refl (number_in w) refl
    where
      by_zero : (y : ℤ) → number_in w ≡ Some y → (operator ≡ Divide) × (y ≡ pos 0) → ⊥
      by_zero y is e =
          let zero_there : number_in w ≡ Some (pos 0) = is ∙ ap (λ (z : ℤ). Some z) e.1 in
          sound (broken_at ZeroDivisor place)
          (subst (λ (o : Operator). BrokenHere source scope place (form.Binary o a b) (broken_at ZeroDivisor place)) (sym e.0) (zero_divisor k zero_there))

      with_result : (x y : ℤ) → number_in u ≡ Some x → number_in w ≡ Some y → HasDivisor operator y
          → FitsSigned w128 (result_of operator x y) ⊎ (FitsSigned w128 (result_of operator x y) → ⊥) → (v : Value) × Val source scope (form.Binary operator a b) v
      with_result x y i j d (inl fits) = (Int (result_of operator x y), combined h i k j (d, fits))
      with_result x y i j d (inr unfit) = absurd (sound _ (result_outside h i k j d unfit))

      with_numbers : (x y : ℤ) → number_in u ≡ Some x → number_in w ≡ Some y → HasDivisor operator y ⊎ ((operator ≡ Divide) × (y ≡ pos 0)) → (v : Value) × Val source scope (form.Binary operator a b) v
      with_numbers x y i j (inl d) = with_result x y i j d (fits_or_not (result_of operator x y))
      with_numbers x y i j (inr e) = absurd (by_zero y j e)

      go : (o : Option ℤ) → number_in u ≡ o → (q : Option ℤ) → number_in w ≡ q → (v : Value) × Val source scope (form.Binary operator a b) v
      go None i q j = absurd (sound _ (left_kind h i))
      go (Some x) i None j = absurd (sound _ (right_kind k j))
      go (Some x) i (Some y) j = with_numbers x y i j (divisor_or_not operator y)

  list : (scope : Path) (place : Place) (es : List Expr) → ((f : Refusal) → BrokenHere source scope place (form.Array es) f → ⊥) → ValuedAll scope es → (v : Value) × Val source scope (form.Array es) v
  list scope place es sound (vs, hs) = go (within_size (Array vs))
    where
      go : IsWithinSize (Array vs) ⊎ (IsWithinSize (Array vs) → ⊥) → (v : Value) × Val source scope (form.Array es) v
      go (inl few) = (Array vs, listed hs few)
      go (inr many) = absurd (sound _ (list_too_large hs many))

  struct : (scope : Path) (place : Place) (members : List Assignment) → ((f : Refusal) → BrokenHere source scope place (form.Struct members) f → ⊥) → ValuedAll scope (values_in members)
      → (v : Value) × Val source scope (form.Struct members) v
  struct scope place members sound (vs, hs) = go (within_size (Struct (parts_with members vs)))
    where
      go : IsWithinSize (Struct (parts_with members vs)) ⊎ (IsWithinSize (Struct (parts_with members vs)) → ⊥) → (v : Value) × Val source scope (form.Struct members) v
      go (inl few) = (Struct (parts_with members vs), structured hs few)
      go (inr many) = absurd (sound _ (struct_too_large hs many))

  by_form : (y : Form-F ((f : Form) × InForm f) ((a : Assignment) × InAssignment a) ((e : Expr) × InExpr e)) → OpensValued (map-Form _ _ _ _ _ _ (λ t. t.0) (λ t. t.0) (λ t. t.0) y)
  by_form (form.Number n) scope place sound parts names = (Int n, number)
  by_form form.Float scope place sound parts names = absurd (sound _ float)
  by_form (form.Text t) scope place sound parts names = (Text t, text)
  by_form (form.Truth b) scope place sound parts names = (Truth b, truth)
  by_form (form.Use name) scope place sound parts names =
      let t = names 0 (mentioned group.Value scope name) refl in
      (t.1, gives scope name t.0 t.2 t.3.0 t.1 t.3.1 t.3.2)
  by_form (form.Minus a) scope place sound parts names = minus scope place a.0 sound (a.1 scope (parts 0 a.0 refl) names)
  by_form (form.Parentheses a) scope place sound parts names = let u = a.1 scope (parts 0 a.0 refl) names in (u.0, enclosed u.1)
  by_form (form.Binary operator a b) scope place sound parts names =
      binary scope place operator a.0 b.0 sound (a.1 scope (parts 0 a.0 refl) (names_front (in_expression scope a.0) (in_expression scope b.0) names))
      (b.1 scope (parts 1 b.0 refl) (names_behind (in_expression scope a.0) (in_expression scope b.0) names))
  by_form (form.Array items) scope place sound parts names = list scope place (map (λ t. t.0) items) sound (items_valued scope items parts names)
  by_form (form.Struct members) scope place sound parts names = struct scope place (map (λ t. t.0) members) sound (members_valued scope members parts names)

  of_form : (e : Expr) → InForm e.form → InExpr e
  of_form e h scope sound names =
      h scope e.at.first (λ f b. sound f (itself b)) (λ k part at f b. sound f (within k at b)) (subst AreNamesValued (opened_uses scope e) names)

  pub expression_valued : (e : Expr) → InExpr e
  expression_valued =
      ind-Expr InForm InAssignment InExpr
      (λ x y is. subst (λ (z : Form-F Form Assignment Expr). InForm (roll-Form z)) is
      (subst OpensValued (sym (out-roll-Form (map-Form _ _ _ _ _ _ (λ t. t.0) (λ t. t.0) (λ t. t.0) y))) (by_form y)))
      (λ x y is. subst (λ (z : _). InAssignment (roll-Assignment z)) is y.value.1)
      (λ x y is. subst (λ (z : _). InExpr (roll-Expr z)) is (of_form (roll-Expr (map-Expr _ _ _ _ _ _ (λ t. t.0) (λ t. t.0) (λ t. t.0) y)) y.form.1))
