-- Counting the uses in expressions, and what stands where.
use Rattle.std.proofs.Common.{◌≡◌, ℕ, suc, ◌+◌, ◌≤◌, min, max, List, [], ◌∷◌, ◌++◌, length, flat_map, slice_get, take, drop, drop-cons, Some, sym, ap, subst, ◌∙◌, arith, length-append, append_assoc}
use Rattle.std.proofs.lemmas.List.{append-nil, take_all}
use Rattle.std.proofs.lemmas.Grind.{flat_map-append}
use Rattle.std.proofs.lemmas.Option.{slice_get_within, get_or_from_slice_get}
use Rattle.fp_base.proofs.Lists.{take_next}
use Rattle.fp_tree.specs.declared.name.Qual.{Qual}
use Rattle.fp_tree.specs.declared.expression.Operator.{Operator}
use Rattle.fp_tree.specs.declared.expression.Expr.{Expr}
use Rattle.fp_tree.specs.declared.expression.Assignment.{Assignment}
use Rattle.fp_tree.specs.declared.expression.Form.{Form}
use Rattle.fp_tree.specs.declared.expression.Form.TheVariants.{Use, Minus, Parentheses, Binary, Array, Struct}
use Rattle.fp_meaning.specs.declared.group.Group.TheVariants as group
use Rattle.fp_meaning.specs.declared.names.Mention.{Mention}
use Rattle.fp_meaning.specs.Names.{Path, mentioned, in_form, in_expression}
use Rattle.fp_meaning.specs.Values.{values_in}
use Rattle.fp_meaning.specs.declared.item.Item.{Item}
use Rattle.fp_meaning.proofs.UseWalks.{use_uses, minus_uses, parentheses_uses, binary_uses, array_uses, struct_uses}
use Rattle.fp_consts.specs.declared.laying.Laid.{Laid}
use Rattle.fp_consts.specs.Laid.{past, IsPast, next_of, firsts_of, firsts_from, spots_of, spots_from, IsLaidWith}
use Rattle.fp_consts.proofs.Arms.{uses_by}

past_none : (limit next : ℕ) → next ≡ past 0 limit next
past_none limit next = omega arith

pub past_twice : (x y l limit a b c : ℕ) → l ≡ x + y → b ≡ max a (min (a + x) limit) → c ≡ max b (min (b + y) limit) → c ≡ max a (min (a + l) limit)
past_twice x y l limit a b c e f g = omega arith

past_same : {ms ns : List Mention} (limit next reached : ℕ) → ms ≡ ns → IsPast ns limit next reached → IsPast ms limit next reached
past_same limit next reached same h = subst (λ (xs : List Mention). IsPast xs limit next reached) (sym same) h

past_both : (xs ys : List Mention) (limit a b c : ℕ) → IsPast xs limit a b → IsPast ys limit b c → IsPast (xs ++ ys) limit a c
past_both xs ys limit a b c h k = past_twice (length xs) (length ys) (length (xs ++ ys)) limit a b c (length-append xs ys) h k

-- behind an expression, whatever the scope
abbrev pub PastAll : List Expr → ℕ → ℕ → ℕ → Type 0
PastAll es limit next reached = (scope : Path) → IsPast (flat_map (in_expression scope) es) limit next reached

abbrev pub PastOne : Expr → ℕ → ℕ → ℕ → Type 0
PastOne e limit next reached = (scope : Path) → IsPast (in_expression scope e) limit next reached

module _ (e : Expr) (limit next reached : ℕ) where
  pub past_leaf : (f : Form) → e.form ≡ f → ((scope : Path) → in_form scope f ≡ []) → next ≡ reached → PastOne e limit next reached
  past_leaf f is none same scope =
      past_same limit next reached (uses_by scope e f [] is (none scope)) (subst (λ (n : ℕ). IsPast [] limit next n) same (past_none limit next))

  pub past_name : (name : Qual) → e.form ≡ Use name → reached ≡ past 1 limit next → PastOne e limit next reached
  past_name name is h scope = past_same limit next reached (uses_by scope e (Use name) (mentioned group.Value scope name ∷ []) is (use_uses scope name)) h

  pub past_minus : (a : Expr) → e.form ≡ Minus a → PastOne a limit next reached → PastOne e limit next reached
  past_minus a is h scope = past_same limit next reached (uses_by scope e (Minus a) (in_expression scope a) is (minus_uses scope a)) (h scope)

  pub past_parentheses : (a : Expr) → e.form ≡ Parentheses a → PastOne a limit next reached → PastOne e limit next reached
  past_parentheses a is h scope =
      past_same limit next reached (uses_by scope e (Parentheses a) (in_expression scope a) is (parentheses_uses scope a)) (h scope)

  pub past_binary : (operator : Operator) (a b : Expr) (between : ℕ) → e.form ≡ Binary operator a b → PastOne a limit next between → PastOne b limit between reached
      → PastOne e limit next reached
  past_binary operator a b between is h k scope =
      past_same limit next reached (uses_by scope e (Binary operator a b) (in_expression scope a ++ in_expression scope b) is (binary_uses scope operator a b))
      (past_both (in_expression scope a) (in_expression scope b) limit next between reached (h scope) (k scope))

  pub past_array : (items : List Expr) → e.form ≡ Array items → PastAll items limit next reached → PastOne e limit next reached
  past_array items is h scope = past_same limit next reached (uses_by scope e (Array items) (flat_map (in_expression scope) items) is (array_uses scope items)) (h scope)

  pub past_struct : (members : List Assignment) → e.form ≡ Struct members → PastAll (values_in members) limit next reached → PastOne e limit next reached
  past_struct members is h scope =
      past_same limit next reached (uses_by scope e (Struct members) (flat_map (in_expression scope) (values_in members)) is (struct_uses scope members)) (h scope)

module _ (es : List Expr) (limit next : ℕ) where
  pub past_first : (reached : ℕ) → reached ≡ next → PastAll (take 0 es) limit next reached
  past_first reached same scope = subst (λ (n : ℕ). IsPast [] limit next n) (sym same) (past_none limit next)

  pub past_next : (k : ℕ) (e : Expr) (between reached : ℕ) → slice_get es k ≡ Some e → PastAll (take k es) limit next between → PastOne e limit between reached
      → PastAll (take (k + 1) es) limit next reached
  past_next k e between reached at before one scope =
      past_same limit next reached
      (ap (λ (xs : List Expr). flat_map (in_expression scope) xs) (take_next es k e at)
      ∙ flat_map-append (in_expression scope) (take k es) (e ∷ [])
      ∙ ap (λ (xs : List Mention). flat_map (in_expression scope) (take k es) ++ xs) (append-nil (in_expression scope e)))
      (past_both (flat_map (in_expression scope) (take k es)) (in_expression scope e) limit next between reached (before scope) (one scope))

  pub past_last : (k reached : ℕ) → length es ≤ k → PastAll (take k es) limit next reached → PastAll es limit next reached
  past_last k reached end before = subst (λ (xs : List Expr). PastAll xs limit next reached) (take_all k es end) before

-- the items laid out so far, and the rest
pub record IsLaidFirst (limit : ℕ) (items : List Item) (k : ℕ) (laid : Laid) : Type 0 where
  pub firsts : laid.firsts ++ firsts_from limit laid.next (drop k items) ≡ firsts_from limit 0 items
  pub spots : laid.spots ++ spots_from k (drop k items) ≡ spots_from 0 items

module _ (limit : ℕ) (items : List Item) where
  rest_at : (k : ℕ) (p : Item) → slice_get items k ≡ Some p → drop k items ≡ p ∷ drop (suc k) items
  rest_at k p at = drop-cons items k p (slice_get_within items k p at) ∙ ap (λ (x : Item). x ∷ drop (suc k) items) (get_or_from_slice_get items k p p at)

  laid_next_at : (k : ℕ) (p : Item) (before after : Laid) → slice_get items k ≡ Some p → IsLaidFirst limit items k before → IsLaidWith limit k p before after
      → IsLaidFirst limit items (suc k) after
  laid_next_at k p before after at is w = record {
    firsts =
        ap (λ (xs : List ℕ). xs ++ firsts_from limit after.next (drop (suc k) items)) w.firsts
        ∙ ap (λ (n : ℕ). (before.firsts ++ firsts_of before.next p) ++ firsts_from limit n (drop (suc k) items)) w.next
        ∙ append_assoc before.firsts (firsts_of before.next p) (firsts_from limit (next_of limit before.next p) (drop (suc k) items))
        ∙ ap (λ (ps : List Item). before.firsts ++ firsts_from limit before.next ps) (sym (rest_at k p at)) ∙ is.firsts;
    spots =
        ap (λ (xs : List ℕ). xs ++ spots_from (suc k) (drop (suc k) items)) w.spots
        ∙ append_assoc before.spots (spots_of k p) (spots_from (suc k) (drop (suc k) items))
        ∙ ap (λ (ps : List Item). before.spots ++ spots_from k ps) (sym (rest_at k p at)) ∙ is.spots;
  }

  pub laid_next : (k : ℕ) (p : Item) (before after : Laid) → slice_get items k ≡ Some p → IsLaidFirst limit items k before → IsLaidWith limit k p before after
      → IsLaidFirst limit items (k + 1) after
  laid_next k p before after at is w =
      let same : suc k ≡ k + 1 = omega arith in
      subst (λ (n : ℕ). IsLaidFirst limit items n after) same (laid_next_at k p before after at is w)
