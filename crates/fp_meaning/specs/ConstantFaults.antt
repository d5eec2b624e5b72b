-- The rules that constants break: by expressions, each by itself, and by cycles and chains of uses that are too long.
-- A rule that needs a value isn't broken where there is none.
use Rattle.std.specs.Prelude.{◌≡◌, ℕ, ℤ, pos, neg_ℤ, FitsSigned, List, [], ◌∷◌, slice_get, Some, None}
use Rattle.std.specs.Int.{w128}
use Rattle.fp_base.specs.declared.place.Place.{Place}
use Rattle.fp_base.specs.declared.refusal.Refusal.{Refusal}
use Rattle.fp_base.specs.declared.rule.Rule.TheVariants.{FloatUsed, Outside128Bits, ZeroDivisor, OperandKind, ValueTooLarge}
use Rattle.fp_base.specs.declared.value.Value.{Value, Array, Struct}
use Rattle.fp_tree.specs.declared.source.Source.{Source}
use Rattle.fp_tree.specs.declared.expression.Operator.{Operator}
use Rattle.fp_tree.specs.declared.expression.Operator.TheVariants.{Divide}
use Rattle.fp_tree.specs.declared.expression.Expr.{Expr}
use Rattle.fp_tree.specs.declared.expression.Form.TheOpen as form
use Rattle.fp_tree.specs.declared.expression.Assignment.{Assignment}
use Rattle.fp_meaning.specs.declared.group.Group.TheVariants as group
use Rattle.fp_base.specs.Least.{broken_at, Either, InSome}
use Rattle.fp_meaning.specs.Names.{Path}
use Rattle.fp_meaning.specs.Layout as layout
use Rattle.fp_meaning.specs.Origins.{Placed, expressions}
use Rattle.fp_meaning.specs.Uses.{BrokenByChains}
use Rattle.fp_meaning.specs.Values.{Opened, opened, values_in, number_in, result_of, HasDivisor, parts_with, IsWithinSize, Val, Vals}

-- what is broken by an expression's outermost production, at its place: V1 by a float, V2 by a result outside -2^127 to 2^127 - 1, V3 by
-- the divisor 0, V4 by an operand that is no number, at the operand, V16 by a value of more than 65,536 leaves or 64 levels
pub data BrokenHere (source : Source) (scope : Path) (place : Place) : Opened → Refusal → Type 0 where
  float : BrokenHere source scope place form.Float (broken_at FloatUsed place)
  negation_outside : {a : Expr} {u : Value} {x : ℤ}
      → Val source scope (opened a) u → number_in u ≡ Some x → ¬ FitsSigned w128 (neg_ℤ x)
      → BrokenHere source scope place (form.Minus a) (broken_at Outside128Bits place)
  result_outside : {operator : Operator} {a b : Expr} {u w : Value} {x y : ℤ}
      → Val source scope (opened a) u → number_in u ≡ Some x → Val source scope (opened b) w → number_in w ≡ Some y
      → HasDivisor operator y → ¬ FitsSigned w128 (result_of operator x y)
      → BrokenHere source scope place (form.Binary operator a b) (broken_at Outside128Bits place)
  zero_divisor : {a b : Expr} {w : Value}
      → Val source scope (opened b) w → number_in w ≡ Some (pos 0) → BrokenHere source scope place (form.Binary Divide a b) (broken_at ZeroDivisor place)
  minus_kind : {a : Expr} {u : Value}
      → Val source scope (opened a) u → number_in u ≡ None → BrokenHere source scope place (form.Minus a) (broken_at OperandKind a.at.first)
  left_kind : {operator : Operator} {a b : Expr} {u : Value}
      → Val source scope (opened a) u → number_in u ≡ None → BrokenHere source scope place (form.Binary operator a b) (broken_at OperandKind a.at.first)
  right_kind : {operator : Operator} {a b : Expr} {w : Value}
      → Val source scope (opened b) w → number_in w ≡ None → BrokenHere source scope place (form.Binary operator a b) (broken_at OperandKind b.at.first)
  list_too_large : {items : List Expr} {vs : List Value}
      → Vals source scope items vs → ¬ IsWithinSize (Array vs) → BrokenHere source scope place (form.Array items) (broken_at ValueTooLarge place)
  struct_too_large : {members : List Assignment} {vs : List Value}
      → Vals source scope (values_in members) vs → ¬ IsWithinSize (Struct (parts_with members vs))
      → BrokenHere source scope place (form.Struct members) (broken_at ValueTooLarge place)

-- the expressions that an expression is made of
abbrev pub parts_of : Opened → List Expr
parts_of (form.Minus a) = a ∷ []
parts_of (form.Parentheses a) = a ∷ []
parts_of (form.Binary operator a b) = a ∷ b ∷ []
parts_of (form.Array items) = items
parts_of (form.Struct members) = values_in members
parts_of _ = []

-- by the expression itself, or within it
pub data BrokenIn (source : Source) (scope : Path) : Expr → Refusal → Type 0 where
  itself : {e : Expr} {f : Refusal} → BrokenHere source scope e.at.first (opened e) f → BrokenIn source scope e f
  within : {e part : Expr} {f : Refusal} (k : ℕ) → slice_get (parts_of (opened e)) k ≡ Some part → BrokenIn source scope part f → BrokenIn source scope e f

-- a rule is broken in one of the expressions by itself
abbrev pub BrokenByExpressions : Source → Refusal → Type 0
BrokenByExpressions source = InSome (λ _ (p : Placed). BrokenIn source p.scope p.expression) (expressions source)

-- and a constant or enumerated constant uses itself, or is the head of a chain that is too long
abbrev pub ConstantsBroken : Source → Refusal → Type 0
ConstantsBroken source = Either (BrokenByExpressions source) (BrokenByChains (layout.items source) group.Value)
