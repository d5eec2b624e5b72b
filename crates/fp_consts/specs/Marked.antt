-- The values of expressions in source order, and the least of what is broken in them.
use Rattle.std.specs.Prelude.{◌≡◌, ℕ, ◌+◌, ◌<◌, List, [], ◌∷◌, ◌++◌, length, flat_map, slice_get, Option, Some}
use Rattle.fp_base.specs.declared.value.Value.{Value}
use Rattle.fp_base.specs.declared.refusal.Refusal.{Refusal}
use Rattle.fp_tree.specs.declared.source.Source.{Source}
use Rattle.fp_tree.specs.declared.expression.Expr.{Expr}
use Rattle.fp_meaning.specs.declared.names.Mention.{Mention}
use Rattle.fp_base.specs.Least.{IsLeast, InSome, lesser_of}
use Rattle.fp_meaning.specs.Names.{Path, in_expression, in_optional, uses_of}
use Rattle.fp_meaning.specs.Origins.{Placed, placed, one, expressions_of}
use Rattle.fp_meaning.specs.Values.{opened, IsValue}
use Rattle.fp_meaning.specs.ConstantFaults.{BrokenIn}
use Rattle.fp_meaning.specs.declared.item.Item.{Item}
use Rattle.fp_consts.specs.declared.measured.Measured.{Measured}
use Rattle.fp_consts.specs.declared.found.Examination.{Examination}
use Rattle.fp_consts.specs.declared.marking.Marking.{Marking}
use Rattle.fp_consts.specs.Examined.{AreGiven, plain}

-- each expression has its value, or none where it has none
pub record AreValues (source : Source) (ps : List Placed) (values : List (Option Value)) : Type 0 where
  pub each : length values ≡ length ps
  pub exact : (k : ℕ) (p : Placed) (o : Option Value) → slice_get ps k ≡ Some p → slice_get values k ≡ Some o → IsValue source p.scope (opened p.expression) o

-- broken in one of some expressions
abbrev pub SomeBroken : Source → List Placed → Refusal → Type 0
SomeBroken source = InSome (λ _ (p : Placed). BrokenIn source p.scope p.expression)

-- with so many expressions and uses more
pub record AddsMarks (source : Source) (ps : List Placed) (ms : List Mention) (before after : Marking) : Type 0 where
  pub values : (qs : List Placed) → AreValues source qs before.at → AreValues source (qs ++ ps) after.at
  pub first : (qs : List Placed) → IsLeast (SomeBroken source qs) before.first → IsLeast (SomeBroken source (qs ++ ps)) after.first
  pub next : after.next ≡ before.next + length ms

abbrev pub MarksExpression : List (Option Measured) → List ℕ → Expr → Marking → Marking → Type 0
MarksExpression table numbers e before after =
    (source : Source) (scope : Path) → AreGiven source table numbers (in_expression scope e) before.next
    → AddsMarks source (placed scope e ∷ []) (in_expression scope e) before after

abbrev pub MarksOptional : List (Option Measured) → List ℕ → Option Expr → Marking → Marking → Type 0
MarksOptional table numbers o before after =
    (source : Source) (scope : Path) → AreGiven source table numbers (in_optional (in_expression scope) o) before.next
    → AddsMarks source (in_optional (one scope) o) (in_optional (in_expression scope) o) before after

abbrev pub MarksItem : List (Option Measured) → List ℕ → Item → Marking → Marking → Type 0
MarksItem table numbers item before after =
    (source : Source) → AreGiven source table numbers (uses_of item) before.next → AddsMarks source (expressions_of item) (uses_of item) before after

-- past one use, where there is one
abbrev pub Counts : List ℕ → ℕ → ℕ → Type 0
Counts numbers before after = before < length numbers → after ≡ before + 1

pub record AddsFound (before : Marking) (found : Examination) (after : Marking) : Type 0 where
  pub at : after.at ≡ before.at ++ plain found.value ∷ []
  pub first : after.first ≡ lesser_of before.first found.first
  pub next : after.next ≡ found.next

-- of all expressions of the items
pub record IsMarked (source : Source) (items : List Item) (marking : Marking) : Type 0 where
  pub values : AreValues source (flat_map expressions_of items) marking.at
  pub first : IsLeast (SomeBroken source (flat_map expressions_of items)) marking.first
  pub next : marking.next ≡ length (flat_map uses_of items)

-- where what all uses mean has its values in the table
abbrev pub Marks : List (Option Measured) → List ℕ → List Item → Marking → Type 0
Marks table numbers items marking = (source : Source) → AreGiven source table numbers (flat_map uses_of items) 0 → IsMarked source items marking
