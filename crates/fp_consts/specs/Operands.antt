-- Operands, and what operators break at them.
use Rattle.std.specs.Prelude.{◌≡◌, ◌⊎◌, ℤ, pos, neg_ℤ, FitsSigned, SomeIff, Option, Some, None}
use Rattle.std.specs.Int.{w128}
use Rattle.fp_base.specs.declared.place.Place.{Place}
use Rattle.fp_base.specs.declared.refusal.Refusal.{Refusal}
use Rattle.fp_base.specs.declared.rule.Rule.TheVariants.{Outside128Bits, ZeroDivisor, OperandKind}
use Rattle.fp_base.specs.declared.value.Value.{Value}
use Rattle.fp_tree.specs.declared.expression.Operator.{Operator}
use Rattle.fp_tree.specs.declared.expression.Operator.TheVariants.{Divide}
use Rattle.fp_base.specs.Least.{broken_at}
use Rattle.fp_meaning.specs.Values.{number_in, result_of, HasDivisor, HasResult}
use Rattle.fp_consts.specs.declared.operand.Operand.{Operand}
use Rattle.fp_consts.specs.declared.operand.Operand.TheVariants.{Missing, Number, Other}

abbrev pub operand_with : Option ℤ → Operand
operand_with (Some n) = Number n
operand_with None = Other

-- an operand by its value, if it has one
abbrev pub operand_of : Option Value → Operand
operand_of (Some v) = operand_with (number_in v)
operand_of None = Missing

-- an operand of another kind
abbrev pub KindFault : Place → Operand → Refusal → Type 0
KindFault place x f = (f ≡ broken_at OperandKind place) × (x ≡ Other)

abbrev pub NegationFault : Place → Operand → Refusal → Type 0
NegationFault place x f = (u : ℤ) × (x ≡ Number u) × (¬ FitsSigned w128 (neg_ℤ u)) × (f ≡ broken_at Outside128Bits place)

abbrev pub ZeroFault : Place → Operator → Operand → Refusal → Type 0
ZeroFault place operator y f = (operator ≡ Divide) × (y ≡ Number (pos 0)) × (f ≡ broken_at ZeroDivisor place)

abbrev pub ResultFault : Place → Operator → Operand → Operand → Refusal → Type 0
ResultFault place operator x y f =
    (u : ℤ) × (v : ℤ) × (x ≡ Number u) × (y ≡ Number v) × HasDivisor operator v × (¬ FitsSigned w128 (result_of operator u v)) × (f ≡ broken_at Outside128Bits place)

-- what an operator breaks by what it gives
abbrev pub OperationFault : Place → Operator → Operand → Operand → Refusal → Type 0
OperationFault place operator x y f = ZeroFault place operator y f ⊎ ResultFault place operator x y f

-- the number that a negation gives, and an operator
abbrev pub NegationIs : Operand → Option ℤ → Type 0
NegationIs (Number u) o = SomeIff o (FitsSigned w128 (neg_ℤ u)) (neg_ℤ u)
NegationIs _ o = o ≡ None

abbrev pub OperationIs : Operator → Operand → Operand → Option ℤ → Type 0
OperationIs operator (Number u) (Number v) o = SomeIff o (HasResult operator u v) (result_of operator u v)
OperationIs operator _ _ o = o ≡ None
