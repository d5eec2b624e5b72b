use Rattle.std.proofs.Common.{◌≡◌, sym, Bool, true, false, IsTrue, refl}
use Rattle.fp_base.specs.declared.value.Value.{Value}
use Rattle.fp_base.specs.Same.{same}
use Rattle.fp_base.proofs.Sameness.{value_same}
use Rattle.fp_cell.proofs.records.is_same.Goals as goal

told : (b : Bool) (v w : Value) → (IsTrue b → v ≡ w) → (v ≡ w → IsTrue b) → b ≡ same v w
told b v w p q = by b (same v w) (λ e. value_same.equal v w e) (λ e. rw e (value_same.itself w)) p q
  where
    by : (b c : Bool) → (c ≡ true → v ≡ w) → (v ≡ w → c ≡ true) → (IsTrue b → v ≡ w) → (v ≡ w → IsTrue b) → b ≡ c
    by true true f g p q = refl
    by true false f g p q = sym (g (p refl))
    by false true f g p q = q (f refl)
    by false false f g p q = refl

pub returns : goal.returns
returns c = told c.same.result c.args.value.now c.args.other.now c.same.ensures.0 c.same.ensures.1
