use Rattle.std.proofs.Common.{◌≡◌, true, subst}
use Rattle.std.proofs.lemmas.Bool.Decides.{same_from_decides}
use Rattle.fp_base.specs.Same.{same}
use Rattle.fp_base.specs.declared.value.Value.{Value}
use Rattle.fp_base.proofs.Sameness.{value_same}
use Rattle.fp_tables.proofs.among.is_same.Goals as goal

pub returns : goal.returns
returns c =
    let v = c.args.left.now in
    let w = c.args.right.now in
    same_from_decides {P = v ≡ w} _ _ c.same.ensures (value_same.equal v w, λ e. subst (λ (u : Value). same v u ≡ true) e (value_same.itself v))
