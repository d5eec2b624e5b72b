use Rattle.std.proofs.Common.{ℕ, ◌^◌, ◌-◌, ◌↔◌, pos, Option, sym, subst, arith}
use Rattle.fp_component_rules.specs.PortBroken.{IsOutside}
use Rattle.fp_instances.specs.InstanceBroken.{IsBaseOutside}
use Rattle.fp_instances.proofs.Bases.{alone, with_greatest}
use Rattle.fp_instances.proofs.instance_numbers.greatest_base.Goals as goal

pub returns-in-Some : goal.returns-in-Some
returns-in-Some c base =
    let top = c.in-Some.top in
    let high = 2 ^ 32 - 1 - top in
    subst (λ (o : Option ℕ). IsOutside (pos 0) (pos high) base ↔ IsBaseOutside base o) (sym c.in-Some.is) (with_greatest top high (omega arith) base)

pub returns-in-None : goal.returns-in-None
returns-in-None c base = subst (λ (o : Option ℕ). IsOutside (pos 0) (pos (2 ^ 32 - 1)) base ↔ IsBaseOutside base o) (sym c.in-None.is) (alone base)
