-- Numbers that break no rule have the sizes that they have in a model.
use Rattle.std.proofs.Common.{◌≡◌, ℕ, ◌^◌, ◌-◌, ◌⊎◌, inl, inr, Bool, true, false, ℤ, pos, negsuc, ◌<ℤ◌, int_lt, List, map, slice_get, Option, Some, None, refl, sym, ap, ◌∙◌, arith}
use Rattle.std.specs.Prelude.{option_map}
use Rattle.std.proofs.lemmas.Int.{ints}
use Rattle.std.proofs.lemmas.Option.{slice_get-map}
use Rattle.fp_base.specs.declared.refusal.Refusal.{Refusal}
use Rattle.fp_base.specs.declared.rule.Rule.TheVariants.{NumberOutOfRange}
use Rattle.fp_base.specs.Least.{ByOptional, IsUnbroken, broken_at}
use Rattle.fp_tables.specs.declared.component.Component.{Component}
use Rattle.fp_written_parts.specs.declared.port.Given.{Given}
use Rattle.fp_written_parts.specs.Numbered.{HasNumber}
use Rattle.fp_component_rules.specs.PortBroken.{IsOutside}
use Rattle.fp_instances.specs.InstanceBroken.{BrokenInstance, BrokenNumber, BrokenNumbers}
use Rattle.fp_instances.specs.declared.instance_facts.InstanceFacts.{InstanceFacts}
use Rattle.fp_written_parts.specs.Given.{HasNumberWhereGiven, InstanceHasNumbers}
use Rattle.fp_written_parts.specs.declared.instance.WrittenInstance.{WrittenInstance}
use Rattle.fp_instances.specs.Broken.{InstancesBroken}
use Rattle.fp_instances.specs.Facts.{all_facts, facts_of}
use Rattle.fp_instances.specs.Numbers.{AreWithin, InstanceIsWithin, IsWithin, IsWithinWhereGiven}

untold : (a b : ℤ) → (a <ℤ b → ⊥) → int_lt a b ≡ false
untold a b h = by (int_lt a b) refl
  where
    by : (t : Bool) → int_lt a b ≡ t → int_lt a b ≡ false
    by true e = absurd (h (omega (arith, ints, e)))
    by false e = e

-- bounds that are as far apart or further
below : (n low least : ℤ) → int_lt n low ≡ false → int_lt low least ≡ false → int_lt n least ≡ false
below n low least h k = grind (arith, ints)

above : (n high most : ℤ) → int_lt high n ≡ false → int_lt most high ≡ false → int_lt most n ≡ false
above n high most h k = grind (arith, ints)

module _ (low high least most : ℤ) (under : int_lt low least ≡ false) (over : int_lt most high ≡ false) where
  within_of : (g : Given) → HasNumber g → (IsOutside low high g.number → ⊥) → IsWithin least most g
  within_of g (n, e) h =
      (n, e, below n low least (untold n low (λ l. h (n, e, inl l))) under, above n high most (untold high n (λ l. h (n, e, inr l))) over)

  within_where : (o : Option Given) → HasNumberWhereGiven o → ((f : Refusal) → BrokenNumber low high o f → ⊥) → IsWithinWhereGiven least most o
  within_where None has h g e = absurd (cc)
  within_where (Some k) has h g e =
      let same : k ≡ g = cc in
      within_of g (has g e) (λ out. h (broken_at NumberOutOfRange k.at) (refl, (let back : IsOutside low high k.number = (rw same out) in back)))

module _ (i : InstanceFacts) (unbroken : (f : Refusal) → BrokenInstance i f → ⊥) where
  numbers : (f : Refusal) → BrokenNumbers i f → ⊥
  numbers f b = unbroken f (inr b)

  base_in : IsOutside (pos 0) (pos (2 ^ 32 - 1)) i.base.number → ⊥
  base_in out = numbers (broken_at NumberOutOfRange i.base.at) (inl (refl, inl out))

  queue_in : (f : Refusal) → BrokenNumber (pos 1) (pos (2 ^ 16 - 1)) i.queue f → ⊥
  queue_in f b = numbers f (inr (inl (inl b)))

  stack_in : (f : Refusal) → BrokenNumber (pos 0) (pos (2 ^ 63 - 1)) i.stack f → ⊥
  stack_in f b = numbers f (inr (inl (inr b)))

  priority_in : (f : Refusal) → BrokenNumber (negsuc (2 ^ 31 - 1)) (pos (2 ^ 31 - 1)) i.priority f → ⊥
  priority_in f b = numbers f (inr (inr (inl b)))

  cpu_in : (f : Refusal) → BrokenNumber (pos 0) (pos (2 ^ 16 - 1)) i.cpu f → ⊥
  cpu_in f b = numbers f (inr (inr (inr b)))

one_within : (cs : List Component) (w : WrittenInstance) → ((f : Refusal) → BrokenInstance (facts_of cs w) f → ⊥) → InstanceHasNumbers w → InstanceIsWithin w
one_within cs w h has = record {
  base = within_of (pos 0) (pos (2 ^ 32 - 1)) (pos 0) (pos (2 ^ 32 - 1)) refl refl w.base has.base (base_in (facts_of cs w) h);
  queue = within_where (pos 1) (pos (2 ^ 16 - 1)) (pos 0) (pos (2 ^ 32 - 1)) refl refl w.queue has.queue (queue_in (facts_of cs w) h);
  stack = within_where (pos 0) (pos (2 ^ 63 - 1)) (pos 0) (pos (2 ^ 64 - 1)) refl refl w.stack has.stack (stack_in (facts_of cs w) h);
  priority = within_where (negsuc (2 ^ 31 - 1)) (pos (2 ^ 31 - 1)) (negsuc (2 ^ 31 - 1)) (pos (2 ^ 31 - 1)) refl refl w.priority has.priority (priority_in (facts_of cs w) h);
  cpu = within_where (pos 0) (pos (2 ^ 16 - 1)) (pos 0) (pos (2 ^ 32 - 1)) refl refl w.cpu has.cpu (cpu_in (facts_of cs w) h);
}

pub are_within : (cs : List Component) (ws : List WrittenInstance) → IsUnbroken (InstancesBroken cs ws) → ((k : ℕ) (w : WrittenInstance) → slice_get ws k ≡ Some w → InstanceHasNumbers w) → AreWithin ws
are_within cs ws unbroken has k w at =
    let there : slice_get (all_facts cs ws) k ≡ Some (facts_of cs w) = slice_get-map (facts_of cs) ws k ∙ ap (option_map (facts_of cs)) at in
    one_within cs w (λ f b. unbroken f (inl (k, facts_of cs w, there, b))) (has k w at)
