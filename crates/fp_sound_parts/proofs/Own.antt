-- What an instance has by itself: a queue where its component has one, and numbers in range.
use Rattle.std.proofs.Common.{◌≡◌, ◌∙◌, ap, refl, sym, subst, ℕ, ◌<◌, ◌+◌, ◌^◌, ◌-◌, ◌⊎◌, inl, inr, Bool, true, false, cond, ℤ, pos, ◌+ℤ◌, ◌<ℤ◌, nat_lt, length, Option, None, Some, slice_get, arith}
use Rattle.std.specs.Prelude.{nat_le, is_none, is_some, option_map, unwrap_or}
use Rattle.std.proofs.lemmas.Bool.Decides.{nat_tests}
use Rattle.std.proofs.lemmas.Int.{ints}
use Rattle.fp_base.specs.declared.refusal.Refusal.{Refusal}
use Rattle.fp_base.specs.declared.rule.Rule.TheVariants.{NumberOutOfRange, QueueSize}
use Rattle.fp_base.specs.Least.{IsUnbroken, broken_at}
use Rattle.fp_base.proofs.Bools.{join}
use Rattle.fp_base.proofs.Spots.{item_below}
use Rattle.fp_tables.specs.Components.{is_from_1_to, is_passive}
use Rattle.fp_tables.specs.Instances.{has_its_queue, numbers_are_in_range, range_of}
use Rattle.fp_tables.specs.Lists.{if_some, some_and}
use Rattle.fp_tables.specs.declared.component.Component.{Component}
use Rattle.fp_tables.specs.declared.component.Queueing.{Queueing}
use Rattle.fp_tables.specs.declared.component.Queueing.TheVariants.{Active, Passive, Queued}
use Rattle.fp_tables.specs.declared.model.Model.{Model}
use Rattle.fp_tables.specs.declared.topology.Instance.{Instance}
use Rattle.fp_written_parts.specs.declared.port.Given.{Given}
use Rattle.fp_written_parts.specs.declared.instance.WrittenInstance.{WrittenInstance}
use Rattle.fp_instances.specs.InstanceBroken.{BrokenInstance, BrokenNumber, IsBaseOutside, IsNoId, IsQueueWrong}
use Rattle.fp_instances.specs.Facts.{facts_of, queueing_at, top_at}
use Rattle.fp_instances.specs.Resolved.{IsInstance, IsNumber}
use Rattle.fp_sound_parts.proofs.DeploymentLists.{four}

-- ---- queues

suits : (q : Queueing) (o : Option Given) (a : Option ℕ) → (IsQueueWrong q o → ⊥) → IsNumber pos o a → cond (is_passive q) (is_none a) (is_some a) ≡ true
suits Passive None a right is = ap is_none is
suits Passive (Some g) a right is = absurd (right refl)
suits Active None a right is = absurd (right refl)
suits Active (Some g) a right is = ap is_some is.2
suits Queued None a right is = absurd (right refl)
suits Queued (Some g) a right is = ap is_some is.2

-- ---- numbers

in_range : (base : ℕ) (top : Option ℕ) → ((greatest : ℕ) → top ≡ Some greatest → IsNoId (Some (pos base +ℤ pos greatest)) → ⊥)
    → if_some (λ (r : ℕ × ℕ). nat_lt r.1 (2 ^ 32)) (option_map (λ (n : ℕ). (base, base + n)) top) ≡ true
in_range base None h = refl
in_range base (Some n) h = by (nat_lt (base + n) (2 ^ 32)) refl
  where
    by : (b : Bool) → nat_lt (base + n) (2 ^ 32) ≡ b → nat_lt (base + n) (2 ^ 32) ≡ true
    by true e = e
    by false e =
        let over : pos (2 ^ 32 - 1) <ℤ (pos base +ℤ pos n) = grind (arith, ints, nat_tests) in
        absurd (h n refl (pos base +ℤ pos n, refl, inr over))

one_number : (low high : ℤ) (test : ℕ → Bool) (o : Option Given) (a : Option ℕ) → IsNumber pos o a → ((f : Refusal) → BrokenNumber low high o f → ⊥)
    → ((n : ℕ) → ((pos n <ℤ low) ⊎ (high <ℤ pos n) → ⊥) → test n ≡ true) → if_some test a ≡ true
one_number low high test None a is h to = ap (if_some test) is
one_number low high test (Some g) a is h to = ap (if_some test) is.2 ∙ to is.0 (λ out. h (broken_at NumberOutOfRange g.at) (refl, (pos is.0, is.1, out)))

of_queue : (n : ℕ) → ((pos n <ℤ pos 1) ⊎ (pos (2 ^ 16 - 1) <ℤ pos n) → ⊥) → is_from_1_to 65535 n ≡ true
of_queue n h = join (nat_le 1 n) (nat_le n 65535) (low (nat_le 1 n) refl) (high (nat_le n 65535) refl)
  where
    low : (b : Bool) → nat_le 1 n ≡ b → nat_le 1 n ≡ true
    low true e = e
    low false e = (let under : pos n <ℤ pos 1 = grind (arith, ints, nat_tests) in absurd (h (inl under)))

    high : (b : Bool) → nat_le n 65535 ≡ b → nat_le n 65535 ≡ true
    high true e = e
    high false e = (let over : pos (2 ^ 16 - 1) <ℤ pos n = grind (arith, ints, nat_tests) in absurd (h (inr over)))

of_stack : (n : ℕ) → ((pos n <ℤ pos 0) ⊎ (pos (2 ^ 63 - 1) <ℤ pos n) → ⊥) → nat_lt n (2 ^ 63) ≡ true
of_stack n h = by (nat_lt n (2 ^ 63)) refl
  where
    by : (b : Bool) → nat_lt n (2 ^ 63) ≡ b → nat_lt n (2 ^ 63) ≡ true
    by true e = e
    by false e = (let over : pos (2 ^ 63 - 1) <ℤ pos n = grind (arith, ints, nat_tests) in absurd (h (inr over)))

of_cpu : (n : ℕ) → ((pos n <ℤ pos 0) ⊎ (pos (2 ^ 16 - 1) <ℤ pos n) → ⊥) → nat_le n 65535 ≡ true
of_cpu n h = by (nat_le n 65535) refl
  where
    by : (b : Bool) → nat_le n 65535 ≡ b → nat_le n 65535 ≡ true
    by true e = e
    by false e = (let over : pos (2 ^ 16 - 1) <ℤ pos n = grind (arith, ints, nat_tests) in absurd (h (inr over)))

-- ---- an instance

module _ (m : Model) (w : WrittenInstance) (x : Instance) (is : IsInstance w x) (unbroken : IsUnbroken (BrokenInstance (facts_of m.components w))) where
  pub queue_suits : w.component < length m.components → has_its_queue m x ≡ true
  queue_suits low =
      let c = item_below m.components w.component low in
      let same : queueing_at m.components w.component ≡ c.0.queueing = ap (λ (o : Option Component). unwrap_or (option_map (λ (d : Component). d.queueing) o) Passive) c.1 in
      ap (λ (n : ℕ). some_and (λ (d : Component). cond (is_passive d.queueing) (is_none x.queue) (is_some x.queue)) (slice_get m.components n)) is.component
      ∙ ap (some_and (λ (d : Component). cond (is_passive d.queueing) (is_none x.queue) (is_some x.queue))) c.1
      ∙ suits c.0.queueing w.queue x.queue (λ wrong. unbroken (broken_at QueueSize w.at) (inl (inl (refl, subst (λ (q : Queueing). IsQueueWrong q w.queue) (sym same) wrong)))) is.queue

  base_inside : (greatest : ℕ) → top_at m.components w.component ≡ Some greatest → IsNoId (Some (pos x.base +ℤ pos greatest)) → ⊥
  base_inside greatest top out =
      let outside : IsBaseOutside w.base.number (top_at m.components w.component) =
      inr (greatest, top, subst (λ (o : Option ℤ). IsNoId (option_map (λ (n : ℤ). n +ℤ pos greatest) o)) (sym is.base) out) in
      unbroken (broken_at NumberOutOfRange w.base.at) (inr (inl (refl, outside)))

  pub numbers_fit : numbers_are_in_range m x ≡ true
  numbers_fit =
      let base : if_some (λ (r : ℕ × ℕ). nat_lt r.1 (2 ^ 32)) (range_of m x) ≡ true =
      ap (λ (k : ℕ). if_some (λ (r : ℕ × ℕ). nat_lt r.1 (2 ^ 32)) (option_map (λ (n : ℕ). (x.base, x.base + n)) (top_at m.components k))) is.component
      ∙ in_range x.base (top_at m.components w.component) base_inside in
      let queue : if_some (is_from_1_to 65535) x.queue ≡ true = one_number (pos 1) (pos (2 ^ 16 - 1)) (is_from_1_to 65535) w.queue x.queue is.queue (λ f b. unbroken f (inr (inr (inl (inl b))))) of_queue in
      let stack : if_some (λ (n : ℕ). nat_lt n (2 ^ 63)) x.stack ≡ true =
      one_number (pos 0) (pos (2 ^ 63 - 1)) (λ (n : ℕ). nat_lt n (2 ^ 63)) w.stack x.stack is.stack (λ f b. unbroken f (inr (inr (inl (inr b))))) of_stack in
      let cpu : if_some (λ (n : ℕ). nat_le n 65535) x.cpu ≡ true = one_number (pos 0) (pos (2 ^ 16 - 1)) (λ (n : ℕ). nat_le n 65535) w.cpu x.cpu is.cpu (λ f b. unbroken f (inr (inr (inr (inr b))))) of_cpu in
      four (if_some (λ (r : ℕ × ℕ). nat_lt r.1 (2 ^ 32)) (range_of m x)) (if_some (is_from_1_to 65535) x.queue) (if_some (λ (n : ℕ). nat_lt n (2 ^ 63)) x.stack) (if_some (λ (n : ℕ). nat_le n 65535) x.cpu) base queue stack cpu
