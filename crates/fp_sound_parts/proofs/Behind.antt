-- What is behind a target is given its value, through choices.
use Rattle.std.proofs.Common.{◌≡◌, ℕ, zero, suc, ◌&&◌, Bool, true, List, Option, Some, refl, ap, ◌∙◌}
use Rattle.fp_tables.specs.Machines.{node_at, behind_is_given, choice_is_given, guard_is_given, actions_are_given}
use Rattle.fp_tables.specs.declared.kind.Kind.{Kind}
use Rattle.fp_tables.specs.declared.kind.TypeDef.{TypeDef}
use Rattle.fp_tables.specs.declared.machine.Machine.{Machine}
use Rattle.fp_tables.specs.declared.machine.Node.{Node}
use Rattle.fp_tables.specs.declared.machine.Node.TheVariants as node
use Rattle.fp_tables.specs.declared.machine.Step.{Step}
use Rattle.fp_machine_rules.specs.declared.item.Target.{Target}
use Rattle.fp_machine_rules.specs.declared.item.Target.TheVariants.{Stays, Undefined, To}
use Rattle.fp_machine_rules.specs.declared.item.Form.TheVariants as form
use Rattle.fp_machine_rules.specs.declared.item.Item.{Item}
use Rattle.fp_machine_rules.specs.Forms.{IsChoice, Stands}
use Rattle.fp_machine_rules.specs.Through.{Branches, met, unmet, Through, here}
use Rattle.fp_machine_rules.specs.Values.{IsGiven}
use Rattle.fp_sound_parts.proofs.BehaviorFitting.{number_if}
use Rattle.fp_sound_parts.proofs.Reaching.{IsToVertex, along, first_past}
use Rattle.fp_sound_parts.proofs.Rings.{IsEither, state, choice, either_of}
use Rattle.fp_sound_parts.proofs.Standing.{Corresponds, to_number}

-- what a choice does with a value fits
pub record ChoiceFits (types : List TypeDef) (m : Machine) (given : Option Kind) (guard : ℕ) (first second : Step) : Type 0 where
  pub guarded : guard_is_given types m given guard ≡ true
  pub acts : actions_are_given types m given first.actions ≡ true
  pub acts_else : actions_are_given types m given second.actions ≡ true

module _ (types : List TypeDef) (m : Machine) (items : List Item) (signals : List (Option ℕ)) (number : ℕ → ℕ) (at : Corresponds items m.vertices number) where
  -- every choice that is given the value fits
  abbrev pub ChoicesFit : Option Kind → Type 0
  ChoicesFit given = (c name : ℕ) (a b : Target) (p : Option ℕ) (guard : ℕ) (first second : Step) → Stands items c (form.Choice name a b) p
      → IsGiven items signals c (number_if types given) → node_at m.vertices (number c) ≡ Some (node.Choice guard first second)
      → ChoiceFits types m given guard first second

  -- the choices behind a target are given the value
  abbrev pub AreGiven : Option Kind → Target → Type 0
  AreGiven given t = (w c : ℕ) → t ≡ To w → Through items w c → IsChoice items c → IsGiven items signals c (number_if types given)

  behind_there : (given : Option Kind) (n w : ℕ) → ChoicesFit given → AreGiven given (To w) → IsEither items w
      → ((t : Target) (o : Option ℕ) → o ≡ to_number number t → IsToVertex items m.vertices number at t → AreGiven given t → behind_is_given types m given n o ≡ true)
      → choice_is_given types m given (behind_is_given types m given n) (node_at m.vertices (number w)) ≡ true
  behind_there given n w fit h (state s) again =
      ap (λ (o : Option Node). choice_is_given types m given (behind_is_given types m given n) o) (at.state w s).is
  behind_there given n w fit h (choice name a b p s) again =
      let c = at.choice w name a b p s in
      let f = fit w name a b p c.guard c.met c.unmet s (h w w refl here (record { item = s.item; here = s.here; holds = rw s.form refl })) c.is in
      ap (λ (o : Option Node). choice_is_given types m given (behind_is_given types m given n) o) c.is
      ∙ five (guard_is_given types m given c.guard) (actions_are_given types m given c.met.actions) (behind_is_given types m given n c.met.target)
      (actions_are_given types m given c.unmet.actions) (behind_is_given types m given n c.unmet.target)
      f.guarded f.acts (onward a c.met.target c.to_met (met s)) f.acts_else (onward b c.unmet.target c.to_unmet (unmet s))
    where
      five : (a b c d e : Bool) → a ≡ true → b ≡ true → c ≡ true → d ≡ true → e ≡ true → (a && b && c && d && e) ≡ true
      five a b c d e p q r s t = rw (p, q, r, s, t) refl

      onward : (t : Target) (o : Option ℕ) → o ≡ to_number number t → Branches items w t → behind_is_given types m given n o ≡ true
      onward t o is b =
          again t o is (λ u e. at.leads w u (along items m.vertices number at w u t e b))
          (λ u c e r is. h w c refl (first_past items w u c (along items m.vertices number at w u t e b) r) is)

  pub behind_given : (given : Option Kind) (n : ℕ) (t : Target) (o : Option ℕ) → ChoicesFit given → o ≡ to_number number t → IsToVertex items m.vertices number at t
      → AreGiven given t → behind_is_given types m given n o ≡ true
  unfolding behind_is_given
  behind_given given zero t o fit is v h = refl
  behind_given given (suc n) Stays o fit is v h = ap (λ (p : Option ℕ). behind_is_given types m given (suc n) p) is
  behind_given given (suc n) Undefined o fit is v h = ap (λ (p : Option ℕ). behind_is_given types m given (suc n) p) is
  behind_given given (suc n) (To w) o fit is v h =
      ap (λ (p : Option ℕ). behind_is_given types m given (suc n) p) is
      ∙ behind_there given n w fit h (either_of items w (v w refl)) (λ t o is v h. behind_given given n t o fit is v h)
