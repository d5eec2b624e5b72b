-- What a machine that breaks no rule says, sentence by sentence.
use Rattle.std.proofs.Common.{◌≡◌, ℕ, List, slice_get, Some, refl, sym, ◌∙◌, inl, inr}
use Rattle.std.specs.List.{AllByRecursion}
use Rattle.std.proofs.lemmas.Option.{slice_get-map}
use Rattle.fp_base.specs.Least.{IsUnbroken, broken_at}
use Rattle.fp_base.specs.declared.rule.Rule.TheVariants.{InitialCount, InitialLeavesState, SignalTwice, ChoiceCycle, TypedValue, UndefinedInMachine}
use Rattle.fp_base.proofs.Options.{mapped_some}
use Rattle.fp_base.proofs.Lists.{each_item}
use Rattle.fp_machine_rules.specs.declared.item.Item.{Item}
use Rattle.fp_machine_rules.specs.declared.item.LaidMachine.{LaidMachine}
use Rattle.fp_machine_rules.specs.declared.item.Target.{Target}
use Rattle.fp_machine_rules.specs.Broken.{MachineBroken}
use Rattle.fp_machine_rules.specs.Members.{MachineCountsWrong, StateCountsWrong}
use Rattle.fp_machine_rules.specs.Repeated.{Repeats, key_by, signal_of}
use Rattle.fp_machine_rules.specs.Through.{Branches, met, unmet, IsOnRing, LeavesItsState}
use Rattle.fp_sound_parts.proofs.Uses.{IsGoodUse}

pub record Says (m : LaidMachine) : Type 0 where
  pub machine_counts : MachineCountsWrong m.items → ⊥
  pub state_counts : (v : ℕ) → StateCountsWrong m.items v → ⊥
  pub stays : (v : ℕ) → LeavesItsState m.items v → ⊥
  pub no_ring : (v : ℕ) → IsOnRing m.items v → ⊥
  pub signals : (v : ℕ) → Repeats signal_of m.items v → ⊥
  pub uses : AllByRecursion (IsGoodUse m.items m.types) m.uses

branching : (items : List Item) {v : ℕ} {t : Target} → Branches items v t → (x : Item) × (slice_get items v ≡ Some x)
branching items (met s) = (s.item, s.here)
branching items (unmet s) = (s.item, s.here)

pub says : (m : LaidMachine) → IsUnbroken (MachineBroken m) → Says m
says m unbroken = record {
  machine_counts = λ wrong. unbroken (broken_at InitialCount m.place) (inl (inl (refl, wrong)));
  state_counts = λ v wrong. unbroken (broken_at InitialCount wrong.0.item.place) (inr (inl (inl (inl (v, wrong.0.item, wrong.0.here, (refl, wrong))))));
  stays = λ v leaves. unbroken (broken_at InitialLeavesState leaves.stands.item.place) (inr (inl (inl (inr (inl (v, leaves.stands.item, leaves.stands.here, (refl, leaves)))))));
  no_ring = λ v ring.
      let x = branching m.items ring.leads in
      unbroken (broken_at ChoiceCycle x.0.place) (inr (inl (inl (inr (inr (inl (v, x.0, x.1, (refl, ring))))))));
  signals = λ v again.
      let x = mapped_some (key_by signal_of) (slice_get m.items v) (Some again.same) (sym (slice_get-map (key_by signal_of) m.items v) ∙ again.here) in
      unbroken (broken_at SignalTwice x.0.place) (inr (inl (inr (inl (inl (v, x.0, x.1, (refl, again)))))));
  uses = each_item (IsGoodUse m.items m.types) m.uses
      (λ k used here. record {
        given = λ wrong. unbroken (broken_at TypedValue used.place) (inr (inr (inl (k, used, here, (refl, (used, here, wrong))))));
        meant = λ nothing. unbroken (broken_at UndefinedInMachine used.place) (inr (inr (inr (k, used, here, (refl, (used, here, nothing))))));
      });
}
