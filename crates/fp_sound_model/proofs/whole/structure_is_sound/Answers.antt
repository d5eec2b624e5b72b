use Rattle.std.proofs.Common.{◌≡◌, ◌∙◌, ◌&&◌, Bool, true, false, List, IsTrue, refl, sym, ap, ap₂}
use Rattle.std.specs.List.{list_all}
use Rattle.fp_sound_machines.specs.SoundMachine.{is_sound_machine}
use Rattle.fp_tables.specs.Instances.{numbers_are_in_range}
use Rattle.fp_tables.specs.declared.topology.Instance.{Instance}
use Rattle.fp_tables.specs.declared.machine.Machine.{Machine}
use Rattle.fp_tables.specs.declared.kind.TypeDef.{TypeDef}
use Rattle.fp_sound_model.specs.Parts.{StructurePasses}
use Rattle.fp_sound_model.proofs.whole.structure_is_sound.Goals as goal

split : (a b c d : Bool) → IsTrue (((a && b) && c) && d) → (a ≡ true) × (b ≡ true) × (c ≡ true) × (d ≡ true)
split true true true true h = (refl, refl, refl, refl)
split true true true false h = absurd (cc)
split true true false d h = absurd (cc)
split true false c d h = absurd (cc)
split false b c d h = absurd (cc)

unsplit : (a b c d : Bool) → a ≡ true → b ≡ true → c ≡ true → d ≡ true → IsTrue (((a && b) && c) && d)
unsplit a b c d p q r s = rw (p, q, r, s) refl

pub returns : goal.returns
returns c =
    let m = c.args.model.now in
    let numbers = c.all_numbers_are_in_range-numbers.ensures ∙ ap (λ (xs : List Instance). list_all (numbers_are_in_range m) xs) (c.as_slice-4).ensures in
    let machines =
    c.in_ok-machines.ensures ∙ ap₂ (λ (types : List TypeDef) (xs : List Machine). list_all (is_sound_machine types) xs) (c.as_slice-5).ensures (c.as_slice-6).ensures
    in (
      λ h.
          let k = split _ _ _ _ h in
          record { positions = sym c.positions_lie-positions.ensures ∙ k.0; ranges = sym c.in_ok-ranges.ensures ∙ k.1; numbers = sym numbers ∙ k.2; machines = sym machines ∙ k.3 },
      λ s.
          let tests : StructurePasses m = s in
          unsplit _ _ _ _ (c.positions_lie-positions.ensures ∙ tests.positions) (c.in_ok-ranges.ensures ∙ tests.ranges) (numbers ∙ tests.numbers) (machines ∙ tests.machines),
    )
