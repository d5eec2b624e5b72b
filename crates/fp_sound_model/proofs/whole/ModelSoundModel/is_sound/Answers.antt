use Rattle.std.proofs.Common.{◌&&◌, Bool, true, false, IsTrue, refl}
use Rattle.fp_sound_model.specs.Parts.{PartsPass, StructurePasses}
use Rattle.fp_sound_model.proofs.Parted.{passed_parts}
use Rattle.fp_sound_model.proofs.Structured.{sound_by_tests, passed_structure, sound_for, sound_model, sound_beside}
use Rattle.fp_sound_model.proofs.whole.ModelSoundModel.is_sound.Goals as goal

split : (a b : Bool) → IsTrue (a && b) → IsTrue a × IsTrue b
split true true h = (refl, refl)
split true false h = absurd (cc)
split false b h = absurd (cc)

unsplit : (a b : Bool) → IsTrue a → IsTrue b → IsTrue (a && b)
unsplit true true p q = refl
unsplit true false p q = absurd (cc)
unsplit false b p q = absurd (cc)

pub returns-then-not-branch : goal.returns-then-not-branch
returns-then-not-branch c =
    let m = c.args.self.now in
    let t = c.args.topology in (
      λ h. absurd (cc),
      λ s. let parts = c.in_ok-parts_are_sound.ensures.1 (passed_parts m (sound_model m t s)) in absurd (cc (c.if-not-branch.true, parts)),
    )

pub returns : goal.returns
returns c =
    let m = c.args.self.now in
    let t = c.args.topology in
    let parts : PartsPass m = c.in_ok-parts_are_sound.ensures.0 c.if-not-branch.false in (
      λ h.
          let k = split _ _ h in
          let structure : StructurePasses m = c.in_ok-structure.ensures.0 k.0 in
          sound_for m t (sound_by_tests m structure parts) (c.in_ok-beside.ensures.0 k.1),
      λ s. unsplit _ _ (c.in_ok-structure.ensures.1 (passed_structure m (sound_model m t s))) (c.in_ok-beside.ensures.1 (sound_beside m t s)),
    )
