use Rattle.std.proofs.Common.{◌≡◌, ◌∙◌, ◌&&◌, Bool, true, false, List, IsTrue, refl, sym, ap}
use Rattle.std.specs.List.{list_all}
use Rattle.fp_tables.specs.Lists.{all_pass}
use Rattle.fp_sound_model.specs.Parts.{tests_of_component, PartsPass}
use Rattle.fp_tables.specs.declared.component.Component.{Component}
use Rattle.fp_sound_model.proofs.parts.parts_are_sound.Goals as goal

split : (a b : Bool) → IsTrue (a && b) → (a ≡ true) × (b ≡ true)
split true true h = (refl, refl)
split true false h = absurd (cc)
split false b h = absurd (cc)

unsplit : (a b : Bool) → a ≡ true → b ≡ true → IsTrue (a && b)
unsplit a b p q = rw (p, q) refl

pub returns-then-not-branch : goal.returns-then-not-branch
returns-then-not-branch c =
    let m = c.args.model.now in (
      λ h. absurd (cc),
      λ s. let passed : PartsPass m = s in absurd (cc (sym c.if-not-branch.true ∙ c.in_ok-types_are_sound.ensures ∙ passed.types)),
    )

pub returns : goal.returns
returns c =
    let m = c.args.model.now in
    let types = sym c.in_ok-types_are_sound.ensures ∙ c.if-not-branch.false in
    let components = c.in_ok-components.ensures ∙ ap (λ (cs : List Component). list_all (all_pass (tests_of_component m)) cs) c.as_slice.ensures in (
      λ h.
          let k = split _ _ h in
          record { types = types; definitions = sym c.in_ok-definitions.ensures ∙ k.0; components = sym components ∙ k.1 },
      λ s.
          let passed : PartsPass m = s in
          unsplit _ _ (c.in_ok-definitions.ensures ∙ passed.definitions) (components ∙ passed.components),
    )
