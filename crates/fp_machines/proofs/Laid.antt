-- Laid out, an element stands as it does by itself.
use Rattle.std.proofs.Common.{◌≡◌, ℕ, List, map, Option, refl, sym, ap, subst}
use Rattle.fp_base.specs.declared.place.Place.{Place}
use Rattle.fp_base.specs.declared.refusal.Refusal.{Refusal}
use Rattle.fp_base.specs.Least.{IsLeast}
use Rattle.fp_tree.specs.declared.machine.BehaviorElement.{BehaviorElement}
use Rattle.fp_tree.specs.declared.machine.ElementForm.{ElementForm}
use Rattle.fp_tree.specs.declared.machine.ElementForm.TheVariants as element
use Rattle.fp_machine_rules.specs.declared.item.Item.{Item}
use Rattle.fp_machine_rules.specs.Broken.{BrokenAsWhole}
use Rattle.fp_machine_rules.specs.Forms.{IsLaid}
use Rattle.fp_machines.specs.Outline.{outline, outline_of}
use Rattle.fp_machines.specs.Steps.{laid_item, laid_items}
use Rattle.fp_machines.proofs.Whole.{IsAlike, laid_over, least_alike}

module _ (es : List BehaviorElement) (items : List Item) where
  pub laid_alike : (e : BehaviorElement) → IsAlike (outline_of es e) (laid_item es items e)
  laid_alike e = go e.form refl
    where
      go : (form : ElementForm) → e.form ≡ form → IsAlike (outline_of es e) (laid_item es items e)
      go (element.State n) is = rw is (record { parent = refl; state = refl; vertex = refl; signal = refl; initial = refl })
      go (element.Choice n) is = rw is (record { parent = refl; state = refl; vertex = refl; signal = refl; initial = refl })
      go (element.Initial n) is = rw is (record { parent = refl; state = refl; vertex = refl; signal = refl; initial = refl })
      go (element.Signal n) is = rw is (record { parent = refl; state = refl; vertex = refl; signal = refl; initial = refl })
      go (element.Action n) is = rw is (record { parent = refl; state = refl; vertex = refl; signal = refl; initial = refl })
      go (element.Guard n) is = rw is (record { parent = refl; state = refl; vertex = refl; signal = refl; initial = refl })
      go (element.On n) is = rw is (record { parent = refl; state = refl; vertex = refl; signal = refl; initial = refl })
      go (element.Entry n) is = rw is (record { parent = refl; state = refl; vertex = refl; signal = refl; initial = refl })
      go (element.Exit n) is = rw is (record { parent = refl; state = refl; vertex = refl; signal = refl; initial = refl })

pub whole_laid : (place : Place) (es : List BehaviorElement) (o : Option Refusal)
    → IsLeast (BrokenAsWhole place (outline es)) o → IsLeast (BrokenAsWhole place (laid_items es (outline es))) o
whole_laid place es o l = least_alike (outline_of es) (laid_item es (outline es)) (laid_alike es (outline es)) place es o l

pub laid_stands : (es : List BehaviorElement) → IsLaid (outline es) → IsLaid (laid_items es (outline es))
laid_stands es l = laid_over (outline_of es) (laid_item es (outline es)) (laid_alike es (outline es)) es l
