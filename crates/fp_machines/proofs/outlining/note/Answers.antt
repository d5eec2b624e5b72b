use Rattle.std.proofs.Common.{◌≡◌, ◌∙◌, ap, sym, List, ℕ, Option}
use Rattle.std.specs.Prelude.{option_copied}
use Rattle.std.specs.BTreeMap.{get_by_text}
use Rattle.fp_base.proofs.Options.{on_ok_then}
use Rattle.fp_machines.specs.Found.{or_first}
use Rattle.fp_machines.specs.Outline.{is_text}
use Rattle.fp_machines.proofs.Found.{left_free}
use Rattle.fp_machines.proofs.outlining.note.Goals as goal

pub returns-in-None : goal.returns-in-None
returns-in-None c = λ t.
    left_free (get_by_text c.args.found.now t) c.args.at
    ∙ ap (λ (o : Option (List ℕ)). or_first (get_by_text c.args.found.now t) (is_text t o) c.args.at) (ap option_copied (sym c.in-None.is) ∙ c.name_of.ensures)

pub returns-in-Some : goal.returns-in-Some
returns-in-Some c =
    on_ok_then c.note_one.result _ _
    (λ h t.
    h t ∙ ap (λ (o : Option (List ℕ)). or_first (get_by_text c.args.found.now t) (is_text t o) c.args.at) (ap option_copied (sym c.in-Some.is) ∙ c.name_of.ensures))
    c.note_one.ensures
