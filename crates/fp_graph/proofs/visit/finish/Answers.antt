use Rattle.std.proofs.Common.{◌≡◌, List, None, Some, slice_get, get_or, sym, subst}
use Rattle.std.proofs.lemmas.Option.{slice_get-get_or}
use Rattle.fp_graph.specs.declared.stretch.Stretch.{Stretch}
use Rattle.fp_graph.specs.declared.visit.Mark.{Mark}
use Rattle.fp_graph.specs.declared.visit.Mark.TheVariants.{Unseen}
use Rattle.fp_graph.specs.Visits.{State, Stage, Progress, Seen, state_of}
use Rattle.fp_graph.proofs.Steps.{root_stage, root_seen, root_progress}
use Rattle.fp_graph.proofs.visit.finish.Goals as goal

pub frames-init : goal.frames-init
frames-init c =
    let stretches = c.args.stretches.now in
    let targets = c.args.targets.now in
    let s = state_of c.args.walk.now in
    let v = c.args.root in
    let unseen : slice_get s.marks v ≡ Some Unseen = subst (λ (m : List Mark). slice_get m v ≡ Some Unseen) c.deref.ensures.value c.if-is_unseen.ensures in
    let none : Stretch = record { first = 0; end = 0 } in
    let stretch = get_or stretches v none in
    let at = slice_get-get_or stretches v none c.requires.within in
    let e = sym c.in_ok-enter.ensures in
    record {
      stage = subst (λ (x : State). Stage stretches targets None x) e (root_stage stretches targets s v stretch c.requires.rests at unseen);
      seen = subst (λ (x : State). Progress s.marks x.marks) e (root_progress s v stretch);
      here = subst (λ (x : State). Seen x.marks v) e (root_seen s v stretch unseen);
    }
