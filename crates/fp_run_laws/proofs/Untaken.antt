-- What is pending at an instance is what its history leaves untaken.
use Rattle.std.proofs.Common.{◌≡◌, ℕ, List, [], ◌∷◌, ◌++◌, refl, sym, ap, ◌∙◌}
use Rattle.fp_events.specs.SystemRun as system
use Rattle.fp_events.proofs.Turns.{InTurn-induction}
use Rattle.fp_tables.specs.Lookup.{Described}
use Rattle.fp_tables.specs.declared.program.Program.{Program}
use Rattle.fp_events.specs.declared.event.Entry.{Entry}
use Rattle.fp_events.specs.declared.event.What.TheVariants as what
use Rattle.fp_events.specs.Instance.{Inside, InstanceState, Pending, opened_instance}
use Rattle.fp_events.specs.QueueOrder.{untaken_after, untaken_from}
use Rattle.fp_events.specs.Step.{core}
use Rattle.fp_events.proofs.QueueLaws.{untaken_from-more, leaves_untaken}
use Rattle.fp_events.proofs.StepLaws.{given}

module _ (t : Described) (program : Program) (i : ℕ) where
  abbrev first : InstanceState
  first = record { inside = opened_instance t i; last = 0 }

  one_more : (es : List Entry) (s u : InstanceState) (e : Entry) → s.inside.pending ≡ untaken_from t i [] es
      → system.InstanceStep (core t program) i s e u → u.inside.pending ≡ untaken_from t i [] (es ++ e ∷ [])
  one_more es s u e holds step =
      let g = given t program i e.actor step.seen s u step.ask e step.part in
      ap (λ (x : Inside). x.pending) g.inside ∙ leaves_untaken t program i s.inside e.actor e.what ∙ ap (λ (ps : List Pending). untaken_after t i ps e.what) holds
      ∙ sym (untaken_from-more t i [] es e)

  pub pending_untaken : (es : List Entry) (s : InstanceState) → system.Kept (core t program) i es s → s.inside.pending ≡ untaken_from t i [] es
  pending_untaken es s h =
      InTurn-induction (system.InstanceStep (core t program) i) first (λ (es : List Entry) (s : InstanceState). s.inside.pending ≡ untaken_from t i [] es) refl
      (λ es s u e made holds step. one_more es s u e holds step) es s h
