-- Each entry of a run fits; a value that fits is of something that is there.
use Rattle.std.proofs.Common.{◌≡◌, ℕ, true, List, ◌∷◌, ◌++◌, Option, Some, None, option_map, is_some, refl, sym, subst}
use Rattle.fp_events.specs.SystemRun.{InstanceStep, Run, World, opening}
use Rattle.fp_events.proofs.Local.{instance_law}
use Rattle.fp_base.specs.declared.value.Value.{Value}
use Rattle.fp_tables.specs.Lookup.{Described}
use Rattle.fp_tables.specs.declared.kind.Kind.{Kind}
use Rattle.fp_tables.specs.declared.program.Program.{Program}
use Rattle.fp_events.specs.declared.event.Entry.{Entry}
use Rattle.fp_events.specs.Instance.{InstanceState}
use Rattle.fp_events.specs.Actor.{ActorState}
use Rattle.fp_events.specs.Fits.{value_fits, fits}
use Rattle.fp_events.specs.Step.{core}
use Rattle.fp_events.proofs.StepLaws.{given, core_laws}

module _ (t : Described) (program : Program) where
  pub kind_there : {X : Type 0} (f : X → Kind) (o : Option X) (v : Value) → value_fits t program (option_map f o) v ≡ true → is_some o ≡ true
  kind_there f None v h = absurd (cc)
  kind_there f (Some x) v h = refl

  pub run_fits : (es : List Entry) (v : World InstanceState ActorState) → Run (core t program) (opening (core t program)) es v
      → (before : List Entry) (e : Entry) (rest : List Entry) → es ≡ before ++ e ∷ rest → fits t program e.actor e.instance e.what ≡ true
  run_fits =
      instance_law (core t program) (core_laws t program) (λ i es s. Unit {0}) (λ es e. fits t program e.actor e.instance e.what ≡ true)
      (λ i. tt) (λ i es s u e holds step. tt) (λ i es s u e holds step. fit i s u e step)
    where
      fit : (i : ℕ) (s u : InstanceState) (e : Entry) → InstanceStep (core t program) i s e u → fits t program e.actor e.instance e.what ≡ true
      fit i s u e step =
          let g = given t program i e.actor step.seen s u step.ask e step.part in
          subst (λ (k : ℕ). fits t program e.actor k e.what ≡ true) (sym g.instance) g.fit
