use Rattle.std.proofs.Common.{refl}
use Rattle.fp_events.proofs.Merged.{decomposed}
use Rattle.fp_events.specs.Step.{core}
use Rattle.fp_events.specs.Run.{World, at, by}
use Rattle.fp_events.proofs.StepLaws.{core_laws}
use Rattle.fp_events.proofs.laws.decomposition.Goals as goal

pub returns : goal.returns
returns c = λ tables program es kept told agree.
    let world : World = record { instances = λ i. (kept i).0; actors = λ a. (told a).0 } in (
      world,
      decomposed (core tables program) (core_laws tables program) (λ i. at i es) (λ a. by a es) world
          (record { kept = λ i. (kept i).1; told = λ a. (told a).1; agree = record { entries = agree.entries; stamps = agree.stamps } })
          es (λ i. refl) (λ a. refl),
    )
