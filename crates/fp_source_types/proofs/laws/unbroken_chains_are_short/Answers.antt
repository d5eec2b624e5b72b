use Rattle.std.proofs.Common.{inl}
use Rattle.fp_source_types.proofs.Chained.{chains_short}
use Rattle.fp_source_types.proofs.laws.unbroken_chains_are_short.Goals as goal

pub returns : goal.returns
returns c source types constants unbroken of = chains_short source types constants (λ f b. unbroken f (record { written = of.written; are = of.are; broken = inl b })) of
