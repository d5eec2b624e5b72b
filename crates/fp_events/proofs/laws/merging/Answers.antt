use Rattle.fp_events.proofs.Recorded.{distinct_from, recorded_world, merged_run, merged_histories, merged_traces}
use Rattle.fp_tables.specs.Lookup.{placed}
use Rattle.fp_events.proofs.laws.merging.Goals as goal

pub returns : goal.returns
returns c = λ tables program histories traces differ records es sorted stable. (
  (recorded_world tables program histories traces records, merged_run tables program histories traces records (distinct_from (placed tables) differ) es sorted stable),
  merged_histories tables program histories traces records (distinct_from (placed tables) differ) es sorted stable,
  merged_traces tables program histories traces records (distinct_from (placed tables) differ) es sorted stable,
)
