use Rattle.fp_events.proofs.Merged.{sorted_run, sorted_histories, sorted_traces, entry_lt-stamps}
use Rattle.fp_events.proofs.Sorting.{NeverFalls, never_falls}
use Rattle.fp_events.specs.SystemRun.{entry_lt}
use Rattle.fp_events.proofs.system.merging.Goals as goal

pub returns : goal.returns
returns g c = λ y laws histories traces v m all es all_are sorted stable.
    let ordered : NeverFalls y.stamp 0 es = never_falls y.stamp (entry_lt y) (entry_lt-stamps y laws) es sorted in (
      sorted_run y laws histories traces v m all es all_are ordered stable,
      sorted_histories y laws histories traces v m all es all_are ordered stable,
      sorted_traces y laws histories traces v m all es all_are ordered stable,
    )
