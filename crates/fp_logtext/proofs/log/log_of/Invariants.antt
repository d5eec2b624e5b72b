use Rattle.std.proofs.Common.{◌≡◌, take}
use Rattle.std.specs.Prelude.{flat_map}
use Rattle.fp_logtext.specs.Log.{line}
use Rattle.fp_logtext.proofs.log.log_of.Given as goal

abbrev pub invariant-loop-entry : goal.invariant-loop-entry
invariant-loop-entry l = l.log ≡ flat_map (line l.model l.callers l.dispatchers) (take l.entry-index l.entry-items)
