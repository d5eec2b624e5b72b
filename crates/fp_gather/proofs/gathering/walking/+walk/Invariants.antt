use Rattle.std.proofs.Common.{◌≡◌, ◌*◌, ◌+◌, take}
use Rattle.std.specs.Prelude.{Ok}
use Rattle.fp_gather.specs.FilesRun.{files_run}
use Rattle.fp_gather.specs.gathering.Answers.{Comes, Knows}
use Rattle.fp_gather.specs.gathering.Walks.{Walked, WalksEach, WalksInclude}
use Rattle.fp_gather.proofs.gathering.walking.+walk.Given as goal

abbrev pub decreases-walk_include : goal.decreases-walk_include
decreases-walk_include g l = 3 * l.levels

abbrev pub decreases-walk_includes : goal.decreases-walk_includes
decreases-walk_includes g l = 3 * l.levels + 1

abbrev pub decreases-walk_file : goal.decreases-walk_file
decreases-walk_file g l = 3 * l.levels + 2

-- the includes so far were walked
abbrev pub invariant-walk_includes-loop-include : goal.invariant-walk_includes-loop-include
invariant-walk_includes-loop-include g l =
    (g.F.Files.told l.files ≡ g.F.Files.told l.initial.files)
    × ((before : Walked) → Knows l.initial.progress before
    → Comes (files_run g.F.Files.told g.F.Files.faults g.F.Files.misses l.initial.files l.files) (λ told. WalksEach (WalksInclude told l.levels l.round) (take l.include-index l.includes)) before l.progress (Ok l.inserts))
