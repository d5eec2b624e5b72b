use Rattle.std.proofs.Common.{◌≡◌, map, take}
use Rattle.std.specs.Prelude.{Ok}
use Rattle.std.specs.String.{string_bytes}
use Rattle.fp_gather.specs.FilesRun.{files_run}
use Rattle.fp_gather.specs.gathering.Answers.{Comes, Knows}
use Rattle.fp_gather.specs.gathering.Walks.{Walked, WalksFiles}
use Rattle.fp_gather.proofs.gathering.walking.walk_files.Given as goal

-- the files so far were walked
abbrev pub invariant-loop-name : goal.invariant-loop-name
invariant-loop-name g l =
    (g.F.Files.told l.files ≡ g.F.Files.told l.initial.files)
    × ((before : Walked) → Knows l.initial.progress before
    → Comes (files_run g.F.Files.told g.F.Files.faults g.F.Files.misses l.initial.files l.files) (λ told. WalksFiles told (map string_bytes (take l.name-index l.names))) before l.progress (Ok l.units))
