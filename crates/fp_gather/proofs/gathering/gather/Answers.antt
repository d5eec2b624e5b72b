use Rattle.std.proofs.Common.{map}
use Rattle.std.specs.String.{string_bytes}
use Rattle.fp_gather.specs.FilesRun.{files_run}
use Rattle.fp_gather.specs.gathering.Walks.{nothing_read}
use Rattle.fp_gather.proofs.GatheredFiles.{gathers_judged, gathers_nothing, gathers_stopped}
use Rattle.fp_gather.proofs.gathering.gather.Goals as goal

pub returns-in_err-units-clause-told : goal.returns-in_err-units-clause-told
returns-in_err-units-clause-told g c = c.in_err-units.ensures.told

pub returns-in_err-units-clause-gathers : goal.returns-in_err-units-clause-gathers
returns-in_err-units-clause-gathers g c =
    gathers_stopped (map string_bytes c.args.names.now) (files_run g.F.Files.told g.F.Files.faults g.F.Files.misses c.args.files.now c.walk_files.new.files) c.walk_files.new.progress c.in_err-units.field-0.0
    c.from_residual.result c.from_residual.ensures.1 (c.in_err-units.ensures.comes nothing_read c.nothing_read-progress.ensures)

pub returns-in_err-concluded-clause-told : goal.returns-in_err-concluded-clause-told
returns-in_err-concluded-clause-told g c = c.in_ok-units.ensures.told

pub returns-in_err-concluded-clause-gathers : goal.returns-in_err-concluded-clause-gathers
returns-in_err-concluded-clause-gathers g c =
    gathers_nothing (map string_bytes c.args.names.now) (files_run g.F.Files.told g.F.Files.faults g.F.Files.misses c.args.files.now c.walk_files.new.files)
    c.from_residual-in_err-concluded.result c.from_residual-in_err-concluded.ensures.1

pub returns-clause-told : goal.returns-clause-told
returns-clause-told g c = c.in_ok-units.ensures.told

pub returns-clause-gathers : goal.returns-clause-gathers
returns-clause-gathers g c =
    gathers_judged c.in_files_read.ensures (map string_bytes c.args.names.now) (files_run g.F.Files.told g.F.Files.faults g.F.Files.misses c.args.files.now c.walk_files.new.files) c.walk_files.new.progress c.in_ok-units.units
    c.in_ok-concluded.concluded c.judge.result (c.in_ok-units.ensures.comes nothing_read c.nothing_read-progress.ensures) c.in_ok-concluded.ensures c.judge.ensures
