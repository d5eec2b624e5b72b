use Rattle.fp_gather.specs.FilesRun.{files_run}
use Rattle.fp_gather.specs.gathering.Walks.{Reads}
use Rattle.fp_gather.proofs.WalkSteps.{memory_refused, reads_some, reads_none, reads_failed}
use Rattle.fp_gather.proofs.gathering.walking.read_file.Goals as goal

pub returns-in_err-take_in-in-Ok-Some-clause-told : goal.returns-in_err-take_in-in-Ok-Some-clause-told
returns-in_err-take_in-in-Ok-Some-clause-told g c = c.read.ensures.told

pub returns-in_err-take_in-in-Ok-Some-clause-comes : goal.returns-in_err-take_in-in-Ok-Some-clause-comes
returns-in_err-take_in-in-Ok-Some-clause-comes g c = λ before k. memory_refused (files_run g.F.Files.told g.F.Files.faults g.F.Files.misses c.args.files.now c.read.new.self) (λ u. Reads u c.args.round.now c.args.inside c.args.name.now) before c.take_in.new.progress c.from_residual.result c.from_residual.ensures.1

pub returns-in_err-copy-in-Ok-None-clause-told : goal.returns-in_err-copy-in-Ok-None-clause-told
returns-in_err-copy-in-Ok-None-clause-told g c = c.read.ensures.told

pub returns-in_err-copy-in-Ok-None-clause-comes : goal.returns-in_err-copy-in-Ok-None-clause-comes
returns-in_err-copy-in-Ok-None-clause-comes g c = λ before k. memory_refused (files_run g.F.Files.told g.F.Files.faults g.F.Files.misses c.args.files.now c.read.new.self) (λ u. Reads u c.args.round.now c.args.inside c.args.name.now) before c.args.progress.now c.from_residual-in_err-copy-in-Ok-None.result c.from_residual-in_err-copy-in-Ok-None.ensures.1

pub returns-in_err-copy-in-Err-Failed-clause-told : goal.returns-in_err-copy-in-Err-Failed-clause-told
returns-in_err-copy-in-Err-Failed-clause-told g c = c.read.ensures.told

pub returns-in_err-copy-in-Err-Failed-clause-comes : goal.returns-in_err-copy-in-Err-Failed-clause-comes
returns-in_err-copy-in-Err-Failed-clause-comes g c = λ before k. memory_refused (files_run g.F.Files.told g.F.Files.faults g.F.Files.misses c.args.files.now c.read.new.self) (λ u. Reads u c.args.round.now c.args.inside c.args.name.now) before c.args.progress.now c.from_residual-in_err-copy-in-Err-Failed.result c.from_residual-in_err-copy-in-Err-Failed.ensures.1

pub returns-in_ok-take_in-in-Ok-Some-clause-told : goal.returns-in_ok-take_in-in-Ok-Some-clause-told
returns-in_ok-take_in-in-Ok-Some-clause-told g c = c.read.ensures.told

pub returns-in_ok-copy-in-Ok-None-clause-told : goal.returns-in_ok-copy-in-Ok-None-clause-told
returns-in_ok-copy-in-Ok-None-clause-told g c = c.read.ensures.told

pub returns-in_ok-copy-in-Err-Failed-clause-told : goal.returns-in_ok-copy-in-Err-Failed-clause-told
returns-in_ok-copy-in-Err-Failed-clause-told g c = c.read.ensures.told

pub returns-in-Err-NoMemory-clause-told : goal.returns-in-Err-NoMemory-clause-told
returns-in-Err-NoMemory-clause-told g c = c.read.ensures.told

pub returns-in_ok-take_in-in-Ok-Some-clause-comes : goal.returns-in_ok-take_in-in-Ok-Some-clause-comes
returns-in_ok-take_in-in-Ok-Some-clause-comes g c = λ before k.
    reads_some (files_run g.F.Files.told g.F.Files.faults g.F.Files.misses c.args.files.now c.read.new.self) c.args.round.now c.args.inside c.args.name.now c.as_str.result.now c.as_slice.result.now c.in-Ok-Some.text c.in-Ok-Some.field-0 c.in_ok-take_in-in-Ok-Some.field-0 before c.take_in.new.progress
    c.in-Ok-Some.field-0-is c.as_slice.ensures c.as_str.ensures c.in-Ok-Some.ensures.faults c.in-Ok-Some.ensures.misses c.in-Ok-Some.ensures.bytes (c.in_ok-take_in-in-Ok-Some.ensures before k)

pub returns-in_ok-copy-in-Ok-None-clause-comes : goal.returns-in_ok-copy-in-Ok-None-clause-comes
returns-in_ok-copy-in-Ok-None-clause-comes g c = λ before k.
    reads_none (files_run g.F.Files.told g.F.Files.faults g.F.Files.misses c.args.files.now c.read.new.self) c.args.round.now c.args.inside c.args.name.now c.as_str.result.now c.in_ok-copy-in-Ok-None.field-0 c.in-Ok-None.field-0 before c.args.progress.now
    c.in-Ok-None.field-0-is c.as_str.ensures c.in_ok-copy-in-Ok-None.ensures c.in-Ok-None.ensures.faults c.in-Ok-None.ensures.misses c.in-Ok-None.ensures.bytes

pub returns-in_ok-copy-in-Err-Failed-clause-comes : goal.returns-in_ok-copy-in-Err-Failed-clause-comes
returns-in_ok-copy-in-Err-Failed-clause-comes g c = λ before k.
    reads_failed (files_run g.F.Files.told g.F.Files.faults g.F.Files.misses c.args.files.now c.read.new.self) c.args.round.now c.args.inside c.args.name.now c.in_ok-copy-in-Err-Failed.field-0 c.in-Err-Failed.field-0 before c.args.progress.now
    c.in-Err-Failed.field-0-is c.in_ok-copy-in-Err-Failed.ensures c.in-Err-Failed.ensures.faults c.in-Err-Failed.ensures.misses
