use Rattle.std.proofs.Common.{[], refl}
use Rattle.std.specs.Prelude.{Ok}
use Rattle.fp_parse_parts.specs.declared.parsing.Inside.TheVariants as inside
use Rattle.fp_gather.specs.FilesRun.{files_run}
use Rattle.fp_gather.specs.gathering.Walks.{Stops, WalksFile, WalksInclude, WalksNamed, most_levels}
use Rattle.fp_gather.proofs.WalkSteps.{asked_as, comes_as, handed_on, memory_refused, named_comes, stops_first}
use Rattle.fp_gather.proofs.gathering.walking.walk_named.Goals as goal

pub returns-in_err-name-clause-told : goal.returns-in_err-name-clause-told
returns-in_err-name-clause-told g c = refl

pub returns-in_err-name-clause-comes : goal.returns-in_err-name-clause-comes
returns-in_err-name-clause-comes g c = λ before k.
    memory_refused (files_run g.F.Files.told g.F.Files.faults g.F.Files.misses c.args.files.now c.args.files.now) (λ u. WalksNamed u c.args.name.now) before c.args.progress.now c.from_residual.result c.from_residual.ensures.1

pub returns-in_err-given-clause-told : goal.returns-in_err-given-clause-told
returns-in_err-given-clause-told g c = c.in_err-given.ensures.told

pub returns-in_err-given-clause-comes : goal.returns-in_err-given-clause-comes
returns-in_err-given-clause-comes g c = λ before k.
    handed_on (files_run g.F.Files.told g.F.Files.faults g.F.Files.misses c.args.files.now c.walk_file.new.files) (λ u. WalksNamed u c.args.name.now) before c.walk_file.new.progress c.from_residual-in_err-given.result c.in_err-given.field-0.0 c.from_residual-in_err-given.ensures.1
    (stops_first g.F.Files.told g.F.Files.faults g.F.Files.misses c.args.files.now c.walk_file.new.files (λ u. WalksFile u (WalksInclude u most_levels) c.new-none.result inside.Unit c.in_ok-name.name) (λ u. WalksNamed u c.args.name.now) before c.walk_file.new.progress c.walk_file.new.progress c.in_err-given.field-0.0
    (λ s h. asked_as (g.F.Files.told c.args.files.now) c.new-none.result c.in_ok-name.name c.args.name.now before (Stops s) c.new-none.ensures c.in_ok-name.ensures h) (c.in_err-given.ensures.comes before k))

pub returns-clause-told : goal.returns-clause-told
returns-clause-told g c = c.in_ok-given.ensures.told

pub returns-clause-comes : goal.returns-clause-comes
returns-clause-comes g c = λ before k.
    named_comes (files_run g.F.Files.told g.F.Files.faults g.F.Files.misses c.args.files.now c.walk_file.new.files) c.args.name.now before c.walk_file.new.progress c.in_ok-given.given c.members_of.result c.members_of.ensures
    (comes_as (files_run g.F.Files.told g.F.Files.faults g.F.Files.misses c.args.files.now c.walk_file.new.files)
    (λ u. WalksFile u (WalksInclude u most_levels) c.new-none.result inside.Unit c.in_ok-name.name) (λ u. WalksFile u (WalksInclude u most_levels) [] inside.Unit c.args.name.now) before c.walk_file.new.progress (Ok c.in_ok-given.given)
    (λ o h. asked_as (g.F.Files.told c.args.files.now) c.new-none.result c.in_ok-name.name c.args.name.now before o c.new-none.ensures c.in_ok-name.ensures h) (c.in_ok-given.ensures.comes before k))
