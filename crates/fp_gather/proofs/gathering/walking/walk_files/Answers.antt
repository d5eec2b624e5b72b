use Rattle.std.proofs.Common.{◌+◌, ℕ, List, [], ◌∷◌, ◌++◌, take, drop, map, refl, sym, ap, ◌∙◌, arith}
use Rattle.std.specs.String.{string_bytes}
use Rattle.fp_gather.specs.FilesRun.{files_run}
use Rattle.fp_gather.specs.gathering.Walks.{WalksFiles, WalksNamed}
use Rattle.fp_gather.proofs.WalkSteps.{each_stops_on, each_goes_on, files_begin, files_end, handed_on, memory_refused, mapped_next, mapped_split}
use Rattle.fp_gather.proofs.gathering.walking.walk_files.Goals as goal

pub loop-name-init : goal.loop-name-init
loop-name-init g c = (refl, λ before k. files_begin g.F.Files.told g.F.Files.faults g.F.Files.misses c.args.files.now string_bytes c.args.names.now before c.args.progress.now c.new-units.result c.new-units.ensures k)

pub returns-in_err-unit-clause-told : goal.returns-in_err-unit-clause-told
returns-in_err-unit-clause-told g c = c.in_err-unit.ensures.told ∙ c.loop-name.invariant.0

pub returns-in_err-unit-clause-comes : goal.returns-in_err-unit-clause-comes
returns-in_err-unit-clause-comes g c = λ before k.
    handed_on (files_run g.F.Files.told g.F.Files.faults g.F.Files.misses c.args.files.now c.walk_named.new.files) (λ u. WalksFiles u (map string_bytes c.args.names.now)) before c.walk_named.new.progress c.from_residual.result c.in_err-unit.field-0.0 c.from_residual.ensures.1
    (each_stops_on g.F.Files.told g.F.Files.faults g.F.Files.misses c.args.files.now c.loop-name.files c.walk_named.new.files (λ u. WalksNamed u)
    (map string_bytes (take c.loop-name.name-index c.args.names.now)) (map string_bytes c.args.names.now) c.as_str.result.now (map string_bytes (drop (c.loop-name.name-index + 1) c.args.names.now))
    before c.loop-name.progress c.walk_named.new.progress c.walk_named.new.progress c.loop-name.units c.in_err-unit.field-0.0
    (mapped_split string_bytes c.args.names.now c.loop-name.name-index c.name-item.result c.loop-name-test.true c.name-item.is
    ∙ ap (λ (b : List ℕ). map string_bytes (take c.loop-name.name-index c.args.names.now) ++ b ∷ map string_bytes (drop (c.loop-name.name-index + 1) c.args.names.now)) (sym c.as_str.ensures.value)) c.loop-name.invariant.0 (c.loop-name.invariant.1 before k)
    c.in_err-unit.ensures.comes)

pub returns-in_err-push-clause-told : goal.returns-in_err-push-clause-told
returns-in_err-push-clause-told g c = c.in_ok-unit.ensures.told ∙ c.loop-name.invariant.0

pub returns-in_err-push-clause-comes : goal.returns-in_err-push-clause-comes
returns-in_err-push-clause-comes g c = λ before k.
    memory_refused (files_run g.F.Files.told g.F.Files.faults g.F.Files.misses c.args.files.now c.walk_named.new.files) (λ u. WalksFiles u (map string_bytes c.args.names.now)) before c.walk_named.new.progress c.from_residual-in_err-push.result c.from_residual-in_err-push.ensures.1

pub loop-name-preserved : goal.loop-name-preserved
loop-name-preserved g c = (
  c.in_ok-unit.ensures.told ∙ c.loop-name.invariant.0,
  λ before k.
      each_goes_on g.F.Files.told g.F.Files.faults g.F.Files.misses c.args.files.now c.loop-name.files c.walk_named.new.files (λ u. WalksNamed u)
      (map string_bytes (take c.loop-name.name-index c.args.names.now)) (map string_bytes (take (c.loop-name.name-index + 1) c.args.names.now)) c.as_str.result.now
      before c.loop-name.progress c.walk_named.new.progress c.loop-name.units c.push.new.self c.in_ok-unit.unit
      (mapped_next string_bytes c.args.names.now c.loop-name.name-index c.name-item.result c.loop-name-test.true c.name-item.is
      ∙ ap (λ (b : List ℕ). map string_bytes (take c.loop-name.name-index c.args.names.now) ++ b ∷ []) (sym c.as_str.ensures.value)) c.in_ok-push.ensures.ok c.loop-name.invariant.0 (c.loop-name.invariant.1 before k)
      c.in_ok-unit.ensures.comes,
)

pub returns-clause-told : goal.returns-clause-told
returns-clause-told g c = c.loop-name.invariant.0

pub returns-clause-comes : goal.returns-clause-comes
returns-clause-comes g c = λ before k. files_end g.F.Files.told g.F.Files.faults g.F.Files.misses c.args.files.now c.loop-name.files string_bytes c.args.names.now c.loop-name.name-index before c.loop-name.progress c.loop-name.units
    (omega (arith, c.loop-name-test.false)) (c.loop-name.invariant.1 before k)
