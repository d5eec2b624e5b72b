use Rattle.std.proofs.Common.{ℕ, ◌+◌, ◌-◌, List, ◌∷◌, take, drop, refl, inl, ap, ◌∙◌, arith}
use Rattle.std.proofs.lemmas.Bool.{MatchBool-at_true, MatchBool-at_false}
use Rattle.fp_base.proofs.Lists.{taken_next}
use Rattle.fp_gather.specs.FilesRun.{files_run}
use Rattle.fp_gather.specs.gathering.Walks.{WalksEach, Reads, WalksFile, WalksInclude}
use Rattle.fp_gather.proofs.WalkSteps.{comes_as, each_begins, each_ends, each_goes_on, each_stops_on, file_goes, file_stops_later, handed_on, include_at_end, include_bad, include_read, memory_refused, refused_comes, split_there, stops_first}
use Rattle.fp_gather.proofs.gathering.walking.+walk.Goals as goal

pub walk_file-returns-in_err-own-clause-told : goal.walk_file-returns-in_err-own-clause-told
walk_file-returns-in_err-own-clause-told g t c = c.in_err-own.ensures.told

pub walk_file-returns-in_err-own-clause-comes : goal.walk_file-returns-in_err-own-clause-comes
walk_file-returns-in_err-own-clause-comes g t c = λ before k.
    handed_on (files_run g.F.Files.told g.F.Files.faults g.F.Files.misses c.args.files.now c.read_file.new.files) (λ u. WalksFile u (WalksInclude u c.args.levels) c.args.round.now c.args.inside c.args.name.now) before c.read_file.new.progress c.from_residual.result c.in_err-own.field-0.0 c.from_residual.ensures.1
    (stops_first g.F.Files.told g.F.Files.faults g.F.Files.misses c.args.files.now c.read_file.new.files (λ u. Reads u c.args.round.now c.args.inside c.args.name.now) (λ u. WalksFile u (WalksInclude u c.args.levels) c.args.round.now c.args.inside c.args.name.now) before c.read_file.new.progress c.read_file.new.progress c.in_err-own.field-0.0 (λ s h. inl h) (c.in_err-own.ensures.comes before k))

pub walk_file-returns-in_err-includes-clause-told : goal.walk_file-returns-in_err-includes-clause-told
walk_file-returns-in_err-includes-clause-told g t c = c.in_ok-own.ensures.told

pub walk_file-returns-in_err-includes-clause-comes : goal.walk_file-returns-in_err-includes-clause-comes
walk_file-returns-in_err-includes-clause-comes g t c = λ before k.
    memory_refused (files_run g.F.Files.told g.F.Files.faults g.F.Files.misses c.args.files.now c.read_file.new.files) (λ u. WalksFile u (WalksInclude u c.args.levels) c.args.round.now c.args.inside c.args.name.now) before c.read_file.new.progress c.from_residual-in_err-includes.result c.from_residual-in_err-includes.ensures.1

pub walk_file-returns-in_err-inner-clause-told : goal.walk_file-returns-in_err-inner-clause-told
walk_file-returns-in_err-inner-clause-told g t c = c.in_ok-own.ensures.told

pub walk_file-returns-in_err-inner-clause-comes : goal.walk_file-returns-in_err-inner-clause-comes
walk_file-returns-in_err-inner-clause-comes g t c = λ before k.
    memory_refused (files_run g.F.Files.told g.F.Files.faults g.F.Files.misses c.args.files.now c.read_file.new.files) (λ u. WalksFile u (WalksInclude u c.args.levels) c.args.round.now c.args.inside c.args.name.now) before c.read_file.new.progress c.from_residual-in_err-inner.result c.from_residual-in_err-inner.ensures.1

pub walk_file-returns-in_err-inserts-clause-told : goal.walk_file-returns-in_err-inserts-clause-told
walk_file-returns-in_err-inserts-clause-told g t c = c.in_err-inserts.ensures.told ∙ c.in_ok-own.ensures.told

pub walk_file-returns-in_err-inserts-clause-comes : goal.walk_file-returns-in_err-inserts-clause-comes
walk_file-returns-in_err-inserts-clause-comes g t c = λ before k.
    handed_on (files_run g.F.Files.told g.F.Files.faults g.F.Files.misses c.args.files.now c.walk_includes.new.files) (λ u. WalksFile u (WalksInclude u c.args.levels) c.args.round.now c.args.inside c.args.name.now) before c.walk_includes.new.progress c.from_residual-in_err-inserts.result c.in_err-inserts.field-0.0 c.from_residual-in_err-inserts.ensures.1
    (file_stops_later g.F.Files.told g.F.Files.faults g.F.Files.misses c.args.files.now c.read_file.new.files c.walk_includes.new.files (λ u. WalksInclude u c.args.levels) c.args.round.now c.in_ok-inner.inner c.args.inside c.args.name.now c.in_ok-own.own c.as_slice-2.result.now before c.read_file.new.progress c.walk_includes.new.progress c.walk_includes.new.progress c.in_err-inserts.field-0.0
    (c.in_ok-inner.ensures ∙ ap (λ (l : List (List ℕ)). c.args.name.now ∷ l) c.as_slice.ensures) (c.as_slice-2.ensures ∙ c.in_ok-includes.ensures) c.in_ok-own.ensures.told (c.in_ok-own.ensures.comes before k) c.in_err-inserts.ensures.comes)

pub walk_file-returns-in_err-replace-clause-told : goal.walk_file-returns-in_err-replace-clause-told
walk_file-returns-in_err-replace-clause-told g t c = c.in_ok-inserts.ensures.told ∙ c.in_ok-own.ensures.told

pub walk_file-returns-in_err-replace-clause-comes : goal.walk_file-returns-in_err-replace-clause-comes
walk_file-returns-in_err-replace-clause-comes g t c = λ before k.
    memory_refused (files_run g.F.Files.told g.F.Files.faults g.F.Files.misses c.args.files.now c.walk_includes.new.files) (λ u. WalksFile u (WalksInclude u c.args.levels) c.args.round.now c.args.inside c.args.name.now) before c.walk_includes.new.progress c.from_residual-in_err-replace.result c.from_residual-in_err-replace.ensures.1

pub walk_file-returns-clause-told : goal.walk_file-returns-clause-told
walk_file-returns-clause-told g t c = c.in_ok-inserts.ensures.told ∙ c.in_ok-own.ensures.told

pub walk_file-returns-clause-comes : goal.walk_file-returns-clause-comes
walk_file-returns-clause-comes g t c = λ before k.
    file_goes g.F.Files.told g.F.Files.faults g.F.Files.misses c.args.files.now c.read_file.new.files c.walk_includes.new.files (λ u. WalksInclude u c.args.levels) c.args.round.now c.in_ok-inner.inner c.args.inside c.args.name.now c.in_ok-own.own c.as_slice-2.result.now c.in_ok-inserts.inserts c.in_ok-replace.field-0 before c.read_file.new.progress c.walk_includes.new.progress
    (c.in_ok-inner.ensures ∙ ap (λ (l : List (List ℕ)). c.args.name.now ∷ l) c.as_slice.ensures) (c.as_slice-2.ensures ∙ c.in_ok-includes.ensures) c.in_ok-replace.ensures c.in_ok-own.ensures.told (c.in_ok-own.ensures.comes before k) c.in_ok-inserts.ensures.comes

pub walk_includes-loop-include-init : goal.walk_includes-loop-include-init
walk_includes-loop-include-init g t c = (refl, λ before k. each_begins g.F.Files.told g.F.Files.faults g.F.Files.misses c.args.files.now (λ u. WalksInclude u c.args.levels c.args.round.now) c.args.includes.now before c.args.progress.now c.new-inserts.result c.new-inserts.ensures k)

pub walk_includes-returns-in_err-insert-clause-told : goal.walk_includes-returns-in_err-insert-clause-told
walk_includes-returns-in_err-insert-clause-told g t c = c.in_err-insert.ensures.told ∙ c.loop-include.invariant.0

pub walk_includes-returns-in_err-insert-clause-comes : goal.walk_includes-returns-in_err-insert-clause-comes
walk_includes-returns-in_err-insert-clause-comes g t c = λ before k.
    handed_on (files_run g.F.Files.told g.F.Files.faults g.F.Files.misses c.args.files.now c.walk_include.new.files) (λ u. WalksEach (WalksInclude u c.args.levels c.args.round.now) c.args.includes.now) before c.walk_include.new.progress c.from_residual.result c.in_err-insert.field-0.0 c.from_residual.ensures.1
    (each_stops_on g.F.Files.told g.F.Files.faults g.F.Files.misses c.args.files.now c.loop-include.files c.walk_include.new.files (λ u. WalksInclude u c.args.levels c.args.round.now) (take c.loop-include.include-index c.args.includes.now) c.args.includes.now c.include-item.result (drop (c.loop-include.include-index + 1) c.args.includes.now) before c.loop-include.progress c.walk_include.new.progress c.walk_include.new.progress c.loop-include.inserts c.in_err-insert.field-0.0
    (split_there c.args.includes.now c.loop-include.include-index c.include-item.result c.loop-include-test.true c.include-item.is) c.loop-include.invariant.0 (c.loop-include.invariant.1 before k) c.in_err-insert.ensures.comes)

pub walk_includes-returns-in_err-push-clause-told : goal.walk_includes-returns-in_err-push-clause-told
walk_includes-returns-in_err-push-clause-told g t c = c.in_ok-insert.ensures.told ∙ c.loop-include.invariant.0

pub walk_includes-returns-in_err-push-clause-comes : goal.walk_includes-returns-in_err-push-clause-comes
walk_includes-returns-in_err-push-clause-comes g t c = λ before k.
    memory_refused (files_run g.F.Files.told g.F.Files.faults g.F.Files.misses c.args.files.now c.walk_include.new.files) (λ u. WalksEach (WalksInclude u c.args.levels c.args.round.now) c.args.includes.now) before c.walk_include.new.progress c.from_residual-in_err-push.result c.from_residual-in_err-push.ensures.1

pub walk_includes-loop-include-preserved : goal.walk_includes-loop-include-preserved
walk_includes-loop-include-preserved g t c = (
  c.in_ok-insert.ensures.told ∙ c.loop-include.invariant.0,
  λ before k.
      each_goes_on g.F.Files.told g.F.Files.faults g.F.Files.misses c.args.files.now c.loop-include.files c.walk_include.new.files (λ u. WalksInclude u c.args.levels c.args.round.now) (take c.loop-include.include-index c.args.includes.now) (take (c.loop-include.include-index + 1) c.args.includes.now) c.include-item.result before c.loop-include.progress c.walk_include.new.progress c.loop-include.inserts c.push.new.self c.in_ok-insert.insert
      (taken_next c.args.includes.now c.loop-include.include-index c.include-item.result c.loop-include-test.true c.include-item.is) c.in_ok-push.ensures.ok c.loop-include.invariant.0 (c.loop-include.invariant.1 before k) c.in_ok-insert.ensures.comes,
)

pub walk_includes-returns-clause-told : goal.walk_includes-returns-clause-told
walk_includes-returns-clause-told g t c = c.loop-include.invariant.0

pub walk_includes-returns-clause-comes : goal.walk_includes-returns-clause-comes
walk_includes-returns-clause-comes g t c = λ before k.
    each_ends g.F.Files.told g.F.Files.faults g.F.Files.misses c.args.files.now c.loop-include.files (λ u. WalksInclude u c.args.levels c.args.round.now) c.args.includes.now c.loop-include.include-index before c.loop-include.progress c.loop-include.inserts (omega (arith, c.loop-include-test.false)) (c.loop-include.invariant.1 before k)

pub walk_include-returns-in_err-name-clause-told : goal.walk_include-returns-in_err-name-clause-told
walk_include-returns-in_err-name-clause-told g t c = refl

pub walk_include-returns-in_err-name-clause-comes : goal.walk_include-returns-in_err-name-clause-comes
walk_include-returns-in_err-name-clause-comes g t c = λ before k.
    memory_refused (files_run g.F.Files.told g.F.Files.faults g.F.Files.misses c.args.files.now c.args.files.now) (λ u. WalksInclude u c.args.levels c.args.round.now c.args.include.now) before c.args.progress.now c.from_residual.result c.from_residual.ensures.1

pub walk_include-returns-then-levels-eq0-clause-told : goal.walk_include-returns-then-levels-eq0-clause-told
walk_include-returns-then-levels-eq0-clause-told g t c = refl

pub walk_include-returns-then-levels-eq0-clause-comes : goal.walk_include-returns-then-levels-eq0-clause-comes
walk_include-returns-then-levels-eq0-clause-comes g t c = λ before k.
    refused_comes (files_run g.F.Files.told g.F.Files.faults g.F.Files.misses c.args.files.now c.args.files.now) (λ u. WalksInclude u c.args.levels c.args.round.now c.args.include.now) c.args.include.now before c.refuse.new.progress c.nothing_in.result refl refl c.nothing_in.ensures (c.refuse.ensures before k)
    (λ o r. include_at_end (g.F.Files.told c.args.files.now) c.args.levels c.args.round.now c.args.include.now before o c.if-levels-eq0.true r)

pub walk_include-returns-then-is_bad-clause-told : goal.walk_include-returns-then-is_bad-clause-told
walk_include-returns-then-is_bad-clause-told g t c = refl

pub walk_include-returns-then-is_bad-clause-comes : goal.walk_include-returns-then-is_bad-clause-comes
walk_include-returns-then-is_bad-clause-comes g t c = λ before k.
    refused_comes (files_run g.F.Files.told g.F.Files.faults g.F.Files.misses c.args.files.now c.args.files.now) (λ u. WalksInclude u c.args.levels c.args.round.now c.args.include.now) c.args.include.now before c.refuse-then-is_bad.new.progress c.nothing_in-then-is_bad.result refl refl c.nothing_in-then-is_bad.ensures (c.refuse-then-is_bad.ensures before k)
    (λ o r. include_bad (g.F.Files.told c.args.files.now) c.args.levels c.args.round.now c.args.include.now c.in_ok-name.name before o c.in_ok-name.ensures (MatchBool-at_true _ _ c.if-is_bad.true (c.is_bad.ensures before k)) r)

pub walk_include-returns-clause-told : goal.walk_include-returns-clause-told
walk_include-returns-clause-told g t c = c.walk_file.ensures.told

pub walk_include-returns-clause-comes : goal.walk_include-returns-clause-comes
walk_include-returns-clause-comes g t c = λ before k.
    comes_as (files_run g.F.Files.told g.F.Files.faults g.F.Files.misses c.args.files.now c.walk_file.new.files) (λ u. WalksFile u (WalksInclude u (c.args.levels - 1)) c.args.round.now c.args.include.now.inside c.in_ok-name.name) (λ u. WalksInclude u c.args.levels c.args.round.now c.args.include.now) before c.walk_file.new.progress c.walk_file.result
    (λ o w. include_read (g.F.Files.told c.args.files.now) c.args.levels c.args.round.now c.args.include.now c.in_ok-name.name before o c.if-levels-eq0.false c.in_ok-name.ensures (MatchBool-at_false _ _ c.if-is_bad.false (c.is_bad.ensures before k)) w)
    (c.walk_file.ensures.comes before k)
