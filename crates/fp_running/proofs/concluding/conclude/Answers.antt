use Rattle.std.proofs.Common.{List, subst}
use mathlib.Core.List.{IsPrefix}
use Rattle.fp_base.proofs.Options.{if_ok_then}
use Rattle.fp_events.specs.declared.event.Entry.{Entry}
use Rattle.fp_events.specs.Run.{at, by}
use Rattle.fp_running.proofs.concluding.conclude.Goals as goal

pub returns-clause-histories : goal.returns-clause-histories
returns-clause-histories c =
    if_ok_then c.go_to_the_end.result _ _
    (λ r begins i. subst (λ (es : List Entry). IsPrefix es (at i r.0)) (c.in_ok-entries.ensures.histories i) (begins i))
    c.go_to_the_end.ensures.histories

pub returns-clause-traces : goal.returns-clause-traces
returns-clause-traces c =
    if_ok_then c.go_to_the_end.result _ _
    (λ r begins a. subst (λ (es : List Entry). IsPrefix es (by a r.0)) (c.in_ok-entries.ensures.traces a) (begins a))
    c.go_to_the_end.ensures.traces
