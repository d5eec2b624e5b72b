use Rattle.std.proofs.Common.{◌≡◌, rules, sym, ◌∙◌, subst, List}
use Rattle.std.specs.List.Sorted.{IsSortedBy, IsStableBy}
use Rattle.std.proofs.lemmas.List.Sorted.{answers_always}
use Rattle.fp_events.specs.SystemRun.{joined}
use Rattle.fp_events.specs.declared.event.Entry.{Entry}
use Rattle.fp_events.specs.Run.{entry_lt}
use Rattle.fp_run_laws.proofs.records.in_order.Goals as goal

pub returns : goal.returns
returns c =
    let sorted : IsSortedBy entry_lt c.sort_by_cached_key.new.self.items =
    c.in_ok-sort_by_cached_key.ensures.sorted (λ e. (e.stamp, e.actor)) (answers_always _ _ _ (λ f a r g h. search rules)) in
    let stable : IsStableBy entry_lt c.into_vec-entries.result.items c.sort_by_cached_key.new.self.items =
    c.in_ok-sort_by_cached_key.ensures.stable (λ e. (e.stamp, e.actor)) (answers_always _ _ _ (λ f a r g h. search rules)) in
    let all : c.into_vec-entries.result.items ≡ joined c.args.histories = c.into_vec-entries.ensures ∙ c.in_ok-join.ensures in
    subst (λ (es : List Entry). IsSortedBy entry_lt es × IsStableBy entry_lt (joined c.args.histories) es) (sym c.from_vec.ensures)
    (sorted, subst (λ (es : List Entry). IsStableBy entry_lt es c.sort_by_cached_key.new.self.items) all stable)
