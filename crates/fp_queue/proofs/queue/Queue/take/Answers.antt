use Rattle.std.proofs.Common.{◌++◌, ap, sym, ◌∙◌}
use Rattle.std.specs.Option.{option_map, option_to_list}
use Rattle.std.proofs.lemmas.Bool.{eqb-true, eqb-false}
use Rattle.fp_queue.specs.Taking.{taken_of}
use Rattle.fp_queue.proofs.ReadyLemmas.{nothing_seen, something_seen, nothing_waits, rest_of_none, taken_item, take_more, take_last}
use Rattle.fp_queue.proofs.queue.Queue.take.Goals as goal

pub returns-in_default-clause-item : goal.returns-in_default-clause-item
returns-in_default-clause-item g c =
    sym (ap (λ ps. option_map (λ p. p.item) (taken_of ps)) (nothing_waits _ _ _ _ _ _ _ c.self.invariant (nothing_seen _ _ c.in_default.is c.peek.ensures.variant)))
    ∙ ap (λ q. option_map (λ p. p.item) (taken_of q.pending)) c.self.view_is

pub returns-in_default-clause-rest : goal.returns-in_default-clause-rest
returns-in_default-clause-rest g c =
    rest_of_none c.args.self.now (sym (ap (λ q. q.pending) c.self.view_is) ∙ nothing_waits _ _ _ _ _ _ _ c.self.invariant (nothing_seen _ _ c.in_default.is c.peek.ensures.variant))

pub invariant_of-self : goal.invariant_of-self
invariant_of-self g c =
    take_last _ _ _ _ _ _ _ c.self.invariant c.in-Some.field-0.now (something_seen _ _ _ c.in-Some.is c.peek.ensures.variant) c.in-Some.ensures.lookup
    c.in-Some.ensures.greatest c.index_mut-lane.result.now c.index_mut-lane.ensures.value _ _ _ c.pop.result
    c.pop_front.ensures.rest c.pop_front.ensures.capacity (ap (λ l. l.pending) c.of.ensures ∙ c.without_taken.ensures)
    (eqb-true _ _ (sym c.is_empty.ensures ∙ c.if-is_empty.true))
    c.pop.ensures.variant c.pop.ensures.top c.pop.ensures.permutation c.pop.ensures.heap_order c.pop.ensures.capacity

pub invariant_of-self-else-is_empty : goal.invariant_of-self-else-is_empty
invariant_of-self-else-is_empty g c =
    take_more _ _ _ _ _ _ _ c.self.invariant c.in-Some.field-0.now (something_seen _ _ _ c.in-Some.is c.peek.ensures.variant) c.in-Some.ensures.lookup
    c.in-Some.ensures.greatest c.index_mut-lane.result.now c.index_mut-lane.ensures.value _ _
    c.pop_front.ensures.rest c.pop_front.ensures.capacity (ap (λ l. l.pending) c.of.ensures ∙ c.without_taken.ensures)
    (eqb-false _ _ (sym c.is_empty.ensures ∙ c.if-is_empty.false))

pub returns-clause-item : goal.returns-clause-item
returns-clause-item g c =
    sym (taken_item _ _ _ _ _ _ _ c.self.invariant c.in-Some.field-0.now (something_seen _ _ _ c.in-Some.is c.peek.ensures.variant) c.in-Some.ensures.lookup
    c.in-Some.ensures.greatest c.index_mut-lane.result.now c.index_mut-lane.ensures.value c.unwrap-item.result _
    (c.pop_front.ensures.items ∙ ap (λ r. option_to_list r ++ c.pop_front.new.self.items) c.unwrap-item.ensures))
    ∙ ap (λ q. option_map (λ p. p.item) (taken_of q.pending)) c.self.view_is
