use Rattle.std.proofs.Common.{rules, arith, ◌≡◌, ℕ, ◌+◌, [], ◌∷◌, ◌++◌, map, length, ap, sym, ◌∙◌, subst, length-append, append_assoc, Some}
use Rattle.fp_gate.specs.declared.lock.Pass.{Pass}
use Rattle.fp_gate.specs.Steps.{own}
use Rattle.fp_gate.specs.Passes.{EachAt, IsPass, IsIdle, Closes}
use Rattle.fp_gate.proofs.Ends.{joins}
use Rattle.fp_gate.proofs.Passes.{AllFrom, AllFrom-at, alone_is, joined_is, made_later, at_end, same_slot, all_of, each_of}
use Rattle.fp_gate.proofs.lock.TicketLock.close.Goals as goal

pub loop-seat-init : goal.loop-seat-init
loop-seat-init g c =
    let p = c.in-Some.field-0 in let id = c.args.self.board.shared.table_id in
    let P : ℕ → Pass g.row.T.Denot g.row.T-Name.Denot g.row.T-Item.Denot g.T.Booked → Type 0 = λ i q. IsPass id c.args.self.seats i q.seat × IsIdle q.seat in
    let all : c.args.passes ≡ c.pop.new.self ++ p ∷ [] = search rules in
    let given = AllFrom-at P 0 c.pop.new.self p [] (subst (AllFrom P 0) all (all_of P c.args.passes c.requires.passes)) in
    (p, [], all, given.0.0, alone_is p.seat.me p.alone given.1.2)

pub join_seat-requires : goal.join_seat-requires
join_seat-requires g c =
    let inv = c.loop-seat.invariant in let p = inv.0 in let q = c.in-Some-pop.field-0 in let id = c.args.self.board.shared.table_id in let old = c.loop-seat.passes in
    let P : ℕ → Pass g.row.T.Denot g.row.T-Name.Denot g.row.T-Item.Denot g.T.Booked → Type 0 = λ i q. IsPass id c.args.self.seats i q.seat × IsIdle q.seat in
    let all = subst (AllFrom P 0) inv.2 (all_of P c.args.passes c.requires.passes) in
    let given = AllFrom-at P 0 old p inv.1 all in
    let popped : old ≡ c.pop-in-loop-seat.new.self ++ q ∷ [] = search rules in
    let long : length old ≡ length c.pop-in-loop-seat.new.self + 1 = ap length popped ∙ length-append c.pop-in-loop-seat.new.self (q ∷ []) in
    let mine = AllFrom-at P 0 c.pop-in-loop-seat.new.self q (p ∷ inv.1) (subst (AllFrom P 0) (ap (λ z. z ++ p ∷ inv.1) popped ∙ append_assoc c.pop-in-loop-seat.new.self (q ∷ []) (p ∷ inv.1)) all) in (
      mine.0.0,
      inv.3,
      ap (λ m. m.1) inv.4,
      search rules,
      joins g.T.Booked.name g.T.Booked.history _ _ _ q.seat.me.0 c.loop-seat.all.me.0 q.live (λ e. p.live (sym (ap (λ m. m.0.name) inv.4) ∙ e))
          (ap (λ m. m.0.made) inv.4 ∙ (given.0.2 ∙ made_later c.args.self.seats (0 + length old) (omega (arith, long)))) (ap (λ m. m.0.ticket) inv.4 ∙ given.1.0) (ap (λ m. m.0.in_turn) inv.4 ∙ given.1.1),
    )

pub loop-seat-preserved : goal.loop-seat-preserved
loop-seat-preserved g c =
    let inv = c.loop-seat.invariant in let p = inv.0 in let q = c.in-Some-pop.field-0 in let id = c.args.self.board.shared.table_id in let old = c.loop-seat.passes in
    let P : ℕ → Pass g.row.T.Denot g.row.T-Name.Denot g.row.T-Item.Denot g.T.Booked → Type 0 = λ i q. IsPass id c.args.self.seats i q.seat × IsIdle q.seat in
    let popped : old ≡ c.pop-in-loop-seat.new.self ++ q ∷ [] = search rules in
    let all = inv.2 ∙ (ap (λ z. z ++ p ∷ inv.1) popped ∙ append_assoc c.pop-in-loop-seat.new.self (q ∷ []) (p ∷ inv.1)) in
    let mine = AllFrom-at P 0 c.pop-in-loop-seat.new.self q (p ∷ inv.1) (subst (AllFrom P 0) all (all_of P c.args.passes c.requires.passes)) in
    (q, p ∷ inv.1, all, c.join_seat.ensures.0 ∙ mine.0.0, c.join_seat.ensures.2 ∙ joined_is q.seat.me c.loop-seat.all.me p.seat.me.0 (map (λ q. own q.seat.me.0) inv.1) q.alone mine.1.2 inv.4)

pub unwrap-requires : goal.unwrap-requires
unwrap-requires g c =
    let inv = c.loop-seat.invariant in let p = inv.0 in let id = c.args.self.board.shared.table_id in
    let P : ℕ → Pass g.row.T.Denot g.row.T-Name.Denot g.row.T-Item.Denot g.T.Booked → Type 0 = λ i q. IsPass id c.args.self.seats i q.seat × IsIdle q.seat in
    let empty : c.loop-seat.passes ≡ [] = search rules in
    let all : c.args.passes ≡ p ∷ inv.1 = inv.2 ∙ ap (λ z. z ++ p ∷ inv.1) empty in
    let end = at_end (λ (q : Pass g.row.T.Denot g.row.T-Name.Denot g.row.T-Item.Denot g.T.Booked). q.seat) g.T.Booked.name g.T.Booked.history (g.T.Booked.name c.args.self.board.shared.key.value) c.loop-seat.all.id id c.args.self.seats c.loop-seat.all.me p inv.1 _ _
    (subst (AllFrom P 0) all (all_of P c.args.passes c.requires.passes)) (ap length (sym all) ∙ c.requires.seats) c.args.self.some_seat p.live inv.4 c.close_with-closed.ensures.values.2 in
    let same : c.take-slot.result ≡ Some end.0 = same_slot _ 0 _ _ c.take-slot.ensures.value end.1 in
    search rules

pub returns-clause-value : goal.returns-clause-value
returns-clause-value g c =
    let inv = c.loop-seat.invariant in let p = inv.0 in let id = c.args.self.board.shared.table_id in
    let P : ℕ → Pass g.row.T.Denot g.row.T-Name.Denot g.row.T-Item.Denot g.T.Booked → Type 0 = λ i q. IsPass id c.args.self.seats i q.seat × IsIdle q.seat in
    let empty : c.loop-seat.passes ≡ [] = search rules in
    let all : c.args.passes ≡ p ∷ inv.1 = inv.2 ∙ ap (λ z. z ++ p ∷ inv.1) empty in
    let end = at_end (λ (q : Pass g.row.T.Denot g.row.T-Name.Denot g.row.T-Item.Denot g.T.Booked). q.seat) g.T.Booked.name g.T.Booked.history (g.T.Booked.name c.args.self.board.shared.key.value) c.loop-seat.all.id id c.args.self.seats c.loop-seat.all.me p inv.1 _ _
    (subst (AllFrom P 0) all (all_of P c.args.passes c.requires.passes)) (ap length (sym all) ∙ c.requires.seats) c.args.self.some_seat p.live inv.4 c.close_with-closed.ensures.values.2 in
    let same : c.take-slot.result ≡ Some end.0 = same_slot _ 0 _ _ c.take-slot.ensures.value end.1 in
    let value : end.0 ≡ c.unwrap.result = search rules in
    let Q : ℕ → Pass g.row.T.Denot g.row.T-Name.Denot g.row.T-Item.Denot g.T.Booked → Type 0 = λ i q. Closes g.T.Booked.name g.T.Booked.history end.0 i q.seat in
    subst (λ x. EachAt (λ i q. Closes g.T.Booked.name g.T.Booked.history x i q.seat) c.args.passes) value (each_of Q c.args.passes (subst (AllFrom Q 0) (sym all) end.2))
