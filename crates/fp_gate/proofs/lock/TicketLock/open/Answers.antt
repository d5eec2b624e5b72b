use Rattle.std.proofs.Common.{rules, arith, ◌≡◌, ℕ, ◌+◌, [], ◌∷◌, ◌++◌, length, ap, sym, ◌∙◌, subst, Some}
use Rattle.fp_gate.specs.declared.lock.Pass.{Pass}
use Rattle.fp_gate.specs.Views.{new_view}
use Rattle.fp_gate.specs.Steps.{made_one, newcomer}
use Rattle.fp_gate.specs.Passes.{IsPass, IsIdle, IsNew}
use Rattle.fp_gate.proofs.Passes.{AllFrom, AllFrom-snoc, AllFrom-map, new_pass, made_later, each_of}
use Rattle.fp_gate.proofs.lock.TicketLock.open.Goals as goal

pub loop-number-preserved : goal.loop-number-preserved
loop-number-preserved g c =
    let inv = c.loop-number.invariant in let n = g.T.Booked.name c.args.value in let items = c.loop-number.passes.items in
    let P : ℕ → Pass g.row.T.Denot g.row.T-Name.Denot g.row.T-Item.Denot g.T.Booked → Type 0 = λ i p. (p.seat.table_id ≡ c.in_ok-lock.lock.board.shared.table_id) × (p.seat.me ≡ (new_view (Some n) i 0, [])) in
    let pushed : c.push.new.self.items ≡ items ++ c.cut.result ∷ [] = search rules in
    let at : 1 + length items ≡ c.loop-number.number = omega (arith, inv.2) in (
      search rules,
      c.cut.ensures.first.1 ∙ ap (λ m. (made_one m.0, m.1)) inv.1,
      search rules,
      subst (AllFrom P 1) (sym pushed) (AllFrom-snoc P 1 items c.cut.result inv.3
          (search rules, c.cut.ensures.pass.1 ∙ (ap (λ m. (newcomer m.0, [])) inv.1 ∙ ap (λ (k : ℕ). (new_view (Some n) k 0, [])) (sym at)))),
    )

pub returns-clause-passes : goal.returns-clause-passes
returns-clause-passes g c =
    let inv = c.loop-number.invariant in let n = g.T.Booked.name c.args.value in let items = c.loop-number.passes.items in let id = c.in_ok-lock.lock.board.shared.table_id in
    let P : ℕ → Pass g.row.T.Denot g.row.T-Name.Denot g.row.T-Item.Denot g.T.Booked → Type 0 = λ i p. (p.seat.table_id ≡ id) × (p.seat.me ≡ (new_view (Some n) i 0, [])) in
    let Q : ℕ → Pass g.row.T.Denot g.row.T-Name.Denot g.row.T-Item.Denot g.T.Booked → Type 0 = λ i p. IsPass id c.args.seats i p.seat × IsIdle p.seat × IsNew n p.seat in
    let put : c.from_vec.result ≡ c.loop-number.first ∷ items = search rules in
    let all : c.loop-number.number ≡ c.args.seats = omega arith in
    each_of Q c.from_vec.result (subst (AllFrom Q 0) (sym put) (
      new_pass c.loop-number.first.seat n c.loop-number.number 0 c.args.seats id inv.0 inv.1 all,
      AllFrom-map P Q 1 items (λ i p le h. new_pass p.seat n 0 i c.args.seats id h.0 h.1 (sym (made_later c.args.seats i (omega arith)))) inv.3,
    ))
