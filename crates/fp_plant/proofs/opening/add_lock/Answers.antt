use Rattle.std.proofs.Common.{sym, ap, ◌∙◌}
use Rattle.fp_gate.specs.Locks.{id_of, IsPass, IsIdle, IsNew}
use Rattle.fp_plant.specs.Noted.{NotedCell, cell_name}
use Rattle.fp_plant.specs.Opened.{IsNewPass}
use Rattle.fp_plant.proofs.Beginning.{new_pass}
use Rattle.fp_plant.proofs.Dealing.{at_get, gets_of}
use Rattle.fp_plant.proofs.opening.add_lock.Goals as goal

pub returns-clause-dealt : goal.returns-clause-dealt
returns-clause-dealt c =
    gets_of (IsNewPass c.args.tables.now c.args.program.now (id_of c.in_ok-lock.lock) c.args.instance) c.args.rows.now.items c.in_ok-lock.column c.deal.new.rows.items
    (c.in_ok-lock.ensures.seats.1 ∙ sym c.requires.rows) c.in_ok-deal.ensures
    (λ a x at. new_pass c.args.tables.now c.args.program.now (id_of c.in_ok-lock.lock) c.args.instance c.args.count a (cell_name c.in_ok-held.held.cell.seat) x c.requires.actors.1
    (ap (λ (h : NotedCell). cell_name h.cell.seat) c.in_ok-held.ensures)
    (at_get (λ b p. IsPass (id_of c.in_ok-lock.lock) c.args.count b p × IsIdle p × IsNew (cell_name c.in_ok-held.held.cell.seat) p) c.in_ok-lock.column a x c.in_ok-lock.ensures.passes at))
