use Rattle.std.proofs.Common.{rules, ◌≡◌, ◌<◌, ◌≤◌, ◌+◌, suc, max, None, true, refl, sym, subst, arith}
use Rattle.fp_events.specs.Fits.{actor_count}
use Rattle.fp_events.specs.Waits.{waits}
use Rattle.fp_events.specs.Fits.{ask_fits}
use Rattle.fp_cell.specs.Cells.{Standing}
use Rattle.fp_cell.specs.Kept.{standing}
use Rattle.fp_cell.specs.Replies.{IsAbove, IsStep}
use Rattle.fp_cell.specs.Stepping.{inside}
use Rattle.fp_cell.proofs.Answering.{above, kept, stepped}
use Rattle.fp_cell.proofs.cell.Cell.apply.Goals as goal

pub returns-then-from-newest-clause-answered : goal.returns-then-from-newest-clause-answered
returns-then-from-newest-clause-answered c =
    let few : c.args.actor < actor_count c.self.inside.setting.tables.now c.self.inside.setting.program.now =
    subst (λ (s : Standing). c.args.actor < actor_count s.seat.tables s.seat.program) (sym c.self.view_is) c.requires.actor in
    let can : ask_fits c.self.inside.setting.tables.now c.self.inside.setting.program.now c.self.inside.setting.instance c.args.ask.now ≡ true =
    subst (λ (s : Standing). ask_fits s.seat.tables s.seat.program s.seat.instance c.args.ask.now ≡ true) (sym c.self.view_is) c.requires.askable in
    let free : waits c.self.inside.setting.tables.now c.self.inside.setting.instance (inside c.self.inside.state) c.args.ask.now ≡ None = search rules in
    let limit : c.self.inside.setting.program.now.steps ≤ max c.self.inside.last c.args.seen = omega arith in
    (subst (λ (s : Standing). IsAbove s c.args.actor c.args.ask.now c.args.seen) c.self.view_is (above c.self.inside c.self.invariant c.args.actor c.args.seen c.args.ask.now few can free limit), refl)

pub invariant_of-self-2 : goal.invariant_of-self-2
invariant_of-self-2 c =
    let few : c.args.actor < actor_count c.self.inside.setting.tables.now c.self.inside.setting.program.now =
    subst (λ (s : Standing). c.args.actor < actor_count s.seat.tables s.seat.program) (sym c.self.view_is) c.requires.actor in
    let can : ask_fits c.self.inside.setting.tables.now c.self.inside.setting.program.now c.self.inside.setting.instance c.args.ask.now ≡ true =
    subst (λ (s : Standing). ask_fits s.seat.tables s.seat.program s.seat.instance c.args.ask.now ≡ true) (sym c.self.view_is) c.requires.askable in
    let on : c.max-newest.result + 1 ≡ suc (max c.self.inside.last c.args.seen) = omega arith in
    let within : c.max-newest.result + 1 ≤ c.self.inside.setting.program.now.steps = omega arith in
    kept c.self.inside c.self.invariant c.args.actor c.args.seen c.args.ask.now few can c.append.new.state (c.max-newest.result + 1) c.append.new.history c.in_ok-entry.entry
    c.in_ok-entry.ensures.entry c.in_ok-entry.ensures.step on c.in_ok-entry.ensures.history within c.append.ensures.queue

pub returns-clause-answered : goal.returns-clause-answered
returns-clause-answered c =
    let few : c.args.actor < actor_count c.self.inside.setting.tables.now c.self.inside.setting.program.now =
    subst (λ (s : Standing). c.args.actor < actor_count s.seat.tables s.seat.program) (sym c.self.view_is) c.requires.actor in
    let can : ask_fits c.self.inside.setting.tables.now c.self.inside.setting.program.now c.self.inside.setting.instance c.args.ask.now ≡ true =
    subst (λ (s : Standing). ask_fits s.seat.tables s.seat.program s.seat.instance c.args.ask.now ≡ true) (sym c.self.view_is) c.requires.askable in
    let on : c.max-newest.result + 1 ≡ suc (max c.self.inside.last c.args.seen) = omega arith in
    let within : c.max-newest.result + 1 ≤ c.self.inside.setting.program.now.steps = omega arith in
    let made : IsStep (standing c.self.inside) c.args.actor c.args.ask.now c.args.seen c.in_ok-entry.entry
    (standing (record c.self.inside { state = c.append.new.state; last = c.max-newest.result + 1; history = c.append.new.history })) =
    stepped c.self.inside c.self.invariant c.args.actor c.args.seen c.args.ask.now few can c.append.new.state (c.max-newest.result + 1) c.append.new.history c.in_ok-entry.entry
    c.in_ok-entry.ensures.entry c.in_ok-entry.ensures.step on c.in_ok-entry.ensures.history within c.append.ensures.queue in
    subst (λ (s : Standing). IsStep s c.args.actor c.args.ask.now c.args.seen c.in_ok-entry.entry
    (standing (record c.self.inside { state = c.append.new.state; last = c.max-newest.result + 1; history = c.append.new.history }))) c.self.view_is made
