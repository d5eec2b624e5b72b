use Rattle.fp_running.proofs.Asking.{answers, above, within, met_step, step_of, not_yet, at_limit}
use Rattle.fp_running.proofs.meeting.meet.Goals as goal

pub accept-requires-clause-answers : goal.accept-requires-clause-answers
accept-requires-clause-answers c =
    let step =
    step_of c.args.tables.now c.args.program.now c.args.number c.args.instance c.args.ask.now c.args.actor.now c.reserve.new.self c.args.cell.now c.last-seen.result c.requires.actor c.requires.cell
    c.requires.due c.reserve.ensures.same c.last-seen.ensures c.in_ok-entry.field-0 c.apply.new.self c.in_ok-entry.ensures.answered c.in-Stepped.entry c.in-Stepped.is in
    answers c.args.tables.now c.args.program.now c.args.number c.args.instance c.args.ask.now c.args.actor.now c.reserve.new.self c.args.cell.now c.last-seen.result c.requires.actor c.requires.cell
    c.requires.due c.reserve.ensures.same c.last-seen.ensures c.in-Stepped.entry c.apply.new.self step c.answering.ensures.answers

pub accept-requires-clause-above : goal.accept-requires-clause-above
accept-requires-clause-above c =
    let step =
    step_of c.args.tables.now c.args.program.now c.args.number c.args.instance c.args.ask.now c.args.actor.now c.reserve.new.self c.args.cell.now c.last-seen.result c.requires.actor c.requires.cell
    c.requires.due c.reserve.ensures.same c.last-seen.ensures c.in_ok-entry.field-0 c.apply.new.self c.in_ok-entry.ensures.answered c.in-Stepped.entry c.in-Stepped.is in
    above c.args.tables.now c.args.program.now c.args.number c.args.instance c.args.ask.now c.args.actor.now c.reserve.new.self c.args.cell.now c.last-seen.result c.requires.actor c.requires.cell
    c.requires.due c.reserve.ensures.same c.last-seen.ensures c.in-Stepped.entry c.apply.new.self step c.answering.ensures.above

pub accept-requires-clause-within : goal.accept-requires-clause-within
accept-requires-clause-within c =
    let step =
    step_of c.args.tables.now c.args.program.now c.args.number c.args.instance c.args.ask.now c.args.actor.now c.reserve.new.self c.args.cell.now c.last-seen.result c.requires.actor c.requires.cell
    c.requires.due c.reserve.ensures.same c.last-seen.ensures c.in_ok-entry.field-0 c.apply.new.self c.in_ok-entry.ensures.answered c.in-Stepped.entry c.in-Stepped.is in
    within c.args.tables.now c.args.program.now c.args.number c.args.instance c.args.ask.now c.args.actor.now c.reserve.new.self c.args.cell.now c.last-seen.result c.requires.actor c.requires.cell
    c.requires.due c.reserve.ensures.same c.last-seen.ensures c.in-Stepped.entry c.apply.new.self step

pub returns-in-Stepped-clause-met : goal.returns-in-Stepped-clause-met
returns-in-Stepped-clause-met c =
    let step =
    step_of c.args.tables.now c.args.program.now c.args.number c.args.instance c.args.ask.now c.args.actor.now c.reserve.new.self c.args.cell.now c.last-seen.result c.requires.actor c.requires.cell
    c.requires.due c.reserve.ensures.same c.last-seen.ensures c.in_ok-entry.field-0 c.apply.new.self c.in_ok-entry.ensures.answered c.in-Stepped.entry c.in-Stepped.is in
    met_step c.args.tables.now c.args.program.now c.args.number c.args.instance c.args.ask.now c.args.actor.now c.reserve.new.self c.args.cell.now c.last-seen.result c.requires.actor c.requires.cell
    c.requires.due c.reserve.ensures.same c.last-seen.ensures c.in-Stepped.entry c.apply.new.self step c.accept.new.self c.args.done.now c.add.new.self c.accept.ensures.state c.accept.ensures.trace
    c.accept.ensures.same c.add.ensures

pub returns-in-NotYet-clause-met : goal.returns-in-NotYet-clause-met
returns-in-NotYet-clause-met c =
    not_yet c.args.tables.now c.args.program.now c.args.number c.args.instance c.args.ask.now c.args.actor.now c.reserve.new.self c.args.cell.now c.last-seen.result c.requires.actor c.requires.cell
    c.requires.due c.reserve.ensures.same c.last-seen.ensures c.in_ok-entry.field-0 c.apply.new.self c.in_ok-entry.ensures.answered c.in-NotYet.why c.args.done.now c.in-NotYet.is

pub returns-in-AtLimit-clause-met : goal.returns-in-AtLimit-clause-met
returns-in-AtLimit-clause-met c =
    at_limit c.args.tables.now c.args.program.now c.args.number c.args.instance c.args.ask.now c.args.actor.now c.reserve.new.self c.args.cell.now c.last-seen.result c.requires.actor c.requires.cell
    c.requires.due c.reserve.ensures.same c.last-seen.ensures c.in_ok-entry.field-0 c.apply.new.self c.in_ok-entry.ensures.answered c.args.done.now c.in-AtLimit.is
