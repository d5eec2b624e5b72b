use Rattle.std.proofs.Common.{refl}
use Rattle.fp_scenario_check.specs.Planned.{Planned, Breaks, IsWhole}
use Rattle.fp_scenario_check.proofs.Refusing.{too_large, refused, refused_by, refused_for_cycle}
use Rattle.fp_scenario_check.proofs.Stopping.{weaker}
use Rattle.fp_scenario_check.proofs.Whole.{whole}
use Rattle.fp_scenario_check.proofs.checking.check_scenario.Goals as goal

pub checked_callers-requires : goal.checked_callers-requires
checked_callers-requires c = c.requires.sound.0.lists.lists_are_short

pub checked_handlers-requires : goal.checked_handlers-requires
checked_handlers-requires c = c.requires.sound.0.lists.lists_are_short

pub checked_guards-requires : goal.checked_guards-requires
checked_guards-requires c = c.requires.sound.0.lists.lists_are_short

pub check_cycles-requires : goal.check_cycles-requires
check_cycles-requires c = c.requires.sound.0.lists.lists_are_short

pub returns-in_err-check_size-clause-broken : goal.returns-in_err-check_size-clause-broken
returns-in_err-check_size-clause-broken c =
    let t = c.args.tables.now in
    let s = c.args.scenario.now in
    refused_by t s _ _ c.from_residual.ensures.1 (refused t s _ (weaker _ (Breaks t s) _ (λ rule path h. too_large t s rule path h) c.in_err-check_size.ensures.broken))

pub returns-in_err-callers-clause-broken : goal.returns-in_err-callers-clause-broken
returns-in_err-callers-clause-broken c =
    refused_by c.args.tables.now c.args.scenario.now _ _ c.from_residual-in_err-callers.ensures.1 (refused c.args.tables.now c.args.scenario.now _ c.in_err-callers.ensures.broken)

pub returns-in_err-handled-clause-broken : goal.returns-in_err-handled-clause-broken
returns-in_err-handled-clause-broken c =
    refused_by c.args.tables.now c.args.scenario.now _ _ c.from_residual-in_err-handled.ensures.1 (refused c.args.tables.now c.args.scenario.now _ c.in_err-handled.ensures.broken)

pub returns-in_err-answers-clause-broken : goal.returns-in_err-answers-clause-broken
returns-in_err-answers-clause-broken c =
    refused_by c.args.tables.now c.args.scenario.now _ _ c.from_residual-in_err-answers.ensures.1 (refused c.args.tables.now c.args.scenario.now _ c.in_err-answers.ensures.broken)

pub returns-clause-whole : goal.returns-clause-whole
returns-clause-whole c rule path broken =
    let t = c.args.tables.now in
    let s = c.args.scenario.now in
    whole t s c.in_ok-callers.callers c.in_ok-handled.handled.handlers c.in_ok-answers.answers
    (record {
      small = c.in_ok-check_size.ensures.small;
      callers_planned = c.in_ok-callers.ensures.planned;
      callers_differ = c.in_ok-callers.ensures.differ;
      handlers_planned = c.in_ok-handled.ensures.planned;
      handlers_differ = c.in_ok-handled.ensures.differ;
      handlers_known = c.in_ok-handled.ensures.known;
      answers_planned = c.in_ok-answers.ensures.planned;
      guards_differ = c.in_ok-answers.ensures.differ;
    }) rule path broken

pub returns-clause-sound : goal.returns-clause-sound
returns-clause-sound c =
    let t = c.args.tables.now in
    let s = c.args.scenario.now in
    c.planned_programs_are_sound.ensures t s _ c.requires.sound c.requires.of_text
    (record {
      steps = refl;
      callers = c.in_ok-callers.ensures.planned;
      handlers = c.in_ok-handled.ensures.planned;
      answers = c.in_ok-answers.ensures.planned;
    })
    (λ rule path broken. whole t s c.in_ok-callers.callers c.in_ok-handled.handled.handlers c.in_ok-answers.answers
    (record {
      small = c.in_ok-check_size.ensures.small;
      callers_planned = c.in_ok-callers.ensures.planned;
      callers_differ = c.in_ok-callers.ensures.differ;
      handlers_planned = c.in_ok-handled.ensures.planned;
      handlers_differ = c.in_ok-handled.ensures.differ;
      handlers_known = c.in_ok-handled.ensures.known;
      answers_planned = c.in_ok-answers.ensures.planned;
      guards_differ = c.in_ok-answers.ensures.differ;
    }) rule path broken)

pub returns-clause-unbroken : goal.returns-clause-unbroken
returns-clause-unbroken c =
    c.acyclic_programs_break_nothing.ensures c.args.tables.now c.args.scenario.now _
    (record {
      steps = refl;
      callers = c.in_ok-callers.ensures.planned;
      handlers = c.in_ok-handled.ensures.planned;
      answers = c.in_ok-answers.ensures.planned;
    })
    (λ rule path broken. returns-clause-whole c rule path broken) c.in_ok-check_cycles.ensures.acyclic.0 c.in_ok-check_cycles.ensures.acyclic.1
