use Rattle.std.proofs.Common.{◌∙◌, List, ap, map, sym, length}
use Rattle.std.specs.List.{list_all}
use Rattle.fp_tables.specs.Lists.{apart}
use Rattle.fp_base.specs.Names.{is_name}
use Rattle.fp_tables.specs.Names.{texts_differ}
use Rattle.fp_tables.specs.Components.{is_from_1_to}
use Rattle.fp_tables.specs.Programs.{caller_acts_suit, handler_suits, answers_suit}
use Rattle.fp_tables.specs.SoundPrograms.{same_place, same_guard}
use Rattle.fp_tables.specs.declared.program.Caller.{Caller}
use Rattle.fp_tables.specs.declared.program.Answers.{Answers}
use Rattle.fp_sound_programs.proofs.Programming.{thirteen, thirteen_back}
use Rattle.fp_sound_programs.proofs.programs.ProgramSoundProgram.is_sound.Goals as goal

pub returns : goal.returns
returns c =
    let t = c.args.tables.now in
    let callers = c.as_slice-callers.ensures in
    let handlers = c.as_slice-handlers.ensures in
    let answers = c.as_slice-answers.ensures in
    let calls = c.in_ok-calls.ensures ∙ ap (list_all (λ (x : Caller). caller_acts_suit t x.acts)) callers in
    let handled = c.in_ok-handled.ensures ∙ ap (list_all (handler_suits t)) handlers in
    let answered = (c.all_answers_suit-answered).ensures ∙ ap (list_all (answers_suit t)) answers in
    let places = c.in_ok-places.ensures ∙ ap (apart same_place) handlers in
    let guards = c.in_ok-guards.ensures ∙ ap (apart same_guard) answers in
    let differ = c.in_ok-differ.ensures ∙ ap (λ (xs : List Caller). texts_differ (map (λ (x : Caller). x.name) xs)) callers in
    let names = (c.callers_have_names-names).ensures ∙ ap (list_all (λ (x : Caller). is_name x.name)) callers in
    let steps = (c.steps_are_in_range-steps).ensures in
    let few_callers = (c.callers_are_few-few_callers).ensures in
    let few_actions = (c.actions_are_few-few_actions).ensures in
    let few_answers = (c.answers_are_few-few_answers).ensures ∙ ap (list_all (λ (x : Answers). is_from_1_to 1024 (length x.given))) answers in
    let few_instances = (c.instances_are_few-few_instances).ensures in
    let queues = c.in_ok-queues.ensures in (
      λ h.
          let k = thirteen _ _ _ _ _ _ _ _ _ _ _ _ _ h in
          record {
            callers_suit = sym calls ∙ k.0;
            handlers_suit = sym handled ∙ k.1;
            answers_suit = sym answered ∙ k.2;
            handlers_differ = sym places ∙ k.3;
            answers_differ = sym guards ∙ k.4;
            callers_differ = sym differ ∙ k.5;
            callers_have_names = sym names ∙ k.6;
            steps_are_in_range = sym steps ∙ k.7;
            callers_are_few = sym few_callers ∙ k.8;
            actions_are_few = sym few_actions ∙ k.9;
            answers_are_few = sym few_answers ∙ k.10;
            instances_are_few = sym few_instances ∙ k.11;
            queues_are_small = sym queues ∙ k.12;
          },
      λ s. thirteen_back _ _ _ _ _ _ _ _ _ _ _ _ _ (calls ∙ s.callers_suit) (handled ∙ s.handlers_suit) (answered ∙ s.answers_suit) (places ∙ s.handlers_differ)
          (guards ∙ s.answers_differ) (differ ∙ s.callers_differ) (names ∙ s.callers_have_names) (steps ∙ s.steps_are_in_range) (few_callers ∙ s.callers_are_few)
          (few_actions ∙ s.actions_are_few) (few_answers ∙ s.answers_are_few) (few_instances ∙ s.instances_are_few) (queues ∙ s.queues_are_small),
    )
