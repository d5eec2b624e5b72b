-- A program that does nothing is sound where the run is small enough.
use Rattle.std.proofs.Common.{◌≡◌, ◌↔◌, ◌⊎◌, inl, inr, Bool, true, false, ◌&&◌, IsTrue, MatchBool, nat_le, List, [], length, map, filter, refl, sym, ap, ◌∙◌}
use Rattle.std.specs.Prelude.{sum_by}
use Rattle.std.specs.List.{list_all}
use Rattle.fp_base.specs.Names.{is_name}
use Rattle.fp_base.proofs.Bools.{not_both}
use Rattle.fp_tables.specs.Lists.{apart}
use Rattle.fp_tables.specs.Names.{texts_differ}
use Rattle.fp_tables.specs.Components.{is_from_1_to}
use Rattle.fp_tables.specs.Lookup.{Described, placed}
use Rattle.fp_tables.specs.Programs.{caller_acts_suit, handler_suits, answers_suit}
use Rattle.fp_tables.specs.SoundPrograms.{IsSoundProgram, is_active_at, is_short_list, queue_places, same_place, same_guard}
use Rattle.fp_tables.specs.declared.program.Caller.{Caller}
use Rattle.fp_tables.specs.declared.program.Handler.{Handler}
use Rattle.fp_tables.specs.declared.program.Answers.{Answers}
use Rattle.fp_tables.specs.declared.program.Program.{Program}
use Rattle.fp_scenario_check.specs.Planned.{IsTooLarge}

module _ (t : Described) where
  abbrev few : Bool
  few = nat_le (length (placed t)) 256 && nat_le (length (filter (is_active_at t) (placed t))) 64

  abbrev small : Bool
  small = nat_le (sum_by (queue_places t) (placed t)) 1000000

  idle_sound : (p : Program) → p.steps ≡ 1 → p.callers ≡ [] → p.handlers ≡ [] → p.answers ≡ [] → few ≡ true → small ≡ true → IsSoundProgram t p
  idle_sound p steps callers handlers answers is_few is_small = record {
    callers_suit = ap (list_all (λ (c : Caller). caller_acts_suit t c.acts)) callers;
    handlers_suit = ap (list_all (handler_suits t)) handlers;
    answers_suit = ap (list_all (answers_suit t)) answers;
    handlers_differ = ap (apart same_place) handlers;
    answers_differ = ap (apart same_guard) answers;
    callers_differ = ap (λ cs. texts_differ (map (λ (c : Caller). c.name) cs)) callers;
    callers_have_names = ap (list_all (λ (c : Caller). is_name c.name)) callers;
    steps_are_in_range = ap (is_from_1_to 20000) steps;
    callers_are_few = ap (λ (cs : List Caller). nat_le (length cs) 32) callers;
    actions_are_few = ap (λ (cs : List Caller). list_all (λ (c : Caller). is_short_list c.acts) cs && list_all (λ (h : Handler). is_short_list h.acts) p.handlers) callers
        ∙ ap (list_all (λ (h : Handler). is_short_list h.acts)) handlers;
    answers_are_few = ap (list_all (λ (a : Answers). is_from_1_to 1024 (length a.given))) answers;
    instances_are_few = is_few;
    queues_are_small = is_small;
  }

  too_large : (p : Program) → p.steps ≡ 1 → p.callers ≡ [] → p.handlers ≡ [] → p.answers ≡ [] → (IsSoundProgram t p → ⊥) → (a b : Bool) → few ≡ a → small ≡ b → IsTooLarge t
  too_large p steps callers handlers answers not_sound false b is_few is_small = inl is_few
  too_large p steps callers handlers answers not_sound true false is_few is_small = inr is_small
  too_large p steps callers handlers answers not_sound true true is_few is_small = absurd (not_sound (idle_sound p steps callers handlers answers is_few is_small))

  not_too_large : (p : Program) → IsSoundProgram t p → IsTooLarge t → ⊥
  not_too_large p s (inl h) = not_both s.instances_are_few h
  not_too_large p s (inr h) = not_both s.queues_are_small h

  pub size_told : (p : Program) (b : Bool) → p.steps ≡ 1 → p.callers ≡ [] → p.handlers ≡ [] → p.answers ≡ [] → (IsTrue b ↔ IsSoundProgram t p) → MatchBool b (IsTooLarge t → ⊥) (IsTooLarge t)
  size_told p true steps callers handlers answers tells = not_too_large p (tells.0 refl)
  size_told p false steps callers handlers answers tells = too_large p steps callers handlers answers (λ s. not_both (tells.1 s) refl) few small refl refl
