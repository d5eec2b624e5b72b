-- A program that is planned of a scenario that breaks no rule is sound.
use Rattle.std.proofs.Common.{◌≡◌, ◌≤◌, ◌<◌, ℕ, Bool, true, ◌&&◌, ◌==◌, List, [], length, map, Option, Some, None, is_some, sym, ap, ◌∙◌, inl, inr, arith}
use Rattle.std.specs.Prelude.{nat_le, nat_lt, codes, filter, sum_by, option_and_then}
use Rattle.std.specs.List.{AllByRecursion}
use Rattle.std.specs.Str.{bytes_eq}
use Rattle.std.proofs.lemmas.Bool.Decides.{nat_tests}
use Rattle.std.proofs.lemmas.Bool.{true_from_ne_false}
use Rattle.fp_base.proofs.Bools.{both, join}
use Rattle.fp_base.proofs.Lists.{each_flat, each_mapped, each_weaker, get_within}
use Rattle.fp_base.proofs.Options.{one_some, then_some}
use Rattle.fp_base.proofs.Sameness.{nat_same}
use Rattle.fp_base.proofs.Bytes.{bytes_same}
use Rattle.fp_base.proofs.Passing.{position_passes}
use Rattle.fp_base.specs.Names.{is_name}
use Rattle.fp_base.specs.declared.rule.Rule.TheVariants.{PastSize, ScenarioRepeated}
use Rattle.fp_tables.specs.Acts.{is_placed, machine_at, suit_in_turn}
use Rattle.fp_tables.specs.Arguments.{Scope, nothing_bound}
use Rattle.fp_tables.specs.Components.{is_from_1_to}
use Rattle.fp_tables.specs.Lists.{some_and}
use Rattle.fp_tables.specs.Lookup.{Described, placed}
use Rattle.fp_tables.specs.Positions.{component_of}
use Rattle.fp_tables.specs.Programs.{act_suits, answers_suit, bound_at, caller_acts_suit, handler_suits, return_stands, returned_at}
use Rattle.fp_tables.specs.Sound.{IsSoundFor}
use Rattle.fp_tables.specs.SoundPrograms as programs
use Rattle.fp_tables.specs.SoundPrograms.{IsSoundProgram, is_active_at, is_short_list, queue_places, same_place, same_spot}
use Rattle.fp_tables.specs.declared.component.Component.{Component}
use Rattle.fp_tables.specs.declared.component.Running.{Running}
use Rattle.fp_tables.specs.declared.machine.Machine.{Machine}
use Rattle.fp_tables.specs.declared.machine.Named.{Named}
use Rattle.fp_tables.specs.declared.program.Answers.{Answers}
use Rattle.fp_tables.specs.declared.program.Caller.{Caller}
use Rattle.fp_tables.specs.declared.program.Handler.{Handler}
use Rattle.fp_tables.specs.declared.program.Program.{Program}
use Rattle.fp_tables.proofs.Spots.{spot_equal}
use Rattle.fp_tables.proofs.Optional.{some_and_at}
use Rattle.fp_scenario.specs.Kinds.{is_identifier}
use Rattle.fp_scenario.specs.Same.{IsKept, IsNamed}
use Rattle.fp_scenario.specs.declared.scenario.CallerText.{CallerText}
use Rattle.fp_scenario.specs.declared.scenario.GuardText.{GuardText}
use Rattle.fp_scenario.specs.declared.scenario.HandlerText.{HandlerText}
use Rattle.fp_scenario.specs.declared.scenario.Scenario.{Scenario}
use Rattle.fp_scenario_actions.specs.Named.{name_of, placed_named, running_named}
use Rattle.fp_scenario_actions.specs.Spots.{spot_in}
use Rattle.fp_scenario_actions.proofs.Identifiers.{identifier_is_name}
use Rattle.fp_scenario_actions.proofs.Suits.{acts_suit, as_long, returns_stand}
use Rattle.fp_scenario_actions.proofs.SuitsCalls.{calls_as_long, calls_suit}
use Rattle.fp_scenario_check.specs.Planned.{at_each, caller_path, guard_at, guard_path, handler_path, pairs, running_at, same_caller, same_guard, same_handler, stands_for, IsWhole, Planned, PlansAnswers, PlansCaller, PlansHandler, too_large, caller_repeated, handler_repeated, guard_repeated}
use Rattle.fp_scenario_check.proofs.Apart.{Apart, apart_map, tests_apart, unrepeated}
use Rattle.fp_scenario_check.proofs.Beside.{all_planned, apart_beside, as_many}
use Rattle.fp_scenario_check.proofs.Placed.{named_placed, one_instance}
use Rattle.fp_scenario_check.proofs.Spelled.{one_named, one_spelling}
use Rattle.fp_scenario_check.proofs.StandingRules.{OnePlace, pairs_apart, stands_placed}

at_most : (most n : ℕ) → n ≤ most → nat_le n most ≡ true
at_most most n h = grind (arith, nat_tests)

below : (most n : ℕ) → n < most → nat_lt n most ≡ true
below most n h = grind (arith, nat_tests)

in_range : (most n : ℕ) → 1 ≤ n → n ≤ most → is_from_1_to most n ≡ true
in_range most n h k = join _ _ (at_most n 1 h) (at_most most n k)

-- ---- callers

abbrev IsKeptCaller : CallerText → Type 0
IsKeptCaller k = (is_identifier k.name ≡ true) × (length k.do_ ≤ 1000) × AllByRecursion IsNamed k.do_

module _ (t : Described) (sound : IsSoundFor t.model (Some t.topology)) where
  caller_suits : (k : CallerText) (x : Caller) → IsKeptCaller k → PlansCaller t k x → caller_acts_suit t x.acts ≡ true
  caller_suits k x kept plan = calls_suit t sound nothing_bound k.do_ x.acts plan.acts

caller_named : (t : Described) (k : CallerText) (x : Caller) → IsKeptCaller k → PlansCaller t k x → is_name x.name ≡ true
caller_named t k x kept plan = ap is_name plan.name ∙ sym (identifier_is_name k.name) ∙ kept.0

caller_short : (t : Described) (k : CallerText) (x : Caller) → IsKeptCaller k → PlansCaller t k x → is_short_list x.acts ≡ true
caller_short t k x kept plan = ap (λ n. nat_le n 1000) (calls_as_long t nothing_bound k.do_ x.acts plan.acts) ∙ at_most 1000 (length k.do_) kept.1

callers_back : (t : Described) (a b : CallerText) (x y : Caller) → PlansCaller t a x → PlansCaller t b y → bytes_eq x.name y.name ≡ true → same_caller a b ≡ true
callers_back t a b x y p q same = ap (λ n. bytes_eq n b.name) (sym p.name) ∙ ap (λ n. bytes_eq x.name n) (sym q.name) ∙ same

-- ---- handlers

abbrev IsKeptHandler : HandlerText → Type 0
IsKeptHandler h = (length h.do_ ≤ 1000) × AllByRecursion IsNamed h.do_

abbrev IsKeptPair : Described → HandlerText × ℕ → Type 0
IsKeptPair t p = (is_placed t p.1 ≡ true) × IsKeptHandler p.0

pairs_kept : (t : Described) (scenario : Scenario) → AllByRecursion IsKeptHandler scenario.handlers → AllByRecursion (IsKeptPair t) (pairs t scenario)
pairs_kept t scenario kept =
    each_flat (IsKeptPair t) (at_each t scenario) scenario.handlers
    (each_weaker IsKeptHandler (λ h. AllByRecursion (IsKeptPair t) (at_each t scenario h))
    (λ h is. each_mapped (IsKeptPair t) (λ i. (h, i)) (stands_for t scenario h) (each_weaker (λ i. is_placed t i ≡ true) (λ i. IsKeptPair t (h, i)) (λ i there. (there, is)) (stands_for t scenario h) (stands_placed t scenario h)))
    scenario.handlers kept)

module _ (t : Described) (sound : IsSoundFor t.model (Some t.topology)) (p : HandlerText × ℕ) (x : Handler) (kept : IsKeptPair t p) (plan : PlansHandler t p x) where
  abbrev SuitsAt : ℕ → Bool
  SuitsAt i = is_placed t i && return_stands (is_some (returned_at t i x.place)) x.acts && some_and (λ (scope : Scope). suit_in_turn t (act_suits t i x.place) scope x.acts) (bound_at t i x.place)

  pub handler_suits_so : handler_suits t x ≡ true
  handler_suits_so =
      ap SuitsAt plan.instance
      ∙ join _ _ (join _ _ kept.0 (returns_stand t p.1 plan.component x.place plan.begins p.0.do_ x.acts plan.acts plan.returned))
      (some_and_at (λ (scope : Scope). suit_in_turn t (act_suits t p.1 x.place) scope x.acts) (bound_at t p.1 x.place) plan.begins plan.formals
      (acts_suit t sound p.1 plan.component plan.has x.place plan.begins p.0.do_ x.acts kept.1.1 plan.acts))

handler_short : (t : Described) (p : HandlerText × ℕ) (x : Handler) → IsKeptPair t p → PlansHandler t p x → is_short_list x.acts ≡ true
handler_short t p x kept plan = ap (λ n. nat_le n 1000) (as_long t p.1 plan.component x.place plan.begins p.0.do_ x.acts plan.acts) ∙ at_most 1000 (length p.0.do_) kept.1.0

handlers_back : (t : Described) (p q : HandlerText × ℕ) (x y : Handler) → PlansHandler t p x → PlansHandler t q y → same_place x y ≡ true → OnePlace p q
handlers_back t p q x y plan other same =
    let e = both (x.instance == y.instance) (same_spot x.place y.place) same in
    let at : p.1 ≡ q.1 = sym plan.instance ∙ nat_same.equal x.instance y.instance e.0 ∙ other.instance in
    let place : x.place ≡ y.place = spot_equal x.place y.place e.1 in
    let component : plan.component ≡ other.component = one_some (component_of t.model p.1) plan.component other.component plan.has (ap (component_of t.model) at ∙ other.has) in
    (at, one_spelling t plan.component p.0.on_ q.0.on_ x.place plan.place (ap (λ (c : Component). spot_in t c q.0.on_) component ∙ other.place ∙ ap Some (sym place)))

-- ---- answers

abbrev IsKeptGuard : GuardText → Type 0
IsKeptGuard g = (1 ≤ length g.answers) × (length g.answers ≤ 1024)

answers_suit_so : (t : Described) (g : GuardText) (x : Answers) → IsKeptGuard g → PlansAnswers t g x → answers_suit t x ≡ true
answers_suit_so t g x kept plan =
    let m = then_some (λ (m : Machine). name_of m.guards g.guard) (machine_at t x.instance x.running) x.guard plan.guard in
    let named = position_passes (λ (y : Named). bytes_eq y.name g.guard) m.0.guards x.guard m.2 in
    join _ _ (named_placed t g.of x.instance plan.instance)
    (some_and_at (λ (m : Machine). nat_lt x.guard (length m.guards)) (machine_at t x.instance x.running) m.0 m.1 (below (length m.0.guards) x.guard (get_within m.0.guards x.guard named.0 named.1)))

answers_in_range : (t : Described) (g : GuardText) (x : Answers) → IsKeptGuard g → PlansAnswers t g x → is_from_1_to 1024 (length x.given) ≡ true
answers_in_range t g x kept plan = ap (λ (bs : List Bool). is_from_1_to 1024 (length bs)) plan.given ∙ in_range 1024 (length g.answers) kept.0 kept.1

one_machine : (t : Described) (g h : GuardText) (i r : ℕ) → running_at t g i ≡ Some r → running_at t h i ≡ Some r → g.machine ≡ h.machine
one_machine t g h i r = go (component_of t.model i)
  where
    go : (o : Option Component) → option_and_then (λ (c : Component). running_named c.machines g.machine) o ≡ Some r → option_and_then (λ (c : Component). running_named c.machines h.machine) o ≡ Some r → g.machine ≡ h.machine
    go None p q = absurd (cc)
    go (Some c) p q = one_named (λ (x : Running). x.name) c.machines g.machine h.machine r p q

one_guard : (t : Described) (g h : GuardText) (i r n : ℕ) → guard_at t g i r ≡ Some n → guard_at t h i r ≡ Some n → g.guard ≡ h.guard
one_guard t g h i r n = go (machine_at t i r)
  where
    go : (o : Option Machine) → option_and_then (λ (m : Machine). name_of m.guards g.guard) o ≡ Some n → option_and_then (λ (m : Machine). name_of m.guards h.guard) o ≡ Some n → g.guard ≡ h.guard
    go None p q = absurd (cc)
    go (Some m) p q = one_named (λ (x : Named). x.name) m.guards g.guard h.guard n p q

answers_back : (t : Described) (g h : GuardText) (x y : Answers) → PlansAnswers t g x → PlansAnswers t h y → programs.same_guard x y ≡ true → same_guard g h ≡ true
answers_back t g h x y plan other same =
    let e = both ((x.instance == y.instance) && (x.running == y.running)) (x.guard == y.guard) same in
    let d = both (x.instance == y.instance) (x.running == y.running) e.0 in
    let i : y.instance ≡ x.instance = sym (nat_same.equal x.instance y.instance d.0) in
    let r : y.running ≡ x.running = sym (nat_same.equal x.running y.running d.1) in
    let n : y.guard ≡ x.guard = sym (nat_same.equal x.guard y.guard e.1) in
    let instance : placed_named t h.of ≡ Some x.instance = other.instance ∙ ap Some i in
    let running : running_at t h x.instance ≡ Some x.running = ap (λ (m : ℕ). running_at t h m) (sym i) ∙ other.running ∙ ap Some r in
    let asked : guard_at t h x.instance x.running ≡ Some x.guard = ap (λ (m : ℕ). guard_at t h m x.running) (sym i) ∙ ap (λ (m : ℕ). guard_at t h y.instance m) (sym r) ∙ other.guard ∙ ap Some n in
    join _ _ (join _ _ (bytes_same g.of h.of (one_instance t g.of h.of x.instance plan.instance instance)) (bytes_same g.machine h.machine (one_machine t g h x.instance x.running plan.running running)))
    (bytes_same g.guard h.guard (one_guard t g h x.instance x.running x.guard plan.guard asked))

-- ---- the whole

module _ (t : Described) (scenario : Scenario) (program : Program) (sound : IsSoundFor t.model (Some t.topology)) (kept : IsKept scenario) (plan : Planned t scenario program) (whole : IsWhole t scenario) where
  callers_apart : Apart (λ (x y : Caller). bytes_eq x.name y.name ≡ true) program.callers
  callers_apart =
      apart_beside (PlansCaller t) (λ (a b : CallerText). same_caller a b ≡ true) (λ (x y : Caller). bytes_eq x.name y.name ≡ true) (callers_back t) scenario.callers program.callers plan.callers
      (unrepeated same_caller scenario.callers (λ n r. whole ScenarioRepeated (caller_path n []) (caller_repeated n r)))

  handlers_apart : Apart (λ (x y : Handler). same_place x y ≡ true) program.handlers
  handlers_apart =
      apart_beside (PlansHandler t) OnePlace (λ (x y : Handler). same_place x y ≡ true) (handlers_back t) (pairs t scenario) program.handlers plan.handlers
      (pairs_apart t scenario sound.1 (unrepeated same_handler scenario.handlers (λ n r. whole ScenarioRepeated (handler_path n []) (handler_repeated n r))))

  answers_apart : Apart (λ (x y : Answers). programs.same_guard x y ≡ true) program.answers
  answers_apart =
      apart_beside (PlansAnswers t) (λ (g h : GuardText). same_guard g h ≡ true) (λ (x y : Answers). programs.same_guard x y ≡ true) (answers_back t) scenario.guards program.answers plan.answers
      (unrepeated same_guard scenario.guards (λ n r. whole ScenarioRepeated (guard_path n) (guard_repeated n r)))

  handlers_kept : AllByRecursion (IsKeptPair t) (pairs t scenario)
  handlers_kept = pairs_kept t scenario kept.handlers

  pub program_is_sound : IsSoundProgram t program
  program_is_sound = record {
    callers_suit = all_planned (PlansCaller t) IsKeptCaller (λ (x : Caller). caller_acts_suit t x.acts) (λ k x is p. caller_suits t sound k x is p) scenario.callers program.callers kept.callers plan.callers;
    handlers_suit = all_planned (PlansHandler t) (IsKeptPair t) (handler_suits t) (λ p x is q. handler_suits_so t sound p x is q) (pairs t scenario) program.handlers handlers_kept plan.handlers;
    answers_suit = all_planned (PlansAnswers t) IsKeptGuard (answers_suit t) (λ g x is p. answers_suit_so t g x is p) scenario.guards program.answers kept.guards plan.answers;
    handlers_differ = tests_apart same_place program.handlers handlers_apart;
    answers_differ = tests_apart programs.same_guard program.answers answers_apart;
    callers_differ =
        tests_apart bytes_eq (map (λ (c : Caller). c.name) program.callers)
        (apart_map (λ (x y : Caller). bytes_eq x.name y.name ≡ true) (λ (a b : List ℕ). bytes_eq a b ≡ true) (λ (c : Caller). c.name) (λ x y same. same) program.callers callers_apart);
    callers_have_names = all_planned (PlansCaller t) IsKeptCaller (λ (x : Caller). is_name x.name) (λ k x is p. caller_named t k x is p) scenario.callers program.callers kept.callers plan.callers;
    steps_are_in_range = ap (is_from_1_to 20000) plan.steps ∙ in_range 20000 scenario.steps kept.some_steps kept.few_steps;
    callers_are_few = ap (λ n. nat_le n 32) (as_many (PlansCaller t) scenario.callers program.callers plan.callers) ∙ at_most 32 (length scenario.callers) kept.few_callers;
    actions_are_few =
        join _ _ (all_planned (PlansCaller t) IsKeptCaller (λ (x : Caller). is_short_list x.acts) (λ k x is p. caller_short t k x is p) scenario.callers program.callers kept.callers plan.callers)
        (all_planned (PlansHandler t) (IsKeptPair t) (λ (x : Handler). is_short_list x.acts) (λ p x is q. handler_short t p x is q) (pairs t scenario) program.handlers handlers_kept plan.handlers);
    answers_are_few = all_planned (PlansAnswers t) IsKeptGuard (λ (x : Answers). is_from_1_to 1024 (length x.given)) (λ g x is p. answers_in_range t g x is p) scenario.guards program.answers kept.guards plan.answers;
    instances_are_few = true_from_ne_false (nat_le (length (placed t)) 256 && nat_le (length (filter (is_active_at t) (placed t))) 64) (λ e. whole PastSize (codes "/") (too_large (inl e)));
    queues_are_small = true_from_ne_false (nat_le (sum_by (queue_places t) (placed t)) 1000000) (λ e. whole PastSize (codes "/") (too_large (inr e)));
  }
