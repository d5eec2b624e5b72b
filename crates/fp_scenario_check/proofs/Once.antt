-- A scenario stands for one program.
use Rattle.std.proofs.Common.{◌≡◌, ℕ, Bool, List, [], ◌∷◌, Some, refl, sym, ap₂, ◌∙◌, subst}
use Rattle.fp_base.proofs.Options.{one_some}
use Rattle.fp_tables.specs.Lookup.{Described}
use Rattle.fp_tables.specs.Positions.{component_of}
use Rattle.fp_tables.specs.Arguments.{Scope, nothing_bound}
use Rattle.fp_tables.specs.Programs.{bound_at}
use Rattle.fp_tables.specs.declared.component.Component.{Component}
use Rattle.fp_tables.specs.declared.program.Act.{Act}
use Rattle.fp_tables.specs.declared.program.Spot.{Spot}
use Rattle.fp_tables.specs.declared.program.Caller.{Caller}
use Rattle.fp_tables.specs.declared.program.Handler.{Handler}
use Rattle.fp_tables.specs.declared.program.Answers.{Answers}
use Rattle.fp_tables.specs.declared.program.Program.{Program}
use Rattle.fp_scenario.specs.declared.scenario.Scenario.{Scenario}
use Rattle.fp_scenario.specs.declared.scenario.CallerText.{CallerText}
use Rattle.fp_scenario.specs.declared.scenario.HandlerText.{HandlerText}
use Rattle.fp_scenario.specs.declared.scenario.GuardText.{GuardText}
use Rattle.fp_scenario_actions.specs.Named.{placed_named}
use Rattle.fp_scenario_actions.specs.Spots.{spot_in}
use Rattle.fp_scenario_actions.specs.Listing.{ActsPlan}
use Rattle.fp_scenario_actions.proofs.Once.{one_list, one_list_of_calls}
use Rattle.fp_scenario_check.specs.Planned.{Pairwise, PlansCaller, PlansHandler, PlansAnswers, running_at, guard_at, pairs, Planned}

-- what is beside an item is one thing
module _ {A B : Type 0} (P : A → B → Type 0) (one : (a : A) (x y : B) → P a x → P a y → x ≡ y) where
  one_beside : (as_ : List A) (xs ys : List B) → Pairwise P as_ xs → Pairwise P as_ ys → xs ≡ ys
  one_beside [] [] [] h g = refl
  one_beside [] [] (y ∷ ys) h g = absurd g
  one_beside [] (x ∷ xs) ys h g = absurd h
  one_beside (a ∷ as_) [] ys h g = absurd h
  one_beside (a ∷ as_) (x ∷ xs) [] h g = absurd g
  one_beside (a ∷ as_) (x ∷ xs) (y ∷ ys) h g = ap₂ (λ (b : B) (bs : List B). b ∷ bs) (one a x y h.0 g.0) (one_beside as_ xs ys h.1 g.1)

module _ (t : Described) where
  one_caller : (k : CallerText) (x y : Caller) → PlansCaller t k x → PlansCaller t k y → x ≡ y
  one_caller k x y h g =
      let name : x.name ≡ y.name = h.name ∙ sym g.name in
      let acts : x.acts ≡ y.acts = one_list_of_calls t nothing_bound k.do_ x.acts y.acts h.acts g.acts in
      λ i. record { name = name i; acts = acts i }

  one_handler : (p : HandlerText × ℕ) (x y : Handler) → PlansHandler t p x → PlansHandler t p y → x ≡ y
  one_handler p x y h g =
      let instance : x.instance ≡ y.instance = h.instance ∙ sym g.instance in
      let component : g.component ≡ h.component = one_some (component_of t.model p.1) g.component h.component g.has h.has in
      let there : spot_in t h.component p.0.on_ ≡ Some y.place = subst (λ (c : Component). spot_in t c p.0.on_ ≡ Some y.place) component g.place in
      let place : y.place ≡ x.place = one_some (spot_in t h.component p.0.on_) y.place x.place there h.place in
      let formals : bound_at t p.1 x.place ≡ Some g.begins = subst (λ (s : Spot). bound_at t p.1 s ≡ Some g.begins) place g.formals in
      let begins : g.begins ≡ h.begins = one_some (bound_at t p.1 x.place) g.begins h.begins formals h.formals in
      let planned : ActsPlan t p.1 h.component x.place h.begins p.0.do_ y.acts =
      subst (λ (s : Scope). ActsPlan t p.1 h.component x.place s p.0.do_ y.acts) begins
      (subst (λ (s : Spot). ActsPlan t p.1 h.component s g.begins p.0.do_ y.acts) place (subst (λ (c : Component). ActsPlan t p.1 c y.place g.begins p.0.do_ y.acts) component g.acts)) in
      let acts : x.acts ≡ y.acts = one_list t p.1 h.component x.place h.begins p.0.do_ x.acts y.acts h.acts planned in
      let same_place : x.place ≡ y.place = sym place in
      λ i. record { instance = instance i; place = same_place i; acts = acts i }

  one_answers : (q : GuardText) (x y : Answers) → PlansAnswers t q x → PlansAnswers t q y → x ≡ y
  one_answers q x y h g =
      let instance : y.instance ≡ x.instance = one_some (placed_named t q.of) y.instance x.instance g.instance h.instance in
      let runs : running_at t q x.instance ≡ Some y.running = subst (λ (i : ℕ). running_at t q i ≡ Some y.running) instance g.running in
      let running : y.running ≡ x.running = one_some (running_at t q x.instance) y.running x.running runs h.running in
      let asked : guard_at t q x.instance x.running ≡ Some y.guard =
      subst (λ (r : ℕ). guard_at t q x.instance r ≡ Some y.guard) running (subst (λ (i : ℕ). guard_at t q i y.running ≡ Some y.guard) instance g.guard) in
      let guard : y.guard ≡ x.guard = one_some (guard_at t q x.instance x.running) y.guard x.guard asked h.guard in
      let given : y.given ≡ x.given = g.given ∙ sym h.given in
      sym (λ i. record { instance = instance i; running = running i; guard = guard i; given = given i })

  pub one_program : (scenario : Scenario) (x y : Program) → Planned t scenario x → Planned t scenario y → x ≡ y
  one_program scenario x y h g =
      let steps : x.steps ≡ y.steps = h.steps ∙ sym g.steps in
      let callers : x.callers ≡ y.callers = one_beside (PlansCaller t) one_caller scenario.callers x.callers y.callers h.callers g.callers in
      let handlers : x.handlers ≡ y.handlers = one_beside (PlansHandler t) one_handler (pairs t scenario) x.handlers y.handlers h.handlers g.handlers in
      let answers : x.answers ≡ y.answers = one_beside (PlansAnswers t) one_answers scenario.guards x.answers y.answers h.answers g.answers in
      λ i. record { steps = steps i; callers = callers i; handlers = handlers i; answers = answers i }
