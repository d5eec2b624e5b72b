-- What each entry of a run of sound tables and program shows.
use Rattle.std.proofs.Common.{◌≡◌, ℕ, Bool, true, ◌&&◌, nat_lt, nat_le, List, [], ◌∷◌, ◌++◌, length, Option, Some, None, option_map, is_some, refl, sym, ap, ◌∙◌, subst, slice_get, arith}
use Rattle.std.proofs.lemmas.Bool.Decides.{nat_tests}
use Rattle.std.specs.List.{list_all}
use Rattle.fp_base.proofs.Options.{then_some, same_some}
use Rattle.fp_base.proofs.Lists.{all_get}
use Rattle.fp_base.specs.declared.value.Value.{Value}
use Rattle.fp_events.specs.SystemRun.{Run, World, ActorStep, opening}
use Rattle.fp_events.proofs.Local.{actor_law}
use Rattle.fp_base.proofs.Bools.{both, join}
use Rattle.fp_tables.specs.Components.{takes_its_value}
use Rattle.fp_tables.specs.Lists.{if_some}
use Rattle.fp_tables.specs.Lookup.{Described}
use Rattle.fp_tables.specs.Positions.{component_of}
use Rattle.fp_tables.specs.Sound.{IsSoundFor}
use Rattle.fp_tables.specs.SoundPrograms.{IsSoundProgram}
use Rattle.fp_tables.specs.Types.{have_kinds}
use Rattle.fp_tables.specs.declared.kind.Formal.{Formal}
use Rattle.fp_tables.specs.declared.kind.Kind.{Kind}
use Rattle.fp_tables.specs.declared.component.Command.{Command}
use Rattle.fp_tables.specs.declared.component.Component.{Component}
use Rattle.fp_tables.specs.declared.component.CommandPart.{CommandPart}
use Rattle.fp_tables.specs.declared.component.CommandPart.TheVariants as part
use Rattle.fp_tables.specs.declared.program.Program.{Program}
use Rattle.fp_events.specs.Actor.{ActorState}
use Rattle.fp_events.specs.Answers.{arrival_in, answers}
use Rattle.fp_events.specs.Due.{due}
use Rattle.fp_events.specs.Fits.{actor_count, kinds, place_kinds, what_fits, fits}
use Rattle.fp_tables.specs.Acts.{is_placed}
use Rattle.fp_events.specs.Instance.{InstanceState}
use Rattle.fp_tables.specs.Specials.{component}
use Rattle.fp_events.specs.Manners.{saves, manner}
use Rattle.fp_events.specs.Run.{by as by_actor}
use Rattle.fp_events.specs.Step.{core}
use Rattle.fp_events.specs.declared.event.Point.{Point}
use Rattle.fp_events.specs.declared.event.Arrival.{Arrival}
use Rattle.fp_events.specs.declared.event.Ask.{Ask}
use Rattle.fp_events.specs.declared.event.Entry.{Entry}
use Rattle.fp_events.specs.declared.event.What.{What}
use Rattle.fp_events.specs.declared.event.What.TheVariants as what
use Rattle.fp_events.proofs.Fitting.{run_fits}
use Rattle.fp_events.proofs.StepLaws.{taken, core_laws, answered_arrival}
use Rattle.fp_logtext.specs.Names.{instance_name}
use Rattle.fp_logtext.specs.Named.{what_is_named, entry_is_named, sets_or_saves}
use Rattle.fp_logtext.specs.Fitting.{is_empty, notes_fit, saves_alone, suit_point, values_fit}
use Rattle.fp_run_laws.specs.Notes.{note_fits}
use Rattle.fp_run_laws.specs.Suits.{AllSuit, results_by, results_from, returns_fit}
use Rattle.fp_run_laws.proofs.Lists.{all_of_each, some_mapped}
use Rattle.fp_run_laws.proofs.Parts.{command_in, values_taken_at, member_at}
use Rattle.fp_run_laws.proofs.Commands.{implied, of_save, saves_part}
use Rattle.fp_run_laws.proofs.Told.{opening_suits, step_keeps, step_returns, noted}
use Rattle.fp_logtext.proofs.Commands.{set_manner, save_manner, set_is_named, save_is_named}
use Rattle.fp_logtext.proofs.Naming.{fit_named, fit_values}
use Rattle.fp_tables.proofs.Optional.{some_and_of}

results_from-more : (t : Described) (ks : List (Option Kind)) (es : List Entry) (e : Entry) → results_from t ks (es ++ e ∷ []) ≡ results_by t e.instance (results_from t ks es) e.what
results_from-more t ks [] e = refl
results_from-more t ks (x ∷ es) e = results_from-more t (results_by t x.instance ks x.what) es e

module _ (t : Described) (program : Program) (sound : IsSoundFor t.model (Some t.topology)) (good : IsSoundProgram t program) where
  -- ---- by what an entry fits alone

  pub entry_named : (e : Entry) → fits t program e.actor e.instance e.what ≡ true → entry_is_named t program e ≡ true
  unfolding fits
  entry_named e h =
      let a = both (nat_lt e.actor (actor_count t program) && is_placed t e.instance) (what_fits t program e.instance e.what) h in
      let b = both (nat_lt e.actor (actor_count t program)) (is_placed t e.instance) a.0 in
      join _ (what_is_named t.model e.instance e.what)
      (join (nat_lt e.actor (actor_count t program)) (is_some (instance_name t.model e.instance)) b.0
      (some_mapped _ (slice_get t.model.instances e.instance) ∙ member_at t.model t.topology sound e.instance b.1))
      (fit_named t program e.instance e.what a.1)

  pub entry_values : (e : Entry) → fits t program e.actor e.instance e.what ≡ true → values_fit t program e.instance e.what ≡ true
  unfolding fits
  entry_values e h = fit_values t program e.instance e.what (both _ (what_fits t program e.instance e.what) h).1

  pub fits_what : (a i : ℕ) (w : What) → fits t program a i w ≡ true → what_fits t program i w ≡ true
  unfolding fits
  fits_what a i w h = (both _ (what_fits t program i w) h).1

  -- ---- by what it answers

  answers_commands : (i : ℕ) (w : What) (q : Ask) → answers t i w q ≡ true → sets_or_saves t.model i w ≡ true
  answers_commands i (what.Set r) q h =
      let a = answered_arrival t program i (what.Set r) q r refl h in
      let m = set_manner (manner t i r.point) r a.1 in
      set_is_named t sound.0 i r.point m.0 m.1
  answers_commands i (what.Save r v) q h =
      let a = answered_arrival t program i (what.Save r v) q r refl h in
      let m = save_manner (manner t i r.point) r v a.1 in
      save_is_named t sound.0 i r.point m.0 m.1
  answers_commands i _ q h = refl

  no_formals : (fs : List Formal) (vs : List Value) → nat_le (length fs) 0 ≡ true → have_kinds t.model.types (kinds t program fs) vs ≡ true → is_empty vs ≡ true
  no_formals [] [] h k = refl
  no_formals [] (v ∷ vs) h k = absurd (cc)
  no_formals (f ∷ fs) vs h k = absurd (grind (arith, nat_tests))

  saved_alone : (i : ℕ) (point : Point) (k : ℕ) (vs : List Value) → manner t i point ≡ Some (saves k) → suit_point t program i point vs ≡ true → is_empty vs ≡ true
  saved_alone i point k vs h fit =
      let m = implied t i point (saves k) (of_save k) h in
      let c = then_some (λ (c : Component). slice_get c.commands m.number) (component_of t.model i) m.command m.found in
      let p : m.command.part ≡ part.SaveParam k = saves_part m.command.way m.command.part k m.treated in
      let takes : takes_its_value c.0.params m.command ≡ true = all_get (takes_its_value c.0.params) c.0.commands m.number m.command (values_taken_at t.model sound.0 i c.0 c.1) c.2 in
      let none : nat_le (length m.command.formals) 0 ≡ true = ap (λ (q : CommandPart). takes_its_value c.0.params (record m.command { part = q })) (sym p) ∙ takes in
      let ks = some_and_of (λ ks. have_kinds t.model.types ks vs) (place_kinds t program i point) fit in
      let found : slice_get (component t i).commands m.number ≡ Some m.command = command_in t i m.number ∙ m.found in
      let of : place_kinds t program i point ≡ Some (kinds t program m.command.formals) =
      ap (place_kinds t program i) m.is ∙ ap (option_map (λ (c : Command). kinds t program c.formals)) found in
      let same : ks.0 ≡ kinds t program m.command.formals = same_some (sym ks.1 ∙ of) in
      no_formals m.command.formals vs none (ap (λ (js : List Kind). have_kinds t.model.types js vs) (sym same) ∙ ks.2)

  answers_alone : (i : ℕ) (w : What) (q : Ask) → answers t i w q ≡ true → values_fit t program i w ≡ true → saves_alone w ≡ true
  answers_alone i (what.Save r v) q h fit =
      let a = answered_arrival t program i (what.Save r v) q r refl h in
      let m = save_manner (manner t i r.point) r v a.1 in
      saved_alone i r.point m.0 r.with m.1 (both (suit_point t program i r.point r.with) _ fit).0
  answers_alone i _ q h fit = refl

  answers_notes : (ks : List (Option Kind)) (a i : ℕ) (x : ActorState) (w : What) (q : Ask) → answers t i w q ≡ true → due t program a x.thread ≡ Some (i, q) → AllSuit t program ks a x.thread.frames → notes_fit t.model w ≡ true
  answers_notes ks a i x w q h is suits = go (arrival_in w) refl
    where
      go : (o : Option Arrival) → arrival_in w ≡ o → if_some (λ (r : Arrival). note_fits t.model r.origin) o ≡ true
      go None e = refl
      go (Some r) e =
          let r_asked = (answered_arrival t program i w q r e h).0 in
          noted t program sound good ks a x.thread i r suits (is ∙ ap (λ (q : Ask). Some (i, q)) r_asked)

  -- ---- in a run

  -- what an entry shows behind those of its actor
  pub record Shows (es : List Entry) (e : Entry) : Type 0 where
    pub commands : sets_or_saves t.model e.instance e.what ≡ true
    pub alone : saves_alone e.what ≡ true
    pub notes : notes_fit t.model e.what ≡ true
    pub returned : returns_fit t (results_from t [] es) e.what ≡ true

  pub run_shows : (es : List Entry) (v : World InstanceState ActorState) → Run (core t program) (opening (core t program)) es v
      → (before : List Entry) (e : Entry) (rest : List Entry) → es ≡ before ++ e ∷ rest → Shows (by_actor e.actor before) e
  run_shows =
      actor_law (core t program) (core_laws t program) (λ a es x. AllSuit t program (results_from t [] es) a x.thread.frames) (λ es e. Shows es e)
      (λ a. opening_suits t program sound good a)
      (λ a es x z e holds step.
      subst (λ (l : List (Option Kind)). AllSuit t program l a z.thread.frames) (sym (results_from-more t [] es e))
      (step_keeps t program sound good (results_from t [] es) a x z e holds (taken t program a x z e step.part)))
      (λ a es x z e holds step. shown a es x z e holds step)
    where
      shown : (a : ℕ) (es : List Entry) (x z : ActorState) (e : Entry) → AllSuit t program (results_from t [] es) a x.thread.frames → ActorStep (core t program) a x e z → Shows es e
      shown a es x z e holds step =
          let k = taken t program a x z e step.part in
          let fit = fits_what a k.asked.0 e.what k.fit in
          record {
            commands = ap (λ n. sets_or_saves t.model n e.what) k.instance ∙ answers_commands k.asked.0 e.what k.asked.1 k.answer;
            alone = answers_alone k.asked.0 e.what k.asked.1 k.answer (fit_values t program k.asked.0 e.what fit);
            notes = answers_notes (results_from t [] es) a k.asked.0 x e.what k.asked.1 k.answer k.due holds;
            returned = step_returns t program sound good (results_from t [] es) a x z e holds k;
          }

  -- a test that each entry of a run passes
  pub all_pass : (p : Entry → Bool) (es : List Entry) (v : World InstanceState ActorState) → Run (core t program) (opening (core t program)) es v
      → ((before : List Entry) (e : Entry) → fits t program e.actor e.instance e.what ≡ true → Shows before e → p e ≡ true) → list_all p es ≡ true
  all_pass p es v h f =
      all_of_each p es (λ before rest e is. f (by_actor e.actor before) e (run_fits t program es v h before e rest is) (run_shows es v h before e rest is))
