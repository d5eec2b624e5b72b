use Rattle.std.proofs.Common.{◌≡◌, ℕ, List, None, get_or, sym, subst, ap, ◌∙◌, arith}
use Rattle.std.proofs.lemmas.Option.{slice_get-get_or, slice_get_within}
use Rattle.std.proofs.lemmas.Result.{on_ok_weaker}
use Rattle.fp_graph.specs.declared.stretch.Stretch.{Stretch}
use Rattle.fp_graph.specs.declared.visit.Frame.{Frame}
use Rattle.fp_graph.specs.declared.visit.Mark.{Mark}
use Rattle.fp_graph.specs.declared.visit.Met.{Met}
use Rattle.fp_graph.specs.declared.visit.Met.TheVariants as met
use Rattle.fp_graph.specs.declared.visit.Mark.TheVariants as mark
use Rattle.fp_graph.specs.declared.visit.Walk.{Walk}
use Rattle.fp_graph.specs.Visits.{State, Stage, IsStep, IsLook, state_of, under, moved, entered}
use Rattle.fp_graph.proofs.Steps.{passed_step, met_step, joined_step, entered_step}
use Rattle.fp_graph.proofs.visit.advance.Goals as goal

looked : {marks read : List Mark} (targets : List ℕ) (at : ℕ) (met : Met) → read ≡ marks → IsLook read targets at met → IsLook marks targets at met
looked targets at met e h = subst (λ (m : List Mark). IsLook m targets at met) e h

ends_as : (stretches : List Stretch) (targets : List ℕ) (before t u : State) → t ≡ u → IsStep stretches targets before u → IsStep stretches targets before t
ends_as stretches targets before t u e step = subst (λ (x : State). IsStep stretches targets before x) (sym e) step

pub returns-in-Nothing : goal.returns-in-Nothing
returns-in-Nothing c =
    let stretches = c.args.stretches.now in
    let targets = c.args.targets.now in
    let f = c.args.frame in
    let s = state_of c.args.walk.now in
    on_ok_weaker c.put-in-Nothing.result
    (λ e.
    ends_as stretches targets (under f s) (state_of c.put-in-Nothing.new.walk) (under (moved f) s) (e ∙ ap (λ (g : Frame). under g s) c.behind-in-Nothing.ensures)
    (passed_step stretches targets s f c.requires (omega arith) (subst (λ (m : List Mark). IsLook m targets f.next met.Nothing) c.deref.ensures.value c.in-Nothing.ensures)))
    c.put-in-Nothing.ensures

pub returns-in_ok-put-in-New : goal.returns-in_ok-put-in-New
returns-in_ok-put-in-New c =
    let stretches = c.args.stretches.now in
    let targets = c.args.targets.now in
    let f = c.args.frame in
    let s = state_of c.args.walk.now in
    let v = c.in-New.vertex in
    let look = looked targets f.next (met.New v) c.deref.ensures.value c.in-New.ensures in
    let each = c.requires.each in
    let below = slice_get_within s.marks v mark.Unseen look.1 in
    let none : Stretch = record { first = 0; end = 0 } in
    let stretch = get_or stretches v none in
    let at = slice_get-get_or stretches v none (omega arith) in
    on_ok_weaker c.enter.result
    (λ e.
    ends_as stretches targets (under f s) (state_of c.enter.new.walk) (entered v stretch (under (moved f) s))
    (e ∙ ap (entered v stretch) (c.in_ok-put-in-New.ensures ∙ ap (λ (g : Frame). under g s) c.behind.ensures))
    (entered_step stretches targets s f c.requires (omega arith) v stretch look.0 look.1 at))
    c.enter.ensures

pub returns-in-Some : goal.returns-in-Some
returns-in-Some c =
    let stretches = c.args.stretches.now in
    let targets = c.args.targets.now in
    let f = c.args.frame in
    let s = state_of c.args.walk.now in
    let t = state_of c.pop_above.new.walk in
    let head = c.in-Some.field-0 in
    let e = c.in-Some.ensures.0 in
    let stage = subst (λ (x : State). Stage stretches targets None (under f x)) e c.requires in
    let look = subst (λ (x : State). IsLook x.marks targets f.next (met.Open c.in-Open.place)) e (looked targets f.next (met.Open c.in-Open.place) c.deref.ensures.value c.in-Open.ensures) in
    on_ok_weaker c.put-in-Some.result
    (λ k.
    ends_as stretches targets (under f s) (state_of c.put-in-Some.new.walk) (under f t) k
    (subst (λ (x : State). IsStep stretches targets (under f x) (under f t)) (sym e)
    (joined_step stretches targets t f head t.heads stage (omega arith) look.0 c.in-Open.place look.1 look.2 c.in-Some.ensures.1)))
    c.put-in-Some.ensures

pub returns-in-None : goal.returns-in-None
returns-in-None c =
    let stretches = c.args.stretches.now in
    let targets = c.args.targets.now in
    let f = c.args.frame in
    let s = state_of c.args.walk.now in
    let look = looked targets f.next (met.Open c.in-Open.place) c.deref.ensures.value c.in-Open.ensures in
    on_ok_weaker c.put-in-None.result
    (λ e.
    ends_as stretches targets (under f s) (state_of c.put-in-None.new.walk) (under (moved f) s)
    (e ∙ ap (λ (w : Walk). under c.behind-in-None.result (state_of w)) c.in-None.ensures.0 ∙ ap (λ (g : Frame). under g s) c.behind-in-None.ensures)
    (met_step stretches targets s f c.requires (omega arith) look.0 c.in-Open.place look.1 look.2 c.in-None.ensures.1))
    c.put-in-None.ensures
