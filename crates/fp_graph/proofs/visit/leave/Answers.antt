use Rattle.std.proofs.Common.{◌≡◌, ℕ, ◌∷◌, List, length, None, sym, subst, arith}
use Rattle.std.proofs.lemmas.Result.{on_ok_weaker}
use Rattle.fp_graph.specs.declared.stretch.Stretch.{Stretch}
use Rattle.fp_graph.specs.declared.visit.Frame.{Frame}
use Rattle.fp_graph.specs.declared.visit.Walk.{Walk}
use Rattle.fp_graph.specs.Visits.{State, Stage, IsStep, IsRing, state_of, under, with_heads}
use Rattle.fp_graph.proofs.Steps.{top_within, top_open, open_within, left_step, settled_step}
use Rattle.fp_graph.proofs.visit.leave.Goals as goal

-- the stage with the head in front
with_head : (stretches : List Stretch) (targets : List ℕ) (f : Frame) (s t : State) → s ≡ with_heads (f.at ∷ t.heads) t → Stage stretches targets None (under f s)
    → Stage stretches targets None (under f (with_heads (f.at ∷ t.heads) t))
with_head stretches targets f s t e stage = subst (λ (x : State). Stage stretches targets None (under f x)) e stage

from_head : (stretches : List Stretch) (targets : List ℕ) (f : Frame) (s t after : State) → s ≡ with_heads (f.at ∷ t.heads) t
    → IsStep stretches targets (under f (with_heads (f.at ∷ t.heads) t)) after → IsStep stretches targets (under f s) after
from_head stretches targets f s t after e step = subst (λ (x : State). IsStep stretches targets (under f x) after) (sym e) step

pub is_ring-cyclic-requires-clause-within : goal.is_ring-cyclic-requires-clause-within
is_ring-cyclic-requires-clause-within c = top_within c.args.stretches.now c.args.targets.now (state_of c.args.walk.now) c.args.frame c.requires.stage

pub is_ring-cyclic-requires-clause-open : goal.is_ring-cyclic-requires-clause-open
is_ring-cyclic-requires-clause-open c =
    let t = state_of c.pop_at.new.walk in
    let stage = with_head c.args.stretches.now c.args.targets.now c.args.frame (state_of c.args.walk.now) t c.if-pop_at.ensures c.requires.stage in
    let lt = top_open c.args.stretches.now c.args.targets.now (with_heads (c.args.frame.at ∷ t.heads) t) c.args.frame stage in
    omega (arith, c.len.ensures, c.pop_at.new.walk.opened.ok.0)

pub settle-requires-clause-within : goal.settle-requires-clause-within
settle-requires-clause-within c =
    let t = state_of c.pop_at.new.walk in
    let stage = with_head c.args.stretches.now c.args.targets.now c.args.frame (state_of c.args.walk.now) t c.if-pop_at.ensures c.requires.stage in
    open_within c.args.stretches.now c.args.targets.now (with_heads (c.args.frame.at ∷ t.heads) t) c.args.frame stage

pub settle-requires-clause-open : goal.settle-requires-clause-open
settle-requires-clause-open c =
    let t = state_of c.pop_at.new.walk in
    let stage = with_head c.args.stretches.now c.args.targets.now c.args.frame (state_of c.args.walk.now) t c.if-pop_at.ensures c.requires.stage in
    top_open c.args.stretches.now c.args.targets.now (with_heads (c.args.frame.at ∷ t.heads) t) c.args.frame stage

pub returns-then-pop_at : goal.returns-then-pop_at
returns-then-pop_at c =
    let stretches = c.args.stretches.now in
    let targets = c.args.targets.now in
    let f = c.args.frame in
    let t = state_of c.pop_at.new.walk in
    let cyclic = c.is_ring-cyclic.result in
    let stage = with_head stretches targets f (state_of c.args.walk.now) t c.if-pop_at.ensures c.requires.stage in
    let long : c.len.result ≡ length t.opened = omega (arith, c.len.ensures, c.pop_at.new.walk.opened.ok.0) in
    let ring = subst (λ (n : ℕ). IsRing stretches targets n f cyclic) long c.is_ring-cyclic.ensures in
    on_ok_weaker c.settle.result
    (λ e.
    from_head stretches targets f (state_of c.args.walk.now) t (state_of c.settle.new.walk) c.if-pop_at.ensures
    (subst (λ (x : State). IsStep stretches targets (under f (with_heads (f.at ∷ t.heads) t)) x) (sym e)
    (settled_step stretches targets t f t.heads cyclic stage c.requires.over ring)))
    c.settle.ensures

pub returns : goal.returns
returns c =
    let stretches = c.args.stretches.now in
    let targets = c.args.targets.now in
    let f = c.args.frame in
    subst (λ (w : Walk). IsStep stretches targets (under f (state_of c.args.walk.now)) (state_of w)) (sym c.if-pop_at.ensures.0)
    (left_step stretches targets (state_of c.args.walk.now) f c.requires.stage c.requires.over c.if-pop_at.ensures.1)
