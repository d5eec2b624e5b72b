-- What is left where the first action of a frame is done, and where a value is bound.
use Rattle.std.proofs.Common.{◌≡◌, ℕ, true, List, [], ◌∷◌, ◌++◌, Option, Some, None, subst}
use Rattle.fp_base.specs.declared.value.Value.{Value}
use Rattle.fp_tables.specs.Acts.{bound_to}
use Rattle.fp_tables.specs.Arguments.{Scope, with_bound}
use Rattle.fp_tables.specs.Lookup.{Described}
use Rattle.fp_tables.specs.Types.{has_kind}
use Rattle.fp_tables.specs.declared.kind.Kind.{Kind}
use Rattle.fp_tables.specs.declared.program.Program.{Program}
use Rattle.fp_events.specs.Actor.{Bindings, Action, Doing, Opened, arrived, Frame}
use Rattle.fp_events.specs.Due.{first_action, first_in}
use Rattle.fp_events.specs.Follows.{without_first, without_first_in, bind, in_frame, doing, removed, bound_below}
use Rattle.fp_run_laws.specs.Suits.{source, ActionsSuit, after, DoingsSuit, Returns, FramesSuit, AllSuit}
use Rattle.fp_run_laws.proofs.Scopes.{one_more_suits}

module _ (t : Described) (program : Program) where
  -- what the first action binds
  abbrev pub first_answer : Option (Action × Bindings) → Scope → Scope
  first_answer None scope = scope
  first_answer (Some (x, b)) scope = after t program x scope

  module _ (o : Opened) (i : ℕ) (result : Option Kind) where
    pub same_answer : (f g : Scope → Scope) (ds : List Doing) → ((scope : Scope) → f scope ≡ g scope) → DoingsSuit t program o i result f ds → DoingsSuit t program o i result g ds
    same_answer f g [] same h = tt
    same_answer f g (d ∷ ds) same h = (
      record {
        place = h.0.place;
        scope = h.0.scope;
        returns = h.0.returns;
        actions = subst (λ (s : Scope). ActionsSuit t program (source o i h.0.place) s d.actions) (same h.0.scope) h.0.actions;
        bound = h.0.bound;
      },
      h.1,
    )

    pub without_first_suits : (ds : List Doing) → DoingsSuit t program o i result (λ scope. scope) ds → DoingsSuit t program o i result (first_answer (first_action ds)) (without_first ds)
    without_first_suits [] h = tt
    without_first_suits (d ∷ ds) h = go d.actions h.0.actions (without_first_suits ds h.1)
      where
        go : (xs : List Action) → ActionsSuit t program (source o i h.0.place) h.0.scope xs → DoingsSuit t program o i result (first_answer (first_action ds)) (without_first ds)
            → DoingsSuit t program o i result (first_answer (first_in d xs (first_action ds))) (without_first_in d xs ds (without_first ds))
        go [] k rest = rest
        go (y ∷ ys) k rest = (record { place = h.0.place; scope = h.0.scope; returns = h.0.returns; actions = k.1; bound = h.0.bound }, h.1)

    pub bind_suits : (name : List ℕ) (k : Kind) (v : Value) (ds : List Doing) → has_kind t.model.types k v ≡ true → DoingsSuit t program o i result (with_bound name k) ds → DoingsSuit t program o i result (λ scope. scope) (bind name v ds)
    bind_suits name k v [] is h = tt
    bind_suits name k v (d ∷ ds) is h = (
      record {
        place = h.0.place;
        scope = with_bound name k h.0.scope;
        returns = h.0.returns;
        actions = h.0.actions;
        bound = one_more_suits t.model.types name k v h.0.scope d.bound is h.0.bound;
      },
      h.1,
    )

    pub more_suit : (ds es : List Doing) → DoingsSuit t program o i result (λ scope. scope) ds → DoingsSuit t program o i result (λ scope. scope) es → DoingsSuit t program o i result (λ scope. scope) (ds ++ es)
    more_suit [] es h k = k
    more_suit (d ∷ ds) es h k = (h.0, more_suit ds es h.1 k)

  -- ---- frames

  pub frames_same_answer : (ks : List (Option Kind)) (a : ℕ) (f g : Scope → Scope) (fs : List Frame) → ((scope : Scope) → f scope ≡ g scope) → FramesSuit t program ks a f fs → FramesSuit t program ks a g fs
  frames_same_answer ks a f g [] same h = h
  frames_same_answer ks a f g (x ∷ fs) same h = (h.0, same_answer x.opened x.instance h.0 f g x.doing same h.1, h.2)

  pub removed_suits : (ks : List (Option Kind)) (a : ℕ) (fs : List Frame) → AllSuit t program ks a fs → FramesSuit t program ks a (first_answer (first_action (doing fs))) (removed fs)
  removed_suits ks a [] h = h
  removed_suits ks a (f ∷ fs) h = (h.0, without_first_suits f.opened f.instance h.0 f.doing h.1, h.2)

  -- where the first action binds nothing
  pub quietly_removed : (ks : List (Option Kind)) (a : ℕ) (fs : List Frame) → AllSuit t program ks a fs → ((scope : Scope) → first_answer (first_action (doing fs)) scope ≡ scope) → AllSuit t program ks a (removed fs)
  quietly_removed ks a fs h quiet = frames_same_answer ks a (first_answer (first_action (doing fs))) (λ scope. scope) (removed fs) quiet (removed_suits ks a fs h)

  -- a value that is awaited is bound
  pub in_frame_bound : (ks : List (Option Kind)) (a : ℕ) (name : List ℕ) (k : Kind) (v : Value) (fs : List Frame) → has_kind t.model.types k v ≡ true → FramesSuit t program ks a (with_bound name k) fs → AllSuit t program ks a (in_frame (bind name v) fs)
  in_frame_bound ks a name k v [] is h = h
  in_frame_bound ks a name k v (f ∷ fs) is h = (h.0, bind_suits f.opened f.instance h.0 name k v f.doing is h.1, h.2)

  pub bound_below_suits : (ks : List (Option Kind)) (a : ℕ) (default : Option Value) (name : Option (List ℕ)) (result : Option Kind) (v : Option Value) (fs : List Frame) → Returns t program result v → FramesSuit t program ks a (bound_to name result) fs
      → AllSuit t program ks a (bound_below (arrived default name) v fs)
  bound_below_suits ks a default None result v fs r h = h
  bound_below_suits ks a default (Some name) (Some k) (Some v) fs r h = in_frame_bound ks a name k v fs r h
  bound_below_suits ks a default (Some name) None None fs r h = h
  bound_below_suits ks a default (Some name) None (Some v) fs r h = absurd r
  bound_below_suits ks a default (Some name) (Some k) None fs r h = absurd r
