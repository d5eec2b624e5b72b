-- What an entry makes of the frames, by levels.
use Rattle.std.proofs.Common.{◌≡◌, ℕ, List, [], ◌∷◌, ◌++◌, map, reverse, take, Option, Some, option_map, unwrap_or, refl, sym, ap, ◌∙◌}
use Rattle.std.specs.List.{slice_get}
use Rattle.std.specs.Option.{option_and_then}
use Rattle.fp_base.specs.declared.value.Value.{Value}
use Rattle.fp_tables.specs.Lookup.{Described}
use Rattle.fp_tables.specs.declared.program.Program.{Program}
use Rattle.fp_events.specs.declared.event.Entry.{Entry}
use Rattle.fp_events.specs.declared.event.Fate.TheVariants as fate
use Rattle.fp_events.specs.declared.event.What.{What}
use Rattle.fp_events.specs.declared.event.What.TheVariants as what
use Rattle.fp_events.specs.Actor.{Action, act, send, advance, Bindings, Doing, arrived, taken, Frame, Thread}
use Rattle.fp_events.specs.Due.{first_action}
use Rattle.fp_events.specs.Follows.{doing, in_frame, performed, value_in, removed, replaced, without_first, name_for, follows}
use Rattle.fp_actor.specs.declared.level.Source.TheVariants as source
use Rattle.fp_actor.specs.declared.level.Base.{Base}
use Rattle.fp_actor.specs.declared.level.Base.TheVariants as base
use Rattle.fp_actor.specs.declared.level.Level.{Level}
use Rattle.fp_actor.specs.declared.level.Binding.{Binding}
use Rattle.fp_actor.specs.declared.lists.Deed.{Deed}
use Rattle.fp_actor.specs.declared.stack.First.{First}
use Rattle.fp_actor.specs.Levels.{begun, advanced, level_of_entry}
use Rattle.fp_actor.specs.Stacked.{action_of, bindings_of, lists_in, value_at, default_in, instance_of, called, binding, made, left, over, frames, stacked, IsFirst}
use Rattle.fp_actor.specs.Entries.{lists_of, default_of, IsOpening, IsRemoving, IsTaking, IsSending, IsStarting, IsMoving}
use Rattle.fp_actor.proofs.Settling.{begun_nothing}
use Rattle.fp_actor.proofs.Stacking.{snoc, drop_all}

name_same : (x : Action) (bs cs : Bindings) → name_for (Some (x, bs)) ≡ name_for (Some (x, cs))
name_same (act a) bs cs = refl
name_same (send s note) bs cs = refl
name_same (advance r s v) bs cs = refl

pub rest_of_frames : (g : Frame) (gs : List Frame) (f : Frame) (fs : List Frame) {all : List Frame} → all ≡ g ∷ gs → all ≡ f ∷ fs → gs ≡ fs
rest_of_frames g gs f fs e h = let same : g ∷ gs ≡ f ∷ fs = sym e ∙ h in cc

module _ (t : Described) (program : Program) (number : ℕ) (trace : List Entry) (bindings : List Binding) where
  module _ (n v b : ℕ) (e : Entry) (there : slice_get trace n ≡ Some e) where
    new : Base → Level
    new base = level_of_entry base n v b

    lists_there : lists_in t program number trace (source.Entry n v) ≡ lists_of t program (value_at t program number trace v) e.instance e.what
    lists_there = ap (λ (o : Option Entry). unwrap_or (option_map (λ (x : Entry). lists_of t program (value_at t program number trace v) x.instance x.what) o) []) there

    instance_there : instance_of t program number trace (source.Entry n v) ≡ e.instance
    instance_there = ap (λ (o : Option Entry). unwrap_or (option_map (λ (x : Entry). x.instance) o) 0) there

    default_there : default_in t program number trace (source.Entry n v) ≡ default_of t program e.instance e.what
    default_there = ap (λ (o : Option Entry). option_and_then (λ (x : Entry). default_of t program x.instance x.what) o) there

    nothing_made : (base : Base) → made t program number trace bindings (level_of_entry base n v b) ≡ []
    nothing_made base = ap (λ (bs : List Binding). map (binding t program number trace) (reverse bs)) (drop_all b bindings)

    left_there : (base : Base) → left t program number trace bindings (level_of_entry base n v b) ≡ lists_of t program (value_at t program number trace v) e.instance e.what
    left_there base =
        ap (λ (bs : Bindings). begun 0 bs (lists_in t program number trace (source.Entry n v))) (nothing_made base)
        ∙ begun_nothing (lists_in t program number trace (source.Entry n v)) ∙ lists_there

    pub taken_frame : (xs : List Level) (fs : List Frame) → v ≡ n → frames t program number trace bindings xs ≡ fs →
        frames t program number trace bindings (xs ++ level_of_entry base.Taken n v b ∷ [])
        ≡ record { instance = e.instance; doing = lists_of t program (value_at t program number trace v) e.instance e.what; opened = taken } ∷ fs
    taken_frame xs fs same h =
        let frame : ℕ → List Doing → List Frame → List Frame = λ j ds gs. record { instance = j; doing = ds; opened = taken } ∷ gs in
        snoc t program number trace bindings [] xs (level_of_entry base.Taken n v b) ∙ (λ k. frame (instance_there k) (left_there base.Taken k) (h k))

    taking : (x : Thread) (w : What) → IsTaking w →
        record { instance = e.instance; doing = lists_of t program (value_at t program number trace v) e.instance w; opened = taken } ∷ removed x.frames ≡ (follows t program e.instance x w).frames
    unfolding follows
    taking x (what.Take k point with) o = refl
    taking x (what.Enter r) o = absurd o
    taking x (what.Guard r) o = absurd o
    taking x (what.Set r) o = absurd o
    taking x (what.Save r value) o = absurd o
    taking x (what.Put k r) o = absurd o
    taking x (what.Dropped r) o = absurd o
    taking x (what.Hooked r) o = absurd o
    taking x (what.Asserted r) o = absurd o
    taking x (what.Leave y) o = absurd o
    taking x what.Done o = absurd o
    taking x what.Empty o = absurd o
    taking x (what.Emit event fate text) o = absurd o
    taking x (what.Write channel fate y) o = absurd o
    taking x (what.Read param y) o = absurd o
    taking x (what.Start running actions leaf) o = absurd o
    taking x (what.Move running signal actions leaf) o = absurd o

    pub taking_follows : (xs : List Level) (x : Thread) → v ≡ n → IsTaking e.what → frames t program number trace bindings xs ≡ removed x.frames →
        frames t program number trace bindings (xs ++ level_of_entry base.Taken n v b ∷ []) ≡ (follows t program e.instance x e.what).frames
    taking_follows xs x same o h = taken_frame xs (removed x.frames) same h ∙ taking x e.what o

    -- lists that stand in place of the first action
    placed_over : (ds : List Doing) (fs : List Frame) (y : Action × Bindings) (l : Level) → first_action (doing fs) ≡ Some y → left t program number trace bindings l ≡ ds →
        over t program number trace bindings base.Inside l (removed fs) ≡ replaced ds fs
    placed_over ds [] y l h e = absurd (cc)
    placed_over ds (f ∷ fs) y l h e = ap (λ (cs : List Doing). record f { doing = cs ++ without_first f.doing } ∷ fs) e

    sending : (x : Thread) (w : What) → IsSending w → replaced (lists_of t program (value_at t program number trace v) e.instance w) x.frames ≡ (follows t program e.instance x w).frames
    unfolding follows
    sending x (what.Emit event fate.Sent text) o = refl
    sending x (what.Write channel fate.Sent y) o = refl
    sending x (what.Emit event fate.Held text) o = absurd o
    sending x (what.Emit event fate.Same text) o = absurd o
    sending x (what.Emit event fate.Unwired text) o = absurd o
    sending x (what.Write channel fate.Held y) o = absurd o
    sending x (what.Write channel fate.Same y) o = absurd o
    sending x (what.Write channel fate.Unwired y) o = absurd o
    sending x (what.Move running signal actions leaf) o = absurd o
    sending x (what.Take k point with) o = absurd o
    sending x (what.Enter r) o = absurd o
    sending x (what.Guard r) o = absurd o
    sending x (what.Set r) o = absurd o
    sending x (what.Save r value) o = absurd o
    sending x (what.Put k r) o = absurd o
    sending x (what.Dropped r) o = absurd o
    sending x (what.Hooked r) o = absurd o
    sending x (what.Asserted r) o = absurd o
    sending x (what.Leave y) o = absurd o
    sending x what.Done o = absurd o
    sending x what.Empty o = absurd o
    sending x (what.Read param y) o = absurd o
    sending x (what.Start running actions leaf) o = absurd o

    pub sending_follows : (xs : List Level) (x : Thread) (y : Action × Bindings) → IsSending e.what → first_action (doing x.frames) ≡ Some y → frames t program number trace bindings xs ≡ removed x.frames →
        frames t program number trace bindings (xs ++ level_of_entry base.Inside n v b ∷ []) ≡ (follows t program e.instance x e.what).frames
    sending_follows xs x y o some h =
        snoc t program number trace bindings [] xs (level_of_entry base.Inside n v b) ∙ ap (over t program number trace bindings base.Inside (level_of_entry base.Inside n v b)) h
        ∙ placed_over (lists_of t program (value_at t program number trace v) e.instance e.what) x.frames y (level_of_entry base.Inside n v b) some (left_there base.Inside) ∙ sending x e.what o

    start_same : (running : ℕ) (actions : List ℕ) (y : Option Value) (fs : List Frame) → value_in (first_action (doing fs)) ≡ y →
        in_frame (λ old. performed t program e.instance running actions y ++ old) fs ≡ in_frame (λ old. performed t program e.instance running actions (value_in (first_action old)) ++ old) fs
    start_same running actions y [] h = refl
    start_same running actions y (f ∷ fs) h = ap (λ (o : Option Value). record f { doing = performed t program e.instance running actions o ++ f.doing } ∷ fs) (sym h)

    move_same : (running : ℕ) (actions : List ℕ) (y : Option Value) (fs : List Frame) → value_in (first_action (doing fs)) ≡ y →
        replaced (performed t program e.instance running actions y) fs ≡ in_frame (λ old. performed t program e.instance running actions (value_in (first_action old)) ++ without_first old) fs
    move_same running actions y [] h = refl
    move_same running actions y (f ∷ fs) h = ap (λ (o : Option Value). record f { doing = performed t program e.instance running actions o ++ without_first f.doing } ∷ fs) (sym h)

    starting : (x : Thread) (w : What) → IsStarting w → value_in (first_action (doing x.frames)) ≡ value_at t program number trace v →
        in_frame (λ old. lists_of t program (value_at t program number trace v) e.instance w ++ old) x.frames ≡ (follows t program e.instance x w).frames
    unfolding follows
    starting x (what.Start running actions leaf) o h = start_same running actions (value_at t program number trace v) x.frames h
    starting x (what.Move running signal actions leaf) o h = absurd o
    starting x (what.Emit event fate text) o h = absurd o
    starting x (what.Write channel fate y) o h = absurd o
    starting x (what.Take k point with) o h = absurd o
    starting x (what.Enter r) o h = absurd o
    starting x (what.Guard r) o h = absurd o
    starting x (what.Set r) o h = absurd o
    starting x (what.Save r value) o h = absurd o
    starting x (what.Put k r) o h = absurd o
    starting x (what.Dropped r) o h = absurd o
    starting x (what.Hooked r) o h = absurd o
    starting x (what.Asserted r) o h = absurd o
    starting x (what.Leave y) o h = absurd o
    starting x what.Done o h = absurd o
    starting x what.Empty o h = absurd o
    starting x (what.Read param y) o h = absurd o

    moving : (x : Thread) (w : What) → IsMoving w → value_in (first_action (doing x.frames)) ≡ value_at t program number trace v →
        replaced (lists_of t program (value_at t program number trace v) e.instance w) x.frames ≡ (follows t program e.instance x w).frames
    unfolding follows
    moving x (what.Move running signal actions leaf) o h = move_same running actions (value_at t program number trace v) x.frames h
    moving x (what.Start running actions leaf) o h = absurd o
    moving x (what.Emit event fate text) o h = absurd o
    moving x (what.Write channel fate y) o h = absurd o
    moving x (what.Take k point with) o h = absurd o
    moving x (what.Enter r) o h = absurd o
    moving x (what.Guard r) o h = absurd o
    moving x (what.Set r) o h = absurd o
    moving x (what.Save r value) o h = absurd o
    moving x (what.Put k r) o h = absurd o
    moving x (what.Dropped r) o h = absurd o
    moving x (what.Hooked r) o h = absurd o
    moving x (what.Asserted r) o h = absurd o
    moving x (what.Leave y) o h = absurd o
    moving x what.Done o h = absurd o
    moving x what.Empty o h = absurd o
    moving x (what.Read param y) o h = absurd o

    placed_before : (ds : List Doing) (fs : List Frame) (y : Action × Bindings) (l : Level) → first_action (doing fs) ≡ Some y → left t program number trace bindings l ≡ ds →
        over t program number trace bindings base.Inside l fs ≡ in_frame (λ old. ds ++ old) fs
    placed_before ds [] y l h e = absurd (cc)
    placed_before ds (f ∷ fs) y l h e = ap (λ (cs : List Doing). record f { doing = cs ++ f.doing } ∷ fs) e

    pub starting_follows : (ls : List Level) (x : Thread) (d : Deed) (bs : Bindings) → IsStarting e.what → value_in (Some (action_of t program number trace d, bs)) ≡ value_at t program number trace v → first_action (doing x.frames) ≡ Some (action_of t program number trace d, bs) →
        frames t program number trace bindings ls ≡ x.frames → frames t program number trace bindings (ls ++ level_of_entry base.Inside n v b ∷ []) ≡ (follows t program e.instance x e.what).frames
    starting_follows ls x d bs o is first h =
        snoc t program number trace bindings [] ls (level_of_entry base.Inside n v b) ∙ ap (over t program number trace bindings base.Inside (level_of_entry base.Inside n v b)) h
        ∙ placed_before (lists_of t program (value_at t program number trace v) e.instance e.what) x.frames _ (level_of_entry base.Inside n v b) first (left_there base.Inside)
        ∙ starting x e.what o (ap value_in first ∙ is)

    pub moving_follows : (ls : List Level) (x : Thread) (d : Deed) (bs : Bindings) → IsMoving e.what → value_in (Some (action_of t program number trace d, bs)) ≡ value_at t program number trace v → first_action (doing x.frames) ≡ Some (action_of t program number trace d, bs) →
        frames t program number trace bindings ls ≡ removed x.frames → frames t program number trace bindings (ls ++ level_of_entry base.Inside n v b ∷ []) ≡ (follows t program e.instance x e.what).frames
    moving_follows ls x d bs o is first h =
        snoc t program number trace bindings [] ls (level_of_entry base.Inside n v b) ∙ ap (over t program number trace bindings base.Inside (level_of_entry base.Inside n v b)) h
        ∙ placed_over (lists_of t program (value_at t program number trace v) e.instance e.what) x.frames _ (level_of_entry base.Inside n v b) first (left_there base.Inside)
        ∙ moving x e.what o (ap value_in first ∙ is)

  module _ (ls : List Level) (f : First) (i : IsFirst t program number trace bindings ls f) where
    name_there : called t program number trace (Some f.level.next) ≡ name_for (first_action (doing (frames t program number trace bindings ls)))
    name_there =
        ap (λ (o : Option Action). name_for (option_map (λ (x : Action). (x, [])) o)) i.action ∙ name_same (action_of t program number trace f.deed) [] (bindings_of t program number trace bindings f.level) ∙ ap name_for (sym i.first)

    module _ (n b : ℕ) (e : Entry) (there : slice_get trace n ≡ Some e) where
      opened_frame : stacked t program number trace bindings [] ((take f.below ls ++ advanced f.level ∷ []) ++ level_of_entry (base.Arrived (Some f.level.next)) n n b ∷ [])
          ≡ record {
            instance = e.instance;
            doing = lists_of t program (value_at t program number trace n) e.instance e.what;
            opened = arrived (default_of t program e.instance e.what) (name_for (first_action (doing (frames t program number trace bindings ls))));
          } ∷ removed (frames t program number trace bindings ls)
      opened_frame =
          let frame : ℕ → List Doing → Option Value → Option (List ℕ) → List Frame → List Frame = λ j ds d name fs. record { instance = j; doing = ds; opened = arrived d name } ∷ fs in
          snoc t program number trace bindings [] (take f.below ls ++ advanced f.level ∷ []) (level_of_entry (base.Arrived (Some f.level.next)) n n b)
          ∙ (λ k. frame (instance_there n n b e there k) (left_there n n b e there (base.Arrived (Some f.level.next)) k) (default_there n n b e there k) (name_there k) (i.rest k))

      opens : (x : Thread) (w : What) → IsOpening w → x.frames ≡ frames t program number trace bindings ls →
          record {
            instance = e.instance;
            doing = lists_of t program (value_at t program number trace n) e.instance w;
            opened = arrived (default_of t program e.instance w) (name_for (first_action (doing (frames t program number trace bindings ls))));
          } ∷ removed (frames t program number trace bindings ls)
          ≡ (follows t program e.instance x w).frames
      unfolding follows
      opens x (what.Enter r) o h = ap (λ (fs : List Frame). (follows t program e.instance (record { frames = fs; halted = x.halted }) (what.Enter r)).frames) (sym h)
      opens x (what.Guard r) o h = ap (λ (fs : List Frame). (follows t program e.instance (record { frames = fs; halted = x.halted }) (what.Guard r)).frames) (sym h)
      opens x (what.Set r) o h = ap (λ (fs : List Frame). (follows t program e.instance (record { frames = fs; halted = x.halted }) (what.Set r)).frames) (sym h)
      opens x (what.Save r value) o h = ap (λ (fs : List Frame). (follows t program e.instance (record { frames = fs; halted = x.halted }) (what.Save r value)).frames) (sym h)
      opens x (what.Put k r) o h = absurd o
      opens x (what.Dropped r) o h = absurd o
      opens x (what.Hooked r) o h = ap (λ (fs : List Frame). (follows t program e.instance (record { frames = fs; halted = x.halted }) (what.Hooked r)).frames) (sym h)
      opens x (what.Asserted r) o h = absurd o
      opens x (what.Leave v) o h = absurd o
      opens x what.Done o h = absurd o
      opens x (what.Take k point with) o h = absurd o
      opens x what.Empty o h = absurd o
      opens x (what.Emit event fate text) o h = absurd o
      opens x (what.Write channel fate v) o h = absurd o
      opens x (what.Read param v) o h = absurd o
      opens x (what.Start running actions leaf) o h = absurd o
      opens x (what.Move running signal actions leaf) o h = absurd o

      pub opening_follows : (x : Thread) → IsOpening e.what → x.frames ≡ frames t program number trace bindings ls →
          frames t program number trace bindings ((take f.below ls ++ advanced f.level ∷ []) ++ level_of_entry (base.Arrived (Some f.level.next)) n n b ∷ []) ≡ (follows t program e.instance x e.what).frames
      opening_follows x o h = opened_frame ∙ opens x e.what o h

    pub removed_follows : (e : ℕ) (x : Thread) (w : What) → IsRemoving w → x.frames ≡ frames t program number trace bindings ls →
        frames t program number trace bindings (take f.below ls ++ advanced f.level ∷ []) ≡ (follows t program e x w).frames
    unfolding follows
    removed_follows e x (what.Put k r) o h = i.rest ∙ ap removed (sym h)
    removed_follows e x (what.Dropped r) o h = i.rest ∙ ap removed (sym h)
    removed_follows e x (what.Hooked r) o h = absurd o
    removed_follows e x what.Empty o h = i.rest ∙ ap removed (sym h)
    removed_follows e x (what.Enter r) o h = absurd o
    removed_follows e x (what.Guard r) o h = absurd o
    removed_follows e x (what.Set r) o h = absurd o
    removed_follows e x (what.Save r value) o h = absurd o
    removed_follows e x (what.Asserted r) o h = absurd o
    removed_follows e x (what.Leave v) o h = absurd o
    removed_follows e x what.Done o h = absurd o
    removed_follows e x (what.Take k point with) o h = absurd o
    removed_follows e x (what.Emit event fate.Sent text) o h = absurd o
    removed_follows e x (what.Emit event fate.Held text) o h = i.rest ∙ ap removed (sym h)
    removed_follows e x (what.Emit event fate.Same text) o h = i.rest ∙ ap removed (sym h)
    removed_follows e x (what.Emit event fate.Unwired text) o h = i.rest ∙ ap removed (sym h)
    removed_follows e x (what.Write channel fate.Sent v) o h = absurd o
    removed_follows e x (what.Write channel fate.Held v) o h = i.rest ∙ ap removed (sym h)
    removed_follows e x (what.Write channel fate.Same v) o h = i.rest ∙ ap removed (sym h)
    removed_follows e x (what.Write channel fate.Unwired v) o h = i.rest ∙ ap removed (sym h)
    removed_follows e x (what.Read param v) o h = absurd o
    removed_follows e x (what.Start running actions leaf) o h = absurd o
    removed_follows e x (what.Move running signal actions leaf) o h = absurd o
