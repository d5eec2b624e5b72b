-- What an entry makes of the frames that closes one, or none.
use Rattle.std.proofs.Common.{◌≡◌, ℕ, true, false, List, [], ◌∷◌, take, Option, Some, None, is_some, refl, sym, ap, ◌∙◌}
use Rattle.fp_base.specs.declared.value.Value.{Value}
use Rattle.fp_tables.specs.Lookup.{Described}
use Rattle.fp_tables.specs.declared.program.Program.{Program}
use Rattle.fp_events.specs.declared.event.What.{What}
use Rattle.fp_events.specs.declared.event.What.TheVariants as what
use Rattle.fp_events.specs.declared.event.Entry.{Entry}
use Rattle.fp_events.specs.Actor.{Opened, own, arrived, taken, Frame, Thread}
use Rattle.fp_events.specs.Follows.{bound_below, closed, follows}
use Rattle.fp_actor.specs.declared.level.Source.{Source}
use Rattle.fp_actor.specs.declared.level.Base.{Base}
use Rattle.fp_actor.specs.declared.level.Base.TheVariants as base
use Rattle.fp_actor.specs.declared.level.Level.{Level}
use Rattle.fp_actor.specs.declared.level.Binding.{Binding}
use Rattle.fp_actor.specs.declared.stack.Bottom.{Bottom}
use Rattle.fp_actor.specs.Stacked.{called, call_in, default_in, opened_in, over, frames, IsBottom}
use Rattle.fp_actor.specs.Entries.{IsReturning, IsStarting, IsMoving}
use Rattle.fp_actor.specs.declared.step.Change.{Change}
use Rattle.fp_actor.specs.declared.step.Change.TheVariants as change
use Rattle.fp_actor.specs.Awaited.{acts, advances, IsChange, IsStaying, IsClosing}
use Rattle.fp_actor.proofs.Stacking.{snoc}
use Rattle.fp_actor.proofs.Keeping.{with_last}

bound_none : (o : Opened) (fs : List Frame) → bound_below o None fs ≡ fs
bound_none own fs = refl
bound_none (arrived default None) fs = refl
bound_none (arrived default (Some name)) fs = refl
bound_none taken fs = refl

-- an entry that does a first action is one that acts
pub change_acts : (c : Change) (w : What) → IsChange c w → acts w ≡ true
change_acts c (what.Enter r) o = refl
change_acts c (what.Guard r) o = refl
change_acts c (what.Set r) o = refl
change_acts c (what.Save r value) o = refl
change_acts c (what.Put number r) o = refl
change_acts c (what.Dropped r) o = refl
change_acts c (what.Hooked r) o = refl
change_acts c (what.Asserted r) o = refl
change_acts change.Frame (what.Leave None) o = absurd o
change_acts change.Nothing (what.Leave None) o = absurd o
change_acts change.Sending (what.Leave None) o = absurd o
change_acts change.Before (what.Leave None) o = absurd o
change_acts change.Instead (what.Leave None) o = absurd o
change_acts change.Value (what.Leave None) o = absurd o
change_acts change.Frame (what.Leave (Some v)) o = absurd o
change_acts change.Nothing (what.Leave (Some v)) o = absurd o
change_acts change.Sending (what.Leave (Some v)) o = absurd o
change_acts change.Before (what.Leave (Some v)) o = absurd o
change_acts change.Instead (what.Leave (Some v)) o = absurd o
change_acts change.Value (what.Leave (Some v)) o = absurd o
change_acts change.Frame what.Done o = absurd o
change_acts change.Nothing what.Done o = absurd o
change_acts change.Sending what.Done o = absurd o
change_acts change.Before what.Done o = absurd o
change_acts change.Instead what.Done o = absurd o
change_acts change.Value what.Done o = absurd o
change_acts change.Frame (what.Take number point with) o = absurd o
change_acts change.Nothing (what.Take number point with) o = absurd o
change_acts change.Sending (what.Take number point with) o = absurd o
change_acts change.Before (what.Take number point with) o = absurd o
change_acts change.Instead (what.Take number point with) o = absurd o
change_acts change.Value (what.Take number point with) o = absurd o
change_acts c what.Empty o = refl
change_acts c (what.Emit event fate text) o = refl
change_acts c (what.Write channel fate v) o = refl
change_acts c (what.Read param v) o = refl
change_acts c (what.Start running actions leaf) o = refl
change_acts c (what.Move running signal actions leaf) o = refl

pub start_advances : (w : What) → IsStarting w → advances w ≡ true
start_advances (what.Enter r) o = absurd o
start_advances (what.Guard r) o = absurd o
start_advances (what.Set r) o = absurd o
start_advances (what.Save r value) o = absurd o
start_advances (what.Put number r) o = absurd o
start_advances (what.Dropped r) o = absurd o
start_advances (what.Hooked r) o = absurd o
start_advances (what.Asserted r) o = absurd o
start_advances (what.Leave v) o = absurd o
start_advances what.Done o = absurd o
start_advances (what.Take number point with) o = absurd o
start_advances what.Empty o = absurd o
start_advances (what.Emit event fate text) o = absurd o
start_advances (what.Write channel fate v) o = absurd o
start_advances (what.Read param v) o = absurd o
start_advances (what.Start running actions leaf) o = refl
start_advances (what.Move running signal actions leaf) o = absurd o

pub move_advances : (w : What) → IsMoving w → advances w ≡ true
move_advances (what.Enter r) o = absurd o
move_advances (what.Guard r) o = absurd o
move_advances (what.Set r) o = absurd o
move_advances (what.Save r value) o = absurd o
move_advances (what.Put number r) o = absurd o
move_advances (what.Dropped r) o = absurd o
move_advances (what.Hooked r) o = absurd o
move_advances (what.Asserted r) o = absurd o
move_advances (what.Leave v) o = absurd o
move_advances what.Done o = absurd o
move_advances (what.Take number point with) o = absurd o
move_advances what.Empty o = absurd o
move_advances (what.Emit event fate text) o = absurd o
move_advances (what.Write channel fate v) o = absurd o
move_advances (what.Read param v) o = absurd o
move_advances (what.Start running actions leaf) o = absurd o
move_advances (what.Move running signal actions leaf) o = refl

module _ (t : Described) (program : Program) where
  pub nothing_closes : (i : ℕ) (x : Thread) (w : What) → IsClosing w → x.frames ≡ [] → [] ≡ (follows t program i x w).frames
  unfolding follows
  nothing_closes i x (what.Leave None) o h = sym (ap (closed None) h)
  nothing_closes i x (what.Leave (Some v)) o h = absurd o
  nothing_closes i x what.Done o h = sym (ap (closed None) h)
  nothing_closes i x (what.Enter r) o h = absurd o
  nothing_closes i x (what.Guard r) o h = absurd o
  nothing_closes i x (what.Set r) o h = absurd o
  nothing_closes i x (what.Save r value) o h = absurd o
  nothing_closes i x (what.Put number r) o h = absurd o
  nothing_closes i x (what.Dropped r) o h = absurd o
  nothing_closes i x (what.Hooked r) o h = absurd o
  nothing_closes i x (what.Asserted r) o h = absurd o
  nothing_closes i x (what.Take number point with) o h = absurd o
  nothing_closes i x what.Empty o h = absurd o
  nothing_closes i x (what.Emit event fate text) o h = absurd o
  nothing_closes i x (what.Write channel fate v) o h = absurd o
  nothing_closes i x (what.Read param v) o h = absurd o
  nothing_closes i x (what.Start running actions leaf) o h = absurd o
  nothing_closes i x (what.Move running signal actions leaf) o h = absurd o

  pub nothing_returns : (i : ℕ) (x : Thread) (w : What) → IsReturning w → x.frames ≡ [] → [] ≡ (follows t program i x w).frames
  unfolding follows
  nothing_returns i x (what.Leave None) o h = absurd o
  nothing_returns i x (what.Leave (Some v)) o h = sym (ap (closed (Some v)) h)
  nothing_returns i x (what.Enter r) o h = absurd o
  nothing_returns i x (what.Guard r) o h = absurd o
  nothing_returns i x (what.Set r) o h = absurd o
  nothing_returns i x (what.Save r value) o h = absurd o
  nothing_returns i x (what.Put number r) o h = absurd o
  nothing_returns i x (what.Dropped r) o h = absurd o
  nothing_returns i x (what.Hooked r) o h = absurd o
  nothing_returns i x (what.Asserted r) o h = absurd o
  nothing_returns i x what.Done o h = absurd o
  nothing_returns i x (what.Take number point with) o h = absurd o
  nothing_returns i x what.Empty o h = absurd o
  nothing_returns i x (what.Emit event fate text) o h = absurd o
  nothing_returns i x (what.Write channel fate v) o h = absurd o
  nothing_returns i x (what.Read param v) o h = absurd o
  nothing_returns i x (what.Start running actions leaf) o h = absurd o
  nothing_returns i x (what.Move running signal actions leaf) o h = absurd o

  pub staying_follows : (i : ℕ) (x : Thread) (w : What) → IsStaying w → x.frames ≡ (follows t program i x w).frames
  unfolding follows
  staying_follows i x (what.Enter r) o = absurd o
  staying_follows i x (what.Guard r) o = absurd o
  staying_follows i x (what.Set r) o = absurd o
  staying_follows i x (what.Save r value) o = absurd o
  staying_follows i x (what.Put number r) o = absurd o
  staying_follows i x (what.Dropped r) o = absurd o
  staying_follows i x (what.Hooked r) o = absurd o
  staying_follows i x (what.Asserted r) o = refl
  staying_follows i x (what.Leave v) o = absurd o
  staying_follows i x what.Done o = absurd o
  staying_follows i x (what.Take number point with) o = absurd o
  staying_follows i x what.Empty o = absurd o
  staying_follows i x (what.Emit event fate text) o = absurd o
  staying_follows i x (what.Write channel fate v) o = absurd o
  staying_follows i x (what.Read param v) o = absurd o
  staying_follows i x (what.Start running actions leaf) o = absurd o
  staying_follows i x (what.Move running signal actions leaf) o = absurd o

module _ (t : Described) (program : Program) (number : ℕ) (trace : List Entry) where
  bound_unnamed : (b : Base) (s : Source) (v : Value) (fs : List Frame) → is_some (call_in t program number trace b) ≡ false → bound_below (opened_in t program number trace b s) (Some v) fs ≡ fs
  bound_unnamed base.Inside s v fs h = refl
  bound_unnamed base.Own s v fs h = refl
  bound_unnamed base.Taken s v fs h = refl
  bound_unnamed (base.Arrived p) s v fs h = go (called t program number trace p) h
    where
      go : (o : Option (List ℕ)) → is_some o ≡ false → bound_below (arrived (default_in t program number trace s) o) (Some v) fs ≡ fs
      go None h = refl
      go (Some name) h = absurd (cc)

  some_over : (bs : List Binding) (b : Base) (l : Level) (fs : List Frame) → over t program number trace bs b l fs ≡ [] → ⊥
  some_over bs base.Inside l [] e = cc
  some_over bs base.Inside l (f ∷ fs) e = cc
  some_over bs base.Own l fs e = cc
  some_over bs (base.Arrived p) l fs e = cc
  some_over bs base.Taken l fs e = cc

  pub no_frames : (bs : List Binding) (ls : List Level) → frames t program number trace bs ls ≡ [] → ls ≡ []
  no_frames bs ls h =
      with_last (ls ≡ []) ls (λ e. e)
      (λ lower l e. absurd (some_over bs l.base l (frames t program number trace bs lower) (sym (snoc t program number trace bs [] lower l) ∙ ap (frames t program number trace bs) (sym e) ∙ h)))

  module _ (bs : List Binding) (ls : List Level) (b : Bottom) (is : IsBottom t program number trace bs ls b) where
    pub closing_follows : (i : ℕ) (x : Thread) (w : What) → IsClosing w → x.frames ≡ frames t program number trace bs ls → frames t program number trace bs (take b.below ls) ≡ (follows t program i x w).frames
    unfolding follows
    closing_follows i x (what.Leave None) o h = sym (ap (closed None) (h ∙ is.is) ∙ bound_none (opened_in t program number trace b.level.base b.level.next.source) (frames t program number trace bs (take b.below ls)))
    closing_follows i x (what.Leave (Some v)) o h = absurd o
    closing_follows i x what.Done o h = sym (ap (closed None) (h ∙ is.is) ∙ bound_none (opened_in t program number trace b.level.base b.level.next.source) (frames t program number trace bs (take b.below ls)))
    closing_follows i x (what.Enter r) o h = absurd o
    closing_follows i x (what.Guard r) o h = absurd o
    closing_follows i x (what.Set r) o h = absurd o
    closing_follows i x (what.Save r value) o h = absurd o
    closing_follows i x (what.Put number r) o h = absurd o
    closing_follows i x (what.Dropped r) o h = absurd o
    closing_follows i x (what.Hooked r) o h = absurd o
    closing_follows i x (what.Asserted r) o h = absurd o
    closing_follows i x (what.Take number point with) o h = absurd o
    closing_follows i x what.Empty o h = absurd o
    closing_follows i x (what.Emit event fate text) o h = absurd o
    closing_follows i x (what.Write channel fate v) o h = absurd o
    closing_follows i x (what.Read param v) o h = absurd o
    closing_follows i x (what.Start running actions leaf) o h = absurd o
    closing_follows i x (what.Move running signal actions leaf) o h = absurd o

    pub unnamed_follows : is_some (call_in t program number trace b.level.base) ≡ false → (i : ℕ) (x : Thread) (w : What) → IsReturning w → x.frames ≡ frames t program number trace bs ls →
        frames t program number trace bs (take b.below ls) ≡ (follows t program i x w).frames
    unfolding follows
    unnamed_follows none i x (what.Leave None) o h = absurd o
    unnamed_follows none i x (what.Leave (Some v)) o h =
        sym (ap (closed (Some v)) (h ∙ is.is) ∙ bound_unnamed b.level.base b.level.next.source v (frames t program number trace bs (take b.below ls)) none)
    unnamed_follows none i x (what.Enter r) o h = absurd o
    unnamed_follows none i x (what.Guard r) o h = absurd o
    unnamed_follows none i x (what.Set r) o h = absurd o
    unnamed_follows none i x (what.Save r value) o h = absurd o
    unnamed_follows none i x (what.Put number r) o h = absurd o
    unnamed_follows none i x (what.Dropped r) o h = absurd o
    unnamed_follows none i x (what.Hooked r) o h = absurd o
    unnamed_follows none i x (what.Asserted r) o h = absurd o
    unnamed_follows none i x what.Done o h = absurd o
    unnamed_follows none i x (what.Take number point with) o h = absurd o
    unnamed_follows none i x what.Empty o h = absurd o
    unnamed_follows none i x (what.Emit event fate text) o h = absurd o
    unnamed_follows none i x (what.Write channel fate v) o h = absurd o
    unnamed_follows none i x (what.Read param v) o h = absurd o
    unnamed_follows none i x (what.Start running actions leaf) o h = absurd o
    unnamed_follows none i x (what.Move running signal actions leaf) o h = absurd o
