-- The frames of an actor by places in its trace and in the program: what levels over one another make.
use Rattle.std.specs.Prelude.{◌≡◌, ◌<◌, ◌^◌, ℕ, true, is_some, find, ◌+◌, List, [], ◌∷◌, ◌++◌, map, length, take, drop, reverse, Option, Some, None, option_map, option_and_then, option_to_list, unwrap_or, slice_get}
use Rattle.fp_base.specs.declared.value.Value.{Value, Opaque}
use Rattle.fp_base.specs.Same.{same_text}
use Rattle.fp_tables.specs.Lookup.{Described}
use Rattle.fp_tables.specs.declared.program.Caller.{Caller}
use Rattle.fp_tables.specs.declared.program.Program.{Program}
use Rattle.fp_events.specs.declared.event.Entry.{Entry}
use Rattle.fp_events.specs.Actor.{Bindings, Action, act, advance, Doing, Opened, own, arrived, taken, Frame}
use Rattle.fp_events.specs.Due.{first_action}
use Rattle.fp_events.specs.Follows.{doing, removed, name_for, bound_name}
use Rattle.fp_actor.specs.declared.lists.ActionList.{ActionList}
use Rattle.fp_actor.specs.declared.lists.ActionList.TheVariants as listed
use Rattle.fp_actor.specs.declared.lists.Deed.{Deed}
use Rattle.fp_actor.specs.declared.lists.Deed.TheVariants as deed
use Rattle.fp_actor.specs.declared.level.Source.{Source}
use Rattle.fp_actor.specs.declared.level.Source.TheVariants as source
use Rattle.fp_actor.specs.declared.level.Position.{Position}
use Rattle.fp_actor.specs.declared.level.Base.{Base}
use Rattle.fp_actor.specs.declared.level.Base.TheVariants as base
use Rattle.fp_actor.specs.declared.level.Level.{Level}
use Rattle.fp_actor.specs.declared.level.Binding.{Binding}
use Rattle.fp_actor.specs.declared.stack.Reached.{Reached}
use Rattle.fp_actor.specs.declared.stack.First.{First}
use Rattle.fp_actor.specs.declared.stack.Bottom.{Bottom}
use Rattle.fp_actor.specs.Levels.{begun, sent, settled, advanced, IsWithin, AreUpTo}
use Rattle.fp_actor.specs.Entries.{value_given, signal_value, lists_of, default_of}

module _ (t : Described) (program : Program) (number : ℕ) (trace : List Entry) where
  abbrev pub own_lists : List Doing
  own_lists = unwrap_or (option_map (λ (c : Caller). record { actions = map act c.acts; bound = [] } ∷ []) (slice_get program.callers number)) []

  abbrev pub value_at : ℕ → Option Value
  value_at n = option_and_then (λ (e : Entry). signal_value e.what) (slice_get trace n)

  -- an action, and a list of actions, as they are found
  abbrev pub action_of : Deed → Action
  action_of (deed.Act a) = act a.now
  action_of (deed.Send s) = sent s
  action_of (deed.Advance running signal n) = advance running signal (value_at n)

  abbrev pub actions_of : ActionList → List Action
  actions_of (listed.Acts acts) = map act acts.now
  actions_of (listed.Sends first second) = option_to_list (option_map sent first) ++ option_to_list (option_map sent second)
  actions_of (listed.Advance running signal n) = advance running signal (value_at n) ∷ []

  abbrev pub lists_in : Source → List Doing
  lists_in source.Own = own_lists
  lists_in (source.Entry n m) = unwrap_or (option_map (λ (e : Entry). lists_of t program (value_at m) e.instance e.what) (slice_get trace n)) []

  abbrev pub action_at : Position → Option Action
  action_at p = option_and_then (λ (d : Doing). slice_get d.actions p.action) (slice_get (lists_in p.source) p.list)

  abbrev pub with_nothing : Position → Option (Action × Bindings)
  with_nothing p = option_map (λ x. (x, [])) (action_at p)

  -- the name to which what is returned for a call is bound
  abbrev pub called : Option Position → Option (List ℕ)
  called p = option_and_then (λ q. name_for (with_nothing q)) p

  -- the same of the call that a frame answers
  abbrev pub call_in : Base → Option (List ℕ)
  call_in (base.Arrived p) = called p
  call_in _ = None

  abbrev pub instance_of : Source → ℕ
  instance_of source.Own = 0
  instance_of (source.Entry n m) = unwrap_or (option_map (λ (e : Entry). e.instance) (slice_get trace n)) 0

  abbrev pub default_in : Source → Option Value
  default_in source.Own = None
  default_in (source.Entry n m) = option_and_then (λ (e : Entry). default_of t program e.instance e.what) (slice_get trace n)

  abbrev pub given_at : ℕ → Value
  given_at n = unwrap_or (option_map (λ (e : Entry). value_given e.what) (slice_get trace n)) Opaque

  abbrev pub binding : Binding → List ℕ × Value
  binding b = (bound_name t program (with_nothing b.name), given_at b.value)

  abbrev pub opened_in : Base → Source → Opened
  opened_in base.Inside from = own
  opened_in base.Own from = own
  opened_in (base.Arrived p) from = arrived (default_in from) (called p)
  opened_in base.Taken from = taken

  abbrev pub framed : Level → List Doing → Frame
  framed l ds = record { instance = instance_of l.next.source; doing = ds; opened = opened_in l.base l.next.source }

  -- what is found at a place: the numbers of the list and the action in it, and the action
  abbrev pub found : Reached → ℕ × ℕ × Action
  found r = (r.at.list, r.at.action, action_of r.deed)

  abbrev pub bound_in : Position → Bindings
  bound_in p = unwrap_or (option_map (λ (d : Doing). d.bound) (slice_get (lists_in p.source) p.list)) []

  module _ (bindings : List Binding) where
    -- the bindings made so far in the first of a level's lists, the latest first
    abbrev pub made : Level → Bindings
    made l = map binding (reverse (drop l.first (take l.past bindings)))

    -- all bindings in it
    abbrev pub bindings_of : Level → Bindings
    bindings_of l = made l ++ bound_in l.next

    abbrev pub named_value : Level → List ℕ → Value
    named_value l name = unwrap_or (option_map (λ (b : List ℕ × Value). b.1) (find (λ (b : List ℕ × Value). same_text b.0 name) (bindings_of l))) Opaque

    -- what is left of a level's lists
    abbrev pub left : Level → List Doing
    left l = begun l.next.action (made l) (drop l.next.list (lists_in l.next.source))

    -- a level inside a frame stands before what is there; where nothing is, it counts as a frame
    abbrev pub over : Base → Level → List Frame → List Frame
    over base.Inside l [] = framed l (left l) ∷ []
    over base.Inside l (f ∷ fs) = record f { doing = left l ++ f.doing } ∷ fs
    over base.Own l fs = framed l (left l) ∷ fs
    over (base.Arrived p) l fs = framed l (left l) ∷ fs
    over base.Taken l fs = framed l (left l) ∷ fs

    -- the frames that these levels, the lowest first, make over those
    abbrev pub stacked : List Frame → List Level → List Frame
    stacked frames [] = frames
    stacked frames (l ∷ ls) = stacked (over l.base l frames) ls

    abbrev pub frames : List Level → List Frame
    frames ls = stacked [] ls

    -- the first action that is left in the innermost frame, with its level from that action on and the number of levels below that
    pub record IsFirst (ls : List Level) (f : First) : Type 0 where
      pub level : Level
      pub there : slice_get ls f.below ≡ Some level
      pub from : f.level ≡ settled level f.level.next
      pub source : f.level.next.source ≡ level.next.source
      pub few : f.level.next.action + 1 < 2 ^ 64
      pub action : action_at f.level.next ≡ Some (action_of f.deed)
      pub first : first_action (doing (frames ls)) ≡ Some (action_of f.deed, bindings_of f.level)
      pub rest : frames (take f.below ls ++ advanced f.level ∷ []) ≡ removed (frames ls)

    -- the level that begins the innermost frame, with the number of levels below it
    pub record IsBottom (ls : List Level) (b : Bottom) : Type 0 where
      pub there : slice_get ls b.below ≡ Some b.level
      pub doing : List Doing
      pub is : frames ls ≡ framed b.level doing ∷ frames (take b.below ls)

  -- a value can be bound in the first of this level's lists, over those levels: it has that list, and their bindings are before its own
  pub record Binds (bindings : List Binding) (lower : List Level) (l : Level) : Type 0 where
    pub within : IsWithin (length bindings) l
    pub lowest : AreUpTo l.past lower
    pub list : is_some (slice_get (lists_in l.next.source) l.next.list) ≡ true

  abbrev pub IsBindable : List Binding → List Level → Type 0
  IsBindable bindings ls = (lower : List Level) (l : Level) → ls ≡ lower ++ l ∷ [] → Binds bindings lower l
