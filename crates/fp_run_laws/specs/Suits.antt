-- When the frames of an actor suit: what is left of each list of actions suits what is bound, and what a frame returns is of the type that is awaited.
use Rattle.std.specs.Prelude.{◌≡◌, ℕ, Bool, true, false, cond, nat_lt, List, [], ◌∷◌, drop, Option, Some, None, option_to_list, is_some}
use Rattle.fp_tables.specs.Specials.{special_wire}
use Rattle.fp_base.specs.Names.{is_name}
use Rattle.fp_base.specs.declared.value.Value.{Value}
use Rattle.fp_tables.specs.Acts.{bound_to, binds, result_at, is_placed}
use Rattle.fp_tables.specs.Arguments.{Scope}
use Rattle.fp_tables.specs.Lookup.{Described}
use Rattle.fp_tables.specs.Programs.{caller_act_suits, act_suits, returned_at}
use Rattle.fp_tables.specs.Types.{has_kind, have_kinds}
use Rattle.fp_tables.specs.declared.kind.Kind.{Kind}
use Rattle.fp_tables.specs.declared.kind.TypeDef.{TypeDef}
use Rattle.fp_tables.specs.declared.machine.Named.{Named}
use Rattle.fp_tables.specs.declared.program.Arg.TheVariants.{Bound}
use Rattle.fp_tables.specs.declared.program.Program.{Program}
use Rattle.fp_tables.specs.declared.program.Spot.{Spot}
use Rattle.fp_events.specs.Actor.{Bindings, Action, act, send, advance, Doing, Opened, own, arrived, taken, Frame}
use Rattle.fp_events.specs.Due.{value_of}
use Rattle.fp_events.specs.Ends.{is_asserted}
use Rattle.fp_events.specs.Fits.{signal_at, signal_kinds}
use Rattle.fp_events.specs.Frames.{opens, ends_a_frame}
use Rattle.fp_events.specs.Lookup.{callers}
use Rattle.fp_events.specs.declared.event.Entry.{Entry}
use Rattle.fp_events.specs.declared.event.What.{What}
use Rattle.fp_events.specs.declared.event.What.TheVariants as what
use Rattle.fp_events.specs.declared.event.Point.{Point}
use Rattle.fp_events.specs.declared.event.Point.TheVariants.{Port}

-- each name that has a type in the scope is bound to a value of it
abbrev pub BoundSuits : List TypeDef → Scope → Bindings → Type 0
BoundSuits types scope bound = (name : List ℕ) (k : Kind) → scope name ≡ Some k → has_kind types k (value_of bound (Bound name)) ≡ true

-- what an arrival's frame returns: a port that has a result that, any other place nothing
abbrev pub result_of_point : Described → ℕ → Point → Option Kind
result_of_point t i (Port k number) = result_at t i k
result_of_point t i _ = None

-- what the frame returns that such an entry opens
abbrev pub result_opened : Described → ℕ → What → Option Kind
result_opened t i (what.Enter r) = result_of_point t i r.point
result_opened t i (what.Guard r) = result_of_point t i r.point
result_opened t i _ = None

-- what the frames of an actor that are open return, the innermost first, its own list left out
abbrev pub results_by : Described → ℕ → List (Option Kind) → What → List (Option Kind)
results_by t i ks w = cond (opens w) (result_opened t i w ∷ ks) (cond (ends_a_frame w) (drop 1 ks) ks)

abbrev pub results_from : Described → List (Option Kind) → List Entry → List (Option Kind)
results_from t ks [] = ks
results_from t ks (e ∷ es) = results_from t (results_by t e.instance ks e.what) es

-- a returned value has the kind that the frame returns which it closes
abbrev pub returns_fit : Described → List (Option Kind) → What → Bool
returns_fit t (Some k ∷ rest) (what.Leave (Some v)) = has_kind t.model.types k v
returns_fit t _ (what.Leave (Some v)) = false
returns_fit t _ _ = true

-- whether the last of these entries is an assert, and where there is none this
abbrev pub asserted_last : Bool → List Entry → Bool
asserted_last b [] = b
asserted_last b (e ∷ es) = asserted_last (is_asserted e.what) es

abbrev pub ends_asserted : List Entry → Bool
ends_asserted es = asserted_last false es

-- a list of actions is a caller's own, or is worked on at an instance, for a place of it
pub data Source : Type 0 where
  caller : Source
  at : ℕ → Spot → Source

abbrev pub source : Opened → ℕ → Spot → Source
source own i place = caller
source _ i place = at i place

module _ (t : Described) (program : Program) where
  -- ---- actions

  -- an advance has the value that its signal takes, and none where that takes none
  pub record AdvanceSuits (i running signal : ℕ) (v : Option Value) : Type 0 where
    pub named : Named
    pub there : signal_at t program i running signal ≡ Some named
    pub value : have_kinds t.model.types (signal_kinds t program named.kind) (option_to_list v) ≡ true

  -- an action of a program as a sound program's, a send from a port that has a wire, with a name for its note, and an advance on a signal that is there
  abbrev pub ActionSuits : Source → Scope → Action → Type 0
  ActionSuits caller scope (act x) = caller_act_suits t scope x ≡ true
  ActionSuits caller scope _ = ⊥
  ActionSuits (at i place) scope (act x) = act_suits t i place scope x ≡ true
  ActionSuits (at i place) scope (send s note) = (is_some (special_wire t i s) ≡ true) × (is_name note ≡ true)
  ActionSuits (at i place) scope (advance running signal v) = AdvanceSuits i running signal v

  -- what is bound after an action
  abbrev pub after : Action → Scope → Scope
  after (act x) scope = binds t x scope
  after _ scope = scope

  -- each suits, given what is bound before it
  abbrev pub ActionsSuit : Source → Scope → List Action → Type 0
  ActionsSuit from scope [] = Unit {0}
  ActionsSuit from scope (x ∷ xs) = ActionSuits from scope x × ActionsSuit from (after x scope) xs

  -- ---- lists of actions

  -- a place returns only what its frame returns. Nothing awaits the end of a take
  abbrev pub MayReturn : Opened → ℕ → Option Kind → Spot → Type 0
  MayReturn (arrived default name) i result place = (k : Kind) → returned_at t i place ≡ Some k → result ≡ Some k
  MayReturn _ i result place = Unit {0}

  -- the actions suit once the answer that is awaited is bound beside what is bound now
  pub record DoingSuits (o : Opened) (i : ℕ) (result : Option Kind) (answer : Scope → Scope) (d : Doing) : Type 0 where
    pub place : Spot
    pub scope : Scope
    pub returns : MayReturn o i result place
    pub actions : ActionsSuit (source o i place) (answer scope) d.actions
    pub bound : BoundSuits t.model.types scope d.bound

  -- the answer is bound in the first list
  abbrev pub DoingsSuit : Opened → ℕ → Option Kind → (Scope → Scope) → List Doing → Type 0
  DoingsSuit o i result answer [] = Unit {0}
  DoingsSuit o i result answer (d ∷ ds) = DoingSuits o i result answer d × DoingsSuit o i result (λ scope. scope) ds

  -- ---- frames

  -- a value of the type where there is one, else none
  abbrev pub Returns : Option Kind → Option Value → Type 0
  Returns None None = Unit {0}
  Returns (Some k) (Some v) = has_kind t.model.types k v ≡ true
  Returns _ _ = ⊥

  -- the answer that the frame below awaits of a frame that returns this
  abbrev pub awaited : Opened → Option Kind → Scope → Scope
  awaited (arrived default name) result scope = bound_to name result scope
  awaited _ result scope = scope

  -- the innermost frame returns this, and the rest suits the frames below
  abbrev pub Over : List (Option Kind) → Option Kind → (List (Option Kind) → Type 0) → Type 0
  Over ks result suits = (rest : List (Option Kind)) × (ks ≡ result ∷ rest) × suits rest

  -- a caller's own list is its last frame. Any other frame is at an instance of the topology, and if it is of an arrival, its default is what it returns
  abbrev pub Stands : List (Option Kind) → ℕ → Opened → ℕ → Option Kind → List Frame → (List (Option Kind) → Type 0) → Type 0
  Stands ks a own i result below suits = (nat_lt a (callers program) ≡ true) × (below ≡ []) × (ks ≡ [])
  Stands ks a (arrived default name) i result below suits = (is_placed t i ≡ true) × Returns result default × Over ks result suits
  Stands ks a taken i result below suits = (is_placed t i ≡ true) × Unit {0} × Over ks result suits

  -- frames that return these, but a caller's own, the innermost first, with the answer that its first list awaits
  abbrev pub FramesSuit : List (Option Kind) → ℕ → (Scope → Scope) → List Frame → Type 0
  FramesSuit ks a answer [] = (nat_lt a (callers program) ≡ false) × (ks ≡ [])
  FramesSuit ks a answer (f ∷ fs) =
      (result : Option Kind) × DoingsSuit f.opened f.instance result answer f.doing
      × Stands ks a f.opened f.instance result fs (λ rest. FramesSuit rest a (awaited f.opened result) fs)

  -- nothing is awaited by the innermost frame
  abbrev pub AllSuit : List (Option Kind) → ℕ → List Frame → Type 0
  AllSuit ks a fs = FramesSuit ks a (λ scope. scope) fs
