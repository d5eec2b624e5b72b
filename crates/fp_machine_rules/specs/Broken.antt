-- The rules that a state machine breaks, and where each is broken. FPP Language Specification, "State Machine Definitions".
use Rattle.std.specs.Prelude.{◌≡◌, ℕ, ◌<◌, ◌⊎◌, Bool, true, false, List, slice_get, Option, Some}
use Rattle.fp_base.specs.declared.place.Place.{Place}
use Rattle.fp_base.specs.declared.refusal.Refusal.{Refusal}
use Rattle.fp_base.specs.declared.rule.Rule.{Rule}
use Rattle.fp_base.specs.declared.rule.Rule.TheVariants.{InitialCount, InitialLeavesState, SignalTwice, ChoiceCycle, Unreachable, TypedValue, UndefinedInMachine, MachineNameRepeated, MachineTooLarge}
use Rattle.fp_base.specs.Least.{broken_at, Either, InSome}
pub use Rattle.fp_base.specs.Least.{BrokenAt}
use Rattle.fp_machine_rules.specs.declared.item.Item.{Item}
use Rattle.fp_machine_rules.specs.declared.item.Use.{Use}
use Rattle.fp_machine_rules.specs.declared.item.Meaning.{Meaning}
use Rattle.fp_machine_rules.specs.declared.item.Meaning.TheVariants.{Nothing}
use Rattle.fp_machine_rules.specs.declared.item.LaidMachine.{LaidMachine}
use Rattle.fp_machine_rules.specs.Members.{MachineCountsWrong, StateCountsWrong}
use Rattle.fp_machine_rules.specs.Nested.{IsTooLarge}
use Rattle.fp_machine_rules.specs.Reached.{IsUnreached}
use Rattle.fp_machine_rules.specs.Repeated.{Repeats, name_of, signal_of, entry_of, exit_of, declared_signal, declared_action, declared_guard}
use Rattle.fp_machine_rules.specs.Through.{IsOnRing, LeavesItsState}
use Rattle.fp_machine_rules.specs.Values.{IsMisgiven}

-- the rule at the place of each element of which something is so
abbrev pub AtEach : {A : Type 0} → Rule → (A → Place) → List A → (ℕ → Type 0) → Refusal → Type 0
AtEach rule place xs P = InSome (λ k x. BrokenAt rule (place x) (P k)) xs

abbrev pub IsFlaggedAt : Rule → List Bool → ℕ → Place → Refusal → Type 0
IsFlaggedAt rule flags k place = BrokenAt rule place (slice_get flags k ≡ Some true)

abbrev pub AtItems : Rule → List Item → (ℕ → Type 0) → Refusal → Type 0
AtItems rule items = AtEach rule (λ (x : Item). x.place) items

abbrev pub AtUses : Rule → List Use → (ℕ → Type 0) → Refusal → Type 0
AtUses rule uses = AtEach rule (λ (u : Use). u.place) uses

-- ---- by items: states, choices, transitions, entries and exits

-- states, choices, transitions, entries and exits that stand in their state a second time
abbrev pub RepeatedItems : List Item → Refusal → Type 0
RepeatedItems items =
    Either (AtItems SignalTwice items (Repeats signal_of items))
    (Either (AtItems MachineNameRepeated items (Repeats name_of items))
    (Either (AtItems MachineNameRepeated items (Repeats entry_of items)) (AtItems MachineNameRepeated items (Repeats exit_of items))))

-- initial transitions, rings of choices, and what isn't reached
abbrev pub BrokenWays : List Item → Refusal → Type 0
BrokenWays items =
    Either (AtItems InitialCount items (StateCountsWrong items))
    (Either (AtItems InitialLeavesState items (LeavesItsState items))
    (Either (AtItems ChoiceCycle items (IsOnRing items)) (AtItems Unreachable items (IsUnreached items))))

-- declarations whose name an earlier one of their kind has
abbrev pub RepeatedNames : List Item → Refusal → Type 0
RepeatedNames items =
    Either (AtItems MachineNameRepeated items (Repeats declared_signal items))
    (Either (AtItems MachineNameRepeated items (Repeats declared_action items)) (AtItems MachineNameRepeated items (Repeats declared_guard items)))

abbrev pub BrokenItems : List Item → Refusal → Type 0
BrokenItems items = Either (BrokenWays items) (Either (RepeatedItems items) (RepeatedNames items))

-- ---- by uses

-- the k-th use is of a name that means nothing
abbrev pub IsUndefined : List Use → ℕ → Type 0
IsUndefined uses k = (used : Use) × (slice_get uses k ≡ Some used) × (used.means ≡ Nothing)

abbrev pub is_nothing : Meaning → Bool
is_nothing Nothing = true
is_nothing _ = false

-- the k-th use is of what takes a value that isn't given there
abbrev pub LacksValue : List Item → List (Option ℕ) → List Use → ℕ → Type 0
LacksValue items types uses k = (used : Use) × (slice_get uses k ≡ Some used) × IsMisgiven items types used

abbrev pub BrokenUses : List Item → List (Option ℕ) → List Use → Refusal → Type 0
BrokenUses items types uses = Either (AtUses TypedValue uses (LacksValue items types uses)) (AtUses UndefinedInMachine uses (IsUndefined uses))

-- ---- the machine

-- at the name of the machine
abbrev pub BrokenAsWhole : Place → List Item → Refusal → Type 0
BrokenAsWhole place items = Either (BrokenAt InitialCount place (MachineCountsWrong items)) (BrokenAt MachineTooLarge place (IsTooLarge items))

-- in its body
abbrev pub BrokenInside : LaidMachine → Refusal → Type 0
BrokenInside m = Either (BrokenItems m.items) (BrokenUses m.items m.types m.uses)

-- a rule of state machines
abbrev pub MachineBroken : LaidMachine → Refusal → Type 0
MachineBroken m = Either (BrokenAsWhole m.place m.items) (BrokenInside m)

-- ---- where the name of a machine stands

abbrev pub IsBefore : Place → Place → Type 0
IsBefore p q = (p.file < q.file) ⊎ ((p.file ≡ q.file) × ((p.line < q.line) ⊎ ((p.line ≡ q.line) × (p.column < q.column))))

-- all places of a list stand behind it
abbrev pub AreBehind : {A : Type 0} → Place → (A → Place) → List A → Type 0
AreBehind {A = A} p place xs = (k : ℕ) (x : A) → slice_get xs k ≡ Some x → IsBefore p (place x)

-- the name of the machine stands before its body
pub record StandsFirst (m : LaidMachine) : Type 0 where
  pub items : AreBehind m.place (λ (x : Item). x.place) m.items
  pub uses : AreBehind m.place (λ (u : Use). u.place) m.uses
