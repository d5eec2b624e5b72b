-- What is broken, as a predicate on refusals, and the least of it.
use Rattle.std.specs.Prelude.{◌≡◌, ℕ, ◌<◌, ◌≤◌, ◌⊎◌, Bool, nat_lt, nat_le, nat_eq, cond, List, slice_get, Option, Some, None, IsSomeAnd}
use Rattle.fp_base.specs.Rules.{row}
use Rattle.fp_base.specs.declared.place.Place.{Place}
use Rattle.fp_base.specs.declared.rule.Rule.{Rule}
use Rattle.fp_base.specs.declared.refusal.Refusal.{Refusal}
use Rattle.fp_base.specs.declared.refusal.Stop.{Stop}
use Rattle.fp_base.specs.declared.refusal.Stop.TheVariants.{Broken, NoMemory}

-- a rule that is broken at a place
abbrev pub broken_at : Rule → Place → Refusal
broken_at rule place = record { rule = rule; place = place; other = None }

-- the one stands no later than the other: by file, line and column, and at one place by the row of the rule
abbrev pub NoLater : Refusal → Refusal → Type 0
NoLater f g =
    (f.place.file < g.place.file)
    ⊎ ((f.place.file ≡ g.place.file)
    × ((f.place.line < g.place.line)
    ⊎ ((f.place.line ≡ g.place.line)
    × ((f.place.column < g.place.column)
    ⊎ ((f.place.column ≡ g.place.column) × (row f.rule ≤ row g.rule))))))

-- the same as a test
abbrev pub no_later : Refusal → Refusal → Bool
no_later f g =
    cond (nat_eq f.place.file g.place.file)
    (cond (nat_eq f.place.line g.place.line)
    (cond (nat_eq f.place.column g.place.column)
    (nat_le (row f.rule) (row g.rule))
    (nat_lt f.place.column g.place.column))
    (nat_lt f.place.line g.place.line))
    (nat_lt f.place.file g.place.file)

-- the refusal is the least of what is broken; there is none where nothing is broken
pub record IsLeast (broken : Refusal → Type 0) (first : Option Refusal) : Type 0 where
  pub holds : (f : Refusal) → first ≡ Some f → broken f
  pub least : (g : Refusal) → broken g → IsSomeAnd first (λ f. NoLater f g)

-- the lesser of two, where there is one
abbrev pub lesser_of : Option Refusal → Option Refusal → Option Refusal
lesser_of None b = b
lesser_of (Some f) None = Some f
lesser_of (Some f) (Some g) = cond (no_later f g) (Some f) (Some g)

-- that of the earlier phase, where there is one
abbrev pub earlier_of : Option Refusal → Option Refusal → Option Refusal
earlier_of None b = b
earlier_of (Some f) b = Some f

-- broken by the one or by the other
abbrev pub Either : (Refusal → Type 0) → (Refusal → Type 0) → Refusal → Type 0
Either P Q f = P f ⊎ Q f

-- broken in the earlier phase, or in the later where nothing is broken in the earlier
abbrev pub Phased : (Refusal → Type 0) → (Refusal → Type 0) → Refusal → Type 0
Phased P Q f = P f ⊎ (Q f × ((g : Refusal) → P g → ⊥))

-- the rule at the place, where something is so
abbrev pub BrokenAt : Rule → Place → Type 0 → Refusal → Type 0
BrokenAt rule place Q f = (f ≡ broken_at rule place) × Q

-- broken by what is there
abbrev pub ByOptional : {A : Type 0} → (A → Refusal → Type 0) → Option A → Refusal → Type 0
ByOptional P None f = ⊥
ByOptional P (Some x) f = P x f

-- broken by the element k
abbrev pub InOne : {A : Type 0} → ℕ → (ℕ → A → Refusal → Type 0) → List A → Refusal → Type 0
InOne {A = A} k P xs f = (x : A) × (slice_get xs k ≡ Some x) × P k x f

-- broken by one of the first n elements, each with its index
abbrev pub InFirst : {A : Type 0} → ℕ → (ℕ → A → Refusal → Type 0) → List A → Refusal → Type 0
InFirst {A = A} n P xs f = (k : ℕ) × (x : A) × (k < n) × (slice_get xs k ≡ Some x) × P k x f

-- broken by some element
abbrev pub InSome : {A : Type 0} → (ℕ → A → Refusal → Type 0) → List A → Refusal → Type 0
InSome {A = A} P xs f = (k : ℕ) × (x : A) × (slice_get xs k ≡ Some x) × P k x f

-- nothing is broken
abbrev pub IsUnbroken : (Refusal → Type 0) → Type 0
IsUnbroken broken = (f : Refusal) → broken f → ⊥

-- a stop names the least of what is broken; for want of memory it may come at any time
abbrev pub IsStop : (Refusal → Type 0) → Stop → Type 0
IsStop broken (Broken f) = IsLeast broken (Some f)
IsStop broken NoMemory = Unit {0}
