-- The rules that an instance of a component breaks by itself, and where each is broken. FPP Language Specification, "Component Instance Definitions".
use Rattle.std.specs.Prelude.{◌≡◌, ℕ, ◌^◌, ◌-◌, ◌⊎◌, ◌||◌, ℤ, pos, negsuc, ◌+ℤ◌, true, is_some, option_map, List, Option, None, Some}
use Rattle.fp_base.specs.declared.refusal.Refusal.{Refusal}
use Rattle.fp_base.specs.declared.rule.Rule.TheVariants.{QueueSize, ForActiveAlone, NumberOutOfRange}
use Rattle.fp_base.specs.Least.{BrokenAt, ByOptional, Either, InSome}
use Rattle.fp_tables.specs.declared.component.Queueing.{Queueing}
use Rattle.fp_tables.specs.declared.component.Queueing.TheVariants.{Active, Passive}
use Rattle.fp_written_parts.specs.declared.port.Given.{Given}
use Rattle.fp_component_rules.specs.PortBroken.{IsOutside, OutsideAt}
use Rattle.fp_instances.specs.declared.instance_facts.InstanceFacts.{InstanceFacts}

-- ---- what has to stand there, and what must not

-- a queue's size, of an instance without a queue; or none, of another
abbrev pub IsQueueWrong : Queueing → Option Given → Type 0
IsQueueWrong Passive queue = is_some queue ≡ true
IsQueueWrong _ queue = queue ≡ None

-- what speaks of a thread, of an instance that has none
abbrev pub HasWordsOfActive : Queueing → InstanceFacts → Type 0
HasWordsOfActive Active i = ⊥
HasWordsOfActive _ i = (is_some i.stack || is_some i.priority || is_some i.cpu) ≡ true

abbrev pub BrokenWords : InstanceFacts → Refusal → Type 0
BrokenWords i = Either (BrokenAt QueueSize i.at (IsQueueWrong i.queueing i.queue)) (BrokenAt ForActiveAlone i.at (HasWordsOfActive i.queueing i))

-- ---- numbers

-- not in 32 bits
abbrev pub IsNoId : Option ℤ → Type 0
IsNoId = IsOutside (pos 0) (pos (2 ^ 32 - 1))

-- the base id, or with it the greatest id of the component
abbrev pub IsBaseOutside : Option ℤ → Option ℕ → Type 0
IsBaseOutside base top = IsNoId base ⊎ ((greatest : ℕ) × (top ≡ Some greatest) × IsNoId (option_map (λ (n : ℤ). n +ℤ pos greatest) base))

abbrev pub BrokenBase : Given → Option ℕ → Refusal → Type 0
BrokenBase base top = BrokenAt NumberOutOfRange base.at (IsBaseOutside base.number top)

-- one that may be left out
abbrev pub BrokenNumber : ℤ → ℤ → Option Given → Refusal → Type 0
BrokenNumber low high = ByOptional (OutsideAt NumberOutOfRange low high)

abbrev pub BrokenNumbers : InstanceFacts → Refusal → Type 0
BrokenNumbers i =
    Either (BrokenBase i.base i.top)
    (Either (Either (BrokenNumber (pos 1) (pos (2 ^ 16 - 1)) i.queue) (BrokenNumber (pos 0) (pos (2 ^ 63 - 1)) i.stack))
    (Either (BrokenNumber (negsuc (2 ^ 31 - 1)) (pos (2 ^ 31 - 1)) i.priority) (BrokenNumber (pos 0) (pos (2 ^ 16 - 1)) i.cpu)))

-- ---- an instance, and all of them

abbrev pub BrokenInstance : InstanceFacts → Refusal → Type 0
BrokenInstance i = Either (BrokenWords i) (BrokenNumbers i)

abbrev pub BrokenByInstances : List InstanceFacts → Refusal → Type 0
BrokenByInstances = InSome (λ k. BrokenInstance)
