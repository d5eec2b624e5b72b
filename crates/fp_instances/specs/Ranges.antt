-- The ranges of ids and opcodes that instances take, and which of them overlap. FPP Language Specification, "Component Instance Definitions".
-- This profile: a range is from the base id to the base id plus the greatest id or opcode of the component, as integers of any size, and an
-- instance whose component has none takes none.
use Rattle.std.specs.Prelude.{◌≡◌, ℕ, Bool, not, ◌&&◌, ℤ, pos, ◌+ℤ◌, int_lt, List, filter_map, find, take, Option, Some, None}
use Rattle.fp_base.specs.declared.refusal.Refusal.{Refusal}
use Rattle.fp_base.specs.declared.rule.Rule.TheVariants.{RangesOverlap}
use Rattle.fp_base.specs.Least.{InSome}
use Rattle.fp_instances.specs.declared.instance_facts.InstanceFacts.{InstanceFacts}
use Rattle.fp_instances.specs.declared.ranges.IdRange.{IdRange}

abbrev pub range_with : InstanceFacts → Option ℤ → Option ℕ → Option IdRange
range_with i (Some base) (Some top) = Some (record { at = i.at; base = base; top = top })
range_with i _ _ = None

abbrev pub range_of : InstanceFacts → Option IdRange
range_of i = range_with i i.base.number i.top

abbrev pub ranges : List InstanceFacts → List IdRange
ranges is = filter_map range_of is

abbrev pub last_of : IdRange → ℤ
last_of r = r.base +ℤ pos r.top

abbrev pub ends_before : IdRange → IdRange → Bool
ends_before q r = int_lt (last_of q) r.base

-- a number lies in both
abbrev pub overlap : IdRange → IdRange → Bool
overlap q r = not (ends_before q r) && not (ends_before r q)

-- at the later one, beside the place of the first of the earlier ones
abbrev pub overlapping : IdRange → IdRange → Refusal
overlapping q r = record { rule = RangesOverlap; place = r.at; other = Some q.at }

abbrev pub OverlapsEarlier : List IdRange → ℕ → IdRange → Refusal → Type 0
OverlapsEarlier rs k r f = (q : IdRange) × (find (λ (p : IdRange). overlap p r) (take k rs) ≡ Some q) × (f ≡ overlapping q r)

abbrev pub RangesBroken : List IdRange → Refusal → Type 0
RangesBroken rs = InSome (OverlapsEarlier rs) rs
