-- What instances of components break is broken at their names, or at numbers in them.
use Rattle.std.proofs.Common.{ℕ, ℤ, List, Option, Some, None, inl, inr}
use Rattle.std.specs.List.{AllByRecursion as Each}
use Rattle.fp_base.specs.declared.place.Place.{Place}
use Rattle.fp_base.specs.declared.refusal.Refusal.{Refusal}
use Rattle.fp_base.proofs.Lists.{InOption, each_mapped, each_weaker, of_item}
use Rattle.fp_tables.specs.declared.component.Component.{Component}
use Rattle.fp_written_parts.specs.declared.port.Given.{Given}
use Rattle.fp_written_parts.specs.declared.instance.WrittenInstance.{WrittenInstance}
use Rattle.fp_instances.specs.declared.instance_facts.InstanceFacts.{InstanceFacts}
use Rattle.fp_instances.specs.InstanceBroken.{BrokenInstance, BrokenNumber, BrokenNumbers, BrokenWords}
use Rattle.fp_instances.specs.declared.ranges.IdRange.{IdRange}
use Rattle.fp_instances.specs.Broken.{InstancesBroken}
use Rattle.fp_instances.specs.Facts.{all_facts, facts_of}
use Rattle.fp_instances.specs.Ranges.{RangesBroken, range_of, range_with, ranges}
use Rattle.fp_source_laws.proofs.Parted.{same_place}
use Rattle.fp_source_laws.proofs.Filtered.{each_found}
use Rattle.fp_source_laws.proofs.Written.{GivenStands}
use Rattle.fp_source_laws.proofs.WrittenDeployment.{InstanceStands}

module _ (G : Place → Type 0) where
  record FactsStand (i : InstanceFacts) : Type 0 where
    pub here : G i.at
    pub of_base : GivenStands G i.base
    pub of_queue : InOption (GivenStands G) i.queue
    pub of_stack : InOption (GivenStands G) i.stack
    pub of_priority : InOption (GivenStands G) i.priority
    pub of_cpu : InOption (GivenStands G) i.cpu

  abbrev RangeStands : IdRange → Type 0
  RangeStands r = G r.at

  facts_stand : (cs : List Component) (ws : List WrittenInstance) → Each (InstanceStands G) ws → Each FactsStand (all_facts cs ws)
  facts_stand cs ws h =
      each_mapped FactsStand (facts_of cs) ws
      (each_weaker (InstanceStands G) (λ (w : WrittenInstance). FactsStand (facts_of cs w))
      (λ w k. record { here = k.here; of_base = k.of_base; of_queue = k.of_queue; of_stack = k.of_stack; of_priority = k.of_priority; of_cpu = k.of_cpu }) ws h)

  -- ---- each by itself

  words_placed : (i : InstanceFacts) (f : Refusal) → FactsStand i → BrokenWords i f → G f.place
  words_placed i f h (inl b) = same_place G f _ b.0 h.here
  words_placed i f h (inr b) = same_place G f _ b.0 h.here

  number_placed : (low high : ℤ) (o : Option Given) (f : Refusal) → InOption (GivenStands G) o → BrokenNumber low high o f → G f.place
  number_placed low high None f h b = absurd b
  number_placed low high (Some g) f h b = same_place G f _ b.0 h

  numbers_placed : (i : InstanceFacts) (f : Refusal) → FactsStand i → BrokenNumbers i f → G f.place
  numbers_placed i f h (inl b) = same_place G f _ b.0 h.of_base
  numbers_placed i f h (inr (inl (inl b))) = number_placed _ _ i.queue f h.of_queue b
  numbers_placed i f h (inr (inl (inr b))) = number_placed _ _ i.stack f h.of_stack b
  numbers_placed i f h (inr (inr (inl b))) = number_placed _ _ i.priority f h.of_priority b
  numbers_placed i f h (inr (inr (inr b))) = number_placed _ _ i.cpu f h.of_cpu b

  instance_placed : (i : InstanceFacts) (f : Refusal) → FactsStand i → BrokenInstance i f → G f.place
  instance_placed i f h (inl b) = words_placed i f h b
  instance_placed i f h (inr b) = numbers_placed i f h b

  -- ---- with one another

  range_stands : (i : InstanceFacts) (base : Option ℤ) (top : Option ℕ) → G i.at → InOption RangeStands (range_with i base top)
  range_stands i (Some base) (Some top) h = h
  range_stands i (Some base) None h = tt
  range_stands i None (Some top) h = tt
  range_stands i None None h = tt

  ranges_stand : (is : List InstanceFacts) → Each FactsStand is → Each RangeStands (ranges is)
  ranges_stand is h =
      each_found RangeStands range_of is
      (each_weaker FactsStand (λ (i : InstanceFacts). InOption RangeStands (range_of i)) (λ i k. range_stands i i.base.number i.top k.here) is h)

  range_placed : (rs : List IdRange) (f : Refusal) → Each RangeStands rs → RangesBroken rs f → G f.place
  range_placed rs f h (k, r, at, (q, first, is)) = same_place G f _ is (of_item RangeStands rs k r h at)

  pub instances_placed : (cs : List Component) (ws : List WrittenInstance) (f : Refusal) → Each (InstanceStands G) ws → InstancesBroken cs ws f → G f.place
  instances_placed cs ws f h (inl (k, i, at, b)) = instance_placed i f (of_item FactsStand (all_facts cs ws) k i (facts_stand cs ws h) at) b
  instances_placed cs ws f h (inr b) = range_placed (ranges (all_facts cs ws)) f (ranges_stand (all_facts cs ws) (facts_stand cs ws h)) b
