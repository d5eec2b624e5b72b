-- Ranges of instances, one after another.
use Rattle.std.proofs.Common.{◌≡◌, ℕ, ◌+◌, List, [], ◌∷◌, ◌++◌, take, slice_get, Option, Some, sym, ap, ◌∙◌}
use Rattle.std.specs.List.{cons_option, filter_map}
use Rattle.std.proofs.lemmas.List.Elements.{filter_map-append}
use Rattle.fp_base.proofs.Lists.{take_next}
use Rattle.fp_instances.specs.declared.instance_facts.InstanceFacts.{InstanceFacts}
use Rattle.fp_instances.specs.Ranges.{range_of, ranges}
use Rattle.fp_instances.specs.declared.ranges.IdRange.{IdRange}

pub one_more : (all : List InstanceFacts) (n : ℕ) (x : InstanceFacts) (rs more : List IdRange) (o : Option IdRange) → slice_get all n ≡ Some x → o ≡ range_of x → more ≡ rs ++ cons_option o []
    → rs ≡ ranges (take n all) → more ≡ ranges (take (n + 1) all)
one_more all n x rs more o at is made h =
    made ∙ ap (λ (ys : List IdRange). ys ++ cons_option o []) h ∙ ap (λ (p : Option IdRange). ranges (take n all) ++ cons_option p []) is
    ∙ sym (ap (filter_map range_of) (take_next all n x at) ∙ filter_map-append range_of (take n all) (x ∷ []))
