use Rattle.std.proofs.Common.{rules, ◌∙◌, ap, None, ℕ}
use Rattle.std.specs.List.Sorted.{IsNonDecreasingBy}
use Rattle.std.proofs.lemmas.List.Sorted.{IsNonDecreasingBy-from_sort_by_key}
use Rattle.std.specs.List.{filter_map}
use Rattle.fp_tables.specs.Instances.{range_of}
use Rattle.fp_sound_model.specs.IdRanges.{rise_above}
use Rattle.fp_sound_model.proofs.RangesApart.{sorted_apart}
use Rattle.fp_sound_model.proofs.ranges.ranges_are_apart.Goals as goal

pub returns : goal.returns
returns c =
    let made = c.in_ok-ranges.ensures ∙ ap (filter_map (range_of c.args.model.now)) c.as_slice.ensures in
    let ascend : IsNonDecreasingBy (λ (r : ℕ × ℕ). r.0) c.sort_by_key.new.self.items =
    IsNonDecreasingBy-from_sort_by_key (λ (r : ℕ × ℕ). r.0) _ c.in_ok-sort_by_key.ensures.sorted (λ a r q k. search rules)
    in
    c.rise.ensures ∙ ap (rise_above None) (c.as_slice-2).ensures.value
    ∙ sorted_apart (range_of c.args.model.now) c.args.model.now.instances c.in_ok-ranges.ranges.items c.sort_by_key.new.self.items made c.sort_by_key.ensures.permutation ascend
