use Rattle.std.proofs.Common.{◌≡◌, min, max, take}
use Rattle.std.specs.List.{fold}
use Rattle.fp_base.specs.declared.value.MemberValue.{MemberValue}
use Rattle.fp_tables.specs.Types.{levels}
use Rattle.fp_sound_types.proofs.sizes.+levels.Given as goal

abbrev pub invariant-items_levels-loop-item : goal.invariant-items_levels-loop-item
invariant-items_levels-loop-item l = l.most ≡ min (fold (λ most value. max most (levels value)) 0 (take l.item-index l.items)) 65

abbrev pub invariant-parts_levels-loop-part : goal.invariant-parts_levels-loop-part
invariant-parts_levels-loop-part l = l.most ≡ min (fold (λ most (part : MemberValue). max most (levels part.value)) 0 (take l.part-index l.parts)) 65
