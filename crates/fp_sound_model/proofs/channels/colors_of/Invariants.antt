use Rattle.std.proofs.Common.{◌≡◌, not, map, take}
use Rattle.std.specs.List.{filter}
use Rattle.fp_tables.specs.declared.component.Limit.{Limit}
use Rattle.fp_sound_model.proofs.channels.colors_of.Given as goal

abbrev pub invariant-loop-limit : goal.invariant-loop-limit
invariant-loop-limit l = record {
  above : l.above.items ≡ map (λ (limit : Limit). limit.color) (filter (λ (limit : Limit). limit.high) (take l.limit-index l.limits));
  below : l.below.items ≡ map (λ (limit : Limit). limit.color) (filter (λ (limit : Limit). not limit.high) (take l.limit-index l.limits));
}
