-- The order of positions by the names of their types.
use Rattle.std.proofs.Common.{ℕ, List}
use Rattle.std.specs.Cmp.{IsStrictWeakOrder, IsTotalOrder}
use Rattle.std.specs.Ordering.{is_lt}
use Rattle.std.proofs.lemmas.Cmp.{nat_list_cmp_total, on_total}
use Rattle.std.proofs.lemmas.List.Sorted.{ranks_by}
use Rattle.fp_tables.specs.declared.kind.TypeDef.{TypeDef}
use Rattle.fp_dictionary.specs.Sorting.{type_cmp}
use Rattle.fp_dictionary.specs.Used.{type_name}

module _ (types : List TypeDef) where
  type_total : IsTotalOrder (type_cmp types)
  type_total = on_total (λ (k : ℕ). type_name types k) nat_list_cmp_total

  pub type_ranks : IsStrictWeakOrder (λ (a b : ℕ). is_lt (type_cmp types a b))
  type_ranks = ranks_by type_total (λ (k : ℕ). k)
