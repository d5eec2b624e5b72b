-- An order of what uses what is one of the types that have sizes.
use Rattle.std.proofs.Common.{ℕ, List, length, refl}
use Rattle.fp_tables.specs.declared.kind.Kind.TheVariants as kind
use Rattle.fp_type_sizes.specs.declared.written.WrittenType.{WrittenType}
use Rattle.fp_type_sizes.specs.Found.{UsesIn, LeadsIn, once, again}
use Rattle.fp_type_sizes.specs.Found.{UsesType, LeadsTo, IsTypeOrder, AreTypeUses, IsSortedBy}
use Rattle.fp_type_sizes.specs.Found as found
use Rattle.fp_type_sizes.proofs.NoCycle.{no_cycle}
use Rattle.fp_type_sizes.proofs.Counted.{formed}
use Rattle.fp_type_sizes.proofs.Limits.{HasSize, used_sized}

module _ (ws : List WrittenType) (uses : List (List ℕ)) (are : AreTypeUses ws uses) where
  uses_of : {v w : ℕ} → HasSize ws (kind.Named v) → UsesIn uses v w → UsesType ws v w
  uses_of {v = v} {w = w} s u = let f = formed ws v s.0 s.1 s.2 in are.formed v w f.0 f.1 u

  leads_by : {v w : ℕ} → HasSize ws (kind.Named v) → LeadsIn uses v w → LeadsTo ws v w
  leads_by s (once u) = found.one (uses_of s u)
  leads_by s (again u l) = let t = uses_of s u in found.more t (leads_by (used_sized s t) l)

  pub ordered_by : (order : List ℕ) → IsSortedBy uses (length ws) order → IsTypeOrder ws order
  ordered_by order sorted = record {
    all = sorted.all;
    within = sorted.within;
    behind = λ k v w a b is m u. sorted.behind k v w is (λ l. no_cycle m v refl (leads_by (a, b, m) l)) (are.covers v w u);
  }
