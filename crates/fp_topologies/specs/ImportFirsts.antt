-- Of each number of a list the first, with the set of all that stand in it.
use Rattle.std.specs.Prelude.{◌≡◌, ℕ, Bool, ◌==◌, List}
use Rattle.std.specs.BTreeSet.{contains}
use Rattle.std.specs.List.{list_any}
use Rattle.std.specs.Ordering.{nat_cmp}
use Rattle.fp_topologies.specs.declared.firsts.Firsts.{Firsts}
use Rattle.fp_topologies.specs.Imports.{first_of_each}

abbrev pub has_number : ℕ → List ℕ → Bool
has_number i ns = list_any (λ (n : ℕ). n == i) ns

pub record AreFirsts (all : List ℕ) (f : Firsts) : Type 0 where
  pub row : f.row ≡ first_of_each all
  pub seen : (i : ℕ) → contains nat_cmp f.seen i ≡ has_number i all
