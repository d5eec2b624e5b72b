-- What holds of each definition of a group, if it holds where it holds of all that one uses of the group, and none of them is on a cycle or at
-- the head of too long a chain.
use Rattle.std.proofs.Common.{◌≡◌, ℕ, zero, suc, List, length, flat_map, slice_get, Some, inl, inr, refl}
use Rattle.std.proofs.lemmas.Option.{slice_get_within}
use Rattle.fp_base.specs.declared.rule.Rule.TheVariants.{Cycle, ChainTooLong}
use Rattle.fp_base.specs.Least.{broken_at, IsUnbroken}
use Rattle.fp_graph.specs.Chains.{Chain, alone, longer, IsOnCycle}
use Rattle.fp_meaning.specs.declared.group.Group.{Group}
use Rattle.fp_meaning.specs.declared.item.Item.{Item}
use Rattle.fp_meaning.specs.declared.names.Definition.{Definition}
use Rattle.fp_meaning.specs.Names.{definitions_of}
use Rattle.fp_meaning.specs.Uses.{Uses, BrokenByChains}

-- the definition with the number is of the group
abbrev pub IsOf : List Item → Group → ℕ → Type 0
IsOf is g n = (d : Definition) × (slice_get (flat_map definitions_of is) n ≡ Some d) × (d.group ≡ g)

module _ (is : List Item) (g : Group) (unbroken : IsUnbroken (BrokenByChains is g)) (P : ℕ → Type 0)
    (step : (n : ℕ) → IsOf is g n → ((m : ℕ) → Uses is n m → IsOf is g m → P m) → P n) where
  off_cycles : (n : ℕ) → IsOf is g n → IsOnCycle (Uses is) n → ⊥
  off_cycles n of cycle = unbroken (broken_at Cycle of.0.place) (n, of.0, of.1, (of.2, inl (refl, cycle)))

  by_depth : (k n : ℕ) → IsOf is g n → (Chain (length (flat_map definitions_of is)) (Uses is) n k → ⊥) → P n
  by_depth zero n of none = absurd (none (alone (slice_get_within (flat_map definitions_of is) n of.0 of.1) (off_cycles n of)))
  by_depth (suc k) n of none = step n of (λ m used there. by_depth k m there (λ chain. none (longer (off_cycles n of) used chain)))

  pub by_uses : (n : ℕ) → IsOf is g n → P n
  by_uses n of = by_depth 256 n of (λ chain. unbroken (broken_at ChainTooLong of.0.place) (n, of.0, of.1, (of.2, inr (refl, chain))))
