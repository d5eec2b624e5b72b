-- Which definitions a definition uses, and the rules on cycles and on chains of uses. A constant and an enumerated constant use what is
-- named in the expression that gives them their value; any other definition uses what is named in it, its sizes and its default among
-- that; and an enumeration uses its own constants, which don't use it.
use Rattle.std.specs.Prelude.{◌≡◌, ℕ, ◌+◌, ◌<◌, List, length, flat_map, slice_get, Some}
use Rattle.fp_base.specs.declared.refusal.Refusal.{Refusal}
use Rattle.fp_base.specs.declared.rule.Rule.TheVariants.{Cycle, ChainTooLong}
use Rattle.fp_base.specs.Least.{broken_at, Either, InSome}
use Rattle.fp_graph.specs.Chains.{IsOnCycle, Chain}
use Rattle.fp_tree.specs.declared.source.Source.{Source}
use Rattle.fp_meaning.specs.declared.group.Group.{Group}
use Rattle.fp_meaning.specs.declared.group.Group.TheVariants.{Kind, Value}
use Rattle.fp_meaning.specs.declared.item.Item.{Item}
use Rattle.fp_meaning.specs.declared.names.Definition.{Definition}
use Rattle.fp_meaning.specs.declared.names.Mention.{Mention}
use Rattle.fp_meaning.specs.Layout.{items}
use Rattle.fp_meaning.specs.Names.{definitions_of, uses_of}
use Rattle.fp_meaning.specs.Meaning.{Means}
use Rattle.fp_meaning.specs.Owners.{owners_from, counts_of}

module _ (is : List Item) where
  -- a definition uses another: by a name that it has, or as an enumeration its constants
  pub data Uses : ℕ → ℕ → Type 0 where
    by_name : {user used : ℕ} (k : ℕ) (m : Mention) → user < length (flat_map definitions_of is)
        → slice_get (owners_from 0 is) k ≡ Some user → slice_get (flat_map uses_of is) k ≡ Some m
        → Means (flat_map definitions_of is) m.scope m.name m.group used → Uses user used
    by_constant : {user used : ℕ} (constants k : ℕ) → slice_get (flat_map counts_of is) user ≡ Some constants → k < constants
        → used ≡ user + 1 + k → used < length (flat_map definitions_of is) → Uses user used

  -- V5, at each name on a cycle
  abbrev pub IsCyclic : ℕ → Definition → Refusal → Type 0
  IsCyclic number d f = (f ≡ broken_at Cycle d.place) × IsOnCycle Uses number

  -- V17, at the name at the head: a chain of more than 256 definitions, so of 256 uses and more. A chain isn't counted past a cycle
  abbrev pub IsTooDeep : ℕ → Definition → Refusal → Type 0
  IsTooDeep number d f = (f ≡ broken_at ChainTooLong d.place) × Chain (length (flat_map definitions_of is)) Uses number 256

  -- at a definition of a group
  abbrev pub BreaksAt : Group → ℕ → Definition → Refusal → Type 0
  BreaksAt group number d f = (d.group ≡ group) × Either (IsCyclic number d) (IsTooDeep number d) f

  abbrev pub BrokenByChains : Group → Refusal → Type 0
  BrokenByChains group = InSome (BreaksAt group) (flat_map definitions_of is)

-- the constants and types of a source; what else uses something is used by none of them
abbrev pub UsesBroken : Source → Refusal → Type 0
UsesBroken source = Either (BrokenByChains (items source) Kind) (BrokenByChains (items source) Value)
