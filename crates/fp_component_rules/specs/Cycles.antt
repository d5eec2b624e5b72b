-- Imports on a cycle.
use Rattle.std.specs.Prelude.{◌≡◌, ℕ, ◌⊎◌, List, slice_get, Some}
use Rattle.fp_base.specs.Least.{broken_at}
use Rattle.fp_base.specs.declared.rule.Rule.{Rule}
use Rattle.fp_base.specs.declared.refusal.Refusal.{Refusal}
use Rattle.fp_graph.specs.Chains.{LeadsThrough}
use Rattle.fp_written_parts.specs.declared.port.WrittenImport.{WrittenImport}
use Rattle.fp_written_parts.specs.declared.member.WrittenInterface.{WrittenInterface}
use Rattle.fp_written_parts.specs.declared.member.WrittenMember.TheVariants.{Import}
use Rattle.fp_written_parts.specs.Giving.{Imports}

module _ (interfaces : List WrittenInterface) where
  -- the one is the other or imports it, perhaps through others
  abbrev pub Reaches : ℕ → ℕ → Type 0
  Reaches from to = (from ≡ to) ⊎ LeadsThrough (Imports interfaces) from to

  -- the rule is broken at each import of an interface that reaches the importer again
  pub record IsCycleBroken (rule : Rule) (f : Refusal) : Type 0 where
    pub importer : ℕ
    pub written : WrittenInterface
    pub here : slice_get interfaces importer ≡ Some written
    pub k : ℕ
    pub import_ : WrittenImport
    pub member : slice_get written.members k ≡ Some (Import import_)
    pub back : Reaches import_.interface importer
    pub is : f ≡ broken_at rule import_.at
