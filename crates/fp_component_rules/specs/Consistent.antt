-- What holds of interfaces and components where they break no rule as wholes.
use Rattle.std.specs.Prelude.{◌≡◌, ℕ, ℤ, true, List, find, slice_get, Some}
use Rattle.fp_tables.specs.declared.component.Queueing.TheVariants.{Passive}
use Rattle.fp_written_parts.specs.declared.port.WrittenPort.{WrittenPort}
use Rattle.fp_written_parts.specs.declared.member.WrittenMatch.{WrittenMatch}
use Rattle.fp_written_parts.specs.declared.member.WrittenMember.{WrittenMember}
use Rattle.fp_written_parts.specs.declared.member.WrittenMember.TheVariants.{Match}
use Rattle.fp_written_parts.specs.declared.member.WrittenInterface.{WrittenInterface}
use Rattle.fp_written_parts.specs.declared.member.WrittenComponent.{WrittenComponent}
use Rattle.fp_written_parts.specs.Giving.{GiveAll, IsCyclic}
use Rattle.fp_component_rules.specs.Firsts.{is_named}
use Rattle.fp_component_rules.specs.Lists.{AreNamedOnce}
use Rattle.fp_component_rules.specs.Broken.{AreOfOneKind, Waits, is_general, size_of}

-- a match names two different ports of a list, general ones of one size
pub record ArePaired (ports : List WrittenPort) (d : WrittenMatch) : Type 0 where
  pub j : ℕ
  pub one : WrittenPort
  pub here : slice_get ports j ≡ Some one
  pub first : find (is_named d.first) ports ≡ Some one
  pub k : ℕ
  pub other : WrittenPort
  pub there : slice_get ports k ≡ Some other
  pub second : find (is_named d.second) ports ≡ Some other
  pub differ : j ≡ k → ⊥
  pub one_general : is_general one.role ≡ true
  pub other_general : is_general other.role ≡ true
  pub sizes : (m n : ℤ) → size_of one.size ≡ Some m → size_of other.size ≡ Some n → m ≡ n

-- no two ports of a list are special ones of one kind
abbrev pub AreOfManyKinds : List WrittenPort → Type 0
AreOfManyKinds ports = (j k : ℕ) (p q : WrittenPort) → slice_get ports j ≡ Some p → slice_get ports k ≡ Some q → AreOfOneKind p q → j ≡ k

module _ (interfaces : List WrittenInterface) where
  pub record IsConsistent (c : WrittenComponent) : Type 0 where
    pub kinds : (ports : List WrittenPort) → GiveAll interfaces c.members ports → AreOfManyKinds ports
    pub waits : c.queueing ≡ Passive → (k : ℕ) (m : WrittenMember) → slice_get c.members k ≡ Some m → Waits interfaces m → ⊥
    pub pairs : (ports : List WrittenPort) → GiveAll interfaces c.members ports → (k : ℕ) (d : WrittenMatch) → slice_get c.members k ≡ Some (Match d) → ArePaired ports d

  pub record AreConsistent (components : List WrittenComponent) : Type 0 where
    pub named : AreNamedOnce interfaces components
    pub acyclic : (v : ℕ) → IsCyclic interfaces v → ⊥
    pub each : (k : ℕ) (c : WrittenComponent) → slice_get components k ≡ Some c → IsConsistent c
