-- The whole lists of ports of components, where no name is given twice.
use Rattle.std.specs.Prelude.{◌≡◌, ℕ, ◌<◌, List, length, slice_get, Some}
use Rattle.fp_written_parts.specs.declared.port.WrittenPort.{WrittenPort}
use Rattle.fp_written_parts.specs.declared.member.WrittenComponent.{WrittenComponent}
use Rattle.fp_written_parts.specs.declared.member.WrittenInterface.{WrittenInterface}
use Rattle.fp_written_parts.specs.declared.member.WrittenMember.{WrittenMember}
use Rattle.fp_written_parts.specs.Giving.{Gives, GiveAll, ImportsWithin}
use Rattle.fp_component_rules.specs.Firsts.{AreApart}

module _ (interfaces : List WrittenInterface) where
  -- no member gives a port with the name of one that an earlier member gives
  abbrev pub IsNamedOnce : List WrittenMember → Type 0
  IsNamedOnce members = (j k : ℕ) (m e : WrittenMember) (p q : WrittenPort) → j < k → slice_get members j ≡ Some m → slice_get members k ≡ Some e
      → Gives interfaces m p → Gives interfaces e q → p.name ≡ q.name → ⊥

  -- in no interface, and in none of the components
  pub record AreNamedOnce (components : List WrittenComponent) : Type 0 where
    pub in_interfaces : (v : ℕ) (f : WrittenInterface) → slice_get interfaces v ≡ Some f → IsNamedOnce f.members
    pub in_components : (k : ℕ) (c : WrittenComponent) → slice_get components k ≡ Some c → IsNamedOnce c.members

  -- the list of each component
  pub record ArePortLists (components : List WrittenComponent) (lists : List (List WrittenPort)) : Type 0 where
    pub each : length lists ≡ length components
    pub of : (k : ℕ) (c : WrittenComponent) (ports : List WrittenPort) → slice_get components k ≡ Some c → slice_get lists k ≡ Some ports → GiveAll interfaces c.members ports

-- each import of a component is of one of the interfaces
abbrev pub AreImportsWithin : List WrittenInterface → List WrittenComponent → Type 0
AreImportsWithin interfaces components = (k : ℕ) (c : WrittenComponent) → slice_get components k ≡ Some c → ImportsWithin interfaces c.members

-- in whatever list the members give, no two have one name
abbrev pub IsGivenApart : List WrittenInterface → List WrittenMember → Type 0
IsGivenApart interfaces members = (ports : List WrittenPort) → GiveAll interfaces members ports → AreApart ports
