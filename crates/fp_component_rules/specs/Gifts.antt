-- What members give, summed up.
use Rattle.std.specs.Prelude.{◌≡◌, ℕ, Bool, MatchBool, List, [], ◌∷◌, length, slice_get, Some}
use Rattle.std.specs.List.{list_any}
use Rattle.fp_tables.specs.declared.component.Special.{Special}
use Rattle.fp_written_parts.specs.declared.port.WrittenPort.{WrittenPort}
use Rattle.fp_written_parts.specs.declared.port.WrittenImport.{WrittenImport}
use Rattle.fp_written_parts.specs.declared.member.WrittenInterface.{WrittenInterface}
use Rattle.fp_written_parts.specs.declared.member.WrittenMember.{WrittenMember}
use Rattle.fp_written_parts.specs.declared.member.WrittenMember.TheVariants.{Import}
use Rattle.fp_written_parts.specs.Giving.{Gives, GiveAll, LeadsToCycle, ImportsWithin}
use Rattle.fp_component_rules.specs.declared.gift.Gift.{Gift}
use Rattle.fp_component_rules.specs.Firsts.{of_each_name, has_kind, is_of_kind, is_asynchronous}

-- what a list of ports comes to
pub record SumsUp (all : List WrittenPort) (gift : Gift) : Type 0 where
  pub firsts : gift.firsts ≡ of_each_name all
  pub kinds : (special : Special) → has_kind gift.kinds special ≡ list_any (λ (p : WrittenPort). is_of_kind special p.role) all
  pub asynchronous : gift.asynchronous ≡ list_any (λ (p : WrittenPort). is_asynchronous p.role) all

module _ (interfaces : List WrittenInterface) where
  -- some member gives a port
  pub record GivenAmong (members : List WrittenMember) (p : WrittenPort) : Type 0 where
    pub k : ℕ
    pub member : WrittenMember
    pub here : slice_get members k ≡ Some member
    pub gives : Gives interfaces member p

  -- some member leads to an interface on a cycle
  pub record LeadsAmong (members : List WrittenMember) : Type 0 where
    pub k : ℕ
    pub member : WrittenMember
    pub here : slice_get members k ≡ Some member
    pub leads : LeadsToCycle interfaces member

  -- all that members give
  pub record IsGift (members : List WrittenMember) (gift : Gift) : Type 0 where
    pub all : List WrittenPort
    pub given : GiveAll interfaces members all
    pub sums : SumsUp all gift
    pub leads : MatchBool gift.leads_to_cycle (LeadsAmong members) (LeadsAmong members → ⊥)

  -- what each interface gives to those that import it
  pub record AreGifts (gifts : List Gift) : Type 0 where
    pub each : length gifts ≡ length interfaces
    pub of : (i : WrittenImport) (gift : Gift) → slice_get gifts i.interface ≡ Some gift → IsGift (Import i ∷ []) gift

  -- what is imported stands in the table
  pub record IsServed (gifts : List Gift) (i : WrittenImport) : Type 0 where
    pub gift : Gift
    pub here : slice_get gifts i.interface ≡ Some gift
    pub is : IsGift (Import i ∷ []) gift

  abbrev pub Serves : List Gift → List WrittenMember → Type 0
  Serves gifts members = (k : ℕ) (i : WrittenImport) → slice_get members k ≡ Some (Import i) → IsServed gifts i

-- each import of an interface is of one of the interfaces
abbrev pub AreWithin : List WrittenInterface → Type 0
AreWithin interfaces = (v : ℕ) (f : WrittenInterface) → slice_get interfaces v ≡ Some f → ImportsWithin interfaces f.members

-- before any member is looked at, what is on a cycle leads to one, and nothing is given
pub record AreBegun (cyclic : List Bool) (gifts : List Gift) : Type 0 where
  pub each : length gifts ≡ length cyclic
  pub of : (v : ℕ) (gift : Gift) → slice_get gifts v ≡ Some gift → SumsUp [] gift × (slice_get cyclic v ≡ Some gift.leads_to_cycle)
