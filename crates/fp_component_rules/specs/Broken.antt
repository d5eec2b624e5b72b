-- The rules that components break as wholes, and the interfaces that they import, and where each is broken. FPP Language Specification, "Component
-- Definitions", "Port Interface Definitions", "Port Matching Specifiers".
use Rattle.std.specs.Prelude.{◌≡◌, ℕ, ◌<◌, ◌⊎◌, ℤ, pos, Bool, true, false, List, [], ◌∷◌, find, slice_get, Option, None, Some}
use Rattle.std.specs.List.{list_any}
use Rattle.fp_base.specs.declared.place.Place.{Place}
use Rattle.fp_base.specs.declared.refusal.Refusal.{Refusal}
use Rattle.fp_base.specs.declared.rule.Rule.{Rule}
use Rattle.fp_base.specs.declared.rule.Rule.TheVariants.{PortNameRepeated, SpecialPort, PassiveWithQueueUse, QueueWithoutUse, SpecialPortMissing, BadMatch, InterfaceCycle}
use Rattle.fp_base.specs.Least.{BrokenAt, ByOptional, Either, InSome}
use Rattle.fp_tree.specs.declared.dictionary.CommandKind.{CommandKind}
use Rattle.fp_tree.specs.declared.dictionary.CommandKind.TheVariants.{Async}
use Rattle.fp_tables.specs.Components.{same_special}
use Rattle.fp_tables.specs.declared.component.Queueing.{Queueing}
use Rattle.fp_tables.specs.declared.component.Queueing.TheVariants.{Passive}
use Rattle.fp_tables.specs.declared.component.Special.{Special}
use Rattle.fp_tables.specs.declared.component.Special.TheVariants as special
use Rattle.fp_written_parts.specs.declared.port.Given.{Given}
use Rattle.fp_written_parts.specs.declared.port.WrittenPort.{WrittenPort}
use Rattle.fp_written_parts.specs.declared.port.WrittenRole.{WrittenRole}
use Rattle.fp_written_parts.specs.declared.port.WrittenRole.TheVariants as role
use Rattle.fp_written_parts.specs.declared.member.WrittenMatch.{WrittenMatch}
use Rattle.fp_written_parts.specs.declared.member.WrittenMember.{WrittenMember}
use Rattle.fp_written_parts.specs.declared.member.WrittenMember.TheVariants.{Port, Import, Command, Event, Channel, Param, Match, Running}
use Rattle.fp_written_parts.specs.declared.member.WrittenInterface.{WrittenInterface}
use Rattle.fp_written_parts.specs.declared.member.WrittenComponent.{WrittenComponent}
use Rattle.fp_written_parts.specs.Giving.{Gives, GiveAll}
use Rattle.fp_component_rules.specs.Cycles.{IsCycleBroken}
use Rattle.fp_component_rules.specs.Firsts.{is_asynchronous, is_named}
use Rattle.fp_component_rules.specs.Gifts.{GivenAmong, LeadsAmong}

-- where a member stands that gives ports
abbrev pub giver_at : WrittenMember → Option Place
giver_at (Port p) = Some p.at
giver_at (Import i) = Some i.at
giver_at _ = None

-- where one begins that may bring something into a queue
abbrev pub bringer_at : WrittenMember → Option Place
bringer_at (Port p) = Some p.begins
bringer_at (Import i) = Some i.at
bringer_at (Command c) = Some c.begins
bringer_at (Running r) = Some r.begins
bringer_at _ = None

abbrev pub is_async : CommandKind → Bool
is_async Async = true
is_async _ = false

-- an asynchronous command, or an instance of a state machine
abbrev pub waits_itself : WrittenMember → Bool
waits_itself (Command c) = is_async c.kind
waits_itself (Running r) = true
waits_itself _ = false

-- the kinds of special ports that a member needs
abbrev pub needed_by : WrittenMember → List Special
needed_by (Command c) = special.CmdRecv ∷ special.CmdReg ∷ special.CmdResp ∷ []
needed_by (Param d) = special.CmdRecv ∷ special.CmdReg ∷ special.CmdResp ∷ special.PrmGet ∷ special.PrmSet ∷ []
needed_by (Event e) = special.Event ∷ special.TextEvent ∷ special.Time ∷ []
needed_by (Channel t) = special.Tlm ∷ special.Time ∷ []
needed_by _ = []

abbrev pub needs : Special → WrittenMember → Bool
needs kind m = list_any (same_special kind) (needed_by m)

-- ---- two ports

abbrev pub HaveOneName : WrittenPort → WrittenPort → Type 0
HaveOneName p q = p.name ≡ q.name

-- special ports of one kind
abbrev pub AreOfOneKind : WrittenPort → WrittenPort → Type 0
AreOfOneKind p q = (kind : Special) × (p.role ≡ role.Special kind) × (q.role ≡ role.Special kind)

-- an input or an output
abbrev pub is_general : WrittenRole → Bool
is_general (role.Special kind) = false
is_general role.Internal = false
is_general _ = true

-- how many ports a port is, where that is a number
abbrev pub size_of : Option Given → Option ℤ
size_of None = Some (pos 1)
size_of (Some g) = g.number

-- both sizes are numbers, and they differ
abbrev pub DifferInSize : Option ℤ → Option ℤ → Type 0
DifferInSize s t = (m : ℤ) × (n : ℤ) × (s ≡ Some m) × (t ≡ Some n) × (m ≡ n → ⊥)

module _ (interfaces : List WrittenInterface) where
  -- ---- ports that are given twice

  -- a member before the k-th gives a port
  pub record GivenBefore (members : List WrittenMember) (k : ℕ) (p : WrittenPort) : Type 0 where
    pub j : ℕ
    pub before : j < k
    pub member : WrittenMember
    pub here : slice_get members j ≡ Some member
    pub gives : Gives interfaces member p

  -- the k-th member gives a port that clashes with one that a member before it gives
  pub record GivesAgain (Clash : WrittenPort → WrittenPort → Type 0) (members : List WrittenMember) (k : ℕ) (m : WrittenMember) : Type 0 where
    pub earlier : WrittenPort
    pub given : GivenBefore members k earlier
    pub later : WrittenPort
    pub gives : Gives interfaces m later
    pub clash : Clash earlier later

  abbrev pub ClashAt : Rule → (WrittenPort → WrittenPort → Type 0) → List WrittenMember → ℕ → WrittenMember → Refusal → Type 0
  ClashAt rule Clash members k m = ByOptional (λ place. BrokenAt rule place (GivesAgain Clash members k m)) (giver_at m)

  abbrev pub RepeatsAt : List WrittenMember → ℕ → WrittenMember → Refusal → Type 0
  RepeatsAt members k m = Either (ClashAt PortNameRepeated HaveOneName members k m) (ClashAt SpecialPort AreOfOneKind members k m)

  abbrev pub RepeatsBroken : List WrittenMember → Refusal → Type 0
  RepeatsBroken members = InSome (RepeatsAt members) members

  -- ---- what waits in a queue

  -- it waits itself, or it gives an asynchronous input or an internal port
  abbrev pub Waits : WrittenMember → Type 0
  Waits m = (waits_itself m ≡ true) ⊎ ((p : WrittenPort) × Gives interfaces m p × (is_asynchronous p.role ≡ true))

  pub record WaitsAmong (members : List WrittenMember) : Type 0 where
    pub k : ℕ
    pub member : WrittenMember
    pub here : slice_get members k ≡ Some member
    pub waits : Waits member

  abbrev pub UseAt : ℕ → WrittenMember → Refusal → Type 0
  UseAt k m = ByOptional (λ place. BrokenAt PassiveWithQueueUse place (Waits m)) (bringer_at m)

  -- where an interface on a cycle is imported, not all is known that members give
  abbrev pub BrokenUnused : Place → List WrittenMember → Refusal → Type 0
  BrokenUnused at members = BrokenAt QueueWithoutUse at ((WaitsAmong members → ⊥) × (LeadsAmong interfaces members → ⊥))

  -- a passive component has no queue, and another uses its own
  abbrev pub QueueBroken : Queueing → Place → List WrittenMember → Refusal → Type 0
  QueueBroken Passive at members = InSome UseAt members
  QueueBroken _ at members = BrokenUnused at members

  -- ---- special ports that are missing

  -- a member needs a special port of a kind that no member gives
  pub record IsMissing (members : List WrittenMember) : Type 0 where
    pub k : ℕ
    pub member : WrittenMember
    pub here : slice_get members k ≡ Some member
    pub kind : Special
    pub needed : needs kind member ≡ true
    pub lacks : (p : WrittenPort) → GivenAmong interfaces members p → p.role ≡ role.Special kind → ⊥

  abbrev pub SpecialBroken : Place → List WrittenMember → Refusal → Type 0
  SpecialBroken at members = BrokenAt SpecialPortMissing at (IsMissing members × (LeadsAmong interfaces members → ⊥))

  -- ---- matches

  -- a name stands for the first port of the whole list that has it
  pub record Names (members : List WrittenMember) (name : List ℕ) (p : WrittenPort) : Type 0 where
    pub all : List WrittenPort
    pub given : GiveAll interfaces members all
    pub first : find (is_named name) all ≡ Some p

  abbrev pub NamesNone : List WrittenMember → List ℕ → Type 0
  NamesNone members name = (p : WrittenPort) → Names members name p → ⊥

  -- two ports are named, and they aren't two different general ports of one size
  pub record NamesUnlike (members : List WrittenMember) (d : WrittenMatch) : Type 0 where
    pub one : WrittenPort
    pub first : Names members d.first one
    pub other : WrittenPort
    pub second : Names members d.second other
    pub unlike : (d.first ≡ d.second) ⊎ ((is_general one.role ≡ false) ⊎ ((is_general other.role ≡ false) ⊎ DifferInSize (size_of one.size) (size_of other.size)))

  -- a port is missing that no interface on a cycle would give, or the ports are unlike
  abbrev pub IsBadMatch : List WrittenMember → WrittenMatch → Type 0
  IsBadMatch members d = ((NamesNone members d.first ⊎ NamesNone members d.second) × (LeadsAmong interfaces members → ⊥)) ⊎ NamesUnlike members d

  abbrev pub MatchAt : List WrittenMember → WrittenMember → Refusal → Type 0
  MatchAt members (Match d) = BrokenAt BadMatch d.at (IsBadMatch members d)
  MatchAt members _ = λ f. ⊥

  abbrev pub MatchesBroken : List WrittenMember → Refusal → Type 0
  MatchesBroken members = InSome (λ k. MatchAt members) members

  -- ---- an interface, a component, and all of them

  abbrev pub InterfaceBroken : ℕ → WrittenInterface → Refusal → Type 0
  InterfaceBroken k f = RepeatsBroken f.members

  abbrev pub ComponentBroken : ℕ → WrittenComponent → Refusal → Type 0
  ComponentBroken k c =
      Either (Either (RepeatsBroken c.members) (QueueBroken c.queueing c.at c.members)) (Either (SpecialBroken c.at c.members) (MatchesBroken c.members))

abbrev pub ComponentsBroken : List WrittenInterface → List WrittenComponent → Refusal → Type 0
ComponentsBroken interfaces components =
    Either (IsCycleBroken interfaces InterfaceCycle) (Either (InSome (InterfaceBroken interfaces) interfaces) (InSome (ComponentBroken interfaces) components))
