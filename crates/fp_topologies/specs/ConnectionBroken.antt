-- The rules that a connection of a topology breaks by itself, and where each is broken. FPP Language Specification, "Connection Graph Specifiers".
use Rattle.std.specs.Prelude.{◌≡◌, ℕ, Bool, false, List, Option, None, Some}
use Rattle.fp_base.specs.declared.refusal.Refusal.{Refusal}
use Rattle.fp_base.specs.declared.rule.Rule.TheVariants.{BadDirection, PortMissing, TypesDiffer}
use Rattle.fp_base.specs.Least.{BrokenAt, Either, InSome}
use Rattle.fp_tables.specs.declared.component.Role.{Role}
use Rattle.fp_tables.specs.Lookup.{is_input, is_output}
use Rattle.fp_topologies.specs.declared.facts.JoinedPort.{JoinedPort}
use Rattle.fp_topologies.specs.declared.facts.ConnectionFacts.{ConnectionFacts}
use Rattle.fp_topologies.specs.declared.facts.EndFacts.{EndFacts}

-- ---- at an end, by what its port has to be

-- its port isn't so
abbrev pub IsOther : (Role → Bool) → Option JoinedPort → Type 0
IsOther wanted port = (p : JoinedPort) × (port ≡ Some p) × (wanted p.role ≡ false)

abbrev pub BrokenEnd : (Role → Bool) → EndFacts → Refusal → Type 0
BrokenEnd wanted e = Either (BrokenAt PortMissing e.at (e.port ≡ None)) (BrokenAt BadDirection e.at (IsOther wanted e.port))

-- ---- at a connection

-- both ports are of one definition; an internal port is of none
abbrev pub AreOfOne : JoinedPort → JoinedPort → Type 0
AreOfOne p q = (definition : ℕ) × (p.of ≡ Some definition) × (q.of ≡ Some definition)

abbrev pub Differ : Option JoinedPort → Option JoinedPort → Type 0
Differ from to = (p : JoinedPort) × (q : JoinedPort) × (from ≡ Some p) × (to ≡ Some q) × (AreOfOne p q → ⊥)

-- from an output to an input of one definition
abbrev pub BrokenConnection : ConnectionFacts → Refusal → Type 0
BrokenConnection c =
    Either (BrokenAt TypesDiffer c.at (Differ c.from.port c.to.port)) (Either (BrokenEnd is_output c.from) (BrokenEnd is_input c.to))

abbrev pub BrokenByConnections : List ConnectionFacts → Refusal → Type 0
BrokenByConnections = InSome (λ (k : ℕ). BrokenConnection)
