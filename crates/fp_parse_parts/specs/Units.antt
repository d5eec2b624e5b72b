-- What the tokens of a file of members spell, and those of a file that is included in a component or in a topology, and where and how they
-- break its grammar. FPP Language Specification, "Translation Units and Models" and "Include Specifiers".
use Rattle.std.specs.Prelude.{ℕ, ◌==◌, Bool, false, cond, List, Some, None, Result, Ok, Err}
use Rattle.fp_base.specs.declared.place.Place.{Place}
use Rattle.fp_base.specs.declared.refusal.Stop.{Stop}
use Rattle.fp_base.specs.declared.rule.Rule.{Rule}
use Rattle.fp_lexer.specs.Words.{reserved}
use Rattle.fp_lexer.specs.declared.token.Word.{Word}
use Rattle.fp_lexer.specs.declared.token.Word.TheVariants as word
use Rattle.fp_lexer.specs.declared.token.Token.{Token}
use Rattle.fp_tree.specs.declared.component.Part.{Part}
use Rattle.fp_tree.specs.declared.member.Member.{Member}
use Rattle.fp_tree.specs.declared.topology.TMember.{TMember}
use Rattle.fp_grammar.specs.Grammar.{Grammar}
use Rattle.fp_parse_components.specs.Parts as components
use Rattle.fp_parse_topologies.specs.Topologies as topologies
use Rattle.fp_parse_parts.specs.Members.{members}
use Rattle.fp_parse_parts.specs.Files.{Probe, SpellsFile, BreaksFile, StopsFile}
use Rattle.fp_parse_parts.specs.declared.parsing.Inside.{Inside}
use Rattle.fp_parse_parts.specs.declared.parsing.Inside.TheVariants as inside
use Rattle.fp_parse_parts.specs.declared.parsing.Members.{Members}
use Rattle.fp_parse_parts.specs.declared.parsing.Members.TheVariants as found

-- Unit = Member*; where modules nest at most so deep, and expressions too, each counted apart
abbrev pub unit : ℕ → Grammar Token (List Member)
unit depth = members depth depth

-- Part*; an import of an interface is one of them
abbrev pub component_parts : ℕ → Grammar Token (List Part)
component_parts depth = components.parts depth

-- TMember*; an import of a topology is one of them
abbrev pub topology_members : ℕ → Grammar Token (List TMember)
topology_members depth = topologies.members depth

-- a port of a topology
abbrev pub is_port : Word → Bool
is_port (word.Reserved r) = r == reserved "port"
is_port _ = false

-- a `private` may stand wherever a member of a topology may begin, and nowhere else
abbrev pub topology_probe : Probe
topology_probe what = cond (is_port what) (Some (reserved "private")) None

-- no part of a component is left out
abbrev pub component_probe : Probe
component_probe what = None

-- all the tokens spell these members
abbrev pub SpellsUnit : List Token → List Member → Type 0
SpellsUnit tokens xs = SpellsFile unit tokens xs

-- this rule is broken at this place
abbrev pub BreaksUnit : List Token → Rule → Place → Type 0
BreaksUnit tokens rule place = BreaksFile unit topology_probe tokens rule place

-- why a parse of all the tokens stops
abbrev pub StopsUnit : List Token → Stop → Type 0
StopsUnit tokens stop = StopsFile unit topology_probe tokens stop

-- all the tokens spell these members of what they stand in
abbrev pub SpellsInside : List Token → Inside → Members → Type 0
SpellsInside tokens inside.Unit (found.Unit members) = SpellsUnit tokens members
SpellsInside tokens inside.Component (found.Component parts) = SpellsFile component_parts tokens parts
SpellsInside tokens inside.Topology (found.Topology members) = SpellsFile topology_members tokens members
SpellsInside tokens _ _ = ⊥

-- this rule is broken at this place
abbrev pub BreaksInside : List Token → Inside → Rule → Place → Type 0
BreaksInside tokens inside.Unit rule place = BreaksUnit tokens rule place
BreaksInside tokens inside.Component rule place = BreaksFile component_parts component_probe tokens rule place
BreaksInside tokens inside.Topology rule place = BreaksFile topology_members topology_probe tokens rule place

-- why a parse of all the tokens stops
abbrev pub StopsInside : List Token → Inside → Stop → Type 0
StopsInside tokens inside.Unit stop = StopsUnit tokens stop
StopsInside tokens inside.Component stop = StopsFile component_parts component_probe tokens stop
StopsInside tokens inside.Topology stop = StopsFile topology_members topology_probe tokens stop

-- what a parse of all the tokens answers: the members that they spell, or why it stops
abbrev pub AnswersInside : List Token → Inside → Result Members Stop → Type 0
AnswersInside tokens i (Ok members) = SpellsInside tokens i members
AnswersInside tokens i (Err stop) = StopsInside tokens i stop
