-- What tokens spell, or break, in a file, in a component or in a topology is one list of members, or one rule at one place.
use Rattle.std.proofs.Common.{◌≡◌, List, ap}
use Rattle.fp_base.specs.declared.place.Place.{Place}
use Rattle.fp_base.specs.declared.rule.Rule.{Rule}
use Rattle.fp_lexer.specs.declared.token.Token.{Token}
use Rattle.fp_grammar.specs.Grammar.{Grammar, Spells}
use Rattle.fp_grammar.specs.Promises.{Fits}
use Rattle.fp_grammar.proofs.Fits.{good_of}
use Rattle.fp_parse_pieces.specs.Kinds.{kind}
use Rattle.fp_parse_defs.specs.Reading.{limit}
use Rattle.fp_parse_parts.specs.Units.{unit, component_parts, component_probe, topology_members, topology_probe, SpellsInside, BreaksInside}
use Rattle.fp_parse_parts.specs.declared.parsing.Inside.{Inside}
use Rattle.fp_parse_parts.specs.declared.parsing.Inside.TheVariants as inside
use Rattle.fp_parse_parts.specs.declared.parsing.Members.{Members}
use Rattle.fp_parse_parts.specs.declared.parsing.Members.TheVariants as found
use Rattle.fp_parse_parts.proofs.Breaking as breaking
use Rattle.fp_parse_parts.proofs.MembersFit.{unit_fits, component_parts_fit, topology_members_fit}

one_node : {X : Type 0} (g : Grammar Token X) → Fits kind g → (tokens : List Token) (x y : X) → Spells kind g tokens x → Spells kind g tokens y → x ≡ y
one_node g fits = (good_of g fits.predictive fits.refs).unique

pub one_list : (tokens : List Token) (i : Inside) (xs ys : Members) → SpellsInside tokens i xs → SpellsInside tokens i ys → xs ≡ ys
one_list tokens inside.Unit (found.Unit xs) (found.Unit ys) s t = ap found.Unit (one_node (unit limit) (unit_fits limit) tokens xs ys s t)
one_list tokens inside.Unit (found.Unit xs) (found.Component ys) s t = absurd t
one_list tokens inside.Unit (found.Unit xs) (found.Topology ys) s t = absurd t
one_list tokens inside.Unit (found.Component xs) ys s t = absurd s
one_list tokens inside.Unit (found.Topology xs) ys s t = absurd s
one_list tokens inside.Component (found.Component xs) (found.Component ys) s t = ap found.Component (one_node (component_parts limit) (component_parts_fit limit) tokens xs ys s t)
one_list tokens inside.Component (found.Component xs) (found.Unit ys) s t = absurd t
one_list tokens inside.Component (found.Component xs) (found.Topology ys) s t = absurd t
one_list tokens inside.Component (found.Unit xs) ys s t = absurd s
one_list tokens inside.Component (found.Topology xs) ys s t = absurd s
one_list tokens inside.Topology (found.Topology xs) (found.Topology ys) s t = ap found.Topology (one_node (topology_members limit) (topology_members_fit limit) tokens xs ys s t)
one_list tokens inside.Topology (found.Topology xs) (found.Unit ys) s t = absurd t
one_list tokens inside.Topology (found.Topology xs) (found.Component ys) s t = absurd t
one_list tokens inside.Topology (found.Unit xs) ys s t = absurd s
one_list tokens inside.Topology (found.Component xs) ys s t = absurd s

pub one_break : (tokens : List Token) (i : Inside) (rule other : Rule) (place elsewhere : Place) → BreaksInside tokens i rule place → BreaksInside tokens i other elsewhere → (rule ≡ other) × (place ≡ elsewhere)
one_break tokens inside.Unit = breaking.one_break unit topology_probe tokens
one_break tokens inside.Component = breaking.one_break component_parts component_probe tokens
one_break tokens inside.Topology = breaking.one_break topology_members topology_probe tokens

pub broken_no_list : (tokens : List Token) (i : Inside) (rule : Rule) (place : Place) (xs : Members) → BreaksInside tokens i rule place → SpellsInside tokens i xs → ⊥
broken_no_list tokens inside.Unit rule place (found.Unit xs) b s = breaking.broken_no_file unit topology_probe tokens rule place xs b s
broken_no_list tokens inside.Unit rule place (found.Component xs) b s = s
broken_no_list tokens inside.Unit rule place (found.Topology xs) b s = s
broken_no_list tokens inside.Component rule place (found.Component xs) b s = breaking.broken_no_file component_parts component_probe tokens rule place xs b s
broken_no_list tokens inside.Component rule place (found.Unit xs) b s = s
broken_no_list tokens inside.Component rule place (found.Topology xs) b s = s
broken_no_list tokens inside.Topology rule place (found.Topology xs) b s = breaking.broken_no_file topology_members topology_probe tokens rule place xs b s
broken_no_list tokens inside.Topology rule place (found.Unit xs) b s = s
broken_no_list tokens inside.Topology rule place (found.Component xs) b s = s
