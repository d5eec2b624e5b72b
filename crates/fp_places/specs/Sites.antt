-- Where definitions, uses and includes of a file stand.
use Rattle.std.specs.Prelude.{◌≡◌, List, ◌++◌, flat_map}
use Rattle.std.specs.List.{Contains}
use Rattle.fp_base.specs.declared.place.Place.{Place}
use Rattle.fp_lexer.specs.declared.token.Token.{Token}
use Rattle.fp_tree.specs.declared.component.Part.{Part}
use Rattle.fp_tree.specs.declared.member.Include.{Include}
use Rattle.fp_tree.specs.declared.member.Member.{Member}
use Rattle.fp_tree.specs.declared.topology.TMember.{TMember}
use Rattle.fp_meaning.specs.declared.names.Definition.{Definition}
use Rattle.fp_meaning.specs.declared.names.Mention.{Mention}
use Rattle.fp_meaning.specs.declared.item.Item.{Item}
use Rattle.fp_meaning.specs.Layout.{in_members, inner_items, own_items, topology_member_items}
use Rattle.fp_meaning.specs.Names.{Path, definitions_of, uses_of}
use Rattle.fp_places.specs.Includes.{includes_in}

-- a token begins there
abbrev pub BeginsToken : List Token → Place → Type 0
BeginsToken tokens place = (t : Token) × Contains tokens t × (place ≡ t.at.first)

-- each definition, each use, in any scope, and each include stands where a token begins
pub record StandAtTokens (tokens : List Token) (ms : List Member) : Type 0 where
  pub definitions : (scope : Path) (d : Definition) → Contains (flat_map definitions_of (in_members scope ms)) d → BeginsToken tokens d.place
  pub mentions : (scope : Path) (m : Mention) → Contains (flat_map uses_of (in_members scope ms)) m → BeginsToken tokens m.place
  pub includes : (i : Include) → Contains (includes_in ms) i → BeginsToken tokens i.at.first

-- what parts of a component give in its scope: the names and expressions that are their own, and the definitions among them
abbrev pub in_parts : Path → List Part → List Item
in_parts scope ps = flat_map (own_items scope) ps ++ flat_map (inner_items scope) ps

-- what members of a topology give in the scope in which it stands
abbrev pub in_topology : Path → List TMember → List Item
in_topology scope ts = flat_map (topology_member_items scope) ts

-- each definition and each use in what is given, in any scope, stands where a token begins
pub record GivenStandsAtTokens (tokens : List Token) (given : Path → List Item) : Type 0 where
  pub definitions : (scope : Path) (d : Definition) → Contains (flat_map definitions_of (given scope)) d → BeginsToken tokens d.place
  pub mentions : (scope : Path) (m : Mention) → Contains (flat_map uses_of (given scope)) m → BeginsToken tokens m.place

abbrev pub PartsStandAtTokens : List Token → List Part → Type 0
PartsStandAtTokens tokens ps = GivenStandsAtTokens tokens (λ scope. in_parts scope ps)

abbrev pub TopologyStandsAtTokens : List Token → List TMember → Type 0
TopologyStandsAtTokens tokens ts = GivenStandsAtTokens tokens (λ scope. in_topology scope ts)
