-- The laws from what the grammars of files yield: such a place is one where one of the file's tokens begins.
use Rattle.std.proofs.Common.{List, flat_map, refl}
use Rattle.std.specs.List.{AllByRecursion as Each}
use Rattle.fp_base.proofs.Lists.{each_contained, each_flat, each_weaker, of_contained}
use Rattle.fp_lexer.specs.declared.token.Token.{Token}
use Rattle.fp_tree.specs.declared.component.Part.{Part}
use Rattle.fp_tree.specs.declared.member.Member.{Member}
use Rattle.fp_tree.specs.declared.member.Include.{Include}
use Rattle.fp_tree.specs.declared.topology.TMember.{TMember}
use Rattle.fp_meaning.specs.declared.item.Item.{Item}
use Rattle.fp_meaning.specs.declared.names.Definition.{Definition}
use Rattle.fp_meaning.specs.declared.names.Mention.{Mention}
use Rattle.fp_parse_defs.specs.Reading.{limit}
use Rattle.fp_meaning.specs.Names.{definitions_of, uses_of}
use Rattle.fp_meaning.specs.Sites.{Path}
use Rattle.fp_parse_parts.specs.Files.{SpellsFile}
use Rattle.fp_parse_parts.specs.Units.{SpellsUnit, component_parts, topology_members}
use Rattle.fp_places.specs.Sites.{BeginsToken, GivenStandsAtTokens, PartsStandAtTokens, StandAtTokens, TopologyStandsAtTokens, in_parts, in_topology}
use Rattle.fp_places.proofs.SiteComponents.{parts_given}
use Rattle.fp_places.proofs.SiteTopologies.{members_given}
use Rattle.fp_places.proofs.SiteDefinitions.{SitedItem}
use Rattle.fp_places.proofs.Telling.{told}
use Rattle.fp_places.proofs.Words.{IsTold}
use Rattle.fp_places.proofs.SiteMembers.{definitions_of_all, uses_of_all, includes_of_all, all_yield}
use Rattle.fp_places.proofs.Anything.{AnyName}

-- each token begins where it does
all_begin : (tokens : List Token) → Each (IsTold (BeginsToken tokens) AnyName) tokens
all_begin tokens = each_contained (IsTold (BeginsToken tokens) AnyName) tokens (λ t there. record { begins = (t, there, refl); named = λ text e. tt })

pub standing : (tokens : List Token) (ms : List Member) → SpellsUnit tokens ms → StandAtTokens tokens ms
standing tokens ms spelled =
    let all = (all_yield (BeginsToken tokens) AnyName limit limit).given tokens ms spelled (all_begin tokens) in
    record {
      definitions = λ scope d there. of_contained (λ (x : Definition). BeginsToken tokens x.place) _ d (definitions_of_all (BeginsToken tokens) AnyName limit limit ms all scope) there;
      mentions = λ scope m there. of_contained (λ (x : Mention). BeginsToken tokens x.place) _ m (uses_of_all (BeginsToken tokens) AnyName limit limit ms all scope) there;
      includes = λ i there. of_contained (λ (x : Include). BeginsToken tokens x.at.first) _ i (includes_of_all (BeginsToken tokens) AnyName limit limit ms all) there;
    }

-- where it is told of all items of what is given
given_standing : (tokens : List Token) (given : Path → List Item) → ((scope : Path) → Each (SitedItem (BeginsToken tokens) AnyName limit) (given scope)) → GivenStandsAtTokens tokens given
given_standing tokens given all = record {
  definitions = λ scope d there. of_contained (λ (x : Definition). BeginsToken tokens x.place) (flat_map definitions_of (given scope)) d
      (each_flat (λ (x : Definition). BeginsToken tokens x.place) definitions_of (given scope)
      (each_weaker (SitedItem (BeginsToken tokens) AnyName limit) (λ i. Each (λ (x : Definition). BeginsToken tokens x.place) (definitions_of i)) (λ i h. h.defines) (given scope) (all scope))) there;
  mentions = λ scope m there. of_contained (λ (x : Mention). BeginsToken tokens x.place) (flat_map uses_of (given scope)) m
      (each_flat (λ (x : Mention). BeginsToken tokens x.place) uses_of (given scope)
      (each_weaker (SitedItem (BeginsToken tokens) AnyName limit) (λ i. Each (λ (x : Mention). BeginsToken tokens x.place) (uses_of i)) (λ i h. h.uses) (given scope) (all scope))) there;
}

pub parts_standing : (tokens : List Token) (ps : List Part) → SpellsFile component_parts tokens ps → PartsStandAtTokens tokens ps
unfolding told
parts_standing tokens ps spelled =
    given_standing tokens (λ scope. in_parts scope ps) ((parts_given (told (BeginsToken tokens) AnyName limit)).given tokens ps spelled (all_begin tokens)).items

pub topology_standing : (tokens : List Token) (ts : List TMember) → SpellsFile topology_members tokens ts → TopologyStandsAtTokens tokens ts
unfolding told
topology_standing tokens ts spelled =
    given_standing tokens (λ scope. in_topology scope ts) ((members_given (told (BeginsToken tokens) AnyName limit)).given tokens ts spelled (all_begin tokens)).items
