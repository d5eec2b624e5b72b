-- The law from what the grammar of files yields: what is left for nesting at the outset is the limit.
use Rattle.std.proofs.Common.{◌≤◌, List}
use Rattle.fp_base.proofs.Lists.{each_of_any, of_contained}
use Rattle.fp_base.specs.declared.place.Place.{Place}
use Rattle.fp_lexer.specs.declared.token.Token.{Token}
use Rattle.fp_tree.specs.declared.member.Member.{Member}
use Rattle.fp_meaning.specs.Origins.{Placed}
use Rattle.fp_parse_defs.specs.Reading.{limit}
use Rattle.fp_parse_parts.specs.Units.{SpellsUnit}
use Rattle.fp_places.specs.Depths.{depth_of}
use Rattle.fp_places.specs.Nesting.{KeepsLimit}
use Rattle.fp_places.proofs.Words.{IsTold}
use Rattle.fp_places.proofs.SiteMembers.{kept_of_all, modules_of_all, all_yield}
use Rattle.fp_places.proofs.Anything.{AnyName}

-- nothing is said of a place, nor of a name
abbrev AnyPlace : Place → Type 0
AnyPlace place = Unit {0}

pub keeping : (tokens : List Token) (ms : List Member) → SpellsUnit tokens ms → KeepsLimit ms
keeping tokens ms spelled =
    let told = each_of_any (IsTold AnyPlace AnyName) (λ t. record { begins = tt; named = λ text e. tt }) tokens in
    let all = (all_yield AnyPlace AnyName limit limit).given tokens ms spelled told in
    record {
      expressions = λ scope p there. of_contained (λ (x : Placed). depth_of x.expression ≤ limit) _ p (kept_of_all AnyPlace AnyName limit limit ms all scope) there;
      modules = modules_of_all AnyPlace AnyName limit limit ms all;
    }
