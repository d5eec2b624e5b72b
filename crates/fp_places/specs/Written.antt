-- Names as a text has them. FPP Language Specification, "Lexical Elements", identifiers and reserved words.
use Rattle.std.specs.Prelude.{◌≡◌, ℕ, List, ◌++◌, drop, flat_map, Some}
use Rattle.std.specs.List.{Contains}
use Rattle.fp_base.specs.Places.{place_at}
use Rattle.fp_lexer.specs.Tokens.{Spelled}
use Rattle.fp_lexer.specs.declared.token.Word.TheVariants as word
use Rattle.fp_tree.specs.declared.name.Name.{Name}
use Rattle.fp_tree.specs.declared.component.Part.{Part}
use Rattle.fp_tree.specs.declared.member.Member.{Member}
use Rattle.fp_tree.specs.declared.topology.TMember.{TMember}
use Rattle.fp_places.specs.Components.{names_in_part}
use Rattle.fp_places.specs.Names.{names_in}
use Rattle.fp_places.specs.Topologies.{names_in_topology_member}

-- the name stands in the text at its place: a name of the language that is no reserved word, or one behind a `$`
pub record IsWritten (file : ℕ) (text : List ℕ) (name : Name) : Type 0 where
  pub at : ℕ
  pub w : List ℕ
  pub more : List ℕ
  pub stands : drop at text ≡ w ++ more
  pub spelled : Spelled w (Some (word.Name name.text))
  pub place : name.at.first ≡ place_at file text at

-- each name in the members is written
abbrev pub NamesAreWritten : ℕ → List ℕ → List Member → Type 0
NamesAreWritten file text ms = (name : Name) → Contains (names_in ms) name → IsWritten file text name

-- each name in the parts of a component is written
abbrev pub PartNamesAreWritten : ℕ → List ℕ → List Part → Type 0
PartNamesAreWritten file text ps = (name : Name) → Contains (flat_map names_in_part ps) name → IsWritten file text name

-- each name in the members of a topology is written
abbrev pub TopologyNamesAreWritten : ℕ → List ℕ → List TMember → Type 0
TopologyNamesAreWritten file text ts = (name : Name) → Contains (flat_map names_in_topology_member ts) name → IsWritten file text name
