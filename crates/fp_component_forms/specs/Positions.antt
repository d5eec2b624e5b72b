-- What is looked up of a source beside its nodes: the positions of its definitions, and the port definitions of the kinds of special ports.
use Rattle.std.specs.Prelude.{◌≡◌, ℕ, ◌+◌, cond, List, [], ◌∷◌, ◌++◌, map, slice_get, Option, Some}
use Rattle.fp_tree.specs.declared.source.Source.{Source}
use Rattle.fp_tables.specs.declared.component.Special.{Special}
use Rattle.fp_tables.specs.declared.component.Special.TheVariants as kind
use Rattle.fp_meaning.specs.declared.group.Group.{Group}
use Rattle.fp_meaning.specs.declared.group.Group.TheVariants as group
use Rattle.fp_meaning.specs.declared.item.Item.{Item}
use Rattle.fp_meaning.specs.declared.names.Definition.{Definition}
use Rattle.fp_meaning.specs.Names.{definitions, definitions_of}
use Rattle.fp_written_parts.specs.declared.port.WrittenPortDef.{WrittenPortDef}
use Rattle.fp_component_forms.specs.declared.positions.Positions.{Positions}
use Rattle.fp_component_forms.specs.declared.ranking.Ranking.{Ranking}
use Rattle.fp_component_forms.specs.declared.specials.SpecialTypes.{SpecialTypes}
use Rattle.fp_component_forms.specs.Written.{SpecialTypeIs, among, before, port_names, same_group}

-- ---- how many definitions of a group stand before each definition

abbrev pub count_in : Group → Definition → ℕ
count_in g d = cond (same_group g d.group) 1 0

abbrev pub ranks_from : Group → ℕ → List Definition → List ℕ
ranks_from g n [] = []
ranks_from g n (d ∷ ds) = n ∷ ranks_from g (n + count_in g d) ds

-- with an item more
pub record IsRankedWith (g : Group) (i : Item) (old new : Ranking) : Type 0 where
  pub ranks : new.ranks ≡ old.ranks ++ ranks_from g old.next (definitions_of i)
  pub next : new.next ≡ old.next + among g (definitions_of i)

-- at the number of each definition
abbrev pub RanksAre : Group → List Definition → List ℕ → Type 0
RanksAre g ds ranks = (number : ℕ) (d : Definition) → slice_get ds number ≡ Some d → slice_get ranks number ≡ Some (before g ds number)

-- ---- special ports

abbrev pub names_in : List WrittenPortDef → List (List ℕ)
names_in ds = map (λ (d : WrittenPortDef). d.name) ds

-- the one of a kind
abbrev pub type_in : SpecialTypes → Special → Option ℕ
type_in t kind.CmdRecv = t.cmd_recv
type_in t kind.CmdReg = t.cmd_reg
type_in t kind.CmdResp = t.cmd_resp
type_in t kind.Event = t.event
type_in t kind.TextEvent = t.text_event
type_in t kind.Tlm = t.tlm
type_in t kind.Time = t.time
type_in t kind.PrmGet = t.prm_get
type_in t kind.PrmSet = t.prm_set

abbrev pub SpecialTypesAre : List (List ℕ) → SpecialTypes → Type 0
SpecialTypesAre names t = (special : Special) → SpecialTypeIs names special (type_in t special)

-- ---- all that is looked up

pub record ArePositions (source : Source) (p : Positions) : Type 0 where
  pub ports : RanksAre group.Port (definitions source) p.ports
  pub interfaces : RanksAre group.Interface (definitions source) p.interfaces
  pub machines : RanksAre group.Machine (definitions source) p.machines
  pub specials : SpecialTypesAre (port_names source) p.specials
