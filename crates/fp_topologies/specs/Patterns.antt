-- Which ports patterns join, and the connections that they stand for. FPP Language Specification, "Connection Graph Specifiers".
use Rattle.std.specs.Prelude.{ℕ, Bool, true, false, not, ◌&&◌, ◌==◌, cond, codes, List, [], ◌∷◌, map, flat_map, filter_map, filter, length, position, slice_get, Option, Some, None, option_map, option_and_then, is_some}
use Rattle.std.specs.List.{list_all}
use Rattle.std.specs.Str.{bytes_eq}
use Rattle.fp_base.specs.declared.place.Place.{Place}
use Rattle.fp_tree.specs.declared.topology.Pattern.{Pattern}
use Rattle.fp_tree.specs.declared.topology.Pattern.TheVariants as pattern
use Rattle.fp_tables.specs.Components.{definition_of}
use Rattle.fp_tables.specs.Lists.{some_and}
use Rattle.fp_tables.specs.Programs.{is_general_input, is_general_output}
use Rattle.fp_tables.specs.Specials.{is_special}
use Rattle.fp_tables.specs.declared.component.Component.{Component}
use Rattle.fp_tables.specs.declared.component.Port.{Port}
use Rattle.fp_tables.specs.declared.component.Special.TheVariants.{CmdRecv, CmdReg, CmdResp, Event as Log, TextEvent, Tlm, Time, PrmGet, PrmSet}
use Rattle.fp_tables.specs.declared.kind.PortDef.{PortDef}
use Rattle.fp_tables.specs.declared.topology.Instance.{Instance}
use Rattle.fp_tables.specs.declared.topology.Link.{Link}
use Rattle.fp_written_parts.specs.declared.topology.UsedInstance.{UsedInstance}
use Rattle.fp_written_parts.specs.declared.topology.WrittenPattern.{WrittenPattern}
use Rattle.fp_topologies.specs.Ports.{ports_at}
use Rattle.fp_topologies.specs.declared.sorts.Definition.{Definition}
use Rattle.fp_topologies.specs.declared.sorts.Definition.TheVariants.{Of, Ping}
use Rattle.fp_topologies.specs.declared.sorts.Join.{Join}
use Rattle.fp_topologies.specs.declared.sorts.Join.TheVariants.{BackFrom, OutTo, PingOut, PingBack}
use Rattle.fp_topologies.specs.declared.sorts.JoinAt.{JoinAt}
use Rattle.fp_topologies.specs.declared.sorts.Sort.{Sort}
use Rattle.fp_topologies.specs.declared.sorts.Sort.TheVariants as sort

-- ---- what a pattern joins

-- in the order in which the connections to an instance are made
abbrev pub joins_of : Pattern → List Join
joins_of pattern.Command = BackFrom CmdReg ∷ OutTo CmdRecv ∷ BackFrom CmdResp ∷ []
joins_of pattern.Event = BackFrom Log ∷ []
joins_of pattern.TextEvent = BackFrom TextEvent ∷ []
joins_of pattern.Telemetry = BackFrom Tlm ∷ []
joins_of pattern.Time = BackFrom Time ∷ []
joins_of pattern.Param = BackFrom PrmGet ∷ BackFrom PrmSet ∷ []
joins_of pattern.Health = PingOut ∷ PingBack ∷ []

-- the port of the one instance
abbrev pub one : Join → Sort
one (BackFrom s) = sort.Receives (Of s)
one (OutTo s) = sort.Sends (Of s)
one PingOut = sort.Sends Ping
one PingBack = sort.Receives Ping

-- the port of another
abbrev pub other : Join → Sort
other (BackFrom s) = sort.Special s
other (OutTo s) = sort.Special s
other PingOut = sort.Receives Ping
other PingBack = sort.Sends Ping

-- the connection goes from the one to the other, or back
abbrev pub leaves : Join → Bool
leaves (BackFrom s) = false
leaves (OutTo s) = true
leaves PingOut = true
leaves PingBack = false

abbrev pub is_health : Pattern → Bool
is_health pattern.Health = true
is_health _ = false

-- ---- sorts of ports

abbrev pub definition_name : Definition → List ℕ
definition_name (Of s) = definition_of s
definition_name Ping = codes "Svc.Ping"

-- the place of the item that passes the test, where there is just one
abbrev pub only_position : {A : Type 0} → (A → Bool) → List A → Option ℕ
only_position test xs = cond (length (filter test xs) == 1) (position test xs) None

-- a connection between the ports of two instances, from the one to the other, or back
abbrev pub joined : Place → Bool → ℕ → ℕ → ℕ → ℕ → Link
joined at true i port j other_port =
    record { from = i; from_port = port; from_number = None; to = j; to_port = other_port; to_number = None; unmatched = false; at = at }
joined at false i port j other_port =
    record { from = j; from_port = other_port; from_number = None; to = i; to_port = port; to_number = None; unmatched = false; at = at }

module _ (ds : List PortDef) where
  abbrev pub is_of : Definition → Port → Bool
  is_of definition p = some_and (λ (d : PortDef). bytes_eq (definition_name definition) d.name) (option_and_then (slice_get ds) p.of)

  abbrev pub is_sort : Sort → Port → Bool
  is_sort (sort.Special s) p = is_special s p.role
  is_sort (sort.Sends definition) p = is_general_output p.role && is_of definition p
  is_sort (sort.Receives definition) p = is_general_input p.role && is_of definition p

  module _ (cs : List Component) (is : List Instance) where
    -- the one port of this sort that an instance has
    abbrev pub only_port : Sort → ℕ → Option ℕ
    only_port s i = only_position (is_sort s) (ports_at cs is i)

    -- it has just one port of each sort that a pattern joins, as the one instance, and as another
    abbrev pub serves : Pattern → ℕ → Bool
    serves kind i = list_all (λ (j : Join). is_some (only_port (one j) i)) (joins_of kind)

    abbrev pub suits : Pattern → ℕ → Bool
    suits kind i = list_all (λ (j : Join). is_some (only_port (other j) i)) (joins_of kind)

    -- ---- the connections

    -- without a list all of these instances that suit; the one instance of a health pattern isn't among its own
    abbrev pub is_target : WrittenPattern → ℕ → Bool
    is_target p i = suits p.kind i && not (is_health p.kind && i == p.of.instance)

    abbrev pub targets_of : List ℕ → WrittenPattern → Option (List UsedInstance) → List ℕ
    targets_of held p (Some us) = map (λ (u : UsedInstance). u.instance) us
    targets_of held p None = filter (is_target p) held

    -- what is joined at the one instance, with its port there
    abbrev pub join_at : ℕ → Join → Option JoinAt
    join_at i j = option_map (λ (a : ℕ). record { join = j; port = a }) (only_port (one j) i)

    abbrev pub joins_at : Pattern → ℕ → List JoinAt
    joins_at kind i = filter_map (join_at i) (joins_of kind)

    abbrev pub joined_by : WrittenPattern → ℕ → JoinAt → Option Link
    joined_by p target b = option_map (joined p.at (leaves b.join) p.of.instance b.port target) (only_port (other b.join) target)

    abbrev pub links_by : WrittenPattern → List JoinAt → ℕ → List Link
    links_by p joins target = filter_map (joined_by p target) joins

    -- target by target, in the order of what it joins
    abbrev pub pattern_links : List ℕ → WrittenPattern → List Link
    pattern_links held p = flat_map (links_by p (joins_at p.kind p.of.instance)) (targets_of held p p.targets)
