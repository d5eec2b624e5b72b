-- What the tests and the tables of the code come to.
use Rattle.std.specs.Prelude.{ℕ, ℤ, Bool, false, not, cond, ◌&&◌, ◌||◌, List, [], ◌∷◌, Option, None, Some}
use Rattle.std.specs.List.{list_any}
use Rattle.std.specs.Ordering.{int_eq, nat_cmp}
use Rattle.std.specs.Cmp.Lexicographic.{slice_cmp}
use Rattle.std.specs.Str.{bytes_eq}
use Rattle.std.specs.BTreeMap.{BTreeMap, get_by}
use denote.Ref.{Bor}
use Rattle.fp_base.specs.declared.place.Place.{Place}
use Rattle.fp_base.specs.declared.refusal.Refusal.{Refusal}
use Rattle.fp_base.specs.declared.rule.Rule.{Rule}
use Rattle.fp_base.specs.declared.rule.Rule.TheVariants.{PortNameRepeated, SpecialPort, BadMatch}
use Rattle.fp_base.specs.Least.{broken_at, lesser_of}
use Rattle.fp_tables.specs.declared.component.Special.{Special}
use Rattle.fp_tables.specs.declared.component.Special.TheVariants.{CmdRecv, CmdReg, CmdResp, Event, TextEvent, Tlm, Time, PrmGet, PrmSet}
use Rattle.fp_written_parts.specs.declared.port.WrittenPort.{WrittenPort}
use Rattle.fp_written_parts.specs.declared.member.WrittenMember.{WrittenMember}
use Rattle.fp_written_parts.specs.declared.member.WrittenMember.TheVariants.{Match}
use Rattle.fp_component_rules.specs.Firsts.{has_kind, has_port}
use Rattle.fp_component_rules.specs.declared.gift.Gift.{Gift}
use Rattle.fp_component_rules.specs.declared.interface_kinds.SpecialKinds.{SpecialKinds}
use Rattle.fp_component_rules.specs.declared.matching.End.{End}
use Rattle.fp_component_rules.specs.Broken.{giver_at, is_general, size_of}

-- the rule, where it is broken and there is a place
abbrev pub fault_at : Bool → Rule → Option Place → Option Refusal
fault_at broken rule None = None
fault_at broken rule (Some place) = cond broken (Some (broken_at rule place)) None

-- ---- kinds

abbrev pub every_kind : List Special
every_kind = CmdRecv ∷ CmdReg ∷ CmdResp ∷ Event ∷ TextEvent ∷ Tlm ∷ Time ∷ PrmGet ∷ PrmSet ∷ []

-- some kind is flagged in both
abbrev pub have_common : SpecialKinds → SpecialKinds → Bool
have_common a b = list_any (λ (kind : Special). has_kind a kind && has_kind b kind) every_kind

-- ---- what was seen, and a member more

abbrev pub any_seen : List WrittenPort → List WrittenPort → Bool
any_seen seen own = list_any (λ (p : WrittenPort). has_port p.name seen) own

abbrev pub clash_fault : List WrittenPort → SpecialKinds → Gift → WrittenMember → Option Refusal
clash_fault seen kinds gift m =
    lesser_of (fault_at (any_seen seen gift.firsts) PortNameRepeated (giver_at m)) (fault_at (have_common kinds gift.kinds) SpecialPort (giver_at m))

-- ---- matches

abbrev pub end_of : WrittenPort → End
end_of p = record { is_general = is_general p.role; size = size_of p.size }

-- what stands in the map under a name
abbrev pub find_end : BTreeMap (Bor (List ℕ)) End → List ℕ → Option End
find_end ends name = get_by (λ (k : Bor (List ℕ)). slice_cmp nat_cmp name k.now) ends

abbrev pub sizes_differ : Option ℤ → Option ℤ → Bool
sizes_differ None t = false
sizes_differ (Some m) None = false
sizes_differ (Some m) (Some n) = not (int_eq m n)

abbrev pub fails : Option End → Option End → Bool → Bool → Bool
fails None b same leads = not leads
fails (Some a) None same leads = not leads
fails (Some a) (Some b) same leads = ((same || not a.is_general) || not b.is_general) || sizes_differ a.size b.size

abbrev pub match_fault : (List ℕ → Option End) → Bool → WrittenMember → Option Refusal
match_fault found leads (Match d) = cond (fails (found d.first) (found d.second) (bytes_eq d.first d.second) leads) (Some (broken_at BadMatch d.at)) None
match_fault found leads _ = None
