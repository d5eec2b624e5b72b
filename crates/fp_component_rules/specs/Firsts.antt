-- Lists of ports by their names, special kinds and whether they are asynchronous.
use Rattle.std.specs.Prelude.{ℕ, Bool, true, false, not, cond, List, [], ◌∷◌, ◌++◌, ◌≡◌, slice_get, Some}
use Rattle.std.specs.List.{filter, list_any}
use Rattle.std.specs.Str.{bytes_eq}
use Rattle.fp_tables.specs.Components.{same_special}
use Rattle.fp_tables.specs.declared.component.Special.{Special}
use Rattle.fp_tables.specs.declared.component.Special.TheVariants.{CmdRecv, CmdReg, CmdResp, Event as Log, TextEvent, Tlm, Time, PrmGet, PrmSet}
use Rattle.fp_written_parts.specs.declared.port.WrittenPort.{WrittenPort}
use Rattle.fp_written_parts.specs.declared.port.WrittenRole.{WrittenRole}
use Rattle.fp_written_parts.specs.declared.port.WrittenRole.TheVariants as role
use Rattle.fp_component_rules.specs.declared.interface_kinds.SpecialKinds.{SpecialKinds}

-- ---- names

abbrev pub is_named : List ℕ → WrittenPort → Bool
is_named name p = bytes_eq name p.name

-- some port has the name
abbrev pub has_port : List ℕ → List WrittenPort → Bool
has_port name ps = list_any (is_named name) ps

-- of each name the first
abbrev pub of_each_name : List WrittenPort → List WrittenPort
of_each_name [] = []
of_each_name (p ∷ ps) = p ∷ filter (λ (q : WrittenPort). not (is_named p.name q)) (of_each_name ps)

-- with a port whose name isn't there yet
abbrev pub with_port : WrittenPort → List WrittenPort → List WrittenPort
with_port p ps = cond (has_port p.name ps) ps (ps ++ p ∷ [])

-- no two have one name
abbrev pub AreApart : List WrittenPort → Type 0
AreApart ps = (j k : ℕ) (p q : WrittenPort) → slice_get ps j ≡ Some p → slice_get ps k ≡ Some q → p.name ≡ q.name → j ≡ k

-- ---- kinds

-- a kind is flagged
abbrev pub has_kind : SpecialKinds → Special → Bool
has_kind kinds CmdRecv = kinds.cmd_recv
has_kind kinds CmdReg = kinds.cmd_reg
has_kind kinds CmdResp = kinds.cmd_resp
has_kind kinds Log = kinds.event
has_kind kinds TextEvent = kinds.text_event
has_kind kinds Tlm = kinds.tlm
has_kind kinds Time = kinds.time
has_kind kinds PrmGet = kinds.prm_get
has_kind kinds PrmSet = kinds.prm_set

abbrev pub is_of_kind : Special → WrittenRole → Bool
is_of_kind special (role.Special other) = same_special special other
is_of_kind special _ = false

abbrev pub is_asynchronous : WrittenRole → Bool
is_asynchronous role.AsyncInput = true
is_asynchronous role.Internal = true
is_asynchronous _ = false
