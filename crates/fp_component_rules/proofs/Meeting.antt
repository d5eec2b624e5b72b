-- Kinds that are flagged in two.
use Rattle.std.proofs.Common.{◌≡◌, ◌↔◌, ◌∙◌, ℕ, Bool, true, false, ◌&&◌, ◌||◌, slice_get, Some, refl}
use Rattle.fp_base.proofs.Bools.{both, join}
use Rattle.fp_base.proofs.Passing.{any_at, any_found}
use Rattle.fp_tables.specs.declared.component.Special.{Special}
use Rattle.fp_tables.specs.declared.component.Special.TheVariants.{CmdRecv, CmdReg, CmdResp, Event, TextEvent, Tlm, Time, PrmGet, PrmSet}
use Rattle.fp_component_rules.specs.Firsts.{has_kind}
use Rattle.fp_component_rules.specs.declared.interface_kinds.SpecialKinds.{SpecialKinds}
use Rattle.fp_component_rules.specs.Tested.{every_kind, have_common}

-- ---- nine tests, joined from the left and from the right

turned1 : (a : Bool) → a ≡ (a || false)
turned1 true = refl
turned1 false = refl

turned2 : (a b : Bool) → (a || b) ≡ (a || (b || false))
turned2 true b = refl
turned2 false b = turned1 b

turned3 : (a b c : Bool) → ((a || b) || c) ≡ (a || (b || (c || false)))
turned3 true b c = refl
turned3 false b c = turned2 b c

turned4 : (a b c d : Bool) → (((a || b) || c) || d) ≡ (a || (b || (c || (d || false))))
turned4 true b c d = refl
turned4 false b c d = turned3 b c d

turned5 : (a b c d e : Bool) → ((((a || b) || c) || d) || e) ≡ (a || (b || (c || (d || (e || false)))))
turned5 true b c d e = refl
turned5 false b c d e = turned4 b c d e

turned6 : (a b c d e f : Bool) → (((((a || b) || c) || d) || e) || f) ≡ (a || (b || (c || (d || (e || (f || false))))))
turned6 true b c d e f = refl
turned6 false b c d e f = turned5 b c d e f

turned7 : (a b c d e f g : Bool) → ((((((a || b) || c) || d) || e) || f) || g) ≡ (a || (b || (c || (d || (e || (f || (g || false)))))))
turned7 true b c d e f g = refl
turned7 false b c d e f g = turned6 b c d e f g

turned8 : (a b c d e f g h : Bool) → (((((((a || b) || c) || d) || e) || f) || g) || h) ≡ (a || (b || (c || (d || (e || (f || (g || (h || false))))))))
turned8 true b c d e f g h = refl
turned8 false b c d e f g h = turned7 b c d e f g h

turned9 : (a b c d e f g h i : Bool)
    → ((((((((a || b) || c) || d) || e) || f) || g) || h) || i) ≡ (a || (b || (c || (d || (e || (f || (g || (h || (i || false)))))))))
turned9 true b c d e f g h i = refl
turned9 false b c d e f g h i = turned8 b c d e f g h i

-- as the code has it
pub common_turned : (x y : SpecialKinds)
    → (((((((((x.cmd_recv && y.cmd_recv) || (x.cmd_reg && y.cmd_reg)) || (x.cmd_resp && y.cmd_resp)) || (x.event && y.event)) || (x.text_event && y.text_event)) || (x.tlm && y.tlm))
    || (x.time && y.time)) || (x.prm_get && y.prm_get)) || (x.prm_set && y.prm_set)) ≡ have_common x y
common_turned x y =
    turned9 (x.cmd_recv && y.cmd_recv) (x.cmd_reg && y.cmd_reg) (x.cmd_resp && y.cmd_resp) (x.event && y.event) (x.text_event && y.text_event) (x.tlm && y.tlm) (x.time && y.time)
    (x.prm_get && y.prm_get) (x.prm_set && y.prm_set)

-- ---- some kind is flagged in both

kind_at : (s : Special) → (k : ℕ) × (slice_get every_kind k ≡ Some s)
kind_at CmdRecv = (0, refl)
kind_at CmdReg = (1, refl)
kind_at CmdResp = (2, refl)
kind_at Event = (3, refl)
kind_at TextEvent = (4, refl)
kind_at Tlm = (5, refl)
kind_at Time = (6, refl)
kind_at PrmGet = (7, refl)
kind_at PrmSet = (8, refl)

pub common_told : (x y : SpecialKinds) → (have_common x y ≡ true) ↔ ((s : Special) × (has_kind x s ≡ true) × (has_kind y s ≡ true))
common_told x y = (
  λ e.
      let t = any_found (λ (s : Special). has_kind x s && has_kind y s) every_kind e in
      let b = both (has_kind x t.1) (has_kind y t.1) t.3 in
      (t.1, b.0, b.1),
  λ t. let k = kind_at t.0 in any_at (λ (s : Special). has_kind x s && has_kind y s) every_kind k.0 t.0 k.1 (join (has_kind x t.0) (has_kind y t.0) t.1 t.2),
)

-- ---- kinds that are joined

pub joined_as : (a b x y : Bool) → a ≡ x → b ≡ y → (a || b) ≡ (x || y)
joined_as a b x y d e = rw (d, e) refl

pub two_joined : (a b x y : Bool) → a ≡ x → b ≡ y → (a || b) ≡ (x || (y || false))
two_joined a b x y d e = joined_as a b x y d e ∙ turned2 x y
