-- The kinds of special ports, compared.
use Rattle.std.proofs.Common.{◌≡◌, Bool, List, [], ◌∷◌, refl, ap₂, ◌&&◌, not}
use Rattle.std.specs.Ordering.{eq_by_cmp}
use Rattle.fp_tables.specs.Lists.{apart}
use Rattle.fp_tables.specs.Components.{same_special}
use Rattle.fp_tables.specs.contracts.component.SpecialOrd.TheImpl as compared
use Rattle.fp_tables.specs.declared.component.Special.{Special}
use Rattle.fp_tables.specs.declared.component.Special.TheVariants.{CmdRecv, CmdReg, CmdResp, Event, TextEvent, Tlm, Time, PrmGet, PrmSet}
use Rattle.fp_base.proofs.Lists.{any_same}

pub apart_same : {X : Type 0} (e f : X → X → Bool) → ((x y : X) → e x y ≡ f x y) → (xs : List X) → apart e xs ≡ apart f xs
apart_same e f same [] = refl
apart_same e f same (x ∷ xs) = ap₂ (λ (a b : Bool). not a && b) (any_same (e x) (f x) (same x) xs) (apart_same e f same xs)

pub same_kinds : (x y : Special) → eq_by_cmp (compared.ghosts).cmp x y ≡ same_special x y
same_kinds CmdRecv CmdRecv = refl
same_kinds CmdReg CmdReg = refl
same_kinds CmdResp CmdResp = refl
same_kinds Event Event = refl
same_kinds TextEvent TextEvent = refl
same_kinds Tlm Tlm = refl
same_kinds Time Time = refl
same_kinds PrmGet PrmGet = refl
same_kinds PrmSet PrmSet = refl
same_kinds _ _ = refl
