-- One special port, and one role.
use Rattle.std.proofs.Common.{◌≡◌, true, refl, sym, ap}
use Rattle.fp_tables.specs.Components.{same_special}
use Rattle.fp_tables.specs.Specials.{is_special}
use Rattle.fp_tables.specs.declared.component.Role.{Role}
use Rattle.fp_tables.specs.declared.component.Role.TheVariants as role
use Rattle.fp_tables.specs.declared.component.Special.{Special}
use Rattle.fp_tables.specs.declared.component.Special.TheVariants.{CmdRecv, CmdReg, CmdResp, Event, TextEvent, Tlm, Time, PrmGet, PrmSet}

pub one_special : (s t : Special) → same_special s t ≡ true → s ≡ t
one_special CmdRecv CmdRecv h = refl
one_special CmdReg CmdReg h = refl
one_special CmdResp CmdResp h = refl
one_special Event Event h = refl
one_special TextEvent TextEvent h = refl
one_special Tlm Tlm h = refl
one_special Time Time h = refl
one_special PrmGet PrmGet h = refl
one_special PrmSet PrmSet h = refl
one_special _ _ h = absurd (cc)

pub special_itself : (s : Special) → same_special s s ≡ true
special_itself CmdRecv = refl
special_itself CmdReg = refl
special_itself CmdResp = refl
special_itself Event = refl
special_itself TextEvent = refl
special_itself Tlm = refl
special_itself Time = refl
special_itself PrmGet = refl
special_itself PrmSet = refl

pub special_is : (s : Special) (r : Role) → is_special s r ≡ true → r ≡ role.Special s
special_is s (role.Special t) h = ap (λ (x : Special). role.Special x) (sym (one_special s t h))
special_is s role.Output h = absurd (cc)
special_is s (role.Input way) h = absurd (cc)
special_is s (role.Internal way) h = absurd (cc)
