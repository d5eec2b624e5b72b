-- Lists that 32 bits number.
use Rattle.std.proofs.Common.{◌≡◌, ℕ, ◌<◌, ◌^◌, true, ◌&&◌, List, length, Option, Some, None, arith}
use Rattle.std.specs.Prelude.{IfSome}
use Rattle.fp_base.proofs.Bools.{both}
use Rattle.fp_tables.specs.Positions.{is_short, component_is_short}
use Rattle.fp_tables.specs.declared.component.Component.{Component}
use Rattle.fp_tables.proofs.Short.{short_length}

pub narrow : {A : Type 0} (xs : List A) (o : Option ℕ) → is_short xs ≡ true → IfSome o (λ at. at < length xs) → IfSome o (λ n. n < 2 ^ 32)
narrow xs (Some n) short h = let few = short_length xs short in omega (arith, few, h)
narrow xs None short h = tt

pub record AreShort (c : Component) : Type 0 where
  pub ports : is_short c.ports ≡ true
  pub commands : is_short c.commands ≡ true
  pub events : is_short c.events ≡ true
  pub channels : is_short c.channels ≡ true
  pub params : is_short c.params ≡ true
  pub machines : is_short c.machines ≡ true

pub are_short : (c : Component) → component_is_short c ≡ true → AreShort c
are_short c h =
    let a = both (is_short c.ports && is_short c.commands && is_short c.events && is_short c.channels && is_short c.params) (is_short c.machines) h in
    let b = both (is_short c.ports && is_short c.commands && is_short c.events && is_short c.channels) (is_short c.params) a.0 in
    let d = both (is_short c.ports && is_short c.commands && is_short c.events) (is_short c.channels) b.0 in
    let e = both (is_short c.ports && is_short c.commands) (is_short c.events) d.0 in
    let f = both (is_short c.ports) (is_short c.commands) e.0 in
    record { ports = f.0; commands = f.1; events = e.1; channels = d.1; params = b.1; machines = a.1 }
