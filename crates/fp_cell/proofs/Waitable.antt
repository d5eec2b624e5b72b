-- The priorities of the places of a component whose calls wait.
use Rattle.std.proofs.Common.{◌≡◌, ℕ, zero, suc, ℤ, List, [], ◌∷◌, ◌++◌, Some, slice_get, refl, sym, subst, arith}
use Rattle.std.specs.List.{Contains, flat_map}
use Rattle.std.proofs.lemmas.List.Elements.{Contains-append_left, Contains-append_right}
use Rattle.fp_tables.specs.Lookup.{Described}
use Rattle.fp_tables.specs.SoundPrograms.{priority_of, port_priority, priorities}
use Rattle.fp_tables.specs.declared.component.Command.{Command}
use Rattle.fp_tables.specs.declared.component.Component.{Component}
use Rattle.fp_tables.specs.declared.component.Full.{Full}
use Rattle.fp_tables.specs.declared.component.CommandPart.{CommandPart}
use Rattle.fp_tables.specs.declared.component.CommandPart.TheVariants.{Plain, SetParam, SaveParam}
use Rattle.fp_tables.specs.declared.component.Port.{Port as PortOf}
use Rattle.fp_tables.specs.declared.component.Role.{Role}
use Rattle.fp_tables.specs.declared.component.Role.TheVariants as role
use Rattle.fp_tables.specs.declared.component.Running.{Running}
use Rattle.fp_tables.specs.declared.component.Way.{Way}
use Rattle.fp_tables.specs.declared.component.Way.TheVariants.{Later}
use Rattle.fp_base.proofs.Options.{mapped_some, then_some}
use Rattle.fp_tables.specs.Specials.{component}
use Rattle.fp_events.specs.Manners.{by, manner, input_manner, internal_manner, command_manner}
use Rattle.fp_events.specs.declared.event.Point.{Point}
use Rattle.fp_events.specs.declared.event.Point.TheVariants.{Port, Command as OfCommand, Post, Signal}

among : {X Y : Type 0} (f : X → List Y) (xs : List X) (k : ℕ) (x : X) (y : Y) → slice_get xs k ≡ Some x → Contains (f x) y → Contains (flat_map f xs) y
among f [] k x y h has = absurd (cc)
among {X} {Y} f (z ∷ xs) zero x y h has =
    let e : x ≡ z = cc in
    Contains-append_left (f z) (flat_map f xs) y (subst (λ (q : X). Contains (f q) y) e has)
among f (z ∷ xs) (suc k) x y h has = Contains-append_right (f z) (flat_map f xs) y (among f xs k x y h has)

alone : (p : ℤ) → Contains (p ∷ []) p
alone p = (0, omega arith, refl)

of_way : (w : Way) (p : ℤ) (policy : Full) → by w ≡ by (Later p policy) → Contains (priority_of w) p
of_way w p policy e =
    let same : w ≡ Later p policy = cc in
    subst (λ (x : Way). Contains (priority_of x) p) (sym same) (alone p)

of_input : (r : Role) (p : ℤ) (policy : Full) → input_manner r ≡ Some (by (Later p policy)) → Contains (port_priority r) p
of_input (role.Input way) p policy h = let e : by way ≡ by (Later p policy) = cc in of_way way p policy e
of_input _ p policy h = absurd (cc)

of_internal : (r : Role) (p : ℤ) (policy : Full) → internal_manner r ≡ Some (by (Later p policy)) → Contains (port_priority r) p
of_internal (role.Internal way) p policy h = let e : by way ≡ by (Later p policy) = cc in of_way way p policy e
of_internal _ p policy h = absurd (cc)

of_command : (w : Way) (x : CommandPart) (p : ℤ) (policy : Full) → command_manner w x ≡ by (Later p policy) → Contains (priority_of w) p
of_command w Plain p policy h = of_way w p policy h
of_command w (SetParam k) p policy h = absurd (cc)
of_command w (SaveParam k) p policy h = absurd (cc)

module _ (c : Component) (p : ℤ) where
  in_ports : Contains (flat_map (λ (x : PortOf). port_priority x.role) c.ports) p → Contains (priorities c) p
  in_ports h =
      Contains-append_left (flat_map (λ (x : PortOf). port_priority x.role) c.ports ++ flat_map (λ (x : Command). priority_of x.way) c.commands) (flat_map (λ (r : Running). priority_of r.way) c.machines) p
      (Contains-append_left (flat_map (λ (x : PortOf). port_priority x.role) c.ports) (flat_map (λ (x : Command). priority_of x.way) c.commands) p h)

  in_commands : Contains (flat_map (λ (x : Command). priority_of x.way) c.commands) p → Contains (priorities c) p
  in_commands h =
      Contains-append_left (flat_map (λ (x : PortOf). port_priority x.role) c.ports ++ flat_map (λ (x : Command). priority_of x.way) c.commands) (flat_map (λ (r : Running). priority_of r.way) c.machines) p
      (Contains-append_right (flat_map (λ (x : PortOf). port_priority x.role) c.ports) (flat_map (λ (x : Command). priority_of x.way) c.commands) p h)

  in_machines : Contains (flat_map (λ (r : Running). priority_of r.way) c.machines) p → Contains (priorities c) p
  in_machines h =
      Contains-append_right (flat_map (λ (x : PortOf). port_priority x.role) c.ports ++ flat_map (λ (x : Command). priority_of x.way) c.commands) (flat_map (λ (r : Running). priority_of r.way) c.machines) p h

pub known : (t : Described) (i : ℕ) (point : Point) (p : ℤ) (policy : Full) → manner t i point ≡ Some (by (Later p policy)) → Contains (priorities (component t i)) p
known t i (Port n number) p policy h =
    let x = then_some (λ (x : PortOf). input_manner x.role) (slice_get (component t i).ports n) (by (Later p policy)) h in
    in_ports (component t i) p (among (λ (x : PortOf). port_priority x.role) (component t i).ports n x.0 p x.1 (of_input x.0.role p policy x.2))
known t i (Post n) p policy h =
    let x = then_some (λ (x : PortOf). internal_manner x.role) (slice_get (component t i).ports n) (by (Later p policy)) h in
    in_ports (component t i) p (among (λ (x : PortOf). port_priority x.role) (component t i).ports n x.0 p x.1 (of_internal x.0.role p policy x.2))
known t i (OfCommand n) p policy h =
    let x = mapped_some (λ (x : Command). command_manner x.way x.part) (slice_get (component t i).commands n) (by (Later p policy)) h in
    in_commands (component t i) p (among (λ (x : Command). priority_of x.way) (component t i).commands n x.0 p x.1 (of_command x.0.way x.0.part p policy x.2))
known t i (Signal running signal) p policy h =
    let x = mapped_some (λ (r : Running). by r.way) (slice_get (component t i).machines running) (by (Later p policy)) h in
    in_machines (component t i) p (among (λ (r : Running). priority_of r.way) (component t i).machines running x.0 p x.1 (of_way x.0.way p policy x.2))
