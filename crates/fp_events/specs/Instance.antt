-- The state of an instance.
use Rattle.std.specs.Prelude.{ℕ, ℤ, List, [], map, length, replicate, Option, None}
use Rattle.fp_base.specs.declared.value.Value.{Value}
use Rattle.fp_tables.specs.Lookup.{Described}
use Rattle.fp_events.specs.declared.event.Point.{Point}
use Rattle.fp_tables.specs.Specials.{component}
use Rattle.fp_events.specs.Machine.{Configuration}

-- a pending call
pub record Pending : Type 0 where
  pub number : ℕ
  pub priority : ℤ
  pub point : Point
  pub with : List Value

-- the actor that holds the guard, and how many of its sync, set, save and hook frames opened here since are still open
pub record Holding : Type 0 where
  pub actor : ℕ
  pub frames : ℕ

-- what an instance has beside its last stamp
pub record Inside : Type 0 where
  -- in order of arrival
  pub pending : List Pending
  -- how many there were so far
  pub puts : ℕ
  -- none: free
  pub guard : Option Holding
  -- the actor that holds the turn, none: free
  pub turn : Option ℕ
  -- none: not started
  pub machines : List (Option Configuration)
  pub params : List Value
  -- the last written values
  pub channels : List (Option Value)
  -- how often each event was emitted and not held
  pub counts : List ℕ

pub record InstanceState : Type 0 where
  pub inside : Inside
  pub last : ℕ

-- at the opening nothing is pending or held, parameters have their defaults, and no machine is started
abbrev pub opened_instance : Described → ℕ → Inside
opened_instance t i = record {
  pending = [];
  puts = 0;
  guard = None;
  turn = None;
  machines = replicate (length (component t i).machines) None;
  params = map (λ p. p.default) (component t i).params;
  channels = replicate (length (component t i).channels) None;
  counts = replicate (length (component t i).events) 0;
}
