-- The places that the texts at `on` mean, and the ends that callers name.
use Rattle.std.specs.Prelude.{ℕ, cond, codes, ◌==◌, ◌||◌, List, [], ◌∷◌, length, take, drop, Option, Some, None, slice_get, option_map, option_and_then}
use Rattle.std.specs.Str.{bytes_eq}
use Rattle.fp_tables.specs.Lists.{some_and}
use Rattle.fp_tables.specs.Lookup.{Described}
use Rattle.fp_tables.specs.Programs.{is_general_input, is_internal, is_hooked, way_in, way_written}
use Rattle.fp_tables.specs.declared.component.Port.{Port}
use Rattle.fp_tables.specs.declared.component.Command.{Command}
use Rattle.fp_tables.specs.declared.component.Running.{Running}
use Rattle.fp_tables.specs.declared.component.Component.{Component}
use Rattle.fp_tables.specs.declared.machine.Machine.{Machine}
use Rattle.fp_tables.specs.declared.program.Spot.{Spot}
use Rattle.fp_tables.specs.declared.program.Spot.TheVariants as spot
use Rattle.fp_scenario_actions.specs.Named.{port_where, command_named, running_named, name_of}
use Rattle.fp_scenario_actions.specs.Acting.{machine_in}

-- what stands behind a beginning
abbrev pub behind : List ℕ → List ℕ → Option (List ℕ)
behind beginning text = cond (bytes_eq (take (length beginning) text) beginning) (Some (drop (length beginning) text)) None

-- the two parts of a text round its first byte of this kind
abbrev pub parted : ℕ → List ℕ → Option (List ℕ × List ℕ)
parted byte [] = None
parted byte (b ∷ bs) = cond (b == byte) (Some ([], bs)) (option_map (λ (p : List ℕ × List ℕ). (b ∷ p.0, p.1)) (parted byte bs))

-- the first form that a text has decides
abbrev pub form : Option (List ℕ) → (List ℕ → Option Spot) → Option Spot → Option Spot
form (Some name) meant others = meant name
form None meant others = others

module _ (t : Described) (c : Component) where
  -- a general input or an internal port
  abbrev pub port_spot : List ℕ → Option Spot
  port_spot name = option_map (λ n. spot.Port n) (port_where (λ x. is_general_input x.role || is_internal x.role) c.ports name)

  abbrev pub command_spot : List ℕ → Option Spot
  command_spot name = option_map (λ n. spot.Command n) (command_named c.commands name)

  abbrev pub action_at : List ℕ → ℕ → Option Spot
  action_at action r = option_and_then (λ (m : Machine). option_map (λ k. spot.Action r k) (name_of m.actions action)) (machine_in t c r)

  -- an action of a machine instance, joined by a dot
  abbrev pub action_spot : List ℕ → Option Spot
  action_spot name = option_and_then (λ (p : List ℕ × List ℕ). option_and_then (action_at p.1) (running_named c.machines p.0)) (parted 46 name)

  -- what is dropped under `hook`: at a port, of a command that is no parameter's, or of a machine instance's signals
  abbrev pub hook_port_spot : List ℕ → Option Spot
  hook_port_spot name = option_map (λ n. spot.HookPort n) (port_where (λ x. some_and is_hooked (way_in x.role)) c.ports name)

  abbrev pub hook_command_spot : List ℕ → Option Spot
  hook_command_spot name = option_and_then (λ n. cond (some_and (λ (x : Command). some_and is_hooked (way_written x.way x.part)) (slice_get c.commands n)) (Some (spot.HookCommand n)) None) (command_named c.commands name)

  abbrev pub hook_signal_spot : List ℕ → Option Spot
  hook_signal_spot name = option_and_then (λ n. cond (some_and (λ (x : Running). is_hooked x.way) (slice_get c.machines n)) (Some (spot.HookSignal n)) None) (running_named c.machines name)

  abbrev pub spot_in : List ℕ → Option Spot
  spot_in on =
      form (behind (codes "port ") on) port_spot (form (behind (codes "command ") on) command_spot (form (behind (codes "action ") on) action_spot
      (form (behind (codes "hook port ") on) hook_port_spot (form (behind (codes "hook command ") on) hook_command_spot (form (behind (codes "hook signal ") on) hook_signal_spot None)))))
