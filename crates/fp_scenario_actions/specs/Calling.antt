-- What an action of a caller names and takes, and the rules that it keeps.
use Rattle.std.specs.Prelude.{◌≡◌, ℕ, zero, suc, Bool, true, false, cond, ◌==◌, ◌&&◌, nat_lt, nat_le, List, [], ◌∷◌, map, Option, Some, None, option_map, option_and_then, is_some, ⊤}
use Rattle.serde_json.specs.View.{view}
use Rattle.fp_base.specs.declared.rule.Rule.{Rule}
use Rattle.fp_base.specs.declared.rule.Rule.TheVariants.{UnknownName, BadArgument, NoWire, BadReturn, BadDispatch, ActionNotAllowed}
use Rattle.fp_tables.specs.Lists.{if_some}
use Rattle.fp_tables.specs.Lookup.{Described}
use Rattle.fp_tables.specs.Positions.{component_of, port_of}
use Rattle.fp_tables.specs.Arguments.{Scope, kinds_of}
use Rattle.fp_tables.specs.Acts.{result_at, bound_to}
use Rattle.fp_tables.specs.Programs.{is_general_input}
use Rattle.fp_tables.specs.declared.kind.Kind.{Kind}
use Rattle.fp_tables.specs.declared.component.Port.{Port}
use Rattle.fp_tables.specs.declared.component.Component.{Component}
use Rattle.fp_tables.specs.declared.topology.End.{End}
use Rattle.fp_tables.specs.declared.program.Act.{Act}
use Rattle.fp_scenario.specs.declared.scenario.ActText.{ActText}
use Rattle.fp_scenario.specs.declared.first_key.FirstKey.{FirstKey}
use Rattle.fp_scenario.specs.declared.first_key.FirstKey.TheVariants as key
use Rattle.fp_scenario_actions.specs.Arguments.{AreArguments}
use Rattle.fp_scenario_actions.specs.declared.listing.ListHalt.{ListHalt}
use Rattle.fp_scenario_actions.specs.declared.listing.ListHalt.TheVariants.{Broken, NoMemory}
use Rattle.fp_scenario_actions.specs.Named.{placed_named, port_where}
use Rattle.fp_scenario_actions.specs.Acting.{verb_of, binding, end_at, names_are_bound, command_at, takes_at}

-- the two parts of a text round its last dot
abbrev pub from_rest : ℕ → List ℕ → Option (List ℕ × List ℕ) → Option (List ℕ × List ℕ)
from_rest b bs (Some p) = Some (b ∷ p.0, p.1)
from_rest b bs None = cond (b == 46) (Some ([], bs)) None

abbrev pub last_parted : List ℕ → Option (List ℕ × List ℕ)
last_parted [] = None
last_parted (b ∷ bs) = from_rest b bs (last_parted bs)

module _ (t : Described) where
  -- a general input of an instance of the topology
  abbrev pub input_at : List ℕ → ℕ → Option End
  input_at port i = option_map (λ p. end_at i p 0) (option_and_then (λ (c : Component). port_where (λ x. is_general_input x.role) c.ports port) (component_of t.model i))

  abbrev pub input_of_parts : List ℕ × List ℕ → Option End
  input_of_parts p = option_and_then (input_at p.1) (placed_named t p.0)

  abbrev pub input_named : List ℕ → Option End
  input_named text = option_and_then input_of_parts (last_parted text)

  abbrev pub input_port : List ℕ → Option Port
  input_port text = option_and_then (λ (e : End). port_of t.model e.instance e.port) (input_named text)

  abbrev pub subject_of : FirstKey → ActText → Option End
  subject_of key.Call a = option_map (λ (e : End). end_at e.instance e.port a.at) (input_named a.first)
  subject_of key.Command a = option_map (λ i. end_at i 0 a.at) (placed_named t a.first)
  subject_of _ a = None

  abbrev pub name_in : FirstKey → ActText → Option ℕ
  name_in key.Command a = option_and_then (λ i. command_at t a.name (end_at i 0 0)) (placed_named t a.first)
  name_in _ a = Some 0

  abbrev pub kinds_in : FirstKey → ActText → Option (List Kind)
  kinds_in key.Call a = option_map (λ (x : Port). kinds_of x.formals) (input_port a.first)
  kinds_in key.Command a = option_and_then (λ i. option_and_then (takes_at t (end_at i 0 0)) (command_at t a.name (end_at i 0 0))) (placed_named t a.first)
  kinds_in _ a = None

  abbrev pub is_call : FirstKey → Bool
  is_call key.Call = true
  is_call key.Command = true
  is_call _ = false

  -- what other actions name isn't looked up
  abbrev pub is_known : FirstKey → ActText → Bool
  is_known key.Call a = is_some (input_port a.first)
  is_known key.Command a = is_some (name_in key.Command a)
  is_known _ a = true

  -- the number is one of the port's; a recv port has one
  abbrev pub is_numbered : FirstKey → ActText → Bool
  is_numbered key.Call a = if_some (λ (x : Port). nat_lt a.at x.size) (input_port a.first)
  is_numbered key.Command a = nat_le a.at 0
  is_numbered _ a = true

  abbrev pub is_return : FirstKey → Bool
  is_return key.Return = true
  is_return _ = false

  abbrev pub is_dispatch : FirstKey → Bool
  is_dispatch key.Dispatch = true
  is_dispatch _ = false

  abbrev pub Breaks : Rule → FirstKey → Scope → ActText → Type 0
  Breaks UnknownName k scope a = (is_call k ≡ true) × ((is_known k a && names_are_bound scope a) ≡ false)
  Breaks BadArgument k scope a = (kinds : List Kind) × (kinds_in k a ≡ Some kinds) × ((given : _) → AreArguments t.model.types scope kinds (map view a.with) given → ⊥)
  Breaks NoWire k scope a = is_numbered k a ≡ false
  Breaks ActionNotAllowed k scope a = is_call k ≡ false
  Breaks BadReturn k scope a = is_return k ≡ true
  Breaks BadDispatch k scope a = is_dispatch k ≡ true
  Breaks _ k scope a = ⊥

  pub record Plans (k : FirstKey) (scope : Scope) (a : ActText) (act : Act) : Type 0 where
    pub verb : act.verb ≡ verb_of k
    pub subject : subject_of k a ≡ Some act.subject
    pub name : name_in k a ≡ Some act.name
    pub arguments : (kinds : List Kind) × (kinds_in k a ≡ Some kinds) × AreArguments t.model.types scope kinds (map view a.with) act.with
    pub bind : act.bind ≡ binding k a
    pub numbered : is_numbered k a ≡ true
    pub known : is_known k a ≡ true
    pub allowed : is_call k ≡ true

  abbrev pub scope_after : FirstKey → ActText → Scope → Scope
  scope_after key.Call a scope = bound_to a.as_ (option_and_then (λ (e : End). result_at t e.instance e.port) (input_named a.first)) scope
  scope_after _ a scope = scope

  abbrev pub ActsPlan : Scope → List ActText → List Act → Type 0
  ActsPlan scope [] [] = ⊤
  ActsPlan scope (a ∷ rest) (x ∷ acts) = Plans a.key scope a x × ActsPlan (scope_after a.key a scope) rest acts
  ActsPlan scope _ _ = ⊥

  abbrev pub BreaksAt : Rule → ℕ → Scope → List ActText → Type 0
  BreaksAt rule n scope [] = ⊥
  BreaksAt rule zero scope (a ∷ rest) = Breaks rule a.key scope a
  BreaksAt rule (suc n) scope (a ∷ rest) = BreaksAt rule n (scope_after a.key a scope) rest

  -- want of memory, or a rule that the action at the position breaks
  abbrev pub IsListHalt : Scope → List ActText → ListHalt → Type 0
  IsListHalt scope texts (Broken rule at) = BreaksAt rule at scope texts
  IsListHalt scope texts NoMemory = ⊤
