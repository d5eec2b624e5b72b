-- The keys of a scenario's objects, and what is wanted at each.
use Rattle.std.specs.Prelude.{ℕ, List, [], ◌∷◌, ◌++◌, map, codes, Bool, true, false, Option, Some, None, is_some, if◌then◌else◌}
use Rattle.std.specs.Str.{bytes_eq}
use Rattle.serde_json.specs.Data.{Data}
use Rattle.serde_json.specs.Find.{get}
use Rattle.fp_scenario.specs.declared.first_key.FirstKey.{FirstKey}
use Rattle.fp_scenario.specs.declared.first_key.FirstKey.TheVariants.{Call, Command, Emit, Write, Read, Signal, Post, Respond, Dispatch, Return}
use Rattle.fp_scenario.specs.declared.wanted.Wanted.{Wanted}
use Rattle.fp_scenario.specs.declared.wanted.Wanted.TheVariants.{Scenario, Callers, Caller, Handlers, Handler, Guards, Guard, Actions, Action, Answers, Steps, Number, Text, Identifier, Truth, Yes, Values, Anything}

-- a table of keys, with what is wanted at each
abbrev pub Keys : Type 0
Keys = List (List ℕ × Wanted)

abbrev pub at_key : List ℕ → Keys → Option Wanted
at_key k [] = None
at_key k (row ∷ rows) = if bytes_eq k row.0 then Some row.1 else at_key k rows

-- ---- actions

abbrev pub first_keys : List FirstKey
first_keys = Call ∷ Command ∷ Emit ∷ Write ∷ Read ∷ Signal ∷ Post ∷ Respond ∷ Dispatch ∷ Return ∷ []

abbrev pub key_text : FirstKey → List ℕ
key_text Call = codes "call"
key_text Command = codes "command"
key_text Emit = codes "emit"
key_text Write = codes "write"
key_text Read = codes "read"
key_text Signal = codes "signal"
key_text Post = codes "post"
key_text Respond = codes "respond"
key_text Dispatch = codes "dispatch"
key_text Return = codes "return"

abbrev pub at_first : FirstKey → Wanted
at_first Respond = Identifier
at_first Dispatch = Yes
at_first Return = Anything
at_first _ = Text

abbrev pub first_row : FirstKey → List ℕ × Wanted
first_row key = (key_text key, at_first key)

-- the keys that may stand beside a first key
abbrev pub further : FirstKey → Keys
further Call = (codes "at", Number) ∷ (codes "with", Values) ∷ (codes "as", Text) ∷ []
further Command = (codes "at", Number) ∷ (codes "name", Text) ∷ (codes "with", Values) ∷ []
further Emit = (codes "with", Values) ∷ []
further Write = (codes "with", Values) ∷ []
further Read = (codes "as", Text) ∷ []
further Signal = (codes "name", Text) ∷ (codes "with", Values) ∷ []
further Post = (codes "with", Values) ∷ []
further Respond = []
further Dispatch = []
further Return = []

-- the keys that must
abbrev pub further_needed : FirstKey → List (List ℕ)
further_needed Command = codes "name" ∷ []
further_needed Read = codes "as" ∷ []
further_needed Signal = codes "name" ∷ []
further_needed _ = []

-- where an object hasn't exactly one first key, each key of some action is known
abbrev pub action_keys : Option FirstKey → Keys
action_keys (Some first) = further first
action_keys None = (codes "at", Number) ∷ (codes "name", Text) ∷ (codes "with", Values) ∷ (codes "as", Text) ∷ []

abbrev pub kept : List FirstKey → Data → List FirstKey
kept [] d = []
kept (key ∷ keys) d = if is_some (get (key_text key) d) then key ∷ kept keys d else kept keys d

abbrev pub only : List FirstKey → Option FirstKey
only (key ∷ []) = Some key
only _ = None

-- the first key of an object that has exactly one
abbrev pub first_of : Data → Option FirstKey
first_of d = only (kept first_keys d)

-- ---- all objects

abbrev pub keys_of : Wanted → Option FirstKey → Keys
keys_of Scenario _ = (codes "steps", Steps) ∷ (codes "callers", Callers) ∷ (codes "handlers", Handlers) ∷ (codes "guards", Guards) ∷ []
keys_of Caller _ = (codes "name", Identifier) ∷ (codes "do", Actions) ∷ []
keys_of Handler _ = (codes "of", Text) ∷ (codes "on", Text) ∷ (codes "do", Actions) ∷ []
keys_of Guard _ = (codes "of", Text) ∷ (codes "machine", Text) ∷ (codes "guard", Text) ∷ (codes "answers", Answers) ∷ []
keys_of Action first = map first_row first_keys ++ action_keys first
keys_of _ _ = []

-- the keys without which an object isn't whole
abbrev pub needed : Wanted → Option FirstKey → List (List ℕ)
needed Caller _ = codes "name" ∷ codes "do" ∷ []
needed Handler _ = codes "of" ∷ codes "on" ∷ codes "do" ∷ []
needed Guard _ = codes "of" ∷ codes "machine" ∷ codes "guard" ∷ codes "answers" ∷ []
needed Action (Some first) = further_needed first
needed _ _ = []

abbrev pub wants_object : Wanted → Bool
wants_object Scenario = true
wants_object Caller = true
wants_object Handler = true
wants_object Guard = true
wants_object Action = true
wants_object _ = false

-- what is wanted at a key of an object
abbrev pub wanted_at : Wanted → Data → List ℕ → Option Wanted
wanted_at w d k = at_key k (keys_of w (first_of d))

-- what is wanted of each item of a list
abbrev pub wanted_of_items : Wanted → Option Wanted
wanted_of_items Callers = Some Caller
wanted_of_items Handlers = Some Handler
wanted_of_items Guards = Some Guard
wanted_of_items Actions = Some Action
wanted_of_items Answers = Some Truth
wanted_of_items _ = None
