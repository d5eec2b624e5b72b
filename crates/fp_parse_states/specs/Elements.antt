-- The elements of machines and states, a state up to its name. FPP Language Specification, "State Machine Behavior Elements".
use Rattle.std.specs.Prelude.{ℕ, Bool, true, false, Option}
use Rattle.fp_base.specs.declared.place.Span.{Span}
use Rattle.fp_lexer.specs.Words.{reserved}
use Rattle.fp_lexer.specs.declared.token.Token.{Token}
use Rattle.fp_tree.specs.declared.name.Name.{Name}
use Rattle.fp_tree.specs.declared.type_name.TypeName.{TypeName}
use Rattle.fp_tree.specs.declared.machine.Do.{Do}
use Rattle.fp_tree.specs.declared.machine.Goto.{Goto}
use Rattle.fp_tree.specs.declared.machine.Transition.{Transition}
use Rattle.fp_tree.specs.declared.machine.Transition.TheVariants as way
use Rattle.fp_tree.specs.declared.machine.ElementForm.TheVariants as form
use Rattle.fp_parse_states.specs.declared.head.Head.{Head}
use Rattle.fp_grammar.specs.Grammar.{Grammar, after}
use Rattle.fp_grammar.specs.Grammar.Grammar.{seq, map, alt, optional}
use Rattle.fp_parse_pieces.specs.Kinds.{k_reserved, k_open_brace, k_close_brace}
use Rattle.fp_parse_pieces.specs.Words.{between, at, name}
use Rattle.fp_parse_defs.specs.Definitions.{type_or, repr_part}
use Rattle.fp_parse_states.specs.Transitions.{do_list, goto, transition}

abbrev pub k_action : ℕ
k_action = k_reserved (reserved "action")

abbrev pub k_choice : ℕ
k_choice = k_reserved (reserved "choice")

abbrev pub k_else : ℕ
k_else = k_reserved (reserved "else")

abbrev pub k_entry : ℕ
k_entry = k_reserved (reserved "entry")

abbrev pub k_exit : ℕ
k_exit = k_reserved (reserved "exit")

abbrev pub k_guard : ℕ
k_guard = k_reserved (reserved "guard")

abbrev pub k_if : ℕ
k_if = k_reserved (reserved "if")

abbrev pub k_initial : ℕ
k_initial = k_reserved (reserved "initial")

abbrev pub k_on : ℕ
k_on = k_reserved (reserved "on")

abbrev pub k_signal : ℕ
k_signal = k_reserved (reserved "signal")

abbrev pub k_state : ℕ
k_state = k_reserved (reserved "state")

abbrev pub made_state : Span × Name → Head
made_state (word, n) = record { form = form.State n; at = between word n.at }

-- 'state' name
abbrev pub state_head : Grammar Token Head
state_head = map made_state (seq (at k_state) name)

abbrev pub made_choice : Span × (Name × (Name × (Goto × (Goto × Span)))) → Head
made_choice (word, (n, (guard, (met, (unmet, closing))))) = record { form = form.Choice (record { name = n; guard = guard; met = met; unmet = unmet }); at = between word closing }

-- Choice = 'choice' name '{' 'if' name Goto 'else' Goto '}'
abbrev pub choice : Grammar Token Head
choice = map made_choice (seq (at k_choice) (seq name (after k_open_brace (after k_if (seq name (seq goto (after k_else (seq goto (at k_close_brace)))))))))

abbrev pub made_initial : Span × Goto → Head
made_initial (word, g) = record { form = form.Initial g; at = between word g.at }

-- Initial = 'initial' Goto
abbrev pub initial : Grammar Token Head
initial = map made_initial (seq (at k_initial) goto)

abbrev pub made_signal : Span × (Name × Option TypeName) → Head
made_signal (word, (n, of)) = record { form = form.Signal (record { name = n; of = of }); at = between word (type_or n.at of) }

-- 'signal' name (':' TypeName)?
abbrev pub signal : ℕ → Grammar Token Head
signal depth = map made_signal (seq (at k_signal) (seq name (repr_part depth)))

abbrev pub made_action_def : Span × (Name × Option TypeName) → Head
made_action_def (word, (n, of)) = record { form = form.Action (record { name = n; of = of }); at = between word (type_or n.at of) }

-- 'action' name (':' TypeName)?
abbrev pub action : ℕ → Grammar Token Head
action depth = map made_action_def (seq (at k_action) (seq name (repr_part depth)))

abbrev pub made_guard : Span × (Name × Option TypeName) → Head
made_guard (word, (n, of)) = record { form = form.Guard (record { name = n; of = of }); at = between word (type_or n.at of) }

-- 'guard' name (':' TypeName)?
abbrev pub guard : ℕ → Grammar Token Head
guard depth = map made_guard (seq (at k_guard) (seq name (repr_part depth)))

-- where what is done on a signal stands
abbrev pub way_at : Transition → Span
way_at (way.Goto g) = g.at
way_at (way.Do d) = d.at

abbrev pub made_on : Span × (Name × (Option Name × Transition)) → Head
made_on (word, (n, (guard, t))) = record { form = form.On (record { signal = n; guard = guard; transition = t }); at = between word (way_at t) }

-- 'on' name ('if' name)? (Goto | Do)
abbrev pub on_signal : Grammar Token Head
on_signal = map made_on (seq (at k_on) (seq name (seq (optional (after k_if name)) transition)))

abbrev pub made_entry : Span × Do → Head
made_entry (word, d) = record { form = form.Entry d; at = between word d.at }

-- 'entry' Do
abbrev pub entry_actions : Grammar Token Head
entry_actions = map made_entry (seq (at k_entry) do_list)

abbrev pub made_exit : Span × Do → Head
made_exit (word, d) = record { form = form.Exit d; at = between word d.at }

-- 'exit' Do
abbrev pub exit_actions : Grammar Token Head
exit_actions = map made_exit (seq (at k_exit) do_list)

-- what stands inside states alone, and what outside them alone
abbrev pub own : ℕ → Bool → Grammar Token Head
own depth true = alt on_signal (alt entry_actions exit_actions)
own depth false = alt (signal depth) (alt (action depth) (guard depth))

-- an element up to where others may stand in it, inside a state or outside
-- MMember = Initial | Choice | State | 'signal' .. | 'action' .. | 'guard' ..
-- SMember = Initial | Choice | State | 'on' .. | 'entry' .. | 'exit' ..
abbrev pub element : ℕ → Bool → Grammar Token Head
element depth inside = alt state_head (alt choice (alt initial (own depth inside)))
