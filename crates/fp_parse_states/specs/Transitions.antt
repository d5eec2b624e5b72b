-- What machines do, and where they go. FPP Language Specification, "State Machine Behavior Elements": do expressions and transition
-- expressions.
use Rattle.std.specs.Prelude.{ℕ, Option, Some, None, List, [], ◌∷◌}
use Rattle.fp_base.specs.declared.place.Span.{Span}
use Rattle.fp_lexer.specs.Words.{reserved, mark}
use Rattle.fp_lexer.specs.declared.token.Token.{Token}
use Rattle.fp_tree.specs.declared.name.Name.{Name}
use Rattle.fp_tree.specs.declared.name.Qual.{Qual}
use Rattle.fp_tree.specs.declared.machine.ActionUse.{ActionUse}
use Rattle.fp_tree.specs.declared.machine.Do.{Do}
use Rattle.fp_tree.specs.declared.machine.Goto.{Goto}
use Rattle.fp_tree.specs.declared.machine.Transition.{Transition}
use Rattle.fp_tree.specs.declared.machine.Transition.TheVariants as form
use Rattle.fp_grammar.specs.Grammar.{Grammar, after}
use Rattle.fp_grammar.specs.Grammar.Grammar.{seq, map, alt, optional}
use Rattle.fp_grammar.specs.Seal.{seal}
use Rattle.fp_parse_pieces.specs.Kinds.{kind, k_reserved, k_open_brace, k_close_brace, k_dot}
use Rattle.fp_parse_pieces.specs.Words.{between, at, name, qual}
use Rattle.fp_parse_pieces.specs.Lists.{any_noted}

abbrev pub k_do : ℕ
k_do = k_reserved (reserved "do")

abbrev pub k_enter : ℕ
k_enter = k_reserved (reserved "enter")

abbrev pub made_action : Name → ActionUse
made_action n = record { name = n; note = [] }

-- an annotation of its own
abbrev pub action_with_note : ActionUse → List ℕ → ActionUse
action_with_note a note = record { name = a.name; note = note }

-- name
abbrev pub action_use : Grammar Token ActionUse
action_use = map made_action name

-- name*,
abbrev pub actions : Grammar Token (List ActionUse)
actions = any_noted (mark ",") action_with_note action_use

abbrev pub made_do : Span × (List ActionUse × Span) → Do
made_do (word, (actions, closing)) = record { actions = actions; at = between word closing }

-- Do = 'do' '{' name*, '}'
abbrev pub do_body : Grammar Token Do
do_body = map made_do (seq (at k_do) (after k_open_brace (seq actions (at k_close_brace))))

abbrev pub do_list : Grammar Token Do
do_list = seal kind do_body (k_do ∷ []) []

-- where what may come first begins
abbrev pub do_or : Span → Option Do → Span
do_or span None = span
do_or span (Some d) = d.at

abbrev pub made_goto : Option Do × (Span × Qual) → Goto
made_goto (actions, (word, target)) = record { actions = actions; target = target; at = between (do_or word actions) target.at }

-- 'enter' Qual
abbrev pub entering : Grammar Token (Span × Qual)
entering = seq (at k_enter) qual

-- Goto = Do? 'enter' Qual
abbrev pub goto_body : Grammar Token Goto
goto_body = map made_goto (seq (optional do_list) entering)

abbrev pub goto : Grammar Token Goto
goto = seal kind goto_body (k_do ∷ k_enter ∷ []) (k_dot ∷ [])

-- Goto | Do
abbrev pub goto_or_do : Grammar Token Transition
goto_or_do = alt (map form.Goto goto) (map form.Do do_list)

abbrev pub transition : Grammar Token Transition
transition = seal kind goto_or_do (k_do ∷ k_enter ∷ []) (k_dot ∷ k_enter ∷ [])

abbrev pub made_onward : Do × Option (Span × Qual) → Transition
made_onward (d, None) = form.Do d
made_onward (d, Some p) = form.Goto (made_goto (Some d, p))

abbrev pub made_entering : Span × Qual → Transition
made_entering p = form.Goto (made_goto (None, p))

-- the same, with the beginning taken out that both may have
abbrev pub do_first : Grammar Token Transition
do_first = alt (map made_onward (seq do_list (optional entering))) (map made_entering entering)
