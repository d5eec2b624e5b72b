-- What a law says of the pieces of a file it says of the items and the names of a state machine.
use Rattle.std.proofs.Common.{ℕ, ◌+◌, Bool, true, false, List, [], ◌∷◌, ◌++◌, Option, Some, None, sym, subst, inl, inr}
use Rattle.std.specs.List.{AllByRecursion as Each}
use Rattle.fp_base.specs.declared.place.Span.{Span}
use Rattle.fp_lexer.specs.Words.{mark}
use Rattle.fp_lexer.specs.declared.token.Token.{Token}
use Rattle.fp_tree.specs.declared.name.Name.{Name}
use Rattle.fp_tree.specs.declared.name.Qual.{Qual}
use Rattle.fp_tree.specs.declared.type_name.TypeName.{TypeName}
use Rattle.fp_tree.specs.declared.machine.ActionUse.{ActionUse}
use Rattle.fp_tree.specs.declared.machine.Do.{Do}
use Rattle.fp_tree.specs.declared.machine.Goto.{Goto}
use Rattle.fp_tree.specs.declared.machine.Transition.{Transition}
use Rattle.fp_tree.specs.declared.machine.Transition.TheVariants as way
use Rattle.fp_tree.specs.declared.machine.BehaviorElement.{BehaviorElement}
use Rattle.fp_tree.specs.declared.machine.Behavior.{Behavior}
use Rattle.fp_tree.specs.declared.machine.Machine.{Machine}
use Rattle.fp_meaning.specs.Sites.{machine as machine_def}
use Rattle.fp_meaning.specs.Layout.{type_items, element_form_items, element_items, behavior_items, machine_items}
use Rattle.fp_parse_pieces.specs.Kinds.{k_dot, k_open_brace}
use Rattle.fp_parse_states.specs.declared.head.Head.{Head}
use Rattle.fp_parse_states.specs.Transitions.{k_do, k_enter, made_action, action_with_note, actions, made_do, do_body, do_list, made_goto, goto_body, goto, goto_or_do, transition}
use Rattle.fp_parse_states.specs.Elements.{k_else, k_if, made_state, state_head, made_choice, choice, made_initial, initial, made_signal, signal, made_action_def, action, made_guard, guard, made_on, on_signal, made_entry, entry_actions, made_exit, exit_actions, own, element}
use Rattle.fp_parse_states.specs.Nested.{NestedElements, Lines, SpellsBehind, SpellsElements, SpellsRest, elements_of, size, body, k_machine, made_machine, machine}
use Rattle.fp_parse_states.specs.Nested.NestedElements.{none, without_body, with_body}
use Rattle.fp_parse_defs.specs.Definitions.{k_colon, repr_part}
use Rattle.fp_meaning.specs.Names.{in_optional}
use Rattle.fp_base.proofs.Lists.{InOption, each_append, each_before, each_behind}
use Rattle.fp_places.specs.Parts.{names_in_type}
use Rattle.fp_places.specs.Machines.{names_in_do, names_in_goto, names_in_transition, names_in_element_form, names_in_element, names_in_behavior, names_in_machine}
use Rattle.fp_places.proofs.Preserving.{LanguageGives, gives_anything, gives_less, gives_map, gives_seq, gives_alt, gives_optional, gives_ref, gives_seal, gives_after, gives_both}
use Rattle.fp_places.proofs.Lists.{gives_any_noted, list_named, option_named}
use Rattle.fp_places.proofs.Held.{held_names, held_named, held_option, held_list}
use Rattle.fp_places.proofs.Known.{Known, Yields, Says, declares}

module _ {depth : ℕ} (law : Known depth) where
  abbrev DoNamed : Do → Type 0
  DoNamed d = Each law.OfName (names_in_do d)

  abbrev GotoNamed : Goto → Type 0
  GotoNamed g = Each law.OfName (names_in_goto g)

  abbrev WayNamed : Transition → Type 0
  WayNamed t = Each law.OfName (names_in_transition t)

  abbrev HeadSaid : Head → Type 0
  HeadSaid e = Says law (λ scope. element_form_items scope e.form) (names_in_element_form e.form)

  abbrev ActionNamed : ActionUse → Type 0
  ActionNamed a = Each law.OfName (a.name ∷ [])

  actions_yield : Yields law actions (Each ActionNamed)
  actions_yield = gives_any_noted ActionNamed (mark ",") action_with_note (λ a note h. h) (gives_map ActionNamed made_action (λ n h. (law.named n h, tt)) law.naming_given)

  do_named : (p : Span × (List ActionUse × Span)) → Unit {0} × (Each ActionNamed p.1.0 × Unit {0}) → DoNamed (made_do p)
  do_named (word, (uses, closing)) h = list_named law.OfName (λ (a : ActionUse). a.name ∷ []) uses h.1.0

  do_yields : Yields law do_list DoNamed
  do_yields = gives_seal {a = do_body} (k_do ∷ []) [] (gives_map DoNamed made_do do_named (gives_seq gives_anything (gives_after k_open_brace (gives_seq actions_yield gives_anything))))

  goto_named : (p : Option Do × (Span × Qual)) → InOption DoNamed p.0 × (Unit {0} × law.Using p.1.1) → GotoNamed (made_goto p)
  goto_named (before, (word, target)) h = each_append law.OfName _ _ (option_named law.OfName names_in_do before h.0) (law.all_named target h.1.1)

  goto_yields : Yields law goto GotoNamed
  goto_yields = gives_seal {a = goto_body} (k_do ∷ k_enter ∷ []) (k_dot ∷ []) (gives_map GotoNamed made_goto goto_named (gives_seq (gives_optional do_yields) (gives_seq gives_anything law.using_given)))

  transition_yields : Yields law transition WayNamed
  transition_yields = gives_seal {a = goto_or_do} (k_do ∷ k_enter ∷ []) (k_dot ∷ k_enter ∷ [])
      (gives_alt (gives_map WayNamed way.Goto (λ g h. h) goto_yields) (gives_map WayNamed way.Do (λ d h. h) do_yields))

  state_said : (p : Span × Name) → Unit {0} × law.Naming p.1 → HeadSaid (made_state p)
  state_said (word, n) h = held_names (law.named n h.1, tt)

  state_yields : Yields law state_head HeadSaid
  state_yields = gives_map HeadSaid made_state state_said (gives_seq gives_anything law.naming_given)

  choice_said : (p : Span × (Name × (Name × (Goto × (Goto × Span))))) → Unit {0} × (law.Naming p.1.0 × (law.Naming p.1.1.0 × (GotoNamed p.1.1.1.0 × (GotoNamed p.1.1.1.1.0 × Unit {0})))) → HeadSaid (made_choice p)
  choice_said (word, (n, (held, (met, (unmet, closing))))) h = held_names (law.named n h.1.0, (law.named held h.1.1.0, each_append law.OfName _ _ h.1.1.1.0 h.1.1.1.1.0))

  choice_yields : Yields law choice HeadSaid
  choice_yields = gives_map HeadSaid made_choice choice_said
      (gives_seq gives_anything (gives_seq law.naming_given (gives_after k_open_brace (gives_after k_if (gives_seq law.naming_given
      (gives_seq goto_yields (gives_after k_else (gives_seq goto_yields gives_anything))))))))

  initial_said : (p : Span × Goto) → Unit {0} × GotoNamed p.1 → HeadSaid (made_initial p)
  initial_said (word, x) h = held_names h.1

  initial_yields : Yields law initial HeadSaid
  initial_yields = gives_map HeadSaid made_initial initial_said (gives_seq gives_anything goto_yields)

  on_said : (p : Span × (Name × (Option Name × Transition))) → Unit {0} × (law.Naming p.1.0 × (InOption law.Naming p.1.1.0 × WayNamed p.1.1.1)) → HeadSaid (made_on p)
  on_said (word, (n, (None, t))) h = held_names (law.named n h.1.0, h.1.1.1)
  on_said (word, (n, (Some held, t))) h = held_names (law.named n h.1.0, (law.named held h.1.1.0, h.1.1.1))

  on_yields : Yields law on_signal HeadSaid
  on_yields = gives_map HeadSaid made_on on_said (gives_seq gives_anything (gives_seq law.naming_given (gives_seq (gives_optional (gives_after k_if law.naming_given)) transition_yields)))

  entry_said : (p : Span × Do) → Unit {0} × DoNamed p.1 → HeadSaid (made_entry p)
  entry_said (word, x) h = held_names h.1

  entry_yields : Yields law entry_actions HeadSaid
  entry_yields = gives_map HeadSaid made_entry entry_said (gives_seq gives_anything do_yields)

  exit_said : (p : Span × Do) → Unit {0} × DoNamed p.1 → HeadSaid (made_exit p)
  exit_said (word, x) h = held_names h.1

  exit_yields : Yields law exit_actions HeadSaid
  exit_yields = gives_map HeadSaid made_exit exit_said (gives_seq gives_anything do_yields)

  abbrev MaybeType : Option TypeName → Type 0
  MaybeType o = Says law (λ scope. in_optional (type_items 0 scope) o) (in_optional names_in_type o)

  part_yields : Yields law (repr_part depth) MaybeType
  part_yields = gives_less MaybeType (held_option (type_items 0) names_in_type) (gives_optional (gives_after k_colon law.types_given))

  signal_said : (p : Span × (Name × Option TypeName)) → Unit {0} × (law.Naming p.1.0 × MaybeType p.1.1) → HeadSaid (made_signal p)
  signal_said (word, (n, of)) h = held_named (law.named n h.1.0) h.1.1

  signal_yields : Yields law (signal depth) HeadSaid
  signal_yields = gives_map HeadSaid made_signal signal_said (gives_seq gives_anything (gives_seq law.naming_given part_yields))

  action_said : (p : Span × (Name × Option TypeName)) → Unit {0} × (law.Naming p.1.0 × MaybeType p.1.1) → HeadSaid (made_action_def p)
  action_said (word, (n, of)) h = held_named (law.named n h.1.0) h.1.1

  action_yields : Yields law (action depth) HeadSaid
  action_yields = gives_map HeadSaid made_action_def action_said (gives_seq gives_anything (gives_seq law.naming_given part_yields))

  guard_said : (p : Span × (Name × Option TypeName)) → Unit {0} × (law.Naming p.1.0 × MaybeType p.1.1) → HeadSaid (made_guard p)
  guard_said (word, (n, of)) h = held_named (law.named n h.1.0) h.1.1

  guard_yields : Yields law (guard depth) HeadSaid
  guard_yields = gives_map HeadSaid made_guard guard_said (gives_seq gives_anything (gives_seq law.naming_given part_yields))

  own_yields : (inside : Bool) → Yields law (own depth inside) HeadSaid
  own_yields true = gives_alt on_yields (gives_alt entry_yields exit_yields)
  own_yields false = gives_alt signal_yields (gives_alt action_yields guard_yields)

  element_yields : (inside : Bool) → Yields law (element depth inside) HeadSaid
  element_yields inside = gives_alt state_yields (gives_alt choice_yields (gives_alt initial_yields (own_yields inside)))

  abbrev ElementSaid : BehaviorElement → Type 0
  ElementSaid e = Says law (λ scope. element_items scope e) (names_in_element e)

  -- of elements that nest, wherever they are laid out
  abbrev AllSaid : NestedElements → Type 0
  AllSaid es = (parent : Option ℕ) (n : ℕ) → Each ElementSaid (elements_of parent es n)

  behind_said : (spells_more : List Token → Type 0) (more : NestedElements) (lines : Lines) (w : List Token) → ((v : List Token) → spells_more v → Each law.OfToken v → AllSaid more)
      → SpellsBehind spells_more more lines w → Each law.OfToken w → AllSaid more
  behind_said spells_more more lines w known (u, v, a, b, e, f, s, inl (g, h, i)) told = subst AllSaid (sym i) (λ parent n. tt)
  behind_said spells_more more lines w known (u, v, a, b, e, f, s, inr (t, r, z, g, m, h, i)) told =
      let all : Each law.OfToken (u ++ v) = subst (Each law.OfToken) e told in
      let later : Each law.OfToken (t ∷ (r ++ z)) = subst (Each law.OfToken) g (each_behind law.OfToken u v all) in
      known z i (each_behind law.OfToken r z later.1)

  nested_said : (inside : Bool) (es : NestedElements) (w : List Token) → SpellsElements depth inside es w → Each law.OfToken w → AllSaid es
  nested_said inside none w s told parent n = tt
  nested_said inside (without_body before e behind more) w (u, v, z, split, a, b, c) told parent n =
      let all : Each law.OfToken (u ++ (v ++ z)) = subst (Each law.OfToken) split told in
      let rest = each_behind law.OfToken u (v ++ z) all in
      let here = (element_yields inside).given v e b (each_before law.OfToken v z rest) in
      (here, behind_said (SpellsElements depth inside more) more behind z (nested_said inside more) c (each_behind law.OfToken v z rest) parent (n + 1))
  nested_said inside (with_body before e inner behind more) w (u, v, y, z, l, r, split, a, b, k, i, j, c) told parent n =
      let all : Each law.OfToken (u ++ (v ++ l ∷ (y ++ r ∷ z))) = subst (Each law.OfToken) split told in
      let rest = each_behind law.OfToken u (v ++ l ∷ (y ++ r ∷ z)) all in
      let here = state_yields.given v e b (each_before law.OfToken v (l ∷ (y ++ r ∷ z)) rest) in
      let inside_on = (each_behind law.OfToken v (l ∷ (y ++ r ∷ z)) rest).1 in
      let nested = nested_said true inner y i (each_before law.OfToken y (r ∷ z) inside_on) (Some n) (n + 1) in
      let later = (each_behind law.OfToken y (r ∷ z) inside_on).1 in
      (here, each_append ElementSaid _ _ nested (behind_said (SpellsElements depth inside more) more behind z (nested_said inside more) c later parent ((n + 1) + size inner)))

  abbrev BehaviorSaid : Behavior → Type 0
  BehaviorSaid b = Says law (λ scope. behavior_items scope b) (names_in_behavior b)

  rest_said : LanguageGives law.OfToken (SpellsRest depth) BehaviorSaid
  rest_said w b (u, r, es, e, s, k, f) told =
      let all : Each law.OfToken (u ++ r ∷ []) = subst (Each law.OfToken) e told in
      subst BehaviorSaid (sym f) (held_list element_items names_in_element (elements_of None es 0) (nested_said false es u s (each_before law.OfToken u (r ∷ []) all) None 0))

  body_yields : Yields law (body depth) BehaviorSaid
  body_yields = gives_after k_open_brace (gives_ref _ rest_said)

  -- in any annotation
  abbrev pub MachineSaid : Machine → Type 0
  MachineSaid m = (note : List ℕ) → Says law (λ scope. machine_items scope (record m { note = note })) (names_in_machine (record m { note = note }))

  -- its name, and its behavior
  abbrev OwnSaid : Machine → Type 0
  OwnSaid m = law.Naming m.name × InOption BehaviorSaid m.behavior

  own_of_machine : (p : Span × (Name × Option Behavior)) → Unit {0} × (law.Naming p.1.0 × InOption BehaviorSaid p.1.1) → OwnSaid (made_machine p)
  own_of_machine (word, (n, behavior)) h = h.1

  machine_said : (m : Machine) → OwnSaid m × ((note : List ℕ) → law.OfMachine (record m { note = note })) → MachineSaid m
  machine_said m h note =
      declares law (machine_def (record m { note = note })) h.0.0 (h.1 note) (held_option behavior_items names_in_behavior m.behavior h.0.1)

  pub machine_yields : Yields law (machine depth) MachineSaid
  machine_yields = gives_less MachineSaid machine_said (gives_both (gives_map OwnSaid made_machine own_of_machine
      (gives_seq gives_anything (gives_after k_machine (gives_seq law.naming_given (gives_optional body_yields))))) law.machines_given)
