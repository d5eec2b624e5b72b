-- The places of machines, of the elements in them and of what these use, are such where tokens begin.
use Rattle.std.proofs.Common.{ℕ, ◌+◌, Bool, true, false, List, [], ◌∷◌, ◌++◌, Option, Some, None, sym, subst, inl, inr}
use Rattle.std.specs.List.{AllByRecursion as Each}
use Rattle.fp_base.specs.declared.place.Place.{Place}
use Rattle.fp_base.specs.declared.place.Span.{Span}
use Rattle.fp_lexer.specs.Words.{mark}
use Rattle.fp_lexer.specs.declared.token.Token.{Token}
use Rattle.fp_tree.specs.declared.name.Name.{Name}
use Rattle.fp_tree.specs.declared.name.Qual.{Qual}
use Rattle.fp_tree.specs.declared.type_name.TypeName.{TypeName}
use Rattle.fp_tree.specs.declared.machine.ActionUse.{ActionUse}
use Rattle.fp_tree.specs.declared.machine.Do.{Do}
use Rattle.fp_tree.specs.declared.machine.Goto.{Goto}
use Rattle.fp_tree.specs.declared.machine.Transition.{Transition}
use Rattle.fp_tree.specs.declared.machine.Transition.TheVariants as way
use Rattle.fp_tree.specs.declared.machine.BehaviorElement.{BehaviorElement}
use Rattle.fp_tree.specs.declared.machine.Behavior.{Behavior}
use Rattle.fp_tree.specs.declared.machine.Machine.{Machine}
use Rattle.fp_meaning.specs.Sites.{in_optional, machine as machine_def}
use Rattle.fp_parse_pieces.specs.Kinds.{k_dot, k_open_brace}
use Rattle.fp_parse_defs.specs.Definitions.{k_colon, repr_part}
use Rattle.fp_parse_states.specs.declared.head.Head.{Head}
use Rattle.fp_parse_states.specs.Transitions.{k_do, k_enter, made_action, action_with_note, actions, made_do, do_body, do_list, made_goto, goto_body, goto, goto_or_do, transition}
use Rattle.fp_parse_states.specs.Elements.{k_else, k_entry, k_exit, k_if, k_initial, k_on, k_state, made_state, state_head, made_choice, choice, made_initial, initial, made_signal, signal, made_action_def, action, made_guard, guard, made_on, on_signal, made_entry, entry_actions, made_exit, exit_actions, own, element}
use Rattle.fp_parse_states.specs.Nested.{NestedElements, Lines, SpellsBehind, SpellsElements, SpellsRest, elements_of, size, body, k_machine, made_machine, machine}
use Rattle.fp_parse_states.specs.Nested.NestedElements.{none, without_body, with_body}
use Rattle.fp_base.proofs.Lists.{InOption, each_append, each_before, each_behind, each_flat, each_mapped}
use Rattle.fp_places.proofs.Preserving.{LanguageGives, gives_anything, gives_less, gives_map, gives_seq, gives_alt, gives_optional, gives_ref, gives_seal, gives_after}
use Rattle.fp_places.proofs.Lists.{gives_any_noted}
use Rattle.fp_places.specs.Places.{places_in_behavior, places_in_do, places_in_element, places_in_element_form, places_in_goto, places_in_transition, places_in_type, places_of_model}
use Rattle.fp_places.proofs.Tokens.{Begins, Yields, at_yields, name_yields, optional_stands, qual_yields}
use Rattle.fp_places.proofs.Definitions.{type_yields}

module _ (G : Place → Type 0) (depth : ℕ) where
  -- ---- what is done, and where it goes

  abbrev ActionStands : ActionUse → Type 0
  ActionStands a = G a.name.at.first

  abbrev DoStands : Do → Type 0
  DoStands d = Each G (places_in_do d)

  abbrev GotoStands : Goto → Type 0
  GotoStands g = Each G (places_in_goto g)

  abbrev WayStands : Transition → Type 0
  WayStands t = Each G (places_in_transition t)

  actions_yield : Yields G actions (Each ActionStands)
  actions_yield = gives_any_noted ActionStands (mark ",") action_with_note (λ a note h. h) (gives_map ActionStands made_action (λ n h. h) (name_yields G))

  do_stands : (p : Span × (List ActionUse × Span)) → Unit {0} × (Each ActionStands p.1.0 × Unit {0}) → DoStands (made_do p)
  do_stands (word, (uses, closing)) h = each_mapped G (λ (a : ActionUse). a.name.at.first) uses h.1.0

  do_yields : Yields G do_list DoStands
  do_yields = gives_seal {a = do_body} (k_do ∷ []) [] (gives_map DoStands made_do do_stands (gives_seq gives_anything (gives_after k_open_brace (gives_seq actions_yield gives_anything))))

  goto_stands : (p : Option Do × (Span × Qual)) → InOption DoStands p.0 × (Unit {0} × G p.1.1.at.first) → GotoStands (made_goto p)
  goto_stands (before, (word, target)) h = each_append G _ _ (optional_stands G places_in_do before h.0) (h.1.1, tt)

  goto_yields : Yields G goto GotoStands
  goto_yields = gives_seal {a = goto_body} (k_do ∷ k_enter ∷ []) (k_dot ∷ []) (gives_map GotoStands made_goto goto_stands (gives_seq (gives_optional do_yields) (gives_seq gives_anything (qual_yields G))))

  transition_yields : Yields G transition WayStands
  transition_yields = gives_seal {a = goto_or_do} (k_do ∷ k_enter ∷ []) (k_dot ∷ k_enter ∷ [])
      (gives_alt (gives_map WayStands way.Goto (λ g h. h) goto_yields) (gives_map WayStands way.Do (λ d h. h) do_yields))

  -- ---- elements

  abbrev HeadStands : Head → Type 0
  HeadStands e = Each G (places_in_element_form e.at e.form)

  state_stands : (p : Span × Name) → Unit {0} × G p.1.at.first → HeadStands (made_state p)
  state_stands (word, n) h = (h.1, tt)

  state_yields : Yields G state_head HeadStands
  state_yields = gives_map HeadStands made_state state_stands (gives_seq gives_anything (name_yields G))

  choice_stands : (p : Span × (Name × (Name × (Goto × (Goto × Span)))))
      → Unit {0} × (G p.1.0.at.first × (G p.1.1.0.at.first × (GotoStands p.1.1.1.0 × (GotoStands p.1.1.1.1.0 × Unit {0})))) → HeadStands (made_choice p)
  choice_stands (word, (n, (held, (met, (unmet, closing))))) h = (h.1.0, (h.1.1.0, each_append G _ _ h.1.1.1.0 h.1.1.1.1.0))

  choice_yields : Yields G choice HeadStands
  choice_yields = gives_map HeadStands made_choice choice_stands
      (gives_seq gives_anything (gives_seq (name_yields G) (gives_after k_open_brace (gives_after k_if (gives_seq (name_yields G)
      (gives_seq goto_yields (gives_after k_else (gives_seq goto_yields gives_anything))))))))

  initial_stands : (p : Span × Goto) → G p.0.first × GotoStands p.1 → HeadStands (made_initial p)
  initial_stands (word, x) h = (h.0, h.1)

  initial_yields : Yields G initial HeadStands
  initial_yields = gives_map HeadStands made_initial initial_stands (gives_seq (at_yields G k_initial) goto_yields)

  on_stands : (p : Span × (Name × (Option Name × Transition))) → G p.0.first × (G p.1.0.at.first × (InOption (λ (n : Name). G n.at.first) p.1.1.0 × WayStands p.1.1.1)) → HeadStands (made_on p)
  on_stands (word, (n, (None, t))) h = (h.0, (h.1.0, h.1.1.1))
  on_stands (word, (n, (Some held, t))) h = (h.0, (h.1.0, (h.1.1.0, h.1.1.1)))

  on_yields : Yields G on_signal HeadStands
  on_yields = gives_map HeadStands made_on on_stands
      (gives_seq (at_yields G k_on) (gives_seq (name_yields G) (gives_seq (gives_optional (gives_after k_if (name_yields G))) transition_yields)))

  entry_stands : (p : Span × Do) → G p.0.first × DoStands p.1 → HeadStands (made_entry p)
  entry_stands (word, x) h = (h.0, h.1)

  entry_yields : Yields G entry_actions HeadStands
  entry_yields = gives_map HeadStands made_entry entry_stands (gives_seq (at_yields G k_entry) do_yields)

  exit_stands : (p : Span × Do) → G p.0.first × DoStands p.1 → HeadStands (made_exit p)
  exit_stands (word, x) h = (h.0, h.1)

  exit_yields : Yields G exit_actions HeadStands
  exit_yields = gives_map HeadStands made_exit exit_stands (gives_seq (at_yields G k_exit) do_yields)

  abbrev MaybeType : Option TypeName → Type 0
  MaybeType o = Each G (in_optional places_in_type o)

  part_yields : Yields G (repr_part depth) MaybeType
  part_yields = gives_less MaybeType (optional_stands G places_in_type) (gives_optional (gives_after k_colon (type_yields G depth)))

  signal_stands : (p : Span × (Name × Option TypeName)) → Unit {0} × (G p.1.0.at.first × MaybeType p.1.1) → HeadStands (made_signal p)
  signal_stands (word, (n, of)) h = (h.1.0, h.1.1)

  signal_yields : Yields G (signal depth) HeadStands
  signal_yields = gives_map HeadStands made_signal signal_stands (gives_seq gives_anything (gives_seq (name_yields G) part_yields))

  action_stands : (p : Span × (Name × Option TypeName)) → Unit {0} × (G p.1.0.at.first × MaybeType p.1.1) → HeadStands (made_action_def p)
  action_stands (word, (n, of)) h = (h.1.0, h.1.1)

  action_yields : Yields G (action depth) HeadStands
  action_yields = gives_map HeadStands made_action_def action_stands (gives_seq gives_anything (gives_seq (name_yields G) part_yields))

  guard_stands : (p : Span × (Name × Option TypeName)) → Unit {0} × (G p.1.0.at.first × MaybeType p.1.1) → HeadStands (made_guard p)
  guard_stands (word, (n, of)) h = (h.1.0, h.1.1)

  guard_yields : Yields G (guard depth) HeadStands
  guard_yields = gives_map HeadStands made_guard guard_stands (gives_seq gives_anything (gives_seq (name_yields G) part_yields))

  own_yields : (inside : Bool) → Yields G (own depth inside) HeadStands
  own_yields true = gives_alt on_yields (gives_alt entry_yields exit_yields)
  own_yields false = gives_alt signal_yields (gives_alt action_yields guard_yields)

  element_yields : (inside : Bool) → Yields G (element depth inside) HeadStands
  element_yields inside = gives_alt state_yields (gives_alt choice_yields (gives_alt initial_yields (own_yields inside)))

  -- ---- elements that nest, wherever they are laid out

  abbrev ElementStands : BehaviorElement → Type 0
  ElementStands e = Each G (places_in_element e)

  abbrev Told : List Token → Type 0
  Told w = Each (Begins G) w

  abbrev AllStand : NestedElements → Type 0
  AllStand es = (parent : Option ℕ) (n : ℕ) → Each ElementStands (elements_of parent es n)

  behind_stands : (spells_more : List Token → Type 0) (more : NestedElements) (lines : Lines) (w : List Token) → ((v : List Token) → spells_more v → Told v → AllStand more)
      → SpellsBehind spells_more more lines w → Told w → AllStand more
  behind_stands spells_more more lines w known (u, v, a, b, e, f, s, inl (g, h, i)) told = subst AllStand (sym i) (λ parent n. tt)
  behind_stands spells_more more lines w known (u, v, a, b, e, f, s, inr (t, r, z, g, m, h, i)) told =
      let all : Told (u ++ v) = subst Told e told in
      let later : Told (t ∷ (r ++ z)) = subst Told g (each_behind (Begins G) u v all) in
      known z i (each_behind (Begins G) r z later.1)

  nested_stand : (inside : Bool) (es : NestedElements) (w : List Token) → SpellsElements depth inside es w → Told w → AllStand es
  nested_stand inside none w s told parent n = tt
  nested_stand inside (without_body before e behind more) w (u, v, z, split, a, b, c) told parent n =
      let all : Told (u ++ (v ++ z)) = subst Told split told in
      let rest = each_behind (Begins G) u (v ++ z) all in
      let here = (element_yields inside).given v e b (each_before (Begins G) v z rest) in
      (here, behind_stands (SpellsElements depth inside more) more behind z (nested_stand inside more) c (each_behind (Begins G) v z rest) parent (n + 1))
  nested_stand inside (with_body before e inner behind more) w (u, v, y, z, l, r, split, a, b, k, i, j, c) told parent n =
      let all : Told (u ++ (v ++ l ∷ (y ++ r ∷ z))) = subst Told split told in
      let rest = each_behind (Begins G) u (v ++ l ∷ (y ++ r ∷ z)) all in
      let here = state_yields.given v e b (each_before (Begins G) v (l ∷ (y ++ r ∷ z)) rest) in
      let inside_on = (each_behind (Begins G) v (l ∷ (y ++ r ∷ z)) rest).1 in
      let nested = nested_stand true inner y i (each_before (Begins G) y (r ∷ z) inside_on) (Some n) (n + 1) in
      let later = (each_behind (Begins G) y (r ∷ z) inside_on).1 in
      (here, each_append ElementStands _ _ nested (behind_stands (SpellsElements depth inside more) more behind z (nested_stand inside more) c later parent ((n + 1) + size inner)))

  abbrev BehaviorStands : Behavior → Type 0
  BehaviorStands b = Each G (places_in_behavior b)

  rest_stands : LanguageGives (Begins G) (SpellsRest depth) BehaviorStands
  rest_stands w b (u, r, es, e, s, k, f) told =
      let all : Told (u ++ r ∷ []) = subst Told e told in
      subst BehaviorStands (sym f) (each_flat G places_in_element (elements_of None es 0) (nested_stand false es u s (each_before (Begins G) u (r ∷ []) all) None 0))

  body_yields : Yields G (body depth) BehaviorStands
  body_yields = gives_after k_open_brace (gives_ref _ rest_stands)

  -- ---- machines, in any annotation

  abbrev pub MachineStands : Machine → Type 0
  MachineStands m = (note : List ℕ) → Each G (places_of_model (machine_def (record m { note = note })))

  machine_stands : (p : Span × (Name × Option Behavior)) → G p.0.first × (Unit {0} × InOption BehaviorStands p.1.1) → MachineStands (made_machine p)
  machine_stands (word, (n, None)) h note = (h.0, tt)
  machine_stands (word, (n, Some b)) h note = (h.0, h.1.1)

  pub machine_yields : Yields G (machine depth) MachineStands
  machine_yields = gives_map MachineStands made_machine machine_stands
      (gives_seq (at_yields G k_state) (gives_after k_machine (gives_seq gives_anything (gives_optional body_yields))))
