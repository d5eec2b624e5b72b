-- The grammar of state machines gives such as have their elements in their order, and what they declare outside states.
use Rattle.std.proofs.Common.{◌≡◌, ℕ, Bool, true, false, List, [], ◌∷◌, ◌++◌, Option, Some, None, inl, inr, refl, subst, sym}
use Rattle.fp_base.specs.declared.place.Span.{Span}
use Rattle.fp_lexer.specs.declared.token.Token.{Token}
use Rattle.fp_tree.specs.declared.name.Name.{Name}
use Rattle.fp_tree.specs.declared.machine.Behavior.{Behavior}
use Rattle.fp_tree.specs.declared.machine.Do.{Do}
use Rattle.fp_tree.specs.declared.machine.ElementForm.TheVariants as form
use Rattle.fp_tree.specs.declared.machine.Goto.{Goto}
use Rattle.fp_tree.specs.declared.machine.Machine.{Machine}
use Rattle.fp_tree.specs.declared.machine.Transition.{Transition}
use Rattle.fp_base.proofs.Lists.{InOption, each_of_any}
use Rattle.fp_grammar.specs.Grammar.{Spells}
use Rattle.fp_meaning.specs.Sites.{machine as machine_def}
use Rattle.fp_parse_pieces.specs.Kinds.{kind, k_open_brace}
use Rattle.fp_parse_states.specs.declared.head.Head.{Head}
use Rattle.fp_parse_states.specs.Elements.{element, made_choice, made_entry, made_exit, made_initial, made_on, made_state, own, state_head}
use Rattle.fp_parse_states.specs.Nested.{NestedElements, Lines, SpellsBehind, SpellsElements, SpellsRest, body, elements_of, k_machine, made_machine, machine}
use Rattle.fp_parse_states.specs.Nested.NestedElements.{none, without_body, with_body}
use Rattle.fp_places.proofs.Preserving.{LanguageGives, gives_anything, gives_map, gives_seq, gives_alt, gives_optional, gives_ref, gives_after}
use Rattle.fp_places.proofs.Anything.{AnyToken}
use Rattle.fp_places.proofs.Depths.{Yields}
use Rattle.fp_machines.specs.Ordered.{AreWellPlaced}
use Rattle.fp_source_parts.specs.Ordered.{IsOrderedModel}
use Rattle.fp_source_laws.proofs.Preorder.{AllMayStand, IsStateForm, MayStand, may_stand, well_placed}

abbrev pub HasOrderedElements : Machine → Type 0
HasOrderedElements m = IsOrderedModel (machine_def m)

state_made : (v : List Token) (e : Head) → Spells kind state_head v e → IsStateForm e.form
state_made v e ((word, n), is, spelled) = subst (λ (h : Head). IsStateForm h.form) (sym is) tt

behind_stand : (inside : Bool) (spells_more : List Token → Type 0) (more : NestedElements) (lines : Lines) (w : List Token) → ((v : List Token) → spells_more v → AllMayStand inside more)
    → SpellsBehind spells_more more lines w → AllMayStand inside more
behind_stand inside spells_more more lines w known (u, v, a, b, e, f, s, inl (g, h, i)) = subst (AllMayStand inside) (sym i) tt
behind_stand inside spells_more more lines w known (u, v, a, b, e, f, s, inr (t, r, z, g, m, h, i)) = known z i

module _ (depth : ℕ) where
  -- ---- what may stand inside a state, and what outside alone

  abbrev HeadMayStand : Bool → Head → Type 0
  HeadMayStand inside e = MayStand inside e.form

  state_may : (inside : Bool) (p : Span × Name) → Unit {0} → HeadMayStand inside (made_state p)
  state_may inside (word, n) h = may_stand inside (form.State n) refl

  choice_may : (inside : Bool) (p : Span × (Name × (Name × (Goto × (Goto × Span))))) → Unit {0} → HeadMayStand inside (made_choice p)
  choice_may inside (word, (n, (held, (met, (unmet, closing))))) h = may_stand inside (made_choice (word, (n, (held, (met, (unmet, closing)))))).form refl

  initial_may : (inside : Bool) (p : Span × Goto) → Unit {0} → HeadMayStand inside (made_initial p)
  initial_may inside (word, g) h = may_stand inside (form.Initial g) refl

  on_may : (p : Span × (Name × (Option Name × Transition))) → Unit {0} → HeadMayStand true (made_on p)
  on_may (word, (n, (held, t))) h = refl

  entry_may : (p : Span × Do) → Unit {0} → HeadMayStand true (made_entry p)
  entry_may (word, d) h = refl

  exit_may : (p : Span × Do) → Unit {0} → HeadMayStand true (made_exit p)
  exit_may (word, d) h = refl

  own_yields : (inside : Bool) → Yields (own depth inside) (HeadMayStand inside)
  own_yields true =
      gives_alt (gives_map (HeadMayStand true) made_on on_may gives_anything)
      (gives_alt (gives_map (HeadMayStand true) made_entry entry_may gives_anything) (gives_map (HeadMayStand true) made_exit exit_may gives_anything))
  own_yields false = gives_anything

  element_yields : (inside : Bool) → Yields (element depth inside) (HeadMayStand inside)
  element_yields inside =
      gives_alt (gives_map (HeadMayStand inside) made_state (state_may inside) gives_anything)
      (gives_alt (gives_map (HeadMayStand inside) made_choice (choice_may inside) gives_anything)
      (gives_alt (gives_map (HeadMayStand inside) made_initial (initial_may inside) gives_anything) (own_yields inside)))

  nested_stand : (inside : Bool) (es : NestedElements) (w : List Token) → SpellsElements depth inside es w → AllMayStand inside es
  nested_stand inside none w s = tt
  nested_stand inside (without_body before e behind more) w (u, v, z, split, a, b, c) = (
    (element_yields inside).given v e b (each_of_any AnyToken (λ t. tt) v),
    behind_stand inside (SpellsElements depth inside more) more behind z (nested_stand inside more) c,
  )
  nested_stand inside (with_body before e inner behind more) w (u, v, y, z, l, r, split, a, b, k, i, j, c) =
      (state_made v e b, nested_stand true inner y i, behind_stand inside (SpellsElements depth inside more) more behind z (nested_stand inside more) c)

  -- ---- machines

  abbrev HasOrder : Behavior → Type 0
  HasOrder b = AreWellPlaced b.elements

  rest_ordered : LanguageGives AnyToken (SpellsRest depth) HasOrder
  rest_ordered w b (u, r, es, e, s, k, f) told =
      let may = nested_stand false es u s in
      subst HasOrder (sym f) (well_placed es may)

  body_yields : Yields (body depth) HasOrder
  body_yields = gives_after k_open_brace (gives_ref _ rest_ordered)

  -- in any annotation
  abbrev pub MachineOrdered : Machine → Type 0
  MachineOrdered m = (note : List ℕ) → HasOrderedElements (record m { note = note })

  machine_ordered : (p : Span × (Name × Option Behavior)) → Unit {0} × (Unit {0} × InOption HasOrder p.1.1) → MachineOrdered (made_machine p)
  machine_ordered (word, (n, None)) h note = well_placed none tt
  machine_ordered (word, (n, Some b)) h note = h.1.1

  pub machine_yields : Yields (machine depth) MachineOrdered
  machine_yields = gives_map MachineOrdered made_machine machine_ordered
      (gives_seq gives_anything (gives_after k_machine (gives_seq gives_anything (gives_optional body_yields))))
