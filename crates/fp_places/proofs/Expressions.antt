-- The places in an expression are such where tokens begin.
use Rattle.std.proofs.Common.{◌≡◌, ℕ, zero, suc, List, [], ◌∷◌, Option, Some, None, subst, sym}
use Rattle.std.specs.List.{AllByRecursion as Each}
use Rattle.fp_base.specs.declared.place.Place.{Place}
use Rattle.fp_base.specs.declared.place.Span.{Span}
use Rattle.fp_lexer.specs.declared.token.Word.{Word}
use Rattle.fp_lexer.specs.declared.token.Word.TheVariants as word
use Rattle.fp_lexer.specs.declared.token.Token.{Token}
use Rattle.fp_tree.specs.declared.expression.Assignment.{Assignment}
use Rattle.fp_tree.specs.declared.expression.Form.{Form}
use Rattle.fp_tree.specs.declared.expression.Expr.{Expr}
use Rattle.fp_tree.specs.declared.expression.Form.TheVariants as form
use Rattle.fp_tree.specs.declared.expression.Operator.{Operator}
use Rattle.fp_grammar.specs.Grammar.{Grammar, Language}
use Rattle.fp_parse_defs.specs.declared.measured.Measured.{Measured}
use Rattle.fp_parse_defs.specs.declared.measured.Setting.{Setting}
use Rattle.fp_parse_defs.specs.declared.measured.Items.{Items}
use Rattle.fp_parse_defs.specs.declared.measured.Assignments.{Assignments}
use Rattle.fp_parse_pieces.specs.Kinds.{k_open, k_close, k_open_bracket, k_close_bracket, k_open_brace, k_close_brace, k_dot, k_times, k_over, k_plus, k_minus, k_equals, k_number, k_float, k_string, k_true, k_false}
use Rattle.fp_parse_defs.specs.Words.{bare, leaf, literal, literal_form, named}
use Rattle.fp_parse_pieces.specs.Lists.{joined, commas}
use Rattle.fp_parse_defs.specs.Language.{Level, level, begins, combined, lower, factor_body, factor_of, term_body, term_of, expr_body, expr_of, made_minus, negated_of, made_group, group_of, with_item, no_items, items_of, made_array, array_of, made_setting, setting_of, with_member, no_members, or_no_members, members_of, made_struct, struct_of, inside_of, expression}
use Rattle.fp_base.proofs.Lists.{InOption, each_append, each_push, each_flat}
use Rattle.fp_places.proofs.Preserving.{LanguageGives, gives_anything, gives_map, gives_seq, gives_alt, gives_optional, gives_chain, gives_ref, gives_seal}
use Rattle.fp_places.proofs.Lists.{gives_some_of}
use Rattle.fp_places.specs.Places.{places_in_expression, places_in_form, places_in_assignment}
use Rattle.fp_places.proofs.Tokens.{Begins, Yields, one_of_yields, at_yields, name_yields, qual_yields}
use Rattle.fp_places.proofs.Walks.{whole_places, assigned_places, number_places, float_places, text_places, truth_places, use_places, minus_places, parentheses_places, binary_places, array_places, struct_places}

module _ (G : Place → Type 0) where
  abbrev pub StandIn : Expr → Type 0
  StandIn e = Each G (places_in_expression e)

  abbrev StandInForm : Form → Type 0
  StandInForm f = Each G (places_in_form f)

  abbrev Stands : Measured → Type 0
  Stands m = StandIn m.expr

  same : (xs ys : List Place) → xs ≡ ys → Each G ys → Each G xs
  same xs ys e h = subst (Each G) (sym e) h

  of_form : (e : Expr) → G e.at.first → StandInForm e.form → StandIn e
  of_form e a h = same _ _ (whole_places e) (a, h)

  opened : (e : Expr) → StandIn e → G e.at.first × StandInForm e.form
  opened e h = let h' : Each G (e.at.first ∷ places_in_form e.form) = subst (Each G) (whole_places e) h in h'

  literal_stands : (w : Word) → StandInForm (literal_form w)
  literal_stands (word.Number n) = same _ _ (number_places n) tt
  literal_stands (word.Str text) = same _ _ (text_places text) tt
  literal_stands (word.Reserved r) = same _ _ (truth_places _) tt
  literal_stands _ = same _ _ float_places tt

  literal_yields : Yields G literal Stands
  literal_yields = gives_map Stands (λ t. leaf (literal_form t.what) t.at) (λ t h. of_form (bare (literal_form t.what) t.at) h (literal_stands t.what))
      (one_of_yields G (k_number ∷ k_float ∷ k_string ∷ k_true ∷ k_false ∷ []))

  named_yields : Yields G named Stands
  named_yields = gives_map Stands (λ q. leaf (form.Use q) q.at) (λ q h. of_form (bare (form.Use q) q.at) h (same _ _ (use_places q) tt)) (qual_yields G)

  -- of what a language gives
  abbrev StandsAll : Language Token Measured → Type 0
  StandsAll language = LanguageGives (Begins G) language Stands

  record LevelStands (l : Level) : Type 0 where
    nested : StandsAll l.nested
    factor : StandsAll l.factor
    term : StandsAll l.term

  combined_stands : (left : Measured) (p : Operator × Measured) → Stands left → Stands p.1 → Stands (combined left p)
  combined_stands left p h k =
      of_form (combined left p).expr (opened left.expr h).0 (same _ _ (binary_places p.0 left.expr p.1.expr) (each_append G _ _ h k))

  factor_yields : (nested : Language Token Measured) → StandsAll nested → Yields G (factor_of nested) Stands
  factor_yields nested given = gives_seal {a = factor_body nested} begins (k_dot ∷ []) (gives_alt literal_yields (gives_alt named_yields (gives_ref _ given)))

  term_yields : (depth : ℕ) (l : Level) → LevelStands l → Yields G (term_of depth l) Stands
  term_yields depth l h = gives_seal {a = term_body depth l} begins (k_dot ∷ k_times ∷ k_over ∷ [])
      (gives_chain (lower depth) combined (λ x p may m n. combined_stands x p m n.1) (factor_yields l.nested h.nested) (gives_seq gives_anything (gives_ref _ h.factor)))

  expr_yields : (depth : ℕ) (l : Level) → LevelStands l → Yields G (expr_of depth l) Stands
  expr_yields depth l h = gives_seal {a = expr_body depth l} begins (k_dot ∷ k_times ∷ k_over ∷ k_plus ∷ k_minus ∷ [])
      (gives_chain (lower depth) combined (λ x p may m n. combined_stands x p m n.1) (term_yields depth l h) (gives_seq gives_anything (gives_ref _ h.term)))

  minus_stands : (p : Span × Measured) → G p.0.first × Stands p.1 → Stands (made_minus p)
  minus_stands p h = of_form (made_minus p).expr h.0 (same _ _ (minus_places p.1.expr) h.1)

  group_stands : (p : Span × (Measured × Span)) → G p.0.first × (Stands p.1.0 × G p.1.1.first) → Stands (made_group p)
  group_stands p h = of_form (made_group p).expr h.0 (same _ _ (parentheses_places p.1.0.expr) h.1.0)

  array_stands : (p : Span × (Items × Span)) → G p.0.first × (Each StandIn p.1.0.row × G p.1.1.first) → Stands (made_array p)
  array_stands p h = of_form (made_array p).expr h.0 (same _ _ (array_places p.1.0.row) (each_flat G places_in_expression p.1.0.row h.1.0))

  abbrev StandInValue : Assignment → Type 0
  StandInValue a = Each G (places_in_assignment a)

  struct_stands : (p : Span × (Assignments × Span)) → G p.0.first × (Each StandInValue p.1.0.row × G p.1.1.first) → Stands (made_struct p)
  struct_stands p h = of_form (made_struct p).expr h.0 (same _ _ (struct_places p.1.0.row) (each_flat G places_in_assignment p.1.0.row h.1.0))

  item_stands : (items : Items) (x : Measured) (lines : List (List ℕ)) → Each StandIn items.row → Stands x → Each StandIn (with_item items x lines).row
  item_stands items x lines h k =
      let o = opened x.expr k in
      each_push StandIn items.row _ h (of_form (record { form = x.expr.form; at = x.expr.at; note = joined lines }) o.0 o.1)

  -- a setting's name and what it sets
  record Set (s : Setting) : Type 0 where
    name : G s.name.at.first
    value : Stands s.value

  member_stands : (members : Assignments) (s : Setting) (lines : List (List ℕ)) → Each StandInValue members.row → Set s → Each StandInValue (with_member members s lines).row
  member_stands members s lines h k = each_push StandInValue members.row _ h (same _ _ (assigned_places _) (k.name, k.value))

  no_members_stand : (o : Option Assignments) → InOption (λ (members : Assignments). Each StandInValue members.row) o → Each StandInValue (or_no_members o).row
  no_members_stand None h = tt
  no_members_stand (Some members) h = h

  module _ (factor expr : Grammar Token Measured) (f : Yields G factor Stands) (e : Yields G expr Stands) where
    negated_yields : Yields G (negated_of factor) Stands
    negated_yields = gives_map Stands made_minus minus_stands (gives_seq (at_yields G k_minus) f)

    group_yields : Yields G (group_of expr) Stands
    group_yields = gives_map Stands made_group group_stands (gives_seq (at_yields G k_open) (gives_seq e (at_yields G k_close)))

    items_yield : Yields G (items_of expr) (λ items. Each StandIn items.row)
    items_yield = gives_some_of Stands (λ items. Each StandIn items.row) with_item item_stands commas no_items tt e

    array_yields : Yields G (array_of expr) Stands
    array_yields = gives_map Stands made_array array_stands (gives_seq (at_yields G k_open_bracket) (gives_seq items_yield (at_yields G k_close_bracket)))

    setting_yields : Yields G (setting_of expr) Set
    setting_yields = gives_map Set made_setting (λ p h. record { name = h.0; value = h.1.1 }) (gives_seq (name_yields G) (gives_seq (at_yields G k_equals) e))

    members_yield : Yields G (members_of expr) (λ members. Each StandInValue members.row)
    members_yield = gives_map (λ members. Each StandInValue members.row) or_no_members no_members_stand
        (gives_optional (gives_some_of Set (λ members. Each StandInValue members.row) with_member member_stands commas no_members tt setting_yields))

    struct_yields : Yields G (struct_of expr) Stands
    struct_yields = gives_map Stands made_struct struct_stands (gives_seq (at_yields G k_open_brace) (gives_seq members_yield (at_yields G k_close_brace)))

    inside_yields : Yields G (inside_of factor expr) Stands
    inside_yields = gives_alt negated_yields (gives_alt group_yields (gives_alt array_yields struct_yields))

  level_stands : (depth : ℕ) → LevelStands (level depth)
  level_stands zero = record { nested = λ w x s h. absurd s; factor = λ w x s h. absurd s; term = λ w x s h. absurd s }
  level_stands (suc depth) =
      let below = level_stands depth in
      let factor = factor_yields (level depth).nested below.nested in
      record {
        nested = (inside_yields (factor_of (level depth).nested) (expr_of depth (level depth)) factor (expr_yields depth (level depth) below)).given;
        factor = factor.given;
        term = (term_yields depth (level depth) below).given;
      }

  pub expression_yields : (depth : ℕ) → Yields G (expression depth) StandIn
  expression_yields depth = gives_map StandIn (λ m. m.expr) (λ m h. h) (expr_yields depth (level depth) (level_stands depth))
