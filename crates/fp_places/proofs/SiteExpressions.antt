-- The uses in an expression stand where tokens begin, and its names are names that tokens have.
use Rattle.std.proofs.Common.{◌≡◌, ℕ, zero, suc, List, [], ◌∷◌, flat_map, Option, Some, None, subst, sym}
use Rattle.std.specs.List.{AllByRecursion as Each}
use Rattle.fp_base.specs.declared.place.Place.{Place}
use Rattle.fp_base.specs.declared.place.Span.{Span}
use Rattle.fp_lexer.specs.declared.token.Word.{Word}
use Rattle.fp_lexer.specs.declared.token.Word.TheVariants as word
use Rattle.fp_lexer.specs.declared.token.Token.{Token}
use Rattle.fp_tree.specs.declared.name.Name.{Name}
use Rattle.fp_tree.specs.declared.name.Qual.{Qual}
use Rattle.fp_tree.specs.declared.expression.Assignment.{Assignment}
use Rattle.fp_tree.specs.declared.expression.Form.{Form}
use Rattle.fp_tree.specs.declared.expression.Expr.{Expr}
use Rattle.fp_tree.specs.declared.expression.Form.TheVariants as form
use Rattle.fp_tree.specs.declared.expression.Operator.{Operator}
use Rattle.fp_grammar.specs.Grammar.{Grammar, Language}
use Rattle.fp_meaning.specs.declared.names.Mention.{Mention}
use Rattle.fp_meaning.specs.Names.{Path, in_form, in_expression, in_assignment}
use Rattle.fp_meaning.proofs.UseWalks.{whole_uses, number_uses, float_uses, text_uses, truth_uses, use_uses, minus_uses, parentheses_uses, binary_uses, array_uses}
use Rattle.fp_parse_defs.specs.declared.measured.Measured.{Measured}
use Rattle.fp_parse_defs.specs.declared.measured.Setting.{Setting}
use Rattle.fp_parse_defs.specs.declared.measured.Items.{Items}
use Rattle.fp_parse_defs.specs.declared.measured.Assignments.{Assignments}
use Rattle.fp_parse_pieces.specs.Kinds.{k_open, k_close, k_open_bracket, k_close_bracket, k_open_brace, k_close_brace, k_dot, k_times, k_over, k_plus, k_minus, k_equals}
use Rattle.fp_parse_defs.specs.Words.{bare, leaf, literal, literal_form, named}
use Rattle.fp_parse_pieces.specs.Lists.{joined, commas}
use Rattle.fp_parse_defs.specs.Language.{Level, level, begins, combined, lower, factor_body, factor_of, term_body, term_of, expr_body, expr_of, made_minus, negated_of, made_group, group_of, with_item, no_items, items_of, made_array, array_of, made_setting, setting_of, with_member, no_members, or_no_members, members_of, made_struct, struct_of, inside_of, expression}
use Rattle.fp_base.proofs.Lists.{InOption, each_append, each_push, each_flat, each_weaker}
use Rattle.fp_places.specs.Parts.{names_in_expression, names_in_form, names_in_assignment}
use Rattle.fp_places.proofs.Preserving.{LanguageGives, gives_anything, gives_map, gives_seq, gives_alt, gives_optional, gives_chain, gives_ref, gives_seal}
use Rattle.fp_places.proofs.Lists.{gives_some_of}
use Rattle.fp_places.proofs.SiteWalks.{assigned_uses, whole_names, assigned_names, number_names, float_names, text_names, truth_names, use_names, minus_names, parentheses_names, binary_names, array_names, struct_names, struct_assigned}
use Rattle.fp_places.proofs.Words.{IsTold, Yields, SitedQual, at_yields, name_yields, qual_yields}

module _ (G : Place → Type 0) (N : Name → Type 0) where
  -- each of these uses stands at such a place
  abbrev pub Stand : List Mention → Type 0
  Stand ms = Each (λ (m : Mention). G m.place) ms

  -- the uses of something, in any scope, stand at such places, and its names are such names
  pub record Holds {A : Type 0} (found : Path → A → List Mention) (written : A → List Name) (x : A) : Type 0 where
    pub uses : (scope : Path) → Stand (found scope x)
    pub names : Each N (written x)

  abbrev pub StandIn : Expr → Type 0
  StandIn e = Holds in_expression names_in_expression e

  abbrev StandInForm : Form → Type 0
  StandInForm f = Holds in_form names_in_form f

  pub same_stand : (ms ns : List Mention) → ms ≡ ns → Stand ns → Stand ms
  same_stand ms ns e h = subst Stand (sym e) h

  pub same_names : (xs ys : List Name) → xs ≡ ys → Each N ys → Each N xs
  same_names xs ys e h = subst (Each N) (sym e) h

  -- what stands in each of a list stands in the whole
  flat_uses : {A : Type 0} (found : Path → A → List Mention) (written : A → List Name) (xs : List A) → Each (Holds found written) xs → (scope : Path) → Stand (flat_map (found scope) xs)
  flat_uses found written xs hs scope =
      each_flat (λ (m : Mention). G m.place) (found scope) xs (each_weaker (Holds found written) (λ x. Stand (found scope x)) (λ x h. h.uses scope) xs hs)

  flat_names : {A : Type 0} (found : Path → A → List Mention) (written : A → List Name) (xs : List A) → Each (Holds found written) xs → Each N (flat_map written xs)
  flat_names found written xs hs =
      each_flat N written xs (each_weaker (Holds found written) (λ x. Each N (written x)) (λ x h. h.names) xs hs)

  -- what stands in its form stands in an expression
  of_form : (e : Expr) → StandInForm e.form → StandIn e
  of_form e h = record { uses = λ scope. same_stand _ _ (whole_uses scope e) (h.uses scope); names = same_names _ _ (whole_names e) h.names }

  form_of : (e : Expr) → StandIn e → StandInForm e.form
  form_of e h = record { uses = λ scope. subst Stand (whole_uses scope e) (h.uses scope); names = subst (Each N) (whole_names e) h.names }

  nothing_in : (f : Form) → ((scope : Path) → in_form scope f ≡ []) → names_in_form f ≡ [] → StandInForm f
  nothing_in f d e = record { uses = λ scope. same_stand _ _ (d scope) tt; names = same_names _ _ e tt }

  literal_stands : (w : Word) → StandInForm (literal_form w)
  literal_stands (word.Number n) = nothing_in _ (λ scope. number_uses scope n) (number_names n)
  literal_stands (word.Str text) = nothing_in _ (λ scope. text_uses scope text) (text_names text)
  literal_stands (word.Reserved r) = nothing_in _ (λ scope. truth_uses scope _) (truth_names _)
  literal_stands _ = nothing_in _ (λ scope. float_uses scope) float_names

  literal_yields : Yields G N literal (λ m. StandIn m.expr)
  literal_yields = gives_map (λ m. StandIn m.expr) (λ t. leaf (literal_form t.what) t.at) (λ t h. of_form (bare (literal_form t.what) t.at) (literal_stands t.what)) gives_anything

  named_stands : (q : Qual) → SitedQual G N q → StandIn (leaf (form.Use q) q.at).expr
  named_stands q h = of_form (bare (form.Use q) q.at) (record { uses = λ scope. same_stand _ _ (use_uses scope q) (h.begins, tt); names = same_names _ _ (use_names q) h.named })

  named_yields : Yields G N named (λ m. StandIn m.expr)
  named_yields = gives_map (λ m. StandIn m.expr) (λ q. leaf (form.Use q) q.at) named_stands (qual_yields G N)

  -- of what a language gives
  abbrev StandsAll : Language Token Measured → Type 0
  StandsAll language = LanguageGives (IsTold G N) language (λ (m : Measured). StandIn m.expr)

  record LevelStands (l : Level) : Type 0 where
    nested : StandsAll l.nested
    factor : StandsAll l.factor
    term : StandsAll l.term

  combined_stands : (left : Measured) (p : Operator × Measured) → StandIn left.expr → StandIn p.1.expr → StandIn (combined left p).expr
  combined_stands left p h k = of_form (combined left p).expr (record {
    uses = λ scope. same_stand _ _ (binary_uses scope p.0 left.expr p.1.expr) (each_append _ _ _ (h.uses scope) (k.uses scope));
    names = same_names _ _ (binary_names p.0 left.expr p.1.expr) (each_append N _ _ h.names k.names);
  })

  factor_yields : (nested : Language Token Measured) → StandsAll nested → Yields G N (factor_of nested) (λ m. StandIn m.expr)
  factor_yields nested given = gives_seal {a = factor_body nested} begins (k_dot ∷ []) (gives_alt literal_yields (gives_alt named_yields (gives_ref _ given)))

  term_yields : (depth : ℕ) (l : Level) → LevelStands l → Yields G N (term_of depth l) (λ m. StandIn m.expr)
  term_yields depth l h = gives_seal {a = term_body depth l} begins (k_dot ∷ k_times ∷ k_over ∷ [])
      (gives_chain (lower depth) combined (λ x p may m n. combined_stands x p m n.1) (factor_yields l.nested h.nested) (gives_seq gives_anything (gives_ref _ h.factor)))

  expr_yields : (depth : ℕ) (l : Level) → LevelStands l → Yields G N (expr_of depth l) (λ m. StandIn m.expr)
  expr_yields depth l h = gives_seal {a = expr_body depth l} begins (k_dot ∷ k_times ∷ k_over ∷ k_plus ∷ k_minus ∷ [])
      (gives_chain (lower depth) combined (λ x p may m n. combined_stands x p m n.1) (term_yields depth l h) (gives_seq gives_anything (gives_ref _ h.term)))

  minus_stands : (p : Span × Measured) → StandIn p.1.expr → StandIn (made_minus p).expr
  minus_stands p h = of_form (made_minus p).expr (record { uses = λ scope. same_stand _ _ (minus_uses scope p.1.expr) (h.uses scope); names = same_names _ _ (minus_names p.1.expr) h.names })

  group_stands : (p : Span × (Measured × Span)) → StandIn p.1.0.expr → StandIn (made_group p).expr
  group_stands p h = of_form (made_group p).expr (record { uses = λ scope. same_stand _ _ (parentheses_uses scope p.1.0.expr) (h.uses scope); names = same_names _ _ (parentheses_names p.1.0.expr) h.names })

  array_stands : (p : Span × (Items × Span)) → Each StandIn p.1.0.row → StandIn (made_array p).expr
  array_stands p h = of_form (made_array p).expr (record { uses = λ scope. same_stand _ _ (array_uses scope p.1.0.row) (flat_uses _ _ p.1.0.row h scope); names = same_names _ _ (array_names p.1.0.row) (flat_names _ _ p.1.0.row h) })

  -- the uses in an assignment do
  abbrev StandInValue : Assignment → Type 0
  StandInValue a = Holds in_assignment names_in_assignment a

  struct_stands : (p : Span × (Assignments × Span)) → Each StandInValue p.1.0.row → StandIn (made_struct p).expr
  struct_stands p h = of_form (made_struct p).expr (record { uses = λ scope. same_stand _ _ (struct_assigned scope p.1.0.row) (flat_uses _ _ p.1.0.row h scope); names = same_names _ _ (struct_names p.1.0.row) (flat_names _ _ p.1.0.row h) })

  item_stands : (items : Items) (x : Measured) (lines : List (List ℕ)) → Each StandIn items.row → StandIn x.expr → Each StandIn (with_item items x lines).row
  item_stands items x lines h k = each_push StandIn items.row _ h (of_form (record { form = x.expr.form; at = x.expr.at; note = joined lines }) (form_of x.expr k))

  -- a setting's name and what it sets
  record Set (s : Setting) : Type 0 where
    name : N s.name
    value : StandIn s.value.expr

  member_stands : (members : Assignments) (s : Setting) (lines : List (List ℕ)) → Each StandInValue members.row → Set s → Each StandInValue (with_member members s lines).row
  member_stands members s lines h k =
      each_push StandInValue members.row _ h (record { uses = λ scope. same_stand _ _ (assigned_uses scope _) (k.value.uses scope); names = same_names _ _ (assigned_names _) (k.name, k.value.names) })

  no_members_stand : (o : Option Assignments) → InOption (λ (members : Assignments). Each StandInValue members.row) o → Each StandInValue (or_no_members o).row
  no_members_stand None h = tt
  no_members_stand (Some members) h = h

  module _ (factor expr : Grammar Token Measured) (f : Yields G N factor (λ m. StandIn m.expr)) (e : Yields G N expr (λ m. StandIn m.expr)) where
    negated_yields : Yields G N (negated_of factor) (λ m. StandIn m.expr)
    negated_yields = gives_map (λ m. StandIn m.expr) made_minus (λ p h. minus_stands p h.1) (gives_seq (at_yields G N k_minus) f)

    group_yields : Yields G N (group_of expr) (λ m. StandIn m.expr)
    group_yields = gives_map (λ m. StandIn m.expr) made_group (λ p h. group_stands p h.1.0) (gives_seq (at_yields G N k_open) (gives_seq e (at_yields G N k_close)))

    items_yield : Yields G N (items_of expr) (λ items. Each StandIn items.row)
    items_yield = gives_some_of (λ m. StandIn m.expr) (λ items. Each StandIn items.row) with_item item_stands commas no_items tt e

    array_yields : Yields G N (array_of expr) (λ m. StandIn m.expr)
    array_yields = gives_map (λ m. StandIn m.expr) made_array (λ p h. array_stands p h.1.0) (gives_seq (at_yields G N k_open_bracket) (gives_seq items_yield (at_yields G N k_close_bracket)))

    setting_yields : Yields G N (setting_of expr) Set
    setting_yields = gives_map Set made_setting (λ p h. record { name = h.0.named; value = h.1.1 }) (gives_seq (name_yields G N) (gives_seq (at_yields G N k_equals) e))

    members_yield : Yields G N (members_of expr) (λ members. Each StandInValue members.row)
    members_yield = gives_map (λ members. Each StandInValue members.row) or_no_members no_members_stand
        (gives_optional (gives_some_of Set (λ members. Each StandInValue members.row) with_member member_stands commas no_members tt setting_yields))

    struct_yields : Yields G N (struct_of expr) (λ m. StandIn m.expr)
    struct_yields = gives_map (λ m. StandIn m.expr) made_struct (λ p h. struct_stands p h.1.0) (gives_seq (at_yields G N k_open_brace) (gives_seq members_yield (at_yields G N k_close_brace)))

    inside_yields : Yields G N (inside_of factor expr) (λ m. StandIn m.expr)
    inside_yields = gives_alt negated_yields (gives_alt group_yields (gives_alt array_yields struct_yields))

  level_stands : (depth : ℕ) → LevelStands (level depth)
  level_stands zero = record { nested = λ w x s h. absurd s; factor = λ w x s h. absurd s; term = λ w x s h. absurd s }
  level_stands (suc depth) =
      let below = level_stands depth in
      let factor = factor_yields (level depth).nested below.nested in
      record {
        nested = (inside_yields (factor_of (level depth).nested) (expr_of depth (level depth)) factor (expr_yields depth (level depth) below)).given;
        factor = factor.given;
        term = (term_yields depth (level depth) below).given;
      }

  pub expression_yields : (depth : ℕ) → Yields G N (expression depth) StandIn
  expression_yields depth = gives_map StandIn (λ m. m.expr) (λ m h. h) (expr_yields depth (level depth) (level_stands depth))
