-- The grammar of expressions measures how deep they nest, and what it gives nests no deeper than what is left allows.
use Rattle.std.proofs.Common.{◌≡◌, ℕ, zero, suc, ◌+◌, ◌<◌, ◌≤◌, max, true, List, [], ◌∷◌, ◌++◌, map, Option, Some, None, refl, sym, ap, ◌∙◌, arith}
use Rattle.std.proofs.lemmas.Bool.{ltb-true}
use Rattle.fp_base.specs.declared.place.Span.{Span}
use Rattle.fp_lexer.specs.declared.token.Word.{Word}
use Rattle.fp_lexer.specs.declared.token.Word.TheVariants as word
use Rattle.fp_lexer.specs.declared.token.Token.{Token}
use Rattle.fp_tree.specs.declared.expression.Form.TheVariants as form
use Rattle.fp_tree.specs.declared.expression.Operator.{Operator}
use Rattle.fp_grammar.specs.Grammar.{Grammar, Language}
use Rattle.fp_meaning.specs.Values.{deepest}
use Rattle.fp_parse_defs.specs.declared.measured.Measured.{Measured}
use Rattle.fp_parse_defs.specs.declared.measured.Setting.{Setting}
use Rattle.fp_parse_defs.specs.declared.measured.Items.{Items}
use Rattle.fp_parse_defs.specs.declared.measured.Assignments.{Assignments}
use Rattle.fp_parse_pieces.specs.Kinds.{kind, k_dot, k_times, k_over, k_plus, k_minus}
use Rattle.fp_parse_defs.specs.Words.{leaf, literal, literal_form, named}
use Rattle.fp_parse_pieces.specs.Lists.{commas}
use Rattle.fp_parse_defs.specs.Language.{Level, level, begins, combined, lower, factor_body, factor_of, term_body, term_of, expr_body, expr_of, made_minus, negated_of, made_group, group_of, with_item, no_items, items_of, made_array, array_of, made_setting, setting_of, with_member, no_members, or_no_members, members_of, made_struct, struct_of, inside_of, expression}
use Rattle.fp_base.proofs.Lists.{InOption}
use Rattle.fp_base.proofs.Numbers.{max_none}
use Rattle.fp_places.specs.Depths.{depth_of, depth_in_form, depth_in_assignment}
use Rattle.fp_places.proofs.Preserving.{Gives, LanguageGives, gives_anything, gives_map, gives_seq, gives_alt, gives_optional, gives_chain, gives_ref, gives_seal}
use Rattle.fp_places.proofs.Lists.{gives_some_of}
use Rattle.fp_places.proofs.SiteWalks.{whole_depth, assigned_depth, number_depth, float_depth, text_depth, truth_depth, use_depth, minus_depth, parentheses_depth, binary_depth, array_depth, struct_depth}
use Rattle.fp_places.proofs.Anything.{AnyToken}

-- the grammar gives nodes of which Q holds, whatever the tokens
abbrev pub Yields : {X : Type 0} → Grammar Token X → (X → Type 0) → Type 0
Yields g Q = Gives kind AnyToken g Q

deepest_more : {A : Type 0} (f : A → ℕ) (xs : List A) (x : A) → deepest (map f (xs ++ x ∷ [])) ≡ max (deepest (map f xs)) (f x)
deepest_more f [] x = max_none (f x)
deepest_more f (y ∷ xs) x =
    let rest = deepest_more f xs x in
    let same : max (f y) (deepest (map f (xs ++ x ∷ []))) ≡ max (max (f y) (deepest (map f xs))) (f x) = omega arith in
    same

greater : (a b c d : ℕ) → a ≡ c → b ≡ d → max a b ≡ max c d
greater a b c d h k = ap (λ (n : ℕ). max n b) h ∙ ap (λ (n : ℕ). max c n) k

max_below : (a b n : ℕ) → a < n → b < n → max a b < n
max_below a b n h k = omega arith

one_more : (a n : ℕ) → a < n → a + 1 < suc n
one_more a n h = omega arith

-- what nests as deep as was measured, and less deep than this
record Below (n : ℕ) (m : Measured) : Type 0 where
  counted : depth_of m.expr ≡ m.height
  below : m.height < n

of_form : (n : ℕ) (m : Measured) → depth_in_form m.expr.form ≡ m.height → m.height < n → Below n m
of_form n m e lt = record { counted = whole_depth m.expr ∙ e; below = lt }

literal_depth : (w : Word) → depth_in_form (literal_form w) ≡ 0
literal_depth (word.Number n) = number_depth n
literal_depth (word.Str text) = text_depth text
literal_depth (word.Reserved r) = truth_depth _
literal_depth _ = float_depth

literal_below : (n : ℕ) → Yields literal (Below (suc n))
literal_below n = gives_map (Below (suc n)) (λ t. leaf (literal_form t.what) t.at) (λ t h. of_form (suc n) (leaf (literal_form t.what) t.at) (literal_depth t.what) (omega arith)) gives_anything

named_below : (n : ℕ) → Yields named (Below (suc n))
named_below n = gives_map (Below (suc n)) (λ q. leaf (form.Use q) q.at) (λ q h. of_form (suc n) (leaf (form.Use q) q.at) (use_depth q) (omega arith)) gives_anything

-- a left operand becomes deeper at its operator, and the right one stands where one depth less is left
combined_below : (n : ℕ) (left : Measured) (p : Operator × Measured) → lower n left ≡ true → Below (suc n) left → Below n p.1 → Below (suc n) (combined left p)
combined_below n left p may h k =
    of_form (suc n) (combined left p) (binary_depth p.0 left.expr p.1.expr ∙ ap (λ (d : ℕ). d + 1) (greater _ _ _ _ h.counted k.counted))
    (one_more _ n (max_below left.height p.1.height n (ltb-true left.height n may) k.below))

-- of what a language gives
abbrev AllBelow : ℕ → Language Token Measured → Type 0
AllBelow n language = LanguageGives AnyToken language (Below n)

record LevelBelow (n : ℕ) (l : Level) : Type 0 where
  nested : AllBelow (suc n) l.nested
  factor : AllBelow n l.factor
  term : AllBelow n l.term

factor_below : (n : ℕ) (nested : Language Token Measured) → AllBelow (suc n) nested → Yields (factor_of nested) (Below (suc n))
factor_below n nested given = gives_seal {a = factor_body nested} begins (k_dot ∷ []) (gives_alt (literal_below n) (gives_alt (named_below n) (gives_ref _ given)))

term_below : (n : ℕ) (l : Level) → LevelBelow n l → Yields (term_of n l) (Below (suc n))
term_below n l h = gives_seal {a = term_body n l} begins (k_dot ∷ k_times ∷ k_over ∷ [])
    (gives_chain (lower n) combined (λ x p may m k. combined_below n x p may m k.1) (factor_below n l.nested h.nested) (gives_seq gives_anything (gives_ref _ h.factor)))

expr_below : (n : ℕ) (l : Level) → LevelBelow n l → Yields (expr_of n l) (Below (suc n))
expr_below n l h = gives_seal {a = expr_body n l} begins (k_dot ∷ k_times ∷ k_over ∷ k_plus ∷ k_minus ∷ [])
    (gives_chain (lower n) combined (λ x p may m k. combined_below n x p may m k.1) (term_below n l h) (gives_seq gives_anything (gives_ref _ h.term)))

minus_below : (n : ℕ) (p : Span × Measured) → Below n p.1 → Below (suc n) (made_minus p)
minus_below n p h = of_form (suc n) (made_minus p) (minus_depth p.1.expr ∙ ap (λ (d : ℕ). d + 1) h.counted) (one_more _ n h.below)

group_below : (n : ℕ) (p : Span × (Measured × Span)) → Below n p.1.0 → Below (suc n) (made_group p)
group_below n p h = of_form (suc n) (made_group p) (parentheses_depth p.1.0.expr ∙ ap (λ (d : ℕ). d + 1) h.counted) (one_more _ n h.below)

-- the same of rows
record ItemsBelow (n : ℕ) (items : Items) : Type 0 where
  counted : deepest (map depth_of items.row) ≡ items.height
  below : items.height < n

record AssignmentsBelow (n : ℕ) (members : Assignments) : Type 0 where
  counted : deepest (map depth_in_assignment members.row) ≡ members.height
  below : members.height < n

item_below : (n : ℕ) (items : Items) (x : Measured) (lines : List (List ℕ)) → ItemsBelow n items → Below n x → ItemsBelow n (with_item items x lines)
item_below n items x lines h k = record {
  counted = deepest_more depth_of items.row _ ∙ greater _ _ _ _ h.counted (whole_depth _ ∙ sym (whole_depth x.expr) ∙ k.counted);
  below = max_below items.height x.height n h.below k.below;
}

member_below : (n : ℕ) (members : Assignments) (s : Setting) (lines : List (List ℕ)) → AssignmentsBelow n members → Below n s.value → AssignmentsBelow n (with_member members s lines)
member_below n members s lines h k = record {
  counted = deepest_more depth_in_assignment members.row _ ∙ greater _ _ _ _ h.counted (assigned_depth _ ∙ k.counted);
  below = max_below members.height s.value.height n h.below k.below;
}

no_members_below : (n : ℕ) (o : Option Assignments) → InOption (AssignmentsBelow (suc n)) o → AssignmentsBelow (suc n) (or_no_members o)
no_members_below n None h = record { counted = refl; below = omega arith }
no_members_below n (Some members) h = h

array_below : (n : ℕ) (p : Span × (Items × Span)) → ItemsBelow n p.1.0 → Below (suc n) (made_array p)
array_below n p h = of_form (suc n) (made_array p) (array_depth p.1.0.row ∙ ap (λ (d : ℕ). d + 1) h.counted) (one_more _ n h.below)

struct_below : (n : ℕ) (p : Span × (Assignments × Span)) → AssignmentsBelow n p.1.0 → Below (suc n) (made_struct p)
struct_below n p h = of_form (suc n) (made_struct p) (struct_depth p.1.0.row ∙ ap (λ (d : ℕ). d + 1) h.counted) (one_more _ n h.below)

module _ (n : ℕ) (factor expr : Grammar Token Measured) (f : Yields factor (Below (suc n))) (e : Yields expr (Below (suc n))) where
  -- with this many levels left round both
  abbrev Nests : Measured → Type 0
  Nests m = Below (suc (suc n)) m

  negated_below : Yields (negated_of factor) Nests
  negated_below = gives_map Nests made_minus (λ p h. minus_below (suc n) p h.1) (gives_seq gives_anything f)

  group_nests : Yields (group_of expr) Nests
  group_nests = gives_map Nests made_group (λ p h. group_below (suc n) p h.1.0) (gives_seq gives_anything (gives_seq e gives_anything))

  items_below : Yields (items_of expr) (ItemsBelow (suc n))
  items_below = gives_some_of (Below (suc n)) (ItemsBelow (suc n)) with_item (item_below (suc n)) commas no_items (record { counted = refl; below = omega arith }) e

  array_nests : Yields (array_of expr) Nests
  array_nests = gives_map Nests made_array (λ p h. array_below (suc n) p h.1.0) (gives_seq gives_anything (gives_seq items_below gives_anything))

  setting_below : Yields (setting_of expr) (λ s. Below (suc n) s.value)
  setting_below = gives_map (λ s. Below (suc n) s.value) made_setting (λ p h. h.1.1) (gives_seq gives_anything (gives_seq gives_anything e))

  members_below : Yields (members_of expr) (AssignmentsBelow (suc n))
  members_below = gives_map (AssignmentsBelow (suc n)) or_no_members (no_members_below n)
      (gives_optional (gives_some_of (λ s. Below (suc n) s.value) (AssignmentsBelow (suc n)) with_member (member_below (suc n)) commas no_members (record { counted = refl; below = omega arith }) setting_below))

  struct_nests : Yields (struct_of expr) Nests
  struct_nests = gives_map Nests made_struct (λ p h. struct_below (suc n) p h.1.0) (gives_seq gives_anything (gives_seq members_below gives_anything))

  inside_nests : Yields (inside_of factor expr) Nests
  inside_nests = gives_alt negated_below (gives_alt group_nests (gives_alt array_nests struct_nests))

level_below : (depth : ℕ) → LevelBelow depth (level depth)
level_below zero = record { nested = λ w x s h. absurd s; factor = λ w x s h. absurd s; term = λ w x s h. absurd s }
level_below (suc depth) =
    let below = level_below depth in
    let factor = factor_below depth (level depth).nested below.nested in
    record {
      nested = (inside_nests depth (factor_of (level depth).nested) (expr_of depth (level depth)) factor (expr_below depth (level depth) below)).given;
      factor = factor.given;
      term = (term_below depth (level depth) below).given;
    }

within : (depth : ℕ) (m : Measured) → Below (suc depth) m → depth_of m.expr ≤ depth
within depth m h = omega (arith, h.counted, h.below)

pub expression_keeps : (depth : ℕ) → Yields (expression depth) (λ e. depth_of e ≤ depth)
expression_keeps depth = gives_map (λ e. depth_of e ≤ depth) (λ m. m.expr) (within depth) (expr_below depth (level depth) (level_below depth))
