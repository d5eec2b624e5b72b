-- What is found of an expression by its outermost production.
use Rattle.std.proofs.Common.{◌≡◌, ℕ, ◌+◌, ℤ, Bool, List, [], ◌∷◌, ◌++◌, length, slice_get, Option, Some, None, option_map, refl, sym, ap, subst, ◌∙◌, arith, length-append}
use Rattle.fp_base.specs.declared.place.Place.{Place}
use Rattle.fp_base.specs.declared.refusal.Refusal.{Refusal}
use Rattle.fp_base.specs.declared.rule.Rule.TheVariants.{FloatUsed}
use Rattle.fp_base.specs.declared.value.Value.{Value, Int, Bool as Truth, Text}
use Rattle.fp_tree.specs.declared.source.Source.{Source}
use Rattle.fp_tree.specs.declared.name.Qual.{Qual}
use Rattle.fp_tree.specs.declared.expression.Operator.{Operator}
use Rattle.fp_tree.specs.declared.expression.Expr.{Expr}
use Rattle.fp_tree.specs.declared.expression.Form.TheOpen as form
use Rattle.fp_meaning.specs.declared.group.Group.TheVariants as group
use Rattle.fp_meaning.specs.declared.names.Mention.{Mention}
use Rattle.fp_base.specs.Least.{Either, broken_at, lesser_of}
use Rattle.fp_meaning.specs.Names.{Path, mentioned, in_expression}
use Rattle.fp_meaning.specs.Values.{Opened, opened, Val, number, text, truth, enclosed, IsValue}
use Rattle.fp_meaning.specs.ConstantFaults.{BrokenHere, float}
use Rattle.fp_base.proofs.Calculus.{least_none, least_one, least_along, least_either}
use Rattle.fp_consts.specs.declared.measured.Measured.{Measured}
use Rattle.fp_consts.specs.declared.found.Examination.{Examination}
use Rattle.fp_consts.specs.Operands.{operand_of, KindFault, NegationFault}
use Rattle.fp_consts.specs.Examined.{AreGiven, IsFound, NextOf, UsesNext, MinusFound, BinaryFound, plain, leaf_of, value_at, AreMeasured}
use Rattle.fp_consts.proofs.Operators.{BinaryHere, negation_value, operation_value, minus_here, binary_here}
use Rattle.fp_consts.proofs.Wholes.{parts_none, parts_one, parts_two, broken_whole, unbroken}
use Rattle.fp_consts.proofs.Given.{use_value}
use Rattle.fp_consts.proofs.Measures.{some_measured, none_measured, number_measured, text_measured, truth_measured, numbers_measured, plain_numbers}

module _ (source : Source) (scope : Path) where
  of_number : {n : ℤ} (v : Value) → Val source scope (form.Number n) v → Some (Int n) ≡ Some v
  of_number v number = refl

  of_text : {t : List ℕ} (v : Value) → Val source scope (form.Text t) v → Some (Text t) ≡ Some v
  of_text v text = refl

  of_truth : {b : Bool} (v : Value) → Val source scope (form.Truth b) v → Some (Truth b) ≡ Some v
  of_truth v truth = refl

  -- the value of an opened expression is that of the expression
  value_at_form : (e : Expr) (s : Opened) (o q : Option Value) → opened e ≡ s → o ≡ q → IsValue source scope s o → IsValue source scope (opened e) q
  value_at_form e s o q is same value =
      subst (λ (x : Opened). IsValue source scope x q) (sym is) (subst (λ (x : Option Value). IsValue source scope s x) same value)

  simple_value : (s : Opened) (v : Value) → Val source scope s v → ((w : Value) → Val source scope s w → Some v ≡ Some w) → IsValue source scope s (Some v)
  simple_value s v h only = record {
    holds = λ w e. let same : v ≡ w = cc in subst (λ (x : Value). Val source scope s x) same h;
    only = only;
  }

  one_more : (from : ℕ) (uses : List Mention) → uses ≡ [] → from ≡ from + length uses
  one_more from uses e = let l : length uses ≡ 0 = ap length e in omega arith

  pub number_found : (e : Expr) (n : ℤ) (from : ℕ) → opened e ≡ form.Number n → in_expression scope e ≡ []
      → IsFound source scope e from (record { value = Some (leaf_of (Int n)); first = None; next = from })
  number_found e n from is uses = record {
    measured = some_measured (leaf_of (Int n)) (number_measured n);
    value = value_at_form e (form.Number n) (Some (Int n)) (Some (Int n)) is refl (simple_value (form.Number n) (Int n) number of_number);
    first = unbroken source scope e (form.Number n) is (λ f h. elim h [ ]) refl;
    next = one_more from (in_expression scope e) uses;
  }

  pub text_found : (e : Expr) (t : List ℕ) (from : ℕ) → opened e ≡ form.Text t → in_expression scope e ≡ []
      → IsFound source scope e from (record { value = Some (leaf_of (Text t)); first = None; next = from })
  text_found e t from is uses = record {
    measured = some_measured (leaf_of (Text t)) (text_measured t);
    value = value_at_form e (form.Text t) (Some (Text t)) (Some (Text t)) is refl (simple_value (form.Text t) (Text t) text of_text);
    first = unbroken source scope e (form.Text t) is (λ f h. elim h [ ]) refl;
    next = one_more from (in_expression scope e) uses;
  }

  pub truth_found : (e : Expr) (b : Bool) (from : ℕ) → opened e ≡ form.Truth b → in_expression scope e ≡ []
      → IsFound source scope e from (record { value = Some (leaf_of (Truth b)); first = None; next = from })
  truth_found e b from is uses = record {
    measured = some_measured (leaf_of (Truth b)) (truth_measured b);
    value = value_at_form e (form.Truth b) (Some (Truth b)) (Some (Truth b)) is refl (simple_value (form.Truth b) (Truth b) truth of_truth);
    first = unbroken source scope e (form.Truth b) is (λ f h. elim h [ ]) refl;
    next = one_more from (in_expression scope e) uses;
  }

  float_back : {place : Place} (f : Refusal) → BrokenHere source scope place form.Float f → f ≡ broken_at FloatUsed place
  float_back f float = refl

  float_here : {place : Place} (f : Refusal) → f ≡ broken_at FloatUsed place → BrokenHere source scope place form.Float f
  float_here {place = place} f e = subst (λ (g : Refusal). BrokenHere source scope place form.Float g) (sym e) float

  pub float_found : (e : Expr) (from : ℕ) → opened e ≡ form.Float → in_expression scope e ≡ []
      → IsFound source scope e from (record { value = None; first = Some (broken_at FloatUsed e.at.first); next = from })
  float_found e from is uses = record {
    measured = none_measured;
    value = value_at_form e form.Float None None is refl (record { holds = λ v e. cc; only = λ v h. elim h [ ] });
    first =
        broken_whole source scope e form.Float (λ f. f ≡ broken_at FloatUsed e.at.first) (Some (broken_at FloatUsed e.at.first)) None is float_here float_back
        (least_one (broken_at FloatUsed e.at.first)) (parts_none source scope);
    next = one_more from (in_expression scope e) uses;
  }

  use_found_at : (table : List (Option Measured)) (numbers : List ℕ) (e : Expr) (name : Qual) (from meant : ℕ) (found : Examination) → opened e ≡ form.Use name
      → in_expression scope e ≡ mentioned group.Value scope name ∷ []
      → AreGiven source table numbers (mentioned group.Value scope name ∷ []) from → slice_get numbers from ≡ Some meant
      → found ≡ record { value = value_at table meant; first = None; next = from + 1 } → IsFound source scope e from found
  use_found_at table numbers e name from meant found is uses given at f =
      let same : given.0.0 ≡ meant = cc in
      subst (λ (x : Examination). IsFound source scope e from x) (sym f)
      (subst (λ (k : ℕ). IsFound source scope e from (record { value = value_at table k; first = None; next = from + 1 })) same
      (record {
        measured = given.0.3.measured;
        value = value_at_form e (form.Use name) (plain (value_at table given.0.0)) (plain (value_at table given.0.0)) is refl (use_value source scope name given.0.0 given.0.2 (value_at table given.0.0) given.0.3);
        first = unbroken source scope e (form.Use name) is (λ f h. elim h [ ]) refl;
        next = ap (λ (ms : List Mention). from + length ms) (sym uses);
      }))

  pub use_found : (table : List (Option Measured)) (numbers : List ℕ) (e : Expr) (name : Qual) (from : ℕ) (found : Examination) → opened e ≡ form.Use name
      → in_expression scope e ≡ mentioned group.Value scope name ∷ []
      → AreGiven source table numbers (mentioned group.Value scope name ∷ []) from → UsesNext table numbers from found → IsFound source scope e from found
  use_found table numbers e name from found is uses given next = go (slice_get numbers from) refl next
    where
      go : (o : Option ℕ) → slice_get numbers from ≡ o → NextOf table o from found → IsFound source scope e from found
      go None at f = let here = given.0.1 in cc
      go (Some meant) at f = use_found_at table numbers e name from meant found is uses given at f

  pub minus_found : (e a : Expr) (from : ℕ) (operand found : Examination) → opened e ≡ form.Minus a → in_expression scope e ≡ in_expression scope a
      → IsFound source scope a from operand → MinusFound e.at.first a.at.first operand found → IsFound source scope e from found
  minus_found e a from operand found is uses f m =
      let here = minus_here {source = source} {scope = scope} {a = a} {place = e.at.first} (plain operand.value) f.value in
      record {
        measured = subst (λ (o : Option Measured). AreMeasured o) (sym m.value) (numbers_measured m.number);
        value =
            value_at_form e (form.Minus a) (option_map (λ n. Int n) m.number) (plain found.value) is (plain_numbers m.number ∙ ap plain (sym m.value))
            (negation_value (plain operand.value) m.number f.value m.is_number);
        first =
            least_along (sym m.first)
            (broken_whole source scope e (form.Minus a) (Either (NegationFault e.at.first (operand_of (plain operand.value))) (KindFault a.at.first (operand_of (plain operand.value)))) (lesser_of m.broken m.kind) operand.first is here.0 here.1
            (least_either m.broken m.kind m.is_broken m.is_kind) (parts_one source scope a operand.first f.first));
        next = m.next ∙ f.next ∙ ap (λ (ms : List Mention). from + length ms) (sym uses);
      }

  enclosed_value : {a : Expr} (v : Value) → Val source scope (form.Parentheses a) v → Val source scope (opened a) v
  enclosed_value v (enclosed h) = h

  -- parentheses have the value of what stands in them, and break nothing by themselves
  pub parentheses_found : (e a : Expr) (from : ℕ) (found : Examination) → opened e ≡ form.Parentheses a → in_expression scope e ≡ in_expression scope a
      → IsFound source scope a from found → IsFound source scope e from found
  parentheses_found e a from found is uses f = record {
    measured = f.measured;
    value =
        value_at_form e (form.Parentheses a) (plain found.value) (plain found.value) is refl
        (record { holds = λ v h. enclosed (f.value.holds v h); only = λ v h. f.value.only v (enclosed_value v h) });
    first =
        broken_whole source scope e (form.Parentheses a) (λ f. ⊥) None found.first is (λ f p. absurd p) (λ f h. elim h [ ]) (least_none (λ f p. p))
        (parts_one source scope a found.first f.first);
    next = f.next ∙ ap (λ (ms : List Mention). from + length ms) (sym uses);
  }

  pub binary_found : (e a b : Expr) (operator : Operator) (from : ℕ) (left right found : Examination) → opened e ≡ form.Binary operator a b
      → in_expression scope e ≡ in_expression scope a ++ in_expression scope b
      → IsFound source scope a from left → IsFound source scope b left.next right → BinaryFound e.at.first operator a.at.first b.at.first left right found
      → IsFound source scope e from found
  binary_found e a b operator from left right found is uses f g m =
      let here = binary_here {source = source} {scope = scope} {operator = operator} {a = a} {b = b} {place = e.at.first} (plain left.value) (plain right.value) f.value g.value in
      let long = length-append (in_expression scope a) (in_expression scope b) in
      let whole : length (in_expression scope e) ≡ length (in_expression scope a ++ in_expression scope b) = ap length uses in
      let first_next = f.next in let second_next = g.next in let last = m.next in
      record {
        measured = subst (λ (o : Option Measured). AreMeasured o) (sym m.value) (numbers_measured m.number);
        value =
            value_at_form e (form.Binary operator a b) (option_map (λ n. Int n) m.number) (plain found.value) is (plain_numbers m.number ∙ ap plain (sym m.value))
            (operation_value (plain left.value) (plain right.value) m.number f.value g.value m.is_number);
        first =
            least_along (sym m.first)
            (broken_whole source scope e (form.Binary operator a b) (BinaryHere e.at.first operator a b (plain left.value) (plain right.value)) (lesser_of m.broken (lesser_of m.left_kind m.right_kind)) (lesser_of left.first right.first) is here.0 here.1
            (least_either m.broken (lesser_of m.left_kind m.right_kind) m.is_broken (least_either m.left_kind m.right_kind m.is_left m.is_right))
            (parts_two source scope a b left.first right.first f.first g.first));
        next = omega arith;
      }
