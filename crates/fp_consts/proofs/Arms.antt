-- What is found of an expression, by the form that stands in the tree.
use Rattle.std.proofs.Common.{◌≡◌, ℕ, ◌+◌, ℤ, Bool, List, [], ◌∷◌, ◌++◌, length, flat_map, slice_get, take, Option, Some, None, true, ◌≤◌, sym, ap, subst, ◌∙◌}
use Rattle.std.proofs.lemmas.List.{take_all}
use Rattle.fp_base.specs.declared.rule.Rule.TheVariants.{FloatUsed}
use Rattle.fp_base.specs.declared.value.Value.{Int, Bool as Truly, Text as Words, Array as Listed, Struct as Structured}
use Rattle.fp_base.specs.declared.place.Place.{Place}
use Rattle.fp_tree.specs.declared.source.Source.{Source}
use Rattle.fp_tree.specs.declared.name.Qual.{Qual}
use Rattle.fp_tree.specs.declared.expression.Operator.{Operator}
use Rattle.fp_tree.specs.declared.expression.Expr.{Expr}
use Rattle.fp_tree.specs.declared.expression.Assignment.{Assignment}
use Rattle.fp_tree.specs.declared.expression.Form.{Form}
use Rattle.fp_tree.specs.declared.expression.Form.TheOpen as form
use Rattle.fp_tree.specs.declared.expression.Form.TheVariants.{Number, rolls-Number, Float, rolls-Float, Text, rolls-Text, Truth, rolls-Truth, Use, rolls-Use, Minus, rolls-Minus, Parentheses, rolls-Parentheses, Binary, rolls-Binary, Array, rolls-Array, Struct, rolls-Struct}
use Rattle.fp_meaning.specs.declared.group.Group.TheVariants as group
use Rattle.fp_meaning.specs.declared.names.Mention.{Mention}
use Rattle.fp_base.specs.Least.{broken_at}
use Rattle.fp_meaning.specs.Names.{Path, mentioned, in_form, in_expression}
use Rattle.fp_meaning.specs.Values.{parts_with, values_in}
use Rattle.fp_meaning.proofs.Opened.{opened_by}
use Rattle.fp_meaning.proofs.UseWalks.{whole_uses, number_uses, float_uses, text_uses, truth_uses, use_uses, minus_uses, parentheses_uses, binary_uses, array_uses, struct_uses}
use Rattle.fp_consts.specs.declared.measured.Measured.{Measured}
use Rattle.fp_consts.specs.declared.found.Examination.{Examination}
use Rattle.fp_consts.specs.declared.gathered.Gathered.{Gathered}
use Rattle.fp_consts.specs.declared.gathered.Whole.{Whole}
use Rattle.fp_consts.specs.Examined.{AreGiven, IsFound, IsGathered, IsNext, IsSized, UsesNext, MinusFound, BinaryFound, leaf_of, found_of, Examines, ExaminesAll, ExaminesForm}
use Rattle.fp_consts.proofs.Given.{given_split}
use Rattle.fp_consts.proofs.Produced.{number_found, text_found, truth_found, float_found, use_found, minus_found, parentheses_found, binary_found}
use Rattle.fp_consts.proofs.Gathering.{gathered_none, gathered_step}
use Rattle.fp_consts.proofs.Sized.{array_whole, struct_whole, whole_found}

pub uses_by : (scope : Path) (e : Expr) (f : Form) (uses : List Mention) → e.form ≡ f → in_form scope f ≡ uses → in_expression scope e ≡ uses
uses_by scope e f uses is walk = whole_uses scope e ∙ ap (in_form scope) is ∙ walk

module _ (table : List (Option Measured)) (numbers : List ℕ) (e : Expr) (from : ℕ) where
  pub number_arm : (n m : ℤ) (found : Examination) → e.form ≡ Number n → m ≡ n → found ≡ record { value = Some (leaf_of (Int m)); first = None; next = from }
      → Examines table numbers e from found
  number_arm n m found is same f source scope given =
      subst (λ (x : Examination). IsFound source scope e from x) (sym (f ∙ ap (λ (k : ℤ). record { value = Some (leaf_of (Int k)); first = None; next = from }) same))
      (number_found source scope e n from (opened_by e (Number n) (form.Number n) is (sym (rolls-Number n))) (uses_by scope e (Number n) [] is (number_uses scope n)))

  pub text_arm : (t : List ℕ) (found : Examination) → e.form ≡ Text t → found ≡ record { value = Some (leaf_of (Words t)); first = None; next = from }
      → Examines table numbers e from found
  text_arm t found is f source scope given =
      subst (λ (x : Examination). IsFound source scope e from x) (sym f)
      (text_found source scope e t from (opened_by e (Text t) (form.Text t) is (sym (rolls-Text t))) (uses_by scope e (Text t) [] is (text_uses scope t)))

  pub truth_arm : (b : Bool) (found : Examination) → e.form ≡ Truth b → found ≡ record { value = Some (leaf_of (Truly b)); first = None; next = from }
      → Examines table numbers e from found
  truth_arm b found is f source scope given =
      subst (λ (x : Examination). IsFound source scope e from x) (sym f)
      (truth_found source scope e b from (opened_by e (Truth b) (form.Truth b) is (sym (rolls-Truth b))) (uses_by scope e (Truth b) [] is (truth_uses scope b)))

  pub float_arm : (found : Examination) → e.form ≡ Float → found ≡ record { value = None; first = Some (broken_at FloatUsed e.at.first); next = from }
      → Examines table numbers e from found
  float_arm found is f source scope given =
      subst (λ (x : Examination). IsFound source scope e from x) (sym f)
      (float_found source scope e from (opened_by e Float form.Float is (sym rolls-Float)) (uses_by scope e Float [] is (float_uses scope)))

  same_given : (source : Source) {xs ys : List Mention} → xs ≡ ys → AreGiven source table numbers xs from → AreGiven source table numbers ys from
  same_given source same given = subst (λ (ms : List Mention). AreGiven source table numbers ms from) same given

  pub use_arm : (name : Qual) (found : Examination) → e.form ≡ Use name → UsesNext table numbers from found → Examines table numbers e from found
  use_arm name found is f source scope given =
      let uses = uses_by scope e (Use name) (mentioned group.Value scope name ∷ []) is (use_uses scope name) in
      use_found source scope table numbers e name from found (opened_by e (Use name) (form.Use name) is (sym (rolls-Use name))) uses (same_given source uses given) f

  pub minus_arm : (a : Expr) (operand found : Examination) → e.form ≡ Minus a → Examines table numbers a from operand
      → MinusFound e.at.first a.at.first operand found → Examines table numbers e from found
  minus_arm a operand found is inner f source scope given =
      let uses = uses_by scope e (Minus a) (in_expression scope a) is (minus_uses scope a) in
      minus_found source scope e a from operand found (opened_by e (Minus a) (form.Minus a) is (sym (rolls-Minus a))) uses (inner source scope (same_given source uses given)) f

  pub parentheses_arm : (a : Expr) (found : Examination) → e.form ≡ Parentheses a → Examines table numbers a from found → Examines table numbers e from found
  parentheses_arm a found is inner source scope given =
      let uses = uses_by scope e (Parentheses a) (in_expression scope a) is (parentheses_uses scope a) in
      parentheses_found source scope e a from found (opened_by e (Parentheses a) (form.Parentheses a) is (sym (rolls-Parentheses a))) uses
      (inner source scope (same_given source uses given))

  pub binary_arm : (operator : Operator) (a b : Expr) (left right found : Examination) → e.form ≡ Binary operator a b → Examines table numbers a from left
      → Examines table numbers b left.next right → BinaryFound e.at.first operator a.at.first b.at.first left right found → Examines table numbers e from found
  binary_arm operator a b left right found is one other f source scope given =
      let uses = uses_by scope e (Binary operator a b) (in_expression scope a ++ in_expression scope b) is (binary_uses scope operator a b) in
      let parts = given_split source table numbers (in_expression scope a) (in_expression scope b) from (same_given source uses given) in
      let first = one source scope parts.0 in
      let second = other source scope (subst (λ (n : ℕ). AreGiven source table numbers (in_expression scope b) n) (sym first.next) parts.1) in
      binary_found source scope e a b operator from left right found (opened_by e (Binary operator a b) (form.Binary operator a b) is (sym (rolls-Binary operator a b))) uses first second f

  pub array_arm : (items : List Expr) (g : Gathered) (whole : Whole) (found : Examination) → e.form ≡ Array items → ExaminesAll table numbers items from g
      → IsSized e.at.first g whole → found ≡ found_of Listed whole → Examines table numbers e from found
  array_arm items g whole found is all sized f source scope given =
      let uses = uses_by scope e (Array items) (flat_map (in_expression scope) items) is (array_uses scope items) in
      subst (λ (x : Examination). IsFound source scope e from x) (sym f)
      (whole_found source scope items Listed e (form.Array items) (array_whole source scope items) (opened_by e (Array items) (form.Array items) is (sym (rolls-Array items))) from g whole uses
      (all source scope (same_given source uses given)) sized)

  pub struct_arm : (members : List Assignment) (g : Gathered) (whole : Whole) (found : Examination) → e.form ≡ Struct members → ExaminesAll table numbers (values_in members) from g
      → IsSized e.at.first g whole → found ≡ found_of (λ vs. Structured (parts_with members vs)) whole → Examines table numbers e from found
  struct_arm members g whole found is all sized f source scope given =
      let uses = uses_by scope e (Struct members) (flat_map (in_expression scope) (values_in members)) is (struct_uses scope members) in
      subst (λ (x : Examination). IsFound source scope e from x) (sym f)
      (whole_found source scope (values_in members) (λ vs. Structured (parts_with members vs)) e (form.Struct members) (struct_whole source scope members) (opened_by e (Struct members) (form.Struct members) is (sym (rolls-Struct members))) from g whole uses
      (all source scope (same_given source uses given)) sized)

module _ (table : List (Option Measured)) (numbers : List ℕ) (place : Place) (from : ℕ) where
  pub list_made : (items : List Expr) (g : Gathered) (whole : Whole) (found : Examination) → ExaminesAll table numbers items from g
      → IsSized place g whole → found ≡ found_of Listed whole → ExaminesForm table numbers (Array items) place from found
  list_made items g whole found all sized f e is at =
      array_arm table numbers e from items g whole found is all (subst (λ (p : Place). IsSized p g whole) (sym at) sized) f

  pub struct_made : (members : List Assignment) (g : Gathered) (whole : Whole) (found : Examination)
      → ExaminesAll table numbers (values_in members) from g → IsSized place g whole
      → found ≡ found_of (λ vs. Structured (parts_with members vs)) whole → ExaminesForm table numbers (Struct members) place from found
  struct_made members g whole found all sized f e is at =
      struct_arm table numbers e from members g whole found is all (subst (λ (p : Place). IsSized p g whole) (sym at) sized) f

-- so many of the expressions were examined
abbrev pub Gathers : List (Option Measured) → List ℕ → List Expr → ℕ → ℕ → Gathered → Type 0
Gathers table numbers es k from g =
    (source : Source) (scope : Path) → AreGiven source table numbers (flat_map (in_expression scope) es) from → IsGathered source scope (take k es) from g

module _ (table : List (Option Measured)) (numbers : List ℕ) (es : List Expr) (from : ℕ) where
  pub gathers_none : (g : Gathered) → g ≡ record { complete = true; values = []; leaves = 0; levels = 0; first = None; next = from } → Gathers table numbers es 0 from g
  gathers_none g is source scope given = subst (λ (x : Gathered). IsGathered source scope [] from x) (sym is) (gathered_none source scope from)

  pub gathers_next : (k : ℕ) (e : Expr) (g : Gathered) (found : Examination) (h : Gathered) → slice_get es k ≡ Some e → Gathers table numbers es k from g
      → Examines table numbers e g.next found → IsNext g found h → Gathers table numbers es (k + 1) from h
  gathers_next k e g found h at before examined next source scope given =
      gathered_step source scope table numbers es k e from g found h at (before source scope) (examined source scope) next given

  pub gathers_all : (k : ℕ) (g : Gathered) → length es ≤ k → Gathers table numbers es k from g → ExaminesAll table numbers es from g
  gathers_all k g past before source scope given = subst (λ (xs : List Expr). IsGathered source scope xs from g) (take_all k es past) (before source scope given)
