-- The uses and the names in an expression by its outermost production, how deep it nests, and what else stands in a member by its form.
use Rattle.std.proofs.Common.{◌≡◌, ℤ, ℕ, ◌+◌, max, Bool, List, [], ◌∷◌, ◌++◌, map, flat_map, sym, ap, ◌∙◌}
use Rattle.std.proofs.lemmas.List.Folds.{flat_map-map}
use Rattle.fp_tree.specs.declared.definition.Def.{Def}
use Rattle.fp_tree.specs.declared.name.Name.{Name}
use Rattle.fp_tree.specs.declared.name.Qual.{Qual}
use Rattle.fp_tree.specs.declared.expression.Operator.{Operator}
use Rattle.fp_tree.specs.declared.expression.Expr.{Expr, Expr-F, fold-Expr, fold_out-Expr}
use Rattle.fp_tree.specs.declared.expression.Assignment.{Assignment, Assignment-F, fold-Assignment, fold_out-Assignment}
use Rattle.fp_tree.specs.declared.expression.Form.{Form-F, fold-Form, fold-roll-Form}
use Rattle.fp_tree.specs.declared.expression.Form.TheOpen as form
use Rattle.fp_tree.specs.declared.expression.Form.TheVariants.{Number, rolls-Number, Float, rolls-Float, Text, rolls-Text, Truth, rolls-Truth, Use, rolls-Use, Minus, rolls-Minus, Parentheses, rolls-Parentheses, Binary, rolls-Binary, Array, rolls-Array, Struct, rolls-Struct}
use Rattle.fp_tree.specs.declared.member.Include.{Include as Included}
use Rattle.fp_tree.specs.declared.member.Locate.{Locate as Located}
use Rattle.fp_tree.specs.declared.member.Module.{Module as Opened, out-Module, fold_out-Module}
use Rattle.fp_tree.specs.declared.member.Member.{fold-roll-Member}
use Rattle.fp_tree.specs.declared.member.Member.TheOpen as member
use Rattle.fp_tree.specs.declared.member.Member.TheVariants as node
use Rattle.fp_meaning.specs.declared.group.Group.TheVariants as group
use Rattle.fp_meaning.specs.declared.names.Mention.{Mention}
use Rattle.fp_meaning.specs.Names.{Path, form_step, assignment_step, expression_step, in_form, in_expression, in_assignment}
use Rattle.fp_meaning.specs.Values.{deepest}
use Rattle.fp_places.specs.Depths.{depth_of_form, depth_of_assignment, depth_of_expression, depth_of, depth_in_form, depth_in_assignment, modules_of_member, modules_of_module, modules_within, modules_in}
use Rattle.fp_places.specs.Parts.{names_of_form, names_of_assignment, names_of_expression, names_in_expression, names_in_form, names_in_assignment, names_in_definition}
use Rattle.fp_places.specs.Names.{names_of_member, names_of_module, names_within, names_in}
use Rattle.fp_places.specs.Includes.{includes_of_member, includes_of_module, includes_within, includes_in}

-- what a fold gives, by the outermost production
module _ {B : Type 0} (f : Form-F B B B → B) (a : Assignment-F B B B → B) (e : Expr-F B B B → B) where
  number_walk : (n : ℤ) → fold-Form B B B f a e (Number n) ≡ f (form.Number n)
  number_walk n = ap (fold-Form B B B f a e) (sym (rolls-Number n)) ∙ fold-roll-Form B B B f a e (form.Number n)

  float_walk : fold-Form B B B f a e Float ≡ f form.Float
  float_walk = ap (fold-Form B B B f a e) (sym rolls-Float) ∙ fold-roll-Form B B B f a e form.Float

  text_walk : (t : List ℕ) → fold-Form B B B f a e (Text t) ≡ f (form.Text t)
  text_walk t = ap (fold-Form B B B f a e) (sym (rolls-Text t)) ∙ fold-roll-Form B B B f a e (form.Text t)

  truth_walk : (b : Bool) → fold-Form B B B f a e (Truth b) ≡ f (form.Truth b)
  truth_walk b = ap (fold-Form B B B f a e) (sym (rolls-Truth b)) ∙ fold-roll-Form B B B f a e (form.Truth b)

  use_walk : (q : Qual) → fold-Form B B B f a e (Use q) ≡ f (form.Use q)
  use_walk q = ap (fold-Form B B B f a e) (sym (rolls-Use q)) ∙ fold-roll-Form B B B f a e (form.Use q)

  minus_walk : (x : Expr) → fold-Form B B B f a e (Minus x) ≡ f (form.Minus (fold-Expr B B B f a e x))
  minus_walk x = ap (fold-Form B B B f a e) (sym (rolls-Minus x)) ∙ fold-roll-Form B B B f a e (form.Minus x)

  parentheses_walk : (x : Expr) → fold-Form B B B f a e (Parentheses x) ≡ f (form.Parentheses (fold-Expr B B B f a e x))
  parentheses_walk x = ap (fold-Form B B B f a e) (sym (rolls-Parentheses x)) ∙ fold-roll-Form B B B f a e (form.Parentheses x)

  binary_walk : (operator : Operator) (x y : Expr) → fold-Form B B B f a e (Binary operator x y) ≡ f (form.Binary operator (fold-Expr B B B f a e x) (fold-Expr B B B f a e y))
  binary_walk operator x y = ap (fold-Form B B B f a e) (sym (rolls-Binary operator x y)) ∙ fold-roll-Form B B B f a e (form.Binary operator x y)

  array_walk : (items : List Expr) → fold-Form B B B f a e (Array items) ≡ f (form.Array (map (fold-Expr B B B f a e) items))
  array_walk items = ap (fold-Form B B B f a e) (sym (rolls-Array items)) ∙ fold-roll-Form B B B f a e (form.Array items)

  struct_walk : (members : List Assignment) → fold-Form B B B f a e (Struct members) ≡ f (form.Struct (map (fold-Assignment B B B f a e) members))
  struct_walk members = ap (fold-Form B B B f a e) (sym (rolls-Struct members)) ∙ fold-roll-Form B B B f a e (form.Struct members)

module _ (scope : Path) where
  pub assigned_uses : (a : Assignment) → in_assignment scope a ≡ in_expression scope a.value
  assigned_uses a = fold_out-Assignment (List Mention) (List Mention) (List Mention) (form_step scope) (assignment_step scope) (expression_step scope) a

  pub struct_assigned : (members : List Assignment) → in_form scope (Struct members) ≡ flat_map (in_assignment scope) members
  struct_assigned members = struct_walk (form_step scope) (assignment_step scope) (expression_step scope) members ∙ flat_map-map (λ (uses : List Mention). uses) (in_assignment scope) members

-- the names in an expression
pub whole_names : (e : Expr) → names_in_expression e ≡ names_in_form e.form
whole_names e = fold_out-Expr (List Name) (List Name) (List Name) names_of_form names_of_assignment names_of_expression e

pub assigned_names : (a : Assignment) → names_in_assignment a ≡ a.name ∷ names_in_expression a.value
assigned_names a = fold_out-Assignment (List Name) (List Name) (List Name) names_of_form names_of_assignment names_of_expression a

pub number_names : (n : ℤ) → names_in_form (Number n) ≡ []
number_names n = number_walk names_of_form names_of_assignment names_of_expression n

pub float_names : names_in_form Float ≡ []
float_names = float_walk names_of_form names_of_assignment names_of_expression

pub text_names : (t : List ℕ) → names_in_form (Text t) ≡ []
text_names t = text_walk names_of_form names_of_assignment names_of_expression t

pub truth_names : (b : Bool) → names_in_form (Truth b) ≡ []
truth_names b = truth_walk names_of_form names_of_assignment names_of_expression b

pub use_names : (q : Qual) → names_in_form (Use q) ≡ q.names
use_names q = use_walk names_of_form names_of_assignment names_of_expression q

pub minus_names : (a : Expr) → names_in_form (Minus a) ≡ names_in_expression a
minus_names a = minus_walk names_of_form names_of_assignment names_of_expression a

pub parentheses_names : (a : Expr) → names_in_form (Parentheses a) ≡ names_in_expression a
parentheses_names a = parentheses_walk names_of_form names_of_assignment names_of_expression a

pub binary_names : (operator : Operator) (a b : Expr) → names_in_form (Binary operator a b) ≡ names_in_expression a ++ names_in_expression b
binary_names operator a b = binary_walk names_of_form names_of_assignment names_of_expression operator a b

pub array_names : (items : List Expr) → names_in_form (Array items) ≡ flat_map names_in_expression items
array_names items = array_walk names_of_form names_of_assignment names_of_expression items ∙ flat_map-map (λ (names : List Name). names) names_in_expression items

pub struct_names : (members : List Assignment) → names_in_form (Struct members) ≡ flat_map names_in_assignment members
struct_names members = struct_walk names_of_form names_of_assignment names_of_expression members ∙ flat_map-map (λ (names : List Name). names) names_in_assignment members

-- how deep an expression nests
pub whole_depth : (e : Expr) → depth_of e ≡ depth_in_form e.form
whole_depth e = fold_out-Expr ℕ ℕ ℕ depth_of_form depth_of_assignment depth_of_expression e

pub assigned_depth : (a : Assignment) → depth_in_assignment a ≡ depth_of a.value
assigned_depth a = fold_out-Assignment ℕ ℕ ℕ depth_of_form depth_of_assignment depth_of_expression a

pub number_depth : (n : ℤ) → depth_in_form (Number n) ≡ 0
number_depth n = number_walk depth_of_form depth_of_assignment depth_of_expression n

pub float_depth : depth_in_form Float ≡ 0
float_depth = float_walk depth_of_form depth_of_assignment depth_of_expression

pub text_depth : (t : List ℕ) → depth_in_form (Text t) ≡ 0
text_depth t = text_walk depth_of_form depth_of_assignment depth_of_expression t

pub truth_depth : (b : Bool) → depth_in_form (Truth b) ≡ 0
truth_depth b = truth_walk depth_of_form depth_of_assignment depth_of_expression b

pub use_depth : (q : Qual) → depth_in_form (Use q) ≡ 0
use_depth q = use_walk depth_of_form depth_of_assignment depth_of_expression q

pub minus_depth : (a : Expr) → depth_in_form (Minus a) ≡ depth_of a + 1
minus_depth a = minus_walk depth_of_form depth_of_assignment depth_of_expression a

pub parentheses_depth : (a : Expr) → depth_in_form (Parentheses a) ≡ depth_of a + 1
parentheses_depth a = parentheses_walk depth_of_form depth_of_assignment depth_of_expression a

pub binary_depth : (operator : Operator) (a b : Expr) → depth_in_form (Binary operator a b) ≡ max (depth_of a) (depth_of b) + 1
binary_depth operator a b = binary_walk depth_of_form depth_of_assignment depth_of_expression operator a b

pub array_depth : (items : List Expr) → depth_in_form (Array items) ≡ deepest (map depth_of items) + 1
array_depth items = array_walk depth_of_form depth_of_assignment depth_of_expression items

pub struct_depth : (members : List Assignment) → depth_in_form (Struct members) ≡ deepest (map depth_in_assignment members) + 1
struct_depth members = struct_walk depth_of_form depth_of_assignment depth_of_expression members

-- the includes of a member
pub module_includes : (m : Opened) → includes_within (node.Module m) ≡ includes_in (out-Module m).members
module_includes m =
    ap includes_within (sym (node.rolls-Module m))
    ∙ fold-roll-Member (List Included) (List Included) includes_of_member includes_of_module (member.Module m)
    ∙ fold_out-Module (List Included) (List Included) includes_of_member includes_of_module m
    ∙ flat_map-map (λ (is : List Included). is) includes_within (out-Module m).members

pub definition_includes : (d : Def) → includes_within (node.Def d) ≡ []
definition_includes d =
    ap includes_within (sym (node.rolls-Def d))
    ∙ fold-roll-Member (List Included) (List Included) includes_of_member includes_of_module (member.Def d)

pub include_includes : (i : Included) → includes_within (node.Include i) ≡ i ∷ []
include_includes i =
    ap includes_within (sym (node.rolls-Include i))
    ∙ fold-roll-Member (List Included) (List Included) includes_of_member includes_of_module (member.Include i)

pub locate_includes : (l : Located) → includes_within (node.Locate l) ≡ []
locate_includes l =
    ap includes_within (sym (node.rolls-Locate l))
    ∙ fold-roll-Member (List Included) (List Included) includes_of_member includes_of_module (member.Locate l)

-- the names in a member
pub module_names : (m : Opened) → names_within (node.Module m) ≡ (out-Module m).name ∷ names_in (out-Module m).members
module_names m =
    ap names_within (sym (node.rolls-Module m))
    ∙ fold-roll-Member (List Name) (List Name) names_of_member names_of_module (member.Module m)
    ∙ fold_out-Module (List Name) (List Name) names_of_member names_of_module m
    ∙ ap (λ names. (out-Module m).name ∷ names) (flat_map-map (λ (names : List Name). names) names_within (out-Module m).members)

pub definition_names : (d : Def) → names_within (node.Def d) ≡ names_in_definition d
definition_names d = ap names_within (sym (node.rolls-Def d)) ∙ fold-roll-Member (List Name) (List Name) names_of_member names_of_module (member.Def d)

pub include_names : (i : Included) → names_within (node.Include i) ≡ []
include_names i = ap names_within (sym (node.rolls-Include i)) ∙ fold-roll-Member (List Name) (List Name) names_of_member names_of_module (member.Include i)

pub locate_names : (l : Located) → names_within (node.Locate l) ≡ l.of.names
locate_names l = ap names_within (sym (node.rolls-Locate l)) ∙ fold-roll-Member (List Name) (List Name) names_of_member names_of_module (member.Locate l)

-- how deep modules nest in a member
pub module_depth : (m : Opened) → modules_within (node.Module m) ≡ modules_in (out-Module m).members + 1
module_depth m =
    ap modules_within (sym (node.rolls-Module m))
    ∙ fold-roll-Member ℕ ℕ modules_of_member modules_of_module (member.Module m)
    ∙ fold_out-Module ℕ ℕ modules_of_member modules_of_module m

pub definition_depth : (d : Def) → modules_within (node.Def d) ≡ 0
definition_depth d = ap modules_within (sym (node.rolls-Def d)) ∙ fold-roll-Member ℕ ℕ modules_of_member modules_of_module (member.Def d)

pub include_depth : (i : Included) → modules_within (node.Include i) ≡ 0
include_depth i = ap modules_within (sym (node.rolls-Include i)) ∙ fold-roll-Member ℕ ℕ modules_of_member modules_of_module (member.Include i)

pub locate_depth : (l : Located) → modules_within (node.Locate l) ≡ 0
locate_depth l = ap modules_within (sym (node.rolls-Locate l)) ∙ fold-roll-Member ℕ ℕ modules_of_member modules_of_module (member.Locate l)
