-- A form that was taken apart, and the values of members.
use Rattle.std.proofs.Common.{◌≡◌, ◌∙◌, ℕ, suc, ◌≤◌, List, [], ◌∷◌, length, slice_get, Option, Some, option_map, refl, ap, arith}
use Rattle.std.proofs.lemmas.Option.{slice_get-map}
use Rattle.fp_tree.specs.declared.expression.Assignment.{Assignment}
use Rattle.fp_tree.specs.declared.expression.Expr.{Expr}
use Rattle.fp_tree.specs.declared.expression.Form.{Form, out-Form, roll-Form, out-roll-Form}
use Rattle.fp_meaning.specs.Values.{Opened, opened, values_in}

pub opened_by : (e : Expr) (f : Form) (o : Opened) → e.form ≡ f → f ≡ roll-Form o → opened e ≡ o
opened_by e f o is rolls = ap out-Form (is ∙ rolls) ∙ out-roll-Form o

pub member_at : (members : List Assignment) (k : ℕ) (m : Assignment) → slice_get members k ≡ Some m → slice_get (values_in members) k ≡ Some m.value
member_at members k m at = slice_get-map (λ (x : Assignment). x.value) members k ∙ ap (λ (o : Option Assignment). option_map (λ x. x.value) o) at

pub values_length : (members : List Assignment) → length (values_in members) ≡ length members
values_length [] = refl
values_length (m ∷ ms) = ap (λ (n : ℕ). suc n) (values_length ms)

pub values_past : (members : List Assignment) (k : ℕ) → length members ≤ k → length (values_in members) ≤ k
values_past members k end = let same = values_length members in omega arith
