-- The names in an expression are those of values.
use Rattle.std.proofs.Common.{◌≡◌, ℕ, zero, suc, List, [], ◌∷◌, ◌++◌, map, flat_map, slice_get, Some, refl, sym, subst}
use Rattle.fp_tree.specs.declared.expression.Expr.{Expr}
use Rattle.fp_tree.specs.declared.expression.Assignment.{Assignment}
use Rattle.fp_tree.specs.declared.expression.Form.{Form, Form-F}
use Rattle.fp_tree.specs.declared.expression.Form.TheOpen as form
use Rattle.fp_tree.specs.declared.expression.Form.TheFolds.{ind-Expr, map-Form, map-Expr}
use Rattle.fp_tree.specs.declared.expression.Form.TheViews.{roll-Form, roll-Assignment, roll-Expr}
use Rattle.fp_meaning.specs.declared.group.Group.TheVariants as group
use Rattle.fp_meaning.specs.declared.names.Mention.{Mention}
use Rattle.fp_meaning.specs.Names.{Path, in_form, in_expression}
use Rattle.fp_meaning.specs.Values.{values_in}
use Rattle.fp_meaning.proofs.UseWalks.{whole_uses}
use Rattle.fp_consts.proofs.Rolled.{rolled_uses}

abbrev pub AreValueNames : List Mention → Type 0
AreValueNames ms = (i : ℕ) (m : Mention) → slice_get ms i ≡ Some m → m.group ≡ group.Value

no_names : AreValueNames []
no_names i m at = cc

one_name : (x : Mention) → x.group ≡ group.Value → AreValueNames (x ∷ [])
one_name x is zero m at = let same : x ≡ m = cc in subst (λ (y : Mention). y.group ≡ group.Value) same is
one_name x is (suc i) m at = cc

both_names : (xs ys : List Mention) → AreValueNames xs → AreValueNames ys → AreValueNames (xs ++ ys)
both_names [] ys a b i m at = b i m at
both_names (x ∷ xs) ys a b zero m at = a zero m at
both_names (x ∷ xs) ys a b (suc i) m at = both_names xs ys (λ k n h. a (suc k) n h) b i m at

abbrev InForm : Form → Type 0
InForm f = (scope : Path) → AreValueNames (in_form scope f)

abbrev InAssignment : Assignment → Type 0
InAssignment a = (scope : Path) → AreValueNames (in_expression scope a.value)

abbrev InExpr : Expr → Type 0
InExpr e = (scope : Path) → AreValueNames (in_expression scope e)

items_names : (scope : Path) (es : List ((e : Expr) × InExpr e)) → AreValueNames (flat_map (in_expression scope) (map (λ t. t.0) es))
items_names scope [] = no_names
items_names scope (e ∷ es) = both_names (in_expression scope e.0) (flat_map (in_expression scope) (map (λ t. t.0) es)) (e.1 scope) (items_names scope es)

members_names : (scope : Path) (as_ : List ((a : Assignment) × InAssignment a)) → AreValueNames (flat_map (in_expression scope) (values_in (map (λ t. t.0) as_)))
members_names scope [] = no_names
members_names scope (a ∷ as_) =
    both_names (in_expression scope a.0.value) (flat_map (in_expression scope) (values_in (map (λ t. t.0) as_))) (a.1 scope) (members_names scope as_)

by_form : (y : Form-F ((f : Form) × InForm f) ((a : Assignment) × InAssignment a) ((e : Expr) × InExpr e)) (scope : Path)
    → AreValueNames (in_form scope (roll-Form (map-Form _ _ _ _ _ _ (λ t. t.0) (λ t. t.0) (λ t. t.0) y)))
by_form (form.Number n) scope = subst AreValueNames (sym (rolled_uses scope (form.Number n))) no_names
by_form form.Float scope = subst AreValueNames (sym (rolled_uses scope form.Float)) no_names
by_form (form.Text t) scope = subst AreValueNames (sym (rolled_uses scope (form.Text t))) no_names
by_form (form.Truth b) scope = subst AreValueNames (sym (rolled_uses scope (form.Truth b))) no_names
by_form (form.Use name) scope = subst AreValueNames (sym (rolled_uses scope (form.Use name))) (one_name _ refl)
by_form (form.Minus a) scope = subst AreValueNames (sym (rolled_uses scope (form.Minus a.0))) (a.1 scope)
by_form (form.Parentheses a) scope = subst AreValueNames (sym (rolled_uses scope (form.Parentheses a.0))) (a.1 scope)
by_form (form.Binary operator a b) scope =
    subst AreValueNames (sym (rolled_uses scope (form.Binary operator a.0 b.0))) (both_names (in_expression scope a.0) (in_expression scope b.0) (a.1 scope) (b.1 scope))
by_form (form.Array items) scope = subst AreValueNames (sym (rolled_uses scope (form.Array (map (λ t. t.0) items)))) (items_names scope items)
by_form (form.Struct members) scope = subst AreValueNames (sym (rolled_uses scope (form.Struct (map (λ t. t.0) members)))) (members_names scope members)

pub value_names : (e : Expr) → InExpr e
value_names =
    ind-Expr InForm InAssignment InExpr
    (λ x y is scope. subst (λ (z : Form-F Form Assignment Expr). AreValueNames (in_form scope (roll-Form z))) is (by_form y scope))
    (λ x y is scope. subst (λ (z : _). AreValueNames (in_expression scope (roll-Assignment z).value)) is (y.value.1 scope))
    (λ x y is scope. subst (λ (z : _). AreValueNames (in_expression scope (roll-Expr z))) is
    (subst AreValueNames (sym (whole_uses scope (roll-Expr (map-Expr _ _ _ _ _ _ (λ t. t.0) (λ t. t.0) (λ t. t.0) y)))) (y.form.1 scope)))
