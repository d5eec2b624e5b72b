-- What is read of the elements of a machine.
use Rattle.std.proofs.Common.{◌≡◌, ℕ, suc, List, [], ◌∷◌, Option, Some, None, refl, sym, ap, subst, ◌∙◌}
use Rattle.fp_base.proofs.Lists.{same_joined}
use Rattle.fp_base.specs.declared.value.Value.{Value}
use Rattle.fp_tree.specs.declared.machine.BehaviorElement.{BehaviorElement}
use Rattle.fp_tree.specs.declared.machine.ElementForm.{ElementForm}
use Rattle.fp_tree.specs.declared.machine.ElementForm.TheVariants as element
use Rattle.fp_tree.specs.declared.source.Source.{Source}
use Rattle.fp_tree.specs.declared.type_name.TypeName.{TypeName}
use Rattle.fp_tables.specs.declared.kind.Kind.{Kind}
use Rattle.fp_meaning.specs.Layout.{element_form_items, type_items}
use Rattle.fp_meaning.specs.Names.{Path, in_optional}
use Rattle.fp_type_forms.specs.declared.resolving.Resolution.{Resolution}
use Rattle.fp_type_forms.specs.Resolved.{Takes}
use Rattle.fp_type_forms.specs.Written.{AllAt}
use Rattle.fp_source_parts.specs.DeclaredElements.{DeclareAll, Declares, FormDeclares, TypeIs}

module _ (source : Source) (marks : List (Option Value)) (rs : List Resolution) (scope : Path) where
  -- by the form that an element has
  pub form_by : (f g : ElementForm) (a b : ℕ) (k : Option Kind) → f ≡ g → Takes source marks rs (element_form_items scope g) a b (FormDeclares source scope g k)
      → Takes source marks rs (element_form_items scope f) a b (FormDeclares source scope f k)
  form_by f g a b k is h = subst (λ (x : ElementForm). Takes source marks rs (element_form_items scope x) a b (FormDeclares source scope x k)) (sym is) h

  pub type_by : (o p : Option TypeName) (a b : ℕ) (k : Option Kind) → o ≡ p → Takes source marks rs (in_optional (type_items 0 scope) p) a b (TypeIs source scope p k)
      → Takes source marks rs (in_optional (type_items 0 scope) o) a b (TypeIs source scope o k)
  type_by o p a b k is h = subst (λ (x : Option TypeName). Takes source marks rs (in_optional (type_items 0 scope) x) a b (TypeIs source scope x k)) (sym is) h

-- ---- one list of kinds

module _ (source : Source) (scope : Path) where
  one_type : (o : Option TypeName) (j k : Option Kind) → TypeIs source scope o j → TypeIs source scope o k → j ≡ k
  one_type None j k h i = h ∙ sym i
  one_type (Some t) None None h i = refl
  one_type (Some t) None (Some k) h i = h.only k (i.holds k refl)
  one_type (Some t) (Some j) k h i = sym (i.only j (h.holds j refl))

  one_form : (f : ElementForm) (j k : Option Kind) → FormDeclares source scope f j → FormDeclares source scope f k → j ≡ k
  one_form (element.Signal t) j k h i = one_type t.of j k h i
  one_form (element.Action t) j k h i = one_type t.of j k h i
  one_form (element.Guard t) j k h i = one_type t.of j k h i
  one_form (element.State t) j k h i = h ∙ sym i
  one_form (element.Choice t) j k h i = h ∙ sym i
  one_form (element.Initial t) j k h i = h ∙ sym i
  one_form (element.On t) j k h i = h ∙ sym i
  one_form (element.Entry t) j k h i = h ∙ sym i
  one_form (element.Exit t) j k h i = h ∙ sym i

  abbrev AllFrom : ℕ → List BehaviorElement → List (Option Kind) → Type 0
  AllFrom n es ks = AllAt (λ position. Declares source scope) n es ks

  one_from : (n : ℕ) (es : List BehaviorElement) (js ks : List (Option Kind)) → AllFrom n es js → AllFrom n es ks → js ≡ ks
  one_from n [] [] [] h i = refl
  one_from n [] (j ∷ js) ks h i = absurd h
  one_from n [] [] (k ∷ ks) h i = absurd i
  one_from n (e ∷ es) [] ks h i = absurd h
  one_from n (e ∷ es) (j ∷ js) [] h i = absurd i
  one_from n (e ∷ es) (j ∷ js) (k ∷ ks) h i = same_joined (one_form e.form j k h.0 i.0) (one_from (suc n) es js ks h.1 i.1)

  pub one_declared : (es : List BehaviorElement) (js ks : List (Option Kind)) → DeclareAll source scope es js → DeclareAll source scope es ks → js ≡ ks
  one_declared es js ks h i = one_from 0 es js ks h i
