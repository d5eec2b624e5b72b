-- What the elements of state machines declare. FPP Language Specification, "State Machine Behavior Elements".
use Rattle.std.specs.Prelude.{◌≡◌, List, Option, None, Some}
use Rattle.fp_tree.specs.declared.machine.BehaviorElement.{BehaviorElement}
use Rattle.fp_tree.specs.declared.machine.ElementForm.{ElementForm}
use Rattle.fp_tree.specs.declared.machine.ElementForm.TheVariants as element
use Rattle.fp_tree.specs.declared.source.Source.{Source}
use Rattle.fp_tree.specs.declared.type_name.TypeName.{TypeName}
use Rattle.fp_tables.specs.declared.kind.Kind.{Kind}
use Rattle.fp_meaning.specs.Names.{Path}
use Rattle.fp_type_forms.specs.Written.{AllAt, IsOnly, KindIs}

-- ---- in the scope of a machine

module _ (source : Source) (scope : Path) where
  -- the kind that a type name names, where it names one; none where none is written
  abbrev pub TypeIs : Option TypeName → Option Kind → Type 0
  TypeIs None k = k ≡ None
  TypeIs (Some t) k = IsOnly (KindIs source scope t.form) k

  -- the kind of the value of a signal, an action or a guard
  abbrev pub FormDeclares : ElementForm → Option Kind → Type 0
  FormDeclares (element.Signal t) k = TypeIs t.of k
  FormDeclares (element.Action t) k = TypeIs t.of k
  FormDeclares (element.Guard t) k = TypeIs t.of k
  FormDeclares _ k = k ≡ None

  abbrev pub Declares : BehaviorElement → Option Kind → Type 0
  Declares e k = FormDeclares e.form k

  -- of each element
  abbrev pub DeclareAll : List BehaviorElement → List (Option Kind) → Type 0
  DeclareAll es ks = AllAt (λ position. Declares) 0 es ks
