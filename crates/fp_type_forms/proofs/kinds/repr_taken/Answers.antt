use Rattle.std.proofs.Common.{Option, Some, sym, subst}
use Rattle.fp_tables.specs.declared.kind.Kind.TheVariants as kind
use Rattle.fp_tree.specs.declared.type_name.TypeName.{TypeName}
use Rattle.fp_meaning.specs.Layout.{type_items}
use Rattle.fp_meaning.specs.Names.{in_optional}
use Rattle.fp_type_forms.specs.Written.{IsOnly, ReprIs}
use Rattle.fp_type_forms.specs.Resolved.{Takes}
use Rattle.fp_type_forms.proofs.Only.{only_this}
use Rattle.fp_type_forms.proofs.Taking.{taken_nothing}
use Rattle.fp_type_forms.proofs.kinds.repr_taken.Goals as goal

pub returns-in-Some : goal.returns-in-Some
returns-in-Some c source scope = subst (λ (x : Option TypeName). Takes source c.args.marks.now c.args.resolutions.now (in_optional (type_items 0 scope) x) c.args.next.now c.kind_taken.new.next (IsOnly (ReprIs source scope x) c.kind_taken.result)) (sym c.in-Some.is) (c.kind_taken.ensures source scope 0)

pub returns-in-None : goal.returns-in-None
returns-in-None c source scope =
    subst (λ (x : Option TypeName). Takes source c.args.marks.now c.args.resolutions.now (in_optional (type_items 0 scope) x) c.args.next.now c.args.next.now (IsOnly (ReprIs source scope x) (Some kind.I32))) (sym c.in-None.is) (taken_nothing source c.args.marks.now c.args.resolutions.now c.args.next.now (only_this kind.I32))
