use Rattle.std.proofs.Common.{Option, None, sym, subst}
use Rattle.fp_base.specs.Least.{IsLeast}
use Rattle.fp_tree.specs.declared.type_name.TypeName.{TypeName}
use Rattle.fp_meaning.specs.Layout.{type_items}
use Rattle.fp_meaning.specs.Names.{in_optional}
use Rattle.fp_type_forms.specs.Broken.{BrokenByName, ByOptional}
use Rattle.fp_type_forms.specs.Resolved.{Takes}
use Rattle.fp_type_forms.proofs.Breaking.{nothing_broken}
use Rattle.fp_type_forms.proofs.faults.optional_name.Goals as goal

pub returns-in-Some : goal.returns-in-Some
returns-in-Some c source scope =
    subst (λ (x : Option TypeName). Takes source c.args.marks.now c.args.resolutions.now (in_optional (type_items 0 scope) x) c.args.next.now c.name_fault.new.next (IsLeast (ByOptional (BrokenByName source scope) x) c.name_fault.result)) (sym c.in-Some.is)
    (c.name_fault.ensures source scope 0)

pub returns-in-None : goal.returns-in-None
returns-in-None c source scope =
    subst (λ (x : Option TypeName). Takes source c.args.marks.now c.args.resolutions.now (in_optional (type_items 0 scope) x) c.args.next.now c.args.next.now (IsLeast (ByOptional (BrokenByName source scope) x) None)) (sym c.in-None.is)
    (nothing_broken source c.args.marks.now c.args.resolutions.now c.args.next.now (λ f h. h))
