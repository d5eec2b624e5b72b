use Rattle.std.proofs.Common.{List, ◌++◌, subst}
use Rattle.fp_base.proofs.Lists.{each_before, each_behind}
use Rattle.fp_tree.specs.declared.part.Formal.{Formal}
use Rattle.fp_meaning.specs.Layout.{type_items, formals_items}
use Rattle.fp_meaning.specs.Names.{in_optional}
use Rattle.fp_type_forms.specs.Resolved.{Takes}
use Rattle.fp_type_forms.proofs.Taking.{taken_all, taken_then}
use Rattle.fp_part_values.specs.Names.{formal_names, written}
use Rattle.fp_component_forms.specs.Taken.{FormalsWhere}
use Rattle.fp_component_forms.specs.Written.{HasType}
use Rattle.fp_component_forms.proofs.Readers.{results_named}
use Rattle.fp_component_forms.proofs.wholes.port_written.Goals as goal

pub returns : goal.returns
returns c source h has =
    let scope = c.args.scope.now in
    let d = c.args.port.now in
    let first = formals_items scope d.formals in
    let second = in_optional (type_items 0 scope) d.result in
    let t = taken_all source c.args.marks.now c.args.resolutions.now (first ++ second) c.args.start _
    (taken_then source c.args.marks.now c.args.resolutions.now first second c.args.start _ _
    (subst (λ (fs : List Formal). Takes source c.args.marks.now c.args.resolutions.now (formals_items scope fs) c.args.start c.formals_taken.new.next (FormalsWhere source scope fs c.in_ok-formals.formals)) c.as_slice-formals.ensures (c.in_ok-formals.ensures source scope))
    (c.result_taken-result.ensures source scope)) h in
    record {
      name = c.in_ok-name.ensures;
      formals = t.0 (each_before (HasType source scope) (formal_names d.formals) (written d.result) has);
      result = results_named source c.args.marks.now c.args.resolutions.now scope d.result c.result_taken-result.result t.1 (each_behind (HasType source scope) (formal_names d.formals) (written d.result) has);
    }
