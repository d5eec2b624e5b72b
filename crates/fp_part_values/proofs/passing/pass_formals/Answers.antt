use Rattle.std.proofs.Common.{List, flat_map, subst}
use Rattle.fp_tree.specs.declared.part.Formal.{Formal}
use Rattle.fp_meaning.specs.Layout.{formal_items}
use Rattle.fp_part_values.specs.Passed.{Passes}
use Rattle.fp_part_values.proofs.passing.pass_formals.Goals as goal

pub returns : goal.returns
returns c source scope =
    subst (λ (fs : List Formal). Passes source c.args.marks.now c.args.resolutions.now (flat_map (formal_items scope) fs) c.args.next.now c.pass_each.new.next) c.as_slice.ensures (c.pass_each.ensures source scope)
