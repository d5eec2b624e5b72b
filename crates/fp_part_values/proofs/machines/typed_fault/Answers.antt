use Rattle.fp_meaning.specs.Layout.{typed_items}
use Rattle.fp_part_values.proofs.Joining.{of_optional_name}
use Rattle.fp_part_values.proofs.machines.typed_fault.Goals as goal

pub returns : goal.returns
returns c source scope =
    of_optional_name source c.args.marks.now c.args.resolutions.now scope (typed_items scope c.args.named.now) c.args.next.now c.optional_name.new.next c.args.named.now.of c.optional_name.result (c.optional_name.ensures source scope)
