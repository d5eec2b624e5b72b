use Rattle.std.proofs.Common.{[]}
use Rattle.fp_meaning.specs.Layout.{port_use_items}
use Rattle.fp_part_values.specs.Names.{written}
use Rattle.fp_part_values.proofs.Joining.{then_faults}
use Rattle.fp_part_values.proofs.topologies.connection_fault.Goals as goal

pub returns : goal.returns
returns c source scope =
    let d = c.args.connection.now in
    then_faults source c.args.marks.now c.args.resolutions.now scope (port_use_items scope d.from) (port_use_items scope d.to) c.args.next.now c.port_use_fault-from.new.next c.port_use_fault-to.new.next [] [] (written d.from.number) (written d.to.number)
    c.port_use_fault-from.result c.port_use_fault-to.result c.lesser.result c.lesser.ensures (c.port_use_fault-from.ensures source scope) (c.port_use_fault-to.ensures source scope)
