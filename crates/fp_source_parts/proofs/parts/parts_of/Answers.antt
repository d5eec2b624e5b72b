use Rattle.std.proofs.Common.{ℕ, List, flat_map, map, subst}
use Rattle.fp_base.specs.Least.{InSome, IsLeast}
use Rattle.fp_base.proofs.Calculus.{least_along, none_broken}
use Rattle.fp_meaning.specs.declared.item.Item.{Item}
use Rattle.fp_dictdefs.specs.Running.{RunningBroken}
use Rattle.fp_source_parts.specs.Machines.{is_outside, machine_declared}
use Rattle.fp_source_parts.proofs.Assembling.{written_of}
use Rattle.fp_source_parts.proofs.parts.parts_of.Goals as goal

pub parts_fault-requires-clause-interfaces : goal.parts_fault-requires-clause-interfaces
parts_fault-requires-clause-interfaces c =
    c.written_imports_lie.ensures.interfaces c.args.source.now c.in_ok-written.written
    (written_of c.args.source.now c.args.items.now c.args.values.now c.args.measured.now.resolutions c.as_slice-resolutions.result.now c.args.measured.now.written c.args.types.now c.in_ok-written.written
    c.requires.laid c.as_slice-resolutions.ensures c.requires.valued
    (c.unbroken_type_names_stand.ensures c.args.source.now c.args.values.now c.args.measured.now.resolutions c.args.measured.now.written c.args.types.now c.requires.valued) c.in_ok-written.ensures)

pub parts_fault-requires-clause-components : goal.parts_fault-requires-clause-components
parts_fault-requires-clause-components c =
    c.written_imports_lie.ensures.components c.args.source.now c.in_ok-written.written
    (written_of c.args.source.now c.args.items.now c.args.values.now c.args.measured.now.resolutions c.as_slice-resolutions.result.now c.args.measured.now.written c.args.types.now c.in_ok-written.written
    c.requires.laid c.as_slice-resolutions.ensures c.requires.valued
    (c.unbroken_type_names_stand.ensures c.args.source.now c.args.values.now c.args.measured.now.resolutions c.args.measured.now.written c.args.types.now c.requires.valued) c.in_ok-written.ensures)

pub returns-in-Some-clause-stop : goal.returns-in-Some-clause-stop
returns-in-Some-clause-stop c =
    least_along c.in-Some.is
    (c.parts_are_least.ensures c.args.source.now c.args.types.now c.in_ok-written.written c.in_ok-fault.fault
    (written_of c.args.source.now c.args.items.now c.args.values.now c.args.measured.now.resolutions c.as_slice-resolutions.result.now c.args.measured.now.written c.args.types.now c.in_ok-written.written
    c.requires.laid c.as_slice-resolutions.ensures c.requires.valued
    (c.unbroken_type_names_stand.ensures c.args.source.now c.args.values.now c.args.measured.now.resolutions c.args.measured.now.written c.args.types.now c.requires.valued) c.in_ok-written.ensures) c.requires.valued.given c.in_ok-fault.ensures)

pub built-requires-clause-interfaces : goal.built-requires-clause-interfaces
built-requires-clause-interfaces c =
    c.written_imports_lie.ensures.interfaces c.args.source.now c.in_ok-written.written
    (written_of c.args.source.now c.args.items.now c.args.values.now c.args.measured.now.resolutions c.as_slice-resolutions.result.now c.args.measured.now.written c.args.types.now c.in_ok-written.written
    c.requires.laid c.as_slice-resolutions.ensures c.requires.valued
    (c.unbroken_type_names_stand.ensures c.args.source.now c.args.values.now c.args.measured.now.resolutions c.args.measured.now.written c.args.types.now c.requires.valued) c.in_ok-written.ensures)

pub built-requires-clause-components : goal.built-requires-clause-components
built-requires-clause-components c =
    c.written_imports_lie.ensures.components c.args.source.now c.in_ok-written.written
    (written_of c.args.source.now c.args.items.now c.args.values.now c.args.measured.now.resolutions c.as_slice-resolutions.result.now c.args.measured.now.written c.args.types.now c.in_ok-written.written
    c.requires.laid c.as_slice-resolutions.ensures c.requires.valued
    (c.unbroken_type_names_stand.ensures c.args.source.now c.args.values.now c.args.measured.now.resolutions c.args.measured.now.written c.args.types.now c.requires.valued) c.in_ok-written.ensures)

pub returns-clause-parts : goal.returns-clause-parts
returns-clause-parts c =
    let are =
    (written_of c.args.source.now c.args.items.now c.args.values.now c.args.measured.now.resolutions c.as_slice-resolutions.result.now c.args.measured.now.written c.args.types.now c.in_ok-written.written
    c.requires.laid c.as_slice-resolutions.ensures c.requires.valued
    (c.unbroken_type_names_stand.ensures c.args.source.now c.args.values.now c.args.measured.now.resolutions c.args.measured.now.written c.args.types.now c.requires.valued) c.in_ok-written.ensures) in
    record {
      written = c.in_ok-written.written;
      are = are;
      ports = c.in_ok-parts-in-None.ensures.ports;
      components = c.in_ok-parts-in-None.ensures.components
          (c.unbroken_components_are_whole.ensures c.args.source.now c.args.values.now c.args.measured.now.resolutions c.args.measured.now.written c.args.types.now c.in_ok-written.written c.requires.valued are
          (none_broken (least_along c.in-None.is c.in_ok-fault.ensures)));
    }

pub returns-clause-unbroken : goal.returns-clause-unbroken
returns-clause-unbroken c =
    none_broken
    (least_along c.in-None.is
    (c.parts_are_least.ensures c.args.source.now c.args.types.now c.in_ok-written.written c.in_ok-fault.fault
    (written_of c.args.source.now c.args.items.now c.args.values.now c.args.measured.now.resolutions c.as_slice-resolutions.result.now c.args.measured.now.written c.args.types.now c.in_ok-written.written
    c.requires.laid c.as_slice-resolutions.ensures c.requires.valued
    (c.unbroken_type_names_stand.ensures c.args.source.now c.args.values.now c.args.measured.now.resolutions c.args.measured.now.written c.args.types.now c.requires.valued) c.in_ok-written.ensures) c.requires.valued.given c.in_ok-fault.ensures))

pub returns-clause-running : goal.returns-clause-running
returns-clause-running c =
    c.instances_are_least.ensures c.args.source.now c.in_ok-written.written c.in_ok-running-in-None.running
    (written_of c.args.source.now c.args.items.now c.args.values.now c.args.measured.now.resolutions c.as_slice-resolutions.result.now c.args.measured.now.written c.args.types.now c.in_ok-written.written
    c.requires.laid c.as_slice-resolutions.ensures c.requires.valued
    (c.unbroken_type_names_stand.ensures c.args.source.now c.args.values.now c.args.measured.now.resolutions c.args.measured.now.written c.args.types.now c.requires.valued) c.in_ok-written.ensures)
    (subst (λ (is : List Item). IsLeast (InSome (λ (k : ℕ). RunningBroken (map is_outside (flat_map machine_declared is))) c.in_ok-written.written.components) c.in_ok-running-in-None.running) c.requires.laid c.in_ok-running-in-None.ensures)
