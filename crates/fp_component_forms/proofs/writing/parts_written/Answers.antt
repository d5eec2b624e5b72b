use Rattle.std.proofs.Common.{ap, ◌∙◌}
use Rattle.fp_meaning.specs.Names.{definitions}
use Rattle.fp_component_forms.specs.Positions.{names_in}
use Rattle.fp_component_forms.specs.Taken.{AreRead}
use Rattle.fp_component_forms.specs.Written.{PortDefsAre}
use Rattle.fp_component_forms.proofs.Firsts.{written_names}
use Rattle.fp_component_forms.proofs.writing.parts_written.Goals as goal

pub returns : goal.returns
returns c source laid h named =
    let all : AreRead source c.args.marks.now c.args.resolutions.now c.args.items.now = record { laid = laid; resolved = h; named = named } in
    let ports : PortDefsAre source c.in_ok-definitions.definitions = c.in_ok-definitions.ensures source tt all in
    let ready = c.in_ok-positions.ensures source laid (ap names_in c.as_slice.ensures ∙ written_names source c.in_ok-definitions.definitions ports) in
    record { definitions = ports; interfaces = c.in_ok-interfaces.ensures source ready all; components = c.in_ok-components.ensures source ready all }
