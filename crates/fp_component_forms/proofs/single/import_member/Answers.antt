use Rattle.fp_meaning.specs.declared.group.Group.TheVariants as group
use Rattle.fp_meaning.specs.Layout.{use_items}
use Rattle.fp_type_forms.proofs.Taking.{taken_as}
use Rattle.fp_component_forms.proofs.single.import_member.Goals as goal

pub returns : goal.returns
returns c source scope marks ready =
    taken_as source marks c.args.resolutions.now (use_items group.Interface scope c.args.import.now.of) c.args.next.now c.import_taken-import.new.next (λ i has. (i, tt)) (c.import_taken-import.ensures source scope marks ready)
