use Rattle.std.proofs.Common.{sym, subst}
use Rattle.fp_meaning.specs.Layout.{command_items}
use Rattle.fp_type_forms.proofs.Taking.{taken_as}
use Rattle.fp_written_parts.specs.declared.dictionary.WrittenCommand.{WrittenCommand}
use Rattle.fp_component_forms.specs.Written.{CommandIs}
use Rattle.fp_component_forms.proofs.single.command_member.Goals as goal

pub returns : goal.returns
returns c source scope =
    taken_as source c.args.marks.now c.args.resolutions.now (command_items scope c.args.command.now) c.args.next.now c.command_taken.new.next
    (λ g has. (subst (λ (w : WrittenCommand). CommandIs source scope c.args.command.now w) (sym c.in_ok-boxed.ensures) (g has), tt)) (c.in_ok-command.ensures source scope)
