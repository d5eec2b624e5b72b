use Rattle.std.proofs.Common.{sym, subst}
use Rattle.fp_meaning.specs.Layout.{channel_items}
use Rattle.fp_type_forms.proofs.Taking.{taken_as}
use Rattle.fp_written_parts.specs.declared.dictionary.WrittenChannel.{WrittenChannel}
use Rattle.fp_component_forms.specs.Written.{ChannelIs}
use Rattle.fp_component_forms.proofs.single.channel_member.Goals as goal

pub returns : goal.returns
returns c source scope =
    taken_as source c.args.marks.now c.args.resolutions.now (channel_items scope c.args.channel.now) c.args.next.now c.channel_taken.new.next
    (λ g has. (subst (λ (w : WrittenChannel). ChannelIs source scope c.args.channel.now w) (sym c.in_ok-boxed.ensures) (g has.0), tt)) (c.in_ok-channel.ensures source scope)
