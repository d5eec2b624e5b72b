use Rattle.std.proofs.Common.{rules}
use Rattle.fp_dictionary.proofs.channels.channel_head.Goals as goal

pub returns : goal.returns
returns c = search rules
