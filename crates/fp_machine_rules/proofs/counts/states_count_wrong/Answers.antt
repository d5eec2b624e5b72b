use Rattle.std.proofs.Common.{◌∙◌, ap, List}
use Rattle.fp_machine_rules.specs.declared.gathering.Parts.{Parts}
use Rattle.fp_machine_rules.specs.Gathered.{state_counts_wrong}
use Rattle.fp_machine_rules.specs.Undefined.{flags_from}
use Rattle.fp_base.proofs.Options.{if_ok_then}
use Rattle.fp_machine_rules.proofs.Repeats.{count_told}
use Rattle.fp_machine_rules.proofs.counts.states_count_wrong.Goals as goal

pub returns : goal.returns
returns c =
    if_ok_then c.count_flags.result _ _
    (λ flags e.
    count_told c.args.items.now c.args.gathered.now.table.items c.args.gathered.now.top flags.items c.requires
    (e ∙ ap (λ (t : List Parts). flags_from (state_counts_wrong t) 0 c.args.items.now) c.deref.ensures.value))
    c.count_flags.ensures
