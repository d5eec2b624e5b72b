use Rattle.std.proofs.Common.{◌∙◌, subst, List, Option, ℕ}
use Rattle.std.specs.Option.{option_cmp}
use Rattle.std.specs.Ordering.{nat_cmp}
use Rattle.std.specs.BTreeSet.{IsFromIterResult}
use Rattle.fp_sound_machines.proofs.Holding.{all_begin}
use Rattle.fp_sound_machines.proofs.states.states_begin.Goals as goal

pub returns : goal.returns
returns c =
    let made = subst (λ (ps : List (Option ℕ)). IsFromIterResult (option_cmp nat_cmp) ps c.in_ok-held.held) c.in_ok-parents.ensures c.in_ok-held.ensures in
    c.begin_where.ensures ∙ all_begin c.args.vertices.now c.in_ok-held.held made
