use Rattle.std.proofs.Common.{ℤ, List, ◌≢◌, sym, subst}
use Rattle.std.specs.List.{AllPairs, Contains}
use Rattle.fp_cell.proofs.Distinct.{numbers_differ, kept_all}
use Rattle.fp_base.proofs.Options.{if_ok_then}
use Rattle.fp_cell.proofs.priorities.distinct.Goals as goal

pub returns-clause-differ : goal.returns-clause-differ
returns-clause-differ c =
    if_ok_then c.keys_of.result _ _ (λ v e. subst (λ (ks : List ℤ). AllPairs (λ a b. a ≢ b) ks) (sym e) (numbers_differ c.in_ok-set.set.keys c.in_ok-set.ensures.1)) c.keys_of.ensures

pub returns-clause-same : goal.returns-clause-same
returns-clause-same c =
    if_ok_then c.keys_of.result _ _ (λ v e n has. subst (λ (ks : List ℤ). Contains ks n) (sym e) (kept_all c.args.numbers.items c.in_ok-set.set c.in_ok-set.ensures n has)) c.keys_of.ensures
