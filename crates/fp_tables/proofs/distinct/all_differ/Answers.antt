use Rattle.std.proofs.Common.{arith, ◌≡◌, true}
use Rattle.std.proofs.lemmas.Bool.Decides.{nat_tests, same_from_decides}
use Rattle.std.specs.Ordering.{eq_by_cmp}
use Rattle.fp_tables.specs.Lists.{apart}
use Rattle.fp_tables.proofs.Differing.{distinct_count}
use Rattle.fp_tables.proofs.distinct.all_differ.Goals as goal

pub returns : goal.returns
returns g c =
    let d = distinct_count g.met.K.Ord.total c.args.keys.items c.in_ok-distinct.distinct c.in_ok-distinct.ensures in
    same_from_decides {P = apart (eq_by_cmp g.K.Ord.cmp) c.args.keys.items ≡ true} _ _ (λ h. d.0 (grind (arith, nat_tests, c.len.ensures.len, c.len-count.ensures, h)), λ h. let e = d.1 h in grind (arith, nat_tests, c.len.ensures.len, c.len-count.ensures, e)) (λ h. h, λ h. h)
