use Rattle.std.proofs.Common.{arith, ◌-◌, ◌+◌}
use Rattle.fp_lexer.proofs.LongStrings.{spaces_stop}
use Rattle.fp_lexer.proofs.scan.spaces.Goals as goal

pub returns-after-spaces-clause-value : goal.returns-after-spaces-clause-value
returns-after-spaces-clause-value c =
    let stop = spaces_stop c.args.text.now (c.args.from + c.spaces.count) (c.args.most - c.spaces.count) (λ lt q. let test = c.spaces-test.false in omega (arith, lt, test)) in
    let rest = c.spaces.invariant.rest in
    omega (arith, stop, rest)
