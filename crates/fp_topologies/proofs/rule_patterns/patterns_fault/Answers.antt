use Rattle.std.proofs.Common.{length, refl}
use Rattle.std.proofs.lemmas.Option.{slice_get_read}
use Rattle.fp_base.proofs.Elements.{least_first_none, least_next, least_of_all}
use Rattle.fp_topologies.specs.Broken.{PatternBroken}
use Rattle.fp_topologies.proofs.rule_patterns.patterns_fault.Goals as goal

pub loop-pattern-init : goal.loop-pattern-init
loop-pattern-init c = least_first_none (PatternBroken c.args.index.now.ports c.args.index.now.components c.args.index.now.instances) c.args.patterns.now

pub loop-pattern-preserved : goal.loop-pattern-preserved
loop-pattern-preserved c =
    let all = c.args.patterns.now in
    let n = c.loop-pattern.pattern-index in
    least_next (PatternBroken c.args.index.now.ports c.args.index.now.components c.args.index.now.instances) all n c.pattern-item.result c.loop-pattern.first c.lesser-first.result c.pattern_fault-fault.result
    (slice_get_read all (length all) n c.pattern-item.result refl c.loop-pattern-test.true c.pattern-item.is) c.lesser-first.ensures (c.pattern_fault-fault.ensures n) c.loop-pattern.invariant

pub returns : goal.returns
returns c =
    least_of_all (PatternBroken c.args.index.now.ports c.args.index.now.components c.args.index.now.instances) c.args.patterns.now c.loop-pattern.pattern-index c.loop-pattern.first c.loop-pattern-test.false
    c.loop-pattern.invariant
