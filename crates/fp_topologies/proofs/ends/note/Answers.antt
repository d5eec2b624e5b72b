use Rattle.std.specs.BTreeSet.{contains}
use Rattle.fp_topologies.specs.Ends.{ends_cmp, ends_of}
use Rattle.fp_topologies.proofs.NotingSteps.{fresh_is, noted_more}
use Rattle.fp_topologies.proofs.ends.note.Goals as goal

pub returns-clause-fresh : goal.returns-clause-fresh
returns-clause-fresh c = fresh_is c.in_ok-new.new (contains ends_cmp c.args.noted.now) c.ends_of.result c.args.link.now c.ends_of.ensures c.in_ok-new.ensures.added

pub returns-clause-notes : goal.returns-clause-notes
returns-clause-notes c =
    λ q. noted_more (contains ends_cmp c.insert.new.self (ends_of q)) (contains ends_cmp c.args.noted.now (ends_of q)) c.ends_of.result c.args.link.now q c.ends_of.ensures (c.in_ok-new.ensures.updates.0 (ends_of q))
