use Rattle.std.proofs.Common.{List, inl, inr, subst, sym, ◌∙◌}
use Rattle.fp_base.specs.Least.{IsStop}
use Rattle.fp_instances.specs.Resolved.{AreInstances}
use Rattle.fp_tables.specs.declared.topology.Instance.{Instance}
use Rattle.fp_topologies.specs.Resolved.{AreTopologies}
use Rattle.fp_model.specs.Broken.{ModelBroken}
use Rattle.fp_model.proofs.Stopping.{instances_stop, passed, topologies_stop}
use Rattle.fp_model.proofs.joining.deployed_in.Goals as goal

pub source_instances-requires-clause-deployment : goal.source_instances-requires-clause-deployment
source_instances-requires-clause-deployment c =
    record {
      types = c.requires.parts.0;
      written = c.requires.parts.1;
      are = c.requires.parts.2;
      deployment = c.in_ok-written.ensures c.args.source.now c.requires.laid c.requires.resolved;
    }

pub source_instances-requires-clause-numbers : goal.source_instances-requires-clause-numbers
source_instances-requires-clause-numbers c =
    c.deployments_have_numbers.ensures c.args.source.now c.in_ok-written.written c.requires.valued (λ f b. c.requires.before.values f (inr (inr (inr (inl b)))))
    (c.in_ok-written.ensures c.args.source.now c.requires.laid c.requires.resolved)

pub source_topologies-requires-clause-deployment : goal.source_topologies-requires-clause-deployment
source_topologies-requires-clause-deployment c =
    record {
      types = c.requires.parts.0;
      written = c.requires.parts.1;
      are = c.requires.parts.2;
      deployment = c.in_ok-written.ensures c.args.source.now c.requires.laid c.requires.resolved;
    }

pub source_topologies-requires-clause-built : goal.source_topologies-requires-clause-built
source_topologies-requires-clause-built c =
    subst (λ (xs : List Instance). AreInstances c.in_ok-written.written.instances xs) (sym c.as_slice-of.ensures) c.in_ok-instances.ensures.instances

pub source_topologies-requires-clause-imports : goal.source_topologies-requires-clause-imports
source_topologies-requires-clause-imports c t o k i at here =
    ((c.written_deployments_lie.ensures c.args.source.now c.in_ok-written.written (c.in_ok-written.ensures c.args.source.now c.requires.laid c.requires.resolved)).topologies t o at).imports k i here

pub returns-in_err-instances-clause-stop : goal.returns-in_err-instances-clause-stop
returns-in_err-instances-clause-stop c =
    passed c.from_residual-in_err-instances.result _ (IsStop (ModelBroken c.args.source.now)) c.from_residual-in_err-instances.ensures.1
    (instances_stop c.args.source.now c.requires.before _ c.in_err-instances.ensures.stop)

pub returns-in_err-topologies-clause-stop : goal.returns-in_err-topologies-clause-stop
returns-in_err-topologies-clause-stop c =
    passed c.from_residual-in_err-topologies.result _ (IsStop (ModelBroken c.args.source.now)) c.from_residual-in_err-topologies.ensures.1
    (topologies_stop c.args.source.now c.requires.before c.in_ok-instances.ensures.unbroken _ c.in_err-topologies.ensures.stop)

pub returns-clause-unbroken : goal.returns-clause-unbroken
returns-clause-unbroken c =
    record {
      before = c.requires.before;
      instances = c.in_ok-instances.ensures.unbroken;
      topologies = c.in_ok-topologies.ensures.unbroken;
    }

pub returns-clause-deployed : goal.returns-clause-deployed
returns-clause-deployed c =
    let are = c.in_ok-written.ensures c.args.source.now c.requires.laid c.requires.resolved in
    record {
      instances = record { written = c.in_ok-written.written; are = are; instances = c.in_ok-instances.ensures.instances };
      topologies =
          record {
            written = c.in_ok-written.written;
            are = are;
            topologies =
                subst (λ (xs : List Instance). AreTopologies c.args.parts.now.ports c.args.parts.now.components xs c.in_ok-written.written.topologies c.in_ok-topologies.topologies) c.as_slice-of.ensures
                c.in_ok-topologies.ensures.topologies;
          };
      wires = c.in_ok-topologies.ensures.wires;
    }
