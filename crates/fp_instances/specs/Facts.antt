-- What is known of written instances from their components.
use Rattle.std.specs.Prelude.{ℕ, List, map, slice_get, Option, option_map, option_and_then, unwrap_or}
use Rattle.fp_tables.specs.Instances.{largest, local_ids}
use Rattle.fp_tables.specs.declared.component.Component.{Component}
use Rattle.fp_tables.specs.declared.component.Queueing.{Queueing}
use Rattle.fp_tables.specs.declared.component.Queueing.TheVariants.{Passive}
use Rattle.fp_instances.specs.declared.instance_facts.InstanceFacts.{InstanceFacts}
use Rattle.fp_written_parts.specs.declared.instance.WrittenInstance.{WrittenInstance}

module _ (cs : List Component) where
  abbrev pub queueing_at : ℕ → Queueing
  queueing_at k = unwrap_or (option_map (λ (c : Component). c.queueing) (slice_get cs k)) Passive

  -- the greatest id or opcode of a component
  abbrev pub top_at : ℕ → Option ℕ
  top_at k = option_and_then (λ (c : Component). largest (local_ids c)) (slice_get cs k)

  abbrev pub facts_of : WrittenInstance → InstanceFacts
  facts_of w =
      record {
        at = w.at;
        queueing = queueing_at w.component;
        top = top_at w.component;
        base = w.base;
        queue = w.queue;
        stack = w.stack;
        priority = w.priority;
        cpu = w.cpu;
      }

  abbrev pub all_facts : List WrittenInstance → List InstanceFacts
  all_facts ws = map facts_of ws
