-- The rules that instances of components break, each by itself and with one another. FPP Language Specification, "Component Instance
-- Definitions".
use Rattle.std.specs.Prelude.{List}
use Rattle.fp_base.specs.declared.refusal.Refusal.{Refusal}
use Rattle.fp_base.specs.Least.{Either}
use Rattle.fp_tables.specs.declared.component.Component.{Component}
use Rattle.fp_instances.specs.InstanceBroken.{BrokenByInstances}
use Rattle.fp_written_parts.specs.declared.instance.WrittenInstance.{WrittenInstance}
use Rattle.fp_instances.specs.Facts.{all_facts}
use Rattle.fp_instances.specs.Ranges.{RangesBroken, ranges}

abbrev pub InstancesBroken : List Component → List WrittenInstance → Refusal → Type 0
InstancesBroken cs ws = Either (BrokenByInstances (all_facts cs ws)) (RangesBroken (ranges (all_facts cs ws)))
