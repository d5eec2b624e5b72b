use Rattle.std.proofs.Common.{ℕ, List, Option, ap, ◌∙◌}
use Rattle.fp_base.proofs.Options.{if_ok_then}
use Rattle.fp_tables.specs.declared.kind.Kind.{Kind}
use Rattle.fp_component_forms.specs.Written.{qualified}
use Rattle.fp_machines.specs.Made.{machine_of}
use Rattle.fp_source_parts.proofs.building.machine_written.Goals as goal

pub returns-clause-made : goal.returns-clause-made
returns-clause-made c =
    if_ok_then c.machine_of.result _ _
    (λ one is source h. record {
      kinds = c.in_ok-kinds.kinds;
      declared = c.in_ok-kinds.ensures source c.args.scope.now h;
      made = is ∙ ap (λ (name : List ℕ). machine_of name c.args.machine.now.behavior c.as_slice.result.now) c.in_ok-name.ensures
          ∙ ap (λ (ks : List (Option Kind)). machine_of (qualified c.args.scope.now c.args.machine.now.name) c.args.machine.now.behavior ks) c.as_slice.ensures;
    })
    c.machine_of.ensures.made
