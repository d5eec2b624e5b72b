use Rattle.std.proofs.Common.{ℕ, List, subst}
use Rattle.fp_meaning.specs.declared.group.Group.TheVariants as group
use Rattle.fp_component_forms.specs.Positions.{SpecialTypesAre}
use Rattle.fp_component_forms.proofs.Ranked.{ranks_are}
use Rattle.fp_component_forms.proofs.positions.positions_in.Goals as goal

pub returns : goal.returns
returns c source laid names =
    record {
      ports = ranks_are group.Port source c.args.items.now c.in_ok-ports.ports laid c.in_ok-ports.ensures;
      interfaces = ranks_are group.Interface source c.args.items.now c.in_ok-interfaces.interfaces laid c.in_ok-interfaces.ensures;
      machines = ranks_are group.Machine source c.args.items.now c.in_ok-machines.machines laid c.in_ok-machines.ensures;
      specials = subst (λ (ns : List (List ℕ)). SpecialTypesAre ns c.in_ok-specials.specials) names c.in_ok-specials.ensures;
    }
