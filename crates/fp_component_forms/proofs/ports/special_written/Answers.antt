use Rattle.std.proofs.Common.{ℕ, Option, refl, sym, ap, ◌∙◌, subst}
use Rattle.fp_tables.specs.declared.component.Special.{Special}
use Rattle.fp_written_parts.specs.declared.port.WrittenRole.TheVariants as role
use Rattle.fp_component_forms.specs.Positions.{type_in}
use Rattle.fp_component_forms.specs.Written.{SpecialTypeIs, port_names, special_of}
use Rattle.fp_component_forms.proofs.ports.special_written.Goals as goal

pub returns : goal.returns
returns c source scope ready =
    let k = c.args.port.now.kind in
    record {
      name = c.in_ok-name.ensures;
      at = refl;
      begins = refl;
      role = ap (λ (s : Special). role.Special s) c.special_kind-special.ensures;
      size = refl;
      of =
          subst (λ (o : Option ℕ). SpecialTypeIs (port_names source) (special_of k) o)
          (sym (c.of_kind-of.ensures ∙ ap (type_in c.args.positions.now.specials) c.special_kind-special.ensures)) (ready.specials (special_of k));
      formals = c.new-formals.ensures;
      queue = c.nothing_queued-queue.ensures;
    }
