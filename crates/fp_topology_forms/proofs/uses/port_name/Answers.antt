use Rattle.std.proofs.Common.{◌≡◌, ◌-◌, List, length, slice_get, Some, None, sym, ap, ◌∙◌}
use Rattle.fp_base.proofs.Options.{if_ok_then}
use Rattle.fp_tree.specs.declared.name.Name.{Name}
use Rattle.fp_topology_forms.proofs.PortNames.{no_text, text_there}
use Rattle.fp_topology_forms.proofs.uses.port_name.Goals as goal

pub returns-in-Some : goal.returns-in-Some
returns-in-Some c =
    let ns = c.args.port.now.of.names in
    let at : slice_get ns (length ns - 1) ≡ Some c.in-Some.name.now =
    ap (λ (l : List Name). slice_get l (length l - 1)) (sym c.as_slice-names.ensures) ∙ sym c.in-Some.ensures.value in
    if_ok_then c.copy.result _ _ (λ text e. e ∙ sym (text_there ns (length ns - 1) c.in-Some.name.now at)) c.copy.ensures

pub returns-in-None : goal.returns-in-None
returns-in-None c =
    let ns = c.args.port.now.of.names in
    let at : slice_get ns (length ns - 1) ≡ None =
    ap (λ (l : List Name). slice_get l (length l - 1)) (sym c.as_slice-names.ensures) ∙ sym c.in-None.ensures.value in
    c.new.ensures ∙ sym (no_text ns (length ns - 1) at)
