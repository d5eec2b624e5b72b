use Rattle.std.proofs.Common.{◌∙◌, ap, List}
use Rattle.std.specs.List.{filter_map}
use Rattle.std.proofs.lemmas.Result.{IfOk-weaker}
use Rattle.fp_tables.specs.Lists.{apart}
use Rattle.fp_tables.specs.Components.{same_special, special_in}
use Rattle.fp_tables.specs.declared.component.Port.{Port}
use Rattle.fp_sound_model.proofs.Specials.{apart_same, same_kinds}
use Rattle.fp_sound_model.proofs.ports.special_ports_differ.Goals as goal

pub returns : goal.returns
returns c =
    IfOk-weaker c.all_differ.result _ _
    (λ b p. p ∙ apart_same _ same_special same_kinds c.in_ok-specials.specials.items ∙ ap (apart same_special) (c.in_ok-specials.ensures ∙ ap (λ (ps : List Port). filter_map (λ (p : Port). special_in p.role) ps) c.as_slice.ensures))
    c.all_differ.ensures
