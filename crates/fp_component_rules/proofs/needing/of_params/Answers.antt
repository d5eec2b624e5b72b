use Rattle.std.proofs.Common.{◌∙◌, ◌∷◌, [], sym}
use Rattle.std.proofs.lemmas.List.Folds.{list_any-append}
use Rattle.fp_tables.specs.Components.{same_special}
use Rattle.fp_tables.specs.declared.component.Special.TheVariants.{CmdRecv, CmdReg, CmdResp, PrmGet, PrmSet}
use Rattle.fp_component_rules.proofs.Meeting.{joined_as}
use Rattle.fp_component_rules.proofs.needing.of_params.Goals as goal

pub returns : goal.returns
returns c s =
    c.joined.ensures s ∙ joined_as _ _ _ _ (c.of_commands.ensures s) (c.two_kinds.ensures s)
    ∙ sym (list_any-append (same_special s) (CmdRecv ∷ CmdReg ∷ CmdResp ∷ []) (PrmGet ∷ PrmSet ∷ []))
