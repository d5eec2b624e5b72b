use Rattle.std.proofs.Common.{map, ap, ap₂, sym, ◌∙◌}
use Rattle.fp_tables.specs.Instances.{largest}
use Rattle.fp_tables.specs.Tops.{larger}
use Rattle.fp_tables.specs.declared.component.Command.{Command}
use Rattle.fp_tables.specs.declared.component.Event.{Event}
use Rattle.fp_tables.specs.declared.component.Channel.{Channel}
use Rattle.fp_tables.specs.declared.component.Param.{Param}
use Rattle.fp_tables.proofs.Largest.{largest_append}
use Rattle.fp_tables.proofs.tops.top_of.Goals as goal

pub returns : goal.returns
returns c =
    let a = c.largest_of-commands.ensures ∙ ap (λ xs. largest (map (λ (x : Command). x.opcode) xs)) c.as_slice.ensures in
    let b = c.largest_of-events.ensures ∙ ap (λ xs. largest (map (λ (x : Event). x.id) xs)) (c.as_slice-2).ensures in
    let d = c.largest_of-channels.ensures ∙ ap (λ xs. largest (map (λ (x : Channel). x.id) xs)) (c.as_slice-3).ensures in
    let e = c.largest_of-params.ensures ∙ ap (λ xs. largest (map (λ (x : Param). x.id) xs)) (c.as_slice-4).ensures in
    (c.larger-3).ensures
    ∙ ap₂ larger ((c.larger-2).ensures ∙ ap₂ larger (c.larger.ensures ∙ ap₂ larger a b ∙ sym (largest_append _ _)) d ∙ sym (largest_append _ _)) e
    ∙ sym (largest_append _ _)
