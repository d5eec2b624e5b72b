use Rattle.std.proofs.Common.{◌∙◌, List, ◌++◌, ap, flat_map, map}
use Rattle.std.proofs.lemmas.Result.{on_ok_weaker}
use Rattle.fp_tables.specs.declared.component.Channel.{Channel}
use Rattle.fp_tables.specs.declared.component.Command.{Command}
use Rattle.fp_tables.specs.declared.component.Event.{Event}
use Rattle.fp_tables.specs.declared.component.Param.{Param}
use Rattle.fp_dictionary.specs.Used.{kinds_of_formals}
use Rattle.fp_dictionary.proofs.Listed.{four_behind}
use Rattle.fp_dictionary.proofs.listing.push_component.Goals as goal

pub returns : goal.returns
returns c =
    let k = c.args.component.now in
    on_ok_weaker c.push_channels.result
    (λ e. four_behind c.args.kinds.now c.push_commands.new.kinds c.push_params.new.kinds c.push_events.new.kinds c.push_channels.new.kinds
    (flat_map (λ (x : Command). kinds_of_formals x.formals) k.commands) (map (λ (p : Param). p.kind) k.params)
    (flat_map (λ (x : Event). kinds_of_formals x.formals) k.events) (map (λ (t : Channel). t.kind) k.channels)
    (c.in_ok-push_commands.ensures ∙ ap (λ (xs : List Command). c.args.kinds.now ++ flat_map (λ (x : Command). kinds_of_formals x.formals) xs) c.as_slice.ensures)
    (c.in_ok-push_params.ensures ∙ ap (λ (xs : List Param). c.push_commands.new.kinds ++ map (λ (p : Param). p.kind) xs) (c.as_slice-2).ensures)
    (c.in_ok-push_events.ensures ∙ ap (λ (xs : List Event). c.push_params.new.kinds ++ flat_map (λ (x : Event). kinds_of_formals x.formals) xs) (c.as_slice-3).ensures)
    (e ∙ ap (λ (xs : List Channel). c.push_events.new.kinds ++ map (λ (t : Channel). t.kind) xs) (c.as_slice-4).ensures))
    c.push_channels.ensures
