use Rattle.std.proofs.Common.{◌≡◌, ◌≤◌, ◌∙◌, Bool, List, Some, length, slice_get, take, refl, sym, ap}
use Rattle.std.specs.List.{list_any}
use Rattle.std.proofs.lemmas.List.{take_all}
use Rattle.std.proofs.lemmas.Option.{slice_get_read}
use denote.Ref.{Bor}
use Rattle.fp_base.proofs.Lists.{take_next}
use Rattle.fp_base.proofs.Passing.{any_pushed}
use Rattle.fp_written_parts.specs.declared.port.WrittenPort.{WrittenPort}
use Rattle.fp_component_rules.specs.Firsts.{has_port}
use Rattle.fp_component_rules.proofs.Meeting.{joined_as}
use Rattle.fp_component_rules.proofs.repeats.any_seen.Goals as goal

abbrev was_seen : List WrittenPort → Bor WrittenPort → Bool
was_seen seen port = has_port port.now.name seen

pub loop-port-init : goal.loop-port-init
loop-port-init c = refl

pub loop-port-preserved : goal.loop-port-preserved
loop-port-preserved c =
    let seen = c.args.seen.now in
    let ports = c.args.ports.now in
    let n = c.loop-port.port-index in
    let port = c.port-item.result in
    let at : slice_get ports n ≡ Some port = slice_get_read ports (length ports) n port refl c.loop-port-test.true c.port-item.is in
    joined_as _ _ _ _ c.loop-port.invariant c.has_name_of-found.ensures
    ∙ sym (ap (λ (ps : List (Bor WrittenPort)). list_any (was_seen seen) ps) (take_next ports n port at) ∙ any_pushed (was_seen seen) (take n ports) port)

pub returns : goal.returns
returns c =
    let over : length c.args.ports.now ≤ c.loop-port.port-index = c.loop-port-test.false in
    c.loop-port.invariant ∙ ap (λ (ps : List (Bor WrittenPort)). list_any (was_seen c.args.seen.now) ps) (take_all c.loop-port.port-index c.args.ports.now over)
