use Rattle.std.proofs.Common.{◌≡◌, ◌≤◌, ◌∙◌, ◌||◌, Bool, List, Some, length, map, slice_get, take, refl, sym, ap}
use Rattle.std.proofs.lemmas.List.{take_all}
use Rattle.std.proofs.lemmas.Option.{slice_get_read}
use Rattle.std.proofs.Math.Bool.{or-false}
use denote.Ref.{Bor}
use Rattle.fp_base.proofs.Bools.{or_assoc}
use Rattle.fp_base.proofs.Mapped.{mapped_next}
use Rattle.fp_base.proofs.Passing.{any_pushed}
use Rattle.fp_written_parts.specs.declared.port.WrittenPort.{WrittenPort}
use Rattle.fp_component_rules.specs.Firsts.{has_port, is_named}
use Rattle.fp_component_rules.proofs.Passing.{has_with}
use Rattle.fp_component_rules.proofs.repeats.with_ports.Goals as goal

abbrev behind : Bor WrittenPort → WrittenPort
behind port = port.now

pub loop-port-init : goal.loop-port-init
loop-port-init c name = sym (or-false (has_port name c.args.before))

pub loop-port-preserved : goal.loop-port-preserved
loop-port-preserved c name =
    let ports = c.args.ports.now in
    let n = c.loop-port.port-index in
    let port = c.port-item.result in
    let at : slice_get ports n ≡ Some port = slice_get_read ports (length ports) n port refl c.loop-port-test.true c.port-item.is in
    let named = is_named name port.now in
    ap (has_port name) c.in_ok-seen.ensures ∙ has_with name port.now c.loop-port.seen
    ∙ ap (λ (b : Bool). b || named) (c.loop-port.invariant name)
    ∙ or_assoc (has_port name c.args.before) (has_port name (map behind (take n ports))) named
    ∙ ap (λ (b : Bool). has_port name c.args.before || b) (sym (ap (has_port name) (mapped_next behind ports n port at) ∙ any_pushed (is_named name) (map behind (take n ports)) port.now))

pub returns : goal.returns
returns c name =
    let over : length c.args.ports.now ≤ c.loop-port.port-index = c.loop-port-test.false in
    c.loop-port.invariant name ∙ ap (λ (ps : List (Bor WrittenPort)). has_port name c.args.before || has_port name (map behind ps)) (take_all c.loop-port.port-index c.args.ports.now over)
