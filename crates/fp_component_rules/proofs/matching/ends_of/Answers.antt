use Rattle.std.proofs.Common.{◌≡◌, ◌≤◌, ◌∙◌, List, Some, length, map, slice_get, take, refl, sym, ap}
use Rattle.std.specs.Prelude.{option_map}
use Rattle.std.specs.List.{find}
use Rattle.std.proofs.lemmas.List.{take_all}
use Rattle.std.proofs.lemmas.Option.{slice_get_read}
use denote.Ref.{Bor}
use Rattle.fp_base.proofs.Mapped.{mapped_next}
use Rattle.fp_written_parts.specs.declared.port.WrittenPort.{WrittenPort}
use Rattle.fp_component_rules.specs.Firsts.{is_named}
use Rattle.fp_component_rules.specs.Tested.{end_of, find_end}
use Rattle.fp_component_rules.proofs.Noting.{end_added, no_ends}
use Rattle.fp_component_rules.proofs.matching.ends_of.Goals as goal

abbrev behind : Bor WrittenPort → WrittenPort
behind port = port.now

pub loop-port-init : goal.loop-port-init
loop-port-init c q = no_ends c.new-ends.result c.new-ends.ensures.empty q

pub loop-port-preserved : goal.loop-port-preserved
loop-port-preserved c q =
    let ports = c.args.ports.now in
    let n = c.loop-port.port-index in
    let port = c.port-item.result in
    let at : slice_get ports n ≡ Some port = slice_get_read ports (length ports) n port refl c.loop-port-test.true c.port-item.is in
    end_added q (map behind (take n ports)) port.now c.as_str.result.now c.end_of.result (find_end c.loop-port.ends q) _ c.as_str.ensures c.end_of.ensures (c.loop-port.invariant q)
    (c.in_ok-note.ensures q)
    ∙ ap (λ (ps : List WrittenPort). option_map end_of (find (is_named q) ps)) (sym (mapped_next behind ports n port at))

pub returns : goal.returns
returns c q =
    let over : length c.args.ports.now ≤ c.loop-port.port-index = c.loop-port-test.false in
    c.loop-port.invariant q ∙ ap (λ (ps : List (Bor WrittenPort)). option_map end_of (find (is_named q) (map behind ps))) (take_all c.loop-port.port-index c.args.ports.now over)
