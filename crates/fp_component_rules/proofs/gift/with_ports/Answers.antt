use Rattle.std.proofs.Common.{◌≡◌, ◌∙◌, ◌++◌, [], ◌∷◌, List, Some, length, map, slice_get, take, refl, sym, ap, append_assoc}
use Rattle.std.proofs.lemmas.Option.{slice_get_read}
use Rattle.std.proofs.lemmas.List.{append-nil}
use denote.Ref.{Bor}
use Rattle.fp_base.proofs.Mapped.{mapped_next}
use Rattle.fp_written_parts.specs.declared.port.WrittenPort.{WrittenPort}
use Rattle.fp_component_rules.specs.Firsts.{of_each_name, with_port}
use Rattle.fp_component_rules.proofs.Named.{each_pushed}
use Rattle.fp_component_rules.proofs.gift.with_ports.Goals as goal

abbrev behind : Bor WrittenPort → WrittenPort
behind port = port.now

pub loop-port-init : goal.loop-port-init
loop-port-init c all is = is ∙ ap of_each_name (sym (append-nil all))

pub loop-port-preserved : goal.loop-port-preserved
loop-port-preserved c all is =
    let ports = c.args.ports.now in
    let n = c.loop-port.port-index in
    let port = c.port-item.result in
    let at : slice_get ports n ≡ Some port = slice_get_read ports (length ports) n port refl c.loop-port-test.true c.port-item.is in
    c.in_ok-firsts.ensures ∙ ap (with_port port.now) (c.loop-port.invariant all is) ∙ each_pushed port.now (all ++ map behind (take n ports))
    ∙ ap of_each_name (append_assoc all (map behind (take n ports)) (port.now ∷ []) ∙ ap (λ (ps : List WrittenPort). all ++ ps) (sym (mapped_next behind ports n port at)))
