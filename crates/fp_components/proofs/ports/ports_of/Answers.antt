use Rattle.std.proofs.Common.{◌≡◌, ◌∙◌, ◌≤◌, ℕ, Some, length, map, slice_get, refl, sym, ap, subst}
use Rattle.std.proofs.lemmas.List.{length-map}
use Rattle.std.proofs.lemmas.Option.{slice_get-map, slice_get_read}
use Rattle.std.specs.Prelude.{option_map}
use denote.Ref.{Bor}
use Rattle.fp_written_parts.specs.declared.port.WrittenPort.{WrittenPort}
use Rattle.fp_components.specs.Resolved.{PortIs}
use Rattle.fp_components.proofs.Each.{each_all, each_next, each_none}
use Rattle.fp_components.proofs.ports.ports_of.Goals as goal

abbrev behind : Bor WrittenPort → WrittenPort
behind port = port.now

pub loop-port-init : goal.loop-port-init
loop-port-init c whole = each_none (λ k. PortIs c.args.definitions.now) c.new-row.result c.new-row.ensures

pub loop-port-preserved : goal.loop-port-preserved
loop-port-preserved c whole =
    let ports = c.args.ports.now in
    let n = c.loop-port.port-index in
    let port = c.port-item.result in
    let there : slice_get ports n ≡ Some port = slice_get_read ports (length ports) n port refl c.loop-port-test.true c.port-item.is in
    let at : slice_get (map behind ports) n ≡ Some port.now = slice_get-map behind ports n ∙ ap (option_map behind) there in
    each_next (PortIs c.args.definitions.now) (map behind ports) n port.now c.loop-port.row _ c.in_ok-resolved.resolved at c.in_ok-push.ensures.ok
    (c.in_ok-resolved.ensures (whole n port.now at)) (c.loop-port.invariant whole)

pub returns : goal.returns
returns c whole =
    let ports = c.args.ports.now in
    let past : length (map behind ports) ≤ c.loop-port.port-index = subst (λ (n : ℕ). n ≤ c.loop-port.port-index) (sym (length-map ports behind)) c.loop-port-test.false in
    each_all (λ k. PortIs c.args.definitions.now) (map behind ports) c.loop-port.port-index c.loop-port.row past (c.loop-port.invariant whole)
