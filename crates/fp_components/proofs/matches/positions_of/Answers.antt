use Rattle.std.proofs.Common.{◌≡◌, ◌∙◌, ◌<◌, ℕ, Option, Some, length, map, slice_get, refl, sym, ap, subst}
use Rattle.std.proofs.lemmas.List.{length-map}
use Rattle.std.proofs.lemmas.Option.{get_or_from_slice_get, slice_get-map, slice_get_read}
use Rattle.std.specs.Prelude.{option_map}
use denote.Ref.{Bor}
use Rattle.fp_tables.proofs.Firsts.{position_at}
use Rattle.fp_written_parts.specs.declared.port.WrittenPort.{WrittenPort}
use Rattle.fp_component_rules.specs.Firsts.{is_named}
use Rattle.fp_components.specs.Listing.{or_first}
use Rattle.fp_components.proofs.matches.positions_of.Goals as goal

abbrev behind : Bor WrittenPort → WrittenPort
behind port = port.now

pub loop-at-preserved : goal.loop-at-preserved
loop-at-preserved c = λ q.
    let ports = c.args.ports.now in
    let all = map behind ports in
    let n = c.loop-at.at in
    let port = c.index-ports-at.result in
    let there : slice_get ports n ≡ Some port = slice_get_read ports (length ports) n port refl c.loop-at-test.true c.index-ports-at.is in
    let at : slice_get all n ≡ Some port.now = slice_get-map behind ports n ∙ ap (option_map behind) there in
    let low : n < length all = subst (λ (k : ℕ). n < k) (sym (length-map ports behind)) c.loop-at-test.true in
    c.in_ok-note_port.ensures q ∙ ap (λ (o : Option ℕ). or_first o (is_named q port.now) n) (c.loop-at.invariant q)
    ∙ sym (position_at (is_named q) all n port.now low (sym (get_or_from_slice_get all n port.now port.now at)))
