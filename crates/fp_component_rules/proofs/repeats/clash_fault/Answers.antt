use Rattle.std.proofs.Common.{◌≡◌, ◌∙◌, Bool, Option, ap}
use denote.Ref.{Bor}
use Rattle.fp_base.specs.declared.refusal.Refusal.{Refusal}
use Rattle.fp_base.specs.declared.rule.Rule.TheVariants.{PortNameRepeated, SpecialPort}
use Rattle.fp_base.specs.Least.{lesser_of}
use Rattle.fp_written_parts.specs.declared.port.WrittenPort.{WrittenPort}
use Rattle.fp_component_rules.specs.Firsts.{has_port}
use Rattle.fp_component_rules.specs.Broken.{giver_at}
use Rattle.fp_component_rules.specs.Tested.{any_seen, fault_at, have_common}
use Rattle.fp_component_rules.proofs.Passing.{any_mapped}
use Rattle.fp_component_rules.proofs.repeats.clash_fault.Goals as goal

both_along : {a b c d : Option Refusal} → a ≡ c → b ≡ d → lesser_of a b ≡ lesser_of c d
both_along {b = b} {c = c} d e = ap (λ (o : Option Refusal). lesser_of o b) d ∙ ap (lesser_of c) e

pub returns : goal.returns
returns c =
    let gift = c.args.gift.now in
    let seen = c.args.seen.now in
    let place = giver_at c.args.member.now in
    let named : c.any_seen-named.result ≡ any_seen seen gift.firsts =
    c.any_seen-named.ensures ∙ any_mapped (λ (p : Bor WrittenPort). p.now) (λ (p : WrittenPort). has_port p.name seen) c.ports.result.now ∙ ap (any_seen seen) c.ports.ensures in
    c.lesser.ensures
    ∙ both_along
    (c.fault_at-of_name.ensures ∙ ap (λ (b : Bool). fault_at b PortNameRepeated c.giver_at-place.result) named ∙ ap (fault_at (any_seen seen gift.firsts) PortNameRepeated) c.giver_at-place.ensures)
    (c.fault_at-of_kind.ensures ∙ ap (λ (b : Bool). fault_at b SpecialPort c.giver_at-place.result) c.have_common-special.ensures ∙ ap (fault_at (have_common c.args.kinds gift.kinds) SpecialPort) c.giver_at-place.ensures)
