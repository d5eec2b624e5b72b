use Rattle.std.proofs.Common.{◌∙◌, List, map, sym, ap}
use denote.Ref.{Bor}
use Rattle.fp_base.proofs.KeySets.{no_name}
use Rattle.fp_written_parts.specs.declared.port.WrittenPort.{WrittenPort}
use Rattle.fp_component_rules.specs.Firsts.{has_port}
use Rattle.fp_component_rules.proofs.firsts.FirstPorts.new.Goals as goal

pub invariant_of-result : goal.invariant_of-result
invariant_of-result c q = no_name c.new-2.result c.new-2.ensures.empty q ∙ sym (ap (λ (ports : List (Bor WrittenPort)). has_port q (map (λ (port : Bor WrittenPort). port.now) ports)) c.new.ensures.items)
