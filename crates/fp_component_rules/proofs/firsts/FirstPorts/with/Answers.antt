use denote.Ref.{Bor}
use Rattle.fp_written_parts.specs.declared.port.WrittenPort.{WrittenPort}
use Rattle.fp_component_rules.proofs.Naming.{known_names, known_ports, more_names, more_ports}
use Rattle.fp_component_rules.proofs.firsts.FirstPorts.with.Goals as goal

abbrev behind : Bor WrittenPort → WrittenPort
behind port = port.now

pub invariant_of-result : goal.invariant_of-result
invariant_of-result c =
    let i = c.self.inside in
    more_names i.ports.items _ c.args.port i.names _ _ c.as_str.ensures c.self.invariant c.in_ok-added.ensures.names c.in_ok-push.ensures.items

pub invariant_of-result-else-added : goal.invariant_of-result-else-added
invariant_of-result-else-added c =
    let i = c.self.inside in
    known_names i.ports.items c.args.port i.names _ _ _ c.as_str.ensures c.self.invariant c.in_ok-added.ensures.names c.in_ok-added.ensures.added c.if-added.false

pub returns-in_ok-push : goal.returns-in_ok-push
returns-in_ok-push c =
    let i = c.self.inside in
    more_ports i.ports.items _ c.args.port i.names _ _ c.args.self c.as_str.ensures c.self.invariant c.in_ok-added.ensures.added c.if-added.true c.in_ok-push.ensures.items c.self.view_is

pub returns-else-added : goal.returns-else-added
returns-else-added c =
    let i = c.self.inside in
    known_ports i.ports.items c.args.port i.names _ _ c.args.self c.as_str.ensures c.self.invariant c.in_ok-added.ensures.added c.if-added.false c.self.view_is
