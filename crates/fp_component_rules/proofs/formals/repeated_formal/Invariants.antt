use Rattle.fp_component_rules.proofs.PortNaming.{NamesFirst}
use Rattle.fp_component_rules.proofs.formals.repeated_formal.Given as goal

abbrev pub invariant-loop-formal : goal.invariant-loop-formal
invariant-loop-formal l = NamesFirst l.formals l.formal-index l.first l.seen
