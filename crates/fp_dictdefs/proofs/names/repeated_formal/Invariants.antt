use Rattle.fp_base.specs.declared.rule.Rule.TheVariants.{ParameterRepeated}
use Rattle.fp_written_parts.specs.declared.port.WrittenFormal.{WrittenFormal}
use Rattle.fp_dictdefs.proofs.Naming.{NamesFirst}
use Rattle.fp_dictdefs.proofs.names.repeated_formal.Given as goal

abbrev pub invariant-loop-formal : goal.invariant-loop-formal
invariant-loop-formal l = NamesFirst ParameterRepeated (λ (x : WrittenFormal). x.name) (λ (x : WrittenFormal). x.at) l.formals l.formal-index l.first l.seen
