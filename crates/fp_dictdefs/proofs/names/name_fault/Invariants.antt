use Rattle.fp_base.specs.declared.rule.Rule.TheVariants.{NameRepeated}
use Rattle.fp_dictdefs.specs.declared.listed.Listed.{Listed}
use Rattle.fp_dictdefs.proofs.Naming.{NamesFirst}
use Rattle.fp_dictdefs.proofs.names.name_fault.Given as goal

abbrev pub invariant-loop-one : goal.invariant-loop-one
invariant-loop-one l = NamesFirst NameRepeated (λ (x : Listed). x.name) (λ (x : Listed). x.at) l.list l.one-index l.first l.seen
