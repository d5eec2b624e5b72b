use Rattle.fp_grammar.proofs.BrokenLemmas.{spelled_or_broken}
use Rattle.fp_grammar.proofs.Throughout.{fits_whole}
use Rattle.fp_parse_states.specs.Nested.{machine}
use Rattle.fp_parse_states.proofs.NestedFit.{machine_fits}
use Rattle.fp_parse_states.proofs.MachinesDecided.{machine_decided}
use Rattle.fp_parse_states.proofs.laws.machine_or_break.Goals as goal

pub returns : goal.returns
returns c = λ depth tokens. spelled_or_broken (machine depth) (fits_whole (machine_fits depth)) (machine_decided depth) tokens
