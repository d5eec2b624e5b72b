use Rattle.fp_grammar.proofs.Fits.{good_of}
use Rattle.fp_parse_defs.specs.Reading.{limit}
use Rattle.fp_parse_states.specs.Nested.{machine}
use Rattle.fp_parse_states.proofs.NestedFit.{machine_fits}
use Rattle.fp_parse_states.proofs.laws.one_machine.Goals as goal

pub returns : goal.returns
returns c = (good_of (machine limit) (machine_fits limit).predictive (machine_fits limit).refs).unique
