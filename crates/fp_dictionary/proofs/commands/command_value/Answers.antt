use Rattle.std.proofs.Common.{◌∙◌, ap, rules}
use Rattle.serde_json.specs.Written.{has_float}
use Rattle.fp_dictionary.proofs.Floats.{command_no_float}
use Rattle.fp_dictionary.proofs.commands.command_value.Goals as goal

pub returns-clause-said : goal.returns-clause-said
returns-clause-said c = search rules

pub returns-clause-no_float : goal.returns-clause-no_float
returns-clause-no_float c = ap has_float (returns-clause-said c) ∙ command_no_float c.args.types.now c.args.instance.now c.args.command.now
