use Rattle.fp_parse_defs.proofs.DefinitionsFit.{definition_parts_fit}
use Rattle.fp_parse_defs.proofs.definitions.definition.Goals as goal

pub returns : goal.returns
returns c = c.read.ensures.parses (definition_parts_fit c.args.depth)
