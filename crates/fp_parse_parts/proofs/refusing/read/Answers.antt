use Rattle.fp_parse_parts.proofs.Reaching.{reached_by_node, reached_by_halt}
use Rattle.fp_parse_parts.proofs.refusing.read.Goals as goal

pub returns-in-Ok : goal.returns-in-Ok
returns-in-Ok g c = reached_by_node _ c.requires _ _ _ c.in-Ok.ensures

pub returns-in-Err-Unexpected : goal.returns-in-Err-Unexpected
returns-in-Err-Unexpected g c = reached_by_halt _ c.requires _ _ _ c.in-Err-Unexpected.field-0-is c.in-Err-Unexpected.ensures
