use Rattle.fp_source_parts.proofs.Imports.{components_within, interfaces_within}
use Rattle.fp_source_parts.proofs.laws.written_imports_lie.Goals as goal

pub returns-clause-interfaces : goal.returns-clause-interfaces
returns-clause-interfaces c source written are = interfaces_within source written are

pub returns-clause-components : goal.returns-clause-components
returns-clause-components c source written are = components_within source written are
