use Rattle.fp_formats.proofs.Readings.{only_format, field_refused, brace_refused}
use Rattle.fp_formats.proofs.reading.read_format.Goals as goal

pub returns-clause-only_format : goal.returns-clause-only_format
returns-clause-only_format c = only_format c.args.text.now c.read_pieces.result c.read_pieces.ensures

pub returns-clause-field : goal.returns-clause-field
returns-clause-field c = field_refused c.args.text.now c.read_pieces.result c.read_pieces.ensures

pub returns-clause-brace : goal.returns-clause-brace
returns-clause-brace c = brace_refused c.args.text.now c.read_pieces.result c.read_pieces.ensures
