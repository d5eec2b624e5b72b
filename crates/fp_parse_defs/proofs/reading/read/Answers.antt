use Rattle.fp_parse_defs.proofs.ReadingLemmas.{read_some, read_none}
use Rattle.fp_parse_defs.proofs.reading.read.Goals as goal

pub returns-in-Ok-clause-reads : goal.returns-in-Ok-clause-reads
returns-in-Ok-clause-reads g c = read_some c.requires.fits (c.in-Ok.ensures.parses c.requires.fits)

pub returns-in-Err-Unexpected-clause-reads : goal.returns-in-Err-Unexpected-clause-reads
returns-in-Err-Unexpected-clause-reads g c = read_none c.requires.fits (rw c.in-Err-Unexpected.field-0-is at (c.in-Err-Unexpected.ensures.parses c.requires.fits))
