use Rattle.std.proofs.Common.{refl}
use Rattle.fp_parse_parts.proofs.Breaking.{broken_has_tokens}
use Rattle.fp_parse_parts.proofs.refusing.refused.Goals as goal

pub place-requires-clause-some : goal.place-requires-clause-some
place-requires-clause-some g c = broken_has_tokens g.F.FileKind.grammar _ _ c.requires.empty c.requires.broken

pub returns-in-Ok : goal.returns-in-Ok
returns-in-Ok g c = (refl, (_, _, c.requires.broken, c.place.ensures, c.in-Ok.ensures))
