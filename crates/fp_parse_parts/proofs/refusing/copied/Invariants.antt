use Rattle.std.proofs.Common.{◌≡◌, take}
use Rattle.fp_parse_parts.proofs.refusing.copied.Given as goal

abbrev pub invariant-loop-token : goal.invariant-loop-token
invariant-loop-token l = l.row ≡ take l.token-index l.tokens
