use Rattle.std.proofs.Common.{◌≡◌, ℕ, take}
use Rattle.std.specs.Ordering.{nat_cmp}
use Rattle.std.specs.BTreeMap.{get_by}
use Rattle.fp_listing.specs.Members.{save_opcode}
use Rattle.fp_listing.proofs.opcodes.save_opcodes.Given as goal

abbrev pub invariant-loop-command : goal.invariant-loop-command
invariant-loop-command l = (q : ℕ) → get_by (nat_cmp q) l.opcodes ≡ save_opcode (take l.command-index l.commands) q
