use Rattle.std.proofs.Common.{take}
use Rattle.fp_components.specs.Listing.{AreListed}
use Rattle.fp_components.specs.Whole.{AreWholeMembers}
use Rattle.fp_components.proofs.parts.parts_of.Given as goal

abbrev pub invariant-loop-member : goal.invariant-loop-member
invariant-loop-member l = AreWholeMembers l.types.written.now l.members → AreListed l.types.written.now l.members (take l.member-index l.members) l.parts
