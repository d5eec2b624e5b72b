use Rattle.std.proofs.Common.{List, sym, subst}
use Rattle.fp_base.specs.Least.{IsLeast}
use Rattle.fp_base.proofs.Calculus.{least_along, least_either}
use Rattle.fp_written_parts.specs.declared.member.WrittenMember.{WrittenMember}
use Rattle.fp_dictdefs.specs.Broken.{BrokenLists, BrokenMembers}
use Rattle.fp_dictdefs.proofs.faults.component_fault.Goals as goal

pub returns : goal.returns
returns c =
    least_along (sym c.lesser.ensures)
    (least_either c.in_ok-of_lists.of_lists c.in_ok-of_members.of_members
    (subst (λ (ms : List WrittenMember). IsLeast (BrokenLists ms) c.in_ok-of_lists.of_lists) c.as_slice-members.ensures c.in_ok-of_lists.ensures)
    (subst (λ (ms : List WrittenMember). IsLeast (BrokenMembers c.args.types.now ms) c.in_ok-of_members.of_members) c.as_slice-members.ensures c.in_ok-of_members.ensures))
