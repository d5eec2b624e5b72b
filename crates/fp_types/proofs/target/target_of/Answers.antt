use Rattle.std.proofs.Common.{Bool, cond, None, sym, ap, ◌∙◌}
use Rattle.fp_types.specs.Read.{end_target}
use Rattle.fp_types.proofs.Opening.{target_found, target_unfound, is_target}
use Rattle.fp_types.proofs.Through.{through_found, through_unfound, is_through}
use Rattle.fp_types.proofs.target.target_of.Goals as goal

pub returns-in-Some-clause-becomes : goal.returns-in-Some-clause-becomes
returns-in-Some-clause-becomes c are =
    is_target c.args.types.now c.args.kind _ _ (c.end_if.ensures ∙ ap (λ (b : Bool). cond b (end_target c.args.types.now c.in-Some.extent.end) None) c.is_few.ensures)
    (target_found c.args.types.now c.args.extents.now are c.args.kind c.in-Some.extent (sym c.kind_extent.ensures ∙ c.in-Some.is))

pub returns-in-Some-clause-meets : goal.returns-in-Some-clause-meets
returns-in-Some-clause-meets c are =
    is_through c.args.types.now c.args.kind _ _ (c.end_if.ensures ∙ ap (λ (b : Bool). cond b (end_target c.args.types.now c.in-Some.extent.end) None) c.is_few.ensures)
    (through_found c.args.types.now c.args.extents.now are c.args.kind c.in-Some.extent (sym c.kind_extent.ensures ∙ c.in-Some.is))

pub returns-in-None-clause-becomes : goal.returns-in-None-clause-becomes
returns-in-None-clause-becomes c are = target_unfound c.args.types.now c.args.extents.now are c.args.kind (sym c.kind_extent.ensures ∙ c.in-None.is)

pub returns-in-None-clause-meets : goal.returns-in-None-clause-meets
returns-in-None-clause-meets c are = through_unfound c.args.types.now c.args.extents.now are c.args.kind (sym c.kind_extent.ensures ∙ c.in-None.is)
