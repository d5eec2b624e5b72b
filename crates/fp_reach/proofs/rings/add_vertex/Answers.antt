use Rattle.std.proofs.Common.{◌∙◌, ap, List, ℕ, length}
use Rattle.fp_reach.proofs.Numbering.{numbered_now}
use Rattle.fp_reach.proofs.rings.add_vertex.Goals as goal

pub returns : goal.returns
returns g c =
    numbered_now g.K.Ord.cmp c.args.vertex c.in_ok-number.number _ _ _ _ c.requires (c.in_ok-number.ensures ∙ ap (λ (rows : List (List ℕ)). length rows) c.as_slice.ensures.value)
    c.in_ok-put.ensures.each c.in_ok-put.ensures.here c.in_ok-push_empty.ensures
