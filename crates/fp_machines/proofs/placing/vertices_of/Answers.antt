use Rattle.std.proofs.Common.{inl, inr, arith, ⊎_elim}
use Rattle.std.specs.Slice.Iter.{iter_rest}
use Rattle.std.specs.Iterator.Adapters.{zip_first, zip_second}
use Rattle.std.specs.Vec.Iter.{into_iter_items}
use Rattle.fp_machines.proofs.Vertices.{nothing_left}
use Rattle.fp_machines.proofs.placing.vertices_of.Goals as goal

pub returns : goal.returns
returns c = λ es a.
    let both = c.loop-element.element-iterator in
    nothing_left es (iter_rest (zip_first both)) (into_iter_items (zip_second both)) _ _
    (⊎_elim (λ u. inl u.1.0) (λ u. inr (omega (arith, u.1.0, (zip_second both).rest.ok.0))) c.in-None.ensures.steps) (c.loop-element.invariant es a)
