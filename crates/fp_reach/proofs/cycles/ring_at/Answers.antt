use Rattle.std.proofs.Common.{◌≡◌, ◌∙◌, slice_get, Some, ap, sym}
use Rattle.fp_base.proofs.Options.{same_some}
use Rattle.fp_reach.specs.declared.vertex.Vertex.{Vertex}
use Rattle.fp_reach.proofs.Firsts.{one_of_other}
use Rattle.fp_reach.proofs.cycles.ring_at.Goals as goal

pub returns-in-Some : goal.returns-in-Some
returns-in-Some c =
    let v = c.in-Some.vertex in
    let at : slice_get c.args.vertices.now c.args.at ≡ Some v = sym c.vertex_at.ensures ∙ c.in-Some.is in
    one_of_other (λ (x : Vertex). v ≡ x) (λ (x : Vertex). slice_get c.args.vertices.now c.args.at ≡ Some x) (λ x e. at ∙ ap Some e) (λ x e. same_some (sym at ∙ e)) c.ring_in.result c.ring_in.ensures

pub returns-in-None : goal.returns-in-None
returns-in-None c = λ n k e. let none = sym c.vertex_at.ensures ∙ c.in-None.is in cc
