use Rattle.std.proofs.Common.{◌≡◌, ◌∙◌, List, slice_get, subst, sym, ap₂, Some, BTreeMap, ℕ}
use denote.Ref.{Bor}
use Rattle.fp_topologies.specs.Indexed.{Indexed}
use Rattle.fp_topologies.specs.Firsts.{named_in}
use Rattle.fp_topologies.specs.Ports.{port_named}
use Rattle.fp_topologies.proofs.Finding.{none_at, used_at}
use Rattle.fp_topologies.proofs.index.PortIndex.port_used.Goals as goal

pub returns-in-Some : goal.returns-in-Some
returns-in-Some c =
    let x = c.in-Some.instance.now in
    let i = c.args.used.now.used.instance in
    let name = c.args.used.now.port in
    let firsts = c.self.inside.firsts.items in
    let here : Some x ≡ slice_get c.self.inside.instances.now i = subst (λ (v : Indexed). Some x ≡ slice_get v.instances i) (sym c.self.view_is) c.in-Some.ensures in
    c.first_named.ensures
    ∙ ap₂ (λ (ms : List (BTreeMap (Bor (List ℕ)) ℕ)) (n : List ℕ). named_in ms x.component n) c.as_slice.ensures.value
    c.as_str.ensures
    ∙ subst (λ (v : Indexed). named_in firsts x.component name ≡ port_named v.components v.instances i name) c.self.view_is
    (used_at c.self.inside.components.now c.self.inside.instances.now firsts i x name c.self.invariant here)

pub returns-in-None : goal.returns-in-None
returns-in-None c = none_at c.args.self.now.components c.args.self.now.instances c.args.used.now.used.instance c.args.used.now.port c.in-None.ensures
