use Rattle.std.proofs.Common.{◌≡◌, ◌∙◌, ℕ, ◌+◌, List, Option, Some, None, length, set, slice_get, sym, subst, ap, arith}
use Rattle.std.specs.Prelude.{option_and_then}
use Rattle.std.specs.Option.{option_copied}
use denote.Ref.{Bor}
use Rattle.fp_base.proofs.Lists.{get_along}
use Rattle.fp_base.proofs.Options.{none_unless}
use Rattle.fp_topologies.specs.declared.joining.Joined.{Joined}
use Rattle.fp_topologies.specs.Joined.{AreJoinedTo, IsJoined}
use Rattle.fp_topologies.proofs.FillingSteps.{joined_next, joined_passed}
use Rattle.fp_topologies.proofs.joining.join_next.Goals as goal

pub written_at-topology_written-requires : goal.written_at-topology_written-requires
written_at-topology_written-requires c =
    let here = get_along c.args.at c.vertex_at-topology.result c.deref.ensures.value c.vertex_at-topology.ensures in
    c.requires.order.within c.args.at c.vertex_at-topology.result here

pub put-requires : goal.put-requires
put-requires c =
    let here = get_along c.args.at c.vertex_at-topology.result c.deref.ensures.value c.vertex_at-topology.ensures in
    let lt = c.requires.order.within c.args.at c.vertex_at-topology.result here in
    let each = c.requires.before.each in
    omega arith

pub returns-in_default : goal.returns-in_default
returns-in_default c =
    let v = c.vertex_at-topology.result in
    let here = get_along c.args.at v c.deref.ensures.value c.vertex_at-topology.ensures in
    let found : c.closure_at.result ≡ None = none_unless c.closure_at.result c.in_default.not-Some in
    let none : option_and_then (λ (d : Option (List ℕ)). d) (slice_get c.args.imported.now.closures.items v) ≡ None =
    sym (ap (λ (ds : List (Option (List ℕ))). option_and_then (λ (d : Option (List ℕ)). d) (slice_get ds v)) c.as_slice.ensures.value) ∙ sym c.closure_at.ensures
    ∙ ap (λ (o : Option (Bor (List ℕ))). option_copied o) found in
    joined_passed c.args.written.now c.args.index.now.ports c.args.index.now.components c.args.index.now.instances c.args.imported.now.closures.items c.args.imported.now.order.items c.requires.order c.requires.closed
    c.args.at v c.args.joined.now.items here none c.requires.before

pub returns : goal.returns
returns c =
    let ts = c.args.written.now in
    let ds = c.args.index.now.ports in
    let cs = c.args.index.now.components in
    let is = c.args.index.now.instances in
    let closures = c.args.imported.now.closures.items in
    let order = c.args.imported.now.order.items in
    let js = c.args.joined.now.items in
    let v = c.vertex_at-topology.result in
    let o = c.written_at-topology_written.result.now in
    let one = c.in_ok-one.one in
    let closure = c.in-Some.closure.now in
    let here = get_along c.args.at v c.deref.ensures.value c.vertex_at-topology.ensures in
    let some : option_and_then (λ (d : Option (List ℕ)). d) (slice_get closures v) ≡ Some closure =
    sym (ap (λ (xs : List (Option (List ℕ))). option_and_then (λ (d : Option (List ℕ)). d) (slice_get xs v)) c.as_slice.ensures.value) ∙ sym c.in-Some.ensures in
    let over : IsJoined ts ds cs is js c.as_slice-3.result.now o one = subst (λ (xs : List Joined). IsJoined ts ds cs is xs c.as_slice-3.result.now o one) c.as_slice-2.ensures.value c.in_ok-one.ensures in
    let good : IsJoined ts ds cs is js closure o one = subst (λ (xs : List ℕ). IsJoined ts ds cs is js xs o one) c.as_slice-3.ensures over in
    subst (AreJoinedTo ts ds cs is closures order (c.args.at + 1)) (sym c.put.ensures)
    (joined_next ts ds cs is closures order c.requires.order c.requires.closed c.args.at v o closure one js here c.written_at-topology_written.ensures some good c.requires.before)
