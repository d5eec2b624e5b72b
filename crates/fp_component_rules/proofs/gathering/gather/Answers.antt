use Rattle.std.proofs.Common.{◌+◌, Bool, true, false, List, length, sym, subst, ap, arith}
use Rattle.fp_base.proofs.Spots.{item_below}
use Rattle.fp_base.proofs.Lists.{get_along}
use Rattle.fp_component_rules.specs.declared.gift.Gift.{Gift}
use Rattle.fp_component_rules.specs.Gathered.{AreGathered}
use Rattle.fp_component_rules.specs.Gifts.{IsGift, Serves}
use Rattle.fp_component_rules.proofs.Ordered.{gathered_next, gathered_passed, serves_next}
use Rattle.fp_component_rules.proofs.gathering.gather.Goals as goal

pub returns-then-is_flagged : goal.returns-then-is_flagged
returns-then-is_flagged c =
    let v = c.vertex_at-vertex.result in
    let here = get_along c.args.at v c.deref.ensures.value c.vertex_at-vertex.ensures in
    let flag = get_along v true c.deref-2.ensures.value c.if-is_flagged.ensures in
    gathered_passed c.args.interfaces.now c.args.sorted.now.order.items c.args.sorted.now.cyclic.items c.requires.order c.requires.cyclic c.args.at v c.args.gifts.now.items here flag c.requires.before

pub is_flagged-requires : goal.is_flagged-requires
is_flagged-requires c =
    let here = get_along c.args.at c.vertex_at-vertex.result c.deref.ensures.value c.vertex_at-vertex.ensures in
    let lt = c.requires.order.within c.args.at c.vertex_at-vertex.result here in
    let each = c.requires.cyclic.each in
    let same = ap (λ (l : List Bool). length l) c.deref-2.ensures.value in
    omega arith

pub members_at-members-requires : goal.members_at-members-requires
members_at-members-requires c =
    let here = get_along c.args.at c.vertex_at-vertex.result c.deref.ensures.value c.vertex_at-vertex.ensures in
    c.requires.order.within c.args.at c.vertex_at-vertex.result here

pub note-requires : goal.note-requires
note-requires c =
    let here = get_along c.args.at c.vertex_at-vertex.result c.deref.ensures.value c.vertex_at-vertex.ensures in
    let lt = c.requires.order.within c.args.at c.vertex_at-vertex.result here in
    let each = c.requires.before.each in
    omega arith

pub returns : goal.returns
returns c =
    let fs = c.args.interfaces.now in
    let order = c.args.sorted.now.order.items in
    let cyclic = c.args.sorted.now.cyclic.items in
    let gifts = c.args.gifts.now.items in
    let v = c.vertex_at-vertex.result in
    let here = get_along c.args.at v c.deref.ensures.value c.vertex_at-vertex.ensures in
    let flag = get_along v false c.deref-2.ensures.value c.if-is_flagged.ensures in
    let t = item_below fs v (c.requires.order.within c.args.at v here) in
    let members_are = c.members_at-members.ensures t.0 t.1 in
    let serves = serves_next fs order cyclic c.requires.order c.requires.cyclic c.args.at v t.0 gifts here flag t.1 c.requires.before in
    let serves_slice : Serves fs c.as_slice.result.now t.0.members = subst (λ (gs : List Gift). Serves fs gs t.0.members) (sym c.as_slice.ensures.value) serves in
    let serves_here : Serves fs c.as_slice.result.now c.members_at-members.result.now = subst (Serves fs c.as_slice.result.now) (sym members_are) serves_slice in
    let is_gift : IsGift fs t.0.members c.in_ok-gift.gift = subst (λ ms. IsGift fs ms c.in_ok-gift.gift) members_are (c.in_ok-gift.ensures fs serves_here) in
    subst (AreGathered fs order (c.args.at + 1)) (sym c.note.ensures)
    (gathered_next fs order cyclic c.requires.order c.requires.cyclic c.args.at v t.0 c.in_ok-gift.gift gifts here flag t.1 c.requires.before is_gift)
