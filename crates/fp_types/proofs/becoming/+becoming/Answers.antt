use Rattle.std.proofs.Common.{ℕ, None, refl, ap, subst, length, arith}
use Rattle.std.proofs.lemmas.Option.{slice_get_read}
use Rattle.std.specs.Prelude.{option_map}
use Rattle.std.specs.Int.{w128}
use Rattle.std.proofs.lemmas.Int.{to_z-of_z}
use Rattle.fp_base.specs.declared.value.Value.TheOpen as value
use Rattle.fp_base.proofs.Options.{if_ok_then}
use Rattle.fp_types.specs.Converting.{opened, member, integer, truth, words, array, struct, constants, opaque, of_kind}
use Rattle.fp_types.specs.Read.{meant}
use Rattle.fp_types.specs.Making.{Enough, Suffices, SufficesEach, SufficesIn}
use Rattle.fp_types.proofs.Opening.{no_levels}
use Rattle.fp_types.proofs.Made.{truth_made, words_made, constant_made, nothing_made, in_each_part_made, part_by_part_made, other_length, items_are, no_array, in_each_member_made, parts_are, carried, target_some, target_none, full_field, no_struct, same_made, same_value, at_target, integer_made_of, made_some, made_none, part_some, part_none, named_made, unnamed_made, member_sized, member_single, becomes_made, not_single}
use Rattle.fp_types.proofs.Loops.{each_first, each_next, each_last, each_none, members_first, members_next, members_last, members_none, in_each_first, in_each_next, in_each_last, in_each_none}
use Rattle.fp_types.proofs.becoming.+becoming.Goals as goal

pub becomes-returns-then-depth-eq0 : goal.becomes-returns-then-depth-eq0
becomes-returns-then-depth-eq0 t c = λ full w h. no_levels c.args.types.now c.args.kind (subst (λ (n : ℕ). Enough c.args.types.now n c.args.kind) c.if-depth-eq0.true full.enough) h

pub becomes-returns-in-Some : goal.becomes-returns-in-Some
becomes-returns-in-Some t c =
    if_ok_then c.into.result _ _
    (λ m h. becomes_made c.args.types.now c.args.defaults.now c.args.depth c.args.kind (opened c.args.value.now) _ m
    (target_some c.args.types.now c.args.kind _ _ (ap (λ (o : _). option_map meant o) c.in-Some.is) (c.target_of.ensures.becomes c.requires.known.sizes)) h) c.into.ensures

pub becomes-returns-in-None : goal.becomes-returns-in-None
becomes-returns-in-None t c =
    target_none c.args.types.now _ c.args.kind _ (opened c.args.value.now) (ap (λ (o : _). option_map meant o) c.in-None.is) (c.target_of.ensures.becomes c.requires.known.sizes)

pub into-returns-in-Integer : goal.into-returns-in-Integer
into-returns-in-Integer t c =
    let o = opened c.args.value.now in
    same_made c.args.types.now _ o _ (integer c.in-Integer.low c.in-Integer.high) _ _ (ap meant c.in-Integer.is) c.as_integer.ensures
    (integer_made_of c.args.types.now _ c.in-Integer.low c.in-Integer.high _ _ o (to_z-of_z w128 c.in-Integer.low (search)) (to_z-of_z w128 c.in-Integer.high (search)))

pub into-returns-in-Truth : goal.into-returns-in-Truth
into-returns-in-Truth t c =
    let o = opened c.args.value.now in
    same_made c.args.types.now _ o _ truth _ _ (ap meant c.in-Truth.is) c.as_truth.ensures (truth_made c.args.types.now _ o)

pub into-returns-in-Words : goal.into-returns-in-Words
into-returns-in-Words t c =
    let o = opened c.args.value.now in
    if_ok_then c.as_words.result _ _ (λ m e. same_made c.args.types.now _ o _ words m _ (ap meant c.in-Words.is) e (words_made c.args.types.now _ o)) c.as_words.ensures

pub into-returns-in-Constants : goal.into-returns-in-Constants
into-returns-in-Constants t c =
    let o = opened c.args.value.now in
    let cs = c.in-Constants.constants.now in
    if_ok_then c.as_constant.result _ _ (λ m e. same_made c.args.types.now _ o _ (constants cs) m _ (ap meant c.in-Constants.is) e (constant_made c.args.types.now _ cs o)) c.as_constant.ensures

pub into-returns-in-Array : goal.into-returns-in-Array
into-returns-in-Array t c =
    if_ok_then c.in_array.result _ _
    (λ m h. at_target c.args.types.now c.args.defaults.now c.args.depth (opened c.args.value.now) _ (array c.in-Array.size c.in-Array.element) m (ap meant c.in-Array.is) h) c.in_array.ensures

pub into-returns-in-Struct : goal.into-returns-in-Struct
into-returns-in-Struct t c =
    if_ok_then c.in_struct.result _ _
    (λ m h. at_target c.args.types.now c.args.defaults.now c.args.depth (opened c.args.value.now) _ (struct c.in-Struct.rest c.in-Struct.fields.now) m (ap meant c.in-Struct.is) h) c.in_struct.ensures

pub into-returns-in-Opaque : goal.into-returns-in-Opaque
into-returns-in-Opaque t c =
    let o = opened c.args.value.now in
    let s = meant c.args.target.now in
    let r = SufficesIn c.args.types.now c.args.defaults.now c.args.depth s in
    same_made c.args.types.now r o s opaque None None (ap meant c.in-Opaque.is) refl (nothing_made c.args.types.now r o)

pub into-returns-in-OfKind : goal.into-returns-in-OfKind
into-returns-in-OfKind t c =
    if_ok_then c.becomes.result _ _
    (λ m h. at_target c.args.types.now c.args.defaults.now c.args.depth (opened c.args.value.now) _ (of_kind c.in-OfKind.kind) m (ap meant c.in-OfKind.is) h) c.becomes.ensures

pub in_array-returns-then-single : goal.in_array-returns-then-single
in_array-returns-then-single t c =
    let types = c.args.types.now in
    let o = opened c.args.value.now in
    let k = c.args.element in
    let r = Suffices types c.args.defaults.now c.args.depth k in
    if_ok_then c.repeated.result _ _
    (λ m e. same_made types r o _ _ m _ refl e (in_each_part_made types r c.args.size k o c.in_ok-made.made (c.is_single-single.ensures.0 c.if-single.true) c.in_ok-made.ensures)) c.repeated.ensures

pub in_array-returns-in-Some : goal.in_array-returns-in-Some
in_array-returns-in-Some t c =
    let types = c.args.types.now in
    let o = opened c.args.value.now in
    let r = Suffices types c.args.defaults.now c.args.depth c.args.element in
    if_ok_then c.part_by_part.result _ _
    (λ m h. same_value types r _ o (array c.args.size c.args.element) m (items_are types r o c.in-Some.items.now c.in-Some.ensures) h) c.part_by_part.ensures

pub in_array-returns-in-None : goal.in_array-returns-in-None
in_array-returns-in-None t c =
    let types = c.args.types.now in
    no_array types (Suffices types c.args.defaults.now c.args.depth c.args.element) c.args.size c.args.element (opened c.args.value.now) c.in-None.ensures
    (not_single c.is_single-single.result c.if-single.false c.is_single-single.ensures)

pub part_by_part-returns-then-len-size : goal.part_by_part-returns-then-len-size
part_by_part-returns-then-len-size t c =
    let types = c.args.types.now in
    other_length types (Suffices types c.args.defaults.now c.args.depth c.args.element) c.args.size c.args.element c.args.items.now c.if-len-size.true

pub part_by_part-returns : goal.part_by_part-returns
part_by_part-returns t c =
    let types = c.args.types.now in
    let r = Suffices types c.args.defaults.now c.args.depth c.args.element in
    let items = c.args.items.now in
    same_made types r (value.Array items) _ _ _ _ refl c.listed.ensures
    (part_by_part_made types r c.args.size c.args.element items c.in_ok-made.made c.if-len-size.false c.in_ok-made.ensures)

pub each-loop-item-init : goal.each-loop-item-init
each-loop-item-init t c = each_first c.args.types.now c.args.kind c.new-made.result c.new-made.ensures

pub each-loop-item-preserved : goal.each-loop-item-preserved
each-loop-item-preserved t c =
    let types = c.args.types.now in
    let k = c.args.kind in
    let r = Suffices types c.args.defaults.now c.args.depth k in
    let item = c.item-item.result in
    each_next types k c.args.items.now c.loop-item.item-index item c.in-Some.value c.loop-item.made c.push.new.self c.loop-item-test.true c.item-item.is c.loop-item.invariant
    (made_some types r (opened item) (of_kind k) c.in_ok-next.next c.in-Some.value c.in-Some.is c.in_ok-next.ensures) c.in_ok-push-in-Some.ensures.ok

pub each-returns-in-None : goal.each-returns-in-None
each-returns-in-None t c =
    let types = c.args.types.now in
    let k = c.args.kind in
    let r = Suffices types c.args.defaults.now c.args.depth k in
    let item = c.item-item.result in
    each_none types r k c.args.items.now c.loop-item.item-index item c.loop-item-test.true c.item-item.is
    (made_none types r (opened item) (of_kind k) c.in_ok-next.next c.in-None.is c.in_ok-next.ensures)

pub each-returns : goal.each-returns
each-returns t c = each_last c.args.types.now c.args.kind c.args.items.now c.loop-item.item-index c.loop-item.made (omega arith) c.loop-item.invariant

pub in_struct-returns-then-single : goal.in_struct-returns-then-single
in_struct-returns-then-single t c =
    let types = c.args.types.now in
    let o = opened c.args.value.now in
    let fields = c.args.fields.now in
    let r = SufficesEach types c.args.defaults.now c.args.depth fields in
    carried types r _ o _ _ (λ full. full.0)
    (same_made types r o _ _ _ _ refl c.structured.ensures
    (in_each_member_made types r c.args.rest fields o c.in_ok-made.made (c.is_single-single.ensures.0 c.if-single.true) c.in_ok-made.ensures))

pub in_struct-returns-in_ok-given-in-Some : goal.in_struct-returns-in_ok-given-in-Some
in_struct-returns-in_ok-given-in-Some t c =
    let types = c.args.types.now in
    let o = opened c.args.value.now in
    let fields = c.args.fields.now in
    let parts = c.in-Some.parts.now in
    if_ok_then c.finished.result _ _
    (λ m h. same_value types _ _ o (struct c.args.rest fields) m (parts_are types (SufficesEach types c.args.defaults.now c.args.depth fields) o parts c.in-Some.ensures)
    (h types c.args.depth parts c.requires.known.sound c.in_ok-given-in-Some.ensures)) c.finished.ensures

pub in_struct-returns-in-None : goal.in_struct-returns-in-None
in_struct-returns-in-None t c =
    let types = c.args.types.now in
    let fields = c.args.fields.now in
    no_struct types _ c.args.rest fields (opened c.args.value.now) c.in-None.ensures
    (not_single c.is_single-single.result c.if-single.false c.is_single-single.ensures)

pub members-loop-part-init : goal.members-loop-part-init
members-loop-part-init t c = members_first c.args.types.now c.args.fields.now c.new-given.result c.new-given.ensures

pub members-loop-part-preserved : goal.members-loop-part-preserved
members-loop-part-preserved t c =
    let types = c.args.types.now in
    let fields = c.args.fields.now in
    let r = SufficesEach types c.args.defaults.now c.args.depth fields in
    let p = c.part-item.result in
    members_next types fields c.args.parts.now c.loop-part.part-index p c.in_ok-name-in-Some.name c.in-Some.value c.loop-part.given c.push.new.self c.loop-part-test.true c.part-item.is
    c.loop-part.invariant c.in_ok-name-in-Some.ensures (part_some types r fields p c.in_ok-next.next c.in-Some.value c.in-Some.is c.in_ok-next.ensures) c.in_ok-push-in-Some.ensures.ok

pub members-returns-in-None : goal.members-returns-in-None
members-returns-in-None t c =
    let types = c.args.types.now in
    let fields = c.args.fields.now in
    let r = SufficesEach types c.args.defaults.now c.args.depth fields in
    let p = c.part-item.result in
    members_none types r fields c.args.parts.now c.loop-part.part-index p c.loop-part-test.true c.part-item.is
    (part_none types r fields p c.in_ok-next.next c.in-None.is c.in_ok-next.ensures)

pub members-returns : goal.members-returns
members-returns t c = members_last c.args.types.now c.args.fields.now c.args.parts.now c.loop-part.part-index c.loop-part.given (omega arith) c.loop-part.invariant

pub in_named-returns-in-Some : goal.in_named-returns-in-Some
in_named-returns-in-Some t c =
    if_ok_then c.in_member.result _ _
    (λ m h. named_made c.args.types.now c.args.defaults.now c.args.depth c.args.fields.now c.args.part.now c.in-Some.field.now m c.in-Some.ensures h) c.in_member.ensures

pub in_named-returns-in-None : goal.in_named-returns-in-None
in_named-returns-in-None t c =
    let types = c.args.types.now in
    let fields = c.args.fields.now in
    unnamed_made types (SufficesEach types c.args.defaults.now c.args.depth fields) fields c.args.part.now c.in-None.ensures

pub in_each_member-loop-field-init : goal.in_each_member-loop-field-init
in_each_member-loop-field-init t c = in_each_first c.args.types.now (opened c.args.value.now) c.new-made.result c.new-made.ensures

pub in_each_member-loop-field-preserved : goal.in_each_member-loop-field-preserved
in_each_member-loop-field-preserved t c =
    let types = c.args.types.now in
    let o = opened c.args.value.now in
    let f = c.field-item.result in
    in_each_next types o c.args.fields.now c.loop-field.field-index f c.in_ok-name-in-Some.name c.in-Some.value c.loop-field.made c.push.new.self c.loop-field-test.true c.field-item.is
    c.loop-field.invariant c.in_ok-name-in-Some.ensures (made_some types (Suffices types c.args.defaults.now c.args.depth f.kind) o (member f) c.in_ok-next.next c.in-Some.value c.in-Some.is c.in_ok-next.ensures) c.in_ok-push-in-Some.ensures.ok

pub in_each_member-returns-in-None : goal.in_each_member-returns-in-None
in_each_member-returns-in-None t c =
    let types = c.args.types.now in
    let fields = c.args.fields.now in
    let o = opened c.args.value.now in
    let i = c.loop-field.field-index in
    let f = c.field-item.result in
    in_each_none types (SufficesEach types c.args.defaults.now c.args.depth fields) o fields i f c.loop-field-test.true c.field-item.is
    (λ reached. made_none types (Suffices types c.args.defaults.now c.args.depth f.kind) o (member f) c.in_ok-next.next c.in-None.is c.in_ok-next.ensures
    (full_field c.args.depth fields i f (slice_get_read fields (length fields) i f refl c.loop-field-test.true c.field-item.is) reached))

pub in_each_member-returns : goal.in_each_member-returns
in_each_member-returns t c =
    in_each_last c.args.types.now (opened c.args.value.now) c.args.fields.now c.loop-field.field-index c.loop-field.made (omega arith) c.loop-field.invariant

pub in_member-returns-in-Some : goal.in_member-returns-in-Some
in_member-returns-in-Some t c =
    let f = c.args.field.now in
    if_ok_then c.in_array.result _ _
    (λ m h. same_made c.args.types.now _ (opened c.args.value.now) _ _ m m (member_sized f c.in-Some.size c.in-Some.is) refl h) c.in_array.ensures

pub in_member-returns-in-None : goal.in_member-returns-in-None
in_member-returns-in-None t c =
    let types = c.args.types.now in
    let f = c.args.field.now in
    let o = opened c.args.value.now in
    if_ok_then c.becomes.result _ _
    (λ m h. same_made types _ o _ _ m m (member_single f c.in-None.is) refl h) c.becomes.ensures
