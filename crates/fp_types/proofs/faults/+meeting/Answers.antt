use Rattle.std.proofs.Common.{ℕ, false, length, refl, ap, subst, arith}
use Rattle.fp_types.specs.Converting.{opened, member, integer, truth, words, array, struct, constants, of_kind, opaque}
use Rattle.fp_types.specs.Read.{meant}
use Rattle.fp_types.specs.Making.{Enough, EnoughEach}
use Rattle.fp_types.specs.Faults.{Meets}
use Rattle.fp_types.specs.Meeting.{test_of, MeetsNamed}
use Rattle.std.specs.Prelude.{option_map}
use Rattle.std.proofs.lemmas.Option.{slice_get_read}
use Rattle.fp_base.proofs.Lists.{get_at}
use Rattle.fp_types.proofs.Through.{no_met_levels, through_some, through_none, enough_field}
use Rattle.fp_types.proofs.Made.{items_are, parts_are, not_single, member_sized, member_single}
use Rattle.fp_types.proofs.Meetings.{tells_true, tells_false, none_next, none_last, met_inside, met_here, met_step, single_array, no_array, of_length, at_value, single_struct, no_struct, at_struct, named_met, unnamed_met, passes_kinds, sized_member}
use Rattle.fp_types.proofs.faults.+meeting.Goals as goal

pub meets-returns-then-depth-eq0 : goal.meets-returns-then-depth-eq0
meets-returns-then-depth-eq0 t c = λ enough m.
    no_met_levels c.args.types.now (test_of c.args.sought) c.args.kind (opened c.args.value.now) (passes_kinds c.args.sought)
    (subst (λ (n : ℕ). Enough c.args.types.now n c.args.kind) c.if-depth-eq0.true enough) m

pub meets-returns-in-Some : goal.meets-returns-in-Some
meets-returns-in-Some t c =
    let types = c.args.types.now in
    met_step types (test_of c.args.sought) c.args.depth c.args.kind _ (opened c.args.value.now) c.meets_at.result (passes_kinds c.args.sought)
    (through_some types c.args.kind _ _ (ap (λ (o : _). option_map meant o) c.in-Some.is) (c.target_of.ensures.meets c.requires)) c.meets_at.ensures

pub meets-returns-in-None : goal.meets-returns-in-None
meets-returns-in-None t c = λ enough m.
    through_none c.args.types.now c.args.kind _ (ap (λ (o : _). option_map meant o) c.in-None.is) (c.target_of.ensures.meets c.requires) (test_of c.args.sought) (opened c.args.value.now) (passes_kinds c.args.sought) m

pub meets_at-returns-then-here : goal.meets_at-returns-then-here
meets_at-returns-then-here t c =
    let types = c.args.types.now in
    let test = test_of c.args.sought in
    let o = opened c.args.value.now in
    met_here types test _ o c.is_sought-here.result c.is_sought-here.ensures c.if-here.true

pub meets_at-returns-in-Array : goal.meets_at-returns-in-Array
meets_at-returns-in-Array t c =
    let types = c.args.types.now in
    let test = test_of c.args.sought in
    let o = opened c.args.value.now in
    met_inside types test c.args.depth _ (array c.in-Array.size c.in-Array.element) o c.is_sought-here.result c.in_array.result c.is_sought-here.ensures c.if-here.false (ap meant c.in-Array.is) c.in_array.ensures

pub meets_at-returns-in-Struct : goal.meets_at-returns-in-Struct
meets_at-returns-in-Struct t c =
    let types = c.args.types.now in
    let test = test_of c.args.sought in
    let o = opened c.args.value.now in
    met_inside types test c.args.depth _ (struct c.in-Struct.rest c.in-Struct.fields.now) o c.is_sought-here.result c.in_struct.result c.is_sought-here.ensures c.if-here.false (ap meant c.in-Struct.is) c.in_struct.ensures

pub meets_at-returns-in-OfKind : goal.meets_at-returns-in-OfKind
meets_at-returns-in-OfKind t c =
    let types = c.args.types.now in
    let test = test_of c.args.sought in
    let o = opened c.args.value.now in
    met_inside types test c.args.depth _ (of_kind c.in-OfKind.kind) o c.is_sought-here.result c.meets.result c.is_sought-here.ensures c.if-here.false (ap meant c.in-OfKind.is) c.meets.ensures

pub meets_at-returns-in-Integer : goal.meets_at-returns-in-Integer
meets_at-returns-in-Integer t c =
    let types = c.args.types.now in
    let test = test_of c.args.sought in
    let o = opened c.args.value.now in
    met_inside types test c.args.depth _ (integer c.in-Integer.low c.in-Integer.high) o c.is_sought-here.result false c.is_sought-here.ensures c.if-here.false (ap meant c.in-Integer.is) (λ reached x. x)

pub meets_at-returns-in-Truth : goal.meets_at-returns-in-Truth
meets_at-returns-in-Truth t c =
    let types = c.args.types.now in
    let test = test_of c.args.sought in
    let o = opened c.args.value.now in
    met_inside types test c.args.depth _ truth o c.is_sought-here.result false c.is_sought-here.ensures c.if-here.false (ap meant c.in-Truth.is) (λ reached x. x)

pub meets_at-returns-in-Words : goal.meets_at-returns-in-Words
meets_at-returns-in-Words t c =
    let types = c.args.types.now in
    let test = test_of c.args.sought in
    let o = opened c.args.value.now in
    met_inside types test c.args.depth _ words o c.is_sought-here.result false c.is_sought-here.ensures c.if-here.false (ap meant c.in-Words.is) (λ reached x. x)

pub meets_at-returns-in-Constants : goal.meets_at-returns-in-Constants
meets_at-returns-in-Constants t c =
    let types = c.args.types.now in
    let test = test_of c.args.sought in
    let o = opened c.args.value.now in
    met_inside types test c.args.depth _ (constants c.in-Constants.field-0.now) o c.is_sought-here.result false c.is_sought-here.ensures c.if-here.false (ap meant c.in-Constants.is) (λ reached x. x)

pub meets_at-returns-in-Opaque : goal.meets_at-returns-in-Opaque
meets_at-returns-in-Opaque t c =
    let types = c.args.types.now in
    let test = test_of c.args.sought in
    let o = opened c.args.value.now in
    met_inside types test c.args.depth _ opaque o c.is_sought-here.result false c.is_sought-here.ensures c.if-here.false (ap meant c.in-Opaque.is) (λ reached x. x)

pub in_array-returns-then-single : goal.in_array-returns-then-single
in_array-returns-then-single t c =
    let types = c.args.types.now in
    let test = test_of c.args.sought in
    let o = opened c.args.value.now in
    let k = c.args.element in
    let r = Enough types c.args.depth k in
    single_array types test r c.args.size k o c.meets.result (c.is_single-single.ensures.0 c.if-single.true) c.meets.ensures

pub in_array-returns-in-Some : goal.in_array-returns-in-Some
in_array-returns-in-Some t c =
    let types = c.args.types.now in
    let test = test_of c.args.sought in
    let o = opened c.args.value.now in
    let k = c.args.element in
    let r = Enough types c.args.depth k in
    at_value types test r c.args.size k _ o c.in_items.result (items_are types r o c.in-Some.items.now c.in-Some.ensures) c.in_items.ensures

pub in_array-returns-in-None : goal.in_array-returns-in-None
in_array-returns-in-None t c =
    let types = c.args.types.now in
    let test = test_of c.args.sought in
    let o = opened c.args.value.now in
    let k = c.args.element in
    let r = Enough types c.args.depth k in
    no_array types test r c.args.size k o c.in-None.ensures (not_single c.is_single-single.result c.if-single.false c.is_single-single.ensures)

pub in_items-returns-then-len-size : goal.in_items-returns-then-len-size
in_items-returns-then-len-size t c =
    λ reached h. c.if-len-size.true h.0

pub in_items-returns : goal.in_items-returns
in_items-returns t c =
    let types = c.args.types.now in
    let test = test_of c.args.sought in
    let k = c.args.element in
    of_length types test (Enough types c.args.depth k) c.args.size k c.args.items.now c.in_each.result c.if-len-size.false c.in_each.ensures

pub in_each-loop-item-init : goal.in_each-loop-item-init
in_each-loop-item-init t c =
    λ j x below at. absurd (omega arith)

pub in_each-loop-item-preserved : goal.in_each-loop-item-preserved
in_each-loop-item-preserved t c =
    let types = c.args.types.now in
    let test = test_of c.args.sought in
    let k = c.args.kind in
    let item = c.item-item.result in
    let r = Enough types c.args.depth k in
    none_next (r) (λ x. Meets types test (opened x) (of_kind k)) c.args.items.now c.loop-item.item-index c.item-item.result c.loop-item-test.true c.item-item.is c.loop-item.invariant
    (tells_false r (Meets types test (opened item) (of_kind k)) c.meets-met.result c.if-met.false c.meets-met.ensures)

pub in_each-returns-then-met : goal.in_each-returns-then-met
in_each-returns-then-met t c =
    let types = c.args.types.now in
    let test = test_of c.args.sought in
    let k = c.args.kind in
    let item = c.item-item.result in
    let r = Enough types c.args.depth k in
    (c.loop-item.item-index, item, (get_at c.args.items.now c.loop-item.item-index c.item-item.result c.item-item.result c.loop-item-test.true c.item-item.is), tells_true r (Meets types test (opened item) (of_kind k)) c.meets-met.result c.if-met.true c.meets-met.ensures)

pub in_each-returns : goal.in_each-returns
in_each-returns t c =
    let types = c.args.types.now in
    let test = test_of c.args.sought in
    let k = c.args.kind in
    let r = Enough types c.args.depth k in
    λ reached h. none_last (r) (λ x. Meets types test (opened x) (of_kind k)) c.args.items.now c.loop-item.item-index (omega arith) c.loop-item.invariant reached h.0 h.1 h.2 h.3

pub in_parts-loop-part-init : goal.in_parts-loop-part-init
in_parts-loop-part-init t c =
    λ j x below at. absurd (omega arith)

pub in_parts-loop-part-preserved : goal.in_parts-loop-part-preserved
in_parts-loop-part-preserved t c =
    let types = c.args.types.now in
    let test = test_of c.args.sought in
    let fields = c.args.fields.now in
    let part = c.part-item.result in
    let r = EnoughEach types c.args.depth fields in
    none_next (r) (λ x. MeetsNamed types test fields x) c.args.parts.now c.loop-part.part-index c.part-item.result c.loop-part-test.true c.part-item.is c.loop-part.invariant
    (tells_false r (MeetsNamed types test fields part) c.in_named-met.result c.if-met.false c.in_named-met.ensures)

pub in_parts-returns-then-met : goal.in_parts-returns-then-met
in_parts-returns-then-met t c =
    let types = c.args.types.now in
    let test = test_of c.args.sought in
    let fields = c.args.fields.now in
    let part = c.part-item.result in
    let r = EnoughEach types c.args.depth fields in
    (c.loop-part.part-index, part, (get_at c.args.parts.now c.loop-part.part-index c.part-item.result c.part-item.result c.loop-part-test.true c.part-item.is), tells_true r (MeetsNamed types test fields part) c.in_named-met.result c.if-met.true c.in_named-met.ensures)

pub in_parts-returns : goal.in_parts-returns
in_parts-returns t c =
    let types = c.args.types.now in
    let test = test_of c.args.sought in
    let fields = c.args.fields.now in
    let r = EnoughEach types c.args.depth fields in
    λ reached h. none_last (r) (λ x. MeetsNamed types test fields x) c.args.parts.now c.loop-part.part-index (omega arith) c.loop-part.invariant reached h.0 h.1 h.2 h.3

pub in_members-loop-field-init : goal.in_members-loop-field-init
in_members-loop-field-init t c =
    λ j x below at. absurd (omega arith)

pub in_members-loop-field-preserved : goal.in_members-loop-field-preserved
in_members-loop-field-preserved t c =
    let types = c.args.types.now in
    let test = test_of c.args.sought in
    let o = opened c.args.value.now in
    let fields = c.args.fields.now in
    let field = c.field-item.result in
    let r = EnoughEach types c.args.depth fields in
    none_next (r) (λ x. Meets types test o (member x)) fields c.loop-field.field-index c.field-item.result c.loop-field-test.true c.field-item.is c.loop-field.invariant
    (λ reached. tells_false (Enough types c.args.depth field.kind) (Meets types test o (member field)) c.in_member-met.result c.if-met.false c.in_member-met.ensures
    (enough_field types c.args.depth fields c.loop-field.field-index field (slice_get_read fields (length fields) c.loop-field.field-index field refl c.loop-field-test.true c.field-item.is) reached))

pub in_members-returns-then-met : goal.in_members-returns-then-met
in_members-returns-then-met t c =
    let types = c.args.types.now in
    let test = test_of c.args.sought in
    let o = opened c.args.value.now in
    let fields = c.args.fields.now in
    let field = c.field-item.result in
    let r = EnoughEach types c.args.depth fields in
    (c.loop-field.field-index, field, (get_at fields c.loop-field.field-index c.field-item.result c.field-item.result c.loop-field-test.true c.field-item.is), tells_true (Enough types c.args.depth field.kind) (Meets types test o (member field)) c.in_member-met.result c.if-met.true c.in_member-met.ensures)

pub in_members-returns : goal.in_members-returns
in_members-returns t c =
    let types = c.args.types.now in
    let test = test_of c.args.sought in
    let o = opened c.args.value.now in
    let fields = c.args.fields.now in
    let r = EnoughEach types c.args.depth fields in
    λ reached h. none_last (r) (λ x. Meets types test o (member x)) fields c.loop-field.field-index (omega arith) c.loop-field.invariant reached h.0 h.1 h.2 h.3

pub in_struct-returns-then-single : goal.in_struct-returns-then-single
in_struct-returns-then-single t c =
    let types = c.args.types.now in
    let test = test_of c.args.sought in
    let o = opened c.args.value.now in
    let fields = c.args.fields.now in
    let r = EnoughEach types c.args.depth fields in
    single_struct types test r fields o c.in_members.result (c.is_single-single.ensures.0 c.if-single.true) c.in_members.ensures

pub in_struct-returns-in-Some : goal.in_struct-returns-in-Some
in_struct-returns-in-Some t c =
    let types = c.args.types.now in
    let test = test_of c.args.sought in
    let o = opened c.args.value.now in
    let fields = c.args.fields.now in
    let r = EnoughEach types c.args.depth fields in
    at_struct types test r fields _ o c.in_parts.result (parts_are types r o c.in-Some.parts.now c.in-Some.ensures) c.in_parts.ensures

pub in_struct-returns-in-None : goal.in_struct-returns-in-None
in_struct-returns-in-None t c =
    let types = c.args.types.now in
    let test = test_of c.args.sought in
    let o = opened c.args.value.now in
    let fields = c.args.fields.now in
    let r = EnoughEach types c.args.depth fields in
    no_struct types test r fields o c.in-None.ensures (not_single c.is_single-single.result c.if-single.false c.is_single-single.ensures)

pub in_named-returns-in-Some : goal.in_named-returns-in-Some
in_named-returns-in-Some t c =
    let types = c.args.types.now in
    let test = test_of c.args.sought in
    let fields = c.args.fields.now in
    named_met types test c.args.depth fields c.args.part.now c.in-Some.field.now c.in_member.result c.in-Some.ensures c.in_member.ensures

pub in_named-returns-in-None : goal.in_named-returns-in-None
in_named-returns-in-None t c =
    let types = c.args.types.now in
    let test = test_of c.args.sought in
    let fields = c.args.fields.now in
    unnamed_met types test (EnoughEach types c.args.depth fields) fields c.args.part.now c.in-None.ensures

pub in_sized-returns-then-here : goal.in_sized-returns-then-here
in_sized-returns-then-here t c =
    let types = c.args.types.now in
    let test = test_of c.args.sought in
    let o = opened c.args.value.now in
    met_here types test (array c.args.size c.args.element) o c.is_sought-here.result c.is_sought-here.ensures c.if-here.true

pub in_sized-returns : goal.in_sized-returns
in_sized-returns t c =
    let types = c.args.types.now in
    let test = test_of c.args.sought in
    let o = opened c.args.value.now in
    let target = array c.args.size c.args.element in
    met_inside types test c.args.depth target target o c.is_sought-here.result c.in_array.result c.is_sought-here.ensures c.if-here.false refl c.in_array.ensures

pub in_member-returns-in-Some : goal.in_member-returns-in-Some
in_member-returns-in-Some t c =
    let types = c.args.types.now in
    let f = c.args.field.now in
    sized_member types (test_of c.args.sought) (Enough types c.args.depth f.kind) f (array c.in-Some.size f.kind) (opened c.args.value.now) c.in_sized.result (member_sized f c.in-Some.size c.in-Some.is) c.in_sized.ensures

pub in_member-returns-in-None : goal.in_member-returns-in-None
in_member-returns-in-None t c =
    let types = c.args.types.now in
    let f = c.args.field.now in
    sized_member types (test_of c.args.sought) (Enough types c.args.depth f.kind) f (of_kind f.kind) (opened c.args.value.now) c.meets.result (member_single f c.in-None.is) c.meets.ensures
