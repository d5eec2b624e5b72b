use Rattle.std.proofs.Common.{◌≡◌, [], ◌∷◌, ◌++◌, string_bytes, rules, refl, sym, ap, ◌∙◌, subst, arith, append_assoc}
use Rattle.std.specs.Prelude.{option_map}
use Rattle.std.specs.Option.{option_copied}
use Rattle.serde_json.specs.Data as json
use Rattle.serde_json.specs.View.{view, number_view, items_view, members_view}
use Rattle.serde_json.specs.declared.value.Value.{the_lemmas}
use Rattle.serde_json.proofs.Views.{Entry, view-Array, view-Object}
use Rattle.fp_base.specs.declared.value.Value.{Array}
use Rattle.fp_base.proofs.Options.{if_ok_then}
use Rattle.fp_types.specs.Converting.{member_named}
use Rattle.fp_sound_types.specs.Shapes.{meant as shape_meant}
use Rattle.fp_scenario_actions.specs.Wanted.{array, struct, struct_with, wanted, with_default}
use Rattle.fp_scenario_actions.specs.Read.{meant}
use Rattle.fp_scenario_actions.specs.Made.{IsMade}
use Rattle.fp_scenario_actions.proofs.Making.{null_is, truth_is, number_is, text_is, each_first, each_next, each_last, each_none, named_is, list_is, list_is_not, other_length, members_first, members_next, members_none, object_is, same_made, made_some, made_none, at_some, at_none}
use Rattle.fp_scenario_actions.proofs.values.+values.Goals as goal

pub value_of-returns-in-Null : goal.value_of-returns-in-Null
value_of-returns-in-Null t c =
    let seen : json.null ≡ view c.args.value.now = rw c.in-Null.is (search (rules, the_lemmas)) in
    let types = c.args.types.now in
    let w = c.args.wanted.now in
    same_made types (meant w) (meant w) _ _ _ _ refl (sym seen) c.of_null.ensures (null_is types (option_copied w.default) (shape_meant w.shape))

pub value_of-returns-in-Bool : goal.value_of-returns-in-Bool
value_of-returns-in-Bool t c =
    let seen : json.boolean c.in-Bool.truth ≡ view c.args.value.now = rw c.in-Bool.is (search (rules, the_lemmas)) in
    let types = c.args.types.now in
    let w = c.args.wanted.now in
    same_made types (meant w) (meant w) _ _ _ _ refl (sym seen) c.of_truth.ensures (truth_is types (option_copied w.default) (shape_meant w.shape) _)

pub value_of-returns-in-Number : goal.value_of-returns-in-Number
value_of-returns-in-Number t c =
    let seen : json.number (number_view c.in-Number.number) ≡ view c.args.value.now = rw c.in-Number.is (search (rules, the_lemmas)) in
    let types = c.args.types.now in
    let w = c.args.wanted.now in
    same_made types (meant w) (meant w) _ _ _ _ refl (sym seen) c.of_number.ensures (number_is types (option_copied w.default) (shape_meant w.shape) _)

pub value_of-returns-in-String : goal.value_of-returns-in-String
value_of-returns-in-String t c =
    let seen : json.string (string_bytes c.in-String.text) ≡ view c.args.value.now = rw c.in-String.is (search (rules, the_lemmas)) in
    let types = c.args.types.now in
    let w = c.args.wanted.now in
    if_ok_then c.of_text.result _ _ (λ m e. same_made types (meant w) (meant w) _ _ m _ refl (sym seen ∙ ap json.string (sym c.as_str.ensures.value)) e (text_is types (option_copied w.default) (shape_meant w.shape) c.as_str.result.now)) c.of_text.ensures

pub values_of-returns-then-items-size : goal.values_of-returns-then-items-size
values_of-returns-then-items-size t c = other_length c.args.types.now c.args.size c.args.element c.args.items.now c.if-items-size.true

pub values_of-loop-item-init : goal.values_of-loop-item-init
values_of-loop-item-init t c = each_first c.args.types.now (wanted c.args.types.now c.args.element) c.new-made.result c.new-made.ensures

pub values_of-loop-item-preserved : goal.values_of-loop-item-preserved
values_of-loop-item-preserved t c =
    let types = c.args.types.now in
    let w = wanted types c.args.element in
    let x = c.item-item.result in
    let made = same_made types w (meant c.wanted_of-wanted.result) _ _ _ _ (sym c.wanted_of-wanted.ensures) refl refl c.in_ok-next.ensures in
    each_next types w c.args.items.now c.loop-item.item-index x c.in-Some.value c.loop-item.made c.push.new.self (omega arith) c.item-item.is c.loop-item.invariant
    (made_some types w (view x) c.in_ok-next.next c.in-Some.value c.in-Some.is made) c.in_ok-push-in-Some.ensures.ok

pub values_of-returns-in-None : goal.values_of-returns-in-None
values_of-returns-in-None t c =
    let types = c.args.types.now in
    let w = wanted types c.args.element in
    let x = c.item-item.result in
    let made = same_made types w (meant c.wanted_of-wanted.result) _ _ _ _ (sym c.wanted_of-wanted.ensures) refl refl c.in_ok-next.ensures in
    list_is_not types c.args.size c.args.element c.args.items.now
    (each_none types w c.args.items.now c.loop-item.item-index x (omega arith) c.item-item.is (made_none types w (view x) c.in_ok-next.next c.in-None.is made))

pub values_of-returns : goal.values_of-returns
values_of-returns t c =
    let types = c.args.types.now in
    list_is types c.args.size c.args.element c.args.items.now c.loop-item.made c.if-items-size.false
    (each_last types (wanted types c.args.element) c.args.items.now c.loop-item.item-index c.loop-item.made (omega arith) c.loop-item.invariant)

pub value_of-returns-in_ok-made-in-Array-shape : goal.value_of-returns-in_ok-made-in-Array-shape
value_of-returns-in_ok-made-in-Array-shape t c =
    let types = c.args.types.now in
    let w = c.args.wanted.now in
    let xs = c.in-Array.items in
    let size = c.in-Array-shape.size in
    let element = c.in-Array-shape.element in
    let made = c.in_ok-made-in-Array-shape.made in
    let seen : view c.args.value.now ≡ json.array (items_view xs.items) = ap view c.in-Array.is ∙ view-Array xs in
    same_made types (meant w) (array size element) _ _ c.listed.result (option_map Array made) (ap (λ s. with_default (option_copied w.default) (shape_meant s)) c.in-Array-shape.is) seen c.listed.ensures
    (subst (λ ys. IsMade types (array size element) (json.array (items_view ys)) (option_map Array made)) c.as_slice.ensures.value c.in_ok-made-in-Array-shape.ensures)

pub value_of-returns-in_ok-given-in-Some : goal.value_of-returns-in_ok-given-in-Some
value_of-returns-in_ok-given-in-Some t c =
    let types = c.args.types.now in
    let w = c.args.wanted.now in
    let fields = c.in-Struct.fields.now in
    let default = c.in-Some.default.now in
    let seen : view c.args.value.now ≡ json.object (members_view c.in-Object.members.entries) = ap view c.in-Object.is ∙ view-Object c.in-Object.members in
    let same : meant w ≡ struct fields default =
    ap (λ s. with_default (option_copied w.default) (shape_meant s)) c.in-Struct.is ∙ ap (λ o. struct_with (option_copied o) fields) c.in-Some.is in
    if_ok_then c.completed.result _ _
    (λ m e. same_made types (meant w) (struct fields default) _ _ m _ same seen e (object_is types fields default _ c.in_ok-given-in-Some.given c.in_ok-given-in-Some.ensures)) c.completed.ensures

pub member_in-returns-in-Some : goal.member_in-returns-in-Some
member_in-returns-in-Some t c =
    let types = c.args.types.now in
    let fields = c.args.fields.now in
    let named = c.in-Some.ensures ∙ ap (member_named fields) (c.in_ok-name.ensures ∙ c.as_str.ensures.value) in
    if_ok_then c.value_of.result _ _
    (λ m h. named_is types fields (string_bytes c.args.key.now) (view c.args.value.now) c.in-Some.field.now (meant c.member_of-wanted.result) m named c.member_of-wanted.ensures h) c.value_of.ensures

pub members_of-loop-key-init : goal.members_of-loop-key-init
members_of-loop-key-init t c =
    let begins : c.into_iter-key-iterator.result ≡ c.args.members.now.entries = c.into_iter-key-iterator.ensures.into_iter_gives.0 in
    ([], sym begins, members_first c.args.types.now c.args.fields.now c.new-given.result c.new-given.ensures)

pub members_of-loop-key-preserved : goal.members_of-loop-key-preserved
members_of-loop-key-preserved t c =
    let types = c.args.types.now in
    let fields = c.args.fields.now in
    let l = c.loop-key in
    let done = l.invariant.0 in
    let e : Entry = (c.in-Some.key.now, c.in-Some.item.now) in
    let left = c.next.new.self in
    let all : c.args.members.now.entries ≡ done ++ e ∷ left = l.invariant.1 ∙ ap (λ s. done ++ s) c.in-Some.ensures.steps in (
      done ++ e ∷ [],
      all ∙ sym (append_assoc done (e ∷ []) left),
      members_next types fields done e c.in_ok-name-in-Some-next.name c.in-Some-next.value l.given c.push.new.self l.invariant.2 (c.in_ok-name-in-Some-next.ensures ∙ c.as_str.ensures.value)
          (at_some types fields (string_bytes e.0) (view e.1) c.in_ok-next.next c.in-Some-next.value c.in-Some-next.is c.in_ok-next.ensures) c.in_ok-push-in-Some-next.ensures.ok,
    )

pub members_of-returns-in-None-next : goal.members_of-returns-in-None-next
members_of-returns-in-None-next t c =
    let types = c.args.types.now in
    let fields = c.args.fields.now in
    let l = c.loop-key in
    let done = l.invariant.0 in
    let e : Entry = (c.in-Some.key.now, c.in-Some.item.now) in
    let left = c.next.new.self in
    let all : c.args.members.now.entries ≡ done ++ e ∷ left = l.invariant.1 ∙ ap (λ s. done ++ s) c.in-Some.ensures.steps in
    members_none types fields c.args.members.now.entries done e left all (at_none types fields (string_bytes e.0) (view e.1) c.in_ok-next.next c.in-None-next.is c.in_ok-next.ensures)
