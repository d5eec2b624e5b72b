use Rattle.std.proofs.Common.{◌≡◌, ◌+◌, [], ◌∷◌, ◌++◌, Some, string_bytes, is_some, decimal, rules, refl, sym, ap, ◌∙◌, subst, arith, append_assoc, append-nil}
use Rattle.std.proofs.lemmas.Result.{on_ok_weaker}
use Rattle.std.specs.List.{list_all}
use Rattle.serde_json.specs.Data.{null, boolean, number, string, array, object}
use Rattle.serde_json.specs.Find.{get}
use Rattle.serde_json.specs.View.{view, number_view, items_view, members_view}
use Rattle.serde_json.specs.declared.value.Value.{the_lemmas}
use Rattle.serde_json.proofs.Views.{Entry, view-Array, view-Object}
use Rattle.fp_base.specs.declared.rule.Rule.TheVariants.{UnknownKey, WrongKindOfValue, MissingKey, PastSize}
use Rattle.fp_scenario.specs.Keys.{at_key, keys_of, needed, wanted_at}
use Rattle.fp_scenario.specs.Broken.{below}
use Rattle.fp_scenario.specs.Checked.{IsFault, ItemsAreSound, StopsBelow, Stops}
use Rattle.fp_scenario.proofs.Breaking.{breaks_here, fault_of_stop}
use Rattle.fp_scenario.proofs.Members.{all_more}
use Rattle.fp_scenario.proofs.Sounding.{sound_null, sound_boolean, sound_number, sound_string, sound_array, sound_object, item_there, item_fault, items_more, items_all, object_there, member_fault, unknown_fault, members_kept, named_at}
use Rattle.fp_scenario.proofs.checking.+check.Goals as goal

pub check-returns-then-not-is_of_kind-clause-err : goal.check-returns-then-not-is_of_kind-clause-err
check-returns-then-not-is_of_kind-clause-err t c =
    fault_of_stop c.args.wanted (view c.args.value.now) WrongKindOfValue [] c.stop_here.result c.stop_here.ensures (breaks_here _ _ WrongKindOfValue [] (refl, sym c.is_of_kind.ensures ∙ c.if-not-is_of_kind.true))

pub check-returns-then-not-is_of_size-clause-err : goal.check-returns-then-not-is_of_size-clause-err
check-returns-then-not-is_of_size-clause-err t c =
    fault_of_stop c.args.wanted (view c.args.value.now) PastSize [] c.stop_here-then-not-is_of_size.result c.stop_here-then-not-is_of_size.ensures
    (breaks_here _ _ PastSize [] (refl, sym c.is_of_kind.ensures ∙ c.if-not-is_of_kind.false, sym c.is_of_size.ensures ∙ c.if-not-is_of_size.true))

pub check-returns-in-Null-clause-ok : goal.check-returns-in-Null-clause-ok
check-returns-in-Null-clause-ok t c =
    let seen : null ≡ view c.args.value.now = rw c.in-Null.is (search (rules, the_lemmas)) in
    sound_null c.args.wanted (view c.args.value.now) seen (sym c.is_of_kind.ensures ∙ c.if-not-is_of_kind.false) (sym c.is_of_size.ensures ∙ c.if-not-is_of_size.false)

pub check-returns-in-Bool-clause-ok : goal.check-returns-in-Bool-clause-ok
check-returns-in-Bool-clause-ok t c =
    let seen : boolean c.in-Bool.field-0 ≡ view c.args.value.now = rw c.in-Bool.is (search (rules, the_lemmas)) in
    sound_boolean c.args.wanted (view c.args.value.now) _ seen (sym c.is_of_kind.ensures ∙ c.if-not-is_of_kind.false) (sym c.is_of_size.ensures ∙ c.if-not-is_of_size.false)

pub check-returns-in-Number-clause-ok : goal.check-returns-in-Number-clause-ok
check-returns-in-Number-clause-ok t c =
    let seen : number (number_view c.in-Number.field-0) ≡ view c.args.value.now = rw c.in-Number.is (search (rules, the_lemmas)) in
    sound_number c.args.wanted (view c.args.value.now) _ seen (sym c.is_of_kind.ensures ∙ c.if-not-is_of_kind.false) (sym c.is_of_size.ensures ∙ c.if-not-is_of_size.false)

pub check-returns-in-String-clause-ok : goal.check-returns-in-String-clause-ok
check-returns-in-String-clause-ok t c =
    let seen : string (string_bytes c.in-String.field-0) ≡ view c.args.value.now = rw c.in-String.is (search (rules, the_lemmas)) in
    sound_string c.args.wanted (view c.args.value.now) _ seen (sym c.is_of_kind.ensures ∙ c.if-not-is_of_kind.false) (sym c.is_of_size.ensures ∙ c.if-not-is_of_size.false)

pub check-returns-in-Array-clause-ok : goal.check-returns-in-Array-clause-ok
check-returns-in-Array-clause-ok t c =
    let seen = ap view c.in-Array.is ∙ view-Array c.in-Array.items in
    on_ok_weaker c.check_items.result (λ each. sound_array c.args.wanted (view c.args.value.now) _ seen (sym c.is_of_kind.ensures ∙ c.if-not-is_of_kind.false) (sym c.is_of_size.ensures ∙ c.if-not-is_of_size.false) each) c.check_items.ensures.ok

pub check-returns-then-not-has_needed-clause-err : goal.check-returns-then-not-has_needed-clause-err
check-returns-then-not-has_needed-clause-err t c =
    let d = view c.args.value.now in
    let seen : d ≡ object (members_view c.in-Object.members.entries) = ap view c.in-Object.is ∙ view-Object c.in-Object.members in
    fault_of_stop c.args.wanted d MissingKey [] c.stop_here-then-not-has_needed.result c.stop_here-then-not-has_needed.ensures
    (breaks_here c.args.wanted d MissingKey [] (refl, object_there d _ seen, sym (c.has_needed.ensures ∙ ap (λ first. list_all (λ k. is_some (get k d)) (needed c.args.wanted first)) c.first_of-first.ensures) ∙ c.if-not-has_needed.true))

pub check-returns-else-not-has_needed-clause-ok : goal.check-returns-else-not-has_needed-clause-ok
check-returns-else-not-has_needed-clause-ok t c =
    let d = view c.args.value.now in
    let seen : d ≡ object (members_view c.in-Object.members.entries) = ap view c.in-Object.is ∙ view-Object c.in-Object.members in
    let need = sym (c.has_needed.ensures ∙ ap (λ first. list_all (λ k. is_some (get k d)) (needed c.args.wanted first)) c.first_of-first.ensures) ∙ c.if-not-has_needed.false in
    on_ok_weaker c.check_members.result (λ members. sound_object c.args.wanted d _ seen (sym c.is_of_kind.ensures ∙ c.if-not-is_of_kind.false) (sym c.is_of_size.ensures ∙ c.if-not-is_of_size.false) need members) c.check_members.ensures.ok

pub check_items-returns-in-Err-clause-err : goal.check_items-returns-in-Err-clause-err
check_items-returns-in-Err-clause-err t c =
    let xs = c.deref-item-items.result.now in
    let there = item_there xs c.loop-item.item-index c.item-item.result (omega arith) c.item-item.is in
    subst (λ vs. IsFault c.args.wanted (array (items_view vs)) c.stop_under_position.result) c.deref-item-items.ensures.value
    (item_fault c.args.wanted c.in-Some.each xs c.loop-item.item-index (view c.item-item.result) c.in-Err.stop c.stop_under_position.result c.in-Some.ensures there
    (subst (λ n. StopsBelow (decimal n) c.in-Err.stop c.stop_under_position.result) c.loop-item.invariant.0 c.stop_under_position.ensures) c.in-Err.ensures.err)

pub check_items-loop-item-preserved : goal.check_items-loop-item-preserved
check_items-loop-item-preserved t c =
    let xs = c.deref-item-items.result.now in
    let there = item_there xs c.loop-item.item-index c.item-item.result (omega arith) c.item-item.is in
    (ap (λ n. n + 1) c.loop-item.invariant.0, items_more c.in-Some.each (items_view xs) c.loop-item.item-index (view c.item-item.result) there c.in-Ok.ensures.ok c.loop-item.invariant.1)

pub check_items-returns-clause-ok : goal.check_items-returns-clause-ok
check_items-returns-clause-ok t c =
    subst (λ vs. ItemsAreSound c.args.wanted (array (items_view vs))) c.deref-item-items.ensures.value
    (items_all c.args.wanted c.in-Some.each c.deref-item-items.result.now c.loop-item.item-index c.in-Some.ensures (omega arith) c.loop-item.invariant.1)

pub check_members-returns-in-Err-clause-err : goal.check_members-returns-in-Err-clause-err
check_members-returns-in-Err-clause-err t c =
    let l = c.loop-key in
    let done = l.invariant.0 in
    let e : Entry = (c.in-Some.key.now, c.in-Some.member.now) in
    let left = c.next.new.self in
    let es = c.args.members.now.entries in
    let all : es ≡ done ++ e ∷ left = l.invariant.1 ∙ ap (λ s. done ++ s) c.in-Some.ensures.steps in
    let named : wanted_at c.args.wanted (object (members_view es)) (string_bytes e.0) ≡ Some c.in-Some-wanted_at.each =
    named_at c.args.wanted (object (members_view es)) c.args.first c.as_str.result.now _ _ c.requires c.as_str.ensures.value c.in-Some-wanted_at.ensures in
    member_fault c.args.wanted c.in-Some-wanted_at.each es done e left c.in-Err.stop c.stop_under_key.result all c.iter-key-items.ensures.ordered named
    (subst (λ k. StopsBelow k c.in-Err.stop c.stop_under_key.result) c.as_str-in-Err.ensures.value c.stop_under_key.ensures) c.in-Err.ensures.err

pub check_members-loop-key-preserved : goal.check_members-loop-key-preserved
check_members-loop-key-preserved t c =
    let l = c.loop-key in
    let done = l.invariant.0 in
    let e : Entry = (c.in-Some.key.now, c.in-Some.member.now) in
    let left = c.next.new.self in
    let es = c.args.members.now.entries in
    let all : es ≡ done ++ e ∷ left = l.invariant.1 ∙ ap (λ s. done ++ s) c.in-Some.ensures.steps in (
      done ++ e ∷ [],
      all ∙ sym (append_assoc done (e ∷ []) left),
      all_more _ done e l.invariant.2 (c.in-Some-wanted_at.each, sym (c.in-Some-wanted_at.ensures ∙ ap (λ k. at_key k (keys_of c.args.wanted c.args.first)) c.as_str.ensures.value), c.in_default.ensures.ok),
    )

pub check_members-returns-in-None-wanted_at-clause-err : goal.check_members-returns-in-None-wanted_at-clause-err
check_members-returns-in-None-wanted_at-clause-err t c =
    let l = c.loop-key in
    let done = l.invariant.0 in
    let e : Entry = (c.in-Some.key.now, c.in-Some.member.now) in
    let left = c.next.new.self in
    let es = c.args.members.now.entries in
    let all : es ≡ done ++ e ∷ left = l.invariant.1 ∙ ap (λ s. done ++ s) c.in-Some.ensures.steps in
    unknown_fault c.args.wanted es done e left c.stop_at_key.result all c.iter-key-items.ensures.ordered (sym c.wants_object.ensures ∙ c.if-not-wants_object.false)
    (named_at c.args.wanted (object (members_view es)) c.args.first c.as_str.result.now _ _ c.requires c.as_str.ensures.value c.in-None-wanted_at.ensures)
    (subst (λ k. Stops UnknownKey (below k []) c.stop_at_key.result) c.as_str-in-None-wanted_at.ensures.value c.stop_at_key.ensures)

pub check_members-returns-clause-ok : goal.check_members-returns-clause-ok
check_members-returns-clause-ok t c =
    let l = c.loop-key in
    let done = l.invariant.0 in
    let whole : c.args.members.now.entries ≡ done = l.invariant.1 ∙ ap (λ s. done ++ s) c.in-None.ensures.steps.0 ∙ append-nil done in
    members_kept c.args.wanted c.args.first c.args.members.now.entries done c.requires whole l.invariant.2
