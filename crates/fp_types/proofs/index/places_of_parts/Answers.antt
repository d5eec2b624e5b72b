use Rattle.std.proofs.Common.{◌≡◌, ◌∙◌, ap, refl, sym, subst, List, ℕ, arith, Some, None, true, is_some, BTreeMap, String, Global}
use Rattle.std.proofs.lemmas.Map.Text.{btree_map_updates_text}
use Rattle.std.proofs.lemmas.Slice.Eq.{bytes_eq-Decides}
use Rattle.std.specs.String.{string_bytes}
use Rattle.std.specs.Str.{bytes_eq}
use Rattle.std.specs.BTreeMap.{get_by_text}
use Rattle.fp_base.proofs.Options.{none_of}
use Rattle.fp_tables.proofs.Firsts.{position_at, filled, kept}
use Rattle.fp_base.specs.declared.value.MemberValue.{MemberValue}
use Rattle.fp_types.proofs.index.places_of_parts.Goals as goal
use Rattle.fp_types.proofs.index.places_of_parts.Goals.{then-not-contains_key+in_ok-from_str+in_ok-insert, else-not-contains_key}

pub loop-at-preserved : goal.loop-at-preserved
loop-at-preserved c = λ q.
    let x = c.index-parts-at.result in
    let places = c.loop-at.places in
    let more = position_at (λ (x : MemberValue). bytes_eq x.name q) c.args.parts.now c.loop-at.at x (omega arith) c.index-parts-at.is in
    let same : bytes_eq x.name q ≡ true → x.name ≡ q = (bytes_eq-Decides x.name q).0 in
    elim c.if-not-contains_key.branch [
      | then-not-contains_key+in_ok-from_str+in_ok-insert w ↦
          let key = w.in_ok-from_str.field-0 in
          let bytes : string_bytes key ≡ x.name = w.in_ok-from_str.ensures.ok ∙ (w.as_str-then-not-contains_key).ensures in
          let free : get_by_text places c.as_str.result.now ≡ None = none_of _ (cc) in
          ap (λ (m : BTreeMap (String Global) ℕ). get_by_text m q) w.places-is ∙ filled _ (get_by_text places q) _ (bytes_eq (string_bytes key) q) (bytes_eq x.name q) c.loop-at.at
          (btree_map_updates_text (string_bytes key) places w.insert.new.self (Some c.loop-at.at) w.in_ok-insert.ensures.updates q) (c.loop-at.invariant q)
          (ap (λ (b : List ℕ). bytes_eq b q) bytes)
          (λ h. subst (λ (b : List ℕ). get_by_text places b ≡ None) (c.as_str.ensures ∙ sym bytes ∙ (bytes_eq-Decides (string_bytes key) q).0 h) free) ∙ sym more
      | else-not-contains_key w ↦
          let full : is_some (get_by_text places c.as_str.result.now) ≡ true = cc in
          ap (λ (m : BTreeMap (String Global) ℕ). get_by_text m q) w.places-is ∙ kept _ (get_by_text places q) _ (bytes_eq x.name q) c.loop-at.at
          refl (c.loop-at.invariant q)
          (λ h. subst (λ (b : List ℕ). is_some (get_by_text places b) ≡ true) (c.as_str.ensures ∙ same h) full) ∙ sym more
    ]
