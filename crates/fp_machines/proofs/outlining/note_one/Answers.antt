use Rattle.std.proofs.Common.{◌≡◌, ◌∙◌, not, ap, sym, subst, List, ℕ, Option, Some, None, true, is_some, refl}
use Rattle.std.proofs.lemmas.Map.Text.{btree_map_updates_text}
use Rattle.std.proofs.lemmas.Slice.Eq.{bytes_eq-Decides}
use Rattle.std.specs.String.{string_bytes}
use Rattle.std.specs.Str.{bytes_eq}
use Rattle.std.specs.BTreeMap.{get_by_text}
use Rattle.fp_base.proofs.Options.{none_of}
use Rattle.fp_tables.proofs.Firsts.{filled, kept}
use Rattle.fp_machines.specs.Found.{or_first}
use Rattle.fp_machines.proofs.outlining.note_one.Goals as goal

pub returns-then-contains_key : goal.returns-then-contains_key
returns-then-contains_key c = λ t.
    let found = c.args.found.now in
    let name = c.args.name.now in
    let full : is_some (get_by_text found c.as_str.result.now) ≡ true = sym c.contains_key.ensures ∙ c.if-contains_key.true in
    kept _ (get_by_text found t) _ (bytes_eq name t) c.args.at refl refl
    (λ h. subst (λ (b : List ℕ). is_some (get_by_text found b) ≡ true) (c.as_str.ensures ∙ (bytes_eq-Decides name t).0 h) full)

pub returns : goal.returns
returns c = λ t.
    let found = c.args.found.now in
    let name = c.args.name.now in
    let key = c.in_ok-key.key in
    let bytes : string_bytes key ≡ name = c.in_ok-key.ensures.ok ∙ c.as_str-2.ensures in
    let free : get_by_text found c.as_str.result.now ≡ None = none_of _ (ap not (sym c.contains_key.ensures ∙ c.if-contains_key.false)) in
    filled _ (get_by_text found t) _ (bytes_eq (string_bytes key) t) (bytes_eq name t) c.in_ok-place.place
    (btree_map_updates_text (string_bytes key) found c.insert.new.self (Some c.in_ok-place.place) c.in_ok-insert.ensures.updates t) refl
    (ap (λ (b : List ℕ). bytes_eq b t) bytes)
    (λ h. subst (λ (b : List ℕ). get_by_text found b ≡ None) (c.as_str.ensures ∙ sym bytes ∙ (bytes_eq-Decides (string_bytes key) t).0 h) free)
    ∙ ap (λ (n : ℕ). or_first (get_by_text found t) (bytes_eq name t) n) c.in_ok-place.ensures
