use Rattle.std.proofs.Common.{◌≡◌, ◌∙◌, not, ap, sym, subst, ℕ, List, Some, None, true, is_some, refl}
use Rattle.std.specs.BTreeMap.{get_by_text}
use Rattle.std.specs.Str.{bytes_eq}
use Rattle.std.specs.String.{string_bytes}
use Rattle.std.proofs.lemmas.Map.Text.{btree_map_updates_text}
use Rattle.std.proofs.lemmas.Slice.Eq.{bytes_eq-Decides}
use Rattle.fp_base.proofs.Options.{none_of}
use Rattle.fp_base.proofs.Bytes.{bytes_turned}
use Rattle.fp_tables.proofs.Firsts.{filled, kept}
use Rattle.fp_components.specs.Listing.{or_first}
use Rattle.fp_components.proofs.matches.note_port.Goals as goal

pub returns-then-contains_key : goal.returns-then-contains_key
returns-then-contains_key c = λ q.
    let positions = c.args.positions.now in
    let name = c.args.port.now.name in
    let full : is_some (get_by_text positions c.as_str.result.now) ≡ true = sym c.contains_key.ensures ∙ c.if-contains_key.true in
    kept _ (get_by_text positions q) _ (bytes_eq q name) c.args.at refl refl
    (λ e. subst (λ (b : List ℕ). is_some (get_by_text positions b) ≡ true) (c.as_str.ensures ∙ sym ((bytes_eq-Decides q name).0 e)) full)

pub returns : goal.returns
returns c = λ q.
    let positions = c.args.positions.now in
    let name = c.args.port.now.name in
    let key = c.in_ok-name.name in
    let bytes : string_bytes key ≡ name = c.in_ok-name.ensures.ok ∙ c.as_str-2.ensures in
    let free : get_by_text positions c.as_str.result.now ≡ None = none_of _ (ap not (sym c.contains_key.ensures ∙ c.if-contains_key.false)) in
    filled _ (get_by_text positions q) _ (bytes_eq (string_bytes key) q) (bytes_eq q name) c.in_ok-place.place
    (btree_map_updates_text (string_bytes key) positions c.insert.new.self (Some c.in_ok-place.place) c.in_ok-insert.ensures.updates q) refl
    (ap (λ (b : List ℕ). bytes_eq b q) bytes ∙ bytes_turned name q)
    (λ e. subst (λ (b : List ℕ). get_by_text positions b ≡ None) (c.as_str.ensures ∙ sym bytes ∙ (bytes_eq-Decides (string_bytes key) q).0 e) free)
    ∙ ap (λ (n : ℕ). or_first (get_by_text positions q) (bytes_eq q name) n) c.in_ok-place.ensures
