use Rattle.std.proofs.Common.{◌≡◌, Some, true, is_some, refl, sym, ◌∙◌, subst, bytes_eq, ℕ, List, None}
use Rattle.std.proofs.lemmas.Map.Text.{btree_map_updates_str}
use Rattle.fp_base.proofs.Bytes.{same_bytes, bytes_turned}
use Rattle.fp_tables.proofs.Firsts.{filled, kept}
use Rattle.fp_component_rules.specs.Tested.{find_end}
use Rattle.fp_component_rules.proofs.Noting.{not_there}
use Rattle.fp_component_rules.proofs.matching.note.Goals as goal

pub returns-then-contains_key : goal.returns-then-contains_key
returns-then-contains_key c = λ q.
    let ends = c.args.ends.now in
    let name = c.args.name.now in
    let full : is_some (find_end ends name) ≡ true = sym c.contains_key.ensures ∙ c.if-contains_key.true in
    kept _ (find_end ends q) _ (bytes_eq q name) c.args.end refl refl (λ h. subst (λ (b : List ℕ). is_some (find_end ends b) ≡ true) (sym (same_bytes q name h)) full)

pub returns : goal.returns
returns c = λ q.
    let ends = c.args.ends.now in
    let name = c.args.name.now in
    let free : find_end ends name ≡ None = not_there (find_end ends name) c.contains_key.result c.contains_key.ensures c.if-contains_key.false in
    filled _ (find_end ends q) _ (bytes_eq name q) (bytes_eq q name) c.args.end
    (btree_map_updates_str name ends c.insert.new.self (Some c.args.end) c.in_ok-insert.ensures.updates q) refl (bytes_turned name q)
    (λ h. subst (λ (b : List ℕ). find_end ends b ≡ None) (same_bytes name q h) free)
