use Rattle.std.proofs.Common.{◌≡◌, ◌∙◌, not, ap, sym, subst, ℕ, Option, None, true, is_some, BTreeMap, refl}
use Rattle.std.specs.BTreeMap.{get_by}
use Rattle.std.specs.Ordering.{is_eq}
use Rattle.fp_base.proofs.Options.{none_of}
use Rattle.fp_tables.proofs.Firsts.{filled, kept}
use Rattle.fp_machine_rules.specs.Repeated.{Key, key_cmp}
use Rattle.fp_machine_rules.proofs.Repeats.{keys_equal}
use Rattle.fp_machines.specs.Found.{or_first}
use Rattle.fp_machines.proofs.firsts.note_one.Goals as goal

pub returns-then-contains_key : goal.returns-then-contains_key
returns-then-contains_key c = λ q.
    let found = c.args.found.now in
    let full : is_some (get_by (key_cmp c.args.key) found) ≡ true = sym c.contains_key.ensures ∙ c.if-contains_key.true in
    kept _ (get_by (key_cmp q) found) _ (is_eq (key_cmp c.args.key q)) c.args.at refl refl
    (λ e. subst (λ (k : Key). is_some (get_by (key_cmp k) found) ≡ true) (keys_equal c.args.key q e) full)

pub returns : goal.returns
returns c = λ q.
    let found = c.args.found.now in
    let key = c.args.key in
    let free : get_by (key_cmp key) found ≡ None = none_of _ (ap not (sym c.contains_key.ensures ∙ c.if-contains_key.false)) in
    filled _ (get_by (key_cmp q) found) _ (is_eq (key_cmp key q)) (is_eq (key_cmp key q)) c.in_ok-place.place
    (c.in_ok-insert.ensures.updates.0 q) refl refl
    (λ e. subst (λ (k : Key). get_by (key_cmp k) found ≡ None) (keys_equal key q e) free)
    ∙ ap (λ (n : ℕ). or_first (get_by (key_cmp q) found) (is_eq (key_cmp key q)) n) c.in_ok-place.ensures
