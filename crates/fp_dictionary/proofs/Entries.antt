-- Entries that are put one behind another.
use Rattle.std.proofs.Common.{◌≡◌, List, [], ◌∷◌, ◌++◌, refl, sym, ap, ◌∙◌}
use Rattle.serde_json.specs.Data.{Members}
use Rattle.fp_dictionary.specs.Objects.{Entry, with_entries}

with_entries-append : (es fs : List Entry) (ms : Members) → with_entries (es ++ fs) ms ≡ with_entries fs (with_entries es ms)
with_entries-append [] fs ms = refl
with_entries-append (e ∷ es) fs ms = with_entries-append es fs _

pub three_lists : (xs ys zs : List Entry) (a b c d : Members) → b ≡ with_entries xs a → c ≡ with_entries ys b → d ≡ with_entries zs c → d ≡ with_entries (xs ++ ys ++ zs) a
three_lists xs ys zs a b c d h k l =
    l ∙ ap (with_entries zs) (k ∙ ap (with_entries ys) h ∙ sym (with_entries-append xs ys a)) ∙ sym (with_entries-append (xs ++ ys) zs a)
