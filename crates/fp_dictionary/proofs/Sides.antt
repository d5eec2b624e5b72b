-- Limits from below and from above.
use Rattle.std.proofs.Common.{◌≡◌, ℕ, Bool, true, false, true≢false, ◌||◌, cond, List, [], ◌∷◌, map, refl, sym, ap, ◌∙◌}
use Rattle.std.specs.List.{list_any}
use Rattle.fp_tables.specs.declared.component.Limit.{Limit}
use Rattle.serde_json.specs.Data.{Members, put}
use Rattle.fp_dictionary.specs.Objects.{with_entries}
use Rattle.fp_dictionary.specs.Values.{value_data}
use Rattle.fp_dictionary.specs.Members.{color, color_entry, on_side, side, side_data, side_entries}

one_more : (key : List ℕ) (l : Limit) (rest : List Limit) (b c : Bool) → (b || c) ≡ true → (c ≡ true → side_entries key rest ≡ (key, side_data rest) ∷ [])
    → side_entries key (cond b (l ∷ rest) rest) ≡ (key, side_data (cond b (l ∷ rest) rest)) ∷ []
one_more key l rest true c h k = refl
one_more key l rest false c h k = k h

none_more : (key : List ℕ) (l : Limit) (rest : List Limit) (b c : Bool) → (b || c) ≡ false → (c ≡ false → side_entries key rest ≡ []) → side_entries key (cond b (l ∷ rest) rest) ≡ []
none_more key l rest true c h k = absurd (true≢false h)
none_more key l rest false c h k = k h

pub some_side : (key : List ℕ) (high : Bool) (ls : List Limit) → list_any (on_side high) ls ≡ true → side_entries key (side high ls) ≡ (key, side_data (side high ls)) ∷ []
some_side key high [] h = absurd (true≢false (sym h))
some_side key high (l ∷ ls) h = one_more key l (side high ls) (on_side high l) (list_any (on_side high) ls) h (some_side key high ls)

pub no_side : (key : List ℕ) (high : Bool) (ls : List Limit) → list_any (on_side high) ls ≡ false → side_entries key (side high ls) ≡ []
no_side key high [] h = refl
no_side key high (l ∷ ls) h = none_more key l (side high ls) (on_side high l) (list_any (on_side high) ls) h (no_side key high ls)

module _ (high : Bool) (l : Limit) (more : List Limit) (before after : Members) where
  pub on_it : on_side high l ≡ true → after ≡ put (color l.color) (value_data l.value) before
      → with_entries (map color_entry (side high more)) after ≡ with_entries (map color_entry (side high (l ∷ more))) before
  on_it on h =
      ap (with_entries (map color_entry (side high more))) h ∙ sym (ap (λ b. with_entries (map color_entry (cond b (l ∷ side high more) (side high more))) before) on)

  pub off_it : on_side high l ≡ false → after ≡ before → with_entries (map color_entry (side high more)) after ≡ with_entries (map color_entry (side high (l ∷ more))) before
  off_it off h =
      ap (with_entries (map color_entry (side high more))) h ∙ sym (ap (λ b. with_entries (map color_entry (cond b (l ∷ side high more) (side high more))) before) off)
