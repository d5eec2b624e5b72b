-- What was found of vertices, when more is found.
use Rattle.std.proofs.Common.{◌≡◌, ◌≢◌, ℕ, ◌+◌, ◌<◌, ◌≤◌, List, length, set, get_or, Option, None, Some, option_and_then, slice_get, unwrap_or, refl, sym, ap, ◌∙◌, arith, get_or-set_same, get_or-set_other}
use Rattle.std.specs.Option.{option_len}
use Rattle.std.proofs.lemmas.Option.{unwrap_or-slice_get}
use Rattle.std.proofs.lemmas.List.Sums.{sum_by-set, sum_by-le}
use Rattle.fp_sound_machines.specs.Behind.{found_at, found_count}
use Rattle.fp_sound_machines.specs.declared.choices.Behind.{Behind}

inner : (o : Option (Option Behind)) → option_and_then (λ (b : Option Behind). b) o ≡ unwrap_or o None
inner None = refl
inner (Some b) = refl

at_index : (found : List (Option Behind)) (v : ℕ) → found_at found v ≡ get_or found v None
at_index found v = inner (slice_get found v) ∙ unwrap_or-slice_get found v None

module _ (found : List (Option Behind)) (t : ℕ) (b : Behind) where
  pub found_same : t < length found → found_at (set found t (Some b)) t ≡ Some b
  found_same lt = at_index (set found t (Some b)) t ∙ rw get_or-set_same refl

  pub found_other : (v : ℕ) → v ≢ t → found_at (set found t (Some b)) v ≡ found_at found v
  found_other v ne = at_index (set found t (Some b)) v ∙ rw get_or-set_other (sym (at_index found v))

  pub found_more : t < length found → found_at found t ≡ None → found_count (set found t (Some b)) ≡ found_count found + 1
  found_more lt none =
      let was : get_or found t None ≡ None = sym (at_index found t) ∙ none in
      let size : option_len (get_or found t None) ≡ 0 = ap (λ (o : Option Behind). option_len o) was in
      let sums = sum_by-set (λ (o : Option Behind). option_len o) found t (Some b) None lt in
      omega (arith, sums, size)

one_each : (o : Option Behind) → option_len o ≤ 1
one_each None = omega arith
one_each (Some b) = omega arith

pub count_within : (found : List (Option Behind)) → found_count found ≤ length found
count_within found =
    let most = sum_by-le (λ (o : Option Behind). option_len o) 1 found (λ k d h. one_each _) in
    omega (arith, most)
