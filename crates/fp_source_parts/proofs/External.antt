-- The machines among items whose bodies are written elsewhere, one item after another.
use Rattle.std.proofs.Common.{◌≡◌, ℕ, ◌+◌, ◌≤◌, Bool, List, [], ◌∷◌, ◌++◌, length, map, flat_map, take, slice_get, Some, refl, sym, ap, ◌∙◌}
use Rattle.std.proofs.lemmas.List.{append-nil, map-append, take_all}
use Rattle.std.proofs.lemmas.Grind.{flat_map-append}
use Rattle.fp_base.proofs.Lists.{take_next}
use Rattle.fp_meaning.specs.declared.item.Item.{Item}
use Rattle.fp_source_parts.specs.Machines.{is_outside, machine_declared}

-- of the first so many
abbrev pub outside_first : List Item → ℕ → List Bool
outside_first is k = map is_outside (flat_map machine_declared (take k is))

pub outside_next : (is : List Item) (k : ℕ) (i : Item) (old new : List Bool) → slice_get is k ≡ Some i → old ≡ outside_first is k → new ≡ old ++ map is_outside (machine_declared i) → new ≡ outside_first is (k + 1)
outside_next is k i old new at before made =
    made ∙ ap (λ (bs : List Bool). bs ++ map is_outside (machine_declared i)) before
    ∙ sym (map-append is_outside (flat_map machine_declared (take k is)) (machine_declared i))
    ∙ ap (map is_outside) (sym (ap (flat_map machine_declared) (take_next is k i at) ∙ flat_map-append machine_declared (take k is) (i ∷ []) ∙ ap (λ l. flat_map machine_declared (take k is) ++ l) (append-nil (machine_declared i))))

pub outside_all : (is : List Item) (k : ℕ) (found : List Bool) → length is ≤ k → found ≡ outside_first is k → found ≡ map is_outside (flat_map machine_declared is)
outside_all is k found past e = e ∙ ap (λ (l : List Item). map is_outside (flat_map machine_declared l)) (take_all k is past)
