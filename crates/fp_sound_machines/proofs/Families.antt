-- Vertices of one state by their names.
use Rattle.std.proofs.Common.{◌≡◌, ℕ, Bool, ◌&&◌, List, Option, None, Some, Ordering, map, eqb, refl, sym, ap, ap₂, ◌∙◌, arith}
use Rattle.std.specs.Option.{option_cmp}
use Rattle.std.specs.Ordering.{eq_by_cmp, nat_cmp, is_eq, ordering_then}
use Rattle.std.specs.Cmp.Lexicographic.{slice_cmp}
use Rattle.std.specs.Str.{bytes_eq}
use Rattle.std.proofs.lemmas.Bool.Decides.{nat_tests}
use Rattle.std.proofs.lemmas.Map.Text.{is_eq-slice_cmp}
use Rattle.fp_base.specs.Same.{same_option}
use Rattle.fp_base.proofs.Comparing.{both_equal}
use Rattle.fp_tables.specs.Lists.{apart}
use Rattle.fp_tables.specs.Machines.{siblings_differ}
use Rattle.fp_sound_machines.specs.Walks.{family_name, family_name_of}
use Rattle.fp_tables.specs.declared.machine.Vertex.{Vertex}
use Rattle.fp_tables.proofs.Differing.{apart-map}
use denote.Ref.{Bor}

abbrev pub key_cmp : Option ℕ × Bor (List ℕ) → Option ℕ × Bor (List ℕ) → Ordering
key_cmp x y = ordering_then (option_cmp nat_cmp x.0 y.0) (slice_cmp nat_cmp x.1.now y.1.now)

options_equal : (p q : Option ℕ) → is_eq (option_cmp nat_cmp p q) ≡ same_option (λ m n. eqb m n) p q
options_equal None None = refl
options_equal None (Some q) = refl
options_equal (Some p) None = refl
options_equal (Some p) (Some q) = grind (arith, nat_tests)

abbrev same_family : Option ℕ × List ℕ → Option ℕ × List ℕ → Bool
same_family x y = same_option (λ m n. eqb m n) x.0 y.0 && bytes_eq x.1 y.1

pub families_apart : (ks : List (Option ℕ × Bor (List ℕ))) (vs : List Vertex) → map family_name_of ks ≡ map family_name vs → apart (eq_by_cmp key_cmp) ks ≡ siblings_differ vs
families_apart ks vs e =
    apart-map (eq_by_cmp key_cmp) same_family family_name_of
    (λ x y. both_equal (option_cmp nat_cmp x.0 y.0) (slice_cmp nat_cmp x.1.now y.1.now) ∙ ap₂ (λ (a b : Bool). a && b) (options_equal x.0 y.0) (is_eq-slice_cmp x.1.now y.1.now)) ks
    ∙ ap (apart same_family) e
    ∙ sym (apart-map (λ (v w : Vertex). same_family (family_name v) (family_name w)) same_family family_name (λ v w. refl) vs)
