-- Members of instances in the order of their numbers.
use Rattle.std.proofs.Common.{◌≡◌, ℕ, ◌<◌, ◌≤◌, List, map, get_or, Some, sym, ap, subst, ◌∙◌, arith}
use Rattle.fp_base.proofs.Options.{mapped_some}
use Rattle.std.proofs.lemmas.List.Sorted.{IsPermutation-map}
use Rattle.std.proofs.lemmas.Option.{get_or_from_slice_get, slice_get-map, slice_get_within}
use Rattle.std.specs.List.{slice_get}
use Rattle.std.specs.List.Sorted.{IsNonDecreasingBy, IsPermutation}
use Rattle.fp_tables.specs.declared.topology.Instance.{Instance}
use Rattle.serde_json.specs.Data.{Data}
use Rattle.fp_dictionary.specs.Dictionary.{AreInOrder, Numbered}
use Rattle.fp_dictionary.specs.Placed.{numbered}
use Rattle.fp_dictionary.specs.declared.lists.Placed.{Placed}

module _ {A : Type 0} (data_of : Instance → A → Data) where
  rises : (ps : List (Placed A)) → IsNonDecreasingBy (λ (p : Placed A). p.number) ps
      → (j k : ℕ) (a b : Numbered) → j < k → slice_get (map (numbered data_of) ps) j ≡ Some a → slice_get (map (numbered data_of) ps) k ≡ Some b → a.0 ≤ b.0
  rises ps rising j k a b below first later =
      let one = mapped_some (numbered data_of) (slice_get ps j) a (sym (slice_get-map (numbered data_of) ps j) ∙ first) in
      let other = mapped_some (numbered data_of) (slice_get ps k) b (sym (slice_get-map (numbered data_of) ps k) ∙ later) in
      let least : one.0.number ≡ a.0 = ap (λ (n : Numbered). n.0) one.2 in
      let greatest : other.0.number ≡ b.0 = ap (λ (n : Numbered). n.0) other.2 in
      let low : (get_or ps j one.0).number ≡ one.0.number = ap (λ (p : Placed A). p.number) (get_or_from_slice_get ps j one.0 one.0 one.1) in
      let high : (get_or ps k one.0).number ≡ other.0.number = ap (λ (p : Placed A). p.number) (get_or_from_slice_get ps k other.0 one.0 other.1) in
      let both : (get_or ps j one.0).number ≤ (get_or ps k one.0).number = rising j k one.0 (omega (arith, below)) (slice_get_within ps k other.0 other.1) in
      omega (arith, both, low, high, least, greatest)

  pub in_order : (before : List Numbered) (ps qs : List (Placed A)) → map (numbered data_of) ps ≡ before → IsPermutation ps qs → IsNonDecreasingBy (λ (p : Placed A). p.number) qs
      → AreInOrder before (map (numbered data_of) qs)
  in_order before ps qs same permutation rising =
      record {
        permutation = subst (λ (ns : List Numbered). IsPermutation ns (map (numbered data_of) qs)) same (IsPermutation-map (numbered data_of) ps qs permutation);
        sorted = rises qs rising;
      }
