-- The number of instances that a word spells, as the code looks for it.
use Rattle.std.proofs.Common.{◌≡◌, ◌<◌, ◌≤◌, ◌+◌, ℕ, List, Bool, true, false, decimal, sym, ◌∙◌, subst, arith, inl, inr}
use Rattle.std.specs.Str.{bytes_eq}
use Rattle.std.proofs.lemmas.Slice.Eq.{bytes_eq-Decides}
use Rattle.fp_base.proofs.Spots.{below_or_at}
use Rattle.fp_main.specs.Words.{most_instances}

module _ (word : List ℕ) where
  abbrev pub NoneUpTo : ℕ → Type 0
  NoneUpTo most = (n : ℕ) → 0 < n → n ≤ most → word ≡ decimal n → ⊥

  pub is_spelled : (n : ℕ) (test : Bool) → test ≡ bytes_eq word (decimal n) → test ≡ true → word ≡ decimal n
  is_spelled n test is yes' = (bytes_eq-Decides word (decimal n)).0 (sym is ∙ yes')

  not_spelled : (n : ℕ) (test : Bool) → test ≡ bytes_eq word (decimal n) → test ≡ false → word ≡ decimal n → ⊥
  not_spelled n test is other e = let yes' : bytes_eq word (decimal n) ≡ true = (bytes_eq-Decides word (decimal n)).1 e in cc

  pub one_more : (n m : ℕ) (test : Bool) → m ≡ n + 1 → NoneUpTo n → test ≡ bytes_eq word (decimal m) → test ≡ false → NoneUpTo m
  one_more n m test next none is other k some few e =
      elim (below_or_at k m (omega (arith, few))) [
        | inl before ↦ none k some (omega (arith, before, next)) e
        | inr last ↦ not_spelled m test is other (subst (λ (x : ℕ). word ≡ decimal x) last e)
      ]

  pub all_tried : (n : ℕ) → most_instances ≤ n → NoneUpTo n → NoneUpTo most_instances
  all_tried n all none k some few e = none k some (omega (arith, few, all)) e
