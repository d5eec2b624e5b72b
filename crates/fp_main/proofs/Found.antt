-- What stands under the names of the load's files.
use Rattle.std.proofs.Common.{◌≡◌, ℕ, List, Bool, true, Some, codes, sym, ap, ◌∙◌, subst}
use Rattle.std.specs.Str.{bytes_eq}
use Rattle.std.proofs.lemmas.Slice.Eq.{bytes_eq-Decides}
use Rattle.fp_outside.specs.Files.{bytes_of}
use Rattle.fp_main.specs.Held.{both_files}

module _ (source scenario name copy : List ℕ) where
  named : (other : List ℕ) (test : Bool) → test ≡ bytes_eq name other → test ≡ true → other ≡ name
  named other test is same = sym ((bytes_eq-Decides name other).0 (sym is ∙ same))

  pub under_source : (test : Bool) → test ≡ bytes_eq name (codes "make.fpp") → test ≡ true → copy ≡ source → Some copy ≡ bytes_of (both_files source scenario) name
  under_source test is same copied =
      subst (λ (n : List ℕ). Some copy ≡ bytes_of (both_files source scenario) n) (named (codes "make.fpp") test is same) (ap Some copied)

  pub under_scenario : (test : Bool) → test ≡ bytes_eq name (codes "make.json") → test ≡ true → copy ≡ scenario → Some copy ≡ bytes_of (both_files source scenario) name
  under_scenario test is same copied =
      subst (λ (n : List ℕ). Some copy ≡ bytes_of (both_files source scenario) n) (named (codes "make.json") test is same) (ap Some copied)
