-- The instances of a topology, by their names.
use Rattle.std.proofs.Common.{◌≡◌, ℕ, Bool, true, false, cond, ◌==◌, List, [], Option, Some, None, is_some, option_map, refl, sym, ap, ◌∙◌, subst}
use Rattle.std.specs.Prelude.{slice_get, unwrap_or}
use Rattle.std.specs.List.{AllByRecursion}
use Rattle.fp_base.proofs.Options.{then_some, some_if}
use Rattle.fp_base.proofs.Sameness.{nat_same}
use Rattle.fp_base.proofs.Lists.{each_item}
use Rattle.fp_base.proofs.Passing.{any_at}
use Rattle.fp_tables.specs.Acts.{is_placed}
use Rattle.fp_tables.specs.Lists.{is_in}
use Rattle.fp_tables.specs.Lookup.{Described, instance_named, place_of, placed}
use Rattle.fp_tables.specs.Sound.{IsSoundAt}
use Rattle.fp_tables.specs.declared.topology.Instance.{Instance}
use Rattle.fp_tables.specs.declared.topology.Topology.{Topology}
use Rattle.fp_tables.proofs.Firsts.{placed_somewhere}
use Rattle.fp_scenario_actions.specs.Named.{placed_named}
use Rattle.fp_scenario_check.proofs.Apart.{Apart, apart_tests, apart_weaker}
use Rattle.fp_scenario_check.proofs.Spelled.{one_named}

pub each_is_in : (ns : List ℕ) → AllByRecursion (λ i. is_in i ns ≡ true) ns
each_is_in ns = each_item (λ i. is_in i ns ≡ true) ns (λ k i e. any_at (λ m. m == i) ns k i e (nat_same.itself i))

kept_so : (b : Bool) (j i : ℕ) → cond b (Some j) None ≡ Some i → b ≡ true
kept_so true j i e = refl
kept_so false j i e = absurd (cc)

module _ (t : Described) where
  pub instance_is : (name : List ℕ) (i : ℕ) → placed_named t name ≡ Some i → instance_named t.model name ≡ Some i
  instance_is name i h =
      let j = then_some (λ (n : ℕ). cond (is_some (place_of t n)) (Some n) None) (instance_named t.model name) i h in
      j.1 ∙ ap Some (some_if j.0 i (is_some (place_of t j.0)) j.2)

  pub named_placed : (name : List ℕ) (i : ℕ) → placed_named t name ≡ Some i → is_placed t i ≡ true
  named_placed name i h =
      let j = then_some (λ (n : ℕ). cond (is_some (place_of t n)) (Some n) None) (instance_named t.model name) i h in
      let there : is_placed t j.0 ≡ true = sym (placed_somewhere (λ (k : ℕ). k == j.0) (placed t)) ∙ kept_so (is_some (place_of t j.0)) j.0 i j.2 in
      subst (λ (n : ℕ). is_placed t n ≡ true) (some_if j.0 i (is_some (place_of t j.0)) j.2) there

  pub one_instance : (a b : List ℕ) (i : ℕ) → placed_named t a ≡ Some i → placed_named t b ≡ Some i → a ≡ b
  one_instance a b i h k = one_named (λ (x : Instance). x.name) t.model.instances a b i (instance_is a i h) (instance_is b i k)

  pub instances_apart : IsSoundAt t.model (slice_get t.model.topologies t.topology) → Apart (λ (i j : ℕ). i ≡ j) (placed t)
  instances_apart good = go (slice_get t.model.topologies t.topology) good
    where
      go : (o : Option Topology) → IsSoundAt t.model o → Apart (λ (i j : ℕ). i ≡ j) (unwrap_or (option_map (λ (x : Topology). x.instances) o) [])
      go None sound = absurd sound
      go (Some o) sound =
          apart_weaker (λ (m n : ℕ). (m == n) ≡ true) (λ (m n : ℕ). m ≡ n) (λ m n e. ap (λ (k : ℕ). m == k) (sym e) ∙ nat_same.itself m) o.instances
          (apart_tests (λ (m n : ℕ). m == n) o.instances sound.instances_differ)
