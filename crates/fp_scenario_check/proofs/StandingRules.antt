-- The instances that handlers stand for.
use Rattle.std.proofs.Common.{◌≡◌, ℕ, Bool, true, false, not, ◌==◌, ◌&&◌, List, Option, Some, None, refl, sym, ap, ◌∙◌, subst}
use Rattle.std.specs.Prelude.{slice_get}
use Rattle.std.specs.List.{AllByRecursion}
use Rattle.std.specs.Str.{bytes_eq}
use Rattle.fp_base.proofs.Bools.{both, join, not_true}
use Rattle.fp_base.proofs.Lists.{each_mapped, each_weaker, each_item}
use Rattle.fp_base.proofs.Options.{one_some}
use Rattle.fp_base.proofs.Sameness.{nat_same}
use Rattle.fp_base.proofs.Passing.{any_at, each_passing}
use Rattle.fp_base.proofs.Bytes.{same_bytes, bytes_same}
use Rattle.fp_tables.specs.Acts.{is_placed}
use Rattle.fp_tables.specs.Lists.{some_and}
use Rattle.fp_tables.specs.Lookup.{Described, placed}
use Rattle.fp_tables.specs.Positions.{component_of}
use Rattle.fp_tables.specs.Sound.{IsSoundAt}
use Rattle.fp_tables.specs.declared.component.Component.{Component}
use Rattle.fp_tables.proofs.Optional.{some_and_of, some_and_at}
use Rattle.fp_scenario.specs.declared.scenario.Scenario.{Scenario}
use Rattle.fp_scenario.specs.declared.scenario.HandlerText.{HandlerText}
use Rattle.fp_scenario_actions.specs.Named.{placed_named}
use Rattle.fp_scenario_check.specs.Planned.{has_own, is_of, of_instance, stands_for, at_each, pairs, same_handler}
use Rattle.fp_scenario_check.proofs.Apart.{Apart, apart_map, apart_filter, apart_flat}
use Rattle.fp_scenario_check.proofs.Placed.{each_is_in, instances_apart, named_placed, one_instance}

-- one instance and one text of a place
abbrev pub OnePlace : HandlerText × ℕ → HandlerText × ℕ → Type 0
OnePlace p q = (p.1 ≡ q.1) × (p.0.on_ ≡ q.0.on_)

module _ (t : Described) (scenario : Scenario) where
  pub stands_placed : (h : HandlerText) → AllByRecursion (λ i. is_placed t i ≡ true) (stands_for t scenario h)
  stands_placed h = go (placed_named t h.of) refl
    where
      go : (o : Option ℕ) → placed_named t h.of ≡ o → AllByRecursion (λ i. is_placed t i ≡ true) (of_instance t scenario h o)
      go (Some i) is = (named_placed t h.of i is, tt)
      go None is = each_passing (λ i. is_placed t i ≡ true) (λ i. is_placed t i ≡ true) (λ i. is_of t h.of i && not (has_own t scenario h.on_ i)) (λ i there kept. there) (placed t) (each_is_in (placed t))

  stands_apart : IsSoundAt t.model (slice_get t.model.topologies t.topology) → (h : HandlerText) → Apart (λ (i j : ℕ). i ≡ j) (stands_for t scenario h)
  stands_apart sound h = go (placed_named t h.of)
    where
      go : (o : Option ℕ) → Apart (λ (i j : ℕ). i ≡ j) (of_instance t scenario h o)
      go (Some i) = (tt, tt)
      go None = apart_filter (λ (i j : ℕ). i ≡ j) (λ i. is_of t h.of i && not (has_own t scenario h.on_ i)) (placed t) (instances_apart t sound)

  -- the instance's own handler, or its component's where it has none
  data StandsBy (h : HandlerText) (i : ℕ) : Type 0 where
    own : placed_named t h.of ≡ Some i → StandsBy h i
    of_component : is_of t h.of i ≡ true → has_own t scenario h.on_ i ≡ false → StandsBy h i

  stands_by : (h : HandlerText) → AllByRecursion (StandsBy h) (stands_for t scenario h)
  stands_by h = go (placed_named t h.of) refl
    where
      go : (o : Option ℕ) → placed_named t h.of ≡ o → AllByRecursion (StandsBy h) (of_instance t scenario h o)
      go (Some i) is = (own is, tt)
      go None is =
          each_passing (λ i. is_placed t i ≡ true) (StandsBy h) (λ i. is_of t h.of i && not (has_own t scenario h.on_ i))
          (λ i there kept. let e = both (is_of t h.of i) (not (has_own t scenario h.on_ i)) kept in of_component e.0 (not_true (has_own t scenario h.on_ i) e.1)) (placed t) (each_is_in (placed t))

  -- a handler of an instance is its own one at its place
  abbrev IsOwn : HandlerText → Type 0
  IsOwn h = (on : List ℕ) (i : ℕ) → h.on_ ≡ on → placed_named t h.of ≡ Some i → has_own t scenario on i ≡ true

  are_own : AllByRecursion IsOwn scenario.handlers
  are_own =
      each_item IsOwn scenario.handlers
      (λ k h e on i same is. any_at (λ (g : HandlerText). bytes_eq g.on_ on && some_and (λ j. j == i) (placed_named t g.of)) scenario.handlers k h e (join _ _ (bytes_same h.on_ on same) (some_and_at (λ (j : ℕ). j == i) (placed_named t h.of) i is (nat_same.itself i))))

  one_component : (a b : List ℕ) (i : ℕ) → is_of t a i ≡ true → is_of t b i ≡ true → a ≡ b
  one_component a b i h k =
      let c = some_and_of (λ (c : Component). bytes_eq c.name a) (component_of t.model i) h in
      let d = some_and_of (λ (c : Component). bytes_eq c.name b) (component_of t.model i) k in
      sym (same_bytes c.0.name a c.2) ∙ ap (λ (x : Component). x.name) (one_some (component_of t.model i) c.0 d.0 c.1 d.1) ∙ same_bytes d.0.name b d.2

  differs : (b : Bool) → b ≡ true → b ≡ false → ⊥
  differs true h k = cc
  differs false h k = cc

  -- two handlers that stand for one instance at one place are of one name
  one_owner : (g h : HandlerText) (i : ℕ) → IsOwn g → IsOwn h → g.on_ ≡ h.on_ → StandsBy g i → StandsBy h i → g.of ≡ h.of
  one_owner g h i g_own h_own same (own p) (own q) = one_instance t g.of h.of i p q
  one_owner g h i g_own h_own same (own p) (of_component q none) = absurd (differs (has_own t scenario h.on_ i) (g_own h.on_ i same p) none)
  one_owner g h i g_own h_own same (of_component p none) (own q) = absurd (differs (has_own t scenario g.on_ i) (h_own g.on_ i (sym same) q) none)
  one_owner g h i g_own h_own same (of_component p none) (of_component q none_) = one_component g.of h.of i p q

  meet : (g h : HandlerText) (i j : ℕ) → IsOwn g → IsOwn h → StandsBy g i → StandsBy h j → OnePlace (g, i) (h, j) → same_handler g h ≡ true
  meet g h i j g_own h_own p q one =
      join _ _ (bytes_same g.of h.of (one_owner g h i g_own h_own one.1 p (subst (StandsBy h) (sym one.0) q))) (bytes_same g.on_ h.on_ one.1)

  -- no two pairs are of one instance and one place
  pub pairs_apart : IsSoundAt t.model (slice_get t.model.topologies t.topology) → Apart (λ (g h : HandlerText). same_handler g h ≡ true) scenario.handlers → Apart OnePlace (pairs t scenario)
  pairs_apart sound differ =
      apart_flat OnePlace (at_each t scenario) IsOwn (λ (g h : HandlerText). same_handler g h ≡ true)
      (λ h is_own. apart_map (λ (i j : ℕ). i ≡ j) OnePlace (λ i. (h, i)) (λ i j one. one.0) (stands_for t scenario h) (stands_apart sound h))
      (λ g h g_own h_own differ. across g h g_own h_own differ) scenario.handlers are_own differ
    where
      across : (g h : HandlerText) → IsOwn g → IsOwn h → (same_handler g h ≡ true → ⊥) → AllByRecursion (λ (x : HandlerText × ℕ). AllByRecursion (λ (y : HandlerText × ℕ). OnePlace x y → ⊥) (at_each t scenario h)) (at_each t scenario g)
      across g h g_own h_own differ =
          each_mapped (λ (x : HandlerText × ℕ). AllByRecursion (λ (y : HandlerText × ℕ). OnePlace x y → ⊥) (at_each t scenario h)) (λ i. (g, i)) (stands_for t scenario g)
          (each_weaker (StandsBy g) (λ i. AllByRecursion (λ (y : HandlerText × ℕ). OnePlace (g, i) y → ⊥) (at_each t scenario h))
          (λ i p. each_mapped (λ (y : HandlerText × ℕ). OnePlace (g, i) y → ⊥) (λ j. (h, j)) (stands_for t scenario h)
          (each_weaker (StandsBy h) (λ j. OnePlace (g, i) (h, j) → ⊥) (λ j q one. differ (meet g h i j g_own h_own p q one)) (stands_for t scenario h) (stands_by h))) (stands_for t scenario g) (stands_by g))
