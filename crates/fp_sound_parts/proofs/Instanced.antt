-- That the instances of a model are sound.
use Rattle.std.proofs.Common.{◌≡◌, ◌∙◌, ap, refl, sym, subst, ℕ, zero, suc, ◌<◌, ◌+◌, true, ℤ, pos, nat_lt, List, [], ◌∷◌, length, Option, None, Some, slice_get, inl, inr, arith}
use Rattle.std.specs.Prelude.{option_map}
use Rattle.std.specs.List.{list_all}
use Rattle.std.proofs.lemmas.Bool.Decides.{nat_tests}
use Rattle.std.proofs.lemmas.Option.{slice_get-map, slice_get_within}
use Rattle.fp_base.specs.Least.{IsUnbroken}
use Rattle.fp_base.proofs.Spots.{item_below}
use Rattle.fp_base.proofs.Passing.{all_items}
use Rattle.fp_tables.specs.Instances as model
use Rattle.fp_tables.specs.Sound.{HasSoundInstances}
use Rattle.fp_tables.specs.declared.model.Model.{Model}
use Rattle.fp_tables.specs.declared.topology.Instance.{Instance}
use Rattle.fp_written_parts.specs.Lying.{ComponentsLie}
use Rattle.fp_written_parts.specs.declared.instance.WrittenInstance.{WrittenInstance}
use Rattle.fp_instances.specs.InstanceBroken.{BrokenInstance}
use Rattle.fp_instances.specs.Broken.{InstancesBroken}
use Rattle.fp_instances.specs.Facts.{all_facts, facts_of, top_at}
use Rattle.fp_instances.specs.Ranges.{range_of, range_with, ranges}
use Rattle.fp_instances.specs.Resolved.{AreInstances, IsInstance}
use Rattle.fp_sound_parts.proofs.Own.{numbers_fit, queue_suits}
use Rattle.fp_sound_parts.proofs.Spaced.{AllBeside, Beside, spaced, spaced_there}

pub record IsBeside (ws : List WrittenInstance) (k : ℕ) (x : Instance) : Type 0 where
  pub written : WrittenInstance
  pub at : slice_get ws k ≡ Some written
  pub is : IsInstance written x

-- what an instance is of
pub beside : (ws : List WrittenInstance) (xs : List Instance) → AreInstances ws xs → (k : ℕ) (x : Instance) → slice_get xs k ≡ Some x → IsBeside ws k x
beside ws xs are k x at =
    let n = are.each in
    let low = slice_get_within xs k x at in
    let w = item_below ws k (omega arith) in
    record { written = w.0; at = w.1; is = are.at k w.0 x w.1 at }

pub all_lie : (m : Model) (ws : List WrittenInstance) → AreInstances ws m.instances → ComponentsLie (length m.components) ws → list_all (λ (i : Instance). nat_lt i.component (length m.components)) m.instances ≡ true
all_lie m ws are lie =
    all_items (λ (i : Instance). nat_lt i.component (length m.components)) m.instances (λ k x at.
    let w = beside ws m.instances are k x at in
    let low = lie k w.written w.at in
    let same = w.is.component in
    test x.component w.written.component same low)
  where
    test : (a b : ℕ) → a ≡ b → b < length m.components → nat_lt a (length m.components) ≡ true
    test a b e low = grind (arith, nat_tests)

module _ (m : Model) where
  range_beside : (w : WrittenInstance) (x : Instance) → IsInstance w x → Beside (range_of (facts_of m.components w)) (model.range_of m x)
  range_beside w x is =
      subst (λ (k : ℕ). Beside (range_of (facts_of m.components w)) (option_map (λ (n : ℕ). (x.base, x.base + n)) (top_at m.components k))) (sym is.component)
      (subst (λ (o : Option ℤ). Beside (range_with (facts_of m.components w) o (top_at m.components w.component)) (option_map (λ (n : ℕ). (x.base, x.base + n)) (top_at m.components w.component))) (sym is.base)
      (by (top_at m.components w.component)))
    where
      by : (top : Option ℕ) → Beside (range_with (facts_of m.components w) (Some (pos x.base)) top) (option_map (λ (n : ℕ). (x.base, x.base + n)) top)
      by None = tt
      by (Some n) = (refl, refl)

  ranges_beside : (ws : List WrittenInstance) (xs : List Instance) → AreInstances ws xs → AllBeside range_of (model.range_of m) (all_facts m.components ws) xs
  ranges_beside [] [] are = tt
  ranges_beside [] (x ∷ xs) are = (let n = are.each in absurd (omega (arith, n)))
  ranges_beside (w ∷ ws) [] are = (let n = are.each in absurd (omega (arith, n)))
  ranges_beside (w ∷ ws) (x ∷ xs) are =
      let n = are.each in
      (range_beside w x (are.at zero w x refl refl), ranges_beside ws xs (record { each = omega (arith, n); at = λ k v y here there. are.at (suc k) v y here there }))

  module _ (ws : List WrittenInstance) (are : AreInstances ws m.instances) (unbroken : IsUnbroken (InstancesBroken m.components ws)) where
    own : (k : ℕ) (w : WrittenInstance) → slice_get ws k ≡ Some w → IsUnbroken (BrokenInstance (facts_of m.components w))
    own k w at f b =
        let there : slice_get (all_facts m.components ws) k ≡ Some (facts_of m.components w) = slice_get-map (facts_of m.components) ws k ∙ ap (option_map (facts_of m.components)) at in
        unbroken f (inl (k, facts_of m.components w, there, b))

    pub all_sound : ComponentsLie (length m.components) ws → HasSoundInstances m
    all_sound lie =
        record {
          instances_have_their_queues =
              all_items (model.has_its_queue m) m.instances (λ k x at.
              let w = beside ws m.instances are k x at in
              queue_suits m w.written x w.is (own k w.written w.at) (lie k w.written w.at));
          ranges_are_apart = spaced_there range_of (model.range_of m) (all_facts m.components ws) m.instances (ranges_beside ws m.instances are) (spaced (ranges (all_facts m.components ws)) (λ f b. unbroken f (inr b)));
          numbers_are_in_range =
              all_items (model.numbers_are_in_range m) m.instances (λ k x at.
              let w = beside ws m.instances are k x at in
              numbers_fit m w.written x w.is (own k w.written w.at));
        }
