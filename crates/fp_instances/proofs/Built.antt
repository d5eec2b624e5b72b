-- Instances that are built one after another.
use Rattle.std.proofs.Common.{◌≡◌, ℕ, ◌+◌, ◌<◌, ◌≤◌, ◌⊎◌, inl, inr, List, [], ◌∷◌, ◌++◌, length, slice_get, Some, None, refl, sym, ap, subst, ◌∙◌, arith}
use Rattle.std.proofs.lemmas.List.{length-append}
use Rattle.std.proofs.lemmas.Option.{slice_get_within}
use Rattle.fp_base.proofs.Spots.{get_push}
use Rattle.fp_tables.specs.declared.topology.Instance.{Instance}
use Rattle.fp_written_parts.specs.declared.instance.WrittenInstance.{WrittenInstance}
use Rattle.fp_instances.specs.Resolved.{AreInstances, IsInstance}

-- the first so many
pub record AreBuilt (ws : List WrittenInstance) (count : ℕ) (xs : List Instance) : Type 0 where
  pub each : length xs ≡ count
  pub within : count ≤ length ws
  pub at : (k : ℕ) (w : WrittenInstance) (x : Instance) → slice_get ws k ≡ Some w → slice_get xs k ≡ Some x → IsInstance w x

pub none_built : (ws : List WrittenInstance) (xs : List Instance) → xs ≡ [] → AreBuilt ws 0 xs
none_built ws xs e = subst (λ (ys : List Instance). AreBuilt ws 0 ys) (sym e) (record { each = refl; within = omega arith; at = λ k w x here there. absurd (cc) })

pub next_built : (ws : List WrittenInstance) (n : ℕ) (xs more : List Instance) (w : WrittenInstance) (x : Instance) → slice_get ws n ≡ Some w → IsInstance w x → more ≡ xs ++ x ∷ []
    → AreBuilt ws n xs → AreBuilt ws (n + 1) more
next_built ws n xs more w x here is made h =
    subst (λ (ys : List Instance). AreBuilt ws (n + 1) ys) (sym made)
    (record {
      each = (let long = length-append xs (x ∷ []) in let few = h.each in omega arith);
      within = (let low = slice_get_within ws n w here in omega arith);
      at = λ k v y at there. go k v y at (get_push xs x y k there);
    })
  where
    go : (k : ℕ) (v : WrittenInstance) (y : Instance) → slice_get ws k ≡ Some v → (slice_get xs k ≡ Some y) ⊎ ((k ≡ length xs) × (x ≡ y)) → IsInstance v y
    go k v y at (inl there) = h.at k v y at there
    go k v y at (inr (spot, same)) =
        let as_w : w ≡ v = (let as_n : k ≡ n = spot ∙ h.each in cc) in
        subst (λ (i : Instance). IsInstance v i) same (subst (λ (u : WrittenInstance). IsInstance u x) as_w is)

pub all_built : (ws : List WrittenInstance) (n : ℕ) (xs : List Instance) → length ws ≤ n → AreBuilt ws n xs → AreInstances ws xs
all_built ws n xs past h = record { each = (let few = h.each in let low = h.within in omega arith); at = h.at }
