-- Paths of choices that are gone through.
use Rattle.std.proofs.Common.{◌≡◌, ℕ, zero, suc, ◌+◌, ◌-◌, ◌<◌, Bool, true, false, not, ◌&&◌, ◌||◌, List, [], ◌∷◌, length, Option, None, Some, is_none, slice_get, ◌⊎◌, inl, inr, refl, ap, subst, ◌∙◌, arith}
use Rattle.std.proofs.lemmas.Option.{slice_get_within}
use Rattle.fp_tables.specs.Lists.{all_from}
use Rattle.fp_tables.specs.Machines.{node_at, either_branch, begins_choices, has_no_ring}
use Rattle.fp_sound_machines.specs.Behind.{found_at, choice_at, is_open, is_branch, IsPath}
use Rattle.fp_tables.specs.declared.machine.Node.{Node}
use Rattle.fp_tables.specs.declared.machine.Node.TheVariants as node
use Rattle.fp_tables.specs.declared.machine.Vertex.{Vertex}
use Rattle.fp_sound_machines.specs.declared.choices.Behind.{Behind}
use Rattle.fp_base.proofs.Bools.{both}
use Rattle.fp_sound_machines.proofs.Branches.{begins_step, begins_zero}

module _ (vs : List Vertex) where
  -- ---- chains of choices

  choice_branches : (v : ℕ) (o : Option Node) → node_at vs v ≡ o → choice_at vs v ≡ true → begins_choices vs 1 (Some v) ≡ true
  choice_branches v None e h = let none : choice_at vs v ≡ false = rw e refl in absurd (cc)
  choice_branches v (Some (node.State initial entry exit on)) e h = let none : choice_at vs v ≡ false = rw e refl in absurd (cc)
  choice_branches v (Some (node.Choice guard met unmet)) e h =
      begins_step vs 0 v ∙ ap (either_branch (begins_choices vs 0)) e ∙ rw (begins_zero vs met.target) refl

  or_true : (a b : Bool) → (a ≡ true) ⊎ (b ≡ true) → (a || b) ≡ true
  or_true true b h = refl
  or_true false b (inl h) = absurd (cc)
  or_true false b (inr h) = h

  branch_on : (n v w : ℕ) (o : Option Node) → node_at vs v ≡ o → is_branch vs v w → begins_choices vs n (Some w) ≡ true → begins_choices vs (suc n) (Some v) ≡ true
  branch_on n v w None e h b = let no : ⊥ = rw e at h in absurd no
  branch_on n v w (Some (node.State initial entry exit on)) e h b = let no : ⊥ = rw e at h in absurd no
  branch_on n v w (Some (node.Choice guard met unmet)) e h b =
      let one : (met.target ≡ Some w) ⊎ (unmet.target ≡ Some w) = rw e at h in
      begins_step vs n v ∙ ap (either_branch (begins_choices vs n)) e
      ∙ or_true _ _ (elim one [ inl t ↦ inl (ap (begins_choices vs n) t ∙ b) | inr t ↦ inr (ap (begins_choices vs n) t ∙ b) ])

  path_begins : (found : List (Option Behind)) (v : ℕ) (path : List ℕ) → IsPath vs found (v ∷ path) → begins_choices vs (suc (length path)) (Some v) ≡ true
  path_begins found v [] h = choice_branches v (node_at vs v) refl (both (choice_at vs v) (is_none (found_at found v)) h).0
  path_begins found v (w ∷ path) h = branch_on (suc (length path)) v w (node_at vs v) refl h.1 (path_begins found w path h.2)

  -- a longer chain begins with a shorter one
  fewer_begin : (n : ℕ) (t : Option ℕ) → begins_choices vs (suc n) t ≡ true → begins_choices vs n t ≡ true
  unfolding begins_choices
  fewer_begin zero t h = refl
  fewer_begin (suc n) None h = h
  fewer_begin (suc n) (Some v) h = of_node (fewer_begin n) (node_at vs v) h
    where
      of_node : ((t : Option ℕ) → begins_choices vs (suc n) t ≡ true → begins_choices vs n t ≡ true) → (o : Option Node) → either_branch (begins_choices vs (suc n)) o ≡ true →
          either_branch (begins_choices vs n) o ≡ true
      of_node fewer None h = h
      of_node fewer (Some (node.State initial entry exit on)) h = h
      of_node fewer (Some (node.Choice guard met unmet)) h = go (begins_choices vs (suc n) met.target) (begins_choices vs (suc n) unmet.target) refl refl h
        where
          go : (a b : Bool) → begins_choices vs (suc n) met.target ≡ a → begins_choices vs (suc n) unmet.target ≡ b → (a || b) ≡ true → (begins_choices vs n met.target || begins_choices vs n unmet.target) ≡ true
          go true b p q h = or_true _ _ (inl (fewer met.target p))
          go false true p q h = or_true _ _ (inr (fewer unmet.target q))
          go false false p q h = absurd (cc)

  fewer : (d m n : ℕ) (t : Option ℕ) → n ≡ m + d → begins_choices vs n t ≡ true → begins_choices vs m t ≡ true
  fewer zero m n t e h = let same : n ≡ m = omega arith in subst (λ (k : ℕ). begins_choices vs k t ≡ true) same h
  fewer (suc d) m n t e h =
      let same : n ≡ suc (m + d) = omega arith in
      fewer d m (m + d) t refl (fewer_begin (m + d) t (subst (λ (k : ℕ). begins_choices vs k t ≡ true) same h))

  -- ---- rings

  all_fail : {A : Type 0} (f : ℕ → A → Bool) (k n p : ℕ) (xs : List A) → p ≡ n + k → k < length xs → ((x : A) → f p x ≡ false) → all_from f n xs ≡ false
  all_fail f k n p [] e lt h = absurd (omega arith)
  all_fail f zero n p (x ∷ xs) e lt h = let same : n ≡ p = omega arith in let here = ap (λ (m : ℕ). f m x) same ∙ h x in rw here refl
  all_fail f (suc k) n p (x ∷ xs) e lt h = rw (all_fail f k (suc n) p xs (omega arith) (omega arith) h) (and_false (f n x))
    where
      and_false : (b : Bool) → (b && false) ≡ false
      and_false true = refl
      and_false false = refl

  within : (v : ℕ) (o : Option Vertex) → slice_get vs v ≡ o → choice_at vs v ≡ true → v < length vs
  within v None e h = let none : choice_at vs v ≡ false = rw e refl in absurd (cc)
  within v (Some x) e h = slice_get_within vs v x e

  pub choice_within : (v : ℕ) → choice_at vs v ≡ true → v < length vs
  choice_within v = within v (slice_get vs v) refl

  is_ring : (v : ℕ) → v < length vs → begins_choices vs (suc (length vs)) (Some v) ≡ true → has_no_ring vs ≡ false
  is_ring v lt h = all_fail (λ n (x : Vertex). not (begins_choices vs (suc (length vs)) (Some n))) v 0 v vs (omega arith) lt (λ x. rw h refl)

  first_choice : (found : List (Option Behind)) (v : ℕ) (path : List ℕ) → IsPath vs found (v ∷ path) → is_open vs found v ≡ true
  first_choice found v [] h = h
  first_choice found v (w ∷ path) h = h.0

  -- a path of more choices than there are vertices is a ring
  pub long_path : (found : List (Option Behind)) (path : List ℕ) → IsPath vs found path → length vs < length path → has_no_ring vs ≡ false
  long_path found [] h lt = absurd (omega arith)
  long_path found (v ∷ path) h lt =
      let here = (both (choice_at vs v) (is_none (found_at found v)) (first_choice found v path h)).0 in
      is_ring v (choice_within v here) (fewer (length path - length vs) (suc (length vs)) (suc (length path)) (Some v) (omega arith) (path_begins found v path h))
