-- What a step of the vertices reaches through choices, it reaches among the items.
use Rattle.std.proofs.Common.{◌≡◌, ℕ, zero, suc, Bool, true, List, length, Option, Some, refl, ap, subst, ◌∙◌}
use Rattle.std.specs.List.{list_all}
use Rattle.std.proofs.lemmas.List.Folds.{list_all-append}
use Rattle.std.proofs.lemmas.Bool.{true_from_ne_false}
use Rattle.fp_base.proofs.Bools.{join, not_both}
use Rattle.fp_tables.specs.Machines.{node_at, reached, reached_at}
use Rattle.fp_tables.specs.Positions.{is_inside}
use Rattle.fp_tables.specs.declared.machine.Node.{Node}
use Rattle.fp_tables.specs.declared.machine.Vertex.{Vertex}
use Rattle.fp_machine_rules.specs.declared.item.Target.{Target}
use Rattle.fp_machine_rules.specs.declared.item.Target.TheVariants.{Stays, Undefined, To}
use Rattle.fp_machine_rules.specs.declared.item.Item.{Item}
use Rattle.fp_machine_rules.specs.Forms.{IsState, IsVertex}
use Rattle.fp_machine_rules.specs.Through.{Branches, met, unmet, Through, here, past, Escapes}
use Rattle.fp_sound_parts.proofs.Insides.{inside}
use Rattle.fp_sound_parts.proofs.Rings.{IsEither, state, choice, either_of, state_is_vertex}
use Rattle.fp_sound_parts.proofs.Standing.{Corresponds, to_number}

pub first_past : (items : List Item) (v w u : ℕ) → Branches items v (To w) → Through items w u → Through items v u
first_past items v w _ b here = past here b
first_past items v w u b (past {v = x} t c) = past (first_past items v w x b t) c

module _ (items : List Item) (vs : List Vertex) (number : ℕ → ℕ) (at : Corresponds items vs number) where
  -- all states behind a target pass
  abbrev AllBehind : (ℕ → Bool) → Target → Type 0
  AllBehind test t = (w s : ℕ) → t ≡ To w → Through items w s → IsState items s → test (number s) ≡ true

  -- a target that is there goes to a vertex
  abbrev pub IsToVertex : Target → Type 0
  IsToVertex t = (w : ℕ) → t ≡ To w → IsVertex items w

  pub along : (v u : ℕ) (t : Target) → t ≡ To u → Branches items v t → Branches items v (To u)
  along v u t e b = subst (λ (t : Target). Branches items v t) e b

  reached_there : (test : ℕ → Bool) (n w : ℕ) → AllBehind test (To w) → IsEither items w
      → ((t : Target) (o : Option ℕ) → o ≡ to_number number t → IsToVertex t → AllBehind test t → list_all test (reached vs n o) ≡ true)
      → list_all test (reached_at (reached vs n) (number w) (node_at vs (number w))) ≡ true
  reached_there test n w h (state s) again =
      let c = at.state w s in
      ap (λ (o : Option Node). list_all test (reached_at (reached vs n) (number w) o)) c.is ∙ join (test (number w)) true (h w w refl here s) refl
  reached_there test n w h (choice name a b p s) again =
      let c = at.choice w name a b p s in
      ap (λ (o : Option Node). list_all test (reached_at (reached vs n) (number w) o)) c.is
      ∙ (list_all-append test (reached vs n c.met.target) (reached vs n c.unmet.target)
      ∙ join (list_all test (reached vs n c.met.target)) (list_all test (reached vs n c.unmet.target)) (onward a c.met.target c.to_met (met s))
      (onward b c.unmet.target c.to_unmet (unmet s)))
    where
      onward : (t : Target) (o : Option ℕ) → o ≡ to_number number t → Branches items w t → list_all test (reached vs n o) ≡ true
      onward t o is b =
          again t o is (λ u e. at.leads w u (along w u t e b)) (λ u s e r is. h w s refl (first_past items w u s (along w u t e b) r) is)

  all_reached : (test : ℕ → Bool) (n : ℕ) (t : Target) (o : Option ℕ) → o ≡ to_number number t → IsToVertex t → AllBehind test t → list_all test (reached vs n o) ≡ true
  unfolding reached
  all_reached test zero t o is v h = refl
  all_reached test (suc n) Stays o is v h = ap (λ (p : Option ℕ). list_all test (reached vs (suc n) p)) is
  all_reached test (suc n) Undefined o is v h = ap (λ (p : Option ℕ). list_all test (reached vs (suc n) p)) is
  all_reached test (suc n) (To w) o is v h =
      ap (λ (p : Option ℕ). list_all test (reached vs (suc n) p)) is
      ∙ reached_there test n w h (either_of items w (v w refl)) (λ t o is v h. all_reached test n t o is v h)

  -- a step that doesn't escape from a state reaches only what stands inside it
  pub reaches_inside : (p n : ℕ) (t : Target) (o : Option ℕ) → o ≡ to_number number t → IsToVertex t → (Escapes items (Some p) t → ⊥)
      → list_all (λ w. is_inside vs (length vs) w (number p)) (reached vs n o) ≡ true
  reaches_inside p n t o is v never = all_reached (λ w. is_inside vs (length vs) w (number p)) n t o is v each
    where
      each : (w s : ℕ) → t ≡ To w → Through items w s → IsState items s → is_inside vs (length vs) (number s) (number p) ≡ true
      each w s e r state_is =
          true_from_ne_false (is_inside vs (length vs) (number s) (number p))
          (λ out. never (record {
            vertex = w;
            to = e;
            state = s;
            is = state_is;
            reaches = r;
            outside = λ i. not_both (inside items vs number at p s (state_is_vertex items s state_is) i) out;
          }))
