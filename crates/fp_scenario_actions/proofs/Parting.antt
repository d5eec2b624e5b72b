-- Texts round a dot.
use Rattle.std.proofs.Common.{◌≡◌, ℕ, suc, ◌+◌, Bool, true, false, cond, List, [], ◌∷◌, take, drop, Option, Some, None, option_map, refl, sym, ap, ◌∙◌, add-one}
use Rattle.std.specs.Prelude.{option_and_then, position, ◌==◌}
use Rattle.fp_tables.specs.Lookup.{Described}
use Rattle.fp_tables.specs.declared.component.Component.{Component}
use Rattle.fp_tables.specs.declared.program.Spot.{Spot}
use Rattle.fp_scenario_actions.specs.Named.{running_named}
use Rattle.fp_scenario_actions.specs.Spots.{parted, action_at, action_spot}
use Rattle.fp_tables.proofs.Firsts.{position_cons}

abbrev cut : List ℕ → ℕ → List ℕ × List ℕ
cut bs k = (take k bs, drop (suc k) bs)

begun : (b : ℕ) (bs : List ℕ) (o : Option ℕ) → option_map (λ (p : List ℕ × List ℕ). (b ∷ p.0, p.1)) (option_map (cut bs) o) ≡ option_map (cut (b ∷ bs)) (option_map suc o)
begun b bs None = refl
begun b bs (Some k) = refl

parted_at : (bs : List ℕ) → parted 46 bs ≡ option_map (cut bs) (position (λ b. b == 46) bs)
parted_at [] = refl
parted_at (b ∷ bs) = go (b == 46) (parted_at bs) ∙ ap (option_map (cut (b ∷ bs))) (sym (position_cons (λ x. x == 46) b bs))
  where
    go : (same : Bool) → parted 46 bs ≡ option_map (cut bs) (position (λ x. x == 46) bs) → cond same (Some ([], bs)) (option_map (λ (p : List ℕ × List ℕ). (b ∷ p.0, p.1)) (parted 46 bs)) ≡ option_map (cut (b ∷ bs)) (cond same (Some 0) (option_map suc (position (λ x. x == 46) bs)))
    go true rest = refl
    go false rest = ap (option_map (λ (p : List ℕ × List ℕ). (b ∷ p.0, p.1))) rest ∙ begun b bs (position (λ x. x == 46) bs)

pub parted_some : (bs : List ℕ) (k : ℕ) → Some k ≡ position (λ b. b == 46) bs → parted 46 bs ≡ Some (take k bs, drop (k + 1) bs)
parted_some bs k is = parted_at bs ∙ ap (option_map (cut bs)) (sym is) ∙ rw add-one refl

pub parted_none : (bs : List ℕ) → None ≡ position (λ b. b == 46) bs → parted 46 bs ≡ None
parted_none bs is = parted_at bs ∙ ap (option_map (cut bs)) (sym is)

module _ (t : Described) (c : Component) (name : List ℕ) where
  abbrev of_parts : List ℕ × List ℕ → Option Spot
  of_parts p = option_and_then (action_at t c p.1) (running_named c.machines p.0)

  pub action_there : (k r : ℕ) (s : Option Spot) → Some k ≡ position (λ b. b == 46) name → Some r ≡ running_named c.machines (take k name) → s ≡ action_at t c (drop (k + 1) name) r → s ≡ action_spot t c name
  action_there k r s is runs found = found ∙ ap (option_and_then (action_at t c (drop (k + 1) name))) runs ∙ ap (option_and_then of_parts) (sym (parted_some name k is))

  pub action_absent : (k : ℕ) → Some k ≡ position (λ b. b == 46) name → None ≡ running_named c.machines (take k name) → None ≡ action_spot t c name
  action_absent k is runs = ap (option_and_then (action_at t c (drop (k + 1) name))) runs ∙ ap (option_and_then of_parts) (sym (parted_some name k is))

  pub action_undotted : None ≡ position (λ b. b == 46) name → None ≡ action_spot t c name
  action_undotted is = ap (option_and_then of_parts) (sym (parted_none name is))
