-- The first action from a place on.
use Rattle.std.proofs.Common.{◌≡◌, ℕ, zero, suc, ◌+◌, ◌<◌, List, [], ◌∷◌, length, drop, Option, Some, None, option_map, unwrap_or, refl, sym, ap, ◌∙◌, arith, add-one}
use Rattle.std.specs.List.{slice_get}
use Rattle.std.specs.Option.{option_and_then}
use Rattle.fp_events.specs.Actor.{Action, Doing}
use Rattle.fp_actor.specs.Levels.{reached}

abbrev actions_in : Option Doing → Option (List Action)
actions_in o = option_map (λ (d : Doing). d.actions) o

pub mapped_none : {A B : Type 0} (f : A → B) (o : Option A) (p : Option B) → option_map f o ≡ p → o ≡ None → p ≡ None
mapped_none f o p e n = sym e ∙ ap (option_map f) n

pub at_none : (ds : List Doing) (k m a : ℕ) → None ≡ actions_in (slice_get ds k) → reached (drop k ds) m a ≡ None
at_none [] zero m a e = refl
at_none [] (suc k) m a e = refl
at_none (d ∷ ds) zero m a e = absurd (cc)
at_none (d ∷ ds) (suc k) m a e = at_none ds k m a e

pub within : (ds : List Doing) (k : ℕ) (actions : List Action) → Some actions ≡ actions_in (slice_get ds k) → k < length ds
within [] k actions e = absurd (cc)
within (d ∷ ds) zero actions e = omega arith
within (d ∷ ds) (suc k) actions e = let h : k < length ds = within ds k actions e in omega arith

same_actions : (d : Doing) (actions : List Action) → Some actions ≡ Some d.actions → actions ≡ d.actions
same_actions d actions e = cc

pub here : (ds : List Doing) (k m a : ℕ) (actions : List Action) (x : Action) → Some actions ≡ actions_in (slice_get ds k) → slice_get actions a ≡ Some x → reached (drop k ds) m a ≡ Some (m, a, x)
here [] k m a actions x e h = absurd (cc)
here (d ∷ ds) zero m a actions x e h =
    ap (λ (o : Option Action). unwrap_or (option_map (λ (y : Action). Some (m, a, y)) o) (reached ds (suc m) 0)) (ap (λ (l : List Action). slice_get l a) (sym (same_actions d actions e)) ∙ h)
here (d ∷ ds) (suc k) m a actions x e h = here ds k m a actions x e h

pub onward : (ds : List Doing) (k m a : ℕ) (actions : List Action) → Some actions ≡ actions_in (slice_get ds k) → slice_get actions a ≡ None → reached (drop k ds) m a ≡ reached (drop (suc k) ds) (suc m) 0
onward [] k m a actions e h = absurd (cc)
onward (d ∷ ds) zero m a actions e h =
    ap (λ (o : Option Action). unwrap_or (option_map (λ (y : Action). Some (m, a, y)) o) (reached ds (suc m) 0)) (ap (λ (l : List Action). slice_get l a) (sym (same_actions d actions e)) ∙ h)
onward (d ∷ ds) (suc k) m a actions e h = onward ds k m a actions e h

pub onward_one : (ds : List Doing) (k a : ℕ) (actions : List Action) → Some actions ≡ actions_in (slice_get ds k) → slice_get actions a ≡ None → reached (drop k ds) k a ≡ reached (drop (k + 1) ds) (k + 1) 0
onward_one ds k a actions e h = rw add-one (onward ds k k a actions e h)

pub listed : (o : Option Doing) (actions : List Action) (a : ℕ) → Some actions ≡ actions_in o → slice_get actions a ≡ option_and_then (λ (d : Doing). slice_get d.actions a) o
listed None actions a e = absurd (cc)
listed (Some d) actions a e = ap (λ (l : List Action). slice_get l a) (same_actions d actions e)
