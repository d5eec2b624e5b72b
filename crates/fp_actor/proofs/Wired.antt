-- Sends from ports that have a wire.
use Rattle.std.proofs.Common.{◌≡◌, ℕ, Bool, true, false, cond, List, [], ◌∷◌, ◌++◌, Option, Some, None, ap, ◌∙◌}
use Rattle.std.specs.Option.{option_to_list}
use Rattle.fp_tables.specs.declared.component.Special.{Special}
use Rattle.fp_events.specs.Actor.{Action, send}

pub one_send : (r : Option Action) (b : Bool) (s : Special) (n m : List ℕ) → r ≡ cond b (Some (send s n)) None → n ≡ m → option_to_list r ++ [] ≡ cond b (send s m ∷ []) [] ++ []
one_send r true s n m e f = ap (λ (o : Option Action). option_to_list o ++ []) e ∙ ap (λ k. send s k ∷ []) f
one_send r false s n m e f = ap (λ (o : Option Action). option_to_list o ++ []) e

pub two_sends : (r q : Option Action) (b d : Bool) (s u : Special) (n m k : List ℕ) → r ≡ cond b (Some (send s n)) None → n ≡ m → q ≡ cond d (Some (send u k)) None →
    option_to_list r ++ option_to_list q ≡ cond b (send s m ∷ []) [] ++ (cond d (send u k ∷ []) [] ++ [])
two_sends r q b true s u n m k e f g = go b e
  where
    go : (b : Bool) → r ≡ cond b (Some (send s n)) None → option_to_list r ++ option_to_list q ≡ cond b (send s m ∷ []) [] ++ (send u k ∷ [])
    go true e = ap (λ (o : Option Action). option_to_list o ++ option_to_list q) e ∙ ap (λ (o : Option Action). send s n ∷ option_to_list o) g ∙ ap (λ j. send s j ∷ send u k ∷ []) f
    go false e = ap (λ (o : Option Action). option_to_list o ++ option_to_list q) e ∙ ap (λ (o : Option Action). option_to_list o) g
two_sends r q b false s u n m k e f g = go b e
  where
    go : (b : Bool) → r ≡ cond b (Some (send s n)) None → option_to_list r ++ option_to_list q ≡ cond b (send s m ∷ []) [] ++ []
    go true e = ap (λ (o : Option Action). option_to_list o ++ option_to_list q) e ∙ ap (λ (o : Option Action). send s n ∷ option_to_list o) g ∙ ap (λ j. send s j ∷ []) f
    go false e = ap (λ (o : Option Action). option_to_list o ++ option_to_list q) e ∙ ap (λ (o : Option Action). option_to_list o) g
