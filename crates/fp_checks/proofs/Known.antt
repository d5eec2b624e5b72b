-- Calls whose priorities a queue has.
use Rattle.std.proofs.Common.{◌≡◌, ℤ, ◌<◌, lit<, pos, refl, List, [], ◌∷◌, sym, subst}
use Rattle.std.specs.List.{All, Contains}
use Rattle.std.proofs.lemmas.List.Elements.{All-from_recursion}
use Rattle.fp_queue.specs.declared.call.Call.{Call}
use Rattle.fp_queue.specs.declared.call.Call.TheVariants as call
use Rattle.fp_queue.specs.Calls.{HasPriority}
use Rattle.fp_queue.proofs.Known.{known_at}

-- four puts and four takes
pub known_all : {M : Type 0} (ks : List ℤ) (all : List (Call M)) (a b c d e f g h : Call M)
    → all ≡ a ∷ b ∷ c ∷ d ∷ e ∷ f ∷ g ∷ h ∷ [] → HasPriority ks a → HasPriority ks b → HasPriority ks c → HasPriority ks d
    → HasPriority ks e → HasPriority ks f → HasPriority ks g → HasPriority ks h → All (HasPriority ks) all
known_all ks all a b c d e f g h same i j k l m n o p =
    subst (λ cs. All (HasPriority ks) cs) (sym same)
    (All-from_recursion (HasPriority ks) (a ∷ b ∷ c ∷ d ∷ e ∷ f ∷ g ∷ h ∷ []) (i, (j, (k, (l, (m, (n, (o, (p, tt)))))))))
