-- Whether a vertex is an action, and the first one that is.
use Rattle.std.proofs.Common.{◌≡◌, ◌∙◌, ℕ, List, slice_get, Option, Some, None, refl, ap}
use Rattle.fp_reach.specs.declared.vertex.Vertex.{Vertex}
use Rattle.fp_reach.specs.declared.cycles.Ring.{Ring}
use Rattle.fp_reach.specs.Found.{IsOneOf}
use Rattle.fp_reach.specs.declared.vertex.Vertex.TheVariants.{Handler, Action, Lock}

abbrev pub IsAction : Vertex → Type 0
IsAction (Action n k) = Unit {0}
IsAction _ = ⊥

pub no_action : (x : Vertex) → ((n k : ℕ) → x ≡ Action n k → ⊥) → IsAction x → ⊥
no_action (Action n k) other h = other n k refl
no_action (Handler u) other h = h
no_action (Lock m) other h = h

pub no_action_at : (vs : List Vertex) (k : ℕ) → ((n j : ℕ) → slice_get vs k ≡ Some (Action n j) → ⊥) → (x : Vertex) → slice_get vs k ≡ Some x → IsAction x → ⊥
no_action_at vs k other x at = no_action x (λ n j e. other n j (at ∙ ap Some e))

pub one_of_other : (P Q : Vertex → Type 0) → ((x : Vertex) → P x → Q x) → ((x : Vertex) → Q x → P x) → (o : Option Ring) → IsOneOf P o → IsOneOf Q o
one_of_other P Q to back None h = λ n k q. h n k (back (Action n k) q)
one_of_other P Q to back (Some ring) h = to (Action ring.handler ring.action) h
