-- The order of vertices tells them apart.
use Rattle.std.proofs.Common.{◌≡◌, ◌∙◌, ℕ, true, ap, refl}
use Rattle.std.specs.Ordering.{is_eq, nat_cmp, ordering_then}
use Rattle.std.specs.declared.cmp.Ordering.{Ordering}
use Rattle.std.specs.declared.cmp.Ordering.TheVariants.{Less, Equal, Greater}
use Rattle.std.specs.BTreeMap.{is_at}
use Rattle.fp_base.proofs.Comparing.{numbers_equal}
use Rattle.fp_tables.specs.contracts.program.SpotOrd.TheImpl as of_spots
use Rattle.fp_tables.specs.declared.program.Spot.{Spot}
use Rattle.fp_tables.specs.declared.program.Spot.TheVariants as spot
use Rattle.fp_reach.specs.contracts.node.NodeOrd.TheImpl as of_nodes
use Rattle.fp_reach.specs.contracts.node.LockOrd.TheImpl as of_locks
use Rattle.fp_reach.specs.contracts.vertex.VertexOrd.TheImpl as of_vertices
use Rattle.fp_reach.specs.declared.node.Node.{Node}
use Rattle.fp_reach.specs.declared.node.Node.TheVariants.{At, Implied}
use Rattle.fp_reach.specs.declared.node.Lock.{Lock as Held}
use Rattle.fp_reach.specs.declared.node.Lock.TheVariants.{Guard, Turn}
use Rattle.fp_reach.specs.declared.vertex.Vertex.TheVariants.{Handler, Action, Lock}
use Rattle.fp_reach.specs.Rings.{Tells}

both_same : (o p : Ordering) → is_eq (ordering_then o p) ≡ true → (is_eq o ≡ true) × (is_eq p ≡ true)
both_same Equal p h = (refl, h)
both_same Less p h = absurd (cc)
both_same Greater p h = absurd (cc)

spots_tell : (s q : Spot) → is_at ((of_spots.ghosts).cmp s) q ≡ true → s ≡ q
spots_tell (spot.Port m) (spot.Port n) h = ap spot.Port (numbers_equal m n h)
spots_tell (spot.Command m) (spot.Command n) h = ap spot.Command (numbers_equal m n h)
spots_tell (spot.Action r a) (spot.Action q b) h =
    let e = both_same (nat_cmp r q) (nat_cmp a b) h in
    ap (λ (n : ℕ). spot.Action n a) (numbers_equal r q e.0) ∙ ap (spot.Action q) (numbers_equal a b e.1)
spots_tell (spot.HookPort m) (spot.HookPort n) h = ap spot.HookPort (numbers_equal m n h)
spots_tell (spot.HookCommand m) (spot.HookCommand n) h = ap spot.HookCommand (numbers_equal m n h)
spots_tell (spot.HookSignal m) (spot.HookSignal n) h = ap spot.HookSignal (numbers_equal m n h)
spots_tell _ _ h = absurd (cc)

nodes_tell : (u v : Node) → is_at ((of_nodes.ghosts).cmp u) v ≡ true → u ≡ v
nodes_tell (At m s) (At n q) h =
    let e = both_same (nat_cmp m n) ((of_spots.ghosts).cmp s q) h in
    ap (λ (k : ℕ). At k s) (numbers_equal m n e.0) ∙ ap (At n) (spots_tell s q e.1)
nodes_tell (Implied m a) (Implied n b) h =
    let e = both_same (nat_cmp m n) (nat_cmp a b) h in
    ap (λ (k : ℕ). Implied k a) (numbers_equal m n e.0) ∙ ap (Implied n) (numbers_equal a b e.1)
nodes_tell _ _ h = absurd (cc)

locks_tell : (l m : Held) → is_at ((of_locks.ghosts).cmp l) m ≡ true → l ≡ m
locks_tell (Guard m) (Guard n) h = ap Guard (numbers_equal m n h)
locks_tell (Turn m) (Turn n) h = ap Turn (numbers_equal m n h)
locks_tell _ _ h = absurd (cc)

pub vertices_tell : Tells (of_vertices.ghosts).cmp
vertices_tell (Handler u) (Handler v) h = ap Handler (nodes_tell u v h)
vertices_tell (Action m a) (Action n b) h =
    let e = both_same (nat_cmp m n) (nat_cmp a b) h in
    ap (λ (k : ℕ). Action k a) (numbers_equal m n e.0) ∙ ap (Action n) (numbers_equal a b e.1)
vertices_tell (Lock l) (Lock m) h = ap Lock (locks_tell l m h)
vertices_tell _ _ h = absurd (cc)
