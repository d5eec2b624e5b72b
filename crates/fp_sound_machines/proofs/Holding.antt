-- The states in which vertices stand.
use Rattle.std.proofs.Common.{◌≡◌, ℕ, suc, Bool, ◌||◌, eqb, List, [], ◌∷◌, map, Option, None, Some, refl, ap, ap₂, ◌∙◌, arith}
use Rattle.std.specs.List.{list_any}
use Rattle.std.specs.Option.{option_cmp}
use Rattle.std.specs.Ordering.{eq_by_cmp, nat_cmp}
use Rattle.std.specs.BTreeSet.{BTreeSet, IsFromIterResult, contains}
use Rattle.std.proofs.lemmas.Bool.Decides.{nat_tests}
use Rattle.fp_tables.specs.Lists.{some_and, all_from}
use Rattle.fp_tables.specs.Machines.{has_its_initial}
use Rattle.fp_sound_machines.specs.Walks.{begins_where}
use Rattle.fp_tables.specs.declared.machine.Node.{Node}
use Rattle.fp_tables.specs.declared.machine.Node.TheVariants as node
use Rattle.fp_tables.specs.declared.machine.Vertex.{Vertex}

abbrev holds_some : List Vertex → ℕ → Bool
holds_some vs n = list_any (λ (w : Vertex). some_and (λ p. eqb p n) w.parent) vs

same_parent : (n : ℕ) (p : Option ℕ) → eq_by_cmp (option_cmp nat_cmp) (Some n) p ≡ some_and (λ p. eqb p n) p
same_parent n None = refl
same_parent n (Some p) = grind (arith, nat_tests)

parents_hold : (n : ℕ) (vs : List Vertex) → list_any (eq_by_cmp (option_cmp nat_cmp) (Some n)) (map (λ (v : Vertex). v.parent) vs) ≡ holds_some vs n
parents_hold n [] = refl
parents_hold n (v ∷ vs) = ap₂ (λ (a b : Bool). a || b) (same_parent n v.parent) (parents_hold n vs)

begins : (vs : List Vertex) (n : ℕ) (v : Vertex) → begins_where (holds_some vs n) v.node ≡ has_its_initial vs n v
begins vs n v = of_node v.node
  where
    of_node : (x : Node) → begins_where (holds_some vs n) x ≡ has_its_initial vs n (record v { node = x })
    of_node (node.State (Some s) entry exit on) = refl
    of_node (node.State None entry exit on) = refl
    of_node (node.Choice guard met unmet) = refl

pub all_alike : {A : Type 0} (f g : ℕ → A → Bool) → ((n : ℕ) (x : A) → f n x ≡ g n x) → (n : ℕ) (xs : List A) → all_from f n xs ≡ all_from g n xs
all_alike f g same n [] = refl
all_alike f g same n (x ∷ xs) = rw (same n x, all_alike f g same (suc n) xs) refl

pub all_begin : (vs : List Vertex) (held : BTreeSet (Option ℕ)) → IsFromIterResult (option_cmp nat_cmp) (map (λ (v : Vertex). v.parent) vs) held →
    all_from (λ n (v : Vertex). begins_where (contains (option_cmp nat_cmp) held (Some n)) v.node) 0 vs ≡ all_from (has_its_initial vs) 0 vs
all_begin vs held made =
    all_alike _ (has_its_initial vs) (λ n v. ap (λ b. begins_where b v.node) (made.0 (Some n) ∙ parents_hold n vs) ∙ begins vs n v) 0 vs
