-- The roots are the tree of no definitions.
use Rattle.std.proofs.Common.{◌≡◌, ℕ, zero, suc, List, [], ◌∷◌, ◌++◌, slice_get, Some, inl, refl, sym, ap, subst, ◌∙◌}
use Rattle.fp_base.proofs.Options.{same_some}
use Rattle.fp_base.proofs.Lists.{no_item}
use Rattle.fp_meaning.specs.declared.group.Group.{Group}
use Rattle.fp_meaning.specs.declared.group.Group.TheVariants.{Kind, Value, Port, Component, Instance, Topology, Machine, Interface}
use Rattle.fp_meaning.specs.Names.{Path}
use Rattle.fp_names.specs.declared.tree.Node.{Node}
use Rattle.fp_names.specs.Tree.{root, Spot, spot, IsTable, AreRoots}
use Rattle.fp_names.proofs.Lists.{not_nil, nil_parts}
use Rattle.fp_names.proofs.Growing.{none_some}

abbrev eight : List Spot
eight = spot Kind [] ∷ spot Value [] ∷ spot Port [] ∷ spot Component [] ∷ spot Instance [] ∷ spot Topology [] ∷ spot Machine [] ∷ spot Interface [] ∷ []

abbrev IsRooted : ℕ → Spot → Type 0
IsRooted j s = (j ≡ root s.group) × (s.names ≡ [])

moved : (j : ℕ) (a s : Spot) → Some a ≡ Some s → IsRooted j a → IsRooted j s
moved j a s e r = subst (λ (x : Spot). IsRooted j x) (same_some e) r

rooted : (j : ℕ) (s : Spot) → slice_get eight j ≡ Some s → IsRooted j s
rooted zero s e = moved 0 _ s e (refl, refl)
rooted (suc zero) s e = moved 1 _ s e (refl, refl)
rooted (suc (suc zero)) s e = moved 2 _ s e (refl, refl)
rooted (suc (suc (suc zero))) s e = moved 3 _ s e (refl, refl)
rooted (suc (suc (suc (suc zero)))) s e = moved 4 _ s e (refl, refl)
rooted (suc (suc (suc (suc (suc zero))))) s e = moved 5 _ s e (refl, refl)
rooted (suc (suc (suc (suc (suc (suc zero)))))) s e = moved 6 _ s e (refl, refl)
rooted (suc (suc (suc (suc (suc (suc (suc zero))))))) s e = moved 7 _ s e (refl, refl)
rooted (suc (suc (suc (suc (suc (suc (suc (suc j)))))))) s e = cc

rooted_here : (g : Group) → slice_get eight (root g) ≡ Some (spot g [])
rooted_here Kind = refl
rooted_here Value = refl
rooted_here Port = refl
rooted_here Component = refl
rooted_here Instance = refl
rooted_here Topology = refl
rooted_here Machine = refl
rooted_here Interface = refl

pub roots_table : (nodes : List Node) → AreRoots nodes → IsTable [] nodes
roots_table nodes r = (
  eight,
  record {
    tree = record {
      each = r.each;
      roots = rooted_here;
      follows = λ n j g p t e f. absurd (none_some (r.steps n t) f);
      leads = λ n j g p t e f. absurd (not_nil p t (rooted j (spot g (p ++ t ∷ [])) f).1);
      closed = λ j g p q e.
          let empty = nil_parts p q (rooted j (spot g (p ++ q)) e).1 in
          (root g, rooted_here g ∙ ap (λ (x : Path). Some (spot g x)) (sym empty.0));
      single = λ i j s a b. (rooted i s a).0 ∙ sym (rooted j s b).0;
    };
    known = λ j g p e. inl (rooted j (spot g p) e).1;
    found = λ g p k. absurd (no_item k.0 k.2.definition k.2.here);
    says = λ j g p e. record {
      holds = λ k f. absurd (none_some (r.meanings j) f);
      none = λ k f n. no_item k n.definition n.here;
    };
  },
)
