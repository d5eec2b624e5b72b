-- States and choices by what was gathered.
use Rattle.std.proofs.Common.{◌≡◌, ℕ, suc, ◌+◌, ◌<◌, ◌⊎◌, List, [], ◌∷◌, ◌++◌, length, slice_get, Option, Some, refl, sym, ap, subst, ◌∙◌, inl, inr, arith}
use Rattle.std.proofs.lemmas.List.{append-nil}
use Rattle.std.specs.Option.{option_to_list}
use Rattle.fp_base.proofs.Options.{same_some}
use Rattle.fp_tree.specs.declared.machine.BehaviorElement.{BehaviorElement}
use Rattle.fp_tree.specs.declared.machine.ElementForm.{ElementForm}
use Rattle.fp_tree.specs.declared.machine.ElementForm.TheVariants as element
use Rattle.fp_tables.specs.declared.machine.Vertex.{Vertex}
use Rattle.fp_machines.specs.declared.gathering.Parts.{Parts}
use Rattle.fp_machines.specs.Gathered.{AreGathered, parts, vertex_by, vertices_by}
use Rattle.fp_machines.specs.Made.{vertex_in, vertices_from}

module _ (es : List BehaviorElement) where
  same_vertex : (at : ℕ) (p : Option ℕ) (f : ElementForm) → vertex_by es (parts es es (Some at)) p f ≡ vertex_in es at p f
  same_vertex at p (element.State n) = refl
  same_vertex at p (element.Choice c) = refl
  same_vertex at p (element.Initial g) = refl
  same_vertex at p (element.Signal t) = refl
  same_vertex at p (element.Action t) = refl
  same_vertex at p (element.Guard t) = refl
  same_vertex at p (element.On o) = refl
  same_vertex at p (element.Entry d) = refl
  same_vertex at p (element.Exit d) = refl

  -- where one of both ends, nothing is left
  pub nothing_left : (xs : List BehaviorElement) (ys : List Parts) (vs ws : List Vertex) → (length xs ≡ 0) ⊎ (length ys ≡ 0) → vs ++ vertices_by es xs ys ≡ ws → vs ≡ ws
  nothing_left [] ys vs ws h e = sym (append-nil vs) ∙ e
  nothing_left (x ∷ xs) [] vs ws h e = sym (append-nil vs) ∙ e
  nothing_left (x ∷ xs) (y ∷ ys) vs ws (inl h) e = absurd (omega arith)
  nothing_left (x ∷ xs) (y ∷ ys) vs ws (inr h) e = absurd (omega arith)

  abbrev HoldsFrom : ℕ → List Parts → ℕ → Type 0
  HoldsFrom at table n = (k : ℕ) → k < n → slice_get table k ≡ Some (parts es es (Some (at + k)))

  same_from : (at : ℕ) (more : List BehaviorElement) (table : List Parts) → length table ≡ length more → HoldsFrom at table (length more)
      → vertices_by es more table ≡ vertices_from es at more
  same_from at [] table l h = refl
  same_from at (e ∷ more) [] l h = absurd (omega arith)
  same_from at (e ∷ more) (ps ∷ table) l h =
      ap (λ (v : Option Vertex). option_to_list v ++ vertices_by es more table) (ap (λ (q : Parts). vertex_by es q e.parent e.form) here ∙ same_vertex at e.parent e.form)
      ∙ ap (λ (vs : List Vertex). option_to_list (vertex_in es at e.parent e.form) ++ vs) (same_from (at + 1) more table (omega arith) behind)
    where
      here : ps ≡ parts es es (Some at)
      here =
          let first : slice_get (ps ∷ table) 0 ≡ Some (parts es es (Some (at + 0))) = h 0 (omega arith) in
          let zero_more : at + 0 ≡ at = omega arith in same_some first ∙ ap (λ (k : ℕ). parts es es (Some k)) zero_more

      behind : HoldsFrom (at + 1) table (length more)
      behind k lt =
          let on : at + suc k ≡ at + 1 + k = omega arith in
          subst (λ (m : ℕ). slice_get table k ≡ Some (parts es es (Some m))) on (h (suc k) (omega arith))

  pub same_vertices : (table : List Parts) (top : Parts) → AreGathered es es (length es) table top → vertices_by es es table ≡ vertices_from es 0 es
  same_vertices table top h = same_from 0 es table h.each (λ k l. let plain : 0 + k ≡ k = omega arith in subst (λ (m : ℕ). slice_get table k ≡ Some (parts es es (Some m))) (sym plain) (h.exact k l))
