-- The initial transitions of states stay in them.
use Rattle.std.proofs.Common.{◌≡◌, ℕ, suc, true, List, length, slice_get, Option, Some, None, refl, sym, ap, ◌∙◌}
use Rattle.std.specs.List.{list_all}
use Rattle.fp_base.proofs.Options.{same_some}
use Rattle.fp_tree.specs.declared.machine.BehaviorElement.{BehaviorElement}
use Rattle.fp_tree.specs.declared.machine.ElementForm.{ElementForm}
use Rattle.fp_tree.specs.declared.machine.ElementForm.TheVariants as element
use Rattle.fp_tree.specs.declared.machine.Goto.{Goto}
use Rattle.fp_tables.specs.Lists.{if_some}
use Rattle.fp_tables.specs.Machines as machines
use Rattle.fp_tables.specs.Machines.{reached, stays_inside}
use Rattle.fp_tables.specs.Positions.{is_inside}
use Rattle.fp_tables.specs.declared.machine.Step.{Step}
use Rattle.fp_tables.specs.declared.machine.Vertex.{Vertex}
use Rattle.fp_machine_rules.specs.declared.item.Form.TheVariants.{Initial}
use Rattle.fp_machine_rules.specs.Forms.{Stands}
use Rattle.fp_machine_rules.specs.Members.{same_place}
use Rattle.fp_machine_rules.specs.Through.{LeavesItsState}
use Rattle.fp_machines.specs.Outline.{outline}
use Rattle.fp_machines.specs.Steps.{laid_form, laid_item, target_of}
use Rattle.fp_machines.specs.Made.{initial_in, initial_of, step_of, vertex_number}
use Rattle.fp_machines.specs.Ordered.{AreInOrder}
use Rattle.fp_sound_parts.proofs.Corresponding.{corresponds, goes_to, items, target_is, vertices}
use Rattle.fp_sound_parts.proofs.Counts.{same_parents}
use Rattle.fp_sound_parts.proofs.Parts.{Has, part_there}
use Rattle.fp_sound_parts.proofs.Reaching.{reaches_inside}
use Rattle.fp_sound_parts.proofs.Vertices.{item_here}

-- the element of an initial transition in a state, or in the machine
pub record IsInitialAt (es : List BehaviorElement) (p : Option ℕ) (s : Step) : Type 0 where
  pub at : ℕ
  pub source : BehaviorElement
  pub here : slice_get es at ≡ Some source
  pub parent : source.parent ≡ p
  pub go : Goto
  pub form : source.form ≡ element.Initial go
  pub is : step_of es p go ≡ s

module _ (es : List BehaviorElement) where
  pub initial_at : (p : Option ℕ) (s : Step) → initial_of es p ≡ Some s → IsInitialAt es p s
  initial_at p s h = by (part_there (λ (e : BehaviorElement). same_place p e.parent) (λ (e : BehaviorElement). initial_in es p e.form) es 0 s h)
    where
      by : Has (λ (e : BehaviorElement). same_place p e.parent) (λ (e : BehaviorElement). initial_in es p e.form) es s → IsInitialAt es p s
      by h = go h.element.form refl h.gives
        where
          go : (f : ElementForm) → h.element.form ≡ f → initial_in es p f ≡ Some s → IsInitialAt es p s
          go (element.Initial g) is e =
              record { at = h.at; source = h.element; here = h.here; parent = same_parents p h.element.parent h.passes; go = g; form = is; is = same_some e }
          go (element.State n) is e = absurd cc
          go (element.Choice n) is e = absurd cc
          go (element.Signal n) is e = absurd cc
          go (element.Action n) is e = absurd cc
          go (element.Guard n) is e = absurd cc
          go (element.On n) is e = absurd cc
          go (element.Entry n) is e = absurd cc
          go (element.Exit n) is e = absurd cc

  pub initial_stands : (p : Option ℕ) (s : Step) → (i : IsInitialAt es p s) → Stands (items es) i.at (Initial (target_of es (outline es) p i.go.target)) p
  initial_stands p s i = record {
    item = laid_item es (outline es) i.source;
    here = item_here es i.at i.source i.here;
    form =
        ap (λ (f : ElementForm). laid_form es (outline es) i.source.parent f) i.form
        ∙ ap (λ (q : Option ℕ). Initial (target_of es (outline es) q i.go.target)) i.parent;
    parent = i.parent;
  }

  pub stays : AreInOrder (outline es) → ((v : ℕ) → LeavesItsState (items es) v → ⊥) → (u : ℕ) (x : Vertex) (o : Option Step) → initial_of es (Some u) ≡ o → machines.initial_of x.node ≡ o
      → stays_inside (vertices es) (vertex_number es u) x ≡ true
  stays order never u x None is node =
      ap (if_some (λ (s : Step). list_all (λ w. is_inside (vertices es) (length (vertices es)) w (vertex_number es u)) (reached (vertices es) (suc (length (vertices es))) s.target))) node
  stays order never u x (Some s) is node =
      let i = initial_at (Some u) s is in
      let t = target_of es (outline es) (Some u) i.go.target in
      ap (if_some (λ (s : Step). list_all (λ w. is_inside (vertices es) (length (vertices es)) w (vertex_number es u)) (reached (vertices es) (suc (length (vertices es))) s.target))) node
      ∙ reaches_inside (items es) (vertices es) (vertex_number es) (corresponds es order) u (suc (length (vertices es))) t s.target
      (ap (λ (s : Step). s.target) (sym i.is) ∙ goes_to es (Some u) i.go.target)
      (λ w e. target_is es (Some u) i.go.target w e)
      (λ escapes. never i.at (record { parent = Some u; target = t; stands = initial_stands (Some u) s i; escapes = escapes }))
