-- What each vertex of a machine is: a state's, with what stands in it, or a choice's.
use Rattle.std.proofs.Common.{◌≡◌, ℕ, List, slice_get, Option, Some, sym, ap, ◌∙◌}
use Rattle.std.specs.Option.{option_map}
use Rattle.fp_base.proofs.Options.{same_some}
use Rattle.fp_tree.specs.declared.machine.BehaviorElement.{BehaviorElement}
use Rattle.fp_tables.specs.Machines.{node_at}
use Rattle.fp_tables.specs.declared.machine.Node.{Node}
use Rattle.fp_tables.specs.declared.machine.Node.TheVariants as node
use Rattle.fp_tables.specs.declared.machine.Step.{Step}
use Rattle.fp_tables.specs.declared.machine.Vertex.{Vertex}
use Rattle.fp_machine_rules.specs.Forms.{IsState}
use Rattle.fp_machines.specs.Made.{choice_node, state_node, vertex_number}
use Rattle.fp_sound_parts.proofs.Corresponding.{choice_at, choice_node_there, items, item_of_vertex, state_at, state_node_there, vertices}
use Rattle.fp_sound_parts.proofs.Rings.{IsEither, state, choice, either_of}
use Rattle.fp_sound_parts.proofs.Vertices.{vertex_back}

pub data VertexIs (es : List BehaviorElement) (n : ℕ) (x : Vertex) : Type 0 where
  of_state : (u : ℕ) → IsState (items es) u → n ≡ vertex_number es u → x.node ≡ state_node es u → VertexIs es n x
  of_choice : (guard : ℕ) (first second : Step) → x.node ≡ node.Choice guard first second → VertexIs es n x

module _ (es : List BehaviorElement) where
  node_is : (n u : ℕ) (x : Vertex) (y : Node) → slice_get (vertices es) n ≡ Some x → n ≡ vertex_number es u → node_at (vertices es) (vertex_number es u) ≡ Some y → x.node ≡ y
  node_is n u x y h same there =
      same_some (sym (ap (λ (o : Option Vertex). option_map (λ (x : Vertex). x.node) o) h) ∙ (ap (λ (k : ℕ). node_at (vertices es) k) same ∙ there))

  pub each_vertex : (n : ℕ) (x : Vertex) → slice_get (vertices es) n ≡ Some x → VertexIs es n x
  each_vertex n x h = let b = vertex_back es n x h in go b.at b.number (either_of (items es) b.at (item_of_vertex es b.at (record { element = b.element; here = b.here; is = b.passes })))
    where
      go : (u : ℕ) → n ≡ vertex_number es u → IsEither (items es) u → VertexIs es n x
      go u same (state s) =
          let t = state_at es u s in
          of_state u s same (node_is n u x (state_node es u) h same (state_node_there es u t.source t.name t.here t.form))
      go u same (choice name a b p s) =
          let c = choice_at es u name a b p s in
          of_choice _ _ _ (node_is n u x (choice_node es c.source.parent c.choice) h same (choice_node_there es u c.source c.choice c.here c.form))
