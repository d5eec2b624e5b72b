-- A model whose connections have their numbers. FPP Language Specification, "Topology Definitions".
use Rattle.std.specs.Prelude.{◌≡◌, ℕ, List, length, slice_get, Some}
use Rattle.fp_base.specs.declared.refusal.Refusal.{Refusal}
use Rattle.fp_base.specs.Least.{InSome}
use Rattle.fp_tables.specs.declared.model.Model.{Model}
use Rattle.fp_tables.specs.declared.topology.Topology.{Topology}
use Rattle.fp_numbering.specs.Answers.{AreNumbered}
use Rattle.fp_numbering.specs.Broken.{Breaks}
use Rattle.fp_numbering.specs.Ends.{matches_of, tips_of}

-- a rule of numbering, in one of the topologies
abbrev pub BrokenIn : Model → ℕ → Topology → Refusal → Type 0
BrokenIn m t o = Breaks (matches_of m) (tips_of m o.links)

abbrev pub NumbersBroken : Model → Refusal → Type 0
NumbersBroken m = InSome (BrokenIn m) m.topologies

-- with the numbers of its connections
pub record IsNumbered (m : Model) (before after : Topology) : Type 0 where
  pub name : after.name ≡ before.name
  pub instances : after.instances ≡ before.instances
  pub links : after.links ≡ before.links
  pub wires : AreNumbered m before.links after.wires

pub record AreAllNumbered (m : Model) (before after : List Topology) : Type 0 where
  pub each : length after ≡ length before
  pub at : (t : ℕ) (o p : Topology) → slice_get before t ≡ Some o → slice_get after t ≡ Some p → IsNumbered m o p

-- the same model with these topologies
abbrev pub with_topologies : Model → List Topology → Model
with_topologies m ts =
    record {
      constants = m.constants;
      types = m.types;
      ports = m.ports;
      components = m.components;
      machines = m.machines;
      instances = m.instances;
      topologies = ts;
      order = m.order;
    }

pub record IsWired (before after : Model) : Type 0 where
  pub topologies : AreAllNumbered before before.topologies after.topologies
  pub rest : after ≡ with_topologies before after.topologies
