-- A model whose connections have their numbers is the one that the source defines, where it was before.
use Rattle.std.proofs.Common.{◌≡◌, ℕ, Bool, true, ◌&&◌, List, length, slice_get, Some, sym, ap, subst, ◌∙◌, arith}
use Rattle.std.specs.Prelude.{nat_lt, ◌^◌}
use Rattle.std.specs.List.{list_all}
use Rattle.fp_base.proofs.Bools.{both, join}
use Rattle.fp_base.proofs.Lists.{get_within}
use Rattle.fp_base.proofs.Spots.{item_below}
use Rattle.fp_tree.specs.declared.source.Source.{Source}
use Rattle.fp_tables.specs.Positions.{component_is_short, is_short, lists_are_short, machine_is_short}
use Rattle.fp_tables.specs.declared.component.Component.{Component}
use Rattle.fp_tables.specs.declared.kind.PortDef.{PortDef}
use Rattle.fp_tables.specs.declared.model.Model.{Model}
use Rattle.fp_tables.specs.declared.topology.Instance.{Instance}
use Rattle.fp_tables.specs.declared.topology.Link.{Link}
use Rattle.fp_tables.specs.declared.topology.Topology.{Topology}
use Rattle.fp_numbering.specs.Answers.{AreNumbered}
use Rattle.fp_numbering.specs.Wired.{AreAllNumbered, IsWired, with_topologies}
use Rattle.fp_written_parts.specs.declared.topology.WrittenTopology.{WrittenTopology}
use Rattle.fp_topologies.specs.Resolved.{AreTopologies}
use Rattle.fp_model.specs.Defined.{AreWired, Defined}
use Rattle.fp_model.specs.Joined.{Joined}
use Rattle.fp_model.proofs.Renaming.{all_named}

-- numbering keeps what topologies come from
abbrev pub Keeps : Type 0
Keeps = (m : Model) (before after : List Topology) (ports : List PortDef) (components : List Component) (instances : List Instance) (written : List WrittenTopology) → AreAllNumbered m before after
    → AreTopologies ports components instances written before → AreTopologies ports components instances written after

short_again : (r y f g h x k : Bool) → ((((r && y) && f) && g) && h) ≡ true → x ≡ y → k ≡ true → ((((r && x) && f) && g) && k) ≡ true
short_again r y f g h x k e same there =
    ap (λ (b : Bool). (((r && b) && f) && g) && k) same ∙ join (((r && y) && f) && g) k (both (((r && y) && f) && g) h e).0 there

module _ (m : Model) (os : List Topology) (are : AreAllNumbered m m.topologies os) where
  -- one that stands there before
  before_it : (t : ℕ) (p : Topology) → slice_get os t ≡ Some p → (o : Topology) × (slice_get m.topologies t ≡ Some o)
  before_it t p at =
      let low = get_within os t p at in
      let each = are.each in
      item_below m.topologies t (omega (arith, low, each))

  same_numbers : (p : Topology) → AreNumbered m p.links p.wires → AreNumbered (with_topologies m os) p.links p.wires
  same_numbers p n = record { unbroken = n.unbroken; joined = n.joined; numbered = n.numbered }

  all_wired : AreWired (with_topologies m os)
  all_wired t p at =
      let o = before_it t p at in
      let numbered = are.at t o.0 p o.1 at in
      same_numbers p (subst (λ (ls : List Link). AreNumbered m ls p.wires) (sym numbered.links) numbered.wires)

  each_short : list_all (λ (t : Topology). is_short t.instances) m.topologies ≡ true → list_all (λ (t : Topology). is_short t.instances) os ≡ true
  each_short =
      all_named (λ (t : Topology). t.instances) (λ (t : Topology). t.instances) (λ (ns : List ℕ). is_short ns) os m.topologies are.each (λ k p o here there. (are.at k o p there here).instances)

  all_short : lists_are_short m ≡ true → lists_are_short (with_topologies m os) ≡ true
  all_short h =
      short_again (is_short m.constants && is_short m.types && is_short m.ports && is_short m.components && is_short m.machines && is_short m.instances) (is_short m.topologies) (list_all component_is_short m.components)
      (list_all machine_is_short m.machines) (list_all (λ (t : Topology). is_short t.instances) m.topologies) (is_short os) (list_all (λ (t : Topology). is_short t.instances) os) h
      (ap (λ (n : ℕ). nat_lt n (2 ^ 32)) are.each)
      (each_short
      (both (is_short m.constants && is_short m.types && is_short m.ports && is_short m.components && is_short m.machines && is_short m.instances && is_short m.topologies && list_all component_is_short m.components && list_all machine_is_short m.machines)
      (list_all (λ (t : Topology). is_short t.instances) m.topologies) h).1)

module _ (source : Source) (before after : Model) (wired : IsWired before after) where
  pub wired_defined : Keeps → Joined source before → Defined source after
  wired_defined keeps j =
      subst (Defined source) (sym wired.rest) (record {
        constants = j.constants;
        types = j.types;
        parts = j.parts;
        machines = j.machines;
        instances = j.instances;
        topologies =
            record {
              written = j.topologies.written;
              are = j.topologies.are;
              topologies = keeps before before.topologies after.topologies before.ports before.components before.instances j.topologies.written.topologies wired.topologies j.topologies.topologies;
            };
        wires = all_wired before after.topologies wired.topologies;
        order = j.order;
      })

  pub wired_short : lists_are_short before ≡ true → lists_are_short after ≡ true
  wired_short h = ap lists_are_short wired.rest ∙ all_short before after.topologies wired.topologies h
