-- Topologies whose connections are numbered are those that were resolved, and lie in their model as these do.
use Rattle.std.proofs.Common.{◌≡◌, ◌∙◌, ap, refl, sym, subst, ℕ, Bool, true, false, List, ◌++◌, length, Some, slice_get, arith}
use Rattle.std.specs.Prelude.{◌&&◌}
use Rattle.std.specs.List.{list_all}
use Rattle.std.proofs.lemmas.Option.{slice_get_within}
use Rattle.fp_base.proofs.Spots.{item_below}
use Rattle.fp_base.proofs.Passing.{all_items}
use Rattle.fp_tables.specs.Positions.{link_lies, numbers_lie, topology_lies, wire_lies}
use Rattle.fp_tables.specs.declared.component.Component.{Component}
use Rattle.fp_tables.specs.declared.kind.PortDef.{PortDef}
use Rattle.fp_tables.specs.declared.model.Model.{Model}
use Rattle.fp_tables.specs.declared.topology.Instance.{Instance}
use Rattle.fp_tables.specs.declared.topology.Link.{Link}
use Rattle.fp_tables.specs.declared.topology.Topology.{Topology}
use Rattle.fp_numbering.specs.Answers.{AreNumbered}
use Rattle.fp_numbering.specs.Wired.{AreAllNumbered, IsNumbered, IsWired, with_topologies}
use Rattle.fp_written_parts.specs.Lying.{DeploymentLies, TopologyLies}
use Rattle.fp_written_parts.specs.declared.topology.WrittenDeployment.{WrittenDeployment}
use Rattle.fp_written_parts.specs.declared.topology.WrittenTopology.{WrittenTopology}
use Rattle.fp_instances.specs.Resolved.{AreInstances}
use Rattle.fp_topologies.specs.Joined.{imported_links}
use Rattle.fp_topologies.specs.Laws.{HaveClosures, TopologiesLie}
use Rattle.fp_topologies.specs.Ordered.{AreInOrder, link_cmp}
use Rattle.fp_topologies.specs.Resolved.{AreTopologies, HaveNoWires}

abbrev pub WiresLie : Type 0
WiresLie = (m : Model) (o : Topology) → AreNumbered m o.links o.wires → list_all (link_lies m) o.links ≡ true → list_all (wire_lies m) o.wires ≡ true

pub record IsLater (m : Model) (before : List Topology) (t : ℕ) (p : Topology) : Type 0 where
  pub earlier : Topology
  pub at : slice_get before t ≡ Some earlier
  pub is : IsNumbered m earlier p

first_two : (a b c : Bool) → (a && b && c) ≡ true → (a ≡ true) × (b ≡ true)
first_two true true c h = (refl, refl)
first_two true false c h = absurd (cc)
first_two false b c h = absurd (cc)

three : (a b c : Bool) → a ≡ true → b ≡ true → c ≡ true → (a && b && c) ≡ true
three true true c p q r = r
three true false c p q r = absurd (cc)
three false b c p q r = absurd (cc)

-- in the model that has these topologies
pub numbered_there : (before after : Model) → IsWired before after → AreAllNumbered after before.topologies after.topologies
numbered_there before after is = subst (λ (m : Model). AreAllNumbered m before.topologies after.topologies) (sym is.rest) (record { each = is.topologies.each; at = λ t o p e f. one o p (is.topologies.at t o p e f) })
  where
    one : (o p : Topology) → IsNumbered before o p → IsNumbered (with_topologies before after.topologies) o p
    one o p n = record { name = n.name; instances = n.instances; links = n.links; wires = record { unbroken = n.wires.unbroken; joined = n.wires.joined; numbered = n.wires.numbered } }

module _ (m : Model) (before after : List Topology) (numbered : AreAllNumbered m before after) where
  later : (t : ℕ) (p : Topology) → slice_get after t ≡ Some p → IsLater m before t p
  later t p at =
      let n = numbered.each in
      let low = slice_get_within after t p at in
      let o = item_below before t (omega arith) in
      record { earlier = o.0; at = o.1; is = numbered.at t o.0 p o.1 at }

  pub each_numbered : (t : ℕ) (p : Topology) → slice_get after t ≡ Some p → AreNumbered m p.links p.wires
  each_numbered t p at =
      let l = later t p at in
      subst (λ (ls : List Link). AreNumbered m ls p.wires) (sym l.is.links) l.is.wires

  pub still_topologies : (ds : List PortDef) (cs : List Component) (is : List Instance) (ts : List WrittenTopology) → AreTopologies ds cs is ts before → AreTopologies ds cs is ts after
  still_topologies ds cs is ts a =
      record {
        closures = a.closures;
        closed = a.closed;
        joined = a.joined;
        are = a.are;
        each = numbered.each ∙ a.each;
        resolved =
            record {
              of = λ t o c j r at closed there here.
                  let l = later t r here in
                  let was = a.resolved.of t o c j l.earlier at closed there l.at in
                  record {
                    name = l.is.name ∙ was.name;
                    instances = l.is.instances ∙ was.instances;
                    links = subst (λ (ls : List Link). AreInOrder (link_cmp cs is) (imported_links ts a.joined c ++ j.own) ls) (sym l.is.links) was.links;
                  };
            };
      }

  one_lies : WiresLie → (o p : Topology) → IsNumbered m o p → topology_lies m o ≡ true → topology_lies m p ≡ true
  one_lies law o p is h =
      let parts = first_two (numbers_lie (length m.instances) o.instances) (list_all (link_lies m) o.links) (list_all (wire_lies m) o.wires) h in
      let links : list_all (link_lies m) p.links ≡ true = ap (list_all (link_lies m)) is.links ∙ parts.1 in
      let are : AreNumbered m p.links p.wires = subst (λ (ls : List Link). AreNumbered m ls p.wires) (sym is.links) is.wires in
      three (numbers_lie (length m.instances) p.instances) (list_all (link_lies m) p.links) (list_all (wire_lies m) p.wires) (ap (numbers_lie (length m.instances)) is.instances ∙ parts.0) links
      (law m p are links)

  module _ (w : WrittenDeployment) (have : HaveClosures w.topologies) (lie : DeploymentLies (length m.components) w) (of : AreInstances w.instances m.instances)
      (are : AreTopologies m.ports m.components m.instances w.topologies before) (wires : HaveNoWires before) where
    pub all_lie : TopologiesLie → WiresLie → list_all (topology_lies m) after ≡ true
    all_lie resolved law =
        all_items (topology_lies m) after (λ t p at.
        let l = later t p at in
        one_lies law l.earlier p l.is
        (resolved m m.ports w.topologies before have (λ u o here. subst (λ (n : ℕ). TopologyLies n (length w.topologies) o) (sym of.each) (lie.topologies u o here)) are wires t l.earlier l.at))
