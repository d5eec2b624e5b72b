-- What wires have of their connections.
use Rattle.std.proofs.Common.{◌≡◌, ◌∙◌, ap, refl, ℕ, true, ◌==◌, Option, None, Some, slice_get}
use Rattle.std.specs.List.{list_all}
use Rattle.fp_base.proofs.Bools.{join}
use Rattle.fp_base.proofs.Lists.{all_get}
use Rattle.fp_base.proofs.Passing.{all_items}
use Rattle.fp_base.proofs.Numbers.{number_same}
use Rattle.fp_base.specs.Same.{same_option}
use Rattle.fp_tables.specs.Instances.{joins_members, goes_from_output_to_input, joins_one_definition}
use Rattle.fp_tables.specs.Lists.{is_in, some_and}
use Rattle.fp_tables.specs.Lookup.{is_input, is_output}
use Rattle.fp_tables.specs.Positions.{port_of, has_port, link_lies, wire_lies}
use Rattle.fp_tables.specs.declared.component.Port.{Port}
use Rattle.fp_tables.specs.declared.topology.Link.{Link}
use Rattle.fp_tables.specs.declared.topology.Wire.{Wire}
use Rattle.fp_tables.specs.declared.topology.Topology.{Topology}
use Rattle.fp_tables.specs.declared.model.Model.{Model}
use Rattle.fp_numbering.specs.Answers.{AreNumbered}
use Rattle.fp_numbering.proofs.Unique.{both_left, both_right}
use Rattle.fp_numbering.specs.Links.{LinksAreSound}
use Rattle.fp_numbering.proofs.Placing.{beside}

same_definition : (a b : Option ℕ) → a ≡ b → same_option (λ j k. j == k) a b ≡ true
same_definition None None e = refl
same_definition None (Some y) e = absurd (cc)
same_definition (Some x) None e = absurd (cc)
same_definition (Some x) (Some y) e = number_same x y (cc)

module _ (m : Model) (o : Topology) (are : AreNumbered m o.links o.wires) where
  -- a port of a wire is that of its connection
  port_same : (i p j q : ℕ) → i ≡ j → p ≡ q → port_of m i p ≡ port_of m j q
  port_same i p j q e f = ap (λ (x : ℕ). port_of m x p) e ∙ ap (λ (x : ℕ). port_of m j x) f

  -- ---- positions

  wire_lies_there : list_all (link_lies m) o.links ≡ true → (k : ℕ) (w : Wire) → slice_get o.wires k ≡ Some w → wire_lies m w ≡ true
  wire_lies_there lie k w at =
      let b = beside o.links o.wires are.joined k w at in
      let l = b.0 in
      let lies : link_lies m l ≡ true = all_get (link_lies m) o.links k l lie b.1 in
      join (has_port m w.from.instance w.from.port) (has_port m w.to.instance w.to.port)
      (ap (λ (x : Option Port). some_and (λ _. true) x) (port_same w.from.instance w.from.port l.from l.from_port b.2.from b.2.from_port) ∙ both_left (has_port m l.from l.from_port) (has_port m l.to l.to_port) lies)
      (ap (λ (x : Option Port). some_and (λ _. true) x) (port_same w.to.instance w.to.port l.to l.to_port b.2.to b.2.to_port) ∙ both_right (has_port m l.from l.from_port) (has_port m l.to l.to_port) lies)

  pub all_lie : list_all (link_lies m) o.links ≡ true → list_all (wire_lies m) o.wires ≡ true
  all_lie lie = all_items (wire_lies m) o.wires (wire_lies_there lie)

  -- ---- what is sound of each

  module _ (sound : LinksAreSound m o) where
    link_there : (k : ℕ) (l : Link) → slice_get o.links k ≡ Some l → link_lies m l ≡ true
    link_there k l at =
        join (has_port m l.from l.from_port) (has_port m l.to l.to_port) (ap (λ (x : Option Port). some_and (λ _. true) x) (sound.begin_at_outputs k l at).1)
        (ap (λ (x : Option Port). some_and (λ _. true) x) (sound.end_at_inputs k l at).1)

    pub links_lie : list_all (link_lies m) o.links ≡ true
    links_lie = all_items (link_lies m) o.links link_there

    member : (k : ℕ) (w : Wire) → slice_get o.wires k ≡ Some w → joins_members m o w ≡ true
    member k w at =
        let b = beside o.links o.wires are.joined k w at in
        join (is_in w.from.instance o.instances) (is_in w.to.instance o.instances) (ap (λ (x : ℕ). is_in x o.instances) b.2.from ∙ sound.begin_at_members k b.0 b.1)
        (ap (λ (x : ℕ). is_in x o.instances) b.2.to ∙ sound.end_at_members k b.0 b.1)

    pub all_members : list_all (joins_members m o) o.wires ≡ true
    all_members = all_items (joins_members m o) o.wires member

    direction : (k : ℕ) (w : Wire) → slice_get o.wires k ≡ Some w → goes_from_output_to_input m o w ≡ true
    direction k w at =
        let b = beside o.links o.wires are.joined k w at in
        let l = b.0 in
        let p = sound.begin_at_outputs k l b.1 in
        let q = sound.end_at_inputs k l b.1 in
        join (some_and (λ (x : Port). is_output x.role) (port_of m w.from.instance w.from.port)) (some_and (λ (x : Port). is_input x.role) (port_of m w.to.instance w.to.port))
        (ap (λ (x : Option Port). some_and (λ (y : Port). is_output y.role) x) (port_same w.from.instance w.from.port l.from l.from_port b.2.from b.2.from_port ∙ p.1) ∙ p.2)
        (ap (λ (x : Option Port). some_and (λ (y : Port). is_input y.role) x) (port_same w.to.instance w.to.port l.to l.to_port b.2.to b.2.to_port ∙ q.1) ∙ q.2)

    pub all_directions : list_all (goes_from_output_to_input m o) o.wires ≡ true
    all_directions = all_items (goes_from_output_to_input m o) o.wires direction

    definition : (k : ℕ) (w : Wire) → slice_get o.wires k ≡ Some w → joins_one_definition m o w ≡ true
    definition k w at =
        let b = beside o.links o.wires are.joined k w at in
        let l = b.0 in
        let p = sound.begin_at_outputs k l b.1 in
        let q = sound.end_at_inputs k l b.1 in
        ap (λ (x : Option Port). some_and (λ (y : Port). some_and (λ (z : Port). same_option (λ j k. j == k) y.of z.of) (port_of m w.to.instance w.to.port)) x)
        (port_same w.from.instance w.from.port l.from l.from_port b.2.from b.2.from_port ∙ p.1)
        ∙ ap (λ (x : Option Port). some_and (λ (z : Port). same_option (λ j k. j == k) p.0.of z.of) x) (port_same w.to.instance w.to.port l.to l.to_port b.2.to b.2.to_port ∙ q.1)
        ∙ same_definition p.0.of q.0.of (sound.join_one_definition k l p.0 q.0 b.1 p.1 q.1)

    pub all_definitions : list_all (joins_one_definition m o) o.wires ≡ true
    all_definitions = all_items (joins_one_definition m o) o.wires definition
