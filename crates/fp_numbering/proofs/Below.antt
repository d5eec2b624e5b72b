-- That numbers are below the sizes of their ports.
use Rattle.std.proofs.Common.{◌≡◌, ◌∙◌, ap, refl, ℕ, suc, ◌<◌, Bool, true, false, cond, List, Option, None, Some, slice_get, arith}
use Rattle.std.specs.Prelude.{ℤ, pos, negsuc, nat_lt, nat_le, unwrap_or}
use Rattle.std.specs.List.{list_all}
use Rattle.std.specs.Option.{option_map, option_and_then}
use Rattle.std.proofs.lemmas.Bool.Decides.{nat_tests}
use Rattle.fp_base.proofs.Bools.{join}
use Rattle.fp_base.proofs.Lists.{all_get}
use Rattle.fp_base.proofs.Options.{same_some, then_some}
use Rattle.fp_base.proofs.Passing.{all_items}
use Rattle.fp_tables.specs.Components.{is_from_1_to}
use Rattle.fp_tables.specs.Instances.{is_numbered_below_sizes}
use Rattle.fp_tables.specs.Lists.{some_and}
use Rattle.fp_tables.specs.Positions.{port_of, has_port, link_lies}
use Rattle.fp_tables.specs.Sound.{each_port}
use Rattle.fp_tables.specs.declared.component.Port.{Port}
use Rattle.fp_tables.specs.declared.component.Component.{Component}
use Rattle.fp_tables.specs.declared.topology.Instance.{Instance}
use Rattle.fp_tables.specs.declared.topology.Wire.{Wire}
use Rattle.fp_tables.specs.declared.topology.Topology.{Topology}
use Rattle.fp_tables.specs.declared.model.Model.{Model}
use Rattle.fp_numbering.specs.declared.tips.Tip.{Tip}
use Rattle.fp_numbering.specs.Answers.{numbers_of, AreNumbered}
use Rattle.fp_numbering.specs.Ends.{size_of, matches_of, from_tip, to_tip, tips_of, number_below}
use Rattle.fp_numbering.specs.Numbers.{Source, source_of, Has, Numbered}
use Rattle.fp_numbering.specs.Numbers.Source.{Said, Paired, Unpaired, Output, Input}
use Rattle.fp_numbering.proofs.Unique.{both_left, both_right}
use Rattle.fp_numbering.proofs.Placing.{beside, place, from_tip_at, to_tip_at, from_number_at, to_number_at}

-- ---- of any end

chosen : (b : Bool) (size n k : ℕ) → nat_lt k size ≡ b → ◌≡◌ {A = Option ℕ} (Some n) (cond b (Some k) None) → n < size
chosen true size n k is e = let same : n ≡ k = same_some e in grind (arith, nat_tests)
chosen false size n k is e = absurd (cc)

said_below : (size n : ℕ) (z : ℤ) → Some n ≡ number_below size z → n < size
said_below size n (pos k) e = chosen (nat_lt k size) size n k refl e
said_below size n (negsuc k) e = absurd (cc)

module _ (matches : ℕ → List (ℕ × ℕ)) (ts : List Tip) (ns : List (Option ℕ)) where
  below : (t : Tip) (k n : ℕ) (s : Source) → 0 < t.size → Has matches ts ns t k (Some n) s → n < t.size
  below t k n (Said z) l h = said_below t.size n z h
  below t k n (Paired g) l h = h.0
  below t k n Unpaired l h = absurd (cc)
  below t k n Output l h = h.0
  below t k n Input l h = let same : n ≡ 0 = same_some h in omega arith

  numbered_below : Numbered matches ts ns → (k n : ℕ) (t : Tip) → slice_get ts k ≡ Some t → slice_get ns k ≡ Some (Some n) → 0 < t.size → n < t.size
  numbered_below all k n t at there l = below t k n (source_of matches ts t k) l (all.has k t (Some n) at there)

-- ---- of a wire

module _ (m : Model) where
  there : (o : Option Port) → some_and (λ _. true) o ≡ true → (p : Port) × (o ≡ Some p)
  there None h = absurd (cc)
  there (Some p) h = (p, refl)

  pub port_there : (i p : ℕ) → has_port m i p ≡ true → (q : Port) × (port_of m i p ≡ Some q)
  port_there i p h = there (port_of m i p) h

  sized : each_port (λ p. is_from_1_to 1024 p.size) m ≡ true → (i p : ℕ) (q : Port) → port_of m i p ≡ Some q → 0 < q.size
  sized h i p q at =
      let c = then_some (λ (c : Component). slice_get c.ports p) (option_and_then (λ (x : Instance). slice_get m.components x.component) (slice_get m.instances i)) q at in
      let x = then_some (λ (x : Instance). slice_get m.components x.component) (slice_get m.instances i) c.0 c.1 in
      let ports : list_all (λ (r : Port). is_from_1_to 1024 r.size) c.0.ports ≡ true =
      all_get (λ (d : Component). list_all (λ (r : Port). is_from_1_to 1024 r.size) d.ports) m.components x.0.component c.0 h x.2 in
      let one = both_left (nat_le 1 q.size) (nat_le q.size 1024) (all_get (λ (r : Port). is_from_1_to 1024 r.size) c.0.ports p q ports c.2) in
      grind (arith, nat_tests)

  size_is : (i p : ℕ) (q : Port) → port_of m i p ≡ Some q → size_of m i p ≡ q.size
  size_is i p q at = ap (λ (o : Option Port). unwrap_or (option_map (λ (r : Port). r.size) o) 0) at

  -- an end whose port has the number
  is_below : (i p n : ℕ) (q : Port) → port_of m i p ≡ Some q → n < q.size → some_and (λ (r : Port). nat_lt n r.size) (port_of m i p) ≡ true
  is_below i p n q at l =
      let less : nat_lt n q.size ≡ true = grind (arith, nat_tests) in
      ap (λ (o : Option Port). some_and (λ (r : Port). nat_lt n r.size) o) at ∙ less

  module _ (o : Topology) (are : AreNumbered m o.links o.wires) (lie : list_all (link_lies m) o.links ≡ true) (sizes : each_port (λ p. is_from_1_to 1024 p.size) m ≡ true) where
    end_below : (k n i p j r : ℕ) (t : Tip) → slice_get (tips_of m o.links) k ≡ Some t → slice_get (numbers_of o.wires) k ≡ Some (Some n) → has_port m i p ≡ true → t.size ≡ size_of m i p → j ≡ i → r ≡ p
        → some_and (λ (q : Port). nat_lt n q.size) (port_of m j r) ≡ true
    end_below k n i p j r t at number has size same same_port =
        let q = port_there i p has in
        let is : t.size ≡ q.0.size = size ∙ size_is i p q.0 q.1 in
        let some : 0 < q.0.size = sized sizes i p q.0 q.1 in
        let l : n < t.size = numbered_below (matches_of m) (tips_of m o.links) (numbers_of o.wires) are.numbered k n t at number (omega arith) in
        ap (λ (x : ℕ). some_and (λ (y : Port). nat_lt n y.size) (port_of m x r)) same ∙ ap (λ (x : ℕ). some_and (λ (y : Port). nat_lt n y.size) (port_of m i x)) same_port
        ∙ is_below i p n q.0 q.1 (omega arith)

    wire_below : (k : ℕ) (w : Wire) → slice_get o.wires k ≡ Some w → is_numbered_below_sizes m o w ≡ true
    wire_below k w at =
        let b = beside o.links o.wires are.joined k w at in
        let l = b.0 in
        let lies : link_lies m l ≡ true = all_get (link_lies m) o.links k l lie b.1 in
        join (some_and (λ (p : Port). nat_lt w.from.number p.size) (port_of m w.from.instance w.from.port)) (some_and (λ (p : Port). nat_lt w.to.number p.size) (port_of m w.to.instance w.to.port))
        (end_below (place k) w.from.number l.from l.from_port w.from.instance w.from.port (from_tip m l) (from_tip_at m o.links k l b.1) (from_number_at o.wires k w at)
        (both_left (has_port m l.from l.from_port) (has_port m l.to l.to_port) lies) refl b.2.from b.2.from_port)
        (end_below (suc (place k)) w.to.number l.to l.to_port w.to.instance w.to.port (to_tip m l) (to_tip_at m o.links k l b.1) (to_number_at o.wires k w at)
        (both_right (has_port m l.from l.from_port) (has_port m l.to l.to_port) lies) refl b.2.to b.2.to_port)

    pub all_below : list_all (is_numbered_below_sizes m o) o.wires ≡ true
    all_below = all_items (is_numbered_below_sizes m o) o.wires wire_below
