-- What the numbering of a topology answers.
use Rattle.std.specs.Prelude.{◌≡◌, ℕ, ◌∷◌, [], List, map, flat_map, Option, Some, slice_get, unwrap_or, option_map}
use Rattle.fp_base.specs.Least.{IsUnbroken}
use Rattle.fp_tables.specs.declared.topology.Link.{Link}
use Rattle.fp_tables.specs.declared.topology.Wire.{Wire}
use Rattle.fp_tables.specs.declared.topology.Topology.{Topology}
use Rattle.fp_tables.specs.declared.model.Model.{Model}
use Rattle.fp_numbering.specs.Ends.{matches_of, tips_of}
use Rattle.fp_numbering.specs.Numbers.{Numbered}
use Rattle.fp_numbering.specs.Broken.{Breaks}

-- the connections of the topology at a position
abbrev pub links_of : Model → ℕ → List Link
links_of m topology = unwrap_or (option_map (λ (o : Topology). o.links) (slice_get m.topologies topology)) []

-- the numbers at the ends of wires
abbrev pub numbers_of : List Wire → List (Option ℕ)
numbers_of wires = flat_map (λ (w : Wire). Some w.from.number ∷ Some w.to.number ∷ []) wires

-- a connection without numbers, and a wire without them
abbrev pub ends_of_link : Link → (ℕ × ℕ) × (ℕ × ℕ)
ends_of_link l = ((l.from, l.from_port), (l.to, l.to_port))

abbrev pub ends_of_wire : Wire → (ℕ × ℕ) × (ℕ × ℕ)
ends_of_wire w = ((w.from.instance, w.from.port), (w.to.instance, w.to.port))

-- nothing is broken, and the wires are the connections in their order, with their numbers
pub record AreNumbered (m : Model) (links : List Link) (wires : List Wire) : Type 0 where
  pub unbroken : IsUnbroken (Breaks (matches_of m) (tips_of m links))
  pub joined : map ends_of_wire wires ≡ map ends_of_link links
  pub numbered : Numbered (matches_of m) (tips_of m links) (numbers_of wires)
