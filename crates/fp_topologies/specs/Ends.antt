-- What is noted of the connections that are there already.
use Rattle.std.specs.Prelude.{◌≡◌, ℕ, List, ◌++◌, drop}
use Rattle.std.specs.List.{list_any}
use Rattle.std.specs.BTreeSet.{BTreeSet, contains}
use Rattle.std.specs.Ordering.{nat_cmp, ordering_then}
use Rattle.std.specs.declared.cmp.Ordering.{Ordering}
use Rattle.fp_tables.specs.declared.topology.Link.{Link}
use Rattle.fp_topologies.specs.Joined.{new_beside, same_ports}

abbrev pub Ends : Type 0
Ends = ℕ × ℕ × ℕ × ℕ

abbrev pub ends_of : Link → Ends
ends_of l = (l.from, l.from_port, l.to, l.to_port)

abbrev pub ends_cmp : Ends → Ends → Ordering
ends_cmp a b = ordering_then (ordering_then (ordering_then (nat_cmp a.0 b.0) (nat_cmp a.1 b.1)) (nat_cmp a.2 b.2)) (nat_cmp a.3 b.3)

-- the ports that connections join stand in the set
abbrev pub HasPorts : BTreeSet Ends → List Link → Type 0
HasPorts noted links = (q : Link) → contains ends_cmp noted (ends_of q) ≡ list_any (same_ports q) links

-- of a list so many are looked at beside what is there, and these are new
pub record AreTaken (there all : List Link) (n : ℕ) (noted : BTreeSet Ends) (taken : List Link) : Type 0 where
  pub has : HasPorts noted (there ++ taken)
  pub rest : new_beside there all ≡ taken ++ new_beside (there ++ taken) (drop n all)
