-- Which connections importers take, by what is noted of private instances.
use Rattle.std.specs.Prelude.{ℕ, Bool, not, ◌&&◌, ◌==◌, List}
use Rattle.std.specs.List.{list_any}
use Rattle.std.specs.BTreeSet.{BTreeSet, contains}
use Rattle.std.specs.Ordering.{nat_cmp}
use Rattle.fp_tables.specs.declared.topology.Link.{Link}
use Rattle.fp_written_parts.specs.declared.topology.MemberInstance.{MemberInstance}

abbrev pub is_private_among : ℕ → List MemberInstance → Bool
is_private_among i members = list_any (λ (m : MemberInstance). m.private && m.used.instance == i) members

-- at no instance that the set holds
abbrev pub is_open : BTreeSet ℕ → Link → Bool
is_open hidden l = not (contains nat_cmp hidden l.from) && not (contains nat_cmp hidden l.to)
