-- The order of connections: that it is one, and that there is one list in it.
use Rattle.std.proofs.Common.{◌≡◌, ℕ, ◌+◌, ◌<◌, ◌≤◌, Bool, true, false, not, cond, ◌&&◌, List, [], ◌∷◌, length, refl, sym, subst, ◌∙◌, arith, zero, suc}
use Rattle.std.specs.Cmp.{IsStrictWeakOrder, IsTotalOrder}
use Rattle.std.specs.Ordering.{is_lt, nat_cmp, ordering_then}
use Rattle.std.specs.declared.cmp.Ordering.{Ordering}
use Rattle.std.specs.declared.cmp.Ordering.TheVariants.{Less, Equal, Greater}
use Rattle.std.proofs.lemmas.Cmp.{nat_list_cmp_total, on_total, then_total}
use Rattle.std.proofs.lemmas.List.Sorted.{ranks_by}
use Rattle.fp_tables.specs.declared.component.Component.{Component}
use Rattle.fp_tables.specs.declared.topology.Instance.{Instance}
use Rattle.fp_tables.specs.declared.topology.Link.{Link}
use Rattle.fp_topologies.specs.Ordered.{instance_name, link_cmp, port_name}

module _ (cs : List Component) (is : List Instance) where
  pub link_total : IsTotalOrder (link_cmp cs is)
  link_total =
      then_total (on_total (λ (l : Link). instance_name is l.from) nat_list_cmp_total)
      (then_total (on_total (λ (l : Link). port_name cs is l.from l.from_port) nat_list_cmp_total)
      (then_total (on_total (λ (l : Link). instance_name is l.to) nat_list_cmp_total) (on_total (λ (l : Link). port_name cs is l.to l.to_port) nat_list_cmp_total)))

  pub link_ranks : IsStrictWeakOrder (λ (a b : Link). is_lt (link_cmp cs is a b))
  link_ranks = ranks_by link_total (λ (l : Link). l)

-- two ends, each an instance and its port
pub ends_regroup : (a b c d : Ordering) → ordering_then (ordering_then a b) (ordering_then c d) ≡ ordering_then a (ordering_then b (ordering_then c d))
ends_regroup Less b c d = refl
ends_regroup Equal b c d = refl
ends_regroup Greater b c d = refl
