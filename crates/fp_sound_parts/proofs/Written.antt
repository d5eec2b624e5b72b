-- Connections that are written and break no rule go from an output to an input of one definition.
use Rattle.std.proofs.Common.{◌≡◌, ◌∙◌, ap, refl, sym, subst, ℕ, Bool, true, false, inl, inr, map, Option, None, Some, slice_get}
use Rattle.std.specs.Prelude.{option_and_then, option_map}
use Rattle.std.specs.List.{AllByRecursion}
use Rattle.std.specs.Str.{bytes_eq}
use Rattle.std.proofs.lemmas.Option.{slice_get-map}
use Rattle.fp_base.specs.declared.rule.Rule.TheVariants.{BadDirection, TypesDiffer}
use Rattle.fp_base.specs.Least.{IsUnbroken, broken_at}
use Rattle.fp_base.proofs.Options.{mapped_some, same_some, then_some}
use Rattle.fp_base.proofs.Spots.{same_or_other}
use Rattle.fp_base.proofs.Passing.{position_passes}
use Rattle.fp_tables.specs.Lookup.{is_input, is_output}
use Rattle.fp_tables.specs.declared.component.Port.{Port}
use Rattle.fp_tables.specs.declared.component.Role.{Role}
use Rattle.fp_tables.specs.declared.model.Model.{Model}
use Rattle.fp_tables.specs.declared.topology.Link.{Link}
use Rattle.fp_written_parts.specs.declared.topology.WrittenConnection.{WrittenConnection}
use Rattle.fp_written_parts.specs.declared.topology.WrittenPortUse.{WrittenPortUse}
use Rattle.fp_written_parts.specs.declared.topology.WrittenTopology.{WrittenTopology}
use Rattle.fp_topologies.specs.ConnectionBroken.{AreOfOne, BrokenByConnections, BrokenConnection, IsOther}
use Rattle.fp_topologies.specs.declared.facts.JoinedPort.{JoinedPort}
use Rattle.fp_topologies.specs.Ports.{connection_facts, direct_links, end_facts, joined_port, link_between, link_of, port_used, ports_at}
use Rattle.fp_topologies.proofs.Lying.{each_kept}
use Rattle.fp_sound_parts.proofs.Going.{Goes, port_there}

not_other : (wanted : Role → Bool) (port : Option JoinedPort) (p : JoinedPort) → port ≡ Some p → (IsOther wanted port → ⊥) → wanted p.role ≡ true
not_other wanted port p at h = by (wanted p.role) refl
  where
    by : (b : Bool) → wanted p.role ≡ b → wanted p.role ≡ true
    by true e = e
    by false e = absurd (h (p, at, e))

same_of : (p q : JoinedPort) → ((AreOfOne p q → ⊥) → ⊥) → p.of ≡ q.of
same_of p q h = by p.of q.of refl refl
  where
    none_some_at : (o : Option ℕ) (n : ℕ) → o ≡ None → o ≡ Some n → ⊥
    none_some_at o n e f = cc

    by : (a b : Option ℕ) → p.of ≡ a → q.of ≡ b → p.of ≡ q.of
    by None b e f = absurd (h (λ o. none_some_at p.of o.0 e o.1))
    by (Some x) None e f = absurd (h (λ o. none_some_at q.of o.0 f o.2))
    by (Some x) (Some y) e f =
        elim (same_or_other x y) [
          | inl same ↦ e ∙ ap (λ (n : ℕ). Some n) same ∙ sym f
          | inr differ ↦ absurd (h (λ o. differ (same_some (sym e ∙ o.1 ∙ sym o.2 ∙ f))))
        ]

module _ (m : Model) where
  facts_at : (u : WrittenPortUse) (k : ℕ) (p : Port) → port_used m.components m.instances u ≡ Some k → slice_get (ports_at m.components m.instances u.used.instance) k ≡ Some p
      → (end_facts m.components m.instances u).port ≡ Some (joined_port p)
  facts_at u k p e f =
      ap (λ (x : Option ℕ). option_map joined_port (option_and_then (slice_get (ports_at m.components m.instances u.used.instance)) x)) e ∙ ap (option_map joined_port) f

  module _ (c : WrittenConnection) (unbroken : IsUnbroken (BrokenConnection (connection_facts m.components m.instances c))) where
    between : (j k : ℕ) → port_used m.components m.instances c.from ≡ Some j → port_used m.components m.instances c.to ≡ Some k → Goes m (link_between c j k)
    between j k e f =
        let p = position_passes (λ (x : Port). bytes_eq x.name c.from.port) (ports_at m.components m.instances c.from.used.instance) j e in
        let q = position_passes (λ (x : Port). bytes_eq x.name c.to.port) (ports_at m.components m.instances c.to.used.instance) k f in
        let from = facts_at c.from j p.0 e p.1 in
        let to = facts_at c.to k q.0 f q.1 in
        record {
          begins = p.0;
          ends = q.0;
          from = port_there m c.from.used.instance j p.0 p.1;
          to = port_there m c.to.used.instance k q.0 q.1;
          output = not_other is_output _ (joined_port p.0) from (λ out. unbroken (broken_at BadDirection c.from.used.at) (inr (inl (inr (refl, out)))));
          input = not_other is_input _ (joined_port q.0) to (λ out. unbroken (broken_at BadDirection c.to.used.at) (inr (inr (inr (refl, out)))));
          of_one = same_of (joined_port p.0) (joined_port q.0) (λ none. unbroken (broken_at TypesDiffer c.at) (inl (refl, (joined_port p.0, joined_port q.0, from, to, none))));
        }

    written_goes : (l : Link) → link_of m.components m.instances c ≡ Some l → Goes m l
    written_goes l f =
        let p = then_some (λ (k : ℕ). option_map (link_between c k) (port_used m.components m.instances c.to)) (port_used m.components m.instances c.from) l f in
        let q = mapped_some (link_between c p.0) (port_used m.components m.instances c.to) l p.2 in
        subst (Goes m) q.2 (between p.0 q.0 p.1 q.1)

  pub direct_go : (o : WrittenTopology) → IsUnbroken (BrokenByConnections (map (connection_facts m.components m.instances) o.connections)) → AllByRecursion (Goes m) (direct_links m.components m.instances o)
  direct_go o unbroken =
      each_kept (Goes m) (link_of m.components m.instances) o.connections
      (λ k c l e f.
      written_goes c
      (λ g b.
      unbroken g (k, connection_facts m.components m.instances c, slice_get-map (connection_facts m.components m.instances) o.connections k ∙ ap (option_map (connection_facts m.components m.instances)) e, b)) l f)
