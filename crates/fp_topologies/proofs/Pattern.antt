-- The connections of a pattern, by what is joined at its one instance.
use Rattle.std.proofs.Common.{◌≡◌, ℕ, List, [], ◌∷◌, ◌++◌, map, flat_map, filter, Option, Some, None, refl, ap, ap₂, ◌∙◌}
use Rattle.fp_tables.specs.declared.component.Component.{Component}
use Rattle.fp_tables.specs.declared.kind.PortDef.{PortDef}
use Rattle.fp_tables.specs.declared.topology.Instance.{Instance}
use Rattle.fp_tables.specs.declared.topology.Link.{Link}
use Rattle.fp_written_parts.specs.declared.topology.UsedInstance.{UsedInstance}
use Rattle.fp_written_parts.specs.declared.topology.WrittenPattern.{WrittenPattern}
use Rattle.fp_topologies.specs.Patterns.{is_target, joins_at, links_by, pattern_links, targets_of}
use Rattle.fp_topologies.specs.declared.sorts.JoinAt.{JoinAt}

by_instances : (f : ℕ → List Link) (us : List UsedInstance) → flat_map (λ (u : UsedInstance). f u.instance) us ≡ flat_map f (map (λ (u : UsedInstance). u.instance) us)
by_instances f [] = refl
by_instances f (u ∷ us) = ap (λ (ls : List Link). f u.instance ++ ls) (by_instances f us)

module _ (ds : List PortDef) (cs : List Component) (is : List Instance) (held : List ℕ) (p : WrittenPattern) where
  pub listed_whole : (us : List UsedInstance) (joins : List JoinAt) → Some us ≡ p.targets → joins ≡ joins_at ds cs is p.kind p.of.instance
      → flat_map (λ (u : UsedInstance). links_by ds cs is p joins u.instance) us ≡ pattern_links ds cs is held p
  listed_whole us joins at are =
      by_instances (links_by ds cs is p joins) us
      ∙ ap₂ (λ (js : List JoinAt) (o : Option (List UsedInstance)). flat_map (links_by ds cs is p js) (targets_of ds cs is held p o)) are at

  pub unlisted_whole : (joins : List JoinAt) → None ≡ p.targets → joins ≡ joins_at ds cs is p.kind p.of.instance
      → flat_map (links_by ds cs is p joins) (filter (is_target ds cs is p) held) ≡ pattern_links ds cs is held p
  unlisted_whole joins at are = ap₂ (λ (js : List JoinAt) (o : Option (List UsedInstance)). flat_map (links_by ds cs is p js) (targets_of ds cs is held p o)) are at
