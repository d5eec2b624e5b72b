-- What a law says of the pieces of a file it says of what members of a model give in the file, in any annotation.
use Rattle.std.proofs.Common.{ℕ, List}
use Rattle.fp_parse_parts.specs.declared.bare.ModelMember.{ModelMember}
use Rattle.fp_parse_parts.specs.declared.bare.ModelMember.TheVariants as model
use Rattle.fp_parse_parts.specs.Members.{noted_model}
use Rattle.fp_parse_parts.specs.Models.{any_model, model_begins, model_goes_on}
use Rattle.fp_grammar.specs.Seal.{seal}
use Rattle.fp_parse_pieces.specs.Kinds.{kind}
use Rattle.fp_meaning.specs.Layout.{in_member}
use Rattle.fp_meaning.proofs.Walks.{machine_gives, component_gives, interface_gives, instance_gives, topology_gives}
use Rattle.fp_places.specs.Names.{names_within}
use Rattle.fp_places.proofs.Preserving.{gives_alt, gives_map, gives_seal}
use Rattle.fp_places.proofs.Held.{held_same}
use Rattle.fp_places.proofs.Known.{Known, Yields, Says}
use Rattle.fp_places.proofs.SiteMachines.{machine_yields}
use Rattle.fp_places.proofs.SiteComponents.{component_yields, interface_yields}
use Rattle.fp_places.proofs.SiteTopologies.{instance_yields, topology_yields}
use Rattle.fp_places.proofs.ModelWalks.{machine_names, component_names, interface_names, instance_names, topology_names}

module _ {depth : ℕ} (law : Known depth) where
  abbrev pub ModelSaid : ModelMember → Type 0
  ModelSaid m = (note : List ℕ) → Says law (λ scope. in_member scope (noted_model m note)) (names_within (noted_model m note))

  any_yields : Yields law (any_model depth) ModelSaid
  any_yields =
      gives_alt (gives_map ModelSaid model.Machine (λ x h note. held_same (λ scope. machine_gives scope _) (machine_names _) (h note)) (machine_yields law)) (gives_alt
      (gives_map ModelSaid model.Component (λ x h note. held_same (λ scope. component_gives scope _) (component_names _) (h note)) (component_yields law)) (gives_alt
      (gives_map ModelSaid model.Interface (λ x h note. held_same (λ scope. interface_gives scope _) (interface_names _) (h note)) (interface_yields law)) (gives_alt
      (gives_map ModelSaid model.Instance (λ x h note. held_same (λ scope. instance_gives scope _) (instance_names _) (h note)) (instance_yields law))
      (gives_map ModelSaid model.Topology (λ x h note. held_same (λ scope. topology_gives scope _) (topology_names _) (h note)) (topology_yields law)))))

  pub models_yield : Yields law (seal kind (any_model depth) model_begins model_goes_on) ModelSaid
  models_yield = gives_seal {a = any_model depth} model_begins model_goes_on any_yields
