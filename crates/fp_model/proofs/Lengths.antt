-- A model lists as many definitions of each sort as the source has.
use Rattle.std.proofs.Common.{◌≡◌, ℕ, suc, List, [], ◌∷◌, length, map, flat_map, Some, refl, sym, ap, ◌∙◌}
use Rattle.std.proofs.lemmas.List.{length-map}
use Rattle.fp_tree.specs.declared.source.Source.{Source}
use Rattle.fp_tables.specs.declared.kind.PortDef.{PortDef}
use Rattle.fp_tables.specs.declared.kind.TypeDef.{TypeDef}
use Rattle.fp_tables.specs.declared.model.Model.{Model}
use Rattle.fp_meaning.specs.Layout.{items}
use Rattle.fp_type_forms.specs.Written.{AllAt, IsWritten, types}
use Rattle.fp_component_forms.specs.Written.{ComponentIs, PortDefIs, component_declared, components, port_definitions, port_declared}
use Rattle.fp_components.specs.Resolved.{port_def_of}
use Rattle.fp_source_types.specs.Typed.{AreTypesOf}
use Rattle.fp_model.specs.Defined.{HasParts}
use Rattle.fp_model.proofs.Lying.{same_length}

-- lists that are related place by place are as long
pub as_long : {A B : Type 0} (R : A → B → Type 0) (k : ℕ) (xs : List A) (ys : List B) → AllAt (λ n. R) k xs ys → length xs ≡ length ys
as_long R k [] [] h = refl
as_long R k [] (y ∷ ys) h = absurd h
as_long R k (x ∷ xs) [] h = absurd h
as_long R k (x ∷ xs) (y ∷ ys) h = ap (λ (n : ℕ). suc n) (as_long R (suc k) xs ys h.1)

pub types_long : (source : Source) (ts : List TypeDef) (of : AreTypesOf source (map (λ (d : TypeDef). Some d) ts)) → length (types source) ≡ length ts
types_long source ts of = as_long (IsWritten source) 0 (types source) of.written of.are ∙ same_length source ts of

module _ (source : Source) (m : Model) (h : HasParts source m) where
  pub ports_long : length (flat_map port_declared (items source)) ≡ length m.ports
  ports_long =
      let p = h.2 in
      as_long (PortDefIs source) 0 (port_definitions source) p.written.definitions p.are.definitions ∙ sym (length-map p.written.definitions port_def_of)
      ∙ ap (λ (ps : List PortDef). length ps) (sym p.ports)

  pub components_long : length (flat_map component_declared (items source)) ≡ length m.components
  components_long =
      let p = h.2 in
      as_long (ComponentIs source) 0 (components source) p.written.components p.are.components ∙ sym p.components.each
