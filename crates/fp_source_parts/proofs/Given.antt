-- The types of a source, where each is given, are one list.
use Rattle.std.proofs.Common.{◌≡◌, ℕ, ◌<◌, List, length, map, slice_get, Option, Some, refl, sym, ap, subst, ◌∙◌}
use Rattle.std.specs.Prelude.{option_map}
use Rattle.std.proofs.lemmas.List.{length-map}
use Rattle.std.proofs.lemmas.Option.{slice_get-map, slice_get_within}
use Rattle.fp_base.proofs.Spots.{item_below}
use Rattle.fp_base.proofs.Lists.{same_items}
use Rattle.fp_base.specs.declared.value.Value.{Value}
use Rattle.fp_tree.specs.declared.source.Source.{Source}
use Rattle.fp_tables.specs.declared.kind.Kind.{Kind}
use Rattle.fp_tables.specs.declared.kind.TypeDef.{TypeDef}
use Rattle.fp_type_sizes.specs.declared.written.WrittenType.{WrittenType}
use Rattle.fp_type_sizes.proofs.OneSize.{one_form}
use Rattle.fp_types.specs.Converting.{DefaultIs}
use Rattle.fp_types.specs.Given.{AreTypesGiven, IsTypeGiven}
use Rattle.fp_type_forms.proofs.OneForm.{one_list}
use Rattle.fp_source_types.specs.Typed.{AreTypesOf}

abbrev all_some : List TypeDef → List (Option TypeDef)
all_some ts = map (λ (d : TypeDef). Some d) ts

module _ (one_default : (ws : List WrittenType) (k : Kind) (a b : Value) → DefaultIs ws k a → DefaultIs ws k b → a ≡ b) where
  same_type : (ws : List WrittenType) (i : ℕ) (d e : TypeDef) (w : WrittenType) → slice_get ws i ≡ Some w → IsTypeGiven ws i (Some d) → IsTypeGiven ws i (Some e) → d ≡ e
  same_type ws i d e w at h k =
      let a = h.holds d refl in
      let b = k.holds e refl in
      let m = h.names d w refl at in
      let n = k.names e w refl at in
      same (m.0 ∙ sym n.0) (one_form a.0 b.0) (one_default ws _ d.default e.default a.1 b.1) (m.1 ∙ sym n.1)
    where
      same : d.name ≡ e.name → d.form ≡ e.form → d.default ≡ e.default → d.note ≡ e.note → d ≡ e
      same p q r s =
          let whole : d ≡ record { name = d.name; form = d.form; default = d.default; note = d.note } = refl in
          let other : e ≡ record { name = e.name; form = e.form; default = e.default; note = e.note } = refl in
          cc

  given_there : (ws : List WrittenType) (ts : List TypeDef) (i : ℕ) (d : TypeDef) → AreTypesGiven ws (all_some ts) → slice_get ts i ≡ Some d → IsTypeGiven ws i (Some d)
  given_there ws ts i d are at = are.at i (Some d) (slice_get-map (λ (x : TypeDef). Some x) ts i ∙ ap (option_map (λ (x : TypeDef). Some x)) at)

  long : (ws : List WrittenType) (ts : List TypeDef) → AreTypesGiven ws (all_some ts) → length ts ≡ length ws
  long ws ts are = sym (length-map ts (λ (x : TypeDef). Some x)) ∙ are.each

  same_given : (ws : List WrittenType) (ts us : List TypeDef) → AreTypesGiven ws (all_some ts) → AreTypesGiven ws (all_some us) → ts ≡ us
  same_given ws ts us h k =
      same_items ts us (long ws ts h ∙ sym (long ws us k)) (λ i d e a b.
      let low = slice_get_within ts i d a in
      let w = item_below ws i (subst (λ (n : ℕ). i < n) (long ws ts h) low) in
      same_type ws i d e w.0 w.1 (given_there ws ts i d h a) (given_there ws us i e k b))

  pub one_types : (source : Source) (ts us : List TypeDef) → AreTypesOf source (all_some ts) → AreTypesOf source (all_some us) → ts ≡ us
  one_types source ts us h k =
      same_given k.written ts us (subst (λ (ws : List WrittenType). AreTypesGiven ws (all_some ts)) (one_list source h.written k.written h.are k.are) h.types) k.types
