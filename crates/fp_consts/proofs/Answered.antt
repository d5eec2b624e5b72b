-- The values of all expressions, Opaque in the place of those that have none.
use Rattle.std.proofs.Common.{◌≡◌, List, map, length, slice_get, Option, Some, None, inl, inr, refl, sym, ap, subst, ◌∙◌}
use Rattle.std.proofs.lemmas.List.{length-map}
use Rattle.std.proofs.lemmas.Option.{slice_get-map}
use Rattle.fp_base.proofs.Options.{mapped_some, no_some}
use Rattle.fp_base.specs.declared.value.Value.{Value}
use Rattle.fp_tree.specs.declared.source.Source.{Source}
use Rattle.fp_meaning.specs.Origins.{Placed}
use Rattle.fp_meaning.specs.Values.{opened, Val, IsValue}
use Rattle.fp_consts.specs.Answered.{StandsFor, StandFor, or_opaque}
use Rattle.fp_consts.specs.Marked.{AreValues}

one_stands : (source : Source) (p : Placed) (o : Option Value) (v : Value) → IsValue source p.scope (opened p.expression) o → or_opaque o ≡ v → StandsFor source p v
one_stands source p None v is e = inr (sym e, λ w h. no_some (is.only w h))
one_stands source p (Some u) v is e = inl (subst (λ (x : Value). Val source p.scope (opened p.expression) x) e (is.holds u refl))

pub all_stand : (source : Source) (ps : List Placed) (os : List (Option Value)) (vs : List Value) → AreValues source ps os → vs ≡ map or_opaque os → StandFor source ps vs
all_stand source ps os vs are same = record {
  each = ap (λ (xs : List Value). length xs) same ∙ length-map os or_opaque ∙ are.each;
  exact = λ k p v here there.
      let found : (u : Option Value) × (slice_get os k ≡ Some u) × (or_opaque u ≡ v) =
      mapped_some or_opaque (slice_get os k) v (sym (slice_get-map or_opaque os k) ∙ ap (λ (xs : List Value). slice_get xs k) (sym same) ∙ there) in
      one_stands source p found.0 v (are.exact k p found.0 here found.1) found.2;
}
