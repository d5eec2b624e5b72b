-- What stands for values, and types of which each is given.
use Rattle.std.proofs.Common.{◌≡◌, inl, inr, suc, Bool, true, false, cond, List, [], ◌∷◌, map, flat_map, slice_get, Option, Some, None, refl, sym, ap, ◌∙◌, subst}
use Rattle.std.specs.Prelude.{option_to_list}
use Rattle.std.proofs.lemmas.List.{length-map}
use Rattle.std.proofs.lemmas.Option.{slice_get-map}
use Rattle.fp_base.proofs.Options.{mapped_some, same_some, no_some}
use Rattle.fp_base.specs.declared.value.Value.{Value, Opaque}
use Rattle.fp_tree.specs.declared.source.Source.{Source}
use Rattle.fp_tables.specs.declared.kind.TypeDef.{TypeDef}
use Rattle.fp_meaning.specs.Names.{Path}
use Rattle.fp_meaning.specs.Origins.{Placed}
use Rattle.fp_meaning.specs.Values.{Opened, opened, Val, IsValue}
use Rattle.fp_meaning.proofs.OneValue.{one_value}
use Rattle.fp_consts.specs.Answered.{StandsFor, StandFor}
use Rattle.fp_consts.specs.Marked.{AreValues}
use Rattle.fp_source_types.specs.Resolved.{EachIsGiven, is_opaque, mark_of}
use Rattle.fp_source_types.specs.Typed.{AreTypesOf}

opaque_is : (v : Value) → is_opaque v ≡ true → v ≡ Opaque
opaque_is Opaque e = refl
opaque_is v e = absurd (cc)

module _ (never_opaque : (source : Source) (scope : Path) (s : Opened) → Val source scope s Opaque → ⊥) (source : Source) where
  one_mark : (p : Placed) (v : Value) → StandsFor source p v → IsValue source p.scope (opened p.expression) (mark_of v)
  one_mark p v stands = go (is_opaque v) refl stands
    where
      go : (b : Bool) → is_opaque v ≡ b → StandsFor source p v → IsValue source p.scope (opened p.expression) (cond b None (Some v))
      go true is (inl h) = absurd (never_opaque source p.scope (opened p.expression) (subst (λ (w : Value). Val source p.scope (opened p.expression) w) (opaque_is v is) h))
      go true is (inr (e, none)) = record { holds = λ w e. no_some e; only = λ w h. absurd (none w h) }
      go false is (inl h) = record { holds = λ w e. subst (λ (x : Value). Val source p.scope (opened p.expression) x) (same_some e) h; only = λ w k. ap (λ (x : Value). Some x) (one_value h k) }
      go false is (inr (e, none)) = let both : true ≡ false = ap is_opaque (sym e) ∙ is in absurd (cc)

  pub marks_valued : (ps : List Placed) (vs : List Value) → StandFor source ps vs → AreValues source ps (map mark_of vs)
  marks_valued ps vs stand = record {
    each = length-map vs mark_of ∙ stand.each;
    exact = λ k p o here there.
        let v = mapped_some mark_of (slice_get vs k) o (sym (slice_get-map mark_of vs k) ∙ there) in
        subst (λ (x : Option Value). IsValue source p.scope (opened p.expression) x) v.2 (one_mark p v.0 (stand.exact k p v.0 here v.1));
  }

pub given_all : (given : List (Option TypeDef)) → EachIsGiven given → map (λ (d : TypeDef). Some d) (flat_map option_to_list given) ≡ given
given_all [] each = refl
given_all (None ∷ given) each = no_some (each 0 None refl).1
given_all (Some d ∷ given) each = ap (λ (l : List (Option TypeDef)). Some d ∷ l) (given_all given (λ i. each (suc i)))

pub given_types : (source : Source) (marks : List (Option TypeDef)) (given : List TypeDef) → given ≡ flat_map option_to_list marks → EachIsGiven marks → AreTypesOf source marks
    → AreTypesOf source (map (λ (d : TypeDef). Some d) given)
given_types source marks given is each of =
    subst (λ (os : List (Option TypeDef)). AreTypesOf source os) (sym (ap (λ (ds : List TypeDef). map (λ (d : TypeDef). Some d) ds) is ∙ given_all marks each)) of
