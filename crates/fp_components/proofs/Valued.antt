-- The default of a parameter: what is written becomes it, else it is that of the type.
use Rattle.std.proofs.Common.{◌≡◌, List, Option, Some, None, refl, sym, subst, IfOk}
use Rattle.std.specs.Prelude.{Result, Ok, Err}
use Rattle.fp_base.specs.declared.value.Value.{Value}
use Rattle.fp_tables.specs.declared.kind.Kind.{Kind}
use Rattle.fp_type_sizes.specs.declared.written.WrittenType.{WrittenType}
use Rattle.fp_types.specs.declared.unfit.Unfit.{Unfit}
use Rattle.fp_types.specs.declared.unfit.Unfit.TheVariants.{Shape, Range, Member, NoMemory}
use Rattle.fp_types.specs.Converting.{Converts, DefaultIs}
use Rattle.fp_types.specs.Faults.{Converted}
use Rattle.fp_types.specs.Given.{IsDefaultIf}
use Rattle.fp_components.specs.Resolved.{IsDefault}

module _ (ws : List WrittenType) (k : Kind) where
  pub made : (v : Value) (r : Result Value Unfit) (w : Value) → r ≡ Ok w → Converted ws v k r → Converts ws v k w
  made v r w is h = subst (Converted ws v k) is h

  unmade : (v w : Value) (u : Unfit) → Converted ws v k (Err u) → Converts ws v k w → u ≡ NoMemory
  unmade v w Shape h c = absurd (h.0 w c)
  unmade v w Range h c = absurd (h.0 w c)
  unmade v w Member h c = absurd (h.0 w c)
  unmade v w NoMemory h c = refl

  pub no_memory : (v w : Value) (r : Result Value Unfit) (u : Unfit) → r ≡ Err u → Converted ws v k r → Converts ws v k w → u ≡ NoMemory
  no_memory v w r u is h c = unmade v w u (subst (Converted ws v k) is h) c

  pub by_written : {E : Type 0} (r : Result Value E) (o : Option Value) (x : Value) → o ≡ Some x → ((w : Value) → Converts ws x k w → IfOk r (Converts ws x k)) → (v : Value) → IsDefault ws k o v
      → IfOk r (IsDefault ws k o)
  by_written r o x is clause v h =
      subst (λ (p : Option Value). IfOk r (IsDefault ws k p)) (sym is) (clause v (subst (λ (p : Option Value). IsDefault ws k p v) is h))

  pub by_type : {E : Type 0} (r : Result Value E) (o : Option Value) → o ≡ None → ((w : Value) → DefaultIs ws k w → IfOk r (DefaultIs ws k)) → (v : Value) → IsDefault ws k o v
      → IfOk r (IsDefault ws k o)
  by_type r o is clause v h =
      subst (λ (p : Option Value). IfOk r (IsDefault ws k p)) (sym is) (clause v (subst (λ (p : Option Value). IsDefault ws k p v) is h))

  pub not_none : {B : Type 0} (o : Option Value) (w : Value) → IsDefaultIf ws k o → o ≡ None → DefaultIs ws k w → B
  not_none o w is none d = let there = is.only w d in absurd (cc)
