-- Types of one number are one type, and what takes a value of the number that is given fits.
use Rattle.std.proofs.Common.{◌≡◌, ℕ, ◌⊎◌, true, List, Option, Some, None, refl, inl, inr, arith}
use Rattle.std.specs.Option.{option_map}
use Rattle.std.proofs.lemmas.Bool.Decides.{nat_tests}
use Rattle.fp_base.proofs.Options.{same_some}
use Rattle.fp_base.proofs.Spots.{same_or_other}
use Rattle.fp_tables.specs.Components.{same_kind}
use Rattle.fp_tables.specs.Lists.{some_and}
use Rattle.fp_tables.specs.Machines.{target, is_given}
use Rattle.fp_tables.specs.declared.kind.Kind.{Kind}
use Rattle.fp_tables.specs.declared.kind.Kind.TheVariants as kind
use Rattle.fp_tables.specs.declared.kind.TypeDef.{TypeDef}
use Rattle.fp_tables.specs.declared.machine.Machine.{Machine}
use Rattle.fp_tables.specs.declared.machine.Named.{Named}
use Rattle.fp_machines.specs.Numbers.{type_number}

pub same_numbers : (a b : Kind) → type_number a ≡ type_number b → same_kind a b ≡ true
same_numbers kind.U8 kind.U8 e = refl
same_numbers kind.U8 _ e = absurd (omega (arith, e))
same_numbers kind.U16 kind.U16 e = refl
same_numbers kind.U16 _ e = absurd (omega (arith, e))
same_numbers kind.U32 kind.U32 e = refl
same_numbers kind.U32 _ e = absurd (omega (arith, e))
same_numbers kind.U64 kind.U64 e = refl
same_numbers kind.U64 _ e = absurd (omega (arith, e))
same_numbers kind.I8 kind.I8 e = refl
same_numbers kind.I8 _ e = absurd (omega (arith, e))
same_numbers kind.I16 kind.I16 e = refl
same_numbers kind.I16 _ e = absurd (omega (arith, e))
same_numbers kind.I32 kind.I32 e = refl
same_numbers kind.I32 _ e = absurd (omega (arith, e))
same_numbers kind.I64 kind.I64 e = refl
same_numbers kind.I64 _ e = absurd (omega (arith, e))
same_numbers kind.Bool kind.Bool e = refl
same_numbers kind.Bool _ e = absurd (omega (arith, e))
same_numbers (kind.Str m) (kind.Str n) e = let same : m ≡ n = omega (arith, e) in grind (arith, nat_tests)
same_numbers (kind.Str m) _ e = absurd (omega (arith, e))
same_numbers (kind.Named m) (kind.Named n) e = let same : m ≡ n = omega (arith, e) in grind (arith, nat_tests)
same_numbers (kind.Named m) _ e = absurd (omega (arith, e))

-- the number of a type behind its aliases
abbrev pub number_of : List TypeDef → Kind → ℕ
number_of types k = type_number (target types k)

abbrev pub number_if : List TypeDef → Option Kind → Option ℕ
number_if types o = option_map (number_of types) o

module _ (types : List TypeDef) (m : Machine) where
  -- where nothing else than this number can be given, one of its type is given
  pub fits : (given : Option Kind) (k : Kind) → ((number_if types given ≡ Some (number_of types k) → ⊥) → ⊥)
      → some_and (λ g. same_kind (target types g) (target types k)) given ≡ true
  fits None k h = absurd (h (λ e. differ e))
    where
      differ : ◌≡◌ {A = Option ℕ} None (Some (number_of types k)) → ⊥
      differ z = cc
  fits (Some g) k h = go (same_or_other (number_of types g) (number_of types k))
    where
      go : (number_of types g ≡ number_of types k) ⊎ (number_of types g ≡ number_of types k → ⊥) → same_kind (target types g) (target types k) ≡ true
      go (inl e) = same_numbers (target types g) (target types k) e
      go (inr n) = absurd (h (λ e. n (same_some e)))

  -- of what is declared with a kind, or with none
  pub given_fits : (given : Option Kind) (x : Named) (o : Option Kind) → x.kind ≡ o → ((k : Kind) → o ≡ Some k → (number_if types given ≡ Some (number_of types k) → ⊥) → ⊥)
      → is_given types m given (Some x) ≡ true
  given_fits given x None is h = rw is refl
  given_fits given x (Some k) is h = rw is (fits given k (h k refl))
