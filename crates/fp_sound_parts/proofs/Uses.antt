-- Uses of a machine in which no name means nothing and no value is misgiven, element by element.
use Rattle.std.proofs.Common.{◌≡◌, ℕ, zero, suc, ◌+◌, true, List, [], ◌∷◌, slice_get, Option, Some, None, ap, subst, ◌∙◌, arith}
use Rattle.std.specs.List.{AllByRecursion}
use Rattle.std.specs.Option.{option_map, option_and_then}
use Rattle.std.proofs.lemmas.Option.{slice_get-map}
use Rattle.fp_base.proofs.Lists.{each_before, each_behind}
use Rattle.fp_base.proofs.Options.{same_some}
use Rattle.fp_tree.specs.declared.machine.BehaviorElement.{BehaviorElement}
use Rattle.fp_tables.specs.Machines.{is_given}
use Rattle.fp_tables.specs.declared.kind.Kind.{Kind}
use Rattle.fp_tables.specs.declared.kind.TypeDef.{TypeDef}
use Rattle.fp_tables.specs.declared.machine.Machine.{Machine}
use Rattle.fp_tables.specs.declared.machine.Named.{Named}
use Rattle.fp_machine_rules.specs.declared.item.Item.{Item}
use Rattle.fp_machine_rules.specs.declared.item.Meaning.TheVariants.{Nothing, Typed}
use Rattle.fp_machine_rules.specs.declared.item.Use.{Use}
use Rattle.fp_machine_rules.specs.Values.{IsGiven, IsMisgiven}
use Rattle.fp_machines.specs.Layout.{of_type, takes, uses_from, uses_in}
use Rattle.fp_machines.specs.Made.{kind_at}
use Rattle.fp_machines.specs.Numbers.{type_numbers}
use Rattle.fp_sound_parts.proofs.BehaviorFitting.{number_of, number_if, given_fits}

-- what is declared, with this kind
pub record IsDeclared (xs : List Named) (n : ℕ) (o : Option Kind) : Type 0 where
  pub named : Named
  pub here : slice_get xs n ≡ Some named
  pub kind : named.kind ≡ o

pub record IsGoodUse (items : List Item) (signals : List (Option ℕ)) (used : Use) : Type 0 where
  pub given : IsMisgiven items signals used → ⊥
  pub meant : used.means ≡ Nothing → ⊥

-- the uses in one element
pub uses_at : (P : Use → Type 0) (es : List BehaviorElement) (items : List Item) (types : List (Option ℕ)) (base : ℕ) (xs : List BehaviorElement) (k v : ℕ) (e : BehaviorElement)
    → AllByRecursion P (uses_from es items types base xs) → slice_get xs k ≡ Some e → v ≡ base + k → AllByRecursion P (uses_in es items types v e.parent e.form)
uses_at P es items types base [] k v e h at is = absurd cc
uses_at P es items types base (x ∷ xs) zero v e h at is =
    let first = each_before P (uses_in es items types base x.parent x.form) (uses_from es items types (base + 1) xs) h in
    let n : base ≡ v = omega (arith, is) in
    subst (λ (m : ℕ). AllByRecursion P (uses_in es items types m e.parent e.form)) n
    (subst (λ (y : BehaviorElement). AllByRecursion P (uses_in es items types base y.parent y.form)) (same_some at) first)
uses_at P es items types base (x ∷ xs) (suc k) v e h at is =
    uses_at P es items types (base + 1) xs k v e (each_behind P (uses_in es items types base x.parent x.form) (uses_from es items types (base + 1) xs) h) at (omega (arith, is))

module _ (types : List TypeDef) (kinds : List (Option Kind)) where
  takes_typed : (k : ℕ) (wanted : Kind) → kind_at kinds k ≡ Some wanted → takes (type_numbers types kinds) (Some k) ≡ Typed (number_of types wanted)
  takes_typed k wanted e =
      ap (λ (o : Option (Option ℕ)). of_type (option_and_then (λ (p : Option ℕ). p) o)) (slice_get-map (number_if types) kinds k) ∙ go (slice_get kinds k) e
    where
      go : (o : Option (Option Kind)) → option_and_then (λ (p : Option Kind). p) o ≡ Some wanted
          → of_type (option_and_then (λ (p : Option ℕ). p) (option_map (number_if types) o)) ≡ Typed (number_of types wanted)
      go None e = absurd cc
      go (Some None) e = absurd cc
      go (Some (Some k)) e = ap (λ (k : Kind). Typed (number_of types k)) (same_some e)

  module _ (m : Machine) (items : List Item) where
    -- a use that isn't misgiven, where a value is given
    pub use_fits : (given : Option Kind) (used : Use) (k n : ℕ) (xs : List Named) → used.means ≡ takes (type_numbers types kinds) (Some k)
        → IsGoodUse items (type_numbers types kinds) used → IsGiven items (type_numbers types kinds) used.item (number_if types given) → IsDeclared xs n (kind_at kinds k)
        → is_given types m given (slice_get xs n) ≡ true
    use_fits given used k n xs means good is d =
        ap (λ (o : Option Named). is_given types m given o) d.here
        ∙ given_fits types m given d.named (kind_at kinds k) d.kind
        (λ wanted e other. good.given (record { wanted = number_of types wanted; wants = means ∙ takes_typed k wanted e; given = record { value = number_if types given; given = is; other = other } }))
