-- What actions and guards want, and what they are given.
use Rattle.std.proofs.Common.{◌≡◌, Bool, true, false, cond, ◌&&◌, List, Option, None, Some, refl, sym, ap, ap₂, subst, ◌∙◌}
use Rattle.fp_base.proofs.Bools.{and_true}
use Rattle.fp_tables.specs.Components.{same_kind}
use Rattle.fp_tables.specs.Machines.{target, is_given}
use Rattle.fp_sound_machines.specs.Wanted.{meets, both_wanted, wanted_by}
use Rattle.fp_tables.specs.declared.kind.Kind.{Kind}
use Rattle.fp_tables.specs.declared.kind.Kind.TheVariants as kind
use Rattle.fp_tables.specs.declared.kind.TypeDef.{TypeDef}
use Rattle.fp_tables.specs.declared.machine.Named.{Named}
use Rattle.fp_tables.specs.declared.machine.Machine.{Machine}
use Rattle.fp_sound_machines.specs.declared.wanted.Wanted.{Wanted}
use Rattle.fp_sound_machines.specs.declared.wanted.Wanted.TheVariants.{Nothing, One, Never}
use Rattle.fp_tables.proofs.OneKind.{same_kind_is, kind_itself}

-- ---- what wants both

and_false : (b : Bool) → false ≡ (b && false)
and_false true = refl
and_false false = refl

and_self : (b : Bool) → b ≡ (b && b)
and_self true = refl
and_self false = refl

not_both : (g j k : Kind) → same_kind j k ≡ false → (a b : Bool) → same_kind g j ≡ a → same_kind g k ≡ b → false ≡ (a && b)
not_both g j k h true true p q =
    let first : g ≡ j = same_kind_is g j p in
    let second : g ≡ k = same_kind_is g k q in
    let same : j ≡ k = sym first ∙ second in
    let here : same_kind j k ≡ true = subst (λ (i : Kind). same_kind j i ≡ true) same (kind_itself j) in
    absurd (cc)
not_both g j k h true false p q = refl
not_both g j k h false b p q = refl

one_both : (g j k : Kind) (b : Bool) → same_kind j k ≡ b → cond b (same_kind g j) false ≡ (same_kind g j && same_kind g k)
one_both g j k true h = and_self (same_kind g j) ∙ ap (λ (i : Kind). same_kind g j && same_kind g i) (same_kind_is j k h)
one_both g j k false h = not_both g j k h (same_kind g j) (same_kind g k) refl refl

module _ (types : List TypeDef) (given : Option Kind) where
  at_cond : (b : Bool) (j : Kind) → meets types given (cond b (One j) Never) ≡ cond b (meets types given (One j)) false
  at_cond true j = refl
  at_cond false j = refl

  pub meets_both : (v w : Wanted) → meets types given (both_wanted v w) ≡ (meets types given v && meets types given w)
  meets_both Nothing w = refl
  meets_both Never w = refl
  meets_both (One j) Nothing = and_true (meets types given (One j))
  meets_both (One j) Never = and_false (meets types given (One j))
  meets_both (One j) (One k) = at_cond (same_kind j k) j ∙ of_given given
    where
      none : (b : Bool) → cond b false false ≡ false
      none true = refl
      none false = refl

      of_given : (o : Option Kind) → cond (same_kind j k) (meets types o (One j)) false ≡ (meets types o (One j) && meets types o (One k))
      of_given None = none (same_kind j k)
      of_given (Some g) = one_both (target types g) j k (same_kind j k) refl

  pub meets_one : (m : Machine) (x : Option Named) → meets types given (wanted_by types x) ≡ is_given types m given x
  meets_one m None = refl
  meets_one m (Some x) = of_kind x.kind
    where
      of_kind : (k : Option Kind) → meets types given (wanted_by types (Some (record x { kind = k }))) ≡ is_given types m given (Some (record x { kind = k }))
      of_kind None = refl
      of_kind (Some k) = refl

  pub meets_joined : (u v w : Wanted) (a b : Bool) → u ≡ both_wanted v w → meets types given v ≡ a → meets types given w ≡ b → meets types given u ≡ (a && b)
  meets_joined u v w a b e p q = ap (meets types given) e ∙ meets_both v w ∙ ap₂ (λ (x y : Bool). x && y) p q
