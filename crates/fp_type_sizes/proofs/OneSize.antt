-- A type has one size at most.
use Rattle.std.proofs.Common.{◌≡◌, ℕ, ◌+◌, ◌*◌, List, Option, Some, refl, sym, ap, ◌∙◌, subst, slice_get}
use Rattle.std.specs.Prelude.{max}
use Rattle.fp_base.proofs.Options.{same_some}
use Rattle.fp_tables.specs.declared.kind.Kind.{Kind}
use Rattle.fp_tables.specs.declared.kind.Form.{Form}
use Rattle.fp_tables.specs.declared.kind.Field.{Field}
use Rattle.fp_type_sizes.specs.declared.written.WrittenType.{WrittenType}
use Rattle.fp_type_sizes.specs.Sizes.{HasForm, Measures, plain, named, MeasuresForm, abstract_, alias, array, struct, enum, MeasuresFields, no_field, field, MeasuresMember, one, many}

pub one_written : (ws : List WrittenType) (i : ℕ) {v w : WrittenType} → slice_get ws i ≡ Some v → slice_get ws i ≡ Some w → v ≡ w
one_written ws i e h = same_some (sym e ∙ h)

pub one_form : {ws : List WrittenType} {i : ℕ} {f g : Form} → HasForm ws i f → HasForm ws i g → f ≡ g
one_form {ws = ws} {i = i} h k = same_some (sym h.form ∙ ap (λ (x : WrittenType). x.form) (one_written ws i h.here k.here) ∙ k.form)

pub record SameSize (a b c d : ℕ) : Type 0 where
  pub leaves : a ≡ c
  pub levels : b ≡ d

same_array : (n : ℕ) {a b c d : ℕ} → SameSize a b c d → SameSize (n * a) (1 + b) (n * c) (1 + d)
same_array n s = record { leaves = ap (λ x. n * x) s.leaves; levels = ap (λ x. 1 + x) s.levels }

same_struct : {a b c d : ℕ} → SameSize a b c d → SameSize (max 1 a) (1 + b) (max 1 c) (1 + d)
same_struct s = record { leaves = ap (λ x. max 1 x) s.leaves; levels = ap (λ x. 1 + x) s.levels }

same_fields : {a b c d a' b' c' d' : ℕ} → SameSize a b a' b' → SameSize c d c' d' → SameSize (a + c) (max b d) (a' + c') (max b' d')
same_fields s t = record { leaves = rw (s.leaves, t.leaves) refl; levels = rw (s.levels, t.levels) refl }

mutual
  pub one_size : {ws : List WrittenType} {k : Kind} {a b c d : ℕ} → Measures ws k a b → Measures ws k c d → SameSize a b c d
  one_size (plain h) (plain k) = record { leaves = refl; levels = refl }
  one_size (plain h) (named k n) = absurd h
  one_size (named h m) (plain k) = absurd k
  one_size {ws = ws} (named h m) (named {a = c} {b = d} k n) = one_form_size m (subst (λ (f : Form). MeasuresForm ws f c d) (one_form k h) n)

  pub one_form_size : {ws : List WrittenType} {f : Form} {a b c d : ℕ} → MeasuresForm ws f a b → MeasuresForm ws f c d → SameSize a b c d
  one_form_size abstract_ abstract_ = record { leaves = refl; levels = refl }
  one_form_size (alias m) (alias n) = one_size m n
  one_form_size (array {size = size} m) (array n) = same_array size (one_size m n)
  one_form_size (struct m) (struct n) = same_struct (one_fields_size m n)
  one_form_size (enum h m) (enum k n) = record { leaves = refl; levels = refl }

  one_fields_size : {ws : List WrittenType} {fs : List Field} {a b c d : ℕ} → MeasuresFields ws fs a b → MeasuresFields ws fs c d → SameSize a b c d
  one_fields_size no_field no_field = record { leaves = refl; levels = refl }
  one_fields_size (field m ms) (field n ns) = same_fields (one_member_size m n) (one_fields_size ms ns)

  one_member_size : {ws : List WrittenType} {o : Option ℕ} {k : Kind} {a b c d : ℕ} → MeasuresMember ws o k a b → MeasuresMember ws o k c d → SameSize a b c d
  one_member_size (one m) (one n) = one_size m n
  one_member_size (many {size = size} m) (many n) = same_array size (one_size m n)
