-- The integers that a kind has are numbers of at most 64 bits.
use Rattle.std.proofs.Common.{◌≡◌, ℕ, zero, suc, ◌-◌, ◌^◌, ◌<◌, true, ◌&&◌, cond, List, length, Option, Some, None, refl, ap, arith}
use Rattle.std.specs.Prelude.{ℤ, pos, negsuc, int_le, nat_le, nat_lt}
use Rattle.std.proofs.lemmas.Bool.Decides.{nat_tests}
use Rattle.fp_base.proofs.Bools.{both}
use Rattle.fp_tables.specs.Types.{Shape, integer, of_form, form_at, shape_by, shape, member_shape}
use Rattle.fp_tables.specs.declared.kind.Kind.{Kind}
use Rattle.fp_tables.specs.declared.kind.Kind.TheVariants as kind
use Rattle.fp_tables.specs.declared.kind.Form.{Form}
use Rattle.fp_tables.specs.declared.kind.Form.TheVariants as form
use Rattle.fp_tables.specs.declared.kind.Field.{Field}
use Rattle.fp_tables.specs.declared.kind.TypeDef.{TypeDef}
use Rattle.serde_json.specs.Data.{null, number, unsigned, negative}
use Rattle.fp_dictionary.specs.Values.{number_data}
use Rattle.fp_dictionary.specs.Exact.{exact_number}

-- each integer of a shape is said as it is
abbrev pub IsNarrow : Shape → Type 0
IsNarrow (integer low high) = (n : ℤ) → (int_le low n && int_le n high) ≡ true → number_data n ≡ exact_number n
IsNarrow _ = Unit {0}

below : (n m b : ℕ) → nat_le n m ≡ true → m < b → nat_lt n b ≡ true
below n m b h few = grind (arith, nat_tests)

not_negative : (n m : ℕ) → nat_le n m ≡ true → m < 2 ^ 64 → number_data (pos n) ≡ exact_number (pos n)
not_negative n m h few = ap (λ b. cond b (number (unsigned n)) null) (below n m (2 ^ 64) h few)

negative_number : (n m : ℕ) → nat_le n m ≡ true → m < 2 ^ 63 → number_data (negsuc n) ≡ exact_number (negsuc n)
negative_number n m h few = ap (λ b. cond b (number (negative (negsuc n))) null) (below n m (2 ^ 63) h few)

unsigned_narrow : (high : ℕ) → high < 2 ^ 64 → IsNarrow (integer (pos 0) (pos high))
unsigned_narrow high few (pos n) h = not_negative n high (both (int_le (pos 0) (pos n)) (int_le (pos n) (pos high)) h).1 few
unsigned_narrow high few (negsuc n) h = absurd (cc)

signed_narrow : (low high : ℕ) → low < 2 ^ 63 → high < 2 ^ 64 → IsNarrow (integer (negsuc low) (pos high))
signed_narrow low high deep few (pos n) h = not_negative n high (both (int_le (negsuc low) (pos n)) (int_le (pos n) (pos high)) h).1 few
signed_narrow low high deep few (negsuc n) h = negative_number n low (both (int_le (negsuc low) (negsuc n)) (int_le (negsuc n) (pos high)) h).0 deep

module _ (types : List TypeDef) where
  narrow_by : (n : ℕ) (k : Kind) → IsNarrow (shape_by types n k)
  narrow_by n kind.U8 = unsigned_narrow (2 ^ 8 - 1) (omega arith)
  narrow_by n kind.U16 = unsigned_narrow (2 ^ 16 - 1) (omega arith)
  narrow_by n kind.U32 = unsigned_narrow (2 ^ 32 - 1) (omega arith)
  narrow_by n kind.U64 = unsigned_narrow (2 ^ 64 - 1) (omega arith)
  narrow_by n kind.I8 = signed_narrow (2 ^ 7 - 1) (2 ^ 7 - 1) (omega arith) (omega arith)
  narrow_by n kind.I16 = signed_narrow (2 ^ 15 - 1) (2 ^ 15 - 1) (omega arith) (omega arith)
  narrow_by n kind.I32 = signed_narrow (2 ^ 31 - 1) (2 ^ 31 - 1) (omega arith) (omega arith)
  narrow_by n kind.I64 = signed_narrow (2 ^ 63 - 1) (2 ^ 63 - 1) (omega arith) (omega arith)
  narrow_by n kind.Bool = tt
  narrow_by n (kind.Str size) = tt
  narrow_by zero (kind.Named i) = tt
  narrow_by (suc n) (kind.Named i) = go (form_at types i) refl (λ k. narrow_by n k)
    where
      go : (o : Option Form) → form_at types i ≡ o → ((k : Kind) → IsNarrow (shape_by types n k)) → IsNarrow (shape_by types (suc n) (kind.Named i))
      go None is rest = rw is tt
      go (Some (form.Alias k)) is rest = rw is (rest k)
      go (Some form.Abstract) is rest = rw is tt
      go (Some (form.Array size element format)) is rest = rw is tt
      go (Some (form.Struct fields)) is rest = rw is tt
      go (Some (form.Enum repr constants)) is rest = rw is tt

  pub kind_narrow : (k : Kind) → IsNarrow (shape types k)
  kind_narrow k = narrow_by (suc (length types)) k

  pub form_narrow : (f : Form) → IsNarrow (of_form (shape types) f)
  form_narrow form.Abstract = tt
  form_narrow (form.Alias k) = kind_narrow k
  form_narrow (form.Array size element format) = tt
  form_narrow (form.Struct fields) = tt
  form_narrow (form.Enum repr constants) = tt

  pub member_narrow : (f : Field) → IsNarrow (member_shape types f)
  member_narrow f = go f.size
    where
      go : (size : Option ℕ) → IsNarrow (member_shape types (record f { size = size }))
      go None = kind_narrow f.kind
      go (Some size) = tt
