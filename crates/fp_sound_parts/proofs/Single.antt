-- Single things: a type that is an integer type behind its aliases, names of commands that parameters bring, sizes, and tests of what is equal.
use Rattle.std.proofs.Common.{◌≡◌, ℕ, zero, suc, ◌<◌, ◌⊎◌, inl, inr, ℤ, pos, Bool, true, false, List, [], ◌∷◌, ◌++◌, length, Option, Some, None, refl, ◌∙◌, arith}
use Rattle.std.specs.Prelude.{codes, nat_le, ◌<ℤ◌}
use Rattle.std.specs.List.{list_all}
use Rattle.std.proofs.lemmas.Bool.Decides.{nat_tests}
use Rattle.std.proofs.lemmas.Int.{ints}
use Rattle.std.proofs.lemmas.List.Folds.{list_all-append}
use Rattle.fp_base.specs.Names.{is_letter, is_name, is_name_byte}
use Rattle.fp_base.specs.Same.{same_list}
use Rattle.fp_base.proofs.Bools.{both, join}
use Rattle.fp_base.proofs.Bytes.{bytes_same}
use Rattle.fp_base.proofs.Sameness.{bool_itself}
use Rattle.fp_tables.specs.Components.{is_from_1_to, same_formal}
use Rattle.fp_tables.specs.Machines.{target, target_by}
use Rattle.fp_tables.specs.Types.{Shape, integer, truth, words, array, struct, constants, opaque, nothing, form_at, is_integer, shape, shape_by, is_integer_kind}
use Rattle.fp_tables.specs.declared.kind.Form.{Form}
use Rattle.fp_tables.specs.declared.kind.Form.TheVariants as form
use Rattle.fp_tables.specs.declared.kind.Formal.{Formal}
use Rattle.fp_tables.specs.declared.kind.Kind.{Kind}
use Rattle.fp_tables.specs.declared.kind.Kind.TheVariants as kind
use Rattle.fp_tables.specs.declared.kind.TypeDef.{TypeDef}
use Rattle.fp_tables.proofs.OneKind.{kind_itself}
use Rattle.fp_dictdefs.specs.Listed.{save_name, set_name}

-- ---- integer types

abbrev has_range : Shape → Bool
has_range (integer low high) = true
has_range _ = false

module _ (types : List TypeDef) where
  through_alias : (n i : ℕ) → ((k : Kind) → is_integer_kind (target_by types n k) ≡ true → has_range (shape_by types (suc n) k) ≡ true) → (o : Option Form) → form_at types i ≡ o
      → is_integer_kind (target_by types (suc n) (kind.Named i)) ≡ true → has_range (shape_by types (suc (suc n)) (kind.Named i)) ≡ true
  unfolding target_by
  through_alias n i rest None e h = absurd (cc (rw e at h))
  through_alias n i rest (Some form.Abstract) e h = absurd (cc (rw e at h))
  through_alias n i rest (Some (form.Alias k)) e h = rw e (rest k (rw e at h))
  through_alias n i rest (Some (form.Array size element format)) e h = absurd (cc (rw e at h))
  through_alias n i rest (Some (form.Struct fields)) e h = absurd (cc (rw e at h))
  through_alias n i rest (Some (form.Enum repr cs)) e h = absurd (cc (rw e at h))

  ends_in_range : (n : ℕ) (k : Kind) → is_integer_kind (target_by types n k) ≡ true → has_range (shape_by types (suc n) k) ≡ true
  unfolding target_by
  ends_in_range n kind.U8 h = refl
  ends_in_range n kind.U16 h = refl
  ends_in_range n kind.U32 h = refl
  ends_in_range n kind.U64 h = refl
  ends_in_range n kind.I8 h = refl
  ends_in_range n kind.I16 h = refl
  ends_in_range n kind.I32 h = refl
  ends_in_range n kind.I64 h = refl
  ends_in_range zero kind.Bool h = absurd (cc)
  ends_in_range (suc n) kind.Bool h = absurd (cc)
  ends_in_range zero (kind.Str size) h = absurd (cc)
  ends_in_range (suc n) (kind.Str size) h = absurd (cc)
  ends_in_range zero (kind.Named i) h = absurd (cc)
  ends_in_range (suc n) (kind.Named i) h = through_alias n i (ends_in_range n) (form_at types i) refl h

  pub integer_type : (k : Kind) → is_integer_kind (target types k) ≡ true → is_integer types k ≡ true
  integer_type k h = go (shape types k) refl (ends_in_range (length types) k h)
    where
      go : (s : Shape) → shape types k ≡ s → has_range s ≡ true → is_integer types k ≡ true
      go (integer low high) e r = rw e refl
      go truth e r = absurd (cc)
      go words e r = absurd (cc)
      go (array n j) e r = absurd (cc)
      go (struct fs) e r = absurd (cc)
      go (constants cs) e r = absurd (cc)
      go opaque e r = absurd (cc)
      go nothing e r = absurd (cc)

-- ---- names

name_and_more : (name more : List ℕ) → is_name name ≡ true → list_all is_name_byte more ≡ true → is_name (name ++ more) ≡ true
name_and_more [] more h k = absurd (cc)
name_and_more (b ∷ bs) more h k =
    let t = both (is_letter b) (list_all is_name_byte bs) h in
    join (is_letter b) (list_all is_name_byte (bs ++ more)) t.0 (list_all-append is_name_byte bs more ∙ join (list_all is_name_byte bs) (list_all is_name_byte more) t.1 k)

pub set_is_name : (name : List ℕ) → is_name name ≡ true → is_name (set_name name) ≡ true
set_is_name name h = name_and_more name (codes "_PRM_SET") h refl

pub save_is_name : (name : List ℕ) → is_name name ≡ true → is_name (save_name name) ≡ true
save_is_name name h = name_and_more name (codes "_PRM_SAVE") h refl

-- ---- sizes

pub size_from_1 : (s : ℕ) → ((pos s <ℤ pos 1) ⊎ (pos 1024 <ℤ pos s) → ⊥) → is_from_1_to 1024 s ≡ true
size_from_1 s h = join (nat_le 1 s) (nat_le s 1024) (low (nat_le 1 s) refl) (high (nat_le s 1024) refl)
  where
    low : (b : Bool) → nat_le 1 s ≡ b → nat_le 1 s ≡ true
    low true e = e
    low false e = let small : s < 1 = grind (arith, nat_tests) in absurd (h (inl (omega (arith, ints))))

    high : (b : Bool) → nat_le s 1024 ≡ b → nat_le s 1024 ≡ true
    high true e = e
    high false e = let large : 1024 < s = grind (arith, nat_tests) in absurd (h (inr (omega (arith, ints))))

-- ---- what is equal

formal_itself : (f : Formal) → same_formal f f ≡ true
formal_itself f = rw (bytes_same f.name f.name refl, kind_itself f.kind, bool_itself f.by_ref, bytes_same f.note f.note refl) refl

pub formals_itself : (fs : List Formal) → same_list same_formal fs fs ≡ true
formals_itself [] = refl
formals_itself (f ∷ fs) = join (same_formal f f) (same_list same_formal fs fs) (formal_itself f) (formals_itself fs)
