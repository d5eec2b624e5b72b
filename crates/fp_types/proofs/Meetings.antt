-- What a walk meets, from what it meets in parts.
use Rattle.std.proofs.Common.{◌≡◌, ◌⊎◌, inl, inr, ℕ, zero, suc, ◌+◌, ◌-◌, ◌<◌, ◌≤◌, Bool, true, false, List, length, get_or, slice_get, Some, None, refl, sym, ap, ◌∙◌, subst, arith}
use Rattle.std.proofs.lemmas.Option.{slice_get_read, slice_get_within}
use Rattle.fp_base.specs.declared.value.Value.{Value}
use Rattle.fp_base.specs.declared.value.Value.TheOpen as value
use Rattle.fp_base.specs.declared.value.MemberValue.{MemberValue}
use Rattle.fp_tables.specs.declared.kind.Kind.{Kind}
use Rattle.fp_tables.specs.declared.kind.Field.{Field}
use Rattle.fp_type_sizes.specs.declared.written.WrittenType.{WrittenType}
use Rattle.fp_types.specs.Converting.{Opened, opened, IsSingle, Target, integer, truth, words, array, struct, constants, opaque, of_kind, member, member_named}
use Rattle.fp_types.specs.Making.{items_of, parts_of, Enough, EnoughEach, EnoughIn}
use Rattle.fp_types.specs.Faults.{Meets, here, in_part, in_member, single_in_part, single_in_member, in_plain, in_named}
use Rattle.fp_types.specs.declared.faults.Sought.{Sought}
use Rattle.fp_types.specs.declared.faults.Sought.TheVariants as sought
use Rattle.fp_types.specs.Meeting.{test_of, Tells, MeetsItem, MeetsNamed, MeetsInMember, MeetsInArray, MeetsInStruct, MeetsInside}
use Rattle.fp_types.specs.Making.{PassesKinds, MeetsThrough}
use Rattle.fp_types.specs.declared.target.Rest.{Rest}
use Rattle.fp_base.proofs.Options.{same_some}
use Rattle.fp_types.proofs.Through.{enough_named}

-- ---- what a walk tells

pub told : (r s P Q : Type 0) (b : Bool) → (s → r) → (P → Q) → (Q → P) → Tells r P b → Tells s Q b
told r s P Q true enough there back h = there h
told r s P Q false enough there back h = λ reached q. h (enough reached) (back q)

pub tells_true : (r P : Type 0) (b : Bool) → b ≡ true → Tells r P b → P
tells_true r P b e h = subst (λ (x : Bool). Tells r P x) e h

pub tells_false : (r P : Type 0) (b : Bool) → b ≡ false → Tells r P b → r → P → ⊥
tells_false r P b e h = subst (λ (x : Bool). Tells r P x) e h

pub not_true : {A : Type 0} (b : Bool) → b ≡ false → b ≡ true → A
not_true b e d = let both : true ≡ false = sym d ∙ e in cc

pub none_next : {A : Type 0} (r : Type 0) (P : A → Type 0) (xs : List A) (i : ℕ) (x : A) → i < length xs → x ≡ get_or xs i x
    → ((j : ℕ) (y : A) → j < i → slice_get xs j ≡ Some y → r → P y → ⊥) → (r → P x → ⊥) → (j : ℕ) (y : A) → j < i + 1 → slice_get xs j ≡ Some y → r → P y → ⊥
none_next {A = A} r P xs i x lt is before now j y below at reached p = go (lower j i below)
  where
    lower : (j i : ℕ) → j < i + 1 → (j < i) ⊎ (j ≡ i)
    lower zero zero l = inr refl
    lower zero (suc i) l = inl (omega arith)
    lower (suc j) zero l = absurd (omega arith)
    lower (suc j) (suc i) l = of (lower j i (omega arith))
      where
        of : (j < i) ⊎ (j ≡ i) → (suc j < suc i) ⊎ (suc j ≡ suc i)
        of (inl m) = inl (omega arith)
        of (inr e) = inr (omega arith)

    go : (j < i) ⊎ (j ≡ i) → ⊥
    go (inl m) = before j y m at reached p
    go (inr e) = now reached (subst P (same_some (sym at ∙ ap (slice_get xs) e ∙ slice_get_read xs (length xs) i x refl lt is)) p)

pub none_last : {A : Type 0} (r : Type 0) (P : A → Type 0) (xs : List A) (i : ℕ) → length xs ≤ i → ((j : ℕ) (y : A) → j < i → slice_get xs j ≡ Some y → r → P y → ⊥)
    → r → (j : ℕ) (y : A) → slice_get xs j ≡ Some y → P y → ⊥
none_last r P xs i all before reached j y at p = let within = slice_get_within xs j y at in before j y (omega arith) at reached p

-- ---- what is met

module _ (types : List WrittenType) (test : Opened → Target → Bool) where
  array_inside : (size : ℕ) (k : Kind) (o : Opened) → IsSingle o → Meets types test o (of_kind k) → MeetsInArray types test size k o
  array_inside size k (value.Int n) s h = (s, h)
  array_inside size k (value.Bool b) s h = (s, h)
  array_inside size k (value.Text t) s h = (s, h)
  array_inside size k (value.Enumerated of name n) s h = (s, h)
  array_inside size k (value.Array items) s h = absurd s
  array_inside size k (value.Struct parts) s h = absurd s
  array_inside size k value.Opaque s h = absurd s

  struct_inside : (fields : List Field) (o : Opened) → IsSingle o → MeetsInMember types test o fields → MeetsInStruct types test fields o
  struct_inside fields (value.Int n) s h = (s, h)
  struct_inside fields (value.Bool b) s h = (s, h)
  struct_inside fields (value.Text t) s h = (s, h)
  struct_inside fields (value.Enumerated of name n) s h = (s, h)
  struct_inside fields (value.Array items) s h = absurd s
  struct_inside fields (value.Struct parts) s h = absurd s
  struct_inside fields value.Opaque s h = absurd s

  inside : {o : Opened} {t : Target} → Meets types test o t → (test o t ≡ true) ⊎ MeetsInside types test t o
  inside (here e) = inl e
  inside (in_part {v = v} i long at h) = inr (long, (i, v, at, h))
  inside (in_member {p = p} {f = f} i at named h) = inr (i, p, at, (f, named, h))
  inside {o = o} (single_in_part {size = size} {k = k} s h) = inr (array_inside size k o s h)
  inside {o = o} (single_in_member {fields = fields} {f = f} i s at h) = inr (struct_inside fields o s (i, f, at, h))
  inside (in_plain p h) = inr (in_plain p h)
  inside (in_named f s h) = inr (in_named f s h)

  outside_array : (size : ℕ) (k : Kind) (o : Opened) → MeetsInArray types test size k o → Meets types test o (array size k)
  outside_array size k (value.Int n) h = single_in_part h.0 h.1
  outside_array size k (value.Bool b) h = single_in_part h.0 h.1
  outside_array size k (value.Text t) h = single_in_part h.0 h.1
  outside_array size k (value.Enumerated of name n) h = single_in_part h.0 h.1
  outside_array size k (value.Array items) h = in_part h.1.0 h.0 h.1.2 h.1.3
  outside_array size k (value.Struct parts) h = absurd h.0
  outside_array size k value.Opaque h = absurd h.0

  outside_struct : (fields : List Field) (rest : Rest) (o : Opened) → MeetsInStruct types test fields o → Meets types test o (struct rest fields)
  outside_struct fields rest (value.Int n) h = single_in_member h.1.0 h.0 h.1.2 h.1.3
  outside_struct fields rest (value.Bool b) h = single_in_member h.1.0 h.0 h.1.2 h.1.3
  outside_struct fields rest (value.Text t) h = single_in_member h.1.0 h.0 h.1.2 h.1.3
  outside_struct fields rest (value.Enumerated of name n) h = single_in_member h.1.0 h.0 h.1.2 h.1.3
  outside_struct fields rest (value.Struct parts) h = in_member h.0 h.2 h.3.1 h.3.2
  outside_struct fields rest (value.Array items) h = absurd h.0
  outside_struct fields rest value.Opaque h = absurd h.0

  outside : (t : Target) (o : Opened) → MeetsInside types test t o → Meets types test o t
  outside (array size k) o h = outside_array size k o h
  outside (struct rest fields) o h = outside_struct fields rest o h
  outside (of_kind k) o h = h
  outside (integer low high) o h = absurd h
  outside truth o h = absurd h
  outside words o h = absurd h
  outside (constants cs) o h = absurd h
  outside opaque o h = absurd h

  not_here : (t : Target) (o : Opened) → test o t ≡ false → Meets types test o t → MeetsInside types test t o
  not_here t o e h = go (inside h)
    where
      go : (test o t ≡ true) ⊎ MeetsInside types test t o → MeetsInside types test t o
      go (inl d) = not_true (test o t) e d
      go (inr i) = i

  -- what is met where the walk goes on from a target
  pub met_inside : (n : ℕ) (t s : Target) (o : Opened) (found : Bool) (b : Bool) → found ≡ test o t → found ≡ false → t ≡ s → Tells (EnoughIn types n s) (MeetsInside types test s o) b
      → Tells (EnoughIn types n t) (Meets types test o t) b
  met_inside n t s o found b e d is h =
      told (EnoughIn types n t) (EnoughIn types n t) (MeetsInside types test t o) (Meets types test o t) b (λ x. x) (outside t o) (not_here t o (sym e ∙ d))
      (subst (λ (x : Target). Tells (EnoughIn types n x) (MeetsInside types test x o) b) (sym is) h)

  pub met_here : (t : Target) (o : Opened) (found : Bool) → found ≡ test o t → found ≡ true → Meets types test o t
  met_here t o found e d = here (sym e ∙ d)

  pub met_step : (n : ℕ) (k : Kind) (t : Target) (o : Opened) (b : Bool) → PassesKinds test → MeetsThrough types k t
      → Tells (EnoughIn types (n - 1) t) (Meets types test o t) b → Tells (Enough types n k) (Meets types test o (of_kind k)) b
  met_step n k t o b passes through h =
      told (EnoughIn types (n - 1) t) (Enough types n k) (Meets types test o t) (Meets types test o (of_kind k)) b (through.enough n) (through.up test o) (through.down test o passes) h

  single_back : (size : ℕ) (k : Kind) (o : Opened) → IsSingle o → MeetsInArray types test size k o → Meets types test o (of_kind k)
  single_back size k (value.Int n) s h = h.1
  single_back size k (value.Bool b) s h = h.1
  single_back size k (value.Text t) s h = h.1
  single_back size k (value.Enumerated of name n) s h = h.1
  single_back size k (value.Array items) s h = absurd s
  single_back size k (value.Struct parts) s h = absurd s
  single_back size k value.Opaque s h = absurd s

  pub single_array : (r : Type 0) (size : ℕ) (k : Kind) (o : Opened) (b : Bool) → IsSingle o → Tells r (Meets types test o (of_kind k)) b → Tells r (MeetsInArray types test size k o) b
  single_array r size k o b s h = told r r _ _ b (λ x. x) (array_inside size k o s) (single_back size k o s) h

  pub no_array : (r : Type 0) (size : ℕ) (k : Kind) (o : Opened) → None ≡ items_of o → (IsSingle o → ⊥) → r → MeetsInArray types test size k o → ⊥
  no_array r size k (value.Array items) is s = absurd (cc)
  no_array r size k (value.Int n) is s = λ reached h. s h.0
  no_array r size k (value.Bool b) is s = λ reached h. s h.0
  no_array r size k (value.Text t) is s = λ reached h. s h.0
  no_array r size k (value.Enumerated of name n) is s = λ reached h. s h.0
  no_array r size k (value.Struct parts) is s = λ reached h. s h.0
  no_array r size k value.Opaque is s = λ reached h. s h.0

  pub of_length : (r : Type 0) (size : ℕ) (k : Kind) (items : List Value) (b : Bool) → length items ≡ size → Tells r (MeetsItem types test k items) b
      → Tells r (MeetsInArray types test size k (value.Array items)) b
  of_length r size k items b long h = told r r _ _ b (λ x. x) (λ m. (long, m)) (λ m. m.1) h

  pub at_value : (r : Type 0) (size : ℕ) (k : Kind) (o p : Opened) (b : Bool) → o ≡ p → Tells r (MeetsInArray types test size k o) b → Tells r (MeetsInArray types test size k p) b
  at_value r size k o p b e h = subst (λ (x : Opened). Tells r (MeetsInArray types test size k x) b) e h

  struct_back : (fields : List Field) (o : Opened) → IsSingle o → MeetsInStruct types test fields o → MeetsInMember types test o fields
  struct_back fields (value.Int n) s h = h.1
  struct_back fields (value.Bool b) s h = h.1
  struct_back fields (value.Text t) s h = h.1
  struct_back fields (value.Enumerated of name n) s h = h.1
  struct_back fields (value.Array items) s h = absurd s
  struct_back fields (value.Struct parts) s h = absurd s
  struct_back fields value.Opaque s h = absurd s

  pub single_struct : (r : Type 0) (fields : List Field) (o : Opened) (b : Bool) → IsSingle o → Tells r (MeetsInMember types test o fields) b → Tells r (MeetsInStruct types test fields o) b
  single_struct r fields o b s h = told r r _ _ b (λ x. x) (struct_inside fields o s) (struct_back fields o s) h

  pub no_struct : (r : Type 0) (fields : List Field) (o : Opened) → None ≡ parts_of o → (IsSingle o → ⊥) → r → MeetsInStruct types test fields o → ⊥
  no_struct r fields (value.Struct parts) is s = absurd (cc)
  no_struct r fields (value.Int n) is s = λ reached h. s h.0
  no_struct r fields (value.Bool b) is s = λ reached h. s h.0
  no_struct r fields (value.Text t) is s = λ reached h. s h.0
  no_struct r fields (value.Enumerated of name n) is s = λ reached h. s h.0
  no_struct r fields (value.Array items) is s = λ reached h. s h.0
  no_struct r fields value.Opaque is s = λ reached h. s h.0

  pub at_struct : (r : Type 0) (fields : List Field) (o p : Opened) (b : Bool) → o ≡ p → Tells r (MeetsInStruct types test fields o) b → Tells r (MeetsInStruct types test fields p) b
  at_struct r fields o p b e h = subst (λ (x : Opened). Tells r (MeetsInStruct types test fields x) b) e h

  pub named_met : (n : ℕ) (fields : List Field) (p : MemberValue) (f : Field) (b : Bool) → Some f ≡ member_named fields p.name
      → Tells (Enough types n f.kind) (Meets types test (opened p.value) (member f)) b → Tells (EnoughEach types n fields) (MeetsNamed types test fields p) b
  named_met n fields p f b is h =
      told (Enough types n f.kind) (EnoughEach types n fields) _ _ b (enough_named types n fields p.name f (sym is)) (λ m. (f, sym is, m))
      (λ m. subst (λ (x : Field). Meets types test (opened p.value) (member x)) (same_some (sym m.1 ∙ sym is)) m.2) h

  pub unnamed_met : (r : Type 0) (fields : List Field) (p : MemberValue) → None ≡ member_named fields p.name → r → MeetsNamed types test fields p → ⊥
  unnamed_met r fields p is reached m = let both : None ≡ Some _ = is ∙ m.1 in cc

  pub sized_member : (r : Type 0) (f : Field) (t : Target) (o : Opened) (b : Bool) → member f ≡ t → Tells r (Meets types test o t) b → Tells r (Meets types test o (member f)) b
  sized_member r f t o b is h = subst (λ (x : Target). Tells r (Meets types test o x) b) (sym is) h

-- ---- no test holds of a type by its kind

pub passes_kinds : (s : Sought) → PassesKinds (test_of s)
passes_kinds sought.Member (value.Int n) k = refl
passes_kinds sought.Member (value.Bool b) k = refl
passes_kinds sought.Member (value.Text t) k = refl
passes_kinds sought.Member (value.Enumerated of name n) k = refl
passes_kinds sought.Member (value.Array items) k = refl
passes_kinds sought.Member (value.Struct parts) k = refl
passes_kinds sought.Member value.Opaque k = refl
passes_kinds sought.Range (value.Int n) k = refl
passes_kinds sought.Range (value.Bool b) k = refl
passes_kinds sought.Range (value.Text t) k = refl
passes_kinds sought.Range (value.Enumerated of name n) k = refl
passes_kinds sought.Range (value.Array items) k = refl
passes_kinds sought.Range (value.Struct parts) k = refl
passes_kinds sought.Range value.Opaque k = refl
passes_kinds sought.Shape v k = refl
