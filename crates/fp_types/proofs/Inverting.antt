-- What a value is that becomes something in a type.
use Rattle.std.proofs.Common.{◌≡◌, ℕ, ℤ, true, List, length}
use Rattle.std.specs.List.{list_any}
use Rattle.fp_base.specs.Same.{same}
use Rattle.fp_base.specs.declared.value.Value.{Value, Enumerated}
use Rattle.fp_base.specs.declared.value.Value.TheOpen as value
use Rattle.fp_base.specs.declared.value.MemberValue.{MemberValue}
use Rattle.fp_tables.specs.declared.kind.Kind.{Kind}
use Rattle.fp_tables.specs.declared.kind.Field.{Field}
use Rattle.fp_tables.specs.declared.kind.Constant.{Constant}
use Rattle.fp_type_sizes.specs.declared.written.WrittenType.{WrittenType}
use Rattle.fp_types.specs.declared.target.Rest.{Rest}
use Rattle.fp_types.specs.Converting.{Opened, IsSingle, IsWithin, Target, integer, truth, words, array, struct, constants, opaque, of_kind, Becomes, number, numbered, truth_value, text, constant, part_by_part, member_by_member, in_each_part, in_each_member, in_plain, in_named, EachBecomes, MembersBecome, BecomesInEach, Completes}

module _ (types : List WrittenType) where
  -- ---- types without parts

  abbrev pub InInteger : ℤ → ℤ → Opened → Type 0
  InInteger low high (value.Int n) = IsWithin low high n
  InInteger low high (value.Enumerated of name n) = IsWithin low high n
  InInteger low high _ = ⊥

  pub integer_back : {o : Opened} {w : Value} (low high : ℤ) → Becomes types o (integer low high) w → InInteger low high o
  integer_back low high (number h) = h
  integer_back low high (numbered h) = h

  abbrev pub InTruth : Opened → Type 0
  InTruth (value.Bool b) = Unit {0}
  InTruth _ = ⊥

  pub truth_back : {o : Opened} {w : Value} → Becomes types o truth w → InTruth o
  truth_back truth_value = tt

  abbrev pub InWords : Opened → Type 0
  InWords (value.Text t) = Unit {0}
  InWords _ = ⊥

  pub words_back : {o : Opened} {w : Value} → Becomes types o words w → InWords o
  words_back text = tt

  abbrev pub InConstants : List Constant → Opened → Type 0
  InConstants cs (value.Enumerated of name n) = list_any (λ (x : Constant). same x.value (Enumerated of name n)) cs ≡ true
  InConstants cs _ = ⊥

  pub constants_back : {o : Opened} {w : Value} (cs : List Constant) → Becomes types o (constants cs) w → InConstants cs o
  constants_back cs (constant h) = h

  abbrev HasRule : Target → Type 0
  HasRule opaque = ⊥
  HasRule _ = Unit {0}

  has_rule : {o : Opened} {t : Target} {w : Value} → Becomes types o t w → HasRule t
  has_rule (number h) = tt
  has_rule (numbered h) = tt
  has_rule truth_value = tt
  has_rule text = tt
  has_rule (constant h) = tt
  has_rule (part_by_part e h) = tt
  has_rule (member_by_member h hs) = tt
  has_rule (in_each_part s h) = tt
  has_rule (in_each_member s h) = tt
  has_rule (in_plain p h) = tt
  has_rule (in_named f s h) = tt

  pub nothing_back : {o : Opened} {w : Value} → Becomes types o opaque w → ⊥
  nothing_back h = has_rule h

  -- ---- the others

  abbrev pub InArray : ℕ → Kind → Opened → Type 0
  InArray size k (value.Array items) = (length items ≡ size) × (ws : List Value) × EachBecomes types k items ws
  InArray size k o = IsSingle o × (w : Value) × Becomes types o (of_kind k) w

  single_array : (size : ℕ) (k : Kind) (o : Opened) (w : Value) → IsSingle o → Becomes types o (of_kind k) w → InArray size k o
  single_array size k (value.Array items) w s h = absurd s
  single_array size k (value.Int n) w s h = (s, w, h)
  single_array size k (value.Bool b) w s h = (s, w, h)
  single_array size k (value.Text t) w s h = (s, w, h)
  single_array size k (value.Enumerated of name n) w s h = (s, w, h)
  single_array size k (value.Struct parts) w s h = absurd s
  single_array size k value.Opaque w s h = absurd s

  pub array_back : (size : ℕ) (k : Kind) {o : Opened} {w : Value} → Becomes types o (array size k) w → InArray size k o
  array_back size k (part_by_part e h) = (e, _, h)
  array_back size k {o = o} (in_each_part s h) = single_array size k o _ s h

  abbrev pub InStruct : Rest → List Field → Opened → Type 0
  InStruct rest fields (value.Struct parts) = (given : List MemberValue) × (made : List MemberValue) × MembersBecome types fields parts given × Completes types rest given fields made
  InStruct rest fields o = IsSingle o × (made : List MemberValue) × BecomesInEach types o fields made

  single_struct : (rest : Rest) (fields : List Field) (o : Opened) (made : List MemberValue) → IsSingle o → BecomesInEach types o fields made → InStruct rest fields o
  single_struct rest fields (value.Array items) w s h = absurd s
  single_struct rest fields (value.Int n) w s h = (s, w, h)
  single_struct rest fields (value.Bool b) w s h = (s, w, h)
  single_struct rest fields (value.Text t) w s h = (s, w, h)
  single_struct rest fields (value.Enumerated of name n) w s h = (s, w, h)
  single_struct rest fields (value.Struct parts) w s h = absurd s
  single_struct rest fields value.Opaque w s h = absurd s

  pub struct_back : (rest : Rest) (fields : List Field) {o : Opened} {w : Value} → Becomes types o (struct rest fields) w → InStruct rest fields o
  struct_back rest fields (member_by_member h hs) = (_, _, h, hs)
  struct_back rest fields {o = o} (in_each_member s h) = single_struct rest fields o _ s h
