-- What is made of a value in a type, from what is made of its parts.
use Rattle.std.proofs.Common.{◌≡◌, ◌↔◌, ℕ, zero, suc, ◌-◌, ℤ, Bool, true, false, cond, ◌&&◌, List, [], ◌∷◌, length, slice_get, Option, Some, None, refl, sym, ◌∙◌, subst}
use Rattle.std.specs.Prelude.{IsTrue, int_le, option_map, Result, Ok, Err, IfOk}
use Rattle.std.specs.List.{list_any}
use Rattle.std.specs.Str.{bytes_eq}
use Rattle.fp_base.specs.Same.{same}
use Rattle.fp_base.specs.declared.value.Value.{Value, Int, Enumerated}
use Rattle.fp_base.specs.declared.value.Value.TheOpen as value
use Rattle.fp_base.specs.declared.value.MemberValue.{MemberValue}
use Rattle.fp_base.proofs.Options.{same_some, none_some}
use Rattle.fp_base.proofs.Bools.{not_both}
use Rattle.fp_tables.specs.declared.kind.Kind.{Kind}
use Rattle.fp_tables.specs.declared.kind.Field.{Field}
use Rattle.fp_tables.specs.declared.kind.Constant.{Constant}
use Rattle.fp_type_sizes.specs.declared.written.WrittenType.{WrittenType}
use Rattle.fp_types.specs.declared.target.Rest.{Rest}
use Rattle.fp_types.specs.Converting.{Opened, opened, IsSingle, Target, integer, truth, words, array, struct, constants, opaque, of_kind, member, member_named, Becomes, number, numbered, truth_value, text, constant, part_by_part, in_each_part, in_each_member, BecomesInEach}
use Rattle.fp_types.specs.Making.{as_integer, as_truth, as_words, as_constant, items_of, parts_of, listed, structured, repeated, Suffices, SufficesEach, SufficesIn, OpensTo, IsTargetOf, IsMade, IsMadeOfEach, IsMadeOfPart, AreMadeInEach}
use Rattle.fp_types.proofs.Inverting.{integer_back, truth_back, words_back, constants_back, nothing_back, array_back, struct_back}

-- what steps reach enough for one
pub carried : (types : List WrittenType) (r s : Type 0) (o : Opened) (t : Target) (m : Option Value) → (s → r) → IsMade types r o t m → IsMade types s o t m
carried types r s o t (Some w) enough h = h
carried types r s o t None enough h = λ reached w k. h (enough reached) w k

module _ (types : List WrittenType) (r : Type 0) where
  -- ---- types without parts

  number_made : (low high n : ℤ) (b : Bool) → (int_le low n && int_le n high) ≡ b → IsMade types r (value.Int n) (integer low high) (cond b (Some (Int n)) None)
  number_made low high n true is = number is
  number_made low high n false is = λ reached w h. not_both (integer_back types low high h) is

  numbered_made : (of name : List ℕ) (low high n : ℤ) (b : Bool) → (int_le low n && int_le n high) ≡ b → IsMade types r (value.Enumerated of name n) (integer low high) (cond b (Some (Int n)) None)
  numbered_made of name low high n true is = numbered is
  numbered_made of name low high n false is = λ reached w h. not_both (integer_back types low high h) is

  pub integer_made : (low high : ℤ) (o : Opened) → IsMade types r o (integer low high) (as_integer low high o)
  integer_made low high (value.Int n) = number_made low high n (int_le low n && int_le n high) refl
  integer_made low high (value.Enumerated of name n) = numbered_made of name low high n (int_le low n && int_le n high) refl
  integer_made low high (value.Bool b) = λ reached w h. integer_back types low high h
  integer_made low high (value.Text t) = λ reached w h. integer_back types low high h
  integer_made low high (value.Array items) = λ reached w h. integer_back types low high h
  integer_made low high (value.Struct parts) = λ reached w h. integer_back types low high h
  integer_made low high value.Opaque = λ reached w h. integer_back types low high h

  pub truth_made : (o : Opened) → IsMade types r o truth (as_truth o)
  truth_made (value.Bool b) = truth_value
  truth_made (value.Int n) = λ reached w h. truth_back types h
  truth_made (value.Enumerated of name n) = λ reached w h. truth_back types h
  truth_made (value.Text t) = λ reached w h. truth_back types h
  truth_made (value.Array items) = λ reached w h. truth_back types h
  truth_made (value.Struct parts) = λ reached w h. truth_back types h
  truth_made value.Opaque = λ reached w h. truth_back types h

  pub words_made : (o : Opened) → IsMade types r o words (as_words o)
  words_made (value.Text t) = text
  words_made (value.Bool b) = λ reached w h. words_back types h
  words_made (value.Int n) = λ reached w h. words_back types h
  words_made (value.Enumerated of name n) = λ reached w h. words_back types h
  words_made (value.Array items) = λ reached w h. words_back types h
  words_made (value.Struct parts) = λ reached w h. words_back types h
  words_made value.Opaque = λ reached w h. words_back types h

  among_made : (cs : List Constant) (of name : List ℕ) (n : ℤ) (b : Bool) → list_any (λ (x : Constant). same x.value (Enumerated of name n)) cs ≡ b
      → IsMade types r (value.Enumerated of name n) (constants cs) (cond b (Some (Enumerated of name n)) None)
  among_made cs of name n true is = constant is
  among_made cs of name n false is = λ reached w h. not_both (constants_back types cs h) is

  pub constant_made : (cs : List Constant) (o : Opened) → IsMade types r o (constants cs) (as_constant cs o)
  constant_made cs (value.Enumerated of name n) = among_made cs of name n (list_any (λ (x : Constant). same x.value (Enumerated of name n)) cs) refl
  constant_made cs (value.Text t) = λ reached w h. constants_back types cs h
  constant_made cs (value.Bool b) = λ reached w h. constants_back types cs h
  constant_made cs (value.Int n) = λ reached w h. constants_back types cs h
  constant_made cs (value.Array items) = λ reached w h. constants_back types cs h
  constant_made cs (value.Struct parts) = λ reached w h. constants_back types cs h
  constant_made cs value.Opaque = λ reached w h. constants_back types cs h

  pub nothing_made : (o : Opened) → IsMade types r o opaque None
  nothing_made o = λ reached w h. nothing_back types h

  -- ---- arrays

  single_part : (size : ℕ) (k : Kind) (o : Opened) → IsSingle o → (w : Value) → Becomes types o (array size k) w → (v : Value) × Becomes types o (of_kind k) v
  single_part size k (value.Int n) s w h = let p = array_back types size k h in (p.1, p.2)
  single_part size k (value.Bool b) s w h = let p = array_back types size k h in (p.1, p.2)
  single_part size k (value.Text t) s w h = let p = array_back types size k h in (p.1, p.2)
  single_part size k (value.Enumerated of name n) s w h = let p = array_back types size k h in (p.1, p.2)
  single_part size k (value.Array items) s w h = absurd s
  single_part size k (value.Struct parts) s w h = absurd s
  single_part size k value.Opaque s w h = absurd s

  pub in_each_part_made : (size : ℕ) (k : Kind) (o : Opened) (m : Option Value) → IsSingle o → IsMade types r o (of_kind k) m → IsMade types r o (array size k) (option_map (repeated size) m)
  in_each_part_made size k o (Some w) s h = in_each_part s h
  in_each_part_made size k o None s h = λ reached w g. let p = single_part size k o s w g in h reached p.0 p.1

  pub part_by_part_made : (size : ℕ) (k : Kind) (items : List Value) (m : Option (List Value)) → length items ≡ size → IsMadeOfEach types r k items m
      → IsMade types r (value.Array items) (array size k) (option_map listed m)
  part_by_part_made size k items (Some ws) long h = part_by_part long h
  part_by_part_made size k items None long h = λ reached w g. let p = array_back types size k g in h reached p.1 p.2

  pub other_length : (size : ℕ) (k : Kind) (items : List Value) → (length items ≡ size → ⊥) → IsMade types r (value.Array items) (array size k) None
  other_length size k items differs = λ reached w g. differs (array_back types size k g).0

  pub items_are : (o : Opened) (items : List Value) → Some items ≡ items_of o → value.Array items ≡ o
  items_are (value.Array xs) items is = cc
  items_are (value.Int n) items is = absurd (cc)
  items_are (value.Bool b) items is = absurd (cc)
  items_are (value.Text t) items is = absurd (cc)
  items_are (value.Enumerated of name n) items is = absurd (cc)
  items_are (value.Struct parts) items is = absurd (cc)
  items_are value.Opaque items is = absurd (cc)

  pub no_array : (size : ℕ) (k : Kind) (o : Opened) → None ≡ items_of o → (IsSingle o → ⊥) → IsMade types r o (array size k) None
  no_array size k (value.Array items) is s = absurd (cc)
  no_array size k (value.Int n) is s = absurd (s tt)
  no_array size k (value.Bool b) is s = absurd (s tt)
  no_array size k (value.Text t) is s = absurd (s tt)
  no_array size k (value.Enumerated of name n) is s = absurd (s tt)
  no_array size k (value.Struct parts) is s = λ reached w g. (array_back types size k g).0
  no_array size k value.Opaque is s = λ reached w g. (array_back types size k g).0

  -- ---- structs

  single_members : (rest : Rest) (fields : List Field) (o : Opened) → IsSingle o → (w : Value) → Becomes types o (struct rest fields) w
      → (made : List MemberValue) × BecomesInEach types o fields made
  single_members rest fields (value.Int n) s w h = let p = struct_back types rest fields h in (p.1, p.2)
  single_members rest fields (value.Bool b) s w h = let p = struct_back types rest fields h in (p.1, p.2)
  single_members rest fields (value.Text t) s w h = let p = struct_back types rest fields h in (p.1, p.2)
  single_members rest fields (value.Enumerated of name n) s w h = let p = struct_back types rest fields h in (p.1, p.2)
  single_members rest fields (value.Array items) s w h = absurd s
  single_members rest fields (value.Struct parts) s w h = absurd s
  single_members rest fields value.Opaque s w h = absurd s

  pub in_each_member_made : (rest : Rest) (fields : List Field) (o : Opened) (m : Option (List MemberValue)) → IsSingle o → AreMadeInEach types r o fields m
      → IsMade types r o (struct rest fields) (option_map structured m)
  in_each_member_made rest fields o (Some made) s h = in_each_member s h
  in_each_member_made rest fields o None s h = λ reached w g. let p = single_members rest fields o s w g in h reached p.0 p.1

  pub parts_are : (o : Opened) (parts : List MemberValue) → Some parts ≡ parts_of o → value.Struct parts ≡ o
  parts_are (value.Struct xs) parts is = cc
  parts_are (value.Int n) parts is = absurd (cc)
  parts_are (value.Bool b) parts is = absurd (cc)
  parts_are (value.Text t) parts is = absurd (cc)
  parts_are (value.Enumerated of name n) parts is = absurd (cc)
  parts_are (value.Array items) parts is = absurd (cc)
  parts_are value.Opaque parts is = absurd (cc)

  pub no_struct : (rest : Rest) (fields : List Field) (o : Opened) → None ≡ parts_of o → (IsSingle o → ⊥) → IsMade types r o (struct rest fields) None
  no_struct rest fields (value.Struct parts) is s = absurd (cc)
  no_struct rest fields (value.Int n) is s = absurd (s tt)
  no_struct rest fields (value.Bool b) is s = absurd (s tt)
  no_struct rest fields (value.Text t) is s = absurd (s tt)
  no_struct rest fields (value.Enumerated of name n) is s = absurd (s tt)
  no_struct rest fields (value.Array items) is s = λ reached w g. (struct_back types rest fields g).0
  no_struct rest fields value.Opaque is s = λ reached w g. (struct_back types rest fields g).0

-- ---- carried along equations

pub same_made : (types : List WrittenType) (r : Type 0) (o : Opened) (t s : Target) (m n : Option Value) → t ≡ s → m ≡ n → IsMade types r o s n → IsMade types r o t m
same_made types r o t s m n e d h = subst (λ (x : Target). IsMade types r o x m) (sym e) (subst (λ (x : Option Value). IsMade types r o s x) (sym d) h)

pub integer_made_of : (types : List WrittenType) (r : Type 0) (low high below above : ℤ) (o : Opened) → below ≡ low → above ≡ high → IsMade types r o (integer low high) (as_integer below above o)
integer_made_of types r low high below above o e d =
    subst (λ (x : ℤ). IsMade types r o (integer low high) (as_integer x above o)) (sym e) (subst (λ (x : ℤ). IsMade types r o (integer low high) (as_integer low x o)) (sym d) (integer_made types r low high o))

pub same_value : (types : List WrittenType) (r : Type 0) (o p : Opened) (t : Target) (m : Option Value) → o ≡ p → IsMade types r o t m → IsMade types r p t m
same_value types r o p t m e h = subst (λ (x : Opened). IsMade types r x t m) e h

pub at_target : (types : List WrittenType) (defaults : List (Option Value)) (n : ℕ) (o : Opened) (t s : Target) (m : Option Value) → t ≡ s → IsMade types (SufficesIn types defaults n s) o s m → IsMade types (SufficesIn types defaults n t) o t m
at_target types defaults n o t s m e h = subst (λ (x : Target). IsMade types (SufficesIn types defaults n x) o x m) (sym e) h

pub made_some : (types : List WrittenType) (r : Type 0) (o : Opened) (t : Target) (m : Option Value) (w : Value) → m ≡ Some w → IsMade types r o t m → Becomes types o t w
made_some types r o t m w e h = subst (λ (x : Option Value). IsMade types r o t x) e h

pub made_none : (types : List WrittenType) (r : Type 0) (o : Opened) (t : Target) (m : Option Value) → m ≡ None → IsMade types r o t m → r → (w : Value) → Becomes types o t w → ⊥
made_none types r o t m e h = subst (λ (x : Option Value). IsMade types r o t x) e h

pub part_some : (types : List WrittenType) (r : Type 0) (fields : List Field) (p : MemberValue) (m : Option Value) (w : Value) → m ≡ Some w → IsMadeOfPart types r fields p m
    → (f : Field) × (member_named fields p.name ≡ Some f) × Becomes types (opened p.value) (member f) w
part_some types r fields p m w e h = subst (λ (x : Option Value). IsMadeOfPart types r fields p x) e h

pub part_none : (types : List WrittenType) (r : Type 0) (fields : List Field) (p : MemberValue) (m : Option Value) → m ≡ None → IsMadeOfPart types r fields p m
    → r → (f : Field) (w : Value) → member_named fields p.name ≡ Some f → Becomes types (opened p.value) (member f) w → ⊥
part_none types r fields p m e h = subst (λ (x : Option Value). IsMadeOfPart types r fields p x) e h

full_at : {ws : List WrittenType} {defaults : List (Option Value)} (n : ℕ) (fields : List Field) (name : List ℕ) (f : Field) → member_named fields name ≡ Some f → SufficesEach ws defaults n fields → Suffices ws defaults n f.kind
full_at n [] name f e h = none_some refl e
full_at {ws = ws} {defaults = defaults} n (g ∷ gs) name f e h = go (bytes_eq g.name name) e (λ is. full_at n gs name f is h.1)
  where
    go : (b : Bool) → cond b (Some g) (member_named gs name) ≡ Some f → (member_named gs name ≡ Some f → Suffices ws defaults n f.kind) → Suffices ws defaults n f.kind
    go true is rest = subst (λ (x : Field). Suffices ws defaults n x.kind) (same_some is) h.0
    go false is rest = rest is

pub full_field : {ws : List WrittenType} {defaults : List (Option Value)} (n : ℕ) (fields : List Field) (i : ℕ) (f : Field) → slice_get fields i ≡ Some f → SufficesEach ws defaults n fields → Suffices ws defaults n f.kind
full_field n [] i f e h = none_some refl e
full_field {ws = ws} {defaults = defaults} n (g ∷ gs) zero f e h = subst (λ (x : Field). Suffices ws defaults n x.kind) (same_some e) h.0
full_field n (g ∷ gs) (suc i) f e h = full_field n gs i f e h.1

pub named_made : (types : List WrittenType) (defaults : List (Option Value)) (n : ℕ) (fields : List Field) (p : MemberValue) (f : Field) (m : Option Value) → Some f ≡ member_named fields p.name
    → IsMade types (Suffices types defaults n f.kind) (opened p.value) (member f) m → IsMadeOfPart types (SufficesEach types defaults n fields) fields p m
named_made types defaults n fields p f (Some w) is h = (f, sym is, h)
named_made types defaults n fields p f None is h =
    λ reached g w e k. h (full_at n fields p.name f (sym is) reached) w (subst (λ (x : Field). Becomes types (opened p.value) (member x) w) (same_some (sym e ∙ sym is)) k)

pub unnamed_made : (types : List WrittenType) (r : Type 0) (fields : List Field) (p : MemberValue) → None ≡ member_named fields p.name → IsMadeOfPart types r fields p None
unnamed_made types r fields p is = λ reached f w e h. none_some (sym is) e

pub member_sized : (f : Field) (n : ℕ) → f.size ≡ Some n → member f ≡ array n f.kind
member_sized f n is = rw is refl

pub member_single : (f : Field) → f.size ≡ None → member f ≡ of_kind f.kind
member_single f is = rw is refl

pub becomes_made : (ws : List WrittenType) (defaults : List (Option Value)) (n : ℕ) (k : Kind) (o : Opened) (t : Target) (m : Option Value) → OpensTo ws k t
    → IsMade ws (SufficesIn ws defaults (n - 1) t) o t m → IsMade ws (Suffices ws defaults n k) o (of_kind k) m
becomes_made ws defaults n k o t (Some w) opens h = opens.up o w h
becomes_made ws defaults n k o t None opens h = λ full w b. h (opens.inside defaults n full) w (opens.down o w b)

pub target_some : (ws : List WrittenType) (k : Kind) (o : Option Target) (t : Target) → o ≡ Some t → IsTargetOf ws k o → OpensTo ws k t
target_some ws k o t e h = subst (λ (x : Option Target). IsTargetOf ws k x) e h

pub target_none : (ws : List WrittenType) (r : Type 0) (k : Kind) (o : Option Target) (v : Opened) → o ≡ None → IsTargetOf ws k o → IsMade ws r v (of_kind k) None
target_none ws r k o v e h = λ full w b. subst (λ (x : Option Target). IsTargetOf ws k x) e h v w b

pub not_single : {P : Type 0} (b : Bool) → b ≡ false → IsTrue b ↔ P → P → ⊥
not_single b is iff p = not_both (iff.1 p) is
