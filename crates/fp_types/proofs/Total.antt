-- Where each type is given, a value that breaks no rule in a type becomes something.
use Rattle.std.proofs.Common.{◌≡◌, ◌⊎◌, inl, inr, ℕ, zero, suc, Bool, true, false, cond, ◌&&◌, ◌||◌, List, [], ◌∷◌, length, replicate, slice_get, Option, Some, None, refl, sym, ap, ◌∙◌, subst}
use Rattle.std.specs.Prelude.{ℤ, int_le, nat_eq, is_none, find, option_map}
use Rattle.std.specs.List.{list_any}
use Rattle.std.specs.Str.{bytes_eq}
use Rattle.std.proofs.lemmas.Bool.Decides.{nat_tests}
use Rattle.std.proofs.Common.{arith}
use Rattle.std.proofs.lemmas.Bool.{not_from_false}
use Rattle.fp_base.specs.Same.{same}
use Rattle.fp_base.specs.declared.place.Place.{Place}
use Rattle.fp_base.specs.declared.refusal.Refusal.{Refusal}
use Rattle.fp_base.specs.declared.value.Value.{Value, Int, Bool as Truth, Text, Enumerated, Array, Struct, out-Value, out-roll-Value}
use Rattle.fp_base.specs.declared.value.Value.TheVariants.{rolls-Struct}
use Rattle.fp_base.specs.declared.value.Value.TheOpen as value
use Rattle.fp_base.specs.declared.value.MemberValue.{MemberValue}
use Rattle.fp_base.proofs.Options.{same_some, no_some}
use Rattle.fp_base.proofs.Bytes.{bytes_itself}
use Rattle.fp_tables.specs.declared.kind.Kind.{Kind}
use Rattle.fp_tables.specs.declared.kind.Kind.TheVariants as kind
use Rattle.fp_tables.specs.declared.kind.Form.{Form}
use Rattle.fp_tables.specs.declared.kind.Form.TheVariants as form
use Rattle.fp_tables.specs.declared.kind.Field.{Field}
use Rattle.fp_tables.specs.declared.kind.Constant.{Constant}
use Rattle.fp_tables.specs.declared.kind.TypeDef.{TypeDef}
use Rattle.fp_type_sizes.specs.declared.written.WrittenType.{WrittenType}
use Rattle.fp_type_sizes.specs.Sizes.{IsPlain, HasForm, IsOfSize, Measures, plain, named, MeasuresForm, abstract_, alias, array, struct, enum, MeasuresFields, no_field, field, MeasuresMember, one, many}
use Rattle.fp_type_sizes.proofs.OneSize.{one_form}
use Rattle.fp_types.specs.declared.target.Rest.{Rest}
use Rattle.fp_types.specs.declared.target.Rest.TheVariants.{OfStruct, OfMembers}
use Rattle.fp_types.specs.Converting.{Opened, opened, IsSingle, Target, integer, truth, words, constants, opaque, of_kind, plain_target, form_target, member_target, member, member_named, parts_in, part_for, value_named, Becomes, number, numbered, truth_value, text, constant, part_by_part, member_by_member, in_each_part, in_each_member, in_plain, in_named, EachBecomes, none, more, MembersBecome, no_part, part, BecomesInEach, no_member, in_member, Completes, given_here, left_out, in_struct, Default, of_each, plainly, by_form, by_value, Converts, DefaultIs}
use Rattle.fp_types.specs.Converting as convert
use Rattle.fp_types.specs.Faults.{Meets, lacks_member, is_outside, differs, Misfits, by_member, by_range, by_shape}
use Rattle.fp_types.specs.Faults as fault
use Rattle.fp_types.specs.WellWritten.{AllGiven}
use Rattle.fp_types.proofs.AllGiven.{given_at, type_there}
use Rattle.fp_types.proofs.Complete.{plain_default_is}
use Rattle.fp_types.proofs.Passed.{default_of_size}

-- ---- the parts of what is made of a struct

parts_are : (v : Value) (made : List MemberValue) → out-Value v ≡ value.Struct made → parts_in v ≡ made
parts_are v made is = rw is refl

parts_of_struct : (made : List MemberValue) → parts_in (Struct made) ≡ made
parts_of_struct made = parts_are (Struct made) made (ap out-Value (sym (rolls-Struct made)) ∙ out-roll-Value (value.Struct made))

abbrev Named : List MemberValue → Field → Type 0
Named made f = (w : Value) × (value_named made f.name ≡ Some w)

named_first : (g : Field) (w : Value) (made : List MemberValue) (f : Field) → (bytes_eq g.name f.name ≡ false → Named made f) → Named (part_for g w ∷ made) f
named_first g w made f later = go (bytes_eq g.name f.name) refl
  where
    go : (b : Bool) → bytes_eq g.name f.name ≡ b → (x : Value) × (option_map (λ (p : MemberValue). p.value) (cond (bytes_eq g.name f.name) (Some (part_for g w)) (find (λ (p : MemberValue). bytes_eq p.name f.name) made)) ≡ Some x)
    go true e = (w, ap (λ (b : Bool). option_map (λ (p : MemberValue). p.value) (cond b (Some (part_for g w)) (find (λ (p : MemberValue). bytes_eq p.name f.name) made))) e)
    go false e = let p = later e in (p.0, ap (λ (b : Bool). option_map (λ (p : MemberValue). p.value) (cond b (Some (part_for g w)) (find (λ (p : MemberValue). bytes_eq p.name f.name) made))) e ∙ p.1)

not_itself : {A : Type 0} (g f : Field) → g ≡ f → bytes_eq g.name f.name ≡ false → A
not_itself g f e h =
    let both : true ≡ false = sym (bytes_itself f.name) ∙ ap (λ (x : Field). bytes_eq x.name f.name) (sym e) ∙ h in
    absurd (cc)

module _ (ws : List WrittenType) where
  named_completes : {r : Rest} {given made : List MemberValue} {fs : List Field} → Completes ws r given fs made → (i : ℕ) (f : Field) → slice_get fs i ≡ Some f → Named made f
  named_completes convert.no_field i f e = no_some e
  named_completes (given_here {made = made} {f = g} {w = w} d c) zero f e = named_first g w made f (λ h. not_itself g f (same_some e) h)
  named_completes (given_here {made = made} {f = g} {w = w} d c) (suc i) f e = named_first g w made f (λ h. named_completes c i f e)
  named_completes (left_out {made = made} {f = g} {w = w} d l c) zero f e = named_first g w made f (λ h. not_itself g f (same_some e) h)
  named_completes (left_out {made = made} {f = g} {w = w} d l c) (suc i) f e = named_first g w made f (λ h. named_completes c i f e)

  named_each : {o : Opened} {made : List MemberValue} {fs : List Field} → BecomesInEach ws o fs made → (i : ℕ) (f : Field) → slice_get fs i ≡ Some f → Named made f
  named_each no_member i f e = no_some e
  named_each (in_member {f = g} {w = w} {made = made} h hs) zero f e = named_first g w made f (λ d. not_itself g f (same_some e) d)
  named_each (in_member {f = g} {w = w} {made = made} h hs) (suc i) f e = named_first g w made f (λ d. named_each hs i f e)

  in_parts : (made : List MemberValue) (f : Field) → Named made f → Named (parts_in (Struct made)) f
  in_parts made f h = subst (λ (ps : List MemberValue). Named ps f) (sym (parts_of_struct made)) h

  named_made : {o : Opened} {r : Rest} {fields : List Field} {w : Value} → Becomes ws o (convert.struct r fields) w → (i : ℕ) (f : Field) → slice_get fields i ≡ Some f → Named (parts_in w) f
  named_made (member_by_member {made = made} h c) i f e = in_parts made f (named_completes c i f e)
  named_made (in_each_member {made = made} s h) i f e = in_parts made f (named_each h i f e)

  named_default : {r : Rest} {fields : List Field} {w : Value} → Default ws (convert.struct r fields) w → (i : ℕ) (f : Field) → slice_get fields i ≡ Some f → Named (parts_in w) f
  named_default (of_each {made = made} c) i f e = in_parts made f (named_completes c i f e)

  at_form : {fields : List Field} {g : Form} {d : Value} → g ≡ form.Struct fields → Default ws (form_target OfMembers g) d → Default ws (convert.struct OfMembers fields) d
  at_form {d = d} e h = subst (λ (x : Form). Default ws (form_target OfMembers x) d) e h

  becomes_at : {o : Opened} {fields : List Field} {g : Form} {d : Value} → g ≡ form.Struct fields → Becomes ws o (form_target OfMembers g) d → Becomes ws o (convert.struct OfMembers fields) d
  becomes_at {o = o} {d = d} e h = subst (λ (x : Form). Becomes ws o (form_target OfMembers x) d) e h

  -- the default of a struct has a value for each of its members
  named_struct : (j : ℕ) (fields : List Field) (d : Value) → HasForm ws j (form.Struct fields) → DefaultIs ws (kind.Named j) d → (i : ℕ) (f : Field) → slice_get fields i ≡ Some f → Named (parts_in d) f
  named_struct j fields d h (plainly p x) i f e = absurd p
  named_struct j fields d h (by_form g s o x) i f e = named_default (at_form (one_form g h) x) i f e
  named_struct j fields d h (by_value g s o b) i f e = named_made (becomes_at (one_form g h) b) i f e

  -- ---- a value in a type

  pub data OneOf : (Opened → Target → Bool) → Type 0 where
    of_member : OneOf lacks_member
    of_range : OneOf is_outside
    of_shape : OneOf differs

  pub record Unfits (o : Opened) (t : Target) : Type 0 where
    pub test : Opened → Target → Bool
    pub one_of : OneOf test
    pub met : Meets ws test o t

  abbrev pub Made : Opened → Target → Type 0
  Made o t = (w : Value) × Becomes ws o t w

  shape : {o : Opened} {t : Target} → differs o t ≡ true → Unfits o t
  shape e = record { test = differs; one_of = of_shape; met = fault.here e }

  range : {o : Opened} {t : Target} → is_outside o t ≡ true → Unfits o t
  range e = record { test = is_outside; one_of = of_range; met = fault.here e }

  abbrev pub Total : Opened → Target → Type 0
  Total o t = Made o t ⊎ Unfits o t

  total_integer : (low high : ℤ) (o : Opened) → Total o (integer low high)
  total_integer low high (value.Int n) = go (int_le low n && int_le n high) refl
    where
      go : (b : Bool) → (int_le low n && int_le n high) ≡ b → Made (value.Int n) (integer low high) ⊎ Unfits (value.Int n) (integer low high)
      go true e = inl (Int n, number e)
      go false e = inr (range (not_from_false _ e))
  total_integer low high (value.Enumerated of name n) = go (int_le low n && int_le n high) refl
    where
      go : (b : Bool) → (int_le low n && int_le n high) ≡ b → Made (value.Enumerated of name n) (integer low high) ⊎ Unfits (value.Enumerated of name n) (integer low high)
      go true e = inl (Int n, numbered e)
      go false e = inr (range (not_from_false _ e))
  total_integer low high (value.Bool b) = inr (shape refl)
  total_integer low high (value.Text t) = inr (shape refl)
  total_integer low high (value.Array items) = inr (shape refl)
  total_integer low high (value.Struct parts) = inr (shape refl)
  total_integer low high value.Opaque = inr (shape refl)

  total_truth : (o : Opened) → Total o truth
  total_truth (value.Bool b) = inl (Truth b, truth_value)
  total_truth (value.Int n) = inr (shape refl)
  total_truth (value.Enumerated of name n) = inr (shape refl)
  total_truth (value.Text t) = inr (shape refl)
  total_truth (value.Array items) = inr (shape refl)
  total_truth (value.Struct parts) = inr (shape refl)
  total_truth value.Opaque = inr (shape refl)

  total_words : (o : Opened) → Total o words
  total_words (value.Text t) = inl (Text t, text)
  total_words (value.Int n) = inr (shape refl)
  total_words (value.Enumerated of name n) = inr (shape refl)
  total_words (value.Bool b) = inr (shape refl)
  total_words (value.Array items) = inr (shape refl)
  total_words (value.Struct parts) = inr (shape refl)
  total_words value.Opaque = inr (shape refl)

  total_constants : (cs : List Constant) (o : Opened) → Total o (constants cs)
  total_constants cs (value.Enumerated of name n) = go (list_any (λ (x : Constant). same x.value (Enumerated of name n)) cs) refl
    where
      go : (b : Bool) → list_any (λ (x : Constant). same x.value (Enumerated of name n)) cs ≡ b → Made (value.Enumerated of name n) (constants cs) ⊎ Unfits (value.Enumerated of name n) (constants cs)
      go true e = inl (Enumerated of name n, constant e)
      go false e = inr (shape (not_from_false _ e))
  total_constants cs (value.Int n) = inr (shape refl)
  total_constants cs (value.Bool b) = inr (shape refl)
  total_constants cs (value.Text t) = inr (shape refl)
  total_constants cs (value.Array items) = inr (shape refl)
  total_constants cs (value.Struct parts) = inr (shape refl)
  total_constants cs value.Opaque = inr (shape refl)

  total_plain : (k : Kind) → IsPlain k → (o : Opened) → Total o (plain_target k)
  total_plain kind.U8 p o = total_integer _ _ o
  total_plain kind.U16 p o = total_integer _ _ o
  total_plain kind.U32 p o = total_integer _ _ o
  total_plain kind.U64 p o = total_integer _ _ o
  total_plain kind.I8 p o = total_integer _ _ o
  total_plain kind.I16 p o = total_integer _ _ o
  total_plain kind.I32 p o = total_integer _ _ o
  total_plain kind.I64 p o = total_integer _ _ o
  total_plain kind.Bool p o = total_truth o
  total_plain (kind.Str size) p o = total_words o
  total_plain (kind.Named i) p o = absurd p

  through : {o : Opened} {s t : Target} → ((w : Value) → Becomes ws o s w → Becomes ws o t w) → ((test : Opened → Target → Bool) → Meets ws test o s → Meets ws test o t) → Total o s → Total o t
  through up met (inl (w, h)) = inl (w, up w h)
  through up met (inr u) = inr (record { test = u.test; one_of = u.one_of; met = met u.test u.met })

  -- ---- arrays

  abbrev UnfitsIn : Kind → List Value → Type 0
  UnfitsIn k items = (i : ℕ) × (v : Value) × (slice_get items i ≡ Some v) × Unfits (opened v) (of_kind k)

  total_items : (k : Kind) → ((o : Opened) → Total o (of_kind k)) → (items : List Value) → ((xs : List Value) × EachBecomes ws k items xs) ⊎ UnfitsIn k items
  total_items k each [] = inl ([], none)
  total_items k each (v ∷ vs) = go (each (opened v)) (total_items k each vs)
    where
      go : Made (opened v) (of_kind k) ⊎ Unfits (opened v) (of_kind k) → ((xs : List Value) × EachBecomes ws k vs xs) ⊎ UnfitsIn k vs → ((xs : List Value) × EachBecomes ws k (v ∷ vs) xs) ⊎ UnfitsIn k (v ∷ vs)
      go (inr u) rest = inr (0, v, refl, u)
      go (inl (w, h)) (inl (xs, hs)) = inl (w ∷ xs, more h hs)
      go (inl (w, h)) (inr (i, x, e, u)) = inr (suc i, x, e, u)

  equal_of : (m n : ℕ) → nat_eq m n ≡ true → m ≡ n
  equal_of m n e = grind (arith, nat_tests)

  single_array : (size : ℕ) (k : Kind) (o : Opened) → IsSingle o → Total o (of_kind k) → Total o (convert.array size k)
  single_array size k o s (inl (w, h)) = inl (Array (replicate size w), in_each_part s h)
  single_array size k o s (inr u) = inr (record { test = u.test; one_of = u.one_of; met = fault.single_in_part s u.met })

  total_array : (size : ℕ) (k : Kind) → ((o : Opened) → Total o (of_kind k)) → (o : Opened) → Total o (convert.array size k)
  total_array size k each (value.Array items) = go (nat_eq (length items) size) refl (total_items k each items)
    where
      go : (b : Bool) → nat_eq (length items) size ≡ b → ((xs : List Value) × EachBecomes ws k items xs) ⊎ UnfitsIn k items → Made (value.Array items) (convert.array size k) ⊎ Unfits (value.Array items) (convert.array size k)
      go false e rest = inr (shape (not_from_false _ e))
      go true e (inl (xs, hs)) = inl (Array xs, part_by_part (equal_of _ _ e) hs)
      go true e (inr (i, v, at, u)) = inr (record { test = u.test; one_of = u.one_of; met = fault.in_part i (equal_of _ _ e) at u.met })
  total_array size k each (value.Struct parts) = inr (shape refl)
  total_array size k each value.Opaque = inr (shape refl)
  total_array size k each (value.Int n) = single_array size k (value.Int n) tt (each (value.Int n))
  total_array size k each (value.Bool b) = single_array size k (value.Bool b) tt (each (value.Bool b))
  total_array size k each (value.Text t) = single_array size k (value.Text t) tt (each (value.Text t))
  total_array size k each (value.Enumerated of name n) = single_array size k (value.Enumerated of name n) tt (each (value.Enumerated of name n))

  -- ---- structs

  abbrev UnfitsBy : Opened → List Field → Type 0
  UnfitsBy o fields = (i : ℕ) × (f : Field) × (slice_get fields i ≡ Some f) × Unfits o (member f)

  abbrev UnfitsAt : List Field → List MemberValue → Type 0
  UnfitsAt fields ps = (i : ℕ) × (p : MemberValue) × (f : Field) × (slice_get ps i ≡ Some p) × (member_named fields p.name ≡ Some f) × Unfits (opened p.value) (member f)

  abbrev Lacks : List Field → List MemberValue → Type 0
  Lacks fields ps = list_any (λ (p : MemberValue). is_none (member_named fields p.name)) ps ≡ true

  abbrev TotalEach : List Field → Type 0
  TotalEach fields = (i : ℕ) (f : Field) → slice_get fields i ≡ Some f → (o : Opened) → Total o (member f)

  named_at : (fields : List Field) (name : List ℕ) (f : Field) → member_named fields name ≡ Some f → (i : ℕ) × (slice_get fields i ≡ Some f)
  named_at [] name f e = no_some e
  named_at (g ∷ gs) name f e = go (bytes_eq g.name name) e (λ h. named_at gs name f h)
    where
      go : (b : Bool) → cond b (Some g) (member_named gs name) ≡ Some f → (member_named gs name ≡ Some f → (i : ℕ) × (slice_get gs i ≡ Some f)) → (i : ℕ) × (slice_get (g ∷ gs) i ≡ Some f)
      go true h rest = (0, h)
      go false h rest = let p = rest h in (suc p.0, p.1)

  total_in_each : (fs : List Field) → TotalEach fs → (o : Opened) → ((made : List MemberValue) × BecomesInEach ws o fs made) ⊎ UnfitsBy o fs
  total_in_each [] each o = inl ([], no_member)
  total_in_each (f ∷ fs) each o = go (each 0 f refl o) (total_in_each fs (λ i g e. each (suc i) g e) o)
    where
      go : Made o (member f) ⊎ Unfits o (member f) → ((made : List MemberValue) × BecomesInEach ws o fs made) ⊎ UnfitsBy o fs → ((made : List MemberValue) × BecomesInEach ws o (f ∷ fs) made) ⊎ UnfitsBy o (f ∷ fs)
      go (inr u) rest = inr (0, f, refl, u)
      go (inl (w, h)) (inl (made, hs)) = inl (part_for f w ∷ made, in_member h hs)
      go (inl (w, h)) (inr (i, g, e, u)) = inr (suc i, g, e, u)

  total_parts : (fields : List Field) → TotalEach fields → (ps : List MemberValue) → ((given : List MemberValue) × MembersBecome ws fields ps given) ⊎ (Lacks fields ps ⊎ UnfitsAt fields ps)
  total_parts fields each [] = inl ([], no_part)
  total_parts fields each (p ∷ ps) = go (member_named fields p.name) refl (total_parts fields each ps)
    where
      lacking : (b c : Bool) → c ≡ true → (b || c) ≡ true
      lacking true c e = refl
      lacking false c e = e

      with_field : (f : Field) → member_named fields p.name ≡ Some f → Made (opened p.value) (member f) ⊎ Unfits (opened p.value) (member f)
          → ((given : List MemberValue) × MembersBecome ws fields ps given) ⊎ (Lacks fields ps ⊎ UnfitsAt fields ps)
          → ((given : List MemberValue) × MembersBecome ws fields (p ∷ ps) given) ⊎ (Lacks fields (p ∷ ps) ⊎ UnfitsAt fields (p ∷ ps))
      with_field f e (inr u) rest = inr (inr (0, p, f, refl, e, u))
      with_field f e (inl (w, h)) (inl (given, hs)) = inl (record { name = p.name; value = w } ∷ given, part e h hs)
      with_field f e (inl (w, h)) (inr (inl l)) = inr (inl (lacking (is_none (member_named fields p.name)) _ l))
      with_field f e (inl (w, h)) (inr (inr (i, q, g, at, d, u))) = inr (inr (suc i, q, g, at, d, u))

      go : (o : Option Field) → member_named fields p.name ≡ o → ((given : List MemberValue) × MembersBecome ws fields ps given) ⊎ (Lacks fields ps ⊎ UnfitsAt fields ps)
          → ((given : List MemberValue) × MembersBecome ws fields (p ∷ ps) given) ⊎ (Lacks fields (p ∷ ps) ⊎ UnfitsAt fields (p ∷ ps))
      go None e rest = inr (inl (rw e refl))
      go (Some f) e rest = let at = named_at fields p.name f e in with_field f e (each at.0 f at.1 (opened p.value)) rest

  -- the members that are left out, from the default of the struct
  completed : (j : ℕ) (fields : List Field) (d : Value) → HasForm ws j (form.Struct fields) → DefaultIs ws (kind.Named j) d → (given : List MemberValue) (fs : List Field)
      → ((i : ℕ) (f : Field) → slice_get fs i ≡ Some f → Named (parts_in d) f) → (made : List MemberValue) × Completes ws (OfStruct j) given fs made
  completed j fields d h x given [] all = ([], convert.no_field)
  completed j fields d h x given (f ∷ fs) all = go (value_named given f.name) refl (all 0 f refl) (completed j fields d h x given fs (λ i g e. all (suc i) g e))
    where
      go : (o : Option Value) → value_named given f.name ≡ o → (w : Value) × (value_named (parts_in d) f.name ≡ Some w) → (made : List MemberValue) × Completes ws (OfStruct j) given fs made
          → (made : List MemberValue) × Completes ws (OfStruct j) given (f ∷ fs) made
      go (Some w) e left (made, c) = (part_for f w ∷ made, given_here e c)
      go None e (w, l) (made, c) = (part_for f w ∷ made, left_out e (in_struct x l) c)

  single_struct : (r : Rest) (fields : List Field) → TotalEach fields → (o : Opened) → IsSingle o → Total o (convert.struct r fields)
  single_struct r fields each o s = go (total_in_each fields each o)
    where
      go : ((made : List MemberValue) × BecomesInEach ws o fields made) ⊎ UnfitsBy o fields → Made o (convert.struct r fields) ⊎ Unfits o (convert.struct r fields)
      go (inl (made, h)) = inl (Struct made, in_each_member s h)
      go (inr (i, f, e, u)) = inr (record { test = u.test; one_of = u.one_of; met = fault.single_in_member i s e u.met })

  -- where the rest has all that a struct value leaves out
  abbrev pub AllCompleted : Rest → List Field → Type 0
  AllCompleted r fields = (given : List MemberValue) → (made : List MemberValue) × Completes ws r given fields made

  total_struct : (r : Rest) (fields : List Field) → AllCompleted r fields → TotalEach fields → (o : Opened) → Total o (convert.struct r fields)
  total_struct r fields all each (value.Struct parts) = go (total_parts fields each parts)
    where
      go : ((given : List MemberValue) × MembersBecome ws fields parts given) ⊎ (Lacks fields parts ⊎ UnfitsAt fields parts)
          → Made (value.Struct parts) (convert.struct r fields) ⊎ Unfits (value.Struct parts) (convert.struct r fields)
      go (inl (given, hs)) = let c = all given in inl (Struct c.0, member_by_member hs c.1)
      go (inr (inl l)) = inr (record { test = lacks_member; one_of = of_member; met = fault.here l })
      go (inr (inr (i, p, f, at, e, u))) = inr (record { test = u.test; one_of = u.one_of; met = fault.in_member i at e u.met })
  total_struct r fields all each (value.Array items) = inr (shape refl)
  total_struct r fields all each value.Opaque = inr (shape refl)
  total_struct r fields all each (value.Int n) = single_struct r fields each (value.Int n) tt
  total_struct r fields all each (value.Bool b) = single_struct r fields each (value.Bool b) tt
  total_struct r fields all each (value.Text t) = single_struct r fields each (value.Text t) tt
  total_struct r fields all each (value.Enumerated of name n) = single_struct r fields each (value.Enumerated of name n) tt

  total_opaque : (o : Opened) → Total o opaque
  total_opaque o = inr (shape refl)

  -- ---- types

  -- a default, and what each value becomes or where it doesn't fit
  abbrev pub BothIn : Target → Type 0
  BothIn t = ((w : Value) × Default ws t w) × ((o : Opened) → Total o t)

  -- the same of what stands in a form
  abbrev pub BothInForm : Form → Type 0
  BothInForm form.Abstract = Unit {0}
  BothInForm (form.Alias k) = BothIn (of_kind k)
  BothInForm (form.Array size k format) = BothIn (of_kind k)
  BothInForm (form.Struct fields) = (i : ℕ) (f : Field) → slice_get fields i ≡ Some f → BothIn (member f)
  BothInForm (form.Enum k cs) = Unit {0}

  plain_has : (k : Kind) → IsPlain k → (w : Value) × Default ws (of_kind k) w
  plain_has kind.U8 p = (_, plain_default_is ws kind.U8 refl)
  plain_has kind.U16 p = (_, plain_default_is ws kind.U16 refl)
  plain_has kind.U32 p = (_, plain_default_is ws kind.U32 refl)
  plain_has kind.U64 p = (_, plain_default_is ws kind.U64 refl)
  plain_has kind.I8 p = (_, plain_default_is ws kind.I8 refl)
  plain_has kind.I16 p = (_, plain_default_is ws kind.I16 refl)
  plain_has kind.I32 p = (_, plain_default_is ws kind.I32 refl)
  plain_has kind.I64 p = (_, plain_default_is ws kind.I64 refl)
  plain_has kind.Bool p = (_, plain_default_is ws kind.Bool refl)
  plain_has (kind.Str size) p = (_, plain_default_is ws (kind.Str size) refl)
  plain_has (kind.Named i) p = absurd p

  plain_both : (k : Kind) → IsPlain k → BothIn (of_kind k)
  plain_both k p = (plain_has k p, λ o. through (λ w h. in_plain p h) (λ test m. fault.in_plain p m) (total_plain k p o))

  many_both : (size : ℕ) (k : Kind) → BothIn (of_kind k) → BothIn (convert.array size k)
  many_both size k b = ((Array (replicate size b.0.0), convert.repeated b.0.1), λ o. total_array size k b.1 o)

  pub total_form : (r : Rest) (f : Form) → ((fields : List Field) → f ≡ form.Struct fields → AllCompleted r fields) → BothInForm f → (o : Opened) → Total o (form_target r f)
  total_form r form.Abstract all parts o = total_opaque o
  total_form r (form.Alias k) all parts o = parts.1 o
  total_form r (form.Array size k format) all parts o = total_array size k parts.1 o
  total_form r (form.Struct fields) all parts o = total_struct r fields (all fields refl) (λ i f e. (parts i f e).1) o
  total_form r (form.Enum k cs) all parts o = total_constants cs o

  -- where a type is of size and has a default if what stands in it has
  module _ (settled : (i : ℕ) (f : Form) → HasForm ws i f → BothInForm f → IsOfSize ws (kind.Named i) × ((d : Value) × DefaultIs ws (kind.Named i) d)) where
    named_both : (i : ℕ) (f : Form) → HasForm ws i f → BothInForm f → BothIn (of_kind (kind.Named i))
    named_both i f h parts =
        let s = settled i f h parts in (
          s.1,
          λ o. through (λ w b. in_named h s.0 b) (λ test x. fault.in_named h s.0 x)
              (total_form (OfStruct i) f
              (λ fields is given.
              let g = subst (λ (x : Form). HasForm ws i x) is h in
              completed i fields s.1.0 g s.1.1 given fields (named_struct i fields s.1.0 g s.1.1)) parts o),
        )

    mutual
      pub both : {k : Kind} {a b : ℕ} → Measures ws k a b → BothIn (of_kind k)
      both (plain {k = k} p) = plain_both k p
      both (named {i = i} {f = f} h m) = named_both i f h (both_form m)

      both_form : {f : Form} {a b : ℕ} → MeasuresForm ws f a b → BothInForm f
      both_form abstract_ = tt
      both_form (alias m) = both m
      both_form (array m) = both m
      both_form (struct m) = both_fields m
      both_form (enum h m) = tt

      both_fields : {fs : List Field} {a b : ℕ} → MeasuresFields ws fs a b → (i : ℕ) (f : Field) → slice_get fs i ≡ Some f → BothIn (member f)
      both_fields no_field i f e = no_some e
      both_fields (field {f = g} m ms) zero f e = subst (λ (x : Field). BothIn (member x)) (same_some e) (both_member m)
      both_fields (field m ms) (suc i) f e = both_fields ms i f e

      both_member : {s : Option ℕ} {k : Kind} {a b : ℕ} → MeasuresMember ws s k a b → BothIn (member_target s k)
      both_member (one m) = both m
      both_member (many {size = size} {k = k} m) = many_both size k (both m)

  pub not_unfit : (place : Place) (o : Opened) (t : Target) → ((f : Refusal) → Misfits ws place o t f → ⊥) → Unfits o t → ⊥
  not_unfit place o t never u = go u.test u.one_of u.met
    where
      go : (test : Opened → Target → Bool) → OneOf test → Meets ws test o t → ⊥
      go test of_member m = never _ (by_member m)
      go test of_range m = never _ (by_range (λ l. never _ (by_member l)) m)
      go test of_shape m = never _ (by_shape (λ l. never _ (by_member l)) (λ r. never _ (by_range (λ l. never _ (by_member l)) r)) m)

  -- where each type is given
  module _ (types : List TypeDef) (are : AllGiven ws types) where
    given_settled : (i : ℕ) (f : Form) → HasForm ws i f → BothInForm f → IsOfSize ws (kind.Named i) × ((d : Value) × DefaultIs ws (kind.Named i) d)
    given_settled i f h parts =
        let p = type_there ws types are i f h in
        let d = (given_at ws types are i p.0 p.1).1 in
        (default_of_size ws i p.0.default d, (p.0.default, d))

    pub converts_or_breaks : (place : Place) (v : Value) (k : Kind) → IsOfSize ws k → ((f : Refusal) → Misfits ws place (opened v) (of_kind k) f → ⊥) → (w : Value) × Converts ws v k w
    converts_or_breaks place v k s never = go ((both given_settled s.2).1 (opened v))
      where
        go : Made (opened v) (of_kind k) ⊎ Unfits (opened v) (of_kind k) → (w : Value) × Converts ws v k w
        go (inl p) = p
        go (inr u) = absurd (not_unfit place (opened v) (of_kind k) never u)
