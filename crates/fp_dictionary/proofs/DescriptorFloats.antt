-- What a dictionary says has no float.
use Rattle.std.proofs.Common.{◌≡◌, ℕ, List, [], ◌∷◌, ◌||◌, Bool, true, false, Option, Some, None, Ordering, Less, Equal, Greater, nat_cmp, map, cond, refl, ap, ◌∙◌}
use Rattle.std.specs.Prelude.{ℤ, pos, negsuc, nat_lt, ◌^◌}
use Rattle.std.specs.Ordering.{match_ordering}
use Rattle.std.specs.Cmp.Lexicographic.{slice_cmp}
use Rattle.std.specs.List.{AllByRecursion as Each, enumerate_from}
use Rattle.fp_base.proofs.Lists.{each_append, each_mapped, each_of_any}
use Rattle.fp_base.proofs.Bools.{neither}
use Rattle.fp_base.specs.Rendered.{number_of}
use Rattle.fp_base.specs.declared.value.Value.{Value, Int, Bool as Truth, Text, Enumerated, Array', Struct', Opaque, Row_of-Value, more_of-Value, end_of-Value}
use Rattle.fp_base.specs.declared.value.Value.TheBlock as block
use Rattle.fp_tables.specs.declared.kind.Constant.{Constant}
use Rattle.fp_tables.specs.declared.kind.Field.{Field}
use Rattle.fp_tables.specs.declared.kind.Form.{Form}
use Rattle.fp_tables.specs.declared.kind.Form.TheVariants as form
use Rattle.fp_tables.specs.declared.kind.Kind.{Kind}
use Rattle.fp_tables.specs.declared.kind.Kind.TheVariants as kind
use Rattle.fp_tables.specs.declared.kind.TypeDef.{TypeDef}
use Rattle.serde_json.specs.Data.{Data, null, number, unsigned, negative, Members, no_members, member, put}
use Rattle.serde_json.specs.Written.{has_float, items_have_float, members_have_float}
use Rattle.fp_dictionary.specs.Objects.{Entry, with_entries, object_of, list_of, annotation}
use Rattle.fp_dictionary.specs.Values.{number_data, value_data, items_data, parts_data}
use Rattle.fp_dictionary.specs.Types.{descriptor, underlying, constant_entries, enumerated_data, size_entries, member_entries, member_data, member_entry, members_data, form_entries, type_entries, type_data}

abbrev pub NoFloat : Data → Type 0
NoFloat d = has_float d ≡ false

-- an entry that has none
abbrev pub NoFloatAt : Entry → Type 0
NoFloatAt e = has_float e.1 ≡ false

by_order : (o : Ordering) (a b c : Members) → members_have_float a ≡ false → members_have_float b ≡ false → members_have_float c ≡ false → members_have_float (match_ordering o a b c) ≡ false
by_order Less a b c x y z = x
by_order Equal a b c x y z = y
by_order Greater a b c x y z = z

put_no_float : (k : List ℕ) (d : Data) (ms : Members) → has_float d ≡ false → members_have_float ms ≡ false → members_have_float (put k d ms) ≡ false
put_no_float k d no_members x h = ap (λ b. b || false) x
put_no_float k d (member l e ms) x h =
    let both = neither (has_float e) (members_have_float ms) h in
    by_order (slice_cmp nat_cmp k l) _ _ _ (ap (λ b. b || (has_float e || members_have_float ms)) x ∙ h) (ap (λ b. b || members_have_float ms) x ∙ both.1)
    (ap (λ b. b || members_have_float (put k d ms)) both.0 ∙ put_no_float k d ms x both.1)

with_entries_no_float : (es : List Entry) (ms : Members) → Each NoFloatAt es → members_have_float ms ≡ false → members_have_float (with_entries es ms) ≡ false
with_entries_no_float [] ms h x = x
with_entries_no_float (e ∷ es) ms h x = with_entries_no_float es _ h.1 (put_no_float e.0 e.1 ms h.0 x)

pub object_no_float : (es : List Entry) → Each NoFloatAt es → has_float (object_of es) ≡ false
object_no_float es h = with_entries_no_float es no_members h refl

pub list_no_float : (ds : List Data) → Each NoFloat ds → has_float (list_of ds) ≡ false
list_no_float [] h = refl
list_no_float (d ∷ ds) h = ap (λ b. b || has_float (list_of ds)) h.0 ∙ list_no_float ds h.1

pub annotation_no_float : (note : List ℕ) → Each NoFloatAt (annotation note)
annotation_no_float [] = tt
annotation_no_float (b ∷ bs) = (refl, tt)

one_of : (b : Bool) (d e : Data) → has_float d ≡ false → has_float e ≡ false → has_float (cond b d e) ≡ false
one_of true d e h k = h
one_of false d e h k = k

pub number_no_float : (n : ℤ) → has_float (number_data n) ≡ false
number_no_float (pos n) = one_of (nat_lt n (2 ^ 64)) (number (unsigned n)) null refl refl
number_no_float (negsuc n) = one_of (nat_lt n (2 ^ 63)) (number (negative (negsuc n))) null refl refl

mutual
  pub value_no_float : (v : Value) → has_float (value_data v) ≡ false
  value_no_float (Int n) = number_no_float n
  value_no_float (Truth b) = refl
  value_no_float (Text s) = refl
  value_no_float (Enumerated e c n) = refl
  value_no_float (Array' m vs) = items_no_float vs
  value_no_float (Struct' m ps) = parts_no_float ps no_members refl
  value_no_float Opaque = refl

  items_no_float : {m : _} (vs : Row_of-Value m) → items_have_float (items_data vs) ≡ false
  items_no_float end_of-Value = refl
  items_no_float (more_of-Value v vs) = ap (λ b. b || items_have_float (items_data vs)) (value_no_float v) ∙ items_no_float vs

  parts_no_float : {m : _} (ps : block.Row_of-MemberValue m) (ms : Members) → members_have_float ms ≡ false → members_have_float (parts_data ps ms) ≡ false
  parts_no_float block.end_of-MemberValue ms h = h
  parts_no_float (block.more_of-MemberValue n v ps) ms h = parts_no_float ps _ (put_no_float n (value_data v) ms (value_no_float v) h)

size_no_float : (size : Option ℕ) → Each NoFloatAt (size_entries size)
size_no_float None = tt
size_no_float (Some n) = (refl, tt)

constant_no_float : (c : Constant) → has_float (enumerated_data c) ≡ false
constant_no_float c = object_no_float (constant_entries c) (refl, (number_no_float (number_of c.value), annotation_no_float c.note))

module _ (types : List TypeDef) where
  pub descriptor_no_float : (k : Kind) → has_float (descriptor types k) ≡ false
  descriptor_no_float kind.U8 = refl
  descriptor_no_float kind.U16 = refl
  descriptor_no_float kind.U32 = refl
  descriptor_no_float kind.U64 = refl
  descriptor_no_float kind.I8 = refl
  descriptor_no_float kind.I16 = refl
  descriptor_no_float kind.I32 = refl
  descriptor_no_float kind.I64 = refl
  descriptor_no_float kind.Bool = refl
  descriptor_no_float (kind.Str size) = refl
  descriptor_no_float (kind.Named k) = refl

  member_no_float : (p : ℕ × Field) → has_float (member_data types p) ≡ false
  member_no_float p =
      object_no_float (member_entries types p) (descriptor_no_float p.1.kind, (refl, each_append NoFloatAt (size_entries p.1.size) (annotation p.1.note) (size_no_float p.1.size) (annotation_no_float p.1.note)))

  members_no_float : (fields : List Field) → has_float (members_data types fields) ≡ false
  members_no_float fields =
      object_no_float (map (member_entry types) (enumerate_from 0 fields)) (each_mapped NoFloatAt (member_entry types) (enumerate_from 0 fields) (each_of_any _ member_no_float (enumerate_from 0 fields)))

  constants_no_float : (constants : List Constant) → has_float (list_of (map enumerated_data constants)) ≡ false
  constants_no_float constants = list_no_float (map enumerated_data constants) (each_mapped NoFloat enumerated_data constants (each_of_any _ constant_no_float constants))

  form_no_float : (d : TypeDef) (f : Form) → Each NoFloatAt (form_entries types d f)
  form_no_float d form.Abstract = tt
  form_no_float d (form.Alias target) = (refl, (descriptor_no_float target, (descriptor_no_float (underlying types target), tt)))
  form_no_float d (form.Array size element format) = (refl, (refl, (descriptor_no_float element, (value_no_float d.default, tt))))
  form_no_float d (form.Struct fields) = (refl, (members_no_float fields, (value_no_float d.default, tt)))
  form_no_float d (form.Enum repr constants) = (refl, (descriptor_no_float repr, (constants_no_float constants, (value_no_float d.default, tt))))

  pub type_no_float : (d : TypeDef) → has_float (type_data types d) ≡ false
  type_no_float d = object_no_float (type_entries types d) (refl, each_append NoFloatAt (form_entries types d d.form) (annotation d.note) (form_no_float d d.form) (annotation_no_float d.note))
