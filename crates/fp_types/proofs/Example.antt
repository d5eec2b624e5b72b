-- A struct whose own default doesn't convert, and an array of it that gives every member.
use Rattle.std.proofs.Common.{◌≡◌, List, [], ◌∷◌, None, refl, sym, ap, ◌∙◌, subst, true, false, arith}
use Rattle.std.specs.Prelude.{ℤ, pos}
use Rattle.fp_base.specs.declared.value.Value.{Value, Int, Array, Struct, out-Value, out-roll-Value}
use Rattle.fp_base.specs.declared.value.Value.TheVariants.{rolls-Int, rolls-Array, rolls-Struct}
use Rattle.fp_base.specs.declared.value.Value.TheOpen as value
use Rattle.fp_base.specs.declared.value.MemberValue.{MemberValue}
use Rattle.fp_base.proofs.Options.{same_some}
use Rattle.fp_tables.specs.declared.kind.Field.{Field}
use Rattle.fp_types.proofs.Inverting.{integer_back, struct_back}
use Rattle.fp_tables.specs.declared.kind.Kind.TheVariants as kind
use Rattle.fp_tables.specs.declared.kind.Form.TheVariants as form
use Rattle.fp_types.specs.declared.target.Rest.TheVariants.{OfStruct, OfMembers}
use Rattle.fp_type_sizes.specs.Sizes.{HasForm, IsOfSize, plain, named, array, struct, no_field, field, one}
use Rattle.fp_types.specs.Converting.{HasOwn, Becomes, number, part_by_part, member_by_member, in_plain, in_named, none, more, MembersBecome, no_part, part, given_here, Default, DefaultIs, by_value, of_kind, member, member_named, Opened, opened}
use Rattle.fp_types.specs.Converting as convert
use Rattle.fp_types.specs.Example.{example, the_struct, the_array, x_field, with_x, second_default}
use Rattle.fp_types.proofs.Passed.{by_value_back}

struct_form : HasForm example 0 (form.Struct (x_field ∷ []))
struct_form = record { written = the_struct; here = refl; form = refl }

array_form : HasForm example 1 (form.Array 1 (kind.Named 0) None)
array_form = record { written = the_array; here = refl; form = refl }

struct_size : IsOfSize example (kind.Named 0)
struct_size = (1, 2, named struct_form (struct (field (one (plain tt)) no_field)), omega arith, omega arith)

array_size : IsOfSize example (kind.Named 1)
array_size = (1, 3, named array_form (array (named struct_form (struct (field (one (plain tt)) no_field)))), omega arith, omega arith)

opens_int : (n : ℤ) → opened (Int n) ≡ value.Int n
opens_int n = ap out-Value (sym (rolls-Int n)) ∙ out-roll-Value (value.Int n)

opens_list : (vs : List Value) → opened (Array vs) ≡ value.Array vs
opens_list vs = ap out-Value (sym (rolls-Array vs)) ∙ out-roll-Value (value.Array vs)

opens_parts : (ps : List MemberValue) → opened (Struct ps) ≡ value.Struct ps
opens_parts ps = ap out-Value (sym (rolls-Struct ps)) ∙ out-roll-Value (value.Struct ps)

-- a value by what it is outermost
at_opened : {t : convert.Target} {w : Value} (v : Value) (o : Opened) → opened v ≡ o → Becomes example o t w → Becomes example (opened v) t w
at_opened {t = t} {w = w} v o e h = subst (λ (x : Opened). Becomes example x t w) (sym e) h

from_opened : {t : convert.Target} {w : Value} (v : Value) (o : Opened) → opened v ≡ o → Becomes example (opened v) t w → Becomes example o t w
from_opened {t = t} {w = w} v o e h = subst (λ (x : Opened). Becomes example x t w) e h

one_number : Becomes example (opened (Int (pos 1))) (of_kind kind.U8) (Int (pos 1))
one_number = at_opened (Int (pos 1)) (value.Int (pos 1)) (opens_int (pos 1)) (in_plain tt (number refl))

given : MembersBecome example (x_field ∷ []) (record { name = 120 ∷ []; value = Int (pos 1) } ∷ []) (record { name = 120 ∷ []; value = Int (pos 1) } ∷ [])
given = part refl one_number no_part

one_member : Becomes example (opened (with_x (pos 1))) (convert.struct (OfStruct 0) (x_field ∷ [])) (with_x (pos 1))
one_member = at_opened (with_x (pos 1)) (value.Struct _) (opens_parts _) (member_by_member given (given_here refl convert.no_field))

one_array : Becomes example (opened second_default) (convert.array 1 (kind.Named 0)) second_default
one_array = at_opened second_default (value.Array (with_x (pos 1) ∷ [])) (opens_list (with_x (pos 1) ∷ [])) (part_by_part refl (more (in_named struct_form struct_size one_member) none))

pub second : DefaultIs example (kind.Named 1) second_default
second = by_value array_form array_size (record { written = the_array; here = refl; own = refl }) one_array

from_kind : {v : Opened} {w : Value} → Becomes example v (of_kind kind.U8) w → Becomes example v (convert.plain_target kind.U8) w
from_kind (in_plain p h) = h

outside : {w : Value} → Becomes example (value.Int (pos 300)) (convert.plain_target kind.U8) w → ⊥
outside h = let both : false ≡ true = integer_back example (pos 0) (pos 255) h in cc

from_members : {given : List MemberValue} → MembersBecome example (x_field ∷ []) (record { name = 120 ∷ []; value = Int (pos 300) } ∷ []) given → ⊥
from_members (part {w = v} e h hs) =
    outside (from_opened (Int (pos 300)) (value.Int (pos 300)) (opens_int (pos 300)) (from_kind (subst (λ (f : Field). Becomes example (opened (Int (pos 300))) (member f) v) (sym (same_some e)) h)))

from_parts : {w : Value} → Becomes example (value.Struct (record { name = 120 ∷ []; value = Int (pos 300) } ∷ [])) (convert.struct OfMembers (x_field ∷ [])) w → ⊥
from_parts h = let p = struct_back example OfMembers (x_field ∷ []) h in from_members p.2

pub first : (w : Value) → DefaultIs example (kind.Named 0) w → ⊥
first w d = from_parts (from_opened (with_x (pos 300)) (value.Struct _) (opens_parts _) (by_value_back example 0 (form.Struct (x_field ∷ [])) (with_x (pos 300)) w struct_form (record { written = the_struct; here = refl; own = refl }) d))
