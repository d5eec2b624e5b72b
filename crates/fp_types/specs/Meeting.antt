-- What a walk that looks for a fault finds with so many steps left.
use Rattle.std.specs.Prelude.{◌≡◌, ℕ, Bool, true, false, List, length, slice_get, Some}
use Rattle.fp_base.specs.declared.place.Place.{Place}
use Rattle.fp_base.specs.declared.refusal.Refusal.{Refusal}
use Rattle.fp_base.specs.declared.value.Value.{Value}
use Rattle.fp_base.specs.declared.value.Value.TheOpen as value
use Rattle.fp_base.specs.declared.value.MemberValue.{MemberValue}
use Rattle.fp_tables.specs.declared.kind.Kind.{Kind}
use Rattle.fp_tables.specs.declared.kind.Form.{Form}
use Rattle.fp_tables.specs.declared.kind.Field.{Field}
use Rattle.fp_type_sizes.specs.declared.written.WrittenType.{WrittenType}
use Rattle.fp_type_sizes.specs.declared.written.Own.{Own}
use Rattle.fp_type_sizes.specs.declared.written.Own.TheVariants as own
use Rattle.fp_types.specs.Converting.{Opened, opened, IsSingle, Target, array, struct, of_kind, form_target, member, member_named}
use Rattle.fp_types.specs.Faults.{Meets, lacks_member, is_outside, differs, Misfits}
use Rattle.fp_types.specs.Making.{PassesKinds, EnoughIn}
use Rattle.fp_types.specs.declared.target.Rest.TheVariants.{OfMembers}
use Rattle.fp_types.specs.declared.faults.Sought.{Sought}
use Rattle.fp_types.specs.declared.faults.Sought.TheVariants as sought

abbrev pub test_of : Sought → Opened → Target → Bool
test_of sought.Member = lacks_member
test_of sought.Range = is_outside
test_of sought.Shape = differs

-- the walk found it, or it isn't there, if the steps reach the end
abbrev pub Tells : Type 0 → Type 0 → Bool → Type 0
Tells reached P true = P
Tells reached P false = reached → P → ⊥

module _ (types : List WrittenType) (test : Opened → Target → Bool) where
  abbrev pub MeetsItem : Kind → List Value → Type 0
  MeetsItem k items = (i : ℕ) × (v : Value) × (slice_get items i ≡ Some v) × Meets types test (opened v) (of_kind k)

  abbrev pub MeetsNamed : List Field → MemberValue → Type 0
  MeetsNamed fields p = (f : Field) × (member_named fields p.name ≡ Some f) × Meets types test (opened p.value) (member f)

  abbrev pub MeetsPart : List Field → List MemberValue → Type 0
  MeetsPart fields parts = (i : ℕ) × (p : MemberValue) × (slice_get parts i ≡ Some p) × MeetsNamed fields p

  abbrev pub MeetsInMember : Opened → List Field → Type 0
  MeetsInMember v fields = (i : ℕ) × (f : Field) × (slice_get fields i ≡ Some f) × Meets types test v (member f)

  abbrev pub MeetsInArray : ℕ → Kind → Opened → Type 0
  MeetsInArray size k (value.Array items) = (length items ≡ size) × MeetsItem k items
  MeetsInArray size k v = IsSingle v × Meets types test v (of_kind k)

  abbrev pub MeetsInStruct : List Field → Opened → Type 0
  MeetsInStruct fields (value.Struct parts) = MeetsPart fields parts
  MeetsInStruct fields v = IsSingle v × MeetsInMember v fields

  abbrev pub MeetsInside : Target → Opened → Type 0
  MeetsInside (array size k) v = MeetsInArray size k v
  MeetsInside (struct rest fields) v = MeetsInStruct fields v
  MeetsInside (of_kind k) v = Meets types test v (of_kind k)
  MeetsInside _ v = ⊥

-- the most levels reach through what the value and the type meet
abbrev pub IsReachedBy : List WrittenType → Opened → Target → Type 0
IsReachedBy ws v t = (test : Opened → Target → Bool) → PassesKinds test → Meets ws test v t → EnoughIn ws 64 t

-- the rule that what stands behind `default` breaks
abbrev pub OwnMisfits : List WrittenType → Place → Own → Form → Refusal → Type 0
OwnMisfits ws place (own.Has v) form f = Misfits ws place (opened v) (form_target OfMembers form) f
OwnMisfits ws place _ form f = ⊥
