-- What converts meets nothing that breaks a rule.
use Rattle.std.proofs.Common.{◌≡◌, ℕ, zero, suc, Bool, true, false, not, ◌&&◌, List, length, Some, None, refl, sym, ◌∙◌, subst, slice_get, arith}
use Rattle.std.specs.Prelude.{ℤ, int_le, is_none, nat_eq}
use Rattle.std.specs.List.{list_any}
use Rattle.std.proofs.lemmas.Bool.Decides.{nat_tests}
use Rattle.fp_base.specs.Same.{same}
use Rattle.fp_base.specs.declared.place.Place.{Place}
use Rattle.fp_base.specs.declared.refusal.Refusal.{Refusal}
use Rattle.fp_base.specs.declared.value.Value.{Value, Enumerated}
use Rattle.fp_base.specs.declared.value.Value.TheOpen as value
use Rattle.fp_base.specs.declared.value.MemberValue.{MemberValue}
use Rattle.fp_base.proofs.Options.{same_some, no_some}
use Rattle.fp_base.proofs.Bools.{not_both}
use Rattle.fp_tables.specs.declared.kind.Kind.{Kind}
use Rattle.fp_tables.specs.declared.kind.Kind.TheVariants as kind
use Rattle.fp_tables.specs.declared.kind.Form.{Form}
use Rattle.fp_tables.specs.declared.kind.Field.{Field}
use Rattle.fp_tables.specs.declared.kind.Constant.{Constant}
use Rattle.fp_type_sizes.specs.declared.written.WrittenType.{WrittenType}
use Rattle.fp_types.specs.declared.target.Rest.{Rest}
use Rattle.fp_types.specs.declared.target.Rest.TheVariants.{OfStruct}
use Rattle.fp_types.specs.Converting.{Opened, opened, IsSingle, IsWithin, Target, of_kind, integer, truth, words, array, struct, constants, form_target, member, member_named, Becomes, number, numbered, truth_value, text, constant, part_by_part, member_by_member, in_each_part, in_each_member, in_plain, in_named, EachBecomes, none, more, MembersBecome, no_part, part, BecomesInEach, no_member, in_member, DefaultIs}
use Rattle.fp_types.specs.Faults.{Meets, lacks_member, is_outside, differs, Misfits, by_member, by_range, by_shape, IsBadDefault}
use Rattle.fp_types.specs.Faults as meet
use Rattle.fp_type_sizes.proofs.OneSize.{one_form}
use Rattle.fp_types.proofs.Passed.{by_value_back}

-- a test holds of nothing where a rule of conversion applies
pub record IsSilent (ws : List WrittenType) (test : Opened → Target → Bool) : Type 0 where
  pub of_number : (low high n : ℤ) → IsWithin low high n → test (value.Int n) (integer low high) ≡ false
  pub of_constant : (of name : List ℕ) (low high n : ℤ) → IsWithin low high n → test (value.Enumerated of name n) (integer low high) ≡ false
  pub of_truth : (b : Bool) → test (value.Bool b) truth ≡ false
  pub of_text : (t : List ℕ) → test (value.Text t) words ≡ false
  pub of_own : (of name : List ℕ) (n : ℤ) (cs : List Constant) → list_any (λ (x : Constant). same x.value (Enumerated of name n)) cs ≡ true
      → test (value.Enumerated of name n) (constants cs) ≡ false
  pub of_items : (items : List Value) (size : ℕ) (k : Kind) → length items ≡ size → test (value.Array items) (array size k) ≡ false
  pub of_parts : (parts given : List MemberValue) (rest : Rest) (fields : List Field) → MembersBecome ws fields parts given → test (value.Struct parts) (struct rest fields) ≡ false
  pub of_single : (v : Opened) (size : ℕ) (k : Kind) → IsSingle v → test v (array size k) ≡ false
  pub of_each : (v : Opened) (rest : Rest) (fields : List Field) → IsSingle v → test v (struct rest fields) ≡ false
  pub of_type : (v : Opened) (k : Kind) → test v (of_kind k) ≡ false

module _ (ws : List WrittenType) (test : Opened → Target → Bool) where
  moved : {v : Opened} (r : Rest) {f g : Form} → g ≡ f → Meets ws test v (form_target r g) → Meets ws test v (form_target r f)
  moved {v = v} r e m = subst (λ (x : Form). Meets ws test v (form_target r x)) e m

  at_value : {u v : Value} {t : Target} → u ≡ v → Meets ws test (opened u) t → Meets ws test (opened v) t
  at_value {t = t} e m = subst (λ (x : Value). Meets ws test (opened x) t) e m

  at_member : {v : Opened} {f g : Field} → f ≡ g → Meets ws test v (member f) → Meets ws test v (member g)
  at_member {v = v} e m = subst (λ (x : Field). Meets ws test v (member x)) e m

  module _ (silent : IsSilent ws test) where
    mutual
      pub quiet : {v : Opened} {t : Target} {w : Value} → Becomes ws v t w → Meets ws test v t → ⊥
      quiet (number h) (meet.here e) = not_both e (silent.of_number _ _ _ h)
      quiet (numbered h) (meet.here e) = not_both e (silent.of_constant _ _ _ _ _ h)
      quiet truth_value (meet.here e) = not_both e (silent.of_truth _)
      quiet text (meet.here e) = not_both e (silent.of_text _)
      quiet (constant h) (meet.here e) = not_both e (silent.of_own _ _ _ _ h)
      quiet (part_by_part l hs) (meet.here e) = not_both e (silent.of_items _ _ _ l)
      quiet (part_by_part l hs) (meet.in_part i d g m) = quiet_each hs i g m
      quiet (part_by_part l hs) (meet.single_in_part s m) = absurd s
      quiet (member_by_member hs c) (meet.here e) = not_both e (silent.of_parts _ _ _ _ hs)
      quiet (member_by_member hs c) (meet.in_member i g n m) = quiet_members hs i g n m
      quiet (member_by_member hs c) (meet.single_in_member i s g m) = absurd s
      quiet (in_each_part s h) (meet.here e) = not_both e (silent.of_single _ _ _ s)
      quiet (in_each_part s h) (meet.in_part i d g m) = absurd s
      quiet (in_each_part s h) (meet.single_in_part r m) = quiet h m
      quiet (in_each_member s hs) (meet.here e) = not_both e (silent.of_each _ _ _ s)
      quiet (in_each_member s hs) (meet.in_member i g n m) = absurd s
      quiet (in_each_member s hs) (meet.single_in_member i r g m) = quiet_in_each hs i g m
      quiet (in_plain p h) (meet.here e) = not_both e (silent.of_type _ _)
      quiet (in_plain p h) (meet.in_plain q m) = quiet h m
      quiet (in_plain p h) (meet.in_named g s m) = absurd p
      quiet (in_named f s h) (meet.here e) = not_both e (silent.of_type _ _)
      quiet (in_named f s h) (meet.in_plain q m) = absurd q
      quiet (in_named f s h) (meet.in_named g r m) = quiet h (moved (OfStruct _) (one_form g f) m)

      quiet_each : {k : Kind} {vs xs : List Value} {v : Value} → EachBecomes ws k vs xs → (i : ℕ) → slice_get vs i ≡ Some v → Meets ws test (opened v) (of_kind k) → ⊥
      quiet_each none i g m = no_some g
      quiet_each (more h hs) zero g m = quiet h (at_value (sym (same_some g)) m)
      quiet_each (more h hs) (suc i) g m = quiet_each hs i g m

      quiet_members : {fields : List Field} {ps given : List MemberValue} {p : MemberValue} {f : Field} → MembersBecome ws fields ps given → (i : ℕ) → slice_get ps i ≡ Some p → member_named fields p.name ≡ Some f
          → Meets ws test (opened p.value) (member f) → ⊥
      quiet_members no_part i g n m = no_some g
      quiet_members {p = p} {f = f} (part {fields = fields} {p = q} e h hs) zero g n m =
          let same : q ≡ p = same_some g in
          let named : member_named fields q.name ≡ Some f = subst (λ (x : MemberValue). member_named fields x.name ≡ Some f) (sym same) n in
          let met : Meets ws test (opened q.value) (member f) = subst (λ (x : MemberValue). Meets ws test (opened x.value) (member f)) (sym same) m in
          quiet h (at_member (same_some (sym named ∙ e)) met)
      quiet_members (part e h hs) (suc i) g n m = quiet_members hs i g n m

      quiet_in_each : {v : Opened} {fs : List Field} {made : List MemberValue} {f : Field} → BecomesInEach ws v fs made → (i : ℕ) → slice_get fs i ≡ Some f → Meets ws test v (member f) → ⊥
      quiet_in_each no_member i g m = no_some g
      quiet_in_each (in_member h hs) zero g m = quiet h (at_member (sym (same_some g)) m)
      quiet_in_each (in_member h hs) (suc i) g m = quiet_in_each hs i g m

-- ---- the three tests

false_of : (b : Bool) → b ≡ true → not b ≡ false
false_of true e = refl
false_of false e = absurd (cc)

all_named : {ws : List WrittenType} (fields : List Field) {ps given : List MemberValue} → MembersBecome ws fields ps given → list_any (λ (p : MemberValue). is_none (member_named fields p.name)) ps ≡ false
all_named fields no_part = refl
all_named fields (part e h hs) = rw (e, all_named fields hs) refl

silent_member : (ws : List WrittenType) → IsSilent ws lacks_member
silent_member ws = record {
  of_number = λ low high n h. refl;
  of_constant = λ of name low high n h. refl;
  of_truth = λ b. refl;
  of_text = λ t. refl;
  of_own = λ of name n cs h. refl;
  of_items = λ items size k l. refl;
  of_parts = λ parts given rest fields hs. all_named fields hs;
  of_single = λ v size k s. single_array v size k;
  of_each = λ v rest fields s. single_struct v rest fields s;
  of_type = λ v k. of_type v k;
}
  where
    single_array : (v : Opened) (size : ℕ) (k : Kind) → lacks_member v (array size k) ≡ false
    single_array (value.Int n) size k = refl
    single_array (value.Bool b) size k = refl
    single_array (value.Text t) size k = refl
    single_array (value.Enumerated of name n) size k = refl
    single_array (value.Array items) size k = refl
    single_array (value.Struct parts) size k = refl
    single_array value.Opaque size k = refl

    single_struct : (v : Opened) (rest : Rest) (fields : List Field) → IsSingle v → lacks_member v (struct rest fields) ≡ false
    single_struct (value.Int n) rest fields s = refl
    single_struct (value.Bool b) rest fields s = refl
    single_struct (value.Text t) rest fields s = refl
    single_struct (value.Enumerated of name n) rest fields s = refl
    single_struct (value.Array items) rest fields s = absurd s
    single_struct (value.Struct parts) rest fields s = absurd s
    single_struct value.Opaque rest fields s = absurd s

    of_type : (v : Opened) (k : Kind) → lacks_member v (of_kind k) ≡ false
    of_type (value.Int n) k = refl
    of_type (value.Bool b) k = refl
    of_type (value.Text t) k = refl
    of_type (value.Enumerated of name n) k = refl
    of_type (value.Array items) k = refl
    of_type (value.Struct parts) k = refl
    of_type value.Opaque k = refl

silent_outside : (ws : List WrittenType) → IsSilent ws is_outside
silent_outside ws = record {
  of_number = λ low high n h. false_of (int_le low n && int_le n high) h;
  of_constant = λ of name low high n h. false_of (int_le low n && int_le n high) h;
  of_truth = λ b. refl;
  of_text = λ t. refl;
  of_own = λ of name n cs h. refl;
  of_items = λ items size k l. refl;
  of_parts = λ parts given rest fields hs. refl;
  of_single = λ v size k s. single_array v size k;
  of_each = λ v rest fields s. single_struct v rest fields;
  of_type = λ v k. of_type v k;
}
  where
    single_array : (v : Opened) (size : ℕ) (k : Kind) → is_outside v (array size k) ≡ false
    single_array (value.Int n) size k = refl
    single_array (value.Bool b) size k = refl
    single_array (value.Text t) size k = refl
    single_array (value.Enumerated of name n) size k = refl
    single_array (value.Array items) size k = refl
    single_array (value.Struct parts) size k = refl
    single_array value.Opaque size k = refl

    single_struct : (v : Opened) (rest : Rest) (fields : List Field) → is_outside v (struct rest fields) ≡ false
    single_struct (value.Int n) rest fields = refl
    single_struct (value.Bool b) rest fields = refl
    single_struct (value.Text t) rest fields = refl
    single_struct (value.Enumerated of name n) rest fields = refl
    single_struct (value.Array items) rest fields = refl
    single_struct (value.Struct parts) rest fields = refl
    single_struct value.Opaque rest fields = refl

    of_type : (v : Opened) (k : Kind) → is_outside v (of_kind k) ≡ false
    of_type (value.Int n) k = refl
    of_type (value.Bool b) k = refl
    of_type (value.Text t) k = refl
    of_type (value.Enumerated of name n) k = refl
    of_type (value.Array items) k = refl
    of_type (value.Struct parts) k = refl
    of_type value.Opaque k = refl

same_length : (m n : ℕ) → m ≡ n → not (nat_eq m n) ≡ false
same_length m n e = grind (arith, nat_tests)

silent_shape : (ws : List WrittenType) → IsSilent ws differs
silent_shape ws = record {
  of_number = λ low high n h. refl;
  of_constant = λ of name low high n h. refl;
  of_truth = λ b. refl;
  of_text = λ t. refl;
  of_own = λ of name n cs h. false_of _ h;
  of_items = λ items size k l. same_length (length items) size l;
  of_parts = λ parts given rest fields hs. refl;
  of_single = λ v size k s. single_array v size k s;
  of_each = λ v rest fields s. single_struct v rest fields s;
  of_type = λ v k. of_type v k;
}
  where
    single_array : (v : Opened) (size : ℕ) (k : Kind) → IsSingle v → differs v (array size k) ≡ false
    single_array (value.Int n) size k s = refl
    single_array (value.Bool b) size k s = refl
    single_array (value.Text t) size k s = refl
    single_array (value.Enumerated of name n) size k s = refl
    single_array (value.Array items) size k s = absurd s
    single_array (value.Struct parts) size k s = absurd s
    single_array value.Opaque size k s = absurd s

    single_struct : (v : Opened) (rest : Rest) (fields : List Field) → IsSingle v → differs v (struct rest fields) ≡ false
    single_struct (value.Int n) rest fields s = refl
    single_struct (value.Bool b) rest fields s = refl
    single_struct (value.Text t) rest fields s = refl
    single_struct (value.Enumerated of name n) rest fields s = refl
    single_struct (value.Array items) rest fields s = absurd s
    single_struct (value.Struct parts) rest fields s = absurd s
    single_struct value.Opaque rest fields s = absurd s

    of_type : (v : Opened) (k : Kind) → differs v (of_kind k) ≡ false
    of_type (value.Int n) k = refl
    of_type (value.Bool b) k = refl
    of_type (value.Text t) k = refl
    of_type (value.Enumerated of name n) k = refl
    of_type (value.Array items) k = refl
    of_type (value.Struct parts) k = refl
    of_type value.Opaque k = refl

pub no_misfit : (ws : List WrittenType) (place : Place) (v : Opened) (t : Target) (w : Value) (f : Refusal) → Becomes ws v t w → Misfits ws place v t f → ⊥
no_misfit ws place v t w f b (by_member m) = quiet ws lacks_member (silent_member ws) b m
no_misfit ws place v t w f b (by_range n m) = quiet ws is_outside (silent_outside ws) b m
no_misfit ws place v t w f b (by_shape n o m) = quiet ws differs (silent_shape ws) b m

pub no_bad_default : (ws : List WrittenType) (i : ℕ) (place : Place) (f : Refusal) (w : Value) → IsBadDefault ws i place f → DefaultIs ws (kind.Named i) w → ⊥
no_bad_default ws i place f w bad d = no_misfit ws _ _ _ w f (by_value_back ws i bad.shape bad.value w bad.form bad.has d) bad.misfits
