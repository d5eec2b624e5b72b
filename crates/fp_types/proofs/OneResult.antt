-- A value becomes one value of a type at most, and a type has one default at most.
use Rattle.std.proofs.Common.{◌≡◌, ℕ, List, ◌∷◌, Some, refl, sym, ap, ◌∙◌, subst}
use Rattle.std.specs.Prelude.{replicate}
use Rattle.fp_base.specs.declared.value.Value.{Value, Array, Struct}
use Rattle.fp_base.specs.declared.value.MemberValue.{MemberValue}
use Rattle.fp_base.proofs.Options.{same_some, none_some}
use Rattle.fp_tables.specs.declared.kind.Kind.{Kind}
use Rattle.fp_tables.specs.declared.kind.Form.{Form}
use Rattle.fp_tables.specs.declared.kind.Field.{Field}
use Rattle.fp_type_sizes.specs.declared.written.WrittenType.{WrittenType}
use Rattle.fp_type_sizes.specs.declared.written.Own.{Own}
use Rattle.fp_type_sizes.specs.declared.written.Own.TheVariants as own
use Rattle.fp_types.specs.Converting.{Opened, opened, Target, form_target, member, member_named, parts_in, value_named, HasOwn, Becomes, number, numbered, truth_value, text, constant, part_by_part, member_by_member, in_each_part, in_each_member, in_plain, in_named, EachBecomes, none, more, MembersBecome, no_part, part, BecomesInEach, no_member, in_member, Completes, no_field, given_here, left_out, Rests, in_struct, in_type, Default, zero, untrue, empty, repeated, of_each, first, the_one, plainly, by_form, by_value}
use Rattle.fp_types.specs.declared.target.Rest.{Rest}
use Rattle.fp_type_sizes.proofs.OneSize.{one_form, one_written}

one_member : (fields : List Field) (name : List ℕ) {f g : Field} → member_named fields name ≡ Some f → member_named fields name ≡ Some g → g ≡ f
one_member fields name e h = same_some (sym h ∙ e)

same_list : {v w : Value} {vs ws : List Value} → v ≡ w → vs ≡ ws → v ∷ vs ≡ w ∷ ws
same_list e h = cc

same_part : {n : List ℕ} {v w : Value} {ps qs : List MemberValue} → v ≡ w → ps ≡ qs → ◌≡◌ {A = List MemberValue} (record { name = n; value = v } ∷ ps) (record { name = n; value = w } ∷ qs)
same_part e h = cc

moved : {ws : List WrittenType} {v : Opened} {f g : Field} {w : Value} → g ≡ f → Becomes ws v (member g) w → Becomes ws v (member f) w
moved {ws = ws} {v = v} {w = w} e h = subst (λ (x : Field). Becomes ws v (member x) w) e h

moved_form : {ws : List WrittenType} {v : Opened} (r : Rest) {f g : Form} {w : Value} → g ≡ f → Becomes ws v (form_target r g) w → Becomes ws v (form_target r f) w
moved_form {ws = ws} {v = v} r {w = w} e h = subst (λ (x : Form). Becomes ws v (form_target r x) w) e h

moved_default : {ws : List WrittenType} (r : Rest) {f g : Form} {w : Value} → g ≡ f → Default ws (form_target r g) w → Default ws (form_target r f) w
moved_default {ws = ws} r {w = w} e h = subst (λ (x : Form). Default ws (form_target r x) w) e h

moved_value : {ws : List WrittenType} {t : Target} {u v w : Value} → u ≡ v → Becomes ws (opened u) t w → Becomes ws (opened v) t w
moved_value {ws = ws} {t = t} {w = w} e h = subst (λ (x : Value). Becomes ws (opened x) t w) e h

moved_given : {ws : List WrittenType} {r : Rest} {gs hs : List MemberValue} {fs : List Field} {made : List MemberValue} → gs ≡ hs → Completes ws r gs fs made → Completes ws r hs fs made
moved_given {ws = ws} {r = r} {fs = fs} {made = made} e h = subst (λ (x : List MemberValue). Completes ws r x fs made) e h

pub one_own : {ws : List WrittenType} {i : ℕ} {o p : Own} → HasOwn ws i o → HasOwn ws i p → o ≡ p
one_own {ws = ws} {i = i} h k = sym h.own ∙ ap (λ (x : WrittenType). x.default) (one_written ws i h.here k.here) ∙ k.own

same_own : {u v : Value} → own.Has u ≡ own.Has v → u ≡ v
same_own e = cc

pub unwritten : {A : Type 0} {v : Value} → own.Unwritten ≡ own.Has v → A
unwritten e = absurd (cc)

same_named : {d e w x : Value} (f : Field) → d ≡ e → value_named (parts_in d) f.name ≡ Some w → value_named (parts_in e) f.name ≡ Some x → w ≡ x
same_named f e h k = same_some (sym h ∙ ap (λ (y : Value). value_named (parts_in y) f.name) e ∙ k)

mutual
  pub one_result : {ws : List WrittenType} {v : Opened} {t : Target} {a b : Value} → Becomes ws v t a → Becomes ws v t b → a ≡ b
  one_result (number h) (number k) = refl
  one_result (numbered h) (numbered k) = refl
  one_result truth_value truth_value = refl
  one_result text text = refl
  one_result (constant h) (constant k) = refl
  one_result (part_by_part e h) (part_by_part d k) = ap Array (each_result h k)
  one_result (member_by_member h hs) (member_by_member k ks) = ap Struct (complete_result hs (moved_given (sym (member_results h k)) ks))
  one_result (in_each_part {size = size} s h) (in_each_part t k) = ap (λ (w : Value). Array (replicate size w)) (one_result h k)
  one_result (in_each_member s h) (in_each_member t k) = ap Struct (results_in_each h k)
  one_result (part_by_part e h) (in_each_part t k) = absurd t
  one_result (in_each_part t k) (part_by_part e h) = absurd t
  one_result (member_by_member h hs) (in_each_member t k) = absurd t
  one_result (in_each_member t k) (member_by_member h hs) = absurd t
  one_result (in_plain p h) (in_plain q k) = one_result h k
  one_result (in_plain p h) (in_named g s k) = absurd p
  one_result (in_named g s k) (in_plain p h) = absurd p
  one_result (in_named f s h) (in_named g t k) = one_result h (moved_form _ (one_form g f) k)

  pub each_result : {ws : List WrittenType} {k : Kind} {vs xs ys : List Value} → EachBecomes ws k vs xs → EachBecomes ws k vs ys → xs ≡ ys
  each_result none none = refl
  each_result (more h hs) (more k ks) = same_list (one_result h k) (each_result hs ks)

  pub member_results : {ws : List WrittenType} {fields : List Field} {ps xs ys : List MemberValue} → MembersBecome ws fields ps xs → MembersBecome ws fields ps ys → xs ≡ ys
  member_results no_part no_part = refl
  member_results (part {fields = fields} {p = p} e h hs) (part d k ks) = same_part (one_result h (moved (one_member fields p.name e d) k)) (member_results hs ks)

  pub results_in_each : {ws : List WrittenType} {v : Opened} {fs : List Field} {xs ys : List MemberValue} → BecomesInEach ws v fs xs → BecomesInEach ws v fs ys → xs ≡ ys
  results_in_each no_member no_member = refl
  results_in_each (in_member h hs) (in_member k ks) = same_part (one_result h k) (results_in_each hs ks)

  pub complete_result : {ws : List WrittenType} {r : Rest} {given : List MemberValue} {fs : List Field} {xs ys : List MemberValue} → Completes ws r given fs xs → Completes ws r given fs ys → xs ≡ ys
  complete_result no_field no_field = refl
  complete_result (given_here e h) (given_here d k) = same_part (same_some (sym e ∙ d)) (complete_result h k)
  complete_result (given_here e h) (left_out d l k) = none_some d e
  complete_result (left_out d l k) (given_here e h) = none_some d e
  complete_result (left_out e l h) (left_out d m k) = same_part (one_rest l m) (complete_result h k)

  one_rest : {ws : List WrittenType} {r : Rest} {f : Field} {a b : Value} → Rests ws r f a → Rests ws r f b → a ≡ b
  one_rest (in_struct {f = f} h e) (in_struct k d) = same_named f (one_default h k) e d
  one_rest (in_type h) (in_type k) = one_default h k

  pub one_default : {ws : List WrittenType} {t : Target} {a b : Value} → Default ws t a → Default ws t b → a ≡ b
  one_default zero zero = refl
  one_default untrue untrue = refl
  one_default empty empty = refl
  one_default (repeated {size = size} h) (repeated k) = ap (λ (w : Value). Array (replicate size w)) (one_default h k)
  one_default (of_each h) (of_each k) = ap Struct (complete_result h k)
  one_default first first = refl
  one_default the_one the_one = refl
  one_default (plainly p h) (plainly q k) = one_default h k
  one_default (plainly p h) (by_form g s o k) = absurd p
  one_default (plainly p h) (by_value g s o k) = absurd p
  one_default (by_form g s o k) (plainly p h) = absurd p
  one_default (by_value g s o k) (plainly p h) = absurd p
  one_default (by_form f s o h) (by_form g t p k) = one_default h (moved_default _ (one_form g f) k)
  one_default (by_form f s o h) (by_value g t p k) = unwritten (one_own o p)
  one_default (by_value g t p k) (by_form f s o h) = unwritten (one_own o p)
  one_default (by_value f s o h) (by_value g t p k) = one_result h (moved_form _ (one_form g f) (moved_value (same_own (one_own p o)) k))
