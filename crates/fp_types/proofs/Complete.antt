-- Defaults and members that are left out, from what was found of defaults.
use Rattle.std.proofs.Common.{◌≡◌, ℕ, zero, suc, ◌+◌, ◌<◌, ◌≤◌, List, [], ◌∷◌, ◌++◌, length, take, get_or, Option, Some, None, refl, sym, ap, ◌∙◌, subst, slice_get}
use Rattle.std.specs.Prelude.{option_map, find}
use Rattle.std.specs.Str.{bytes_eq}
use Rattle.std.proofs.lemmas.List.{take_more, take_all}
use Rattle.std.specs.Option.{option_flatten}
use Rattle.fp_base.specs.declared.value.Value.{Value}
use Rattle.fp_base.specs.declared.value.Value.TheOpen as value
use Rattle.fp_base.specs.declared.value.MemberValue.{MemberValue}
use Rattle.fp_base.proofs.Options.{same_some, no_some}
use Rattle.fp_tables.specs.declared.kind.Kind.{Kind}
use Rattle.fp_tables.specs.declared.kind.Kind.TheVariants as kind
use Rattle.fp_tables.specs.declared.kind.Field.{Field}
use Rattle.fp_type_sizes.specs.declared.written.WrittenType.{WrittenType}
use Rattle.fp_types.specs.declared.target.Rest.{Rest}
use Rattle.fp_types.specs.declared.target.Rest.TheVariants.{OfStruct, OfMembers}
use Rattle.fp_types.specs.Converting.{Target, of_kind, array, struct, member, part_for, parts_in, value_named, member_by_member, MembersBecome, Completes, no_field, given_here, left_out, Rests, in_struct, in_type, Default, zero as zero_default, untrue, empty, repeated as repeated_default, plainly}
use Rattle.fp_types.specs.Making.{AreSoundDefaults, HasDefault, HasDefaultsIn, itself, SufficesEach, SufficesForRest, SufficesForStruct, IsMade, IsDefault, AreMadeOfMembers, AreCompleted, repeated, structured}
use Rattle.fp_types.specs.Completing.{default_at, left_part, position_in, plain_default, SufficesForLeft, SufficesForLefts, MemberIs, IsRest, IsMember}
use Rattle.fp_types.specs.Completing as complete
use Rattle.fp_types.proofs.Inverting.{struct_back}
use Rattle.fp_types.proofs.OneResult.{member_results}

-- ---- defaults of types

module _ (ws : List WrittenType) (defaults : List (Option Value)) (sound : AreSoundDefaults ws defaults) where
  named_from : (i : ℕ) (o : Option (Option Value)) → slice_get defaults i ≡ o → IsDefault ws (HasDefaultsIn ws defaults (kind.Named i)) (of_kind (kind.Named i)) (option_flatten o)
  named_from i None is = λ knows w d. no_some (sym is ∙ knows i itself w d)
  named_from i (Some None) is = λ knows w d. no_some (same_some (sym is ∙ knows i itself w d))
  named_from i (Some (Some w)) is = sound i w is

  pub named_default : (i : ℕ) → IsDefault ws (HasDefaultsIn ws defaults (kind.Named i)) (of_kind (kind.Named i)) (default_at defaults i)
  named_default i = named_from i (slice_get defaults i) refl

  left_from : (i : ℕ) (f : Field) (o : Option (Option Value)) → slice_get defaults i ≡ o
      → IsRest ws (HasDefault ws defaults i) (OfStruct i) f (left_part f (option_flatten o))
  left_from i f None is = λ has w r. none_of r has is
    where
      none_of : {w : Value} → Rests ws (OfStruct i) f w → HasDefault ws defaults i → slice_get defaults i ≡ None → ⊥
      none_of (in_struct d e) has is = no_some (sym is ∙ has _ d)
  left_from i f (Some None) is = λ has w r. none_of r has is
    where
      none_of : {w : Value} → Rests ws (OfStruct i) f w → HasDefault ws defaults i → slice_get defaults i ≡ Some None → ⊥
      none_of (in_struct d e) has is = no_some (same_some (sym is ∙ has _ d))
  left_from i f (Some (Some d)) is = go (value_named (parts_in d) f.name) refl
    where
      same_default : {x : Value} → HasDefault ws defaults i → Default ws (of_kind (kind.Named i)) x → d ≡ x
      same_default has g = same_some (same_some (sym is ∙ has _ g))

      other : {w : Value} → value_named (parts_in d) f.name ≡ None → HasDefault ws defaults i → Rests ws (OfStruct i) f w → ⊥
      other e has (in_struct g h) = no_some (sym e ∙ ap (λ (x : Value). value_named (parts_in x) f.name) (same_default has g) ∙ h)

      go : (o : Option Value) → value_named (parts_in d) f.name ≡ o → IsRest ws (HasDefault ws defaults i) (OfStruct i) f o
      go (Some w) e = in_struct (sound i d is) e
      go None e = λ has w r. other e has r

  pub left_default : (i : ℕ) (f : Field) → IsRest ws (HasDefault ws defaults i) (OfStruct i) f (left_part f (default_at defaults i))
  left_default i f = left_from i f (slice_get defaults i) refl

module _ (ws : List WrittenType) where
  pub kind_named : (k : Kind) (i : ℕ) → position_in k ≡ Some i → k ≡ kind.Named i
  kind_named kind.U8 i e = no_some e
  kind_named kind.U16 i e = no_some e
  kind_named kind.U32 i e = no_some e
  kind_named kind.U64 i e = no_some e
  kind_named kind.I8 i e = no_some e
  kind_named kind.I16 i e = no_some e
  kind_named kind.I32 i e = no_some e
  kind_named kind.I64 i e = no_some e
  kind_named kind.Bool i e = no_some e
  kind_named (kind.Str size) i e = no_some e
  kind_named (kind.Named j) i e = ap (λ (n : ℕ). kind.Named n) (same_some e)

  some_none : {A B : Type 0} {x : A} → Some x ≡ None → B
  some_none e = absurd (cc)

  pub plain_default_is : (k : Kind) → position_in k ≡ None → Default ws (of_kind k) (plain_default k)
  plain_default_is kind.U8 e = plainly tt zero_default
  plain_default_is kind.U16 e = plainly tt zero_default
  plain_default_is kind.U32 e = plainly tt zero_default
  plain_default_is kind.U64 e = plainly tt zero_default
  plain_default_is kind.I8 e = plainly tt zero_default
  plain_default_is kind.I16 e = plainly tt zero_default
  plain_default_is kind.I32 e = plainly tt zero_default
  plain_default_is kind.I64 e = plainly tt zero_default
  plain_default_is kind.Bool e = plainly tt untrue
  plain_default_is (kind.Str size) e = plainly tt empty
  plain_default_is (kind.Named j) e = some_none e

  pub default_at_kind : (defaults : List (Option Value)) (k l : Kind) (o p : Option Value) → k ≡ l → o ≡ p → IsDefault ws (HasDefaultsIn ws defaults l) (of_kind l) p → IsDefault ws (HasDefaultsIn ws defaults k) (of_kind k) o
  default_at_kind defaults k l o p e d h =
      subst (λ (x : Kind). IsDefault ws (HasDefaultsIn ws defaults x) (of_kind x) o) (sym e) (subst (λ (x : Option Value). IsDefault ws (HasDefaultsIn ws defaults l) (of_kind l) x) (sym d) h)

  repeated_back : {size : ℕ} {k : Kind} {w : Value} → Default ws (array size k) w → (v : Value) × Default ws (of_kind k) v
  repeated_back (repeated_default d) = (_, d)

  pub many_default : (full : Type 0) (size : ℕ) (k : Kind) (o : Option Value) → IsDefault ws full (of_kind k) o → IsDefault ws full (array size k) (option_map (repeated size) o)
  many_default full size k (Some w) h = repeated_default h
  many_default full size k None h = λ all w d. let p = repeated_back d in h all p.0 p.1

  pub at_default : (full : Type 0) (t s : Target) (o p : Option Value) → t ≡ s → o ≡ p → IsDefault ws full s p → IsDefault ws full t o
  at_default full t s o p e d h = subst (λ (x : Target). IsDefault ws full x o) (sym e) (subst (λ (x : Option Value). IsDefault ws full s x) (sym d) h)

  -- ---- members

  type_back : {f : Field} {w : Value} → Rests ws OfMembers f w → Default ws (member f) w
  type_back (in_type d) = d

  pub rest_default : (full : Type 0) (f : Field) (o : Option Value) → IsDefault ws full (member f) o → IsRest ws full OfMembers f o
  rest_default full f (Some w) h = in_type h
  rest_default full f None h = λ all w r. h all w (type_back r)

  pub at_rest : (full : Type 0) (r : Rest) (f : Field) (o p : Option Value) → o ≡ p → IsRest ws full r f p → IsRest ws full r f o
  at_rest full r f o p e h = subst (λ (x : Option Value). IsRest ws full r f x) (sym e) h

  left_back : {r : Rest} {given : List MemberValue} {f : Field} {w : Value} → value_named given f.name ≡ None → MemberIs ws r given f w → Rests ws r f w
  left_back none (complete.given_here e) = no_some (sym none ∙ e)
  left_back none (complete.left_out e h) = h

  pub member_left : (full : Type 0) (r : Rest) (given : List MemberValue) (f : Field) (o : Option Value) → value_named given f.name ≡ None → IsRest ws full r f o → IsMember ws full r given f o
  member_left full r given f (Some w) none h = complete.left_out none h
  member_left full r given f None none h = λ all w m. h all w (left_back none m)

  pub completes_first : (r : Rest) (given made : List MemberValue) → made ≡ [] → Completes ws r given [] made
  completes_first r given made is = subst (λ (ps : List MemberValue). Completes ws r given [] ps) (sym is) no_field

  one_more : (r : Rest) (given : List MemberValue) (f : Field) (w : Value) → MemberIs ws r given f w → Completes ws r given (f ∷ []) (part_for f w ∷ [])
  one_more r given f w (complete.given_here e) = given_here e no_field
  one_more r given f w (complete.left_out e h) = left_out e h no_field

  add : (r : Rest) (given : List MemberValue) (f : Field) (w : Value) {fs : List Field} {made : List MemberValue} → Completes ws r given fs made → MemberIs ws r given f w
      → Completes ws r given (fs ++ f ∷ []) (made ++ part_for f w ∷ [])
  add r given f w no_field m = one_more r given f w m
  add r given f w (given_here e h) m = given_here e (add r given f w h m)
  add r given f w (left_out e l h) m = left_out e l (add r given f w h m)

  abbrev made_part : List ℕ → Value → MemberValue
  made_part n v = record { name = n; value = v }

  pub completes_next : (r : Rest) (given : List MemberValue) (fields : List Field) (i : ℕ) (f : Field) (name : List ℕ) (v : Value) (made more : List MemberValue) → i < length fields → f ≡ get_or fields i f
      → Completes ws r given (take i fields) made → name ≡ f.name → MemberIs ws r given f v → more ≡ made ++ made_part name v ∷ [] → Completes ws r given (take (i + 1) fields) more
  completes_next r given fields i f name v made more lt is h named m e =
      subst (λ (fs : List Field). Completes ws r given fs more) (sym (take_more fields i f lt ∙ ap (λ (y : Field). take i fields ++ y ∷ []) (sym is)))
      (subst (λ (ps : List MemberValue). Completes ws r given (take i fields ++ f ∷ []) ps) (sym (e ∙ ap (λ (n : List ℕ). made ++ made_part n v ∷ []) named)) (add r given f v h m))

  pub completes_last : (r : Rest) (given : List MemberValue) (fields : List Field) (i : ℕ) (made : List MemberValue) → length fields ≤ i → Completes ws r given (take i fields) made → Completes ws r given fields made
  completes_last r given fields i made all h = subst (λ (fs : List Field). Completes ws r given fs made) (take_all i fields all) h

  member_at : (r : Rest) (given : List MemberValue) {fs : List Field} {made : List MemberValue} (i : ℕ) (f : Field) → Completes ws r given fs made → slice_get fs i ≡ Some f → (w : Value) × MemberIs ws r given f w
  member_at r given i f no_field e = no_some e
  member_at r given zero f (given_here {w = w} d h) e = (w, subst (λ (x : Field). MemberIs ws r given x w) (same_some e) (complete.given_here d))
  member_at r given zero f (left_out {w = w} d l h) e = (w, subst (λ (x : Field). MemberIs ws r given x w) (same_some e) (complete.left_out d l))
  member_at r given (suc i) f (given_here d h) e = member_at r given i f h e
  member_at r given (suc i) f (left_out d l h) e = member_at r given i f h e

  full_left : (defaults : List (Option Value)) (r : Rest) (fields : List Field) (i : ℕ) (f : Field) → slice_get fields i ≡ Some f → SufficesForLefts ws defaults r fields → SufficesForLeft ws defaults r f
  full_left defaults r [] i f e h = no_some e
  full_left defaults r (g ∷ gs) zero f e h = subst (λ (x : Field). SufficesForLeft ws defaults r x) (same_some e) h.0
  full_left defaults r (g ∷ gs) (suc i) f e h = full_left defaults r gs i f e h.1

  pub completes_none : (defaults : List (Option Value)) (r : Rest) (given : List MemberValue) (fields : List Field) (i : ℕ) (f : Field) (o : Option Value) → slice_get fields i ≡ Some f → o ≡ None
      → IsMember ws (SufficesForLeft ws defaults r f) r given f o → AreCompleted ws (SufficesForLefts ws defaults r fields) r given fields None
  completes_none defaults r given fields i f o is none h = λ full made c.
      let p = member_at r given i f c is in
      subst (λ (x : Option Value). IsMember ws (SufficesForLeft ws defaults r f) r given f x) none h (full_left defaults r fields i f is full) p.0 p.1

  pub member_some : (full : Type 0) (r : Rest) (given : List MemberValue) (f : Field) (o : Option Value) (w : Value) → o ≡ Some w → IsMember ws full r given f o → MemberIs ws r given f w
  member_some full r given f o w e h = subst (λ (x : Option Value). IsMember ws full r given f x) e h

  -- ---- structs

  lefts : (defaults : List (Option Value)) (n : ℕ) (r : Rest) (fields : List Field) → SufficesForRest ws defaults r → SufficesEach ws defaults n fields → SufficesForLefts ws defaults r fields
  lefts defaults n r [] rest each = tt
  lefts defaults n (OfStruct i) (f ∷ fs) rest each = (rest, lefts defaults n (OfStruct i) fs rest each.1)
  lefts defaults n OfMembers (f ∷ fs) rest each = (each.0.knows, lefts defaults n OfMembers fs rest each.1)

  pub finished_some : (defaults : List (Option Value)) (n : ℕ) (r : Rest) (fields : List Field) (parts given : List MemberValue) (m : Option (List MemberValue)) → MembersBecome ws fields parts given
      → AreCompleted ws (SufficesForLefts ws defaults r fields) r given fields m
      → IsMade ws (SufficesForStruct ws defaults n r fields) (value.Struct parts) (struct r fields) (option_map structured m)
  finished_some defaults n r fields parts given (Some made) h c = member_by_member h c
  finished_some defaults n r fields parts given None h c = λ full w b.
      let p = struct_back ws r fields b in
      c (lefts defaults n r fields full.1 full.0) p.1 (subst (λ (ps : List MemberValue). Completes ws r ps fields p.1) (member_results p.2 h) p.3)

  pub finished_none : (defaults : List (Option Value)) (n : ℕ) (r : Rest) (fields : List Field) (parts : List MemberValue)
      → (SufficesEach ws defaults n fields → (made : List MemberValue) → MembersBecome ws fields parts made → ⊥) → IsMade ws (SufficesForStruct ws defaults n r fields) (value.Struct parts) (struct r fields) None
  finished_none defaults n r fields parts h = λ full w b. let p = struct_back ws r fields b in h full.0 p.0 p.2

  pub for_rest : (defaults : List (Option Value)) (r q : Rest) (f : Field) (o : Option Value) → r ≡ q → IsRest ws (SufficesForLeft ws defaults q f) q f o → IsRest ws (SufficesForLeft ws defaults r f) r f o
  for_rest defaults r q f o e h = subst (λ (x : Rest). IsRest ws (SufficesForLeft ws defaults x f) x f o) (sym e) h

  pub is_given : (r : Rest) (given : List MemberValue) (f : Field) (p : MemberValue) (v : Value) → find (λ (q : MemberValue). bytes_eq q.name f.name) given ≡ Some p → v ≡ p.value → MemberIs ws r given f v
  is_given r given f p v e d =
      subst (λ (x : Value). MemberIs ws r given f x) (sym d) (complete.given_here (ap (λ (q : Option MemberValue). option_map (λ (y : MemberValue). y.value) q) e))

  pub finished_as : (defaults : List (Option Value)) (n : ℕ) (r : Rest) (fields : List Field) (parts : List MemberValue) (o : Option (List MemberValue)) → o ≡ None
      → AreMadeOfMembers ws (SufficesEach ws defaults n fields) fields parts o → SufficesEach ws defaults n fields → (made : List MemberValue) → MembersBecome ws fields parts made → ⊥
  finished_as defaults n r fields parts o e h = subst (λ (x : Option (List MemberValue)). AreMadeOfMembers ws (SufficesEach ws defaults n fields) fields parts x) e h

  pub finished_of : (defaults : List (Option Value)) (n : ℕ) (r : Rest) (fields : List Field) (parts given gs : List MemberValue) (o : Option (List MemberValue)) (m : Option (List MemberValue)) (v : Option Value)
      → o ≡ Some given → AreMadeOfMembers ws (SufficesEach ws defaults n fields) fields parts o
      → gs ≡ given → AreCompleted ws (SufficesForLefts ws defaults r fields) r gs fields m → v ≡ option_map structured m
      → IsMade ws (SufficesForStruct ws defaults n r fields) (value.Struct parts) (struct r fields) v
  finished_of defaults n r fields parts given gs o m v is h same c e =
      subst (λ (x : Option Value). IsMade ws (SufficesForStruct ws defaults n r fields) (value.Struct parts) (struct r fields) x) (sym e)
      (finished_some defaults n r fields parts given m (subst (λ (x : Option (List MemberValue)). AreMadeOfMembers ws (SufficesEach ws defaults n fields) fields parts x) is h)
      (subst (λ (ps : List MemberValue). AreCompleted ws (SufficesForLefts ws defaults r fields) r ps fields m) same c))
