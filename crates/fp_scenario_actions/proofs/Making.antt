-- What is made of a JSON value, from what is made of its parts.
use Rattle.std.proofs.Common.{◌≡◌, ℕ, ◌+◌, ◌<◌, ◌≤◌, suc, zero, ℤ, Bool, true, false, cond, ◌&&◌, List, [], ◌∷◌, ◌++◌, map, length, take, get_or, slice_get, Option, Some, None, string_bytes, refl, sym, ap, ◌∙◌, subst}
use Rattle.std.specs.Prelude.{int_le, option_map, option_and_then}
use Rattle.std.proofs.lemmas.List.{take_all, map-append, length-map}
use Rattle.std.proofs.lemmas.Option.{slice_get_read}
use Rattle.serde_json.specs.Data as json
use Rattle.serde_json.specs.Find.{as_integer}
use Rattle.serde_json.specs.View.{view, items_view, items_of, members_view}
use Rattle.serde_json.specs.declared.value.Value.{Value as Json}
use Rattle.serde_json.proofs.Views.{Entry}
use Rattle.fp_base.specs.declared.value.Value.{Value, Int, Array}
use Rattle.fp_base.specs.declared.value.MemberValue.{MemberValue}
use Rattle.fp_base.proofs.Options.{same_some, none_some}
use Rattle.fp_base.proofs.Bools.{not_both}
use Rattle.fp_base.proofs.Lists.{taken_next}
use Rattle.fp_tables.specs.Types as shapes
use Rattle.fp_tables.specs.declared.kind.Kind.{Kind}
use Rattle.fp_tables.specs.declared.kind.Field.{Field}
use Rattle.fp_tables.specs.declared.kind.Constant.{Constant}
use Rattle.fp_tables.specs.declared.kind.TypeDef.{TypeDef}
use Rattle.fp_types.specs.Converting.{IsWithin, member_named}
use Rattle.fp_types.specs.Making.{number_within}
use Rattle.fp_sound_types.specs.Shapes.{meant as shape_meant}
use Rattle.fp_sound_types.specs.declared.shapes.Shape.{Shape as ReadShape}
use Rattle.fp_sound_types.specs.declared.shapes.Shape.TheVariants as read
use Rattle.fp_scenario_actions.specs.Wanted.{Wanted, integer, truth, words, array, struct, constants, opaque, nothing, with_default, wanted, member, constant_named}
use Rattle.fp_scenario_actions.specs.Arguments.{Means, number, truth_value, text, constant, no_value, items, members, EachMeans, none, more, MembersMean, no_member, in_member}
use Rattle.fp_scenario_actions.specs.Made.{number_made, truth_made, text_made, null_made, completed, IsMade, IsMadeAt, AreMadeAt}

module _ (types : List TypeDef) where
  -- ---- what a value is that means something

  abbrev pub Fits : Wanted → json.Data → Type 0
  Fits (integer low high) (json.number n) = (z : ℤ) × (as_integer n ≡ Some z) × IsWithin low high z
  Fits truth (json.boolean b) = Unit {0}
  Fits words (json.string s) = Unit {0}
  Fits (constants cs) (json.string s) = (x : Constant) × (constant_named cs s ≡ Some x)
  Fits opaque json.null = Unit {0}
  Fits (array size k) (json.array ds) = (vs : List Value) × EachMeans types (wanted types k) ds vs × (length vs ≡ size)
  Fits (struct fields default) (json.object ms) = (given : List MemberValue) × MembersMean types fields ms given
  Fits _ _ = ⊥

  pub back : {w : Wanted} {d : json.Data} {v : Value} → Means types w d v → Fits w d
  back (number {z = z} e h) = (z, e, h)
  back truth_value = tt
  back text = tt
  back (constant {x = x} e) = (x, e)
  back no_value = tt
  back (items {vs = vs} h e) = (vs, h, e)
  back (members {given = given} h) = (given, h)

  -- ---- values without parts

  abbrev IsMadeOf : Option Value → shapes.Shape → json.Data → Option Value → Type 0
  IsMadeOf default s d made = IsMade types (with_default default s) d made

  pub null_is : (default : Option Value) (s : shapes.Shape) → IsMadeOf default s json.null (null_made s)
  null_is default shapes.opaque = no_value
  null_is default (shapes.integer low high) = λ v h. back h
  null_is default shapes.truth = λ v h. back h
  null_is default shapes.words = λ v h. back h
  null_is default (shapes.array size k) = λ v h. back h
  null_is (Some d) (shapes.struct fields) = λ v h. back h
  null_is None (shapes.struct fields) = λ v h. back h
  null_is default (shapes.constants cs) = λ v h. back h
  null_is default shapes.nothing = λ v h. back h

  pub truth_is : (default : Option Value) (s : shapes.Shape) (b : Bool) → IsMadeOf default s (json.boolean b) (truth_made s b)
  truth_is default shapes.truth b = truth_value
  truth_is default shapes.opaque b = λ v h. back h
  truth_is default (shapes.integer low high) b = λ v h. back h
  truth_is default shapes.words b = λ v h. back h
  truth_is default (shapes.array size k) b = λ v h. back h
  truth_is (Some d) (shapes.struct fields) b = λ v h. back h
  truth_is None (shapes.struct fields) b = λ v h. back h
  truth_is default (shapes.constants cs) b = λ v h. back h
  truth_is default shapes.nothing b = λ v h. back h

  within_is : (low high z : ℤ) (n : json.Num) (b : Bool) → as_integer n ≡ Some z → (int_le low z && int_le z high) ≡ b → IsMade types (integer low high) (json.number n) (cond b (Some (Int z)) None)
  within_is low high z n true e is = number e is
  within_is low high z n false e is = λ v h. let f = back h in not_both (subst (λ x. IsWithin low high x) (same_some (sym f.1 ∙ e)) f.2) is

  integer_is : (low high : ℤ) (n : json.Num) (o : Option ℤ) → as_integer n ≡ o → IsMade types (integer low high) (json.number n) (option_and_then (number_within low high) o)
  integer_is low high n None e = λ v h. none_some e (back h).1
  integer_is low high n (Some z) e = within_is low high z n (int_le low z && int_le z high) e refl

  pub number_is : (default : Option Value) (s : shapes.Shape) (n : json.Num) → IsMadeOf default s (json.number n) (number_made s n)
  number_is default (shapes.integer low high) n = integer_is low high n (as_integer n) refl
  number_is default shapes.opaque n = λ v h. back h
  number_is default shapes.truth n = λ v h. back h
  number_is default shapes.words n = λ v h. back h
  number_is default (shapes.array size k) n = λ v h. back h
  number_is (Some d) (shapes.struct fields) n = λ v h. back h
  number_is None (shapes.struct fields) n = λ v h. back h
  number_is default (shapes.constants cs) n = λ v h. back h
  number_is default shapes.nothing n = λ v h. back h

  constant_is : (cs : List Constant) (s : List ℕ) (o : Option Constant) → constant_named cs s ≡ o → IsMade types (constants cs) (json.string s) (option_map (λ (x : Constant). x.value) o)
  constant_is cs s None e = λ v h. none_some e (back h).1
  constant_is cs s (Some x) e = constant e

  pub text_is : (default : Option Value) (s : shapes.Shape) (t : List ℕ) → IsMadeOf default s (json.string t) (text_made s t)
  text_is default shapes.words t = text
  text_is default (shapes.constants cs) t = constant_is cs t (constant_named cs t) refl
  text_is default shapes.opaque t = λ v h. back h
  text_is default (shapes.integer low high) t = λ v h. back h
  text_is default shapes.truth t = λ v h. back h
  text_is default (shapes.array size k) t = λ v h. back h
  text_is (Some d) (shapes.struct fields) t = λ v h. back h
  text_is None (shapes.struct fields) t = λ v h. back h
  text_is default shapes.nothing t = λ v h. back h

  -- ---- lists

  each_snoc : (w : Wanted) (ds : List json.Data) (d : json.Data) (v : Value) {vs : List Value} → EachMeans types w (items_of ds) vs → Means types w d v → EachMeans types w (items_of (ds ++ d ∷ [])) (vs ++ v ∷ [])
  each_snoc w [] d v none g = more g none
  each_snoc w (e ∷ ds) d v (more h hs) g = more h (each_snoc w ds d v hs g)

  pub each_first : (w : Wanted) (made : List Value) → made ≡ [] → EachMeans types w (items_view []) made
  each_first w made is = subst (λ vs. EachMeans types w (items_view []) vs) (sym is) none

  pub each_next : (w : Wanted) (xs : List Json) (i : ℕ) (x : Json) (v : Value) (made longer : List Value) → i < length xs → x ≡ get_or xs i x
      → EachMeans types w (items_view (take i xs)) made → Means types w (view x) v → longer ≡ made ++ v ∷ [] → EachMeans types w (items_view (take (i + 1) xs)) longer
  each_next w xs i x v made longer lt is h g e =
      let grown : map view (take (i + 1) xs) ≡ map view (take i xs) ++ view x ∷ [] = ap (map view) (taken_next xs i x lt is) ∙ map-append view (take i xs) (x ∷ []) in
      subst (λ ds. EachMeans types w (items_of ds) longer) (sym grown) (subst (λ vs. EachMeans types w (items_of (map view (take i xs) ++ view x ∷ [])) vs) (sym e) (each_snoc w (map view (take i xs)) (view x) v h g))

  pub each_last : (w : Wanted) (xs : List Json) (i : ℕ) (made : List Value) → length xs ≤ i → EachMeans types w (items_view (take i xs)) made → EachMeans types w (items_view xs) made
  each_last w xs i made all h = subst (λ ys. EachMeans types w (items_view ys) made) (take_all i xs all) h

  each_at : (w : Wanted) (xs : List Json) (i : ℕ) (x : Json) {vs : List Value} → EachMeans types w (items_view xs) vs → slice_get xs i ≡ Some x → (v : Value) × Means types w (view x) v
  each_at w [] i x h e = absurd (cc)
  each_at w (y ∷ xs) zero x (more {v = v} h hs) e = (v, subst (λ z. Means types w (view z) v) (same_some e) h)
  each_at w (y ∷ xs) (suc i) x (more h hs) e = each_at w xs i x hs e

  pub each_none : (w : Wanted) (xs : List Json) (i : ℕ) (x : Json) → i < length xs → x ≡ get_or xs i x → ((v : Value) → Means types w (view x) v → ⊥) → (vs : List Value) → EachMeans types w (items_view xs) vs → ⊥
  each_none w xs i x lt is never vs h = let p = each_at w xs i x h (slice_get_read xs (length xs) i x refl lt is) in never p.0 p.1

  each_length : {w : Wanted} (ds : List json.Data) {vs : List Value} → EachMeans types w (items_of ds) vs → length vs ≡ length ds
  each_length [] none = refl
  each_length (d ∷ ds) (more h hs) = ap suc (each_length ds hs)

  pub list_is : (size : ℕ) (k : Kind) (xs : List Json) (vs : List Value) → length xs ≡ size → EachMeans types (wanted types k) (items_view xs) vs → Means types (array size k) (json.array (items_view xs)) (Array vs)
  list_is size k xs vs long h = items h (each_length (map view xs) h ∙ length-map xs view ∙ long)

  pub list_is_not : (size : ℕ) (k : Kind) (xs : List Json) → ((vs : List Value) → EachMeans types (wanted types k) (items_view xs) vs → ⊥) → (v : Value) → Means types (array size k) (json.array (items_view xs)) v → ⊥
  list_is_not size k xs h v g = let p = back g in h p.0 p.1

  pub other_length : (size : ℕ) (k : Kind) (xs : List Json) → (length xs ≡ size → ⊥) → IsMade types (array size k) (json.array (items_view xs)) None
  other_length size k xs differs = λ v g. let p = back g in differs (sym (each_length (map view xs) p.1 ∙ length-map xs view) ∙ p.2)

  pub no_list : (default : Option Value) (s : ReadShape) (ds : json.Items) → ((size : ℕ) (k : Kind) → s ≡ read.Array size k → ⊥) → IsMadeOf default (shape_meant s) (json.array ds) None
  no_list default (read.Array size k) ds h = absurd (h size k refl)
  no_list default (read.Integer low high) ds h = λ v g. back g
  no_list default read.Truth ds h = λ v g. back g
  no_list default read.Words ds h = λ v g. back g
  no_list (Some d) (read.Struct fields) ds h = λ v g. back g
  no_list None (read.Struct fields) ds h = λ v g. back g
  no_list default (read.Constants cs) ds h = λ v g. back g
  no_list default read.Opaque ds h = λ v g. back g
  no_list default read.Nothing ds h = λ v g. back g

  -- ---- objects

  members_snoc : (fields : List Field) (es : List Entry) (e : Entry) (f : Field) (v : Value) {given : List MemberValue} → MembersMean types fields (members_view es) given → member_named fields (string_bytes e.0) ≡ Some f
      → Means types (member types f) (view e.1) v → MembersMean types fields (members_view (es ++ e ∷ [])) (given ++ record { name = string_bytes e.0; value = v } ∷ [])
  members_snoc fields [] e f v no_member is g = in_member is g no_member
  members_snoc fields (x ∷ es) e f v (in_member d h hs) is g = in_member d h (members_snoc fields es e f v hs is g)

  pub members_first : (fields : List Field) (given : List MemberValue) → given ≡ [] → MembersMean types fields (members_view []) given
  members_first fields given is = subst (λ ps. MembersMean types fields (members_view []) ps) (sym is) no_member

  pub members_next : (fields : List Field) (es : List Entry) (e : Entry) (name : List ℕ) (v : Value) (given longer : List MemberValue) → MembersMean types fields (members_view es) given → name ≡ string_bytes e.0
      → IsMadeAt types fields (string_bytes e.0) (view e.1) (Some v) → longer ≡ given ++ record { name = name; value = v } ∷ [] → MembersMean types fields (members_view (es ++ e ∷ [])) longer
  members_next fields es e name v given longer h named g is =
      subst (λ ps. MembersMean types fields (members_view (es ++ e ∷ [])) ps) (sym (is ∙ ap (λ (n : List ℕ). given ++ record { name = n; value = v } ∷ []) named)) (members_snoc fields es e g.0 v h g.1 g.2)

  member_at : (fields : List Field) (es : List Entry) (e : Entry) (rest : List Entry) {given : List MemberValue} → MembersMean types fields (members_view (es ++ e ∷ rest)) given
      → (f : Field) × (v : Value) × (member_named fields (string_bytes e.0) ≡ Some f) × Means types (member types f) (view e.1) v
  member_at fields [] e rest (in_member {f = f} {v = v} d h hs) = (f, v, d, h)
  member_at fields (x ∷ es) e rest (in_member d h hs) = member_at fields es e rest hs

  pub members_none : (fields : List Field) (all es : List Entry) (e : Entry) (rest : List Entry) → all ≡ es ++ e ∷ rest → IsMadeAt types fields (string_bytes e.0) (view e.1) None
      → (given : List MemberValue) → MembersMean types fields (members_view all) given → ⊥
  members_none fields all es e rest is never given h =
      let p = member_at fields es e rest (subst (λ xs. MembersMean types fields (members_view xs) given) is h) in never p.0 p.1 p.2 p.3

  pub object_is : (fields : List Field) (default : Value) (ms : json.Members) (m : Option (List MemberValue)) → AreMadeAt types fields ms m → IsMade types (struct fields default) (json.object ms) (option_map (completed default) m)
  object_is fields default ms (Some given) h = members h
  object_is fields default ms None h = λ v g. let p = back g in h p.0 p.1

  pub no_object : (default : Option Value) (s : ReadShape) (ms : json.Members) → ((fields : _) → s ≡ read.Struct fields → ⊥) → IsMadeOf default (shape_meant s) (json.object ms) None
  no_object default (read.Struct fields) ms h = absurd (h fields refl)
  no_object default (read.Array size k) ms h = λ v g. back g
  no_object default (read.Integer low high) ms h = λ v g. back g
  no_object default read.Truth ms h = λ v g. back g
  no_object default read.Words ms h = λ v g. back g
  no_object default (read.Constants cs) ms h = λ v g. back g
  no_object default read.Opaque ms h = λ v g. back g
  no_object default read.Nothing ms h = λ v g. back g

  -- a struct without a default isn't one of the model
  pub no_default : (fields : List Field) (ms : json.Members) → IsMadeOf None (shapes.struct fields) (json.object ms) None
  no_default fields ms = λ v g. back g

  -- ---- one key

  pub named_is : (fields : List Field) (k : List ℕ) (d : json.Data) (f : Field) (w : Wanted) (m : Option Value) → Some f ≡ member_named fields k → w ≡ member types f → IsMade types w d m → IsMadeAt types fields k d m
  named_is fields k d f w (Some v) e is h = (f, sym e, subst (λ u. Means types u d v) is h)
  named_is fields k d f w None e is h = λ g v found means. h v (subst (λ u. Means types u d v) (ap (member types) (same_some (sym found ∙ sym e)) ∙ sym is) means)

  pub unnamed_is : (fields : List Field) (k : List ℕ) (d : json.Data) → None ≡ member_named fields k → IsMadeAt types fields k d None
  unnamed_is fields k d e = λ f v found means. none_some (sym e) found

  -- ---- carried along equations

  pub same_made : (w u : Wanted) (d e : json.Data) (m n : Option Value) → w ≡ u → d ≡ e → m ≡ n → IsMade types u e n → IsMade types w d m
  same_made w u d e m n p q r h = subst (λ x. IsMade types x d m) (sym p) (subst (λ x. IsMade types u x m) (sym q) (subst (λ x. IsMade types u e x) (sym r) h))

  pub made_some : (w : Wanted) (d : json.Data) (m : Option Value) (v : Value) → m ≡ Some v → IsMade types w d m → Means types w d v
  made_some w d m v e h = subst (λ x. IsMade types w d x) e h

  pub made_none : (w : Wanted) (d : json.Data) (m : Option Value) → m ≡ None → IsMade types w d m → (v : Value) → Means types w d v → ⊥
  made_none w d m e h = subst (λ x. IsMade types w d x) e h

  pub at_some : (fields : List Field) (k : List ℕ) (d : json.Data) (m : Option Value) (v : Value) → m ≡ Some v → IsMadeAt types fields k d m → IsMadeAt types fields k d (Some v)
  at_some fields k d m v e h = subst (λ x. IsMadeAt types fields k d x) e h

  pub at_none : (fields : List Field) (k : List ℕ) (d : json.Data) (m : Option Value) → m ≡ None → IsMadeAt types fields k d m → IsMadeAt types fields k d None
  at_none fields k d m e h = subst (λ x. IsMadeAt types fields k d x) e h
