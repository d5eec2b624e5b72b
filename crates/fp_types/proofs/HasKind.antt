-- What a value becomes in a type, and the default of a type, are values of the type.
use Rattle.std.proofs.Common.{◌≡◌, ℕ, zero, suc, Bool, true, false, not, cond, ◌&&◌, List, [], ◌∷◌, map, length, replicate, slice_get, Option, Some, None, refl, sym, ap, ◌∙◌, subst}
use Rattle.std.specs.Prelude.{ℤ, pos, int_le, find, option_map}
use Rattle.std.specs.List.{list_all, list_any}
use Rattle.std.specs.Str.{bytes_eq}
use Rattle.std.proofs.lemmas.Slice.Eq.{bytes_eq-Decides}
use Rattle.std.proofs.lemmas.List.{length-replicate}
use Rattle.fp_base.specs.Same.{same}
use Rattle.fp_base.proofs.Bools.{both, neither, join, not_true}
use Rattle.fp_base.proofs.Options.{same_some}
use Rattle.fp_base.proofs.Sameness.{value_same}
use Rattle.fp_base.proofs.Bytes.{bytes_itself}
use Rattle.fp_base.proofs.Numbers.{number_same}
use Rattle.fp_base.specs.declared.value.Value.{Value, Enumerated, out-Value, roll-Value, roll-out-Value}
use Rattle.fp_base.specs.declared.value.Value.TheOpen as value
use Rattle.fp_base.specs.declared.value.Value.TheVariants as rolled
use Rattle.fp_base.specs.declared.value.MemberValue.{MemberValue}
use Rattle.fp_tables.specs.Lists.{all_beside}
use Rattle.fp_tables.specs.Names.{texts_differ}
use Rattle.fp_tables.specs.Types as shapes
use Rattle.fp_tables.specs.Types.{Shape, has, has_kind, shape, member_shape, of_form, part_has}
use Rattle.fp_tables.specs.declared.kind.Kind.{Kind}
use Rattle.fp_tables.specs.declared.kind.Kind.TheVariants as kind
use Rattle.fp_tables.specs.declared.kind.Form.{Form}
use Rattle.fp_tables.specs.declared.kind.Form.TheVariants as form
use Rattle.fp_tables.specs.declared.kind.Field.{Field}
use Rattle.fp_tables.specs.declared.kind.Constant.{Constant}
use Rattle.fp_tables.specs.declared.kind.TypeDef.{TypeDef}
use Rattle.fp_tables.proofs.Aliases.{shape_of_form}
use Rattle.fp_tables.proofs.Shaped.{array_has, struct_has}
use Rattle.fp_type_sizes.specs.declared.written.WrittenType.{WrittenType}
use Rattle.fp_type_sizes.specs.Sizes.{IsPlain, HasForm}
use Rattle.fp_types.specs.declared.target.Rest.{Rest}
use Rattle.fp_types.specs.declared.target.Rest.TheVariants.{OfStruct, OfMembers}
use Rattle.fp_types.specs.Converting.{Opened, Target, integer, truth, words, array, struct, constants, opaque, of_kind, plain_target, form_target, member_target, member, member_named, parts_in, part_for, value_named, Becomes, number, numbered, truth_value, text, constant, part_by_part, member_by_member, in_each_part, in_each_member, in_plain, in_named, EachBecomes, none, more, MembersBecome, no_part, part, BecomesInEach, no_member, in_member, Completes, no_field, given_here, left_out, Rests, in_struct, in_type, Default, zero as zero_default, untrue, empty, repeated, of_each, first, the_one, plainly, by_form, by_value, Converts, DefaultIs}
use Rattle.fp_types.specs.WellWritten.{AreWellWritten, AllGiven}
use Rattle.fp_types.proofs.AllGiven.{form_in, no_self}

all_copies : {A : Type 0} (p : A → Bool) (n : ℕ) (x : A) → p x ≡ true → list_all p (replicate n x) ≡ true
all_copies p zero x h = refl
all_copies p (suc n) x h = join (p x) (list_all p (replicate n x)) h (all_copies p n x h)

-- ---- a member by its name

-- each field is the one that its name means
abbrev pub AreMeant : List Field → List Field → Type 0
AreMeant all [] = Unit {0}
AreMeant all (f ∷ fs) = (member_named all f.name ≡ Some f) × AreMeant all fs

abbrev pub names : List Field → List (List ℕ)
names fs = map (λ (f : Field). f.name) fs

later : (g : Field) (gs : List Field) (name : List ℕ) (f : Field) → bytes_eq g.name name ≡ false → member_named gs name ≡ Some f → member_named (g ∷ gs) name ≡ Some f
later g gs name f differs h = rw differs h

lifted : (g : Field) (gs fs : List Field) → list_any (bytes_eq g.name) (names fs) ≡ false → AreMeant gs fs → AreMeant (g ∷ gs) fs
lifted g gs [] differs h = tt
lifted g gs (f ∷ fs) differs h =
    let p = neither (bytes_eq g.name f.name) (list_any (bytes_eq g.name) (names fs)) differs in
    (later g gs f.name f p.0 h.0, lifted g gs fs p.1 h.1)

pub all_meant : (fields : List Field) → texts_differ (names fields) ≡ true → AreMeant fields fields
all_meant [] e = tt
all_meant (f ∷ fs) e =
    let p = both (not (list_any (bytes_eq f.name) (names fs))) (texts_differ (names fs)) e in
    (rw (bytes_itself f.name) refl, lifted f fs fs (not_true _ p.0) (all_meant fs p.1))

module _ (types : List TypeDef) where
  -- ---- the shape of a target

  abbrev pub shape_of : Target → Shape
  shape_of (integer low high) = shapes.integer low high
  shape_of truth = shapes.truth
  shape_of words = shapes.words
  shape_of (array size k) = shapes.array size k
  shape_of (struct rest fields) = shapes.struct fields
  shape_of (constants cs) = shapes.constants cs
  shape_of opaque = shapes.opaque
  shape_of (of_kind k) = shape types k

  plain_shape : (k : Kind) → IsPlain k → shape types k ≡ shape_of (plain_target k)
  plain_shape kind.U8 p = refl
  plain_shape kind.U16 p = refl
  plain_shape kind.U32 p = refl
  plain_shape kind.U64 p = refl
  plain_shape kind.I8 p = refl
  plain_shape kind.I16 p = refl
  plain_shape kind.I32 p = refl
  plain_shape kind.I64 p = refl
  plain_shape kind.Bool p = refl
  plain_shape (kind.Str size) p = refl
  plain_shape (kind.Named i) p = absurd p

  target_shape : (r : Rest) (f : Form) → of_form (shape types) f ≡ shape_of (form_target r f)
  target_shape r form.Abstract = refl
  target_shape r (form.Alias k) = refl
  target_shape r (form.Array size element format) = refl
  target_shape r (form.Struct fields) = refl
  target_shape r (form.Enum repr cs) = refl

  pub sized_shape : (f : Field) (s : Option ℕ) → f.size ≡ s → member_shape types f ≡ shape_of (member f)
  sized_shape f None is = rw is refl
  sized_shape f (Some n) is = rw is refl

  member_has : (f : Field) (w : Value) → has types (shape_of (member f)) w ≡ true → has types (member_shape types f) w ≡ true
  member_has f w h = ap (λ (s : Shape). has types s w) (sized_shape f f.size refl) ∙ h

  part_for_has : (f : Field) (w : Value) → has types (member_shape types f) w ≡ true → part_has types f (part_for f w) ≡ true
  part_for_has f w h = join (bytes_eq f.name f.name) (has types (member_shape types f) w) (bytes_itself f.name) h

  -- ---- values given for members

  -- each has the shape of the member that it names
  pub AreGivenFor : List Field → List MemberValue → Type 0
  AreGivenFor all given = (name : List ℕ) (q : MemberValue) → find (λ (p : MemberValue). bytes_eq p.name name) given ≡ Some q → (g : Field) × (member_named all name ≡ Some g) × (has types (member_shape types g) q.value ≡ true)

  pub next_given : (all : List Field) (p : MemberValue) (f : Field) (w : Value) (given : List MemberValue) → member_named all p.name ≡ Some f → has types (member_shape types f) w ≡ true → AreGivenFor all given
      → AreGivenFor all (record { name = p.name; value = w } ∷ given)
  unfolding AreGivenFor
  next_given all p f w given is h rest name q found = go (bytes_eq p.name name) refl found
    where
      go : (b : Bool) → bytes_eq p.name name ≡ b → cond b (Some (record { name = p.name; value = w })) (find (λ (x : MemberValue). bytes_eq x.name name) given) ≡ Some q
          → (g : Field) × (member_named all name ≡ Some g) × (has types (member_shape types g) q.value ≡ true)
      go true same e =
          let named : p.name ≡ name = (bytes_eq-Decides p.name name).0 same in
          (f, ap (member_named all) (sym named) ∙ is, ap (λ (x : MemberValue). has types (member_shape types f) x.value) (sym (same_some e)) ∙ h)
      go false same e = rest name q e

  pub no_given : (all : List Field) → AreGivenFor all []
  unfolding AreGivenFor
  no_given all name q found = absurd (cc)

  -- the value that is given for a member
  pub given_has : (all : List Field) (f : Field) (w : Value) (given : List MemberValue) → AreGivenFor all given → member_named all f.name ≡ Some f → value_named given f.name ≡ Some w
      → has types (member_shape types f) w ≡ true
  unfolding AreGivenFor
  given_has all f w given are_given is named = go (find (λ (p : MemberValue). bytes_eq p.name f.name) given) refl named
    where
      go : (o : Option MemberValue) → find (λ (p : MemberValue). bytes_eq p.name f.name) given ≡ o → option_map (λ (p : MemberValue). p.value) o ≡ Some w → has types (member_shape types f) w ≡ true
      go None found e = absurd (cc)
      go (Some q) found e =
          let g = are_given f.name q found in
          let one : g.0 ≡ f = same_some (sym g.1 ∙ is) in
          ap (has types (member_shape types f)) (sym (same_some e)) ∙ subst (λ (x : Field). has types (member_shape types x) q.value ≡ true) one g.2

  -- the parts of a value of a struct are given for its members
  beside_given : (fields : List Field) (ps : List MemberValue) → all_beside (part_has types) fields ps ≡ true → AreGivenFor fields ps
  unfolding AreGivenFor
  beside_given [] [] h name q found = absurd (cc)
  beside_given [] (p ∷ ps) h name q found = absurd (cc)
  beside_given (f ∷ fs) [] h name q found = absurd (cc)
  beside_given (f ∷ fs) (p ∷ ps) h name q found =
      let halves = both (part_has types f p) (all_beside (part_has types) fs ps) h in
      let here = both (bytes_eq p.name f.name) (has types (member_shape types f) p.value) halves.0 in
      let same : p.name ≡ f.name = (bytes_eq-Decides p.name f.name).0 here.0 in
      go (bytes_eq p.name name) refl found (ap (λ (n : List ℕ). bytes_eq n name) (sym same)) here.1 (beside_given fs ps halves.1 name q)
    where
      go : (b : Bool) → bytes_eq p.name name ≡ b → cond b (Some p) (find (λ (x : MemberValue). bytes_eq x.name name) ps) ≡ Some q → bytes_eq f.name name ≡ bytes_eq p.name name
          → has types (member_shape types f) p.value ≡ true
          → (find (λ (x : MemberValue). bytes_eq x.name name) ps ≡ Some q → (g : Field) × (member_named fs name ≡ Some g) × (has types (member_shape types g) q.value ≡ true))
          → (g : Field) × (member_named (f ∷ fs) name ≡ Some g) × (has types (member_shape types g) q.value ≡ true)
      go true is e at has_value rest =
          (f, ap (λ (b : Bool). cond b (Some f) (member_named fs name)) (at ∙ is), ap (λ (x : MemberValue). has types (member_shape types f) x.value) (sym (same_some e)) ∙ has_value)
      go false is e at has_value rest = let r = rest e in (r.0, ap (λ (b : Bool). cond b (Some f) (member_named fs name)) (at ∙ is) ∙ r.1, r.2)

  default_parts : (fields : List Field) (d : Value) (o : Opened) → out-Value d ≡ o → has types (shapes.struct fields) (roll-Value o) ≡ true → all_beside (part_has types) fields (parts_in d) ≡ true
  unfolding roll-Value denote.Hole.Carrier.roll
  default_parts fields d (value.Struct parts) is h = rw is (sym (struct_has types fields parts) ∙ ap (has types (shapes.struct fields)) (rolled.rolls-Struct parts) ∙ h)
  default_parts fields d (value.Int n) is h = absurd (let e : false ≡ true = ap (has types (shapes.struct fields)) (rolled.rolls-Int n) ∙ h in cc)
  default_parts fields d (value.Bool b) is h = absurd (let e : false ≡ true = ap (has types (shapes.struct fields)) (rolled.rolls-Bool b) ∙ h in cc)
  default_parts fields d (value.Text t) is h = absurd (let e : false ≡ true = ap (has types (shapes.struct fields)) (rolled.rolls-Text t) ∙ h in cc)
  default_parts fields d (value.Enumerated of name n) is h = absurd (let e : false ≡ true = ap (has types (shapes.struct fields)) (rolled.rolls-Enumerated of name n) ∙ h in cc)
  default_parts fields d (value.Array items) is h = absurd (let e : false ≡ true = ap (has types (shapes.struct fields)) (rolled.rolls-Array items) ∙ h in cc)
  default_parts fields d value.Opaque is h = absurd (let e : false ≡ true = ap (has types (shapes.struct fields)) rolled.rolls-Opaque ∙ h in cc)

  pub parts_beside : (fields : List Field) (d : Value) → has types (shapes.struct fields) d ≡ true → all_beside (part_has types) fields (parts_in d) ≡ true
  parts_beside fields d h = default_parts fields d (out-Value d) refl (ap (has types (shapes.struct fields)) (roll-out-Value d) ∙ h)

each_length : {ws : List WrittenType} {k : Kind} {vs xs : List Value} → EachBecomes ws k vs xs → length xs ≡ length vs
each_length none = refl
each_length (more h hs) = ap suc (each_length hs)

module _ (ws : List WrittenType) (types : List TypeDef) (well : AreWellWritten ws) (are : AllGiven ws types) where
  -- a target that is one of a type
  abbrev IsEnumerated : Value → Type 0
  IsEnumerated v = (of : List ℕ) × (name : List ℕ) × (n : ℤ) × (v ≡ Enumerated of name n)

  abbrev GoodRest : Rest → List Field → Type 0
  GoodRest (OfStruct i) fields = HasForm ws i (form.Struct fields)
  GoodRest OfMembers fields = Unit {0}

  abbrev Good : Target → Type 0
  Good (integer low high) = (int_le low (pos 0) && int_le (pos 0) high) ≡ true
  Good (struct rest fields) = (texts_differ (names fields) ≡ true) × GoodRest rest fields
  Good (constants cs) = (c : Constant) → slice_get cs 0 ≡ Some c → IsEnumerated c.value
  Good _ = Unit {0}

  good_plain : (k : Kind) → IsPlain k → Good (plain_target k)
  good_plain kind.U8 p = refl
  good_plain kind.U16 p = refl
  good_plain kind.U32 p = refl
  good_plain kind.U64 p = refl
  good_plain kind.I8 p = refl
  good_plain kind.I16 p = refl
  good_plain kind.I32 p = refl
  good_plain kind.I64 p = refl
  good_plain kind.Bool p = tt
  good_plain (kind.Str size) p = tt
  good_plain (kind.Named i) p = absurd p

  good_form : (r : Rest) (i : ℕ) (f : Form) → HasForm ws i f → ((fields : List Field) → f ≡ form.Struct fields → GoodRest r fields) → Good (form_target r f)
  good_form r i form.Abstract h rest = tt
  good_form r i (form.Alias k) h rest = tt
  good_form r i (form.Array size element format) h rest = tt
  good_form r i (form.Struct fields) h rest = (well.members_differ i (form.Struct fields) h, rest fields refl)
  good_form r i (form.Enum repr cs) h rest = λ c e. let own = well.constants_are_own i h.written (form.Enum repr cs) h.here h.form 0 c e in (h.written.name, c.name, own.number, own.value)

  good_named : (i : ℕ) (f : Form) → HasForm ws i f → Good (form_target (OfStruct i) f)
  good_named i f h = good_form (OfStruct i) i f h (λ fields e. subst (λ (x : Form). HasForm ws i x) e h)

  good_own : (i : ℕ) (f : Form) → HasForm ws i f → Good (form_target OfMembers f)
  good_own i f h = good_form OfMembers i f h (λ fields e. tt)

  good_sized : (s : Option ℕ) (k : Kind) → Good (member_target s k)
  good_sized None k = tt
  good_sized (Some n) k = tt

  pub named_shape : (r : Rest) (i : ℕ) (f : Form) → HasForm ws i f → shape types (kind.Named i) ≡ shape_of types (form_target r f)
  named_shape r i f h = shape_of_form types (no_self ws types are) i f (form_in ws types are i f h) ∙ target_shape types r f

  has_at : (s t : Shape) (w : Value) → s ≡ t → has types t w ≡ true → has types s w ≡ true
  has_at s t w e h = ap (λ (x : Shape). has types x w) e ∙ h

  first_has : (cs : List Constant) (c : Constant) → IsEnumerated c.value → has types (shapes.constants (c ∷ cs)) c.value ≡ true
  first_has cs c (of, name, n, e) =
      let itself : same c.value (Enumerated of name n) ≡ true = subst (λ (v : Value). same c.value v ≡ true) e (value_same.itself c.value) in
      ap (has types (shapes.constants (c ∷ cs))) e ∙ rw itself refl

  mutual
    has_target : {o : Opened} {t : Target} {w : Value} → Good t → Becomes ws o t w → has types (shape_of types t) w ≡ true
    has_target good (number h) = h
    has_target good (numbered h) = h
    has_target good truth_value = refl
    has_target good text = refl
    has_target good (constant h) = h
    has_target good (part_by_part {made = made} {size = size} {k = k} long h) =
        array_has types size k made ∙ join _ _ (number_same _ _ (each_length h ∙ long)) (each_has h)
    has_target good (in_each_part {size = size} {k = k} {w = w} s h) =
        array_has types size k (replicate size w) ∙ join _ _ (number_same _ _ (length-replicate size w)) (all_copies (has types (shape types k)) size w (has_target tt h))
    has_target good (member_by_member {made = made} {fields = fields} h c) =
        struct_has types fields made ∙ completes_has fields good (all_meant fields good.0) (are_given h) c
    has_target good (in_each_member {fields = fields} {made = made} s h) = struct_has types fields made ∙ each_member_has h
    has_target good (in_plain {k = k} {w = w} p h) = has_at (shape types k) (shape_of types (plain_target k)) w (plain_shape types k p) (has_target (good_plain k p) h)
    has_target good (in_named {i = i} {f = f} {w = w} g s h) =
        has_at (shape types (kind.Named i)) (shape_of types (form_target (OfStruct i) f)) w (named_shape (OfStruct i) i f g) (has_target (good_named i f g) h)

    each_has : {k : Kind} {vs xs : List Value} → EachBecomes ws k vs xs → list_all (has types (shape types k)) xs ≡ true
    each_has none = refl
    each_has (more h hs) = join _ _ (has_target tt h) (each_has hs)

    are_given : {fields : List Field} {ps given : List MemberValue} → MembersBecome ws fields ps given → AreGivenFor types fields given
    are_given (no_part {fields = fields}) = no_given types fields
    are_given (part {fields = fields} {p = p} {f = f} {w = w} {given = given} is h hs) =
        next_given types fields p f w given is (member_has types f w (has_target (good_sized f.size f.kind) h)) (are_given hs)

    each_member_has : {o : Opened} {fs : List Field} {made : List MemberValue} → BecomesInEach ws o fs made → all_beside (part_has types) fs made ≡ true
    each_member_has no_member = refl
    each_member_has (in_member {f = f} {w = w} h hs) = join _ _ (part_for_has types f w (member_has types f w (has_target (good_sized f.size f.kind) h))) (each_member_has hs)

    completes_has : (all : List Field) {r : Rest} {given made : List MemberValue} {fs : List Field} → Good (struct r all) → AreMeant all fs → AreGivenFor types all given → Completes ws r given fs made
        → all_beside (part_has types) fs made ≡ true
    completes_has all good meant given no_field = refl
    completes_has all good meant given (given_here {given = gs} {f = f} {w = w} e c) =
        join _ _ (part_for_has types f w (given_has types all f w gs given meant.0 e)) (completes_has all good meant.1 given c)
    completes_has all good meant given (left_out {f = f} {w = w} e l c) =
        join _ _ (part_for_has types f w (rest_has all f good meant.0 l)) (completes_has all good meant.1 given c)

    rest_has : (all : List Field) {r : Rest} (f : Field) {w : Value} → Good (struct r all) → member_named all f.name ≡ Some f → Rests ws r f w → has types (member_shape types f) w ≡ true
    rest_has all f good meant (in_struct {i = i} {d = d} {w = w} h e) =
        given_has types all f w (parts_in d) (beside_given types all (parts_in d) (parts_beside types all d (has_at (shapes.struct all) (shape types (kind.Named i)) d (sym (named_shape OfMembers i (form.Struct all) good.1)) (default_has tt h)))) meant e
    rest_has all f good meant (in_type {w = w} h) = member_has types f w (default_has (good_sized f.size f.kind) h)

    pub default_has : {t : Target} {w : Value} → Good t → Default ws t w → has types (shape_of types t) w ≡ true
    default_has good zero_default = good
    default_has good untrue = refl
    default_has good empty = refl
    default_has good (repeated {size = size} {k = k} {w = w} h) =
        array_has types size k (replicate size w) ∙ join _ _ (number_same _ _ (length-replicate size w)) (all_copies (has types (shape types k)) size w (default_has tt h))
    default_has good (of_each {fields = fields} {made = made} c) = struct_has types fields made ∙ completes_has fields good (all_meant fields good.0) (no_given types fields) c
    default_has good (first {c = c} {cs = cs}) = first_has cs c (good c refl)
    default_has good the_one = refl
    default_has good (plainly {k = k} {w = w} p h) = has_at (shape types k) (shape_of types (plain_target k)) w (plain_shape types k p) (default_has (good_plain k p) h)
    default_has good (by_form {i = i} {f = f} {w = w} g s o h) =
        has_at (shape types (kind.Named i)) (shape_of types (form_target OfMembers f)) w (named_shape OfMembers i f g) (default_has (good_own i f g) h)
    default_has good (by_value {i = i} {f = f} {w = w} g s o h) =
        has_at (shape types (kind.Named i)) (shape_of types (form_target OfMembers f)) w (named_shape OfMembers i f g) (has_target (good_own i f g) h)

  pub converted_has_kind : (v : Value) (k : Kind) (w : Value) → Converts ws v k w → has_kind types k w ≡ true
  converted_has_kind v k w h = has_target tt h

  pub default_has_kind : (k : Kind) (w : Value) → DefaultIs ws k w → has_kind types k w ≡ true
  default_has_kind k w h = default_has tt h
