-- What a JSON value means where a type is wanted is a value of the type.
use Rattle.std.proofs.Common.{◌≡◌, ℕ, zero, suc, Bool, true, false, cond, List, [], ◌∷◌, length, slice_get, Option, Some, None, refl, sym, ap, ◌∙◌, subst}
use Rattle.std.specs.Prelude.{find, option_map, unwrap_or}
use Rattle.std.specs.List.{list_all, list_any}
use Rattle.std.specs.Str.{bytes_eq}
use Rattle.fp_base.proofs.Bytes.{same_bytes}
use Rattle.serde_json.specs.Data as json
use Rattle.fp_base.specs.Same.{same}
use Rattle.fp_base.specs.declared.value.Value.{Value, Int, Bool as Truth, Text, Enumerated, Array', Struct', Opaque}
use Rattle.fp_base.specs.declared.value.MemberValue.{MemberValue}
use Rattle.fp_base.proofs.Bools.{both, join, or_left, or_right}
use Rattle.fp_base.proofs.Lists.{all_get}
use Rattle.fp_base.proofs.Options.{same_some, mapped_some}
use Rattle.fp_base.proofs.Sameness.{value_same}
use Rattle.fp_base.proofs.Numbers.{number_same}
use Rattle.fp_tables.specs.Arguments.{Scope, is_one_kind, argument_suits, arguments_suit}
use Rattle.fp_tables.specs.Lists.{all_beside, some_and}
use Rattle.fp_tables.specs.Machines.{target_by, follow}
use Rattle.fp_tables.specs.Names.{texts_differ}
use Rattle.fp_tables.specs.Sound.{HasSoundTypes, form_differs}
use Rattle.fp_tables.specs.Types as shapes
use Rattle.fp_tables.specs.Types.{Shape, has, has_kind, shape, shape_by, member_shape, of_form, form_at, part_has, is_constant_of, form_has_values, type_has_values}
use Rattle.fp_tables.specs.declared.kind.Kind.{Kind}
use Rattle.fp_tables.specs.declared.kind.Kind.TheVariants as kind
use Rattle.fp_tables.specs.declared.kind.Form.{Form}
use Rattle.fp_tables.specs.declared.kind.Form.TheVariants as form
use Rattle.fp_tables.specs.declared.kind.Field.{Field}
use Rattle.fp_tables.specs.declared.kind.Constant.{Constant}
use Rattle.fp_tables.specs.declared.kind.TypeDef.{TypeDef}
use Rattle.fp_tables.specs.declared.model.Model.{Model}
use Rattle.fp_tables.specs.declared.program.Arg.{Arg}
use Rattle.fp_tables.proofs.Aliases.{shape_of_form}
use Rattle.fp_tables.proofs.Shaped.{array_has, struct_has}
use Rattle.fp_types.specs.Converting.{member_named, parts_in, value_named}
use Rattle.fp_types.proofs.HasKind.{names, AreMeant, all_meant, AreGivenFor, next_given, no_given, given_has, parts_beside}
use Rattle.fp_scenario_actions.specs.Wanted.{Wanted, integer, truth, words, array, struct, constants, opaque, nothing, default_named, default_of, struct_with, with_default, wanted, member, constant_named, with_given}
use Rattle.fp_scenario_actions.specs.Arguments.{Means, number, truth_value, text, constant, no_value, items, members, EachMeans, none, more, MembersMean, no_member, in_member, IsArgument, bound as of_bound, value as of_value, AreArguments}

pub found_passes : {A : Type 0} (p q : A → Bool) (xs : List A) (x : A) → find p xs ≡ Some x → list_all q xs ≡ true → q x ≡ true
found_passes p q [] x e h = absurd (cc)
found_passes {A = A} p q (y ∷ xs) x e h = go (p y) e (both (q y) (list_all q xs) h) (found_passes p q xs x)
  where
    go : (b : Bool) → cond b (Some y) (find p xs) ≡ Some x → (q y ≡ true) × (list_all q xs ≡ true) → (find p xs ≡ Some x → list_all q xs ≡ true → q x ≡ true) → q x ≡ true
    go true e h rest = subst (λ (z : A). q z ≡ true) (same_some e) h.0
    go false e h rest = rest e h.1

-- ---- the shape of what is wanted

abbrev shape_in : Wanted → Shape
shape_in (integer low high) = shapes.integer low high
shape_in truth = shapes.truth
shape_in words = shapes.words
shape_in (array size k) = shapes.array size k
shape_in (struct fields default) = shapes.struct fields
shape_in (constants cs) = shapes.constants cs
shape_in opaque = shapes.opaque
shape_in nothing = shapes.nothing

module _ (types : List TypeDef) where
  -- the members of a struct differ and its default is one of its values, and constants are those of an enumeration
  abbrev AreOwn : List Constant → Type 0
  AreOwn cs = (name : List ℕ) × (repr : Kind) × (list_all (is_constant_of types name repr) cs ≡ true)

  abbrev IsGood : Shape → Type 0
  IsGood (shapes.struct fields) = texts_differ (names fields) ≡ true
  IsGood (shapes.constants cs) = AreOwn cs
  IsGood _ = Unit {0}

  abbrev IsSound : Wanted → Type 0
  IsSound (struct fields default) = (texts_differ (names fields) ≡ true) × (has types (shapes.struct fields) default ≡ true)
  IsSound (constants cs) = AreOwn cs
  IsSound _ = Unit {0}

  sound_struct : (o : Option Value) (fields : List Field) → texts_differ (names fields) ≡ true → ((d : Value) → o ≡ Some d → has types (shapes.struct fields) d ≡ true) → IsSound (struct_with o fields)
  sound_struct None fields good default = tt
  sound_struct (Some d) fields good default = (good, default d refl)

  sound_with : (o : Option Value) (s : Shape) → IsGood s → ((d : Value) → o ≡ Some d → has types s d ≡ true) → IsSound (with_default o s)
  sound_with o (shapes.integer low high) good default = tt
  sound_with o shapes.truth good default = tt
  sound_with o shapes.words good default = tt
  sound_with o (shapes.array size k) good default = tt
  sound_with o (shapes.struct fields) good default = sound_struct o fields good default
  sound_with o (shapes.constants cs) good default = good
  sound_with o shapes.opaque good default = tt
  sound_with o shapes.nothing good default = tt

  out_of_struct : (o : Option Value) (fields : List Field) (v : Value) → has types (shape_in (struct_with o fields)) v ≡ true → has types (shapes.struct fields) v ≡ true
  out_of_struct None fields v h = absurd (cc)
  out_of_struct (Some d) fields v h = h

  out_of : (o : Option Value) (s : Shape) (v : Value) → has types (shape_in (with_default o s)) v ≡ true → has types s v ≡ true
  out_of o (shapes.integer low high) v h = h
  out_of o shapes.truth v h = h
  out_of o shapes.words v h = h
  out_of o (shapes.array size k) v h = h
  out_of o (shapes.struct fields) v h = out_of_struct o fields v h
  out_of o (shapes.constants cs) v h = h
  out_of o shapes.opaque v h = h
  out_of o shapes.nothing v h = h

  all_out_of : (o : Option Value) (s : Shape) (vs : List Value) → list_all (has types (shape_in (with_default o s))) vs ≡ true → list_all (has types s) vs ≡ true
  all_out_of o s [] h = refl
  all_out_of o s (v ∷ vs) h = let p = both (has types (shape_in (with_default o s)) v) (list_all (has types (shape_in (with_default o s))) vs) h in join _ _ (out_of o s v p.0) (all_out_of o s vs p.1)

  abbrev sized_as : Option ℕ → Kind → Shape
  sized_as None k = shape types k
  sized_as (Some n) k = shapes.array n k

  shape_sized : (f : Field) (s : Option ℕ) → f.size ≡ s → member_shape types f ≡ sized_as s f.kind
  shape_sized f None is = rw is refl
  shape_sized f (Some n) is = rw is refl

  -- ---- constants

  own_has : (cs : List Constant) (of : List ℕ) (repr : Kind) (name : List ℕ) (v : Value) (note : List ℕ) → list_any (λ (y : Constant). same y.value v) cs ≡ true
      → is_constant_of types of repr (record { name = name; value = v; note = note }) ≡ true → has types (shapes.constants cs) v ≡ true
  own_has cs of repr name (Enumerated e c n) note any is = any
  own_has cs of repr name (Int n) note any is = absurd (cc)
  own_has cs of repr name (Truth b) note any is = absurd (cc)
  own_has cs of repr name (Text s) note any is = absurd (cc)
  own_has cs of repr name (Array' n vs) note any is = absurd (cc)
  own_has cs of repr name (Struct' n ps) note any is = absurd (cc)
  own_has cs of repr name Opaque note any is = absurd (cc)

  found_among : (p : Constant → Bool) (cs : List Constant) (x : Constant) → find p cs ≡ Some x → list_any (λ (y : Constant). same y.value x.value) cs ≡ true
  found_among p [] x e = absurd (cc)
  found_among p (c ∷ cs) x e = go (p c) e (found_among p cs x)
    where
      go : (b : Bool) → cond b (Some c) (find p cs) ≡ Some x → (find p cs ≡ Some x → list_any (λ (y : Constant). same y.value x.value) cs ≡ true) → list_any (λ (y : Constant). same y.value x.value) (c ∷ cs) ≡ true
      go true e rest =
          or_left (same c.value x.value) (list_any (λ (y : Constant). same y.value x.value) cs) (subst (λ (y : Constant). same y.value x.value ≡ true) (sym (same_some e)) (value_same.itself x.value))
      go false e rest = or_right (same c.value x.value) (list_any (λ (y : Constant). same y.value x.value) cs) (rest e)

  constant_has : (cs : List Constant) (s : List ℕ) (x : Constant) → constant_named cs s ≡ Some x → AreOwn cs → has types (shapes.constants cs) x.value ≡ true
  constant_has cs s x e own =
      own_has cs own.0 own.1 x.name x.value x.note (found_among (λ (y : Constant). bytes_eq y.name s) cs x e)
      (found_passes (λ (y : Constant). bytes_eq y.name s) (is_constant_of types own.0 own.1) cs x e own.2)

  -- ---- structs

  part_given : (all : List Field) (f : Field) (p : MemberValue) (given : List MemberValue) (o : Option Value) → AreGivenFor types all given → member_named all f.name ≡ Some f → value_named given f.name ≡ o → has types (member_shape types f) p.value ≡ true → has types (member_shape types f) (unwrap_or o p.value) ≡ true
  part_given all f p given None are is found own = own
  part_given all f p given (Some w) are is found own = given_has types all f w given are is found

  given_beside : (all : List Field) (given : List MemberValue) (fs : List Field) (ps : List MemberValue) → AreGivenFor types all given → AreMeant all fs → all_beside (part_has types) fs ps ≡ true
      → all_beside (part_has types) fs (with_given given ps) ≡ true
  given_beside all given [] [] are meant h = refl
  given_beside all given [] (p ∷ ps) are meant h = absurd (cc)
  given_beside all given (f ∷ fs) [] are meant h = absurd (cc)
  given_beside all given (f ∷ fs) (p ∷ ps) are meant h =
      let halves = both (part_has types f p) (all_beside (part_has types) fs ps) h in
      let here = both (bytes_eq p.name f.name) (has types (member_shape types f) p.value) halves.0 in
      let same_name : p.name ≡ f.name = same_bytes p.name f.name here.0 in
      join _ _ (join _ _ here.0 (part_given all f p given (value_named given p.name) are meant.0 (ap (value_named given) (sym same_name)) here.1)) (given_beside all given fs ps are meant.1 halves.1)

-- ---- all values

module _ (m : Model) (sound : HasSoundTypes m) where
  has_values : (i : ℕ) (d : TypeDef) → slice_get m.types i ≡ Some d → (form_has_values m.types d.name d.form ≡ true) × (has m.types (of_form (shape m.types) d.form) d.default ≡ true)
  has_values i d at = both (form_has_values m.types d.name d.form) (has m.types (of_form (shape m.types) d.form) d.default) (all_get (type_has_values m.types) m.types i d sound.types_have_their_values at)

  good_form : (n i : ℕ) (d : TypeDef) (f : Form) → slice_get m.types i ≡ Some d → d.form ≡ f → ((k : Kind) → IsGood m.types (shape_by m.types n k)) → IsGood m.types (of_form (shape_by m.types n) f)
  good_form n i d form.Abstract at is good = tt
  good_form n i d (form.Alias k) at is good = good k
  good_form n i d (form.Array size element format) at is good = tt
  good_form n i d (form.Struct fields) at is good = subst (λ (f : Form). form_differs f ≡ true) is (all_get (λ (x : TypeDef). form_differs x.form) m.types i d sound.members_differ at)
  good_form n i d (form.Enum repr cs) at is good =
      (d.name, repr, subst (λ (f : Form). form_has_values m.types d.name f ≡ true) is (has_values i d at).0)

  good_by : (n : ℕ) (k : Kind) → IsGood m.types (shape_by m.types n k)
  good_by n kind.U8 = tt
  good_by n kind.U16 = tt
  good_by n kind.U32 = tt
  good_by n kind.U64 = tt
  good_by n kind.I8 = tt
  good_by n kind.I16 = tt
  good_by n kind.I32 = tt
  good_by n kind.I64 = tt
  good_by n kind.Bool = tt
  good_by n (kind.Str size) = tt
  good_by zero (kind.Named i) = tt
  good_by (suc n) (kind.Named i) = go (form_at m.types i) refl (good_by n)
    where
      go : (o : Option Form) → form_at m.types i ≡ o → ((k : Kind) → IsGood m.types (shape_by m.types n k)) → IsGood m.types (shape_by m.types (suc n) (kind.Named i))
      go None is good = rw is tt
      go (Some f) is good = let d = mapped_some (λ (x : TypeDef). x.form) (slice_get m.types i) f is in rw is (good_form n i d.0 f d.1 d.2 good)

  -- ---- defaults

  own_default : (i : ℕ) (d : TypeDef) → slice_get m.types i ≡ Some d → has m.types (shape m.types (kind.Named i)) d.default ≡ true
  own_default i d at =
      ap (λ (s : Shape). has m.types s d.default) (shape_of_form m.types sound.no_type_uses_itself i d.form (ap (option_map (λ (x : TypeDef). x.form)) at))
      ∙ (has_values i d at).1

  named_default : (k : Kind) (d : Value) → default_named m.types k ≡ Some d → has m.types (shape m.types k) d ≡ true
  named_default (kind.Named i) d e =
      let p = mapped_some (λ (x : TypeDef). x.default) (slice_get m.types i) d e in
      subst (λ (w : Value). has m.types (shape m.types (kind.Named i)) w ≡ true) p.2 (own_default i p.0 p.1)
  named_default _ d e = absurd (cc)

  default_by : (n : ℕ) (k : Kind) (d : Value) → default_named m.types (target_by m.types n k) ≡ Some d → has m.types (shape m.types k) d ≡ true
  unfolding target_by
  default_by zero k d e = named_default k d e
  default_by (suc n) (kind.Named i) d e = go (form_at m.types i) refl e (λ j. default_by n j d)
    where
      go : (o : Option Form) → form_at m.types i ≡ o → default_named m.types (follow (target_by m.types n) (kind.Named i) o) ≡ Some d
          → ((j : Kind) → default_named m.types (target_by m.types n j) ≡ Some d → has m.types (shape m.types j) d ≡ true) → has m.types (shape m.types (kind.Named i)) d ≡ true
      go (Some (form.Alias j)) is e rest = ap (λ (s : Shape). has m.types s d) (shape_of_form m.types sound.no_type_uses_itself i (form.Alias j) is) ∙ rest j e
      go _ is e rest = named_default (kind.Named i) d e
  default_by (suc n) _ d e = absurd (cc)

  kind_sound : (k : Kind) → IsSound m.types (wanted m.types k)
  kind_sound k = sound_with m.types (default_of m.types k) (shape m.types k) (good_by (suc (length m.types)) k) (λ d e. default_by (length m.types) k d e)

  sized_sound : (f : Field) (s : Option ℕ) → f.size ≡ s → IsSound m.types (member m.types f)
  sized_sound f None is = subst (λ (s : Shape). IsSound m.types (with_default (default_of m.types f.kind) s)) (sym (shape_sized m.types f None is)) (kind_sound f.kind)
  sized_sound f (Some n) is = subst (λ (s : Shape). IsSound m.types (with_default (default_of m.types f.kind) s)) (sym (shape_sized m.types f (Some n) is)) tt

  mutual
    has_meant : {w : Wanted} {d : json.Data} {v : Value} → Means m.types w d v → IsSound m.types w → has m.types (shape_in w) v ≡ true
    has_meant (number e h) good = h
    has_meant truth_value good = refl
    has_meant text good = refl
    has_meant (constant {s = s} {cs = cs} {x = x} e) good = constant_has m.types cs s x e good
    has_meant no_value good = refl
    has_meant (items {size = size} {k = k} {vs = vs} h long) good =
        array_has m.types size k vs ∙ join _ _ (number_same _ _ long) (all_out_of m.types (default_of m.types k) (shape m.types k) vs (each_has h (kind_sound k)))
    has_meant (members {fields = fields} {default = default} {given = given} h) good =
        struct_has m.types fields (with_given given (parts_in default))
        ∙ given_beside m.types fields given fields (parts_in default) (are_given h) (all_meant fields good.0) (parts_beside m.types fields default good.1)

    each_has : {w : Wanted} {ds : json.Items} {vs : List Value} → EachMeans m.types w ds vs → IsSound m.types w → list_all (has m.types (shape_in w)) vs ≡ true
    each_has none good = refl
    each_has (more h hs) good = join _ _ (has_meant h good) (each_has hs good)

    are_given : {fields : List Field} {ms : json.Members} {given : List MemberValue} → MembersMean m.types fields ms given → AreGivenFor m.types fields given
    are_given (no_member {fields = fields}) = no_given m.types fields
    are_given (in_member {fields = fields} {f = f} {k = k} {v = v} {given = given} is h hs) =
        next_given m.types fields (record { name = k; value = v }) f v given is (out_of m.types (default_of m.types f.kind) (member_shape m.types f) v (has_meant h (sized_sound f f.size refl))) (are_given hs)

  pub meant_kind : (k : Kind) (d : json.Data) (v : Value) → Means m.types (wanted m.types k) d v → has_kind m.types k v ≡ true
  meant_kind k d v h = out_of m.types (default_of m.types k) (shape m.types k) v (has_meant h (kind_sound k))

  -- ---- arguments

  argument_kind : {scope : Scope} {k : Kind} {d : json.Data} {a : Arg} → IsArgument m.types scope k d a → argument_suits m.types scope k a ≡ true
  argument_kind {k = k} (of_bound is found one) = ap (some_and (λ j. is_one_kind m.types j k)) found ∙ one
  argument_kind {k = k} {d = d} (of_value {v = v} is h) = meant_kind k d v h

  pub arguments_kinds : (scope : Scope) (ks : List Kind) (ds : List json.Data) (as_ : List Arg) → AreArguments m.types scope ks ds as_ → arguments_suit m.types scope ks as_ ≡ true
  arguments_kinds scope [] [] [] h = refl
  arguments_kinds scope [] [] (b ∷ bs) h = absurd h
  arguments_kinds scope [] (e ∷ es) bs h = absurd h
  arguments_kinds scope (k ∷ ks) [] bs h = absurd h
  arguments_kinds scope (k ∷ ks) (d ∷ ds) [] h = absurd h
  arguments_kinds scope (k ∷ ks) (d ∷ ds) (a ∷ as_) h = join _ _ (argument_kind h.0) (arguments_kinds scope ks ds as_ h.1)
