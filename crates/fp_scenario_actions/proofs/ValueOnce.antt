-- A JSON value means one value, and is one argument.
use Rattle.std.proofs.Common.{◌≡◌, ℕ, List, [], ◌∷◌, Some, refl, sym, ap, ap₂, ◌∙◌, subst}
use Rattle.serde_json.specs.Data as json
use Rattle.serde_json.specs.Find.{as_integer}
use Rattle.fp_base.specs.declared.value.Value.{Value, Int, Bool as Truth, Text, Array, Struct, Opaque}
use Rattle.fp_base.specs.declared.value.MemberValue.{MemberValue}
use Rattle.fp_base.proofs.Options.{one_some, none_some}
use Rattle.fp_tables.specs.Arguments.{Scope}
use Rattle.fp_tables.specs.declared.kind.Kind.{Kind}
use Rattle.fp_tables.specs.declared.kind.Field.{Field}
use Rattle.fp_tables.specs.declared.kind.Constant.{Constant}
use Rattle.fp_tables.specs.declared.kind.TypeDef.{TypeDef}
use Rattle.fp_tables.specs.declared.program.Arg.{Arg}
use Rattle.fp_tables.specs.declared.program.Arg.TheVariants.{Given, Bound}
use Rattle.fp_types.specs.Converting.{member_named, parts_in}
use Rattle.fp_scenario_actions.specs.Wanted.{Wanted, integer, truth, words, array, struct, constants, opaque, wanted, member, constant_named, with_given}
use Rattle.fp_scenario_actions.specs.Arguments.{name_in, Means, number, truth_value, text, constant, no_value, items, members, EachMeans, none, more, MembersMean, no_member, in_member, IsArgument, AreArguments}
use Rattle.fp_scenario_actions.proofs.Arguing.{Stands, back}

module _ (types : List TypeDef) where
  -- ---- what a value is that is meant, form by form

  abbrev Meant : Wanted → json.Data → Value → Type 0
  Meant (integer low high) (json.number n) v = (z : _) × (as_integer n ≡ Some z) × (v ≡ Int z)
  Meant truth (json.boolean b) v = v ≡ Truth b
  Meant words (json.string s) v = v ≡ Text s
  Meant (constants cs) (json.string s) v = (x : Constant) × (constant_named cs s ≡ Some x) × (v ≡ x.value)
  Meant opaque json.null v = v ≡ Opaque
  Meant (array size k) (json.array ds) v = (vs : List Value) × EachMeans types (wanted types k) ds vs × (v ≡ Array vs)
  Meant (struct fields default) (json.object ms) v = (given : List MemberValue) × MembersMean types fields ms given × (v ≡ Struct (with_given given (parts_in default)))
  Meant _ _ v = ⊥

  meant : {w : Wanted} {d : json.Data} {v : Value} → Means types w d v → Meant w d v
  meant (number {z = z} e h) = (z, e, refl)
  meant truth_value = refl
  meant text = refl
  meant (constant {x = x} e) = (x, e, refl)
  meant no_value = refl
  meant (items {vs = vs} h e) = (vs, h, refl)
  meant (members {given = given} h) = (given, h, refl)

  abbrev EachMeant : Wanted → json.Items → List Value → Type 0
  EachMeant w json.no_items vs = vs ≡ []
  EachMeant w (json.item d ds) vs = (v : Value) × (rest : List Value) × Means types w d v × EachMeans types w ds rest × (vs ≡ v ∷ rest)

  each_meant : {w : Wanted} {ds : json.Items} {vs : List Value} → EachMeans types w ds vs → EachMeant w ds vs
  each_meant none = refl
  each_meant (more {v = v} {vs = vs} h hs) = (v, vs, h, hs, refl)

  abbrev part : List ℕ → Value → MemberValue
  part name value = record { name = name; value = value }

  abbrev MembersMeant : List Field → json.Members → List MemberValue → Type 0
  MembersMeant fields json.no_members given = given ≡ []
  MembersMeant fields (json.member k d ms) given =
      (f : Field) × (v : Value) × (rest : List MemberValue) × (member_named fields k ≡ Some f) × Means types (member types f) d v × MembersMean types fields ms rest × (given ≡ part k v ∷ rest)

  members_meant : {fields : List Field} {ms : json.Members} {given : List MemberValue} → MembersMean types fields ms given → MembersMeant fields ms given
  members_meant no_member = refl
  members_meant (in_member {f = f} {v = v} {given = given} e h hs) = (f, v, given, e, h, hs, refl)

  -- ---- values

  mutual
    pub one_value : {w : Wanted} {d : json.Data} {v : Value} → Means types w d v → (u : Value) → Means types w d u → v ≡ u
    one_value (number {z = z} {n = n} e h) u g = let b = meant g in ap Int (one_some (as_integer n) z b.0 e b.1) ∙ sym b.2
    one_value truth_value u g = sym (meant g)
    one_value text u g = sym (meant g)
    one_value (constant {s = s} {cs = cs} {x = x} e) u g = let b = meant g in ap (λ (y : Constant). y.value) (one_some (constant_named cs s) x b.0 e b.1) ∙ sym b.2
    one_value no_value u g = sym (meant g)
    one_value (items h e) u g = let b = meant g in ap Array (one_each h b.0 b.1) ∙ sym b.2
    one_value (members {default = default} h) u g = let b = meant g in ap (λ (given : List MemberValue). Struct (with_given given (parts_in default))) (one_members h b.0 b.1) ∙ sym b.2

    one_each : {w : Wanted} {ds : json.Items} {vs : List Value} → EachMeans types w ds vs → (us : List Value) → EachMeans types w ds us → vs ≡ us
    one_each none us g = sym (each_meant g)
    one_each (more h hs) us g = let b = each_meant g in ap₂ (λ (v : Value) (vs : List Value). v ∷ vs) (one_value h b.0 b.2) (one_each hs b.1 b.3) ∙ sym b.4

    one_members : {fields : List Field} {ms : json.Members} {given : List MemberValue} → MembersMean types fields ms given → (others : List MemberValue) → MembersMean types fields ms others → given ≡ others
    one_members no_member others g = sym (members_meant g)
    one_members (in_member {fields = fields} {f = f} {k = k} {d = d} {v = v} e h hs) others g =
        let b = members_meant g in
        let same_field : b.0 ≡ f = one_some (member_named fields k) b.0 f b.3 e in
        ap₂ (λ (x : Value) (xs : List MemberValue). part k x ∷ xs) (one_value h b.1 (subst (λ (x : Field). Means types (member types x) d b.1) same_field b.4)) (one_members hs b.2 b.5) ∙ sym b.6

-- ---- arguments

module _ (types : List TypeDef) (scope : Scope) where
  one_standing : (k : Kind) (d : json.Data) (a b : Arg) → Stands types scope d k a → Stands types scope d k b → a ≡ b
  one_standing k d (Bound m) (Bound n) h g = ap Bound (one_some (name_in d) m n h.0 g.0)
  one_standing k d (Bound m) (Given v) h g = none_some g.0 h.0
  one_standing k d (Given v) (Bound n) h g = none_some h.0 g.0
  one_standing k d (Given u) (Given v) h g = ap Given (one_value types h.1 v g.1)

  one_argument : (k : Kind) (d : json.Data) (a b : Arg) → IsArgument types scope k d a → IsArgument types scope k d b → a ≡ b
  one_argument k d a b h g = one_standing k d a b (back types scope h) (back types scope g)

  pub one_row : (ks : List Kind) (ds : List json.Data) (xs ys : List Arg) → AreArguments types scope ks ds xs → AreArguments types scope ks ds ys → xs ≡ ys
  one_row [] [] [] [] h g = refl
  one_row [] [] [] (y ∷ ys) h g = absurd g
  one_row [] [] (x ∷ xs) ys h g = absurd h
  one_row [] (d ∷ ds) xs ys h g = absurd h
  one_row (k ∷ ks) [] xs ys h g = absurd h
  one_row (k ∷ ks) (d ∷ ds) [] ys h g = absurd h
  one_row (k ∷ ks) (d ∷ ds) (x ∷ xs) [] h g = absurd g
  one_row (k ∷ ks) (d ∷ ds) (x ∷ xs) (y ∷ ys) h g = ap₂ (λ (b : Arg) (bs : List Arg). b ∷ bs) (one_argument k d x y h.0 g.0) (one_row ks ds xs ys h.1 g.1)
