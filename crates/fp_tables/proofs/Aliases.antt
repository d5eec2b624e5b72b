-- Where no type uses itself, a type is what its alias is, and types that are one have the same values.
use Rattle.std.proofs.Common.{◌≡◌, ℕ, zero, suc, ◌<◌, ◌≤◌, ◌⊎◌, inl, inr, Bool, true, false, ◌||◌, List, [], ◌∷◌, length, eqb, Option, Some, None, is_some, refl, sym, ap, ◌∙◌, subst, arith}
use Rattle.std.specs.List.{list_any, IsDistinct, AllByRecursion}
use Rattle.std.proofs.lemmas.Map.Steps.{length-le_from_distinct_below}
use Rattle.fp_base.specs.declared.value.Value.{Value}
use Rattle.fp_base.proofs.Sameness.{nat_same}
use Rattle.fp_tables.specs.Types.{Shape, of_form, form_at, shape_by, shape, has, has_kind, is_use, Leads, once, again}
use Rattle.fp_tables.specs.declared.kind.Kind.{Kind}
use Rattle.fp_tables.specs.declared.kind.Kind.TheVariants as kind
use Rattle.fp_tables.specs.declared.kind.Form.{Form}
use Rattle.fp_tables.specs.declared.kind.Form.TheVariants as form
use Rattle.fp_tables.specs.declared.kind.TypeDef.{TypeDef}
use Rattle.fp_tables.specs.Machines.{target_by, target, follow}
use Rattle.fp_tables.specs.Arguments.{same_target, is_one_kind}

module _ (types : List TypeDef) (none : (i : ℕ) → Leads types i i → ⊥) where
  -- types of which each is an alias of the next, the last being there
  abbrev Path : ℕ → List ℕ → Type 0
  Path i [] = is_some (form_at types i) ≡ true
  Path i (j ∷ js) = (form_at types i ≡ Some (form.Alias (kind.Named j))) × Path j js

  use_of : (i j : ℕ) → form_at types i ≡ Some (form.Alias (kind.Named j)) → is_use types i j
  use_of i j h = rw (h, nat_same.itself j) refl

  in_path : (i : ℕ) (js : List ℕ) (q : ℕ) → Path i js → list_any (eqb q) js ≡ true → Leads types i q
  in_path i [] q p h = absurd (cc)
  in_path i (j ∷ js) q p h = go (eqb q j) refl h (λ k. again i j q (use_of i j p.0) (in_path j js q p.1 k))
    where
      go : (b : Bool) → eqb q j ≡ b → (b || list_any (eqb q) js) ≡ true → (list_any (eqb q) js ≡ true → Leads types i q) → Leads types i q
      go true is k rest = subst (λ (n : ℕ). Leads types i n) (sym (nat_same.equal q j is)) (once i j (use_of i j p.0))
      go false is k rest = rest k

  is_below : (q : ℕ) (ts : List TypeDef) → is_some (form_at ts q) ≡ true → q < length ts
  is_below q [] h = absurd (cc)
  is_below zero (t ∷ ts) h = omega arith
  is_below (suc q) (t ∷ ts) h = let r = is_below q ts h in omega arith

  there : (i : ℕ) (js : List ℕ) → Path i js → is_some (form_at types i) ≡ true
  there i [] p = p
  there i (j ∷ js) p = ap is_some p.0

  below_first : (i : ℕ) (js : List ℕ) (q : ℕ) → is_some (form_at types i) ≡ true → (list_any (eqb q) js ≡ true → q < length types) → list_any (eqb q) (i ∷ js) ≡ true → q < length types
  below_first i js q p rest h = go (eqb q i) refl h
    where
      go : (b : Bool) → eqb q i ≡ b → (b || list_any (eqb q) js) ≡ true → q < length types
      go true is k = subst (λ (n : ℕ). n < length types) (sym (nat_same.equal q i is)) (is_below i types p)
      go false is k = rest k

  all_below : (i : ℕ) (js : List ℕ) → Path i js → (q : ℕ) → list_any (eqb q) (i ∷ js) ≡ true → q < length types
  all_below i [] p q h = below_first i [] q p (λ k. absurd (cc)) h
  all_below i (j ∷ js) p q h = below_first i (j ∷ js) q (ap is_some p.0) (all_below j js p.1 q) h

  all_apart : (i : ℕ) (js : List ℕ) → ((q : ℕ) → list_any (eqb q) js ≡ true → Leads types i q) → AllByRecursion (λ y. eqb i y ≡ false) js
  all_apart i [] leads = tt
  all_apart i (y ∷ ys) leads = (go (eqb i y) refl, all_apart i ys (λ q h. leads q (later q h)))
    where
      later : (q : ℕ) → list_any (eqb q) ys ≡ true → (eqb q y || list_any (eqb q) ys) ≡ true
      later q h = or_true (eqb q y)
        where
          or_true : (b : Bool) → (b || list_any (eqb q) ys) ≡ true
          or_true true = refl
          or_true false = h

      go : (b : Bool) → eqb i y ≡ b → eqb i y ≡ false
      go true is = let e = nat_same.equal i y is in absurd (none i (leads i (ap (λ b. b || list_any (eqb i) ys) is)))
      go false is = is

  distinct : (i : ℕ) (js : List ℕ) → Path i js → IsDistinct eqb (i ∷ js)
  unfolding IsDistinct
  distinct i [] p = (tt, tt)
  distinct i (j ∷ js) p = (all_apart i (j ∷ js) (λ q h. in_path i (j ∷ js) q p h), distinct j js p.1)

  -- ---- shapes

  abbrev Longer : ℕ → Kind → Type 0
  Longer n k = (i : ℕ) × (js : List ℕ) × (k ≡ kind.Named i) × (length js ≡ n) × Path i js

  settle : (n : ℕ) (k : Kind) → (shape_by types (suc n) k ≡ shape_by types n k) ⊎ Longer n k
  settle n kind.U8 = inl refl
  settle n kind.U16 = inl refl
  settle n kind.U32 = inl refl
  settle n kind.U64 = inl refl
  settle n kind.I8 = inl refl
  settle n kind.I16 = inl refl
  settle n kind.I32 = inl refl
  settle n kind.I64 = inl refl
  settle n kind.Bool = inl refl
  settle n (kind.Str size) = inl refl
  settle zero (kind.Named i) = go (form_at types i) refl
    where
      go : (o : Option Form) → form_at types i ≡ o → (shape_by types (suc zero) (kind.Named i) ≡ shape_by types zero (kind.Named i)) ⊎ Longer zero (kind.Named i)
      go None is = inl (rw is refl)
      go (Some f) is = inr (i, [], refl, refl, ap is_some is)
  settle (suc n) (kind.Named i) = go (form_at types i) refl (λ j. settle n j)
    where
      go : (o : Option Form) → form_at types i ≡ o → ((j : Kind) → (shape_by types (suc n) j ≡ shape_by types n j) ⊎ Longer n j)
          → (shape_by types (suc (suc n)) (kind.Named i) ≡ shape_by types (suc n) (kind.Named i)) ⊎ Longer (suc n) (kind.Named i)
      go None is rest = inl (rw is refl)
      go (Some (form.Alias j)) is rest = of (rest j)
        where
          of : (shape_by types (suc n) j ≡ shape_by types n j) ⊎ Longer n j → (shape_by types (suc (suc n)) (kind.Named i) ≡ shape_by types (suc n) (kind.Named i)) ⊎ Longer (suc n) (kind.Named i)
          of (inl e) = inl (rw is e)
          of (inr p) = inr (i, p.0 ∷ p.1, refl, ap suc p.3, (is ∙ ap (λ (k : Kind). Some (form.Alias k)) p.2, p.4))
      go (Some form.Abstract) is rest = inl (rw is refl)
      go (Some (form.Array size element text)) is rest = inl (rw is refl)
      go (Some (form.Struct fields)) is rest = inl (rw is refl)
      go (Some (form.Enum repr constants)) is rest = inl (rw is refl)

  pub stable : (k : Kind) → shape_by types (suc (length types)) k ≡ shape_by types (length types) k
  stable k = go (settle (length types) k)
    where
      go : (shape_by types (suc (length types)) k ≡ shape_by types (length types) k) ⊎ Longer (length types) k → shape_by types (suc (length types)) k ≡ shape_by types (length types) k
      go (inl e) = e
      go (inr p) =
          let few : length (p.0 ∷ p.1) ≤ length types = length-le_from_distinct_below (p.0 ∷ p.1) (length types) (distinct p.0 p.1 p.4) (all_below p.0 p.1 p.4) in
          let long : length p.1 ≡ length types = p.3 in
          absurd (omega arith)

  pub shape_of_form : (i : ℕ) (f : Form) → form_at types i ≡ Some f → shape types (kind.Named i) ≡ of_form (shape types) f
  shape_of_form i f is = rw is (go f)
    where
      go : (f : Form) → of_form (shape_by types (length types)) f ≡ of_form (shape_by types (suc (length types))) f
      go (form.Alias k) = sym (stable k)
      go form.Abstract = refl
      go (form.Array size element text) = refl
      go (form.Struct fields) = refl
      go (form.Enum repr constants) = refl

  -- ---- targets

  target_shape : (n : ℕ) (k : Kind) → shape types (target_by types n k) ≡ shape types k
  unfolding target_by
  target_shape zero k = refl
  target_shape (suc n) (kind.Named i) = go (form_at types i) refl (λ j. target_shape n j)
    where
      go : (o : Option Form) → form_at types i ≡ o → ((j : Kind) → shape types (target_by types n j) ≡ shape types j)
          → shape types (follow (target_by types n) (kind.Named i) o) ≡ shape types (kind.Named i)
      go (Some (form.Alias j)) is rest = rest j ∙ sym (shape_of_form i (form.Alias j) is)
      go _ is rest = refl
  target_shape (suc n) _ = refl

  one_shape : (a b : Kind) → same_target a b ≡ true → shape types a ≡ shape types b
  one_shape kind.U8 kind.U8 h = refl
  one_shape kind.U16 kind.U16 h = refl
  one_shape kind.U32 kind.U32 h = refl
  one_shape kind.U64 kind.U64 h = refl
  one_shape kind.I8 kind.I8 h = refl
  one_shape kind.I16 kind.I16 h = refl
  one_shape kind.I32 kind.I32 h = refl
  one_shape kind.I64 kind.I64 h = refl
  one_shape kind.Bool kind.Bool h = refl
  one_shape (kind.Str m) (kind.Str n) h = refl
  one_shape (kind.Named m) (kind.Named n) h = ap (λ (i : ℕ). shape types (kind.Named i)) (nat_same.equal m n h)
  one_shape _ _ h = absurd (cc)

  pub one_kind : (k j : Kind) (v : Value) → is_one_kind types k j ≡ true → has_kind types k v ≡ true → has_kind types j v ≡ true
  one_kind k j v h is =
      let same = sym (target_shape (length types) k) ∙ one_shape (target types k) (target types j) h ∙ target_shape (length types) j in
      ap (λ (s : Shape). has types s v) (sym same) ∙ is
