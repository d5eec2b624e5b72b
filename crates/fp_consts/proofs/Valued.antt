-- The value of a definition, from what is found of the expression that is written there.
use Rattle.std.proofs.Common.{◌≡◌, ℕ, ℤ, pos, Bool, true, false, cond, List, [], ◌∷◌, ◌++◌, slice_get, Option, Some, None, option_map, is_none, refl, inl, inr, sym, ap, subst, ◌∙◌}
use Rattle.std.specs.List.{All}
use Rattle.std.proofs.lemmas.List.Elements.{All-nil, All-cons, All-head, All-tail}
use Rattle.std.proofs.lemmas.List.Sums.{AllPass-from_list_all, list_all-from_AllPass}
use Rattle.fp_base.specs.declared.value.Value.{Value}
use Rattle.fp_tree.specs.declared.source.Source.{Source}
use Rattle.fp_tree.specs.declared.definition.Enum.{Enum}
use Rattle.fp_tree.specs.declared.part.EnumConst.{EnumConst}
use Rattle.fp_tree.specs.declared.expression.Expr.{Expr}
use Rattle.fp_meaning.specs.Names.{in_expression, in_optional}
use Rattle.fp_meaning.specs.Origins.{Origin, Enumerated, origins}
use Rattle.fp_meaning.specs.Values.{dotted, number_in, opened, constant_value, IsImplied, Val}
use Rattle.fp_meaning.specs.declared.item.Item.TheVariants as item
use Rattle.fp_meaning.specs.Sites.{Site, Entry, Declaration, is_implied, value_in}
use Rattle.fp_consts.specs.declared.measured.Measured.{Measured}
use Rattle.fp_consts.specs.declared.found.Examination.{Examination}
use Rattle.fp_consts.specs.Examined.{AreGiven, Examines, GivesValue, IsExact, leaf_of, plain}
use Rattle.fp_consts.specs.Settled.{IsNumber, IsSettled, NumberIs, Numbers, Settles, SettlesWith, implied_number, number_within}
use Rattle.fp_consts.proofs.Measures.{constant_measured, none_measured, some_measured}

-- whether an enumeration has no value written
all_with : {A : Type 0} (P Q : A → Type 0) → ((x : A) → P x → Q x) → (xs : List A) → All P xs → All Q xs
all_with P Q f [] h = All-nil Q
all_with P Q f (x ∷ xs) h = All-cons Q x xs (f x (All-head P x xs h)) (all_with P Q f xs (All-tail P x xs h))

abbrev has_no_value : EnumConst → Bool
has_no_value c = is_none c.value

none_by : (c : EnumConst) → has_no_value c ≡ true → c.value ≡ None
none_by c e = go c.value refl e
  where
    go : (o : Option Expr) → c.value ≡ o → has_no_value c ≡ true → c.value ≡ None
    go None is h = is
    go (Some e) is h = let never : has_no_value c ≡ false = ap (λ (o : Option Expr). is_none o) is in cc

pub implied_when : (enum : Enum) → is_implied enum ≡ true → IsImplied enum
implied_when enum e =
    all_with (λ c. has_no_value c ≡ true) (λ c. c.value ≡ None) none_by enum.constants (AllPass-from_list_all has_no_value enum.constants e)

pub implied_then : (enum : Enum) → IsImplied enum → is_implied enum ≡ true
implied_then enum all =
    list_all-from_AllPass has_no_value enum.constants
    (all_with (λ c. c.value ≡ None) (λ c. has_no_value c ≡ true) (λ c e. ap (λ (o : Option Expr). is_none o) e) enum.constants all)

-- the number of a constant whose value is written
value_there : (o : Option Value) (n : ℤ) → number_within o ≡ Some n → (u : Value) × (o ≡ Some u) × (number_in u ≡ Some n)
value_there None n e = cc
value_there (Some u) n e = (u, refl, e)

module _ (table : List (Option Measured)) (numbers : List ℕ) (e : Entry) (from : ℕ) where
  pub number_written : (x : Expr) (found : Examination) (o : Option ℤ) → Some x ≡ e.constant.value → Examines table numbers x from found → o ≡ number_within (plain found.value)
      → Numbers table numbers e from o
  number_written x found o there examined is source given =
      let f = examined source e.scope (subst (λ (v : Option Expr). AreGiven source table numbers (in_optional (in_expression e.scope) v) from) (sym there) given) in
      record {
        holds = λ n h. let t = value_there (plain found.value) n (sym is ∙ h) in inl (x, t.0, sym there, f.value.holds t.0 t.1, t.2);
        only = λ n. elim [
          | inl t ↦
              let same : t.0 ≡ x = cc in
              is ∙ ap number_within (f.value.only t.1 (subst (λ (y : Expr). Val source e.scope (opened y) t.1) same t.3)) ∙ t.4
          | inr t ↦ let never : Some x ≡ None = there ∙ t.0 in absurd (cc)
        ];
      }

  -- and of one where none is
  pub number_of_position : (o : Option ℤ) → None ≡ e.constant.value → o ≡ implied_number e → Numbers table numbers e from o
  number_of_position o there is source given = go (is_implied e.enumeration) refl
    where
      go : (b : Bool) → is_implied e.enumeration ≡ b → IsNumber source e o
      go true all =
          let position : o ≡ Some (pos e.position) = is ∙ ap (λ (b : Bool). cond b (Some (pos e.position)) None) all in
          record {
            holds = λ n h. inr (sym there, implied_when e.enumeration all, cc);
            only = λ n. elim [
              | inl t ↦ let never : None ≡ Some t.0 = there ∙ t.2 in absurd (cc)
              | inr t ↦ position ∙ ap (λ (z : ℤ). Some z) (sym t.2)
            ];
          }
      go false some =
          let nothing : o ≡ None = is ∙ ap (λ (b : Bool). cond b (Some (pos e.position)) None) some in
          record {
            holds = λ n h. absurd (cc);
            only = λ n. elim [
              | inl t ↦ let never : None ≡ Some t.0 = there ∙ t.2 in absurd (cc)
              | inr t ↦ let never : false ≡ true = sym some ∙ implied_then e.enumeration t.1 in absurd (cc)
            ];
          }

-- what a definition settles to
pub the_head : {A : Type 0} {x y : A} → x ∷ [] ≡ y ∷ [] → x ≡ y
the_head e = cc

pub defined_settled : (table : List (Option Measured)) (numbers : List ℕ) (s : Site) (from : ℕ) (o : Option Measured) → SettlesWith table numbers (value_in s.definition) from o
    → Settles table numbers (item.Defined s) from o
defined_settled table numbers s from o h source origin same given = subst (λ (x : Origin). IsSettled source x o) (the_head same) (h source s.scope given)

abbrev value_with : Entry → ℤ → Value
value_with e n = constant_value e.scope e.enumeration e.constant n

the_number : {x y : ℤ} → Some x ≡ Some y → x ≡ y
the_number h = cc

constant_settled : (source : Source) (e : Entry) (number : Option ℤ) → IsNumber source e number
    → IsSettled source (Enumerated e.scope e.enumeration e.position e.constant) (option_map (λ n. leaf_of (constant_value e.scope e.enumeration e.constant n)) number)
constant_settled source e None is = record {
  measured = none_measured;
  holds = λ v h. cc;
  only = λ v. elim [
    | inl t ↦ let never : None ≡ Some t.2 = is.only t.2 (inl (t.0, t.1, t.3, t.4, t.5)) in absurd (cc)
    | inr t ↦ let never : None ≡ Some (pos e.position) = is.only (pos e.position) (inr (t.0, t.1, refl)) in absurd (cc)
  ];
}
constant_settled source e (Some n) is = record {
  measured = some_measured (leaf_of (value_with e n)) (constant_measured (dotted (e.scope ++ e.enumeration.name.text ∷ [])) e.constant.name.text n);
  holds = λ v h. let same : v ≡ value_with e n = cc in gives v same (is.holds n refl);
  only = λ v. elim [
    | inl t ↦
        let same : n ≡ t.2 = the_number (is.only t.2 (inl (t.0, t.1, t.3, t.4, t.5))) in
        ap (λ (z : ℤ). Some (value_with e z)) same ∙ ap (λ (w : Value). Some w) (sym t.6)
    | inr t ↦
        let same : n ≡ pos e.position = the_number (is.only (pos e.position) (inr (t.0, t.1, refl))) in
        ap (λ (z : ℤ). Some (value_with e z)) same ∙ ap (λ (w : Value). Some w) (sym t.2)
  ];
}
  where
    gives : (v : Value) → v ≡ value_with e n → NumberIs source e n → GivesValue source (Enumerated e.scope e.enumeration e.position e.constant) v
    gives v same (inl t) = inl (t.0, t.1, n, t.2, t.3, t.4, same)
    gives v same (inr t) = inr (t.0, t.1, same ∙ ap (λ (z : ℤ). value_with e z) t.2)

pub enumerated_settled : (table : List (Option Measured)) (numbers : List ℕ) (e : Entry) (from : ℕ) (number : Option ℤ) (o : Option Measured) → Numbers table numbers e from number
    → o ≡ option_map (λ n. leaf_of (constant_value e.scope e.enumeration e.constant n)) number → Settles table numbers (item.Enumerated e) from o
enumerated_settled table numbers e from number o h is source origin same given =
    subst (λ (x : Origin). IsSettled source x o) (the_head same)
    (subst (λ (x : Option Measured). IsSettled source (Enumerated e.scope e.enumeration e.position e.constant) x) (sym is) (constant_settled source e number (h source given)))

-- of an expression that gives a value, or of none
pub settled_by : (table : List (Option Measured)) (numbers : List ℕ) (e : Expr) (from : ℕ) (found : Examination) → Examines table numbers e from found
    → SettlesWith table numbers (Some e) from found.value
settled_by table numbers e from found examined source scope given =
    let f = examined source scope given in
    record { measured = f.measured; holds = λ v h. f.value.holds v h; only = λ v h. f.value.only v h }

pub settled_to_none : (table : List (Option Measured)) (numbers : List ℕ) (from : ℕ) → SettlesWith table numbers None from None
settled_to_none table numbers from source scope given = record { measured = none_measured; holds = λ v h. cc; only = λ v h. absurd h }

-- a definition of a machine, a component, an interface, an instance or a topology has no value
pub declared_settled : (table : List (Option Measured)) (numbers : List ℕ) (d : Declaration) (from : ℕ) → Settles table numbers (item.Declared d) from None
declared_settled table numbers d from source origin same given =
    subst (λ (x : Origin). IsSettled source x None) (the_head same) (settled_to_none table numbers from source d.scope given)

-- what is settled is the definition's value
pub settled_exact : (source : Source) (number : ℕ) (origin : Origin) (o : Option Measured) → slice_get (origins source) number ≡ Some origin → IsSettled source origin o
    → IsExact source number o
settled_exact source number origin o at is = record {
  measured = is.measured;
  holds = λ v e. (origin, at, is.holds v e);
  only = λ v h. is.only v (subst (λ (x : Origin). GivesValue source x v) (origin_same (sym h.1 ∙ at)) h.2);
}
  where
    origin_same : {x y : Origin} → Some x ≡ Some y → x ≡ y
    origin_same e = cc
