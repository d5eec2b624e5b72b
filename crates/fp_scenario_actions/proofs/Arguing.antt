-- What arguments are, one by one.
use Rattle.std.proofs.Common.{◌≡◌, ℕ, zero, suc, ◌+◌, ◌<◌, ◌≤◌, Bool, true, false, cond, List, [], ◌∷◌, ◌++◌, map, length, take, get_or, slice_get, Option, Some, None, refl, sym, ap, ◌∙◌, subst, arith}
use Rattle.std.specs.Prelude.{option_map, option_and_then, unwrap_or, codes, ◌==◌}
use Rattle.std.proofs.lemmas.Bool.Decides.{nat_tests}
use Rattle.serde_json.specs.Find.{get, as_str, as_object}
use Rattle.serde_json.specs.Events.{members_len}
use Rattle.fp_scenario_actions.specs.Arguments.{has_one_member}
use Rattle.std.proofs.lemmas.List.{take_more, take_all, map-append, length-map}
use Rattle.std.proofs.lemmas.Option.{slice_get_read, unwrap_or-slice_get}
use Rattle.serde_json.specs.Data as json
use Rattle.serde_json.specs.View.{view}
use Rattle.serde_json.specs.declared.value.Value.{Value as Json}
use Rattle.fp_base.specs.declared.value.Value.{Value}
use Rattle.fp_tables.specs.Arguments.{Scope, is_one_kind}
use Rattle.fp_tables.specs.declared.kind.Kind.{Kind}
use Rattle.fp_tables.specs.declared.kind.TypeDef.{TypeDef}
use Rattle.fp_tables.specs.declared.program.Arg.{Arg}
use Rattle.fp_tables.specs.declared.program.Arg.TheVariants.{Given, Bound}
use Rattle.fp_base.proofs.Options.{same_some, none_some}
use Rattle.fp_base.proofs.Bools.{not_both}
use Rattle.fp_scenario_actions.specs.Wanted.{Wanted, wanted}
use Rattle.fp_scenario_actions.specs.Arguments.{Means, name_in, IsArgument, bound, value, AreArguments}
use Rattle.fp_scenario_actions.specs.Made.{IsMade, IsArgumentMade, named_made}

-- ---- a name in an object

is_one : (n : ℕ) → n ≡ 1 → (n == 1) ≡ true
is_one n e = ap (λ (k : ℕ). k == 1) e

not_one : (n : ℕ) → (n ≡ 1 → ⊥) → (n == 1) ≡ false
not_one n e = grind (arith, nat_tests)

pub name_alone : (d : json.Data) (ms : json.Members) → Some ms ≡ as_object d → members_len ms ≡ 1 → option_and_then as_str (get (codes "$") d) ≡ name_in d
name_alone d ms is one =
    let alone : has_one_member d ≡ true = ap (λ o. unwrap_or (option_map (λ (x : json.Members). members_len x == 1) o) false) (sym is) ∙ is_one (members_len ms) one in
    sym (ap (λ b. cond b (option_and_then as_str (get (codes "$") d)) None) alone)

pub not_alone : (d : json.Data) (ms : json.Members) → Some ms ≡ as_object d → (members_len ms ≡ 1 → ⊥) → None ≡ name_in d
not_alone d ms is many =
    let crowd : has_one_member d ≡ false = ap (λ o. unwrap_or (option_map (λ (x : json.Members). members_len x == 1) o) false) (sym is) ∙ not_one (members_len ms) many in
    sym (ap (λ b. cond b (option_and_then as_str (get (codes "$") d)) None) crowd)

module _ (types : List TypeDef) (scope : Scope) where
  -- ---- one argument

  abbrev pub Stands : json.Data → Kind → Arg → Type 0
  Stands d k (Bound name) = (name_in d ≡ Some name) × (j : Kind) × (scope name ≡ Some j) × (is_one_kind types j k ≡ true)
  Stands d k (Given v) = (name_in d ≡ None) × Means types (wanted types k) d v

  pub back : {k : Kind} {d : json.Data} {a : Arg} → IsArgument types scope k d a → Stands d k a
  back (bound {j = j} e f g) = (e, j, f, g)
  back (value e h) = (e, h)

  bound_back : (k : Kind) (d : json.Data) (n name : List ℕ) → name_in d ≡ Some n → Stands d k (Bound name) → (j : Kind) × (scope n ≡ Some j) × (is_one_kind types j k ≡ true)
  bound_back k d n name is s = (s.1, ap scope (same_some (sym is ∙ s.0)) ∙ s.2, s.3)

  not_bound : (k : Kind) (d : json.Data) (n : List ℕ) → name_in d ≡ Some n → ((j : Kind) → scope n ≡ Some j → is_one_kind types j k ≡ true → ⊥) → (a : Arg) → IsArgument types scope k d a → ⊥
  not_bound k d n is never (Bound name) h = let p = bound_back k d n name is (back h) in never p.0 p.1 p.2
  not_bound k d n is never (Given v) h = none_some (back h).0 is

  one_kind_is : (k : Kind) (d : json.Data) (n : List ℕ) (j : Kind) (b : Bool) → name_in d ≡ Some n → scope n ≡ Some j → is_one_kind types j k ≡ b → IsArgumentMade types scope k d (cond b (Some (Bound n)) None)
  one_kind_is k d n j true is found same = bound is found same
  one_kind_is k d n j false is found same = not_bound k d n is (λ i e h. not_both (subst (λ x. is_one_kind types x k ≡ true) (same_some (sym e ∙ found)) h) same)

  named_is_at : (k : Kind) (d : json.Data) (n : List ℕ) (o : Option Kind) → name_in d ≡ Some n → scope n ≡ o → IsArgumentMade types scope k d (option_and_then (λ j. cond (is_one_kind types j k) (Some (Bound n)) None) o)
  named_is_at k d n (Some j) is found = one_kind_is k d n j (is_one_kind types j k) is found refl
  named_is_at k d n None is found = not_bound k d n is (λ j e h. none_some found e)

  pub named_is : (k : Kind) (d : json.Data) (n : List ℕ) (m : Option Arg) → name_in d ≡ Some n → m ≡ named_made types scope k n → IsArgumentMade types scope k d m
  named_is k d n m is made = subst (λ x. IsArgumentMade types scope k d x) (sym made) (named_is_at k d n (scope n) is refl)

  given_is_at : (k : Kind) (d : json.Data) (m : Option Value) → name_in d ≡ None → IsMade types (wanted types k) d m → IsArgumentMade types scope k d (option_map Given m)
  given_is_at k d (Some v) is h = value is h
  given_is_at k d None is h = never where
    never : (a : Arg) → IsArgument types scope k d a → ⊥
    never (Bound name) g = none_some is (back g).0
    never (Given v) g = h v (back g).1

  pub given_is : (k : Kind) (d : json.Data) (w : Wanted) (m : Option Value) (a : Option Arg) → name_in d ≡ None → w ≡ wanted types k → a ≡ option_map Given m → IsMade types w d m → IsArgumentMade types scope k d a
  given_is k d w m a is e made h = subst (λ x. IsArgumentMade types scope k d x) (sym made) (given_is_at k d m is (subst (λ u. IsMade types u d m) e h))

  -- ---- all of them

  snoc : (ks : List Kind) (ds : List json.Data) (as_ : List Arg) (k : Kind) (d : json.Data) (a : Arg) → AreArguments types scope ks ds as_ → IsArgument types scope k d a
      → AreArguments types scope (ks ++ k ∷ []) (ds ++ d ∷ []) (as_ ++ a ∷ [])
  snoc [] [] [] k d a h p = (p, tt)
  snoc [] [] (b ∷ bs) k d a h p = absurd h
  snoc [] (e ∷ es) bs k d a h p = absurd h
  snoc (j ∷ js) [] bs k d a h p = absurd h
  snoc (j ∷ js) (e ∷ es) [] k d a h p = absurd h
  snoc (j ∷ js) (e ∷ es) (b ∷ bs) k d a h p = (h.0, snoc js es bs k d a h.1 p)

  same_length : (ks : List Kind) (ds : List json.Data) (as_ : List Arg) → AreArguments types scope ks ds as_ → length ks ≡ length ds
  same_length [] [] [] h = refl
  same_length [] [] (b ∷ bs) h = absurd h
  same_length [] (e ∷ es) bs h = absurd h
  same_length (j ∷ js) [] bs h = absurd h
  same_length (j ∷ js) (e ∷ es) [] h = absurd h
  same_length (j ∷ js) (e ∷ es) (b ∷ bs) h = ap suc (same_length js es bs h.1)

  at_place : (ks : List Kind) (ds : List json.Data) (as_ : List Arg) (i : ℕ) (k : Kind) (d : json.Data) → AreArguments types scope ks ds as_ → slice_get ks i ≡ Some k → slice_get ds i ≡ Some d → (a : Arg) × IsArgument types scope k d a
  at_place [] ds as_ i k d h e f = absurd (cc)
  at_place (j ∷ js) [] as_ i k d h e f = absurd (cc)
  at_place (j ∷ js) (x ∷ xs) [] i k d h e f = absurd h
  at_place (j ∷ js) (x ∷ xs) (a ∷ as_) zero k d h e f = (a, subst (λ y. IsArgument types scope k y a) (same_some f) (subst (λ y. IsArgument types scope y x a) (same_some e) h.0))
  at_place (j ∷ js) (x ∷ xs) (a ∷ as_) (suc i) k d h e f = at_place js xs as_ i k d h.1 e f

  seen_at : (xs : List Json) (i : ℕ) (x : Json) → slice_get xs i ≡ Some x → slice_get (map view xs) i ≡ Some (view x)
  seen_at [] i x e = absurd (cc)
  seen_at (y ∷ ys) zero x e = ap (λ z. Some (view z)) (same_some e)
  seen_at (y ∷ ys) (suc i) x e = seen_at ys i x e

  pub other_length : (ks : List Kind) (xs : List Json) → (length ks ≡ length xs → ⊥) → (as_ : List Arg) → AreArguments types scope ks (map view xs) as_ → ⊥
  other_length ks xs differs as_ h = differs (same_length ks (map view xs) as_ h ∙ length-map xs view)

  pub first_are : (row : List Arg) → row ≡ [] → AreArguments types scope [] [] row
  first_are row is = subst (λ r. AreArguments types scope [] [] r) (sym is) tt

  pub next_are : (ks : List Kind) (xs : List Json) (i : ℕ) (k : Kind) (x : Json) (a : Arg) (row longer : List Arg) → i < length xs → length ks ≡ length xs → slice_get ks i ≡ Some k → x ≡ get_or xs i x
      → AreArguments types scope (take i ks) (map view (take i xs)) row → IsArgument types scope k (view x) a → longer ≡ row ++ a ∷ []
      → AreArguments types scope (take (i + 1) ks) (map view (take (i + 1) xs)) longer
  next_are ks xs i k x a row longer lt long isk isx h p e =
      let kinds : take (i + 1) ks ≡ take i ks ++ k ∷ [] = take_more ks i k (omega arith) ∙ ap (λ y. take i ks ++ y ∷ []) (sym (unwrap_or-slice_get ks i k) ∙ ap (λ o. unwrap_or o k) isk) in
      let values : map view (take (i + 1) xs) ≡ map view (take i xs) ++ view x ∷ [] = ap (map view) (take_more xs i x lt ∙ ap (λ y. take i xs ++ y ∷ []) (sym isx)) ∙ map-append view (take i xs) (x ∷ []) in
      subst (λ js. AreArguments types scope js (map view (take (i + 1) xs)) longer) (sym kinds)
      (subst (λ ds. AreArguments types scope (take i ks ++ k ∷ []) ds longer) (sym values)
      (subst (λ r. AreArguments types scope (take i ks ++ k ∷ []) (map view (take i xs) ++ view x ∷ []) r) (sym e) (snoc (take i ks) (map view (take i xs)) row k (view x) a h p)))

  pub last_are : (ks : List Kind) (xs : List Json) (i : ℕ) (row : List Arg) → length xs ≤ i → length ks ≡ length xs → AreArguments types scope (take i ks) (map view (take i xs)) row → AreArguments types scope ks (map view xs) row
  last_are ks xs i row all long h = subst (λ js. AreArguments types scope js (map view xs) row) (take_all i ks (omega arith)) (subst (λ ys. AreArguments types scope (take i ks) (map view ys) row) (take_all i xs all) h)

  pub none_are : (ks : List Kind) (xs : List Json) (i : ℕ) (k : Kind) (x : Json) → i < length xs → length ks ≡ length xs → slice_get ks i ≡ Some k → x ≡ get_or xs i x
      → ((a : Arg) → IsArgument types scope k (view x) a → ⊥) → (as_ : List Arg) → AreArguments types scope ks (map view xs) as_ → ⊥
  none_are ks xs i k x lt long isk isx never as_ h =
      let p = at_place ks (map view xs) as_ i k (view x) h isk (seen_at xs i x (slice_get_read xs (length xs) i x refl lt isx)) in never p.0 p.1

  pub some_made : (k : Kind) (d : json.Data) (m : Option Arg) (a : Arg) → m ≡ Some a → IsArgumentMade types scope k d m → IsArgument types scope k d a
  some_made k d m a e h = subst (λ x. IsArgumentMade types scope k d x) e h

  pub none_made : (k : Kind) (d : json.Data) (m : Option Arg) → m ≡ None → IsArgumentMade types scope k d m → (a : Arg) → IsArgument types scope k d a → ⊥
  none_made k d m e h = subst (λ x. IsArgumentMade types scope k d x) e h
