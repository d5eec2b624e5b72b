-- What a sound value has at its keys and in its lists is sound.
use Rattle.std.proofs.Common.{◌≡◌, ◌<◌, ◌+◌, ℕ, zero, suc, List, [], ◌∷◌, ◌++◌, length, get_or, take, map, Option, Some, None, true, false, option_map, option_and_then, unwrap_or, codes, nat_le, ◌&&◌, ◌^◌, rules, refl, sym, ap, ◌∙◌, subst, arith, IsSome, is_some}
use Rattle.std.specs.List.{list_all}
use Rattle.std.proofs.lemmas.List.{take_more, map-append}
use Rattle.std.specs.Prelude.{slice_get}
use Rattle.std.proofs.lemmas.Option.{none-some}
use Rattle.std.proofs.lemmas.Bool.{true_from_ne_false}
use Rattle.serde_json.specs.Data.{Data, Items, no_items, item, null, boolean, number, string, array, object}
use Rattle.serde_json.specs.Find.{get, at, get_item, as_object}
use Rattle.serde_json.specs.View.{view}
use Rattle.serde_json.specs.declared.value.Value.{Value}
use Rattle.fp_base.proofs.Options.{same_some}
use Rattle.fp_base.specs.declared.rule.Rule.TheVariants.{WrongKindOfValue, MissingKey, PastSize}
use Rattle.fp_scenario.specs.Keys.{wanted_at, wanted_of_items, needed, first_of}
use Rattle.fp_scenario.specs.Kinds.{list_of, items, natural, within, is_of_kind, is_of_size}
use Rattle.fp_scenario.specs.Checked.{IsSound, AllSound}
use Rattle.fp_scenario.specs.Spelled.{EachSpelled, items_at, number_at}
use Rattle.fp_scenario.specs.declared.wanted.Wanted.{Wanted}
use Rattle.fp_scenario.specs.declared.wanted.Wanted.TheVariants.{Scenario, Steps}
use Rattle.fp_scenario.proofs.Breaking.{breaks_here, breaks_in_member, breaks_in_item}

pub kind_of_sound : (w : Wanted) (d : Data) → IsSound w d → is_of_kind w d ≡ true
kind_of_sound w d h = true_from_ne_false (is_of_kind w d) (λ wrong. h WrongKindOfValue [] (breaks_here w d WrongKindOfValue [] (refl, wrong)))

pub size_of_sound : (w : Wanted) (d : Data) → IsSound w d → is_of_size w d ≡ true
size_of_sound w d h = true_from_ne_false (is_of_size w d) (λ wrong. h PastSize [] (breaks_here w d PastSize [] (refl, kind_of_sound w d h, wrong)))

pub member_sound : (w v : Wanted) (d x : Data) (k : List ℕ) → IsSound w d → wanted_at w d k ≡ Some v → get k d ≡ Some x → IsSound v x
member_sound w v d x k h wants found rule path b = h rule _ (breaks_in_member w v d x k found wants rule path b)

pub item_sound : (w v : Wanted) (d x : Data) (i : ℕ) → IsSound w d → wanted_of_items w ≡ Some v → at i d ≡ Some x → IsSound v x
item_sound w v d x i h wants found rule path b = h rule _ (breaks_in_item w v d x i found wants rule path b)

item_listed : (ds : Items) (i : ℕ) → slice_get (list_of ds) i ≡ get_item i ds
item_listed no_items i = refl
item_listed (item d ds) zero = refl
item_listed (item d ds) (suc i) = item_listed ds i

listed : (d : Data) (i : ℕ) → slice_get (items d) i ≡ at i d
listed null i = refl
listed (boolean b) i = refl
listed (number n) i = refl
listed (string s) i = refl
listed (array ds) i = item_listed ds i
listed (object ms) i = refl

found_sound : (v u : Wanted) (o : Option Data) → ((y : Data) → o ≡ Some y → IsSound v y) → wanted_of_items v ≡ Some u → AllSound u (unwrap_or (option_map items o) [])
found_sound v u None each wants i x found = absurd (none-some _ found)
found_sound v u (Some y) each wants i x found = item_sound v u y x i (each y refl) wants (sym (listed y i) ∙ found)

-- the items of the list at a key
pub items_sound : (w v u : Wanted) (d : Data) (k : List ℕ) → IsSound w d → wanted_at w d k ≡ Some v → wanted_of_items v ≡ Some u → AllSound u (items_at k d)
items_sound w v u d k h wants each = found_sound v u (get k d) (λ y found. member_sound w v d y k h wants found) each

mapped_at : (vs : List Value) (i : ℕ) (x : Value) → i < length vs → slice_get (map view vs) i ≡ Some (view (get_or vs i x))
mapped_at [] i x within = absurd (omega arith)
mapped_at (v ∷ vs) zero x within = refl
mapped_at (v ∷ vs) (suc i) x within = mapped_at vs i x (omega arith)

-- the item of a loop
pub sound_at : (w : Wanted) (vs : List Value) (i : ℕ) (x y : Value) → AllSound w (map view vs) → i < length vs → x ≡ get_or vs i y → IsSound w (view x)
sound_at w vs i x y all within is = all i (view x) (mapped_at vs i y within ∙ ap (λ v. Some (view v)) (sym is))

each_snoc : {A : Type 0} (P : Data → A → Type 0) (ds : List Data) (as_ : List A) (d : Data) (a : A) → EachSpelled P ds as_ → P d a → EachSpelled P (ds ++ d ∷ []) (as_ ++ a ∷ [])
each_snoc P [] [] d a h p = (p, tt)
each_snoc P [] (b ∷ bs) d a h p = absurd h
each_snoc P (e ∷ es) [] d a h p = absurd h
each_snoc P (e ∷ es) (b ∷ bs) d a h p = (h.0, each_snoc P es bs d a h.1 p)

-- a loop that turns values into parts, one by one
pub each_more : {A : Type 0} (P : Data → A → Type 0) (vs : List Value) (i : ℕ) (x y : Value) (row new : List A) (a : A) → i < length vs → x ≡ get_or vs i y → EachSpelled P (map view (take i vs)) row → P (view x) a → new ≡ row ++ a ∷ [] → EachSpelled P (map view (take (i + 1) vs)) new
each_more P vs i x y row new a within is before last pushed =
    let longer : map view (take (i + 1) vs) ≡ map view (take i vs) ++ view x ∷ [] = ap (map view) (take_more vs i y within) ∙ map-append view (take i vs) (get_or vs i y ∷ []) ∙ ap (λ v. map view (take i vs) ++ view v ∷ []) (sym is) in
    subst (λ ds. EachSpelled P ds new) (sym longer) (subst (EachSpelled P (map view (take i vs) ++ view x ∷ [])) (sym pushed) (each_snoc P (map view (take i vs)) row (view x) a before last))

-- ---- numbers of steps

few : (n : ℕ) → (nat_le 1 n && nat_le n 20000) ≡ true → n < 2 ^ 32
few n h = search (rules, arith)

few_in : (o : Option ℕ) (n : ℕ) → unwrap_or (option_map (within 1 20000) o) false ≡ true → o ≡ Some n → n < 2 ^ 32
few_in None n h is = absurd (none-some _ is)
few_in (Some m) n h is = subst (λ k. k < 2 ^ 32) (same_some is) (few m h)

few_at : (o : Option Data) (n : ℕ) → ((y : Data) → o ≡ Some y → IsSound Steps y) → option_and_then natural o ≡ Some n → n < 2 ^ 32
few_at None n each is = absurd (none-some _ is)
few_at (Some y) n each is = few_in (natural y) n (size_of_sound Steps y (each y refl)) is

pub steps_fit : (d : Data) (n : ℕ) → IsSound Scenario d → number_at (codes "steps") d ≡ Some n → n < 2 ^ 32
steps_fit d n h is = few_at (get (codes "steps") d) n (λ y found. member_sound Scenario Steps d y (codes "steps") h refl found) is

pub needed_of_sound : (w : Wanted) (d : Data) → IsSound w d → IsSome (as_object d) → list_all (λ k. is_some (get k d)) (needed w (first_of d)) ≡ true
needed_of_sound w d h some = true_from_ne_false _ (λ lacks. h MissingKey [] (breaks_here w d MissingKey [] (refl, some, lacks)))
