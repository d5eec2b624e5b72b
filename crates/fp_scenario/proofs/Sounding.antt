-- Values whose parts are sound, form by form.
use Rattle.std.proofs.Common.{◌≡◌, ◌<◌, ◌≤◌, ◌+◌, ℕ, zero, suc, List, [], ◌∷◌, ◌++◌, length, get_or, Option, Some, None, true, false, Bool, IsSome, is_some, decimal, string_bytes, string_cmp, refl, sym, true≢false, ap, ◌∙◌, subst, arith, ⊎_elim}
use Rattle.std.proofs.Math.Nat.{eq-or-lt_of_le}
use Rattle.std.specs.List.{list_all, AllByRecursion}
use Rattle.std.specs.List.Sorted.{IsStrictlySortedBy}
use Rattle.std.specs.Map.{keys_of as map_keys}
use Rattle.std.proofs.lemmas.Option.{none-some}
use Rattle.serde_json.specs.Data.{Data, Items, Members, null, boolean, number, string, array, object}
use Rattle.serde_json.specs.Find.{get, at, get_member, get_item, as_object}
use Rattle.serde_json.specs.View.{view, items_view, members_view}
use Rattle.serde_json.specs.declared.value.Value.{Value}
use Rattle.serde_json.proofs.Views.{Entry, get_item_within}
use Rattle.fp_base.proofs.Options.{same_some}
use Rattle.fp_base.specs.declared.rule.Rule.TheVariants.{UnknownKey}
use Rattle.fp_scenario.specs.Keys.{first_of, wants_object, needed, keys_of, at_key, wanted_at, wanted_of_items}
use Rattle.fp_scenario.specs.Kinds.{is_of_kind, is_of_size}
use Rattle.fp_scenario.specs.Broken.{below}
use Rattle.fp_scenario.specs.Checked.{IsSound, ItemsAreSound, MembersAreSound, Stops, StopsBelow, IsFault}
use Rattle.fp_scenario.specs.declared.scenario.ScenarioStop.{ScenarioStop}
use Rattle.fp_scenario.specs.declared.first_key.FirstKey.{FirstKey}
use Rattle.fp_scenario.specs.declared.wanted.Wanted.{Wanted}
use Rattle.fp_scenario.proofs.Breaking.{sound, breaks_here, breaks_in_item, breaks_in_member, fault_below, fault_of_stop}
use Rattle.fp_scenario.proofs.Members.{member_found, found_is_member}

-- a value with no parts
abbrev IsLeaf : Data → Type 0
IsLeaf d = ((k : List ℕ) → get k d ≡ None) × ((i : ℕ) → at i d ≡ None) × (as_object d ≡ None)

some_none : {ms : Members} → Some ms ≡ None → ⊥
some_none is = cc

no_members_there : (o : Option Members) → o ≡ None → IsSome o → ⊥
no_members_there None is some = true≢false (sym some)
no_members_there (Some ms) is some = some_none is

sound_leaf : (w : Wanted) (d : Data) → IsLeaf d → is_of_kind w d ≡ true → is_of_size w d ≡ true → IsSound w d
sound_leaf w d leaf kind size = sound w d kind size (λ some. absurd (no_members_there (as_object d) leaf.2 some)) (λ k x found. absurd (none-some _ (sym (leaf.0 k) ∙ found))) (λ i x v found. absurd (none-some _ (sym (leaf.1 i) ∙ found)))

pub sound_null : (w : Wanted) (d : Data) → null ≡ d → is_of_kind w d ≡ true → is_of_size w d ≡ true → IsSound w d
sound_null w d is = sound_leaf w d (subst IsLeaf is (λ k. refl, λ i. refl, refl))

pub sound_boolean : (w : Wanted) (d : Data) (b : Bool) → boolean b ≡ d → is_of_kind w d ≡ true → is_of_size w d ≡ true → IsSound w d
sound_boolean w d b is = sound_leaf w d (subst IsLeaf is (λ k. refl, λ i. refl, refl))

pub sound_number : (w : Wanted) (d : Data) (n : _) → number n ≡ d → is_of_kind w d ≡ true → is_of_size w d ≡ true → IsSound w d
sound_number w d n is = sound_leaf w d (subst IsLeaf is (λ k. refl, λ i. refl, refl))

pub sound_string : (w : Wanted) (d : Data) (s : List ℕ) → string s ≡ d → is_of_kind w d ≡ true → is_of_size w d ≡ true → IsSound w d
sound_string w d s is = sound_leaf w d (subst IsLeaf is (λ k. refl, λ i. refl, refl))

pub sound_array : (w : Wanted) (d : Data) (ds : Items) → d ≡ array ds → is_of_kind w d ≡ true → is_of_size w d ≡ true → ItemsAreSound w (array ds) → IsSound w d
sound_array w d ds is kind size each =
    subst (IsSound w) (sym is) (sound w (array ds) (subst (λ e. is_of_kind w e ≡ true) is kind) (subst (λ e. is_of_size w e ≡ true) is size) (λ some. absurd (true≢false (sym some))) (λ k x found. absurd (none-some _ found)) each)

pub sound_object : (w : Wanted) (d : Data) (ms : Members) → d ≡ object ms → is_of_kind w d ≡ true → is_of_size w d ≡ true → list_all (λ k. is_some (get k d)) (needed w (first_of d)) ≡ true → MembersAreSound w (object ms) → IsSound w d
sound_object w d ms is kind size need members =
    sound w d kind size (λ some. need) (subst (MembersAreSound w) (sym is) members) (subst (ItemsAreSound w) (sym is) (λ i x v found. absurd (none-some _ found)))

-- ---- lists

pub item_there : (vs : List Value) (i : ℕ) (x : Value) → i < length vs → x ≡ get_or vs i x → get_item i (items_view vs) ≡ Some (view x)
item_there vs i x within is = sym (get_item_within vs i x within) ∙ ap (λ y. Some (view y)) (sym is)

pub item_fault : (w v : Wanted) (vs : List Value) (i : ℕ) (x : Data) (stop seen : ScenarioStop) → Some v ≡ wanted_of_items w → get_item i (items_view vs) ≡ Some x → StopsBelow (decimal i) stop seen → IsFault v x stop → IsFault w (array (items_view vs)) seen
item_fault w v vs i x stop seen wants found is fault = fault_below w v (array (items_view vs)) x (decimal i) stop seen is fault (breaks_in_item w v (array (items_view vs)) x i found (sym wants))

pub items_more : (v : Wanted) (ds : Items) (n : ℕ) (y : Data) → get_item n ds ≡ Some y → IsSound v y → ((i : ℕ) (x : Data) → i < n → get_item i ds ≡ Some x → IsSound v x) → (i : ℕ) (x : Data) → i < n + 1 → get_item i ds ≡ Some x → IsSound v x
items_more v ds n y there last before i x less found =
    ⊎_elim (λ (same : i ≡ n). subst (IsSound v) (same_some (sym there ∙ ap (λ j. get_item j ds) (sym same) ∙ found)) last) (λ (earlier : i < n). before i x earlier found) (eq-or-lt_of_le (omega arith))

found_within : (vs : List Value) (i : ℕ) (x : Data) → get_item i (items_view vs) ≡ Some x → i < length vs
found_within [] i x found = absurd (none-some _ found)
found_within (v ∷ vs) zero x found = omega arith
found_within (v ∷ vs) (suc i) x found = let later = found_within vs i x found in omega arith

pub items_all : (w v : Wanted) (vs : List Value) (n : ℕ) → Some v ≡ wanted_of_items w → length vs ≤ n → ((i : ℕ) (x : Data) → i < n → get_item i (items_view vs) ≡ Some x → IsSound v x) → ItemsAreSound w (array (items_view vs))
items_all w v vs n wants all each i x u found same =
    let within = found_within vs i x found in
    subst (λ o. IsSound o x) (same_some (wants ∙ same)) (each i x (omega arith) found)

-- ---- objects

abbrev pub EntryIsSound : Wanted → Members → Entry → Type 0
EntryIsSound w ms e = (v : Wanted) × (at_key (string_bytes e.0) (keys_of w (first_of (object ms))) ≡ Some v) × IsSound v (view e.1)

pub member_fault : (w v : Wanted) (es done : List Entry) (e : Entry) (more : List Entry) (stop seen : ScenarioStop) → es ≡ done ++ e ∷ more → IsStrictlySortedBy string_cmp (map_keys es) → wanted_at w (object (members_view es)) (string_bytes e.0) ≡ Some v → StopsBelow (string_bytes e.0) stop seen → IsFault v (view e.1) stop → IsFault w (object (members_view es)) seen
member_fault w v es done e more stop seen split sorted wants is fault =
    let found : get_member (string_bytes e.0) (members_view es) ≡ Some (view e.1) =
    ap (λ s. get_member (string_bytes e.0) (members_view s)) split ∙ member_found done e more (subst (λ s. IsStrictlySortedBy string_cmp (map_keys s)) split sorted) in
    fault_below w v (object (members_view es)) (view e.1) (string_bytes e.0) stop seen is fault (breaks_in_member w v (object (members_view es)) (view e.1) (string_bytes e.0) found wants)

is_some_of : (o : Option Data) (x : Data) → o ≡ Some x → IsSome o
is_some_of (Some y) x is = refl
is_some_of None x is = absurd (none-some _ is)

pub unknown_fault : (w : Wanted) (es done : List Entry) (e : Entry) (more : List Entry) (seen : ScenarioStop) → es ≡ done ++ e ∷ more → IsStrictlySortedBy string_cmp (map_keys es) → wants_object w ≡ true → wanted_at w (object (members_view es)) (string_bytes e.0) ≡ None → Stops UnknownKey (below (string_bytes e.0) []) seen → IsFault w (object (members_view es)) seen
unknown_fault w es done e more seen split sorted ob none is =
    let found : get_member (string_bytes e.0) (members_view es) ≡ Some (view e.1) =
    ap (λ s. get_member (string_bytes e.0) (members_view s)) split ∙ member_found done e more (subst (λ s. IsStrictlySortedBy string_cmp (map_keys s)) split sorted) in
    fault_of_stop w (object (members_view es)) UnknownKey (below (string_bytes e.0) []) seen is
    (breaks_here w (object (members_view es)) UnknownKey (below (string_bytes e.0) []) (string_bytes e.0, refl, ob, is_some_of _ _ found, none))

pub members_all : (w : Wanted) (es : List Entry) → AllByRecursion (EntryIsSound w (members_view es)) es → MembersAreSound w (object (members_view es))
members_all w es all k x found ob =
    let m = found_is_member (EntryIsSound w (members_view es)) k es x all found in
    (m.3.0, ap (λ j. wanted_at w (object (members_view es)) j) m.1 ∙ m.3.1, subst (IsSound m.3.0) m.2 m.3.2)

pub no_object : (w : Wanted) (ms : Members) → wants_object w ≡ false → MembersAreSound w (object ms)
no_object w ms none k x found ob = absurd (true≢false (sym ob ∙ none))

pub object_there : (d : Data) (ms : Members) → d ≡ object ms → IsSome (as_object d)
object_there d ms is = ap (λ e. is_some (as_object e)) is

pub named_at : (w : Wanted) (d : Data) (first : Option FirstKey) (j k : List ℕ) (o : Option Wanted) → first ≡ first_of d → j ≡ k → o ≡ at_key j (keys_of w first) → wanted_at w d k ≡ o
named_at w d first j k o given same is = sym (is ∙ ap (λ i. at_key i (keys_of w first)) same ∙ ap (λ f. at_key k (keys_of w f)) given)

pub members_kept : (w : Wanted) (first : Option FirstKey) (es done : List Entry) → first ≡ first_of (object (members_view es)) → es ≡ done
    → AllByRecursion (λ e. (v : Wanted) × (at_key (string_bytes e.0) (keys_of w first) ≡ Some v) × IsSound v (view e.1)) done → MembersAreSound w (object (members_view es))
members_kept w first es done given whole all =
    members_all w es (subst (λ f. AllByRecursion (λ e. (v : Wanted) × (at_key (string_bytes e.0) (keys_of w f) ≡ Some v) × IsSound v (view e.1)) es) given
    (subst (λ s. AllByRecursion (λ e. (v : Wanted) × (at_key (string_bytes e.0) (keys_of w first) ≡ Some v) × IsSound v (view e.1)) s) (sym whole) all))
