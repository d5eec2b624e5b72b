-- What is given a second time.
use Rattle.std.proofs.Common.{◌≡◌, ◌<◌, ◌≤◌, ◌+◌, ℕ, zero, suc, Bool, true, false, ◌&&◌, ◌||◌, List, [], ◌∷◌, map, length, take, slice_get, Option, Some, None, option_map, bytes_eq, ⊎_elim, refl, sym, ap, ap₂, ◌∙◌, subst, arith}
use Rattle.std.specs.BTreeSet.{BTreeSet, contains_by}
use Rattle.std.specs.List.{list_any}
use Rattle.fp_base.proofs.Lists.{get_within, take_next}
use Rattle.fp_base.proofs.Spots.{below_or_at}
use Rattle.fp_base.proofs.Bools.{and_true}
use Rattle.fp_base.proofs.Passing.{any_pushed, any_before, found_before}
use Rattle.fp_base.proofs.KeySets.{none_held}
use Rattle.fp_tables.specs.Lists.{some_and}
use Rattle.fp_tables.proofs.Optional.{some_and_of}
use Rattle.fp_scenario.specs.declared.scenario.CallerText.{CallerText}
use Rattle.fp_scenario.specs.declared.scenario.GuardText.{GuardText}
use Rattle.fp_scenario.specs.declared.scenario.HandlerText.{HandlerText}
use Rattle.fp_scenario_check.specs.Planned.{IsRepeated, same_caller, same_guard, same_handler}
use Rattle.fp_scenario_check.specs.Keys.{IsRepeat, Key, key_cmp, same_key, texts_of}
use Rattle.fp_scenario_check.proofs.Keyed.{key_by_texts, same_texts}

-- ---- the keys that were seen

module _ (keys : List Key) where
  -- the set has the first so many, of which none is given twice
  pub record AreSeen (n : ℕ) (seen : BTreeSet Key) : Type 0 where
    pub has : (q : Key) → contains_by (key_cmp q) seen ≡ list_any (λ k. same_key k q) (take n keys)
    pub new : (m : ℕ) → m < n → IsRepeated same_key keys m → ⊥

  pub none_seen : (seen : BTreeSet Key) → seen.keys ≡ [] → AreSeen 0 seen
  none_seen seen is = record { has = λ q. none_held (key_cmp q) seen is; new = λ m low r. absurd (omega (arith, low)) }

  repeats_now : (n : ℕ) (k : Key) → slice_get keys n ≡ Some k → list_any (λ j. same_key j k) (take n keys) ≡ true → IsRepeated same_key keys n
  repeats_now n k at h =
      let r = found_before (λ j. same_key j k) keys n h in
      (r.0, r.2, ap (some_and (λ (x : Key). some_and (λ (y : Key). same_key x y) (slice_get keys n))) r.3 ∙ ap (some_and (λ (y : Key). same_key r.1 y)) at ∙ r.4)

  repeat_seen : (n : ℕ) (k : Key) → slice_get keys n ≡ Some k → IsRepeated same_key keys n → list_any (λ j. same_key j k) (take n keys) ≡ true
  repeat_seen n k at r =
      let x = some_and_of (λ (x : Key). some_and (λ (y : Key). same_key x y) (slice_get keys n)) (slice_get keys r.0) r.2 in
      any_before (λ j. same_key j k) keys n r.0 x.0 r.1 x.1 (sym (ap (some_and (λ (y : Key). same_key x.0 y)) at) ∙ x.2)

  pub seen_again : (n : ℕ) (k : Key) (seen : BTreeSet Key) (again : Bool) → slice_get keys n ≡ Some k → AreSeen n seen → again ≡ contains_by (key_cmp k) seen → again ≡ true → IsRepeat same_key keys (Some n)
  seen_again n k seen again at before is h = repeats_now n k at (sym (before.has k) ∙ sym is ∙ h)

  differs : (b : Bool) → b ≡ true → b ≡ false → ⊥
  differs true h k = cc
  differs false h k = cc

  pub seen_next : (n : ℕ) (k : Key) (old new : BTreeSet Key) (again : Bool) → slice_get keys n ≡ Some k → AreSeen n old → again ≡ contains_by (key_cmp k) old → again ≡ false
      → ((q : Key) → contains_by (key_cmp q) new ≡ (contains_by (key_cmp q) old || same_key k q)) → AreSeen (n + 1) new
  seen_next n k old new again at before is h adds = record {
    has = λ q. adds q ∙ ap (λ b. b || same_key k q) (before.has q) ∙ sym (any_pushed (λ j. same_key j q) (take n keys) k) ∙ sym (ap (list_any (λ j. same_key j q)) (take_next keys n k at));
    new = λ m low r. go m r low;
  }
    where
      last : (m : ℕ) → m ≡ n → IsRepeated same_key keys m → ⊥
      last m same r = differs (list_any (λ j. same_key j k) (take n keys)) (repeat_seen n k at (subst (IsRepeated same_key keys) same r)) (sym (before.has k) ∙ sym is ∙ h)

      go : (m : ℕ) → IsRepeated same_key keys m → m < n + 1 → ⊥
      go m r low = ⊎_elim (λ (lower : m < n). before.new m lower r) (λ (same : m ≡ n). last m same r) (below_or_at m n low)

  pub all_seen : (n : ℕ) (seen : BTreeSet Key) → length keys ≤ n → AreSeen n seen → IsRepeat same_key keys None
  all_seen n seen past before = λ m r. before.new m (within m r) r
    where
      within : (m : ℕ) → IsRepeated same_key keys m → m < n
      within m r =
          let x = some_and_of (λ (x : Key). some_and (λ (y : Key). same_key x y) (slice_get keys m)) (slice_get keys r.0) r.2 in
          let y = some_and_of (λ (y : Key). same_key x.0 y) (slice_get keys m) x.2 in
          let low = get_within keys m y.0 y.1 in omega (arith, low, past)

-- ---- what the keys are of

some_and_same : {A : Type 0} (p q : A → Bool) → ((x : A) → p x ≡ q x) → (o : Option A) → some_and p o ≡ some_and q o
some_and_same p q same None = refl
some_and_same p q same (Some x) = same x

get_map : {A B : Type 0} (f : A → B) (xs : List A) (n : ℕ) → slice_get (map f xs) n ≡ option_map f (slice_get xs n)
get_map f [] n = refl
get_map f (x ∷ xs) zero = refl
get_map f (x ∷ xs) (suc n) = get_map f xs n

module _ {A B : Type 0} (f : A → B) (same : A → A → Bool) (test : B → B → Bool) (is : (x y : A) → same x y ≡ test (f x) (f y)) where
  mapped_test : (xs : List A) (m n : ℕ) → some_and (λ x. some_and (λ y. same x y) (slice_get xs n)) (slice_get xs m) ≡ some_and (λ x. some_and (λ y. test x y) (slice_get (map f xs) n)) (slice_get (map f xs) m)
  mapped_test xs m n = go (slice_get xs m) (slice_get xs n) ∙ sym (ap₂ (λ (o p : Option B). some_and (λ x. some_and (λ y. test x y) p) o) (get_map f xs m) (get_map f xs n))
    where
      go : (o p : Option A) → some_and (λ x. some_and (λ y. same x y) p) o ≡ some_and (λ x. some_and (λ y. test x y) (option_map f p)) (option_map f o)
      go None p = refl
      go (Some x) None = refl
      go (Some x) (Some y) = is x y

  repeats_mapped : (xs : List A) (n : ℕ) → IsRepeated same xs n → IsRepeated test (map f xs) n
  repeats_mapped xs n r = (r.0, r.1, sym (mapped_test xs r.0 n) ∙ r.2)

  mapped_repeats : (xs : List A) (n : ℕ) → IsRepeated test (map f xs) n → IsRepeated same xs n
  mapped_repeats xs n r = (r.0, r.1, mapped_test xs r.0 n ∙ r.2)

module _ {A C B : Type 0} (f : A → B) (g : C → B) (same : A → A → Bool) (alike : C → C → Bool) (test : B → B → Bool) (is : (x y : A) → same x y ≡ test (f x) (f y)) (are : (x y : C) → alike x y ≡ test (g x) (g y)) (xs : List A) (ys : List C)
    (one : map f xs ≡ map g ys) where
  pub repeat_of : (o : Option ℕ) → IsRepeat same xs o → IsRepeat alike ys o
  repeat_of (Some n) r = mapped_repeats g alike test are ys n (subst (λ (zs : List B). IsRepeated test zs n) one (repeats_mapped f same test is xs n r))
  repeat_of None none = λ n r. none n (mapped_repeats f same test is xs n (subst (λ (zs : List B). IsRepeated test zs n) (sym one) (repeats_mapped g alike test are ys n r)))

abbrev Texts : Type 0
Texts = List ℕ × List ℕ × List ℕ

pub caller_repeat : (keys : List Key) (xs : List CallerText) (o : Option ℕ) → map texts_of keys ≡ map (λ (x : CallerText). (x.name, [], [])) xs → IsRepeat same_key keys o → IsRepeat same_caller xs o
caller_repeat keys xs o is r =
    repeat_of {B = Texts} texts_of (λ (x : CallerText). (x.name, [], [])) same_key same_caller same_texts key_by_texts
    (λ x y. and_true (bytes_eq x.name y.name) ∙ ap (λ b. b && true) (and_true (bytes_eq x.name y.name))) keys xs is o r

pub handler_repeat : (keys : List Key) (xs : List HandlerText) (o : Option ℕ) → map texts_of keys ≡ map (λ (x : HandlerText). (x.of, x.on_, [])) xs → IsRepeat same_key keys o → IsRepeat same_handler xs o
handler_repeat keys xs o is r =
    repeat_of {B = Texts} texts_of (λ (x : HandlerText). (x.of, x.on_, [])) same_key same_handler same_texts key_by_texts (λ x y. and_true (bytes_eq x.of y.of && bytes_eq x.on_ y.on_)) keys xs is o r

pub guard_repeat : (keys : List Key) (xs : List GuardText) (o : Option ℕ) → map texts_of keys ≡ map (λ (x : GuardText). (x.of, x.machine, x.guard)) xs → IsRepeat same_key keys o → IsRepeat same_guard xs o
guard_repeat keys xs o is r =
    repeat_of {B = Texts} texts_of (λ (x : GuardText). (x.of, x.machine, x.guard)) same_key same_guard same_texts key_by_texts (λ x y. refl) keys xs is o r
