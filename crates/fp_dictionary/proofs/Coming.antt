-- Marks that come once each, each by a flag of its own.
use Rattle.std.proofs.Common.{◌≡◌, ◌≢◌, ◌∙◌, ◌⊎◌, inl, inr, ℕ, ◌+◌, ◌<◌, ◌||◌, Bool, true, false, not, cond, List, [], ◌∷◌, ◌++◌, length, set, slice_get, Option, Some, None, refl, sym, ap, subst, arith}
use Rattle.std.specs.Prelude.{unwrap_or}
use Rattle.std.specs.List.{list_any}
use Rattle.std.proofs.lemmas.List.{length-replicate, length-set, length_push}
use Rattle.fp_base.proofs.Bools.{or_cases, or_left, or_right}
use Rattle.fp_base.proofs.Lists.{get_front, get_last, get_within}
use Rattle.fp_base.proofs.Sameness.{nat_same}
use Rattle.fp_base.proofs.Spots.{get_push, get_set_other, get_set_same, item_below, same_or_other}
use Rattle.fp_base.proofs.Numbers.{no_flag}
use Rattle.fp_tables.specs.Types.{is_named}
use Rattle.fp_tables.specs.declared.kind.Kind.{Kind}
use Rattle.fp_tables.specs.declared.kind.Kind.TheVariants as kind
use Rattle.fp_dictionary.specs.Marks.{Marks, no_marks, with_mark, with_marks}
use Rattle.fp_dictionary.proofs.Flags.{fewer_unset, none_set, set_again, unset}

pub record AreMarks (n : ℕ) (Is : ℕ → Type 0) (s : Marks) : Type 0 where
  pub long : length s.flags ≡ n
  pub counts : unset s.flags + length s.order ≡ n
  pub sound : (i k : ℕ) → slice_get s.order i ≡ Some k → Is k
  pub flagged : (i k : ℕ) → slice_get s.order i ≡ Some k → slice_get s.flags k ≡ Some true
  pub listed : (k : ℕ) → slice_get s.flags k ≡ Some true → (i : ℕ) × (slice_get s.order i ≡ Some k)
  pub once : (i j k : ℕ) → slice_get s.order i ≡ Some k → slice_get s.order j ≡ Some k → i ≡ j

-- what is marked stays so, in its place
pub record Grows (s t : Marks) : Type 0 where
  pub flags : (k : ℕ) → slice_get s.flags k ≡ Some true → slice_get t.flags k ≡ Some true
  pub order : (i k : ℕ) → slice_get s.order i ≡ Some k → slice_get t.order i ≡ Some k

pub grows_not : (s : Marks) → Grows s s
grows_not s = record { flags = λ k h. h; order = λ i k h. h }

pub grows_on : (s t u : Marks) → Grows s t → Grows t u → Grows s u
grows_on s t u g h = record { flags = λ k e. h.flags k (g.flags k e); order = λ i k e. h.order i k (g.order i k e) }

none_there : (i k : ℕ) → slice_get [] i ≡ Some k → ⊥
none_there i k h = cc

pub unmarked_are : (n : ℕ) (Is : ℕ → Type 0) → AreMarks n Is (no_marks n)
unmarked_are n Is =
    let unset_all = none_set n in
    record {
      long = length-replicate n false;
      counts = omega arith;
      sound = λ i k h. absurd (none_there i k h);
      flagged = λ i k h. absurd (none_there i k h);
      listed = λ k h. absurd (no_flag n k h);
      once = λ i j k h e. absurd (none_there i k h);
    }

-- some of them is to be marked
abbrev pub is_among : ℕ → List Kind → Type 0
is_among k xs = list_any (is_named k) xs ≡ true

module _ (n : ℕ) (Is : ℕ → Type 0) where
  -- of the table, all that are named are marked
  pub record Comes (s : Marks) (xs : List Kind) (t : Marks) : Type 0 where
    pub are : AreMarks n Is t
    pub grows : Grows s t
    pub all : (k : ℕ) → is_among k xs → k < n → slice_get t.flags k ≡ Some true

  -- ---- one more that wasn't marked

  module _ (s : Marks) (k : ℕ) (are : AreMarks n Is s) (free : slice_get s.flags k ≡ Some false) where
    other_than : (j : ℕ) → slice_get s.flags j ≡ Some true → j ≢ k
    other_than j h e = (let there : slice_get s.flags k ≡ Some true = subst (λ (i : ℕ). slice_get s.flags i ≡ Some true) e h in cc)

    within : k < length s.flags
    within = get_within s.flags k false free

    abbrev after : Marks
    after = record { flags = set s.flags k true; order = s.order ++ k ∷ [] }

    still : (j : ℕ) → slice_get s.flags j ≡ Some true → slice_get (set s.flags k true) j ≡ Some true
    still j h = get_set_other s.flags k j true (other_than j h) ∙ h

    new_grows : Grows s after
    new_grows = record { flags = still; order = λ i j h. get_front s.order (k ∷ []) i j h }

    module _ (is : Is k) where
      new_sound : (i j : ℕ) → slice_get (s.order ++ k ∷ []) i ≡ Some j → Is j
      new_sound i j h = go (get_push s.order k j i h)
        where
          go : (slice_get s.order i ≡ Some j) ⊎ ((i ≡ length s.order) × (k ≡ j)) → Is j
          go (inl e) = are.sound i j e
          go (inr t) = subst Is t.1 is

      new_flagged : (i j : ℕ) → slice_get (s.order ++ k ∷ []) i ≡ Some j → slice_get (set s.flags k true) j ≡ Some true
      new_flagged i j h = go (get_push s.order k j i h)
        where
          go : (slice_get s.order i ≡ Some j) ⊎ ((i ≡ length s.order) × (k ≡ j)) → slice_get (set s.flags k true) j ≡ Some true
          go (inl e) = still j (are.flagged i j e)
          go (inr t) = subst (λ (x : ℕ). slice_get (set s.flags k true) x ≡ Some true) t.1 (get_set_same s.flags k true within)

      new_listed : (j : ℕ) → slice_get (set s.flags k true) j ≡ Some true → (i : ℕ) × (slice_get (s.order ++ k ∷ []) i ≡ Some j)
      new_listed j h = go (same_or_other j k)
        where
          go : (j ≡ k) ⊎ (j ≢ k) → (i : ℕ) × (slice_get (s.order ++ k ∷ []) i ≡ Some j)
          go (inl e) = (length s.order, get_last s.order k ∙ ap Some (sym e))
          go (inr e) = (let t = are.listed j (sym (get_set_other s.flags k j true e) ∙ h) in (t.0, get_front s.order (k ∷ []) t.0 j t.1))

      new_once : (i j x : ℕ) → slice_get (s.order ++ k ∷ []) i ≡ Some x → slice_get (s.order ++ k ∷ []) j ≡ Some x → i ≡ j
      new_once i j x h e = go (get_push s.order k x i h) (get_push s.order k x j e)
        where
          old : (i : ℕ) → slice_get s.order i ≡ Some x → k ≡ x → ⊥
          old i there same = other_than x (are.flagged i x there) (sym same)

          go : (slice_get s.order i ≡ Some x) ⊎ ((i ≡ length s.order) × (k ≡ x)) → (slice_get s.order j ≡ Some x) ⊎ ((j ≡ length s.order) × (k ≡ x)) → i ≡ j
          go (inl a) (inl b) = are.once i j x a b
          go (inl a) (inr b) = absurd (old i a b.1)
          go (inr a) (inl b) = absurd (old j b a.1)
          go (inr a) (inr b) = a.0 ∙ sym b.0

      new_are : AreMarks n Is after
      new_are =
          let long = are.long in
          let fewer = fewer_unset s.flags k free in
          let more = length_push s.order k in
          let counts = are.counts in
          record {
            long = length-set s.flags k true ∙ long;
            counts = omega arith;
            sound = new_sound;
            flagged = new_flagged;
            listed = new_listed;
            once = new_once;
          }

  -- ---- one of any kind

  only_first : (b : Bool) → (b || false) ≡ true → b ≡ true
  only_first true h = refl
  only_first false h = h

  kept_comes : (s : Marks) (x : Kind) → AreMarks n Is s → ((k : ℕ) → is_named k x ≡ true → k < n → slice_get s.flags k ≡ Some true) → Comes s (x ∷ []) s
  kept_comes s x are all = record { are = are; grows = grows_not s; all = λ k h lt. all k (only_first (is_named k x) h) lt }

  named_comes : (s : Marks) (k : ℕ) → AreMarks n Is s → Is k → Comes s (kind.Named k ∷ []) (with_mark s (kind.Named k))
  named_comes s k are is = go (slice_get s.flags k) refl
    where
      by : Option Bool → Marks
      by o = record { flags = set s.flags k true; order = cond (not (unwrap_or o true)) (s.order ++ k ∷ []) s.order }

      same : (j : ℕ) → is_among j (kind.Named k ∷ []) → k ≡ j
      same j h = nat_same.equal k j (only_first (is_named j (kind.Named k)) h)

      -- it was marked, or isn't in the table
      stays : unwrap_or (slice_get s.flags k) true ≡ true → (k < n → slice_get s.flags k ≡ Some true) → Comes s (kind.Named k ∷ []) (record { flags = set s.flags k true; order = s.order })
      stays e there =
          subst (λ (fs : List Bool). Comes s (kind.Named k ∷ []) (record { flags = fs; order = s.order })) (sym (set_again s.flags k e))
          (kept_comes s (kind.Named k) are (λ j h lt.
          let at : k ≡ j = nat_same.equal k j h in
          subst (λ (i : ℕ). slice_get s.flags i ≡ Some true) at (there (subst (λ (i : ℕ). i < n) (sym at) lt))))

      inside : slice_get s.flags k ≡ None → k < n → slice_get s.flags k ≡ Some true
      inside e lt = (let long = are.long in let t = item_below s.flags k (omega arith) in let there = t.1 in absurd (cc))

      go : (o : Option Bool) → slice_get s.flags k ≡ o → Comes s (kind.Named k ∷ []) (by o)
      go None e = stays (ap (λ (o : Option Bool). unwrap_or o true) e) (inside e)
      go (Some true) e = stays (ap (λ (o : Option Bool). unwrap_or o true) e) (λ lt. e)
      go (Some false) e =
          record {
            are = new_are s k are e is;
            grows = new_grows s k are e;
            all = λ j h lt. subst (λ (i : ℕ). slice_get (set s.flags k true) i ≡ Some true) (same j h) (get_set_same s.flags k true (get_within s.flags k false e));
          }

  false_true : false ≡ true → ⊥
  false_true h = cc

  one_comes : (s : Marks) (x : Kind) → AreMarks n Is s → ((k : ℕ) → is_named k x ≡ true → Is k) → Comes s (x ∷ []) (with_mark s x)
  one_comes s (kind.Named k) are is = named_comes s k are (is k (nat_same.itself k))
  one_comes s x are is = kept_comes s x are (λ k h lt. absurd (false_true h))

  -- ---- one behind another

  joined_comes : (s t u : Marks) (x : Kind) (xs : List Kind) → Comes s (x ∷ []) t → Comes t xs u → Comes s (x ∷ xs) u
  joined_comes s t u x xs one rest =
      record { are = rest.are; grows = grows_on s t u one.grows rest.grows; all = λ k h lt. go k lt (or_cases (is_named k x) (list_any (is_named k) xs) h) }
    where
      go : (k : ℕ) → k < n → (is_named k x ≡ true) ⊎ (list_any (is_named k) xs ≡ true) → slice_get u.flags k ≡ Some true
      go k lt (inl e) = rest.grows.flags k (one.all k (or_left (is_named k x) false e) lt)
      go k lt (inr e) = rest.all k e lt

  pub many_come : (s : Marks) (xs : List Kind) → AreMarks n Is s → ((k : ℕ) → is_among k xs → Is k) → Comes s xs (with_marks s xs)
  many_come s [] are is = record { are = are; grows = grows_not s; all = λ k h lt. absurd (false_true h) }
  many_come s (x ∷ xs) are is =
      let one = one_comes s x are (λ k h. is k (or_left (is_named k x) (list_any (is_named k) xs) h)) in
      joined_comes s (with_mark s x) (with_marks (with_mark s x) xs) x xs one
      (many_come (with_mark s x) xs one.are (λ k h. is k (or_right (is_named k x) (list_any (is_named k) xs) h)))
