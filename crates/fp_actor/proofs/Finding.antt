-- Lemmas on finding a handler by instance and place.
use Rattle.std.proofs.Common.{◌≡◌, ℕ, Bool, true, false, ◌&&◌, eqb, ltb, cond, List, length, Some, None, refl, sym, ap, ◌∙◌, arith}
use Rattle.std.specs.List.{position, find, slice_get, position_or_len}
use Rattle.std.specs.Option.{option_and_then}
use Rattle.std.specs.BTreeMap.{is_at as is_key}
use Rattle.std.proofs.lemmas.Bool.Decides.{nat_tests}
use Rattle.std.proofs.lemmas.List.Folds.{find_at}
use Rattle.std.proofs.lemmas.Option.{slice_get_past}
use Rattle.fp_tables.specs.declared.program.Handler.{Handler}
use Rattle.fp_tables.specs.declared.program.Spot.{Spot}
use Rattle.fp_tables.specs.declared.program.Spot.TheVariants as spot
use Rattle.fp_base.proofs.Bools.{both}
use Rattle.fp_tables.specs.SoundPrograms.{same_spot}
use Rattle.fp_tables.proofs.Spots.{spot_equal}
use Rattle.fp_tables.specs.Found.{key_cmp, pair_cmp}
use Rattle.fp_actor.specs.Found.{is_at}

pair_keys : (i n : ℕ) (q : ℕ × ℕ) → is_key (pair_cmp (i, n)) q ≡ (eqb i q.0 && eqb n q.1)
pair_keys i n q = grind (arith, nat_tests)

triple_keys : (i n m : ℕ) (q : ℕ × ℕ × ℕ) → is_key (key_cmp (i, n, m)) q ≡ (eqb i q.0 && (eqb n q.1 && eqb m q.2))
triple_keys i n m q = grind (arith, nat_tests)

pub same_port : (h : Handler) (n : ℕ) (q : ℕ × ℕ) → h.place ≡ spot.Port n → is_key (pair_cmp (h.instance, n)) q ≡ is_at q.0 (spot.Port q.1) h
same_port h n q e = pair_keys h.instance n q ∙ ap (λ (s : Spot). eqb h.instance q.0 && same_spot s (spot.Port q.1)) (sym e)

pub same_command : (h : Handler) (n : ℕ) (q : ℕ × ℕ) → h.place ≡ spot.Command n → is_key (pair_cmp (h.instance, n)) q ≡ is_at q.0 (spot.Command q.1) h
same_command h n q e = pair_keys h.instance n q ∙ ap (λ (s : Spot). eqb h.instance q.0 && same_spot s (spot.Command q.1)) (sym e)

pub same_action : (h : Handler) (n m : ℕ) (q : ℕ × ℕ × ℕ) → h.place ≡ spot.Action n m → is_key (key_cmp (h.instance, n, m)) q ≡ is_at q.0 (spot.Action q.1 q.2) h
same_action h n m q e = triple_keys h.instance n m q ∙ ap (λ (s : Spot). eqb h.instance q.0 && same_spot s (spot.Action q.1 q.2)) (sym e)

pub same_hook_port : (h : Handler) (n : ℕ) (q : ℕ × ℕ) → h.place ≡ spot.HookPort n → is_key (pair_cmp (h.instance, n)) q ≡ is_at q.0 (spot.HookPort q.1) h
same_hook_port h n q e = pair_keys h.instance n q ∙ ap (λ (s : Spot). eqb h.instance q.0 && same_spot s (spot.HookPort q.1)) (sym e)

pub same_hook_command : (h : Handler) (n : ℕ) (q : ℕ × ℕ) → h.place ≡ spot.HookCommand n → is_key (pair_cmp (h.instance, n)) q ≡ is_at q.0 (spot.HookCommand q.1) h
same_hook_command h n q e = pair_keys h.instance n q ∙ ap (λ (s : Spot). eqb h.instance q.0 && same_spot s (spot.HookCommand q.1)) (sym e)

pub same_hook_signal : (h : Handler) (n : ℕ) (q : ℕ × ℕ) → h.place ≡ spot.HookSignal n → is_key (pair_cmp (h.instance, n)) q ≡ is_at q.0 (spot.HookSignal q.1) h
same_hook_signal h n q e = pair_keys h.instance n q ∙ ap (λ (s : Spot). eqb h.instance q.0 && same_spot s (spot.HookSignal q.1)) (sym e)

pub pair_key : (i n : ℕ) (q : ℕ × ℕ) → is_key (pair_cmp (i, n)) q ≡ true → ◌≡◌ {A = ℕ × ℕ} (i, n) q
pair_key i n q h =
    let a : i ≡ q.0 = grind (arith, nat_tests) in
    let b : n ≡ q.1 = grind (arith, nat_tests) in
    λ j. (a j, b j)

pub triple_key : (i n m : ℕ) (q : ℕ × ℕ × ℕ) → is_key (key_cmp (i, n, m)) q ≡ true → ◌≡◌ {A = ℕ × ℕ × ℕ} (i, n, m) q
triple_key i n m q h =
    let a : i ≡ q.0 = grind (arith, nat_tests) in
    let b : n ≡ q.1 = grind (arith, nat_tests) in
    let d : m ≡ q.2 = grind (arith, nat_tests) in
    λ j. (a j, b j, d j)

pub other_port : (b : Bool) (s : Spot) (n : ℕ) → ((x : ℕ) → s ≡ spot.Port x → ⊥) → (b && same_spot s (spot.Port n)) ≡ true → ⊥
other_port b s n other e = other n (spot_equal s (spot.Port n) (both b (same_spot s (spot.Port n)) e).1)

pub other_command : (b : Bool) (s : Spot) (n : ℕ) → ((x : ℕ) → s ≡ spot.Command x → ⊥) → (b && same_spot s (spot.Command n)) ≡ true → ⊥
other_command b s n other e = other n (spot_equal s (spot.Command n) (both b (same_spot s (spot.Command n)) e).1)

pub other_action : (b : Bool) (s : Spot) (n m : ℕ) → ((x y : ℕ) → s ≡ spot.Action x y → ⊥) → (b && same_spot s (spot.Action n m)) ≡ true → ⊥
other_action b s n m other e = other n m (spot_equal s (spot.Action n m) (both b (same_spot s (spot.Action n m)) e).1)

pub other_hook_port : (b : Bool) (s : Spot) (n : ℕ) → ((x : ℕ) → s ≡ spot.HookPort x → ⊥) → (b && same_spot s (spot.HookPort n)) ≡ true → ⊥
other_hook_port b s n other e = other n (spot_equal s (spot.HookPort n) (both b (same_spot s (spot.HookPort n)) e).1)

pub other_hook_command : (b : Bool) (s : Spot) (n : ℕ) → ((x : ℕ) → s ≡ spot.HookCommand x → ⊥) → (b && same_spot s (spot.HookCommand n)) ≡ true → ⊥
other_hook_command b s n other e = other n (spot_equal s (spot.HookCommand n) (both b (same_spot s (spot.HookCommand n)) e).1)

pub other_hook_signal : (b : Bool) (s : Spot) (n : ℕ) → ((x : ℕ) → s ≡ spot.HookSignal x → ⊥) → (b && same_spot s (spot.HookSignal n)) ≡ true → ⊥
other_hook_signal b s n other e = other n (spot_equal s (spot.HookSignal n) (both b (same_spot s (spot.HookSignal n)) e).1)

module _ {X : Type 0} (p : X → Bool) where
  found_at : (xs : List X) → find p xs ≡ option_and_then (slice_get xs) (position p xs)
  found_at xs = find_at p xs ∙ go (ltb (position_or_len p xs) (length xs)) refl
    where
      go : (b : Bool) → ltb (position_or_len p xs) (length xs) ≡ b → slice_get xs (position_or_len p xs) ≡ option_and_then (slice_get xs) (cond b (Some (position_or_len p xs)) None)
      go true e = refl
      go false e = slice_get_past xs (position_or_len p xs) (grind (arith, nat_tests))

  pub found_none : (xs : List X) → position p xs ≡ None → find p xs ≡ None
  found_none xs e = found_at xs ∙ ap (option_and_then (slice_get xs)) e

  pub found_some : (xs : List X) (k : ℕ) → position p xs ≡ Some k → find p xs ≡ slice_get xs k
  found_some xs k e = found_at xs ∙ ap (option_and_then (slice_get xs)) e
