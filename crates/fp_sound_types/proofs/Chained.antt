-- Chains of definitions, found by marks.
use Rattle.std.proofs.Common.{◌≡◌, ℕ, zero, suc, ◌+◌, ◌-◌, ◌≤◌, Bool, true, false, not, ◌&&◌, ◌||◌, List, [], ◌∷◌, map, length, replicate, Option, Some, None, option_map, is_some, unwrap_or, refl, sym, ap, ap₂, subst, ◌∙◌, arith, eqb}
use Rattle.std.proofs.lemmas.Bool.Decides.{nat_tests}
use Rattle.std.proofs.lemmas.List.{length-map}
use Rattle.std.proofs.lemmas.Option.{slice_get-map}
use Rattle.std.proofs.Math.Bool.{and_comm}
use Rattle.std.specs.List.{list_any, slice_get}
use Rattle.fp_base.proofs.Passing.{none_passes}
use Rattle.fp_tables.specs.Lists.{all_from, some_and}
use Rattle.fp_tables.specs.Types.{form_at, kinds_in, uses_constants, is_last, begins_chain}
use Rattle.fp_sound_types.specs.Marks.{is_marked, uses_marked}
use Rattle.fp_tables.specs.declared.kind.Kind.{Kind}
use Rattle.fp_tables.specs.declared.kind.Kind.TheVariants.{Named}
use Rattle.fp_tables.specs.declared.kind.Form.{Form}
use Rattle.fp_tables.specs.declared.kind.TypeDef.{TypeDef}
use Rattle.fp_base.proofs.Lists.{any_same}

pub any_map : {X Y : Type 0} (f : Y → Bool) (h : X → Y) (xs : List X) → list_any (λ x. f (h x)) xs ≡ list_any f (map h xs)
any_map f h [] = refl
any_map f h (x ∷ xs) = ap (λ b. f (h x) || b) (any_map f h xs)

all_from_each : {X : Type 0} (test : ℕ → X → Bool) → ((i : ℕ) (x : X) → test i x ≡ true) → (n : ℕ) (xs : List X) → all_from test n xs ≡ true
all_from_each test each n [] = refl
all_from_each test each n (x ∷ xs) = rw (each n x) (all_from_each test each (suc n) xs)

-- marks at all places that the test names
none_is_marked : {X : Type 0} (test : ℕ → Bool) (n : ℕ) (marks : List Bool) (xs : List X) → length marks ≡ length xs →
    ((i : ℕ) → unwrap_or (slice_get marks i) false ≡ test (n + i)) → not (list_any (λ mark. mark) marks) ≡ all_from (λ i (_ : X). not (test i)) n xs
none_is_marked test n [] [] e same = refl
none_is_marked test n [] (x ∷ xs) e same = absurd (cc)
none_is_marked test n (m ∷ marks) [] e same = absurd (cc)
none_is_marked test n (m ∷ marks) (x ∷ xs) e same =
    let rest = none_is_marked test (suc n) marks xs (cc) (λ i. let here : n + suc i ≡ suc n + i = omega arith in same (suc i) ∙ ap test here) in
    let here : n + 0 ≡ n = omega arith in
    go m (test n) (same 0 ∙ ap test here) rest
  where
    go : (a b : Bool) → a ≡ b → not (list_any (λ mark. mark) marks) ≡ all_from (λ i (_ : _). not (test i)) (suc n) xs →
        not (a || list_any (λ mark. mark) marks) ≡ (not b && all_from (λ i (_ : _). not (test i)) (suc n) xs)
    go true true h e = refl
    go false false h e = e
    go true false h e = absurd (cc)
    go false true h e = absurd (cc)

unmarked : (marks : List Bool) (i : ℕ) → list_any (λ mark. mark) marks ≡ false → unwrap_or (slice_get marks i) false ≡ false
unmarked [] i h = refl
unmarked (true ∷ marks) i h = absurd (cc)
unmarked (false ∷ marks) zero h = refl
unmarked (false ∷ marks) (suc i) h = unmarked marks i h

marked_within : (xs : List TypeDef) (i : ℕ) → unwrap_or (slice_get (replicate (length xs) true) i) false ≡ is_some (option_map (λ (d : TypeDef). d.form) (slice_get xs i))
marked_within [] i = refl
marked_within (x ∷ xs) zero = refl
marked_within (x ∷ xs) (suc i) = marked_within xs i

length_replicate : {X : Type 0} (n : ℕ) (x : X) → length (replicate n x) ≡ n
length_replicate zero x = refl
length_replicate (suc n) x = ap suc (length_replicate n x)

pub zero_is_last : (n : ℕ) → eqb n 0 ≡ is_last n
zero_is_last zero = refl
zero_is_last (suc n) = grind (arith, nat_tests)

module _ (types : List TypeDef) where
  -- the marks stand where a chain of so many uses begins
  pub record AreMarks (n : ℕ) (marks : List Bool) : Type 0 where
    pub long : length marks ≡ length types
    pub same : (k : Kind) → is_marked marks k ≡ begins_chain types n k

  marked_named : (marks : List Bool) (n i : ℕ) → AreMarks n marks → unwrap_or (slice_get marks i) false ≡ begins_chain types n (Named i)
  marked_named marks n i are = are.same (Named i)

  first_same : (k : Kind) → is_marked (replicate (length types) true) k ≡ begins_chain types 0 k
  unfolding begins_chain
  first_same (Named i) = marked_within types i
  first_same _ = refl

  pub first_marks : AreMarks 0 (replicate (length types) true)
  first_marks = record { long = length_replicate (length types) true; same = first_same }

  abbrev pub users : List Bool → Bool → List Bool
  users marks constants = map (λ (d : TypeDef). uses_marked marks constants d.form) types

  users_same : (n : ℕ) (marks : List Bool) → AreMarks n marks → (k : Kind) → is_marked (users marks (is_last n)) k ≡ begins_chain types (suc n) k
  unfolding begins_chain
  users_same n marks are (Named i) =
      ap (λ (o : Option Bool). unwrap_or o false) (slice_get-map (λ (d : TypeDef). uses_marked marks (is_last n) d.form) types i) ∙ go (slice_get types i)
    where
      go : (o : Option TypeDef) →
          unwrap_or (option_map (λ (d : TypeDef). uses_marked marks (is_last n) d.form) o) false
          ≡ some_and (λ f. (is_last n && uses_constants f) || list_any (begins_chain types n) (kinds_in f)) (option_map (λ (d : TypeDef). d.form) o)
      go None = refl
      go (Some d) = ap₂ (λ (a b : Bool). a || b) (and_comm (uses_constants d.form) (is_last n)) (any_same (is_marked marks) (begins_chain types n) are.same (kinds_in d.form))
  users_same n marks are _ = refl

  pub next_marks : (n m : ℕ) (marks more : List Bool) → AreMarks n marks → m ≡ n + 1 → more ≡ users marks (is_last n) → AreMarks m more
  next_marks n m marks more are e f =
      let one : suc n ≡ m = omega arith in
      let made : AreMarks (suc n) (users marks (is_last n)) = record { long = length-map types (λ (d : TypeDef). uses_marked marks (is_last n) d.form); same = users_same n marks are } in
      subst (λ (l : List Bool). AreMarks m l) (sym f) (subst (λ k. AreMarks k (users marks (is_last n))) one made)

  none_longer : (n : ℕ) → ((k : Kind) → begins_chain types n k ≡ false) → (k : Kind) → begins_chain types (suc n) k ≡ false
  unfolding begins_chain
  none_longer zero none (Named i) = go (form_at types i) (none (Named i))
    where
      go : (o : Option Form) → is_some o ≡ false → some_and (λ f. uses_constants f || list_any (begins_chain types 0) (kinds_in f)) o ≡ false
      go None e = refl
      go (Some f) e = absurd (cc)
  none_longer (suc n) none (Named i) = go (form_at types i)
    where
      go : (o : Option Form) → some_and (λ f. list_any (begins_chain types (suc n)) (kinds_in f)) o ≡ false
      go None = refl
      go (Some f) = none_passes (begins_chain types (suc n)) (kinds_in f) none
  none_longer n none _ = refl

  none_later : (more n : ℕ) → ((k : Kind) → begins_chain types n k ≡ false) → (k : Kind) → begins_chain types (more + n) k ≡ false
  none_later zero n none k =
      let here : n ≡ 0 + n = omega arith in
      subst (λ m. begins_chain types m k ≡ false) here (none k)
  none_later (suc more) n none k =
      let here : suc (more + n) ≡ suc more + n = omega arith in
      subst (λ m. begins_chain types m k ≡ false) here (none_longer (more + n) (none_later more n none) k)

  none_begins : (n : ℕ) (marks : List Bool) → AreMarks n marks → list_any (λ mark. mark) marks ≡ false → (k : Kind) → begins_chain types n k ≡ false
  unfolding begins_chain
  none_begins n marks are none (Named i) = sym (marked_named marks n i are) ∙ unmarked marks i none
  none_begins n marks are none k = sym (are.same k)

  pub short_early : (most n : ℕ) (marks : List Bool) → AreMarks n marks → n ≤ most → list_any (λ mark. mark) marks ≡ false →
      all_from (λ i (_ : TypeDef). not (begins_chain types most (Named i))) 0 types ≡ true
  short_early most n marks are le none =
      let here : (most - n) + n ≡ most = omega arith in
      all_from_each (λ i (_ : TypeDef). not (begins_chain types most (Named i)))
      (λ i _. ap not (subst (λ m. begins_chain types m (Named i) ≡ false) here (none_later (most - n) n (none_begins n marks are none) (Named i)))) 0 types

  pub short_late : (most n : ℕ) (marks : List Bool) → AreMarks n marks → n ≡ most → not (list_any (λ mark. mark) marks) ≡ all_from (λ i (_ : TypeDef). not (begins_chain types most (Named i))) 0 types
  short_late most n marks are e =
      none_is_marked (λ i. begins_chain types most (Named i)) 0 marks types are.long
      (λ i. let here : i ≡ 0 + i = omega arith in marked_named marks n i are ∙ ap₂ (λ m j. begins_chain types m (Named j)) e here)
