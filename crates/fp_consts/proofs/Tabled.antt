-- The definitions of a source in an order in which each stands behind those that it uses, evaluated one after another.
use Rattle.std.proofs.Common.{◌≡◌, ℕ, zero, suc, ◌+◌, ◌<◌, ◌≤◌, ◌⊎◌, Bool, true, false, List, [], ◌∷◌, ◌++◌, length, flat_map, replicate, slice_get, take, set, Option, Some, None, refl, inl, inr, sym, ap, subst, ◌∙◌, arith, length-append}
use Rattle.std.proofs.lemmas.Option.{slice_get_within}
use Rattle.std.proofs.lemmas.List.{length-replicate}
use Rattle.fp_base.proofs.Lists.{get_front}
use Rattle.fp_graph.specs.Chains.{IsOnCycle, IsSorted}
use Rattle.fp_tree.specs.declared.source.Source.{Source}
use Rattle.fp_meaning.specs.declared.names.Mention.{Mention}
use Rattle.fp_meaning.specs.Meaning.{Means}
use Rattle.fp_meaning.specs.Names.{definitions, definitions_of, mentions, uses_of}
use Rattle.fp_meaning.specs.Origins.{Origin, origins, origins_of}
use Rattle.fp_meaning.specs.declared.item.Item.{Item}
use Rattle.fp_meaning.specs.declared.item.Item.TheVariants as variant
use Rattle.fp_meaning.specs.Owners.{owner_of, owners_from}
use Rattle.fp_meaning.specs.Uses.{Uses, by_name}
use Rattle.fp_consts.specs.declared.measured.Measured.{Measured}
use Rattle.fp_consts.specs.Examined.{AreGiven, IsExact, value_at, entry}
use Rattle.fp_consts.specs.Laid.{past, next_of, firsts_from, spots_from}
use Rattle.fp_consts.specs.Settled.{Settles}
use Rattle.fp_consts.specs.Tabled.{IsLaidOut, IsDefined, AreExact, AreExactFirst}
use Rattle.fp_consts.proofs.Grounded.{none_on_cycle}
use Rattle.fp_consts.proofs.Measures.{none_measured}
use Rattle.fp_base.proofs.Spots.{item_below, get_set_same, get_set_other, same_or_other, before_or_not}
use Rattle.fp_base.proofs.Numbers.{suc_is, get_replicate, none_before}
use Rattle.fp_graph.proofs.Places.{get_right}
use Rattle.fp_consts.proofs.Valued.{settled_exact}

-- what an element gives stands in what all give
pub flat_at : {A B : Type 0} (f : A → List B) (xs : List A) (k : ℕ) (x : A) (i : ℕ) (y : B) → slice_get xs k ≡ Some x → slice_get (f x) i ≡ Some y
    → slice_get (flat_map f xs) (length (flat_map f (take k xs)) + i) ≡ Some y
flat_at f [] k x i y at there = cc
flat_at {B = B} f (z ∷ xs) zero x i y at there =
    let same : x ≡ z = cc in
    let here : slice_get (f z) i ≡ Some y = subst (λ (w : _). slice_get (f w) i ≡ Some y) same there in
    let index : i ≡ 0 + i = omega arith in
    subst (λ (n : ℕ). slice_get (f z ++ flat_map f xs) n ≡ Some y) index (get_front (f z) (flat_map f xs) i y here)
flat_at f (z ∷ xs) (suc k) x i y at there =
    let long = length-append (f z) (flat_map f (take k xs)) in
    let index : length (f z ++ flat_map f (take k xs)) + i ≡ length (f z) + (length (flat_map f (take k xs)) + i) = omega arith in
    get_right (f z) (flat_map f xs) y (length (f z ++ flat_map f (take k xs)) + i) (length (flat_map f (take k xs)) + i) index (flat_at f xs k x i y at there)

-- the item that is the definition with a number, from an item on that has an index and whose first use has a number
pub record IsSpot (ps : List Item) (index limit from number : ℕ) (origin : Origin) : Type 0 where
  pub at : ℕ
  pub item : Item
  pub gives : origins_of item ≡ origin ∷ []
  pub spot : slice_get (spots_from index ps) number ≡ Some (index + at)
  pub part : slice_get ps at ≡ Some item
  pub first : ℕ
  pub begins : slice_get (firsts_from limit from ps) number ≡ Some first
  pub is_first : first ≡ from + length (flat_map uses_of (take at ps))
  pub is_number : number ≡ length (flat_map definitions_of (take at ps))

past_within : (n limit from : ℕ) → from + n ≤ limit → past n limit from ≡ from + n
past_within n limit from h = omega arith

-- one item further on
further : (p : Item) (ps : List Item) (index limit from number earlier : ℕ) (origin : Origin) → from + length (uses_of p) ≤ limit
    → slice_get (spots_from index (p ∷ ps)) number ≡ slice_get (spots_from (suc index) ps) earlier
    → slice_get (firsts_from limit from (p ∷ ps)) number ≡ slice_get (firsts_from limit (next_of limit from p) ps) earlier → number ≡ length (definitions_of p) + earlier
    → IsSpot ps (suc index) limit (from + length (uses_of p)) earlier origin → IsSpot (p ∷ ps) index limit from number origin
further p ps index limit from number earlier origin fits spots firsts counts is = record {
  at = suc is.at;
  item = is.item;
  gives = is.gives;
  spot = spots ∙ is.spot ∙ ap (λ (n : ℕ). Some n) (moved index is.at);
  part = is.part;
  first = is.first;
  begins =
      firsts ∙ ap (λ (n : ℕ). slice_get (firsts_from limit n ps) earlier) (past_within (length (uses_of p)) limit from fits) ∙ is.begins;
  is_first =
      let long = length-append (uses_of p) (flat_map uses_of (take is.at ps)) in
      let before = is.is_first in
      let same : is.first ≡ from + length (uses_of p ++ flat_map uses_of (take is.at ps)) = omega arith in
      same;
  is_number =
      let long = length-append (definitions_of p) (flat_map definitions_of (take is.at ps)) in
      let before = is.is_number in
      let same : number ≡ length (definitions_of p ++ flat_map definitions_of (take is.at ps)) = omega arith in
      same;
}
  where
    moved : (m n : ℕ) → suc m + n ≡ m + suc n
    moved m n = omega arith

-- or this one
here : (p : Item) (ps : List Item) (index limit from : ℕ) (origin : Origin) → from + length (uses_of p) ≤ limit
    → slice_get (spots_from index (p ∷ ps)) 0 ≡ Some index
    → slice_get (firsts_from limit from (p ∷ ps)) 0 ≡ Some from
    → origins_of p ≡ origin ∷ [] → IsSpot (p ∷ ps) index limit from 0 origin
here p ps index limit from origin fits spot begins gives = record {
  at = 0;
  item = p;
  gives = gives;
  spot = spot ∙ ap (λ (n : ℕ). Some n) (plus_none index);
  part = refl;
  first = from;
  begins = begins;
  is_first = plus_none from;
  is_number = refl;
}
  where
    plus_none : (n : ℕ) → n ≡ n + 0
    plus_none n = omega arith

within_all : (p : Item) (ps : List Item) (from limit : ℕ) → from + length (uses_of p ++ flat_map uses_of ps) ≤ limit
    → (from + length (uses_of p) ≤ limit) × (from + length (uses_of p) + length (flat_map uses_of ps) ≤ limit)
within_all p ps from limit h = let long = length-append (uses_of p) (flat_map uses_of ps) in (omega arith, omega arith)

alone : {x y : Origin} → Some x ≡ Some y → x ∷ [] ≡ y ∷ []
alone e = cc

pub spot_of : (ps : List Item) (index limit from number : ℕ) (origin : Origin) → from + length (flat_map uses_of ps) ≤ limit → slice_get (flat_map origins_of ps) number ≡ Some origin
    → IsSpot ps index limit from number origin
spot_of [] index limit from number origin fits at = cc
spot_of (variant.Used since n ∷ ps) index limit from number origin fits at =
    let t = within_all (variant.Used since n) ps from limit fits in
    further (variant.Used since n) ps index limit from number number origin t.0 refl refl (none_before number) (spot_of ps (suc index) limit (from + length (uses_of (variant.Used since n))) number origin t.1 at)
spot_of (variant.Written since w ∷ ps) index limit from number origin fits at =
    let t = within_all (variant.Written since w) ps from limit fits in
    further (variant.Written since w) ps index limit from number number origin t.0 refl refl (none_before number) (spot_of ps (suc index) limit (from + length (uses_of (variant.Written since w))) number origin t.1 at)
spot_of (variant.Defined s ∷ ps) index limit from zero origin fits at =
    here (variant.Defined s) ps index limit from origin (within_all (variant.Defined s) ps from limit fits).0 refl refl (alone at)
spot_of (variant.Defined s ∷ ps) index limit from (suc number) origin fits at =
    let t = within_all (variant.Defined s) ps from limit fits in
    further (variant.Defined s) ps index limit from (suc number) number origin t.0 refl refl (suc_is number) (spot_of ps (suc index) limit (from + length (uses_of (variant.Defined s))) number origin t.1 at)
spot_of (variant.Enumerated e ∷ ps) index limit from zero origin fits at =
    here (variant.Enumerated e) ps index limit from origin (within_all (variant.Enumerated e) ps from limit fits).0 refl refl (alone at)
spot_of (variant.Enumerated e ∷ ps) index limit from (suc number) origin fits at =
    let t = within_all (variant.Enumerated e) ps from limit fits in
    further (variant.Enumerated e) ps index limit from (suc number) number origin t.0 refl refl (suc_is number) (spot_of ps (suc index) limit (from + length (uses_of (variant.Enumerated e))) number origin t.1 at)
spot_of (variant.Declared d ∷ ps) index limit from zero origin fits at =
    here (variant.Declared d) ps index limit from origin (within_all (variant.Declared d) ps from limit fits).0 refl refl (alone at)
spot_of (variant.Declared d ∷ ps) index limit from (suc number) origin fits at =
    let t = within_all (variant.Declared d) ps from limit fits in
    further (variant.Declared d) ps index limit from (suc number) number origin t.0 refl refl (suc_is number) (spot_of ps (suc index) limit (from + length (uses_of (variant.Declared d))) number origin t.1 at)

owns_itself : (number : ℕ) (p : Item) (origin : Origin) → origins_of p ≡ origin ∷ [] → owner_of number p ≡ number
owns_itself number (variant.Defined s) origin gives = refl
owns_itself number (variant.Enumerated e) origin gives = refl
owns_itself number (variant.Declared d) origin gives = refl
owns_itself number (variant.Used since n) origin gives = cc
owns_itself number (variant.Written since w) origin gives = cc

pub owned_at : (ps : List Item) (number at : ℕ) (p : Item) (origin : Origin) (i : ℕ) → slice_get ps at ≡ Some p → origins_of p ≡ origin ∷ [] → i < length (uses_of p)
    → slice_get (owners_from number ps) (length (flat_map uses_of (take at ps)) + i) ≡ Some (number + length (flat_map definitions_of (take at ps)))
owned_at [] number at p origin i there gives low = cc
owned_at (z ∷ ps) number zero p origin i there gives low =
    let same : p ≡ z = cc in
    let low_here : i < length (uses_of z) = subst (λ (q : Item). i < length (uses_of q)) same low in
    let mine : owner_of number z ≡ number = owns_itself number z origin (subst (λ (q : Item). origins_of q ≡ origin ∷ []) same gives) in
    let front : slice_get (replicate (length (uses_of z)) (owner_of number z) ++ owners_from (number + length (definitions_of z)) ps) i ≡ Some (owner_of number z) =
    get_front (replicate (length (uses_of z)) (owner_of number z)) (owners_from (number + length (definitions_of z)) ps) i (owner_of number z)
    (get_replicate (length (uses_of z)) (owner_of number z) i low_here) in
    let none_more : number ≡ number + 0 = omega arith in
    let index : i ≡ 0 + i = omega arith in
    subst (λ (n : ℕ). slice_get (owners_from number (z ∷ ps)) n ≡ Some (number + 0)) index (front ∙ ap (λ (n : ℕ). Some n) (mine ∙ none_more))
owned_at (z ∷ ps) number (suc at) p origin i there gives low =
    let long = length-append (uses_of z) (flat_map uses_of (take at ps)) in
    let many = length-replicate (length (uses_of z)) (owner_of number z) in
    let defined = length-append (definitions_of z) (flat_map definitions_of (take at ps)) in
    let index : length (uses_of z ++ flat_map uses_of (take at ps)) + i ≡ length (replicate (length (uses_of z)) (owner_of number z)) + (length (flat_map uses_of (take at ps)) + i) = omega arith in
    let sum : number + length (definitions_of z) + length (flat_map definitions_of (take at ps)) ≡ number + length (definitions_of z ++ flat_map definitions_of (take at ps)) = omega arith in
    get_right (replicate (length (uses_of z)) (owner_of number z)) (owners_from (number + length (definitions_of z)) ps) (number + length (definitions_of z ++ flat_map definitions_of (take at ps)))
    (length (uses_of z ++ flat_map uses_of (take at ps)) + i) (length (flat_map uses_of (take at ps)) + i) index
    (owned_at ps (number + length (definitions_of z)) at p origin i there gives low ∙ ap (λ (n : ℕ). Some n) sum)

-- uses are given where each is
pub given_each : (source : Source) (table : List (Option Measured)) (numbers : List ℕ) (ms : List Mention) (from : ℕ)
    → ((i : ℕ) (m : Mention) → slice_get ms i ≡ Some m
    → (number : ℕ) × (slice_get numbers (from + i) ≡ Some number) × Means (definitions source) m.scope m.name m.group number × IsExact source number (value_at table number))
    → AreGiven source table numbers ms from
given_each source table numbers [] from each = tt
given_each source table numbers (m ∷ ms) from each =
    let t = each 0 m refl in
    let here : slice_get numbers from ≡ Some t.0 = subst (λ (n : ℕ). slice_get numbers n ≡ Some t.0) (plus_none from) t.1 in (
      (t.0, here, t.2, t.3),
      given_each source table numbers ms (from + 1) (λ i x at.
          let u = each (suc i) x at in
          (u.0, subst (λ (n : ℕ). slice_get numbers n ≡ Some u.0) (moved from i) u.1, u.2, u.3)),
    )
  where
    plus_none : (n : ℕ) → n + 0 ≡ n
    plus_none n = omega arith

    moved : (m n : ℕ) → m + suc n ≡ m + 1 + n
    moved m n = omega arith

-- the value in a table after a change
value_same : (table : List (Option Measured)) (number : ℕ) (o : Option Measured) → number < length table → value_at (set table number o) number ≡ o
value_same table number o h = ap entry (get_set_same table number o h)

value_other : (table : List (Option Measured)) (number other : ℕ) (o : Option Measured) → (other ≡ number → ⊥) → value_at (set table number o) other ≡ value_at table other
value_other table number other o apart = ap entry (get_set_other table number other o apart)

module _ (source : Source) (items : List Item) (firsts spots meanings order : List ℕ) (cyclic : List Bool) (out : IsLaidOut source items firsts spots meanings)
    (sorted : IsSorted (length (flat_map definitions_of items)) (Uses items) order cyclic) where
  all_uses : flat_map uses_of items ≡ mentions source
  all_uses = ap (λ (ps : List Item). flat_map uses_of ps) out.laid

  all_origins : flat_map origins_of items ≡ origins source
  all_origins = ap (λ (ps : List Item). flat_map origins_of ps) out.laid

  spot_at : (number : ℕ) (origin : Origin) → slice_get (origins source) number ≡ Some origin → IsSpot items 0 (length meanings) 0 number origin
  spot_at number origin at =
      let each = out.meant.each in
      let same : length (flat_map uses_of items) ≡ length (mentions source) = ap length all_uses in
      spot_of items 0 (length meanings) 0 number origin (omega arith) (ap (λ (os : List Origin). slice_get os number) all_origins ∙ at)

  -- what a use of a definition means
  use_given : (table : List (Option Measured)) (k number : ℕ) (origin : Origin) (s : IsSpot items 0 (length meanings) 0 number origin) → slice_get order k ≡ Some number
      → (IsOnCycle (Uses items) number → ⊥) → AreExactFirst source order k table → (i : ℕ) (m : Mention) → slice_get (uses_of s.item) i ≡ Some m
      → (used : ℕ) × (slice_get meanings (s.first + i) ≡ Some used) × Means (definitions source) m.scope m.name m.group used × IsExact source used (value_at table used)
  use_given table k number origin s at off exact i m there =
      let low : i < length (uses_of s.item) = slice_get_within (uses_of s.item) i m there in
      let whole : slice_get (flat_map uses_of items) (length (flat_map uses_of (take s.at items)) + i) ≡ Some m = flat_at uses_of items s.at s.item i m s.part there in
      let first = s.is_first in
      let index : length (flat_map uses_of (take s.at items)) + i ≡ s.first + i = omega arith in
      let mentioned : slice_get (mentions source) (s.first + i) ≡ Some m =
      subst (λ (ms : List Mention). slice_get ms (s.first + i) ≡ Some m) all_uses (subst (λ (n : ℕ). slice_get (flat_map uses_of items) n ≡ Some m) index whole) in
      let each = out.meant.each in
      let below : s.first + i < length (mentions source) = slice_get_within (mentions source) (s.first + i) m mentioned in
      let u = item_below meanings (s.first + i) (omega arith) in
      let means = out.meant.meant (s.first + i) m u.0 mentioned u.1 in
      let mine = s.is_number in
      let none_more : 0 + length (flat_map definitions_of (take s.at items)) ≡ number = omega arith in
      let owned : slice_get (owners_from 0 items) (s.first + i) ≡ Some number =
      subst (λ (n : ℕ). slice_get (owners_from 0 items) n ≡ Some number) index
      (owned_at items 0 s.at s.item origin i s.part s.gives low ∙ ap (λ (n : ℕ). Some n) none_more) in
      let there_too : slice_get (flat_map uses_of items) (s.first + i) ≡ Some m = subst (λ (n : ℕ). slice_get (flat_map uses_of items) n ≡ Some m) index whole in
      let use_ : Uses items number u.0 =
      by_name (s.first + i) m (sorted.ordered.within k number at) owned there_too
      (subst (λ (ps : List Item). Means (flat_map definitions_of ps) m.scope m.name m.group u.0) (sym out.laid) means) in
      let before = sorted.ordered.behind k number u.0 at off use_ in
      (u.0, u.1, means, exact before.0 u.0 before.1 before.2)

  -- one definition more
  exact_here : (table : List (Option Measured)) (k number : ℕ) (o : Option Measured) (origin : Origin) → slice_get (origins source) number ≡ Some origin → slice_get order k ≡ Some number
      → AreExactFirst source order k table → IsDefined items firsts spots meanings cyclic table number o → (flag : Bool) → slice_get cyclic number ≡ Some flag → IsExact source number o
  exact_here table k number o origin there at exact is true flagged =
      let none = is.on_cycle flagged in
      let cycle = sorted.flagged.exact number true flagged in
      subst (λ (x : Option Measured). IsExact source number x) (sym none) (record {
        measured = none_measured;
        holds = λ v e. cc;
        only = λ v has. absurd (none_on_cycle source number v (subst (λ (ps : List Item). IsOnCycle (Uses ps) number) out.laid cycle) has);
      })
  exact_here table k number o origin there at exact is false flagged =
      let off = sorted.flagged.exact number false flagged in
      let s = spot_at number origin there in
      let settles = is.off_cycle (0 + s.at) s.first s.item flagged
      (ap (λ (xs : List ℕ). slice_get xs number) out.spotted ∙ s.spot)
      (ap (λ (xs : List ℕ). slice_get xs number) out.begun ∙ s.begins)
      (subst (λ (n : ℕ). slice_get items n ≡ Some s.item) (none_more s.at) s.part) in
      settled_exact source number origin o there
      (settles source origin s.gives (given_each source table meanings (uses_of s.item) s.first (use_given table k number origin s at off exact)))
    where
      none_more : (n : ℕ) → n ≡ 0 + n
      none_more n = omega arith

  as_many : (ps : List Item) → length (flat_map definitions_of ps) ≡ length (flat_map origins_of ps)
  as_many [] = refl
  as_many (variant.Used since n ∷ ps) = as_many ps
  as_many (variant.Written since w ∷ ps) = as_many ps
  as_many (variant.Defined s ∷ ps) = ap (λ (n : ℕ). suc n) (as_many ps)
  as_many (variant.Enumerated e ∷ ps) = ap (λ (n : ℕ). suc n) (as_many ps)
  as_many (variant.Declared d ∷ ps) = ap (λ (n : ℕ). suc n) (as_many ps)

  origins_length : length (flat_map definitions_of items) ≡ length (origins source)
  origins_length = as_many items ∙ ap (λ (os : List Origin). length os) all_origins

  exact_of : (table : List (Option Measured)) (k number : ℕ) (o : Option Measured) → slice_get order k ≡ Some number
      → AreExactFirst source order k table → IsDefined items firsts spots meanings cyclic table number o → IsExact source number o
  exact_of table k number o at exact is =
      let low = sorted.ordered.within k number at in
      let same = origins_length in
      let count = sorted.flagged.each in
      let origin = item_below (origins source) number (omega arith) in
      let flag = item_below cyclic number (omega arith) in
      exact_here table k number o origin.0 origin.1 at exact is flag.0 flag.1

  pub exact_next : (table : List (Option Measured)) (k number : ℕ) (o : Option Measured) → slice_get order k ≡ Some number → number < length table
      → AreExactFirst source order k table → IsDefined items firsts spots meanings cyclic table number o → AreExactFirst source order (k + 1) (set table number o)
  exact_next table k number o at low exact is j other before there = go (same_or_other other number) (before_or_not j k)
    where
      new : IsExact source number o
      new = exact_of table k number o at exact is

      go : (other ≡ number) ⊎ (other ≡ number → ⊥) → (j < k) ⊎ (k ≤ j) → IsExact source other (value_at (set table number o) other)
      go (inl same) c =
          subst (λ (n : ℕ). IsExact source n (value_at (set table number o) n)) (sym same)
          (subst (λ (x : Option Measured). IsExact source number x) (sym (value_same table number o low)) new)
      go (inr apart) (inl b) = subst (λ (x : Option Measured). IsExact source other x) (sym (value_other table number other o apart)) (exact j other b there)
      go (inr apart) (inr c) =
          let here : j ≡ k = omega arith in
          let both : Some number ≡ Some other = sym at ∙ ap (λ (n : ℕ). slice_get order n) (sym here) ∙ there in
          absurd (apart (number_same (sym both)))
        where
          number_same : {x y : ℕ} → Some x ≡ Some y → x ≡ y
          number_same e = cc

  pub exact_all : (table : List (Option Measured)) (k : ℕ) → length order ≤ k → AreExactFirst source order k table → AreExact source table
  exact_all table k past exact number low =
      let count : length (flat_map definitions_of items) ≡ length (definitions source) = ap (λ (ps : List Item). length (flat_map definitions_of ps)) out.laid in
      let t = sorted.ordered.all number (omega arith) in
      let here = slice_get_within order t.0 number t.1 in
      exact t.0 number (omega arith) t.1

pub exact_none : (source : Source) (order : List ℕ) (table : List (Option Measured)) → AreExactFirst source order 0 table
exact_none source order table j number before at = absurd (omega arith)

-- what is settled of the item in its place
module _ (items : List Item) (firsts spots meanings : List ℕ) (cyclic : List Bool) (table : List (Option Measured)) (number spot : ℕ) (off : slice_get cyclic number ≡ Some false)
    (spotted : Some spot ≡ slice_get spots number) where
  pub defined_there : (first : ℕ) (item : Item) (o : Option Measured) → Some first ≡ slice_get firsts number → Some item ≡ slice_get items spot
      → Settles table meanings item first o → IsDefined items firsts spots meanings cyclic table number o
  defined_there first item o begun part settles = record {
    on_cycle = λ flagged. absurd (cc);
    off_cycle = λ s p i flagged at there here.
        let same : spot ≡ s = cc in
        let first_same : first ≡ p = cc in
        let item_same : item ≡ i = cc in
        subst (λ (x : Item). Settles table meanings x p o) item_same (subst (λ (y : ℕ). Settles table meanings item y o) first_same settles);
  }

  pub defined_nowhere : None ≡ slice_get items spot → IsDefined items firsts spots meanings cyclic table number None
  defined_nowhere none = record {
    on_cycle = λ flagged. refl;
    off_cycle = λ s p i flagged at there here. let same : spot ≡ s = cc in absurd (cc);
  }
