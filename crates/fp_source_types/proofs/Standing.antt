-- What the items of a source use, each by its place, and which item is the definition with a number.
use Rattle.std.proofs.Common.{◌≡◌, ℕ, zero, suc, ◌+◌, ◌<◌, ◌≤◌, List, [], ◌∷◌, ◌++◌, length, replicate, drop, flat_map, take, slice_get, Some, refl, sym, ap, ◌∙◌, subst, arith, length-append}
use Rattle.std.proofs.lemmas.Grind.{flat_map-append}
use Rattle.std.proofs.lemmas.List.{length-replicate, take-append-drop}
use Rattle.std.proofs.lemmas.Option.{slice_get_within}
use Rattle.std.proofs.Math.Nat.{add-zero}
use Rattle.fp_base.proofs.Lists.{get_front}
use Rattle.fp_base.proofs.Options.{same_some, no_some}
use Rattle.fp_base.proofs.Spots.{item_below}
use Rattle.fp_base.proofs.Numbers.{suc_is, get_replicate, none_before as none_more}
use Rattle.fp_consts.proofs.Tabled.{flat_at}
use Rattle.fp_graph.proofs.Places.{get_right}
use Rattle.fp_tree.specs.declared.source.Source.{Source}
use Rattle.fp_meaning.specs.declared.item.Item.{Item}
use Rattle.fp_meaning.specs.declared.item.Item.TheVariants as item
use Rattle.fp_meaning.specs.declared.names.Definition.{Definition}
use Rattle.fp_meaning.specs.declared.names.Mention.{Mention}
use Rattle.fp_meaning.specs.Layout.{items}
use Rattle.fp_meaning.specs.Meaning.{Means, AreMeanings}
use Rattle.fp_meaning.specs.Names.{definitions, definitions_of, mentions, uses_of}
use Rattle.fp_meaning.specs.Origins.{Origin, origins_of}
use Rattle.fp_meaning.specs.Owners.{owner_of, owners_from}
use Rattle.fp_meaning.specs.Uses.{Uses, by_name}

-- how many definitions stand before a place
abbrev pub before : List Item → ℕ → ℕ
before is p = length (flat_map definitions_of (take p is))

before_next : (i : Item) (is : List Item) (p b : ℕ) → b + before (i ∷ is) (suc p) ≡ b + length (definitions_of i) + before is p
before_next i is p b =
    let long = length-append (definitions_of i) (flat_map definitions_of (take p is)) in
    let same : b + length (definitions_of i ++ flat_map definitions_of (take p is)) ≡ b + length (definitions_of i) + length (flat_map definitions_of (take p is)) = omega arith in
    same

before_all : (is : List Item) (p : ℕ) → before is p ≤ length (flat_map definitions_of is)
before_all is p =
    let long = length-append (flat_map definitions_of (take p is)) (flat_map definitions_of (drop p is)) in
    let whole : length (flat_map definitions_of is) ≡ length (flat_map definitions_of (take p is) ++ flat_map definitions_of (drop p is)) =
    ap (λ (l : List Item). length (flat_map definitions_of l)) (sym (take-append-drop p is)) ∙ ap length (flat_map-append definitions_of (take p is) (drop p is)) in
    omega arith

-- ---- what holds of each item, with the number of the definition that has it, behind so many definitions

module _ (P : ℕ → Item → Type 0) where
  abbrev pub AllFrom : ℕ → List Item → Type 0
  AllFrom b [] = Unit {0}
  AllFrom b (i ∷ is) = P (owner_of b i) i × AllFrom (b + length (definitions_of i)) is

  pub from_places : (is : List Item) (b : ℕ) → ((p : ℕ) (i : Item) → slice_get is p ≡ Some i → P (owner_of (b + before is p) i) i) → AllFrom b is
  from_places [] b each = tt
  from_places (i ∷ is) b each = (
    subst (λ (n : ℕ). P (owner_of n i) i) (add-zero b) (each 0 i refl),
    from_places is (b + length (definitions_of i)) (λ p x at. subst (λ (n : ℕ). P (owner_of n x) x) (before_next i is p b) (each (suc p) x at)),
  )

  pub all_front : (xs ys : List Item) (b : ℕ) → AllFrom b (xs ++ ys) → AllFrom b xs
  all_front [] ys b h = tt
  all_front (x ∷ xs) ys b h = (h.0, all_front xs ys (b + length (definitions_of x)) h.1)

  pub all_behind : (xs ys : List Item) (b c : ℕ) → c ≡ b + length (flat_map definitions_of xs) → AllFrom b (xs ++ ys) → AllFrom c ys
  all_behind [] ys b c e h = subst (λ (n : ℕ). AllFrom n ys) (sym (e ∙ add-zero b)) h
  all_behind (x ∷ xs) ys b c e h =
      let long = length-append (definitions_of x) (flat_map definitions_of xs) in
      let whole : c ≡ b + length (definitions_of x ++ flat_map definitions_of xs) = e in
      all_behind xs ys (b + length (definitions_of x)) c (omega arith) h.1

  pub all_drop : (is : List Item) (p b c : ℕ) → c ≡ b + before is p → AllFrom b is → AllFrom c (drop p is)
  all_drop is p b c e h = all_behind (take p is) (drop p is) b c e (subst (λ (l : List Item). AllFrom b l) (sym (take-append-drop p is)) h)

-- ---- the uses of an item are those of the definition that has it

owned : (number : ℕ) (is : List Item) (p : ℕ) (i : Item) (j : ℕ) → slice_get is p ≡ Some i → j < length (uses_of i)
    → slice_get (owners_from number is) (length (flat_map uses_of (take p is)) + j) ≡ Some (owner_of (number + before is p) i)
owned number [] p i j at low = no_some at
owned number (z ∷ is) zero i j at low =
    let same : z ≡ i = same_some at in
    let here : slice_get (owners_from number (z ∷ is)) j ≡ Some (owner_of number z) =
    get_front (replicate (length (uses_of z)) (owner_of number z)) (owners_from (number + length (definitions_of z)) is) j (owner_of number z)
    (get_replicate (length (uses_of z)) (owner_of number z) j (subst (λ (x : Item). j < length (uses_of x)) (sym same) low)) in
    let index : j ≡ 0 + j = omega arith in
    subst (λ (k : ℕ). slice_get (owners_from number (z ∷ is)) k ≡ Some (owner_of (number + 0) i)) index
    (here ∙ ap (λ (x : Item). Some (owner_of number x)) same ∙ ap (λ (n : ℕ). Some (owner_of n i)) (sym (add-zero number)))
owned number (z ∷ is) (suc p) i j at low =
    let long = length-append (uses_of z) (flat_map uses_of (take p is)) in
    let many = length-replicate (length (uses_of z)) (owner_of number z) in
    get_right (replicate (length (uses_of z)) (owner_of number z)) (owners_from (number + length (definitions_of z)) is) (owner_of (number + before (z ∷ is) (suc p)) i)
    (length (uses_of z ++ flat_map uses_of (take p is)) + j) (length (flat_map uses_of (take p is)) + j) (omega arith)
    (owned (number + length (definitions_of z)) is p i j at low ∙ ap (λ (n : ℕ). Some (owner_of n i)) (sym (before_next z is p number)))

within_at : (is : List Item) (p : ℕ) (i : Item) (d : Definition) → slice_get is p ≡ Some i → definitions_of i ≡ d ∷ [] → before is p < length (flat_map definitions_of is)
within_at is p i d at defines =
    let there = flat_at definitions_of is p i 0 d at (ap (λ (l : List Definition). slice_get l 0) defines) in
    let low : before is p + 0 < length (flat_map definitions_of is) = slice_get_within (flat_map definitions_of is) (before is p + 0) d there in
    omega arith

owner_within : (is : List Item) (p : ℕ) (i : Item) → slice_get is p ≡ Some i → 0 < length (flat_map definitions_of is) → owner_of (before is p) i < length (flat_map definitions_of is)
owner_within is p (item.Defined s) at some = within_at is p (item.Defined s) _ at refl
owner_within is p (item.Enumerated e) at some = within_at is p (item.Enumerated e) _ at refl
owner_within is p (item.Declared d) at some = within_at is p (item.Declared d) _ at refl
owner_within is p (item.Used since n) at some = let all = before_all is p in omega arith
owner_within is p (item.Written since w) at some = let all = before_all is p in omega arith

module _ (source : Source) where
  -- what a use means is used by the definition that has the item with the use
  pub means_used : (p : ℕ) (i : Item) (j : ℕ) (m : Mention) (number : ℕ) → slice_get (items source) p ≡ Some i → slice_get (uses_of i) j ≡ Some m
      → Means (definitions source) m.scope m.name m.group number → Uses (items source) (owner_of (0 + before (items source) p) i) number
  means_used p i j m number at there means =
      let is = items source in
      let k : ℕ = length (flat_map uses_of (take p is)) + j in
      let mentioned : slice_get (mentions source) k ≡ Some m = flat_at uses_of is p i j m at there in
      let defined : number < length (definitions source) = slice_get_within (definitions source) number means.meant.named.definition means.meant.named.here in
      let some : 0 < length (definitions source) = omega arith in
      let none_before : before is p ≡ 0 + before is p = omega arith in
      let within : owner_of (0 + before is p) i < length (definitions source) =
      subst (λ (b : ℕ). owner_of b i < length (definitions source)) none_before (owner_within is p i at some) in
      by_name k m within (owned 0 is p i j at (slice_get_within (uses_of i) j m there)) mentioned means

  -- each use means something
  pub use_at : (meanings : List ℕ) → AreMeanings (definitions source) (mentions source) meanings → (p : ℕ) (i : Item) (j : ℕ) (m : Mention)
      → slice_get (items source) p ≡ Some i → slice_get (uses_of i) j ≡ Some m
      → (number : ℕ) × Means (definitions source) m.scope m.name m.group number × Uses (items source) (owner_of (0 + before (items source) p) i) number
  use_at meanings meant p i j m at there =
      let is = items source in
      let k : ℕ = length (flat_map uses_of (take p is)) + j in
      let mentioned : slice_get (mentions source) k ≡ Some m = flat_at uses_of is p i j m at there in
      let below : k < length (mentions source) = slice_get_within (mentions source) k m mentioned in
      let n = item_below meanings k (subst (λ (l : ℕ). k < l) (sym meant.each) below) in
      let means = meant.meant k m n.0 mentioned n.1 in
      (n.0, means, means_used p i j m n.0 at there means)

-- ---- the item that is the definition with a number

pub record IsItem (is : List Item) (n : ℕ) (d : Definition) : Type 0 where
  pub at : ℕ
  pub found : Item
  pub here : slice_get is at ≡ Some found
  pub defines : definitions_of found ≡ d ∷ []
  pub number : n ≡ before is at

further : (i : Item) (is : List Item) (n m : ℕ) (d : Definition) → m ≡ length (definitions_of i) + n → IsItem is n d → IsItem (i ∷ is) m d
further i is n m d e t =
    let long = length-append (definitions_of i) (flat_map definitions_of (take t.at is)) in
    let number = t.number in
    let same : m ≡ length (definitions_of i ++ flat_map definitions_of (take t.at is)) = omega arith in
    record { at = suc t.at; found = t.found; here = t.here; defines = t.defines; number = same }

pub item_of : (is : List Item) (n : ℕ) (d : Definition) → slice_get (flat_map definitions_of is) n ≡ Some d → IsItem is n d
item_of [] n d e = no_some e
item_of (item.Used since x ∷ is) n d e = further (item.Used since x) is n n d (none_more n) (item_of is n d e)
item_of (item.Written since x ∷ is) n d e = further (item.Written since x) is n n d (none_more n) (item_of is n d e)
item_of (item.Defined s ∷ is) zero d e =
    record { at = 0; found = item.Defined s; here = refl; defines = ap (λ (x : Definition). x ∷ []) (same_some e); number = refl }
item_of (item.Defined s ∷ is) (suc n) d e = further (item.Defined s) is n (suc n) d (suc_is n) (item_of is n d e)
item_of (item.Enumerated s ∷ is) zero d e =
    record { at = 0; found = item.Enumerated s; here = refl; defines = ap (λ (x : Definition). x ∷ []) (same_some e); number = refl }
item_of (item.Enumerated s ∷ is) (suc n) d e = further (item.Enumerated s) is n (suc n) d (suc_is n) (item_of is n d e)
item_of (item.Declared s ∷ is) zero d e =
    record { at = 0; found = item.Declared s; here = refl; defines = ap (λ (x : Definition). x ∷ []) (same_some e); number = refl }
item_of (item.Declared s ∷ is) (suc n) d e = further (item.Declared s) is n (suc n) d (suc_is n) (item_of is n d e)

as_many : (is : List Item) → length (flat_map origins_of is) ≡ length (flat_map definitions_of is)
as_many [] = refl
as_many (item.Defined s ∷ is) = ap suc (as_many is)
as_many (item.Enumerated e ∷ is) = ap suc (as_many is)
as_many (item.Declared d ∷ is) = ap suc (as_many is)
as_many (item.Used since n ∷ is) = as_many is
as_many (item.Written since w ∷ is) = as_many is

-- and its origin
pub origin_at : (is : List Item) (n : ℕ) (d : Definition) (t : IsItem is n d) (o : Origin) → origins_of t.found ≡ o ∷ [] → slice_get (flat_map origins_of is) n ≡ Some o
origin_at is n d t o gives =
    let there = flat_at origins_of is t.at t.found 0 o t.here (ap (λ (l : List Origin). slice_get l 0) gives) in
    let many : length (flat_map origins_of (take t.at is)) ≡ before is t.at = as_many (take t.at is) in
    let number = t.number in
    let index : length (flat_map origins_of (take t.at is)) + 0 ≡ n = omega arith in
    subst (λ (k : ℕ). slice_get (flat_map origins_of is) k ≡ Some o) index there
