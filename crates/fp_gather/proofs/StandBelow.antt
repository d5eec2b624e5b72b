-- The files that a walk reads are numbered below their count, and what it gives stands in them.
use Rattle.std.proofs.Common.{◌≡◌, ℕ, zero, suc, ◌<◌, ◌≤◌, List, [], ◌∷◌, ◌++◌, length, Option, inl, inr, refl, sym, subst, arith}
use Rattle.std.specs.List.{AllByRecursion}
use Rattle.std.proofs.lemmas.List.{length_push}
use Rattle.fp_base.specs.declared.place.Place.{Place}
use Rattle.fp_base.specs.declared.refusal.Refusal.{Refusal}
use Rattle.fp_base.specs.declared.rule.Rule.TheVariants.{BadInclude}
use Rattle.fp_parse_parts.specs.declared.parsing.Inside.{Inside}
use Rattle.fp_parse_parts.specs.declared.parsing.Inside.TheVariants as inside
use Rattle.fp_parse_parts.specs.declared.parsing.Members.{Members}
use Rattle.fp_parse_parts.specs.declared.parsing.Members.TheVariants as given
use Rattle.fp_tree.specs.declared.member.Member.{Member}
use Rattle.fp_base.specs.Least.{broken_at}
use Rattle.fp_meaning.specs.declared.item.Item.{Item}
use Rattle.fp_meaning.specs.Names.{definitions_of, uses_of}
use Rattle.fp_meaning.specs.declared.names.Definition.{Definition}
use Rattle.fp_meaning.specs.declared.names.Mention.{Mention}
use Rattle.fp_base.proofs.Lists.{each_append, each_flat, each_of_any, each_weaker, each_part}
use Rattle.fp_gather.proofs.OneWalk.{same_given, same_walked}
use Rattle.fp_gather.proofs.PartsHold.{Hold, Parting, hold_more, nothing_holds, replaced_hold, unparted}
use Rattle.fp_places.specs.Places.{places_in_part, places_in_topology_member, places_of}
use Rattle.fp_outside.specs.declared.files.HeldFile.{HeldFile}
use Rattle.fp_gather.specs.declared.gathering.including.Inclusion.{Inclusion}
use Rattle.fp_gather.specs.gathering.Includes.{included_name, inclusions_in, replaced}
use Rattle.fp_gather.specs.gathering.Reading.{Reading, Gives, nothing_in}
use Rattle.fp_gather.specs.gathering.Walks.{Walked, Walk, Went, WalksEach, IsRefused, Reads, WalksFile, WalksInclude, WalksNamed, WalksFiles, most_levels, next_reading, nothing_read, with_reading, with_refused}

-- what an item defines and uses stands in a file below this number
abbrev pub DefinesBelow : ℕ → Item → Type 0
DefinesBelow n i = AllByRecursion (λ (d : Definition). d.place.file < n) (definitions_of i)

abbrev pub UsesBelow : ℕ → Item → Type 0
UsesBelow n i = AllByRecursion (λ (m : Mention). m.place.file < n) (uses_of i)

-- and so does each of its places
abbrev pub PlacesBelow : ℕ → Item → Type 0
PlacesBelow n i = AllByRecursion (λ (p : Place). p.file < n) (places_of i)

abbrev pub definers : (n : ℕ) → Parting (DefinesBelow n)
definers n = unparted (DefinesBelow n) (λ scope c ps h. h) (λ scope t ts h. h)

abbrev pub users : (n : ℕ) → Parting (UsesBelow n)
users n = unparted (UsesBelow n) (λ scope c ps h. h) (λ scope t ts h. h)

-- and so does each place of a part of a component, and of a member of a topology
abbrev pub placed_parts : (n : ℕ) → Parting (PlacesBelow n)
placed_parts n = record {
  OfPart = λ p. AllByRecursion (λ (q : Place). q.file < n) (places_in_part p);
  OfMember = λ t. AllByRecursion (λ (q : Place). q.file < n) (places_in_topology_member t);
  parts = λ scope c h. each_part (λ (q : Place). q.file < n) places_in_part c.parts h.1;
  renewed = λ scope c ps h k. (h.0, each_flat (λ (q : Place). q.file < n) places_in_part ps k);
  listed = λ scope t h. each_part (λ (q : Place). q.file < n) places_in_topology_member t.members h.1;
  relisted = λ scope t ts h k. (h.0, each_flat (λ (q : Place). q.file < n) places_in_topology_member ts k);
}

-- and so does all, in any scope
pub record StandBelow (n : ℕ) (x : Members) : Type 0 where
  pub definitions : Hold (DefinesBelow n) (definers n) x
  pub mentions : Hold (UsesBelow n) (users n) x
  pub places : Hold (PlacesBelow n) (placed_parts n) x

-- and so does each include
abbrev pub IncludesBelow : ℕ → Members → Type 0
IncludesBelow n x = AllByRecursion (λ (i : Inclusion). i.include.at.first.file < n) (inclusions_in x)

-- the files that were read have numbers below their count, and the includes that break their rule stand in them
pub record IsNumbered (walked : Walked) : Type 0 where
  pub readings : AllByRecursion (λ (r : Reading). r.number < length walked.readings) walked.readings
  pub refused : AllByRecursion (λ (f : Refusal). f.place.file < length walked.readings) walked.refused

-- a walk behind so many files keeps this, and gives what is in the files that were read then
abbrev pub KeepsNumbers : {A : Type 0} → (ℕ → A → Type 0) → ℕ → Walk A → Type 0
KeepsNumbers {A = A} G low P =
    (before after : Walked) (x : A) → low ≤ length before.readings → IsNumbered before → P before (Went after x)
    → (length before.readings ≤ length after.readings) × IsNumbered after × G (length after.readings) x

below_more : (m n : ℕ) (x : Members) → m ≤ n → StandBelow m x → StandBelow n x
below_more m n x le h = record {
  definitions = hold_more (DefinesBelow m) (DefinesBelow n) (definers m) (definers n)
      (λ i. each_weaker (λ (d : Definition). d.place.file < m) (λ (d : Definition). d.place.file < n) (λ d lt. omega (arith, le, lt)) (definitions_of i)) (λ p q. q) (λ t q. q) x h.definitions;
  mentions = hold_more (UsesBelow m) (UsesBelow n) (users m) (users n)
      (λ i. each_weaker (λ (u : Mention). u.place.file < m) (λ (u : Mention). u.place.file < n) (λ u lt. omega (arith, le, lt)) (uses_of i)) (λ p q. q) (λ t q. q) x h.mentions;
  places = hold_more (PlacesBelow m) (PlacesBelow n) (placed_parts m) (placed_parts n) (λ i. higher (places_of i)) (λ p. higher (places_in_part p)) (λ t. higher (places_in_topology_member t)) x h.places;
}
  where
    higher : (ps : List Place) → AllByRecursion (λ (p : Place). p.file < m) ps → AllByRecursion (λ (p : Place). p.file < n) ps
    higher ps = each_weaker (λ (p : Place). p.file < m) (λ (p : Place). p.file < n) (λ p lt. omega (arith, le, lt)) ps

replaced_below : (n : ℕ) (own : Members) (inserts : List Members) → StandBelow n own → AllByRecursion (StandBelow n) inserts → StandBelow n (replaced own inserts)
replaced_below n own inserts h k = record {
  definitions = replaced_hold (DefinesBelow n) (definers n) own inserts h.definitions (each_weaker (StandBelow n) (Hold (DefinesBelow n) (definers n)) (λ x q. q.definitions) inserts k);
  mentions = replaced_hold (UsesBelow n) (users n) own inserts h.mentions (each_weaker (StandBelow n) (Hold (UsesBelow n) (users n)) (λ x q. q.mentions) inserts k);
  places = replaced_hold (PlacesBelow n) (placed_parts n) own inserts h.places (each_weaker (StandBelow n) (Hold (PlacesBelow n) (placed_parts n)) (λ x q. q.places) inserts k);
}

pub none_below : (n : ℕ) (i : Inside) → StandBelow n (nothing_in i)
none_below n i = record {
  definitions = nothing_holds (DefinesBelow n) (definers n) i;
  mentions = nothing_holds (UsesBelow n) (users n) i;
  places = nothing_holds (PlacesBelow n) (placed_parts n) i;
}

-- ---- what is kept

readings_more : (before : Walked) (m n : ℕ) → m ≤ n → AllByRecursion (λ (r : Reading). r.number < m) before.readings → AllByRecursion (λ (r : Reading). r.number < n) before.readings
readings_more before m n le h = each_weaker (λ (r : Reading). r.number < m) (λ (r : Reading). r.number < n) (λ r lt. omega (arith, le, lt)) before.readings h

refused_more : (before : Walked) (m n : ℕ) → m ≤ n → AllByRecursion (λ (f : Refusal). f.place.file < m) before.refused → AllByRecursion (λ (f : Refusal). f.place.file < n) before.refused
refused_more before m n le h = each_weaker (λ (f : Refusal). f.place.file < m) (λ (f : Refusal). f.place.file < n) (λ f lt. omega (arith, le, lt)) before.refused h

none_numbered : IsNumbered nothing_read
none_numbered = record { readings = tt; refused = tt }

reading_numbered : (before : Walked) (r : Reading) → r.number ≡ length before.readings → IsNumbered before → IsNumbered (with_reading before r)
reading_numbered before r e num =
    let long = length_push before.readings r in
    let le : length before.readings ≤ length (before.readings ++ r ∷ []) = omega (arith, long) in
    record {
      readings = each_append (λ (q : Reading). q.number < length (before.readings ++ r ∷ [])) before.readings (r ∷ [])
          (readings_more before (length before.readings) (length (before.readings ++ r ∷ [])) le num.readings) (omega (arith, long, e), tt);
      refused = refused_more before (length before.readings) (length (before.readings ++ r ∷ [])) le num.refused;
    }

refused_numbered : (before : Walked) (f : Refusal) → f.place.file < length before.readings → IsNumbered before → IsNumbered (with_refused before f)
refused_numbered before f lt num = record {
  readings = num.readings;
  refused = each_append (λ (g : Refusal). g.place.file < length before.readings) before.refused (f ∷ []) num.refused (lt, tt);
}

-- ---- walks

each_keeps : {X A : Type 0} (G : ℕ → A → Type 0) → ((m n : ℕ) (x : A) → m ≤ n → G m x → G n x) → (P : X → Walk A) (low : ℕ) (xs : List X)
    → AllByRecursion (λ x. KeepsNumbers G low (P x)) xs → KeepsNumbers (λ n ys. AllByRecursion (G n) ys) low (WalksEach P xs)
each_keeps {A = A} G more P low [] s before after ys le num h =
    subst (λ (w : Walked). (length before.readings ≤ length w.readings) × IsNumbered w × AllByRecursion (G (length w.readings)) ys) (sym h.0)
    (omega arith, num, subst (λ (zs : List A). AllByRecursion (G (length before.readings)) zs) (sym h.1) tt)
each_keeps {A = A} G more P low (z ∷ zs) s before after ys le num (m, y, us, h, hs, e) =
    let here = s.0 before m y le num h in
    let grows = here.0 in
    let rest = each_keeps G more P low zs s.1 m after us (omega (arith, le, grows)) here.1 hs in
    let goes = rest.0 in (
      omega (arith, grows, goes),
      rest.1,
      subst (λ (vs : List A). AllByRecursion (G (length after.readings)) vs) (sym e) (more (length m.readings) (length after.readings) y goes here.2, rest.2),
    )

refused_keeps : (i : Inclusion) → KeepsNumbers StandBelow (suc i.include.at.first.file) (IsRefused i)
refused_keeps i before after x le num h =
    subst (λ (w : Walked). (length before.readings ≤ length w.readings) × IsNumbered w × StandBelow (length w.readings) x) (sym (same_walked h)) (
      omega arith,
      refused_numbered before (broken_at BadInclude i.include.at.first) (omega (arith, le)) num,
      subst (λ (y : Members). StandBelow (length before.readings) y) (sym (same_given h)) (none_below (length before.readings) i.inside),
    )

-- each reading gives what stands in its file
module _ (gives_below : (r : Reading) (x : Members) → Gives r x → StandBelow (suc r.number) x × IncludesBelow (suc r.number) x) (told : Option (List HeldFile)) where
  abbrev OwnBelow : ℕ → Members → Type 0
  OwnBelow n x = StandBelow n x × IncludesBelow n x

  read_keeps : (round : List (List ℕ)) (within : Inside) (name : List ℕ) → KeepsNumbers OwnBelow 0 (Reads told round within name)
  read_keeps round within name before after own le num (text, held, e, g) =
      let r : Reading = next_reading before round within name text in
      let long = length_push before.readings r in
      let same : suc (length before.readings) ≡ length (before.readings ++ r ∷ []) = omega (arith, long) in
      subst (λ (w : Walked). (length before.readings ≤ length w.readings) × IsNumbered w × OwnBelow (length w.readings) own) (sym e)
      (omega (arith, long), reading_numbered before r refl num, subst (λ (n : ℕ). OwnBelow n own) same (gives_below r own g))

  module _ (inclusion : List (List ℕ) → Inclusion → Walk Members)
      (keeps : (round : List (List ℕ)) (i : Inclusion) → KeepsNumbers StandBelow (suc i.include.at.first.file) (inclusion round i)) where
    -- behind a file in which the include stands
    include_behind : (round : List (List ℕ)) (n : ℕ) (i : Inclusion) → i.include.at.first.file < n → KeepsNumbers StandBelow n (inclusion round i)
    include_behind round n i lt before after x le num h = keeps round i before after x (omega (arith, lt, le)) num h

    file_keeps : (round : List (List ℕ)) (within : Inside) (name : List ℕ) → KeepsNumbers StandBelow 0 (WalksFile told inclusion round within name)
    file_keeps round within name before after whole le num (read, own, inserts, h, hs, e) =
        let first = read_keeps round within name before read own le num h in
        let n : ℕ = length read.readings in
        let rest = each_keeps StandBelow below_more (inclusion (name ∷ round)) n (inclusions_in own)
        (each_weaker (λ (i : Inclusion). i.include.at.first.file < n) (λ (i : Inclusion). KeepsNumbers StandBelow n (inclusion (name ∷ round) i)) (include_behind (name ∷ round) n) (inclusions_in own) first.2.1)
        read after inserts (omega arith) first.1 hs in
        let grows = first.0 in
        let goes = rest.0 in (
          omega (arith, grows, goes),
          rest.1,
          subst (λ (x : Members). StandBelow (length after.readings) x) (sym e)
              (replaced_below (length after.readings) own inserts (below_more n (length after.readings) own goes first.2.0) rest.2),
        )

  include_keeps : (levels : ℕ) (round : List (List ℕ)) (i : Inclusion) → KeepsNumbers StandBelow (suc i.include.at.first.file) (WalksInclude told levels round i)
  include_keeps zero round i before after x le num h = refused_keeps i before after x le num h
  include_keeps (suc levels) round i before after x le num (inl h) = refused_keeps i before after x le num h.1
  include_keeps (suc levels) round i before after x le num (inr h) =
      file_keeps (WalksInclude told levels) (include_keeps levels) round i.inside (included_name round i.include) before after x (omega arith) num h.1

  -- of the members that a file gives
  abbrev UnitBelow : ℕ → List Member → Type 0
  UnitBelow n ms = StandBelow n (given.Unit ms)

  named_keeps : (name : List ℕ) → KeepsNumbers UnitBelow 0 (WalksNamed told name)
  named_keeps name before after ms le num h =
      file_keeps (WalksInclude told most_levels) (include_keeps most_levels) [] inside.Unit name before after (given.Unit ms) le num h

  -- of the files that names ask for
  pub files_below : (names : List (List ℕ)) (walked : Walked) (units : List (List Member)) → WalksFiles told names nothing_read (Went walked units)
      → IsNumbered walked × AllByRecursion (λ (ms : List Member). StandBelow (length walked.readings) (given.Unit ms)) units
  files_below names walked units h =
      let all = each_keeps UnitBelow (λ m n ms. below_more m n (given.Unit ms)) (WalksNamed told) 0 names
      (each_of_any (λ (name : List ℕ). KeepsNumbers UnitBelow 0 (WalksNamed told name)) named_keeps names) nothing_read walked units (omega arith) none_numbered h in
      (all.1, all.2)
