-- That the tables by key give the origins of ends.
use Rattle.std.proofs.Common.{◌≡◌, ◌∙◌, ap, refl, sym, subst, ℕ, zero, suc, ◌+◌, ◌⊎◌, inl, inr, Bool, true, false, not, ◌&&◌, cond, List, [], ◌∷◌, length, Option, None, Some, slice_get, get_or, arith}
use Rattle.std.specs.Prelude.{ℤ, ◌==◌, flat_map}
use Rattle.std.specs.List.{list_any, list_all, find, filter_map, cons_option}
use Rattle.std.specs.Option.{option_and_then}
use Rattle.std.specs.Ordering.{int_eq}
use Rattle.std.proofs.lemmas.Bool.Decides.{nat_tests}
use Rattle.std.proofs.lemmas.Option.{slice_get-get_or, slice_get_within}
use Rattle.fp_base.specs.declared.refusal.Refusal.{Refusal}
use Rattle.fp_base.proofs.Bools.{join, not_true, same_truth}
use Rattle.fp_base.proofs.Options.{same_some}
use Rattle.fp_base.proofs.Numbers.{same_number, number_same}
use Rattle.fp_base.proofs.Passing.{any_at, any_found}
use Rattle.fp_numbering.specs.declared.tips.Tip.{Tip}
use Rattle.fp_numbering.specs.declared.origins.Origin.{Origin}
use Rattle.fp_numbering.specs.declared.looks.Look.{Look}
use Rattle.fp_numbering.specs.declared.looks.Noted.{Noted}
use Rattle.fp_numbering.specs.Ends.{written_number}
use Rattle.fp_numbering.specs.Pairs.{has, places_from, are_alike, is_at, is_at_first, paired_by, pairs_at, pairs, pair_of, is_whole, written_in, given_by, given, is_unwritten, first_of}
use Rattle.fp_numbering.specs.Numbers.{Source, source_of}
use Rattle.fp_numbering.specs.Numbers.Source.{Paired, Unpaired}
use Rattle.fp_numbering.specs.Keys.{linked, is_of_key}
use Rattle.fp_numbering.specs.Origins.{no_tip, no_origin, IsOrigin, AreOrigins, AreLanes}
use Rattle.fp_numbering.specs.Looks.{is_lone, look_of, AreLooks, key_of, is_in, is_lone_in, heads_in, first_from, said_in, noted, said_part, first_part, AreFound}
use Rattle.fp_numbering.proofs.Unique.{both_left, both_right}
use Rattle.fp_numbering.proofs.Joining.{Member, covered}
use Rattle.fp_numbering.proofs.Keying.{alike_is, alike_from, alike_through, of_contains, to_places, to_flat, to_pairs_at, linked_through, all_related, all_of_key, one_key, one, IsMatched}
use Rattle.fp_numbering.proofs.Partnering.{contained}
use Rattle.fp_numbering.proofs.Setwise.{written_from, to_written, gives, gives_back, same_option_of, no_members, members_none}
use Rattle.fp_numbering.proofs.Walkings.{tip_same}
use Rattle.fp_numbering.proofs.Lacking.{Lacks, not_whole, whole_lacks, lone_lacks, lacks_lone}
use Rattle.fp_numbering.proofs.Sourcing.{any_member, member_contains, source_from, source_given, source_is, pair_found, found_pair, first_end}

-- ---- lists

of_cons : (o : Option ℤ) (zs : List ℤ) (z : ℤ) → Member z (cons_option o zs) → (o ≡ Some z) ⊎ Member z zs
of_cons None zs z m = inr m
of_cons (Some y) zs z (inl e) = inl (ap (λ (x : ℤ). Some x) e)
of_cons (Some y) zs z (inr m) = inr m

to_cons_first : (o : Option ℤ) (zs : List ℤ) (z : ℤ) → o ≡ Some z → Member z (cons_option o zs)
to_cons_first None zs z e = cc
to_cons_first (Some y) zs z e = let same : y ≡ z = cc in inl same

to_cons : (o : Option ℤ) (zs : List ℤ) (z : ℤ) → Member z zs → Member z (cons_option o zs)
to_cons None zs z m = m
to_cons (Some y) zs z m = inr m

pub of_mapped : {A : Type 0} (f : A → Option ℤ) (xs : List A) (z : ℤ) → Member z (filter_map f xs) → (j : ℕ) × (x : A) × (slice_get xs j ≡ Some x) × (f x ≡ Some z)
of_mapped f [] z m = absurd m
of_mapped f (x ∷ xs) z m = elim (of_cons (f x) (filter_map f xs) z m) [ inl a ↦ (0, x, refl, a) | inr b ↦ let r = of_mapped f xs z b in (suc r.0, r.1, r.2, r.3) ]

pub to_mapped : {A : Type 0} (f : A → Option ℤ) (xs : List A) (j : ℕ) (x : A) (z : ℤ) → slice_get xs j ≡ Some x → f x ≡ Some z → Member z (filter_map f xs)
to_mapped f [] j x z at e = cc
to_mapped f (y ∷ xs) zero x z at e = let same : y ≡ x = cc in to_cons_first (f y) (filter_map f xs) z (ap f same ∙ e)
to_mapped f (y ∷ xs) (suc j) x z at e = to_cons (f y) (filter_map f xs) z (to_mapped f xs j x z at e)

pub picked : (b : Bool) (o : Option ℤ) (z : ℤ) → cond b o None ≡ Some z → (b ≡ true) × (o ≡ Some z)
picked true o z e = (refl, e)
picked false o z e = cc

pub pick : (b : Bool) (o : Option ℤ) (z : ℤ) → b ≡ true → o ≡ Some z → cond b o None ≡ Some z
pick true o z e h = h
pick false o z e h = cc

pub some_tip : {A : Type 0} (f : Tip → Option A) (o : Option Tip) (z : A) → option_and_then f o ≡ Some z → (t : Tip) × (o ≡ Some t) × (f t ≡ Some z)
some_tip f None z e = cc
some_tip f (Some t) z e = (t, refl, e)

not_zero : (n : ℕ) → (suc n == 0) ≡ false
not_zero n = grind (arith, nat_tests)

-- the first by position in two lists side by side
first_same : (g : List ℕ) (head : Tip → Bool) (inside : Look → Bool) (k : ℕ) (ts : List Tip) (ls : List Look) → length ls ≡ length ts
    → ((i j : ℕ) (t : Tip) (l : Look) → i ≡ k + j → slice_get ts j ≡ Some t → slice_get ls j ≡ Some l → (head t ≡ l.heads) × (has g i ≡ inside l))
    → find (λ (x : ℕ). has g x) (places_from k head ts) ≡ first_from k (λ l. inside l && l.heads) ls
first_same g head inside k [] [] e h = refl
first_same g head inside k [] (l ∷ ls) e h = absurd (omega arith)
first_same g head inside k (t ∷ ts) [] e h = absurd (omega arith)
first_same g head inside k (t ∷ ts) (l ∷ ls) e h =
    let here = h k 0 t l (omega arith) refl refl in
    part (head t) (inside l) l.heads here.0 here.1 (first_same g head inside (suc k) ts ls (omega arith) (λ i j u m is at there. h i (suc j) u m (omega arith) at there))
  where
    step : (b : Bool) → find (λ (x : ℕ). has g x) (places_from (suc k) head ts) ≡ first_from (suc k) (λ l. inside l && l.heads) ls
        → cond b (Some k) (find (λ (x : ℕ). has g x) (places_from (suc k) head ts)) ≡ cond (b && true) (Some k) (first_from (suc k) (λ l. inside l && l.heads) ls)
    step true rest = refl
    step false rest = rest

    pass : (b : Bool) → first_from (suc k) (λ l. inside l && l.heads) ls ≡ cond (b && false) (Some k) (first_from (suc k) (λ l. inside l && l.heads) ls)
    pass true = refl
    pass false = refl

    part : (a b c : Bool) → a ≡ c → has g k ≡ b → find (λ (x : ℕ). has g x) (places_from (suc k) head ts) ≡ first_from (suc k) (λ l. inside l && l.heads) ls
        → find (λ (x : ℕ). has g x) (cond a (k ∷ places_from (suc k) head ts) (places_from (suc k) head ts)) ≡ cond (b && c) (Some k) (first_from (suc k) (λ l. inside l && l.heads) ls)
    part true b true p q rest = ap (λ (d : Bool). cond d (Some k) (find (λ (x : ℕ). has g x) (places_from (suc k) head ts))) q ∙ step b rest
    part false b false p q rest = rest ∙ pass b
    part true b false p q rest = cc p
    part false b true p q rest = cc p

module _ (matches : ℕ → List (ℕ × ℕ)) (ts : List Tip) where
  pub given_whole : (g : List ℕ) → is_whole matches ts g ≡ true → given matches ts g ≡ given_by (written_in matches ts g)
  unfolding given
  given_whole g e = ap (λ (b : Bool). cond b (given_by (written_in matches ts g)) None) e

  given_not : (g : List ℕ) → is_whole matches ts g ≡ false → given matches ts g ≡ None
  unfolding given
  given_not g e = ap (λ (b : Bool). cond b (given_by (written_in matches ts g)) None) e

  pub unwritten_whole : (g : List ℕ) → is_whole matches ts g ≡ true → is_unwritten matches ts g ≡ (length (written_in matches ts g) == 0)
  unfolding is_unwritten
  unwritten_whole g e = ap (λ (b : Bool). b && length (written_in matches ts g) == 0) e

  unwritten_not : (g : List ℕ) → is_whole matches ts g ≡ false → is_unwritten matches ts g ≡ false
  unfolding is_unwritten
  unwritten_not g e = ap (λ (b : Bool). b && length (written_in matches ts g) == 0) e

  -- ---- whether an end stands in a pair

  abbrev matched : Tip → Bool
  matched t = not t.unmatched && list_any (λ q. is_at q t) (matches t.instance)

  is_matched : (t : Tip) → t.unmatched ≡ false → IsMatched matches ts t → matched t ≡ true
  is_matched t u m = join (not t.unmatched) (list_any (λ q. is_at q t) (matches t.instance)) (ap (λ (b : Bool). not b) u) (any_member (λ q. is_at q t) (matches t.instance) m.0 m.1 m.2)

  pub end_matched : (g : List ℕ) (k : ℕ) (t : Tip) → Member g (pairs matches ts) → has g k ≡ true → slice_get ts k ≡ Some t → matched t ≡ true
  end_matched g k t m h at =
      let r = all_related matches ts g m k k h h in
      let is : r.0 ≡ t = one matches ts k r.0 t r.2 at in
      is_matched t (subst (λ (x : Tip). x.unmatched ≡ false) is (alike_is r.0 r.1 r.4).0) (subst (λ (x : Tip). IsMatched matches ts x) is r.6)

  no_pair : (k : ℕ) (t : Tip) → slice_get ts k ≡ Some t → matched t ≡ false → pair_of matches ts k ≡ None
  no_pair k t at e = go (pair_of matches ts k) refl
    where
      go : (p : Option (List ℕ)) → pair_of matches ts k ≡ p → pair_of matches ts k ≡ None
      go None h = h
      go (Some g) h = let f = pair_found matches ts k g h in cc (sym e ∙ end_matched g k t f.0 f.1 at)

  pub a_pair : (k : ℕ) (t : Tip) → slice_get ts k ≡ Some t → matched t ≡ true → (g : List ℕ) × (pair_of matches ts k ≡ Some g) × Member g (pairs matches ts) × (has g k ≡ true)
  unfolding pairs
  a_pair k t at e =
      let u = not_true t.unmatched (both_left (not t.unmatched) (list_any (λ q. is_at q t) (matches t.instance)) e) in
      let c = contained (λ q. is_at q t) (matches t.instance) (both_right (not t.unmatched) (list_any (λ q. is_at q t) (matches t.instance)) e) in
      let q = c.0 in
      let m : Member q (matches t.instance) = of_contains (matches t.instance) q c.1.0 c.1.1 c.1.2 in
      let self : are_alike t t ≡ true = alike_from t t (u, u, refl, refl) in
      let pair : Member (paired_by matches ts t q) (flat_map (pairs_at matches ts) ts) = to_flat (pairs_at matches ts) ts k t (paired_by matches ts t q) at (to_pairs_at matches ts t q u m c.2) in
      let here : has (paired_by matches ts t q) k ≡ true = to_places 0 k (λ (s : Tip). are_alike t s && is_at q s) ts k t (omega arith) at (join (are_alike t t) (is_at q t) self c.2) in
      let g = covered (flat_map (pairs_at matches ts) ts) (paired_by matches ts t q) k pair here in
      let h = found_pair matches ts k g.0 g.1 g.2 in
      let f = pair_found matches ts k h.0 h.1 in
      (h.0, h.1, f.0, f.1)

module _ (matches : ℕ → List (ℕ × ℕ)) (ts : List Tip) (label : ℕ → ℕ → ℕ) (lanes : AreLanes matches ts label) (ls : List Look) (looks : AreLooks matches ts label ls) where
  abbrev look : ℕ → Tip → Look
  look k t = look_of matches ts label k t

  pub look_same : (j : ℕ) (l : Look) → slice_get ls j ≡ Some l → (s : Tip) × (slice_get ts j ≡ Some s) × (l ≡ look j s)
  look_same j l at =
      let within = slice_get_within ls j l at in
      let there = slice_get-get_or ts j no_tip (omega (arith, looks.each)) in
      let e : ◌≡◌ {A = Option Look} (Some l) (Some (look j (get_or ts j no_tip))) = sym at ∙ looks.of j (get_or ts j no_tip) there in
      (get_or ts j no_tip, there, same_some e)

  -- ---- ends of one key

  module _ (k : ℕ) (t : Tip) (at : slice_get ts k ≡ Some t) (here : matched matches ts t ≡ true) where
    abbrev key : ℕ × ℕ × ℕ
    key = key_of (look k t)

    unmatched_not : (s : Tip) → matched matches ts s ≡ true → s.unmatched ≡ false
    unmatched_not s e = not_true s.unmatched (both_left (not s.unmatched) (list_any (λ q. is_at q s) (matches s.instance)) e)

    of_in : (j : ℕ) (s : Tip) → slice_get ts j ≡ Some s → is_in (key_of (look k t)) (look j s) ≡ true → is_of_key matches t s ≡ true
    of_in j s there e =
        let m : matched matches ts s ≡ true = both_left (matched matches ts s) (s.instance == t.instance && label s.instance s.port == label t.instance t.port && s.other == t.other) e in
        let r = both_right (matched matches ts s) (s.instance == t.instance && label s.instance s.port == label t.instance t.port && s.other == t.other) e in
        let front : (s.instance == t.instance && label s.instance s.port == label t.instance t.port) ≡ true = both_left (s.instance == t.instance && label s.instance s.port == label t.instance t.port) (s.other == t.other) r in
        let i : s.instance ≡ t.instance = same_number _ _ (both_left (s.instance == t.instance) (label s.instance s.port == label t.instance t.port) front) in
        let l : label s.instance s.port ≡ label t.instance t.port = same_number _ _ (both_right (s.instance == t.instance) (label s.instance s.port == label t.instance t.port) front) in
        let o : s.other ≡ t.other = same_number _ _ (both_right (s.instance == t.instance && label s.instance s.port == label t.instance t.port) (s.other == t.other) r) in
        join (are_alike t s) (linked (matches t.instance) t.port s.port) (alike_from t s (unmatched_not t here, unmatched_not s m, sym i, sym o)) ((lanes.same k j t s at there (sym i)).0 (sym l))

    to_in : (j : ℕ) (s : Tip) → slice_get ts j ≡ Some s → matched matches ts s ≡ true → is_of_key matches t s ≡ true → is_in (key_of (look k t)) (look j s) ≡ true
    to_in j s there m e =
        let a = alike_is t s (both_left (are_alike t s) (linked (matches t.instance) t.port s.port) e) in
        let l : label t.instance t.port ≡ label s.instance s.port = (lanes.same k j t s at there a.2).1 (both_right (are_alike t s) (linked (matches t.instance) t.port s.port) e) in
        join (matched matches ts s) (s.instance == t.instance && label s.instance s.port == label t.instance t.port && s.other == t.other) m
        (join (s.instance == t.instance && label s.instance s.port == label t.instance t.port) (s.other == t.other)
        (join (s.instance == t.instance) (label s.instance s.port == label t.instance t.port) (number_same s.instance t.instance (sym a.2)) (number_same _ _ (sym l))) (number_same s.other t.other (sym a.3)))

    module _ (g : List ℕ) (o : Member g (pairs matches ts)) (h : has g k ≡ true) where
      -- the ends of a whole pair are those of its key
      pub has_in : is_whole matches ts g ≡ true → (j : ℕ) (s : Tip) → slice_get ts j ≡ Some s → has g j ≡ is_in (key_of (look k t)) (look j s)
      has_in w j s there =
          same_truth _ _
          (λ e. to_in j s there (end_matched matches ts g j s o e there) (one_key matches ts g k j t s (member_contains (pairs matches ts) g o) h e at there))
          (λ e. let y = of_in j s there e in
          all_of_key matches ts g o w k j t s h at there (both_left (are_alike t s) (linked (matches t.instance) t.port s.port) y) (both_right (are_alike t s) (linked (matches t.instance) t.port s.port) y))

      -- ---- whether some end lacks a partner or repeats one

      lacks_matched : (j : ℕ) (s : Tip) (f : Refusal) → s.unmatched ≡ false → Lacks matches ts j s f → matched matches ts s ≡ true
      lacks_matched j s f u (inl x) = is_matched matches ts s u (x.0, of_contains (matches s.instance) x.0 x.1.0 x.1.1 x.1.2, x.2)
      lacks_matched j s f u (inr x) = is_matched matches ts s u (x.0, of_contains (matches s.instance) x.0 x.3.0 x.3.1 x.3.2, x.4)

      not_lone : is_whole matches ts g ≡ true → list_any (is_lone_in (key_of (look k t))) ls ≡ true → ⊥
      not_lone w e =
          let r = any_found (is_lone_in (key_of (look k t))) ls e in
          let j = r.0 in
          let x = look_same j r.1 r.2 in
          let s = x.0 in
          let here_too : is_lone_in (key_of (look k t)) (look j s) ≡ true = subst (λ (l : Look). is_lone_in (key_of (look k t)) l ≡ true) x.2 r.3 in
          let inside = both_left (is_in (key_of (look k t)) (look j s)) (is_lone matches ts j s) here_too in
          let lack = lone_lacks matches ts j s (both_right (is_in (key_of (look k t)) (look j s)) (is_lone matches ts j s) here_too) in
          whole_lacks matches ts g j s lack.0 o w (has_in w j s x.1 ∙ inside) x.1 lack.1

      is_lone_there : is_whole matches ts g ≡ false → list_any (is_lone_in (key_of (look k t))) ls ≡ true
      is_lone_there w =
          let r = not_whole matches ts g o w in
          let u = r.1 in
          let l = r.4 in
          let j = l.0 in
          let s = l.1 in
          let first = one_key matches ts g k r.0 t u (member_contains (pairs matches ts) g o) h r.2 at r.3 in
          let tu : are_alike t u ≡ true = both_left (are_alike t u) (linked (matches t.instance) t.port u.port) first in
          let us : are_alike u s ≡ true = both_left (are_alike u s) (linked (matches u.instance) u.port s.port) l.4 in
          let ts_links : linked (matches t.instance) t.port s.port ≡ true =
          linked_through (matches t.instance) t.port u.port s.port (both_right (are_alike t u) (linked (matches t.instance) t.port u.port) first)
          (subst (λ (i : ℕ). linked (matches i) u.port s.port ≡ true) (sym (alike_is t u tu).2) (both_right (are_alike u s) (linked (matches u.instance) u.port s.port) l.4)) in
          let key_too : is_of_key matches t s ≡ true = join (are_alike t s) (linked (matches t.instance) t.port s.port) (alike_through t u s tu us) ts_links in
          let m = lacks_matched j s l.2 (alike_is u s us).1 l.5 in
          any_at (is_lone_in (key_of (look k t))) ls j (look j s) (looks.of j s l.3)
          (join (is_in (key_of (look k t)) (look j s)) (is_lone matches ts j s) (to_in j s l.3 m key_too) (lacks_lone matches ts j s l.2 l.5))

      pub lone_is : (w : Bool) → is_whole matches ts g ≡ w → list_any (is_lone_in (key_of (look k t))) ls ≡ not w
      lone_is true e = none (list_any (is_lone_in (key_of (look k t))) ls) refl
        where
          none : (b : Bool) → list_any (is_lone_in (key_of (look k t))) ls ≡ b → list_any (is_lone_in (key_of (look k t))) ls ≡ false
          none false d = d
          none true d = absurd (not_lone e d)
      lone_is false e = is_lone_there e

      -- ---- what is written, and the first end

      module _ (w : is_whole matches ts g ≡ true) where
        to_said : (z : ℤ) → Member z (written_in matches ts g) → Member z (said_in (key_of (look k t)) ls)
        to_said z m =
            let r = written_from (λ x. option_and_then written_number (slice_get ts x)) g z m in
            let s = some_tip written_number (slice_get ts r.0) z r.2 in
            to_mapped (λ l. cond (is_in (key_of (look k t)) l) l.said None) ls r.0 (look r.0 s.0) z (looks.of r.0 s.0 s.1)
            (pick (is_in (key_of (look k t)) (look r.0 s.0)) (written_number s.0) z (sym (has_in w r.0 s.0 s.1) ∙ r.1) s.2)

        from_said : (z : ℤ) → Member z (said_in (key_of (look k t)) ls) → Member z (written_in matches ts g)
        from_said z m =
            let r = of_mapped (λ (l : Look). cond (is_in (key_of (look k t)) l) l.said None) ls z m in
            let x = look_same r.0 r.1 r.2 in
            let e : cond (is_in (key_of (look k t)) (look r.0 x.0)) (written_number x.0) None ≡ Some z = subst (λ (l : Look). cond (is_in (key_of (look k t)) l) l.said None ≡ Some z) x.2 r.3 in
            let p = picked (is_in (key_of (look k t)) (look r.0 x.0)) (written_number x.0) z e in
            to_written (λ y. option_and_then written_number (slice_get ts y)) g r.0 z (has_in w r.0 x.0 x.1 ∙ p.0) (ap (λ (y : Option Tip). option_and_then written_number y) x.1 ∙ p.1)

        given_said : given_by (said_in (key_of (look k t)) ls) ≡ given_by (written_in matches ts g)
        given_said =
            same_option_of _ _
            (λ z e. let r = gives (said_in (key_of (look k t)) ls) z e in gives_back (written_in matches ts g) z (from_said z r.0) (λ y m. r.1 y (to_said y m)))
            (λ z e. let r = gives (written_in matches ts g) z e in gives_back (said_in (key_of (look k t)) ls) z (to_said z r.0) (λ y m. r.1 y (from_said y m)))

        empty_said : (length (said_in (key_of (look k t)) ls) == 0) ≡ (length (written_in matches ts g) == 0)
        empty_said =
            same_truth _ _
            (λ e. number_same _ 0 (no_members (written_in matches ts g) (λ z m. members_none (said_in (key_of (look k t)) ls) (same_number _ 0 e) z (to_said z m))))
            (λ e. number_same _ 0 (no_members (said_in (key_of (look k t)) ls) (λ z m. members_none (written_in matches ts g) (same_number _ 0 e) z (from_said z m))))

        first_there : first_from 0 (heads_in (key_of (look k t))) ls ≡ Some (first_of matches ts g)
        first_there =
            let f = first_end matches ts g k o w h in
            sym
            (first_same g (is_at_first matches ts) (is_in (key_of (look k t))) 0 ts ls looks.each
            (λ i j u l is a b.
            let x = look_same j l b in
            let same : u ≡ x.0 = tip_same u x.0 (sym a ∙ x.1) in
            let index : i ≡ j = omega arith in (
              subst (λ (m : Look). is_at_first matches ts u ≡ m.heads) (sym x.2) (ap (λ (y : Tip). is_at_first matches ts y) same),
              subst (λ (m : Look). has g i ≡ is_in (key_of (look k t)) m) (sym x.2) (ap (λ (y : ℕ). has g y) index ∙ has_in w j x.0 x.1),
            )))
            ∙ f.2.found ∙ ap (λ (x : ℕ). Some x) (sym f.2.first)

  -- ---- origins

  abbrev made : Option ℤ → Bool → Bool → Option Noted → Option ℕ → Origin
  made o m lone n first = record { said = said_part o (m && not lone) n; first = first_part (m && not lone) n first; free = not m }

  no_said : (n : Option Noted) → said_part None false n ≡ None
  no_said None = refl
  no_said (Some n) = refl

  no_first : (n : Option Noted) (first : Option ℕ) → first_part false n first ≡ None
  no_first None first = refl
  no_first (Some n) first = refl

  unpaired : (b : Bool) (o : Option ℤ) (lone : Bool) (n : Option Noted) (first : Option ℕ) → IsOrigin matches ts (source_from matches ts b o None) (made o false lone n first)
  unpaired b (Some z) lone n first = refl
  unpaired true None lone n first = (no_said n, no_first n first, refl)
  unpaired false None lone n first = (no_said n, no_first n first, refl)

  -- of an end of a pair that isn't whole
  apart : (g : List ℕ) (o : Option ℤ) (n : Option Noted) (first : Option ℕ) (b : Bool) → is_whole matches ts g ≡ false → IsOrigin matches ts (source_from matches ts b o (Some g)) (made o true true n first)
  apart g (Some z) n first b w = refl
  apart g None n first b w =
      subst (λ (x : Option ℤ). IsOrigin matches ts (source_given matches ts g x) (made None true true n first)) (sym (given_not matches ts g w))
      (subst (λ (x : Bool). IsOrigin matches ts (cond x (Paired g) Unpaired) (made None true true n first)) (sym (unwritten_not matches ts g w)) (no_said n, no_first n first, refl))

  -- of an end of a whole pair
  whole_pair : (g : List ℕ) (o : Option ℤ) (zs : List ℤ) (first : Option ℕ) (b : Bool) → is_whole matches ts g ≡ true → given_by zs ≡ given_by (written_in matches ts g)
      → (length zs == 0) ≡ (length (written_in matches ts g) == 0) → first ≡ Some (first_of matches ts g) → IsOrigin matches ts (source_from matches ts b o (Some g)) (made o true false (noted zs) first)
  whole_pair g (Some z) zs first b w d e f = refl
  whole_pair g None zs first b w d e f =
      subst (λ (x : Option ℤ). IsOrigin matches ts (source_given matches ts g x) (made None true false (noted zs) first)) (d ∙ sym (given_whole matches ts g w)) (by zs (unwritten_whole matches ts g w ∙ sym e))
    where
      by : (zs : List ℤ) → is_unwritten matches ts g ≡ (length zs == 0) → IsOrigin matches ts (source_given matches ts g (given_by zs)) (made None true false (noted zs) first)
      by [] u = subst (λ (x : Bool). IsOrigin matches ts (cond x (Paired g) Unpaired) (made None true false None first)) (sym u) (refl, f)
      by (z ∷ zs) u = all (list_all (int_eq z) zs)
        where
          all : (s : Bool) → IsOrigin matches ts (source_given matches ts g (cond s (Some z) None)) (made None true false (Some (record { number = z; same = s })) first)
          all true = refl
          all false = subst (λ (x : Bool). IsOrigin matches ts (cond x (Paired g) Unpaired) (made None true false (Some (record { number = z; same = false })) first)) (sym (u ∙ longer)) (refl, refl, refl)
            where
              longer : (length (z ∷ zs) == 0) ≡ false
              longer = not_zero (length zs)

  module _ (os : List Origin) (found : AreFound ls os) where
    origin_at : (k : ℕ) (t : Tip) → slice_get ts k ≡ Some t → IsOrigin matches ts (source_of matches ts t k) (get_or os k no_origin)
    origin_at k t at =
        subst (λ (o : Origin). IsOrigin matches ts (source_of matches ts t k) o) (sym (found.of k (look k t) (looks.of k t at)))
        (subst (λ (s : Source). IsOrigin matches ts s (made (written_number t) (matched matches ts t) (list_any (is_lone_in (key_of (look k t))) ls) (noted (said_in (key_of (look k t)) ls)) (first_from 0 (heads_in (key_of (look k t))) ls)))
        (sym (source_is matches ts t k)) (by_matched (matched matches ts t) refl))
      where
        by_whole : (g : List ℕ) → Member g (pairs matches ts) → has g k ≡ true → matched matches ts t ≡ true → (w : Bool) → is_whole matches ts g ≡ w
            → IsOrigin matches ts (source_from matches ts t.begins (written_number t) (Some g))
            (made (written_number t) true (list_any (is_lone_in (key_of (look k t))) ls) (noted (said_in (key_of (look k t)) ls)) (first_from 0 (heads_in (key_of (look k t))) ls))
        by_whole g m h here true w =
            subst (λ (l : Bool). IsOrigin matches ts (source_from matches ts t.begins (written_number t) (Some g))
            (made (written_number t) true l (noted (said_in (key_of (look k t)) ls)) (first_from 0 (heads_in (key_of (look k t))) ls))) (sym (lone_is k t at here g m h true w))
            (whole_pair g (written_number t) (said_in (key_of (look k t)) ls) (first_from 0 (heads_in (key_of (look k t))) ls) t.begins w (given_said k t at here g m h w) (empty_said k t at here g m h w)
            (first_there k t at here g m h w))
        by_whole g m h here false w =
            subst (λ (l : Bool). IsOrigin matches ts (source_from matches ts t.begins (written_number t) (Some g))
            (made (written_number t) true l (noted (said_in (key_of (look k t)) ls)) (first_from 0 (heads_in (key_of (look k t))) ls))) (sym (lone_is k t at here g m h false w))
            (apart g (written_number t) (noted (said_in (key_of (look k t)) ls)) (first_from 0 (heads_in (key_of (look k t))) ls) t.begins w)

        by_matched : (m : Bool) → matched matches ts t ≡ m
            → IsOrigin matches ts (source_from matches ts t.begins (written_number t) (pair_of matches ts k))
            (made (written_number t) (matched matches ts t) (list_any (is_lone_in (key_of (look k t))) ls) (noted (said_in (key_of (look k t)) ls)) (first_from 0 (heads_in (key_of (look k t))) ls))
        by_matched true e =
            let g = a_pair matches ts k t at e in
            subst (λ (p : Option (List ℕ)). IsOrigin matches ts (source_from matches ts t.begins (written_number t) p)
            (made (written_number t) (matched matches ts t) (list_any (is_lone_in (key_of (look k t))) ls) (noted (said_in (key_of (look k t)) ls)) (first_from 0 (heads_in (key_of (look k t))) ls))) (sym g.1)
            (subst (λ (b : Bool). IsOrigin matches ts (source_from matches ts t.begins (written_number t) (Some g.0))
            (made (written_number t) b (list_any (is_lone_in (key_of (look k t))) ls) (noted (said_in (key_of (look k t)) ls)) (first_from 0 (heads_in (key_of (look k t))) ls))) (sym e)
            (by_whole g.0 g.2 g.3 e (is_whole matches ts g.0) refl))
        by_matched false e =
            subst (λ (p : Option (List ℕ)). IsOrigin matches ts (source_from matches ts t.begins (written_number t) p)
            (made (written_number t) (matched matches ts t) (list_any (is_lone_in (key_of (look k t))) ls) (noted (said_in (key_of (look k t)) ls)) (first_from 0 (heads_in (key_of (look k t))) ls))) (sym (no_pair matches ts k t at e))
            (subst (λ (b : Bool). IsOrigin matches ts (source_from matches ts t.begins (written_number t) None)
            (made (written_number t) b (list_any (is_lone_in (key_of (look k t))) ls) (noted (said_in (key_of (look k t)) ls)) (first_from 0 (heads_in (key_of (look k t))) ls))) (sym e)
            (unpaired t.begins (written_number t) (list_any (is_lone_in (key_of (look k t))) ls) (noted (said_in (key_of (look k t)) ls)) (first_from 0 (heads_in (key_of (look k t))) ls)))

    pub origins : AreOrigins matches ts os
    origins = record { each = found.each ∙ looks.each; of = origin_at }
