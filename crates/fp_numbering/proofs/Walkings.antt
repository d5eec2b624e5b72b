-- That the walk over lanes and then the walk over ports give the numbering.
use Rattle.std.proofs.Common.{◌≡◌, ◌∙◌, ap, refl, sym, subst, ℕ, zero, suc, ◌+◌, ◌<◌, inl, inr, Bool, true, false, ◌&&◌, cond, List, [], ◌∷◌, length, Option, None, Some, slice_get, get_or, arith}
use Rattle.std.specs.Prelude.{ℤ, negsuc, ◌==◌, ◌↔◌, nat_lt}
use Rattle.std.specs.Option.{option_map}
use Rattle.fp_tables.specs.declared.topology.Written.{Written}
use Rattle.std.proofs.lemmas.Bool.Decides.{nat_tests}
use Rattle.std.proofs.lemmas.Option.{slice_get-get_or, slice_get_within}
use Rattle.fp_base.proofs.Bools.{join, or_cases, or_left, or_right, same_truth}
use Rattle.fp_base.proofs.Numbers.{same_number, number_same}
use Rattle.fp_numbering.specs.declared.tips.Tip.{Tip}
use Rattle.fp_numbering.specs.declared.origins.Origin.{Origin}
use Rattle.fp_numbering.specs.Ends.{number_below, at_one_port}
use Rattle.fp_numbering.specs.Pairs.{has, pairs, are_alike, is_whole, first_of}
use Rattle.fp_numbering.specs.Numbers.{IsLeastUnused, IsLeastOutside, numbers_from, Source, source_of, is_at_port_of, is_before_pair, is_before_output, used_by_pair, used_by_output, Has, Numbered}
use Rattle.fp_numbering.specs.Numbers.Source.{Said, Paired, Unpaired, Output, Input}
use Rattle.fp_numbering.specs.Keys.{linked}
use Rattle.fp_numbering.specs.Walks.{source_by, plain_source, AreAllGiven}
use Rattle.fp_numbering.specs.Origins.{no_tip, no_origin, IsOrigin, AreOrigins, put, is_first, lane_tip, as_integer, settled, port_tip, AreMade, AreLanes}
use Rattle.fp_numbering.proofs.Unique.{both_left, both_right}
use Rattle.fp_numbering.proofs.Joining.{Member}
use Rattle.fp_numbering.proofs.Keying.{alike_is, ports_to, one_key}
use Rattle.fp_numbering.proofs.Giving.{least_same}
use Rattle.fp_numbering.proofs.Plain.{plain, numbered}
use Rattle.fp_numbering.proofs.Sourcing.{member_contains, paired_is, output_begins, input_ends, pair_found, whole_of, IsFirst, HasFirst, first_source}

-- ---- lists of numbers

pub of_numbers_from : (i : ℕ) (test : ℕ → Tip → Bool) (ts : List Tip) (ns : List (Option ℕ)) (m : ℕ) → has (numbers_from i test ts ns) m ≡ true
    → (j : ℕ) × (t : Tip) × (slice_get ts j ≡ Some t) × (slice_get ns j ≡ Some (Some m)) × (test (i + j) t ≡ true)
of_numbers_from i test [] ns m h = cc
of_numbers_from i test (t ∷ ts) [] m h = cc
of_numbers_from i test (t ∷ ts) (None ∷ ns) m h =
    let r = of_numbers_from (suc i) test ts ns m h in
    let is : suc i + r.0 ≡ i + suc r.0 = omega arith in
    (suc r.0, r.1, r.2, r.3, subst (λ (j : ℕ). test j r.1 ≡ true) is r.4)
of_numbers_from i test (t ∷ ts) (Some n ∷ ns) m h = part (test i t) refl h (of_numbers_from (suc i) test ts ns m)
  where
    behind : ((j : ℕ) × (u : Tip) × (slice_get ts j ≡ Some u) × (slice_get ns j ≡ Some (Some m)) × (test (suc i + j) u ≡ true))
        → (j : ℕ) × (u : Tip) × (slice_get (t ∷ ts) j ≡ Some u) × (slice_get (Some n ∷ ns) j ≡ Some (Some m)) × (test (i + j) u ≡ true)
    behind r = let is : suc i + r.0 ≡ i + suc r.0 = omega arith in (suc r.0, r.1, r.2, r.3, subst (λ (j : ℕ). test j r.1 ≡ true) is r.4)

    part : (b : Bool) → test i t ≡ b → has (cond b (n ∷ numbers_from (suc i) test ts ns) (numbers_from (suc i) test ts ns)) m ≡ true
        → (has (numbers_from (suc i) test ts ns) m ≡ true → (j : ℕ) × (u : Tip) × (slice_get ts j ≡ Some u) × (slice_get ns j ≡ Some (Some m)) × (test (suc i + j) u ≡ true))
        → (j : ℕ) × (u : Tip) × (slice_get (t ∷ ts) j ≡ Some u) × (slice_get (Some n ∷ ns) j ≡ Some (Some m)) × (test (i + j) u ≡ true)
    part true e g rest =
        elim (or_cases (n == m) (has (numbers_from (suc i) test ts ns) m) g) [
          | inl s ↦
              let is : i ≡ i + 0 = omega arith in
              (0, t, refl, ap (λ (x : ℕ). Some (Some x)) (same_number n m s), subst (λ (j : ℕ). test j t ≡ true) is e)
          | inr r ↦ behind (rest r)
        ]
    part false e g rest = behind (rest g)

pub to_numbers_from : (i x : ℕ) (test : ℕ → Tip → Bool) (ts : List Tip) (ns : List (Option ℕ)) (m j : ℕ) (t : Tip) → x ≡ i + j → slice_get ts j ≡ Some t → slice_get ns j ≡ Some (Some m) → test x t ≡ true
    → has (numbers_from i test ts ns) m ≡ true
to_numbers_from i x test [] ns m j t e a b h = cc
to_numbers_from i x test (u ∷ ts) [] m j t e a b h = cc
to_numbers_from i x test (u ∷ ts) (None ∷ ns) m zero t e a b h = cc
to_numbers_from i x test (u ∷ ts) (None ∷ ns) m (suc j) t e a b h = to_numbers_from (suc i) x test ts ns m j t (omega arith) a b h
to_numbers_from i x test (u ∷ ts) (Some n ∷ ns) m zero t e a b h =
    let same : u ≡ t = cc in
    let number : n ≡ m = cc in
    let is : i ≡ x = omega arith in
    ap (λ (c : Bool). has (cond c (n ∷ numbers_from (suc i) test ts ns) (numbers_from (suc i) test ts ns)) m) (ap (test i) same ∙ ap (λ (y : ℕ). test y t) is ∙ h)
    ∙ or_left (n == m) (has (numbers_from (suc i) test ts ns) m) (number_same n m number)
to_numbers_from i x test (u ∷ ts) (Some n ∷ ns) m (suc j) t e a b h = part (test i u) (to_numbers_from (suc i) x test ts ns m j t (omega arith) a b h)
  where
    part : (c : Bool) → has (numbers_from (suc i) test ts ns) m ≡ true → has (cond c (n ∷ numbers_from (suc i) test ts ns) (numbers_from (suc i) test ts ns)) m ≡ true
    part true r = or_right (n == m) (has (numbers_from (suc i) test ts ns) m) r
    part false r = r

pub of_numbers : (test : ℕ → Tip → Bool) (ts : List Tip) (ns : List (Option ℕ)) (m : ℕ) → has (numbers_from 0 test ts ns) m ≡ true
    → (j : ℕ) × (t : Tip) × (slice_get ts j ≡ Some t) × (slice_get ns j ≡ Some (Some m)) × (test j t ≡ true)
of_numbers test ts ns m h =
    let r = of_numbers_from 0 test ts ns m h in
    let is : 0 + r.0 ≡ r.0 = omega arith in
    (r.0, r.1, r.2, r.3, subst (λ (j : ℕ). test j r.1 ≡ true) is r.4)

pub to_numbers : (test : ℕ → Tip → Bool) (ts : List Tip) (ns : List (Option ℕ)) (m j : ℕ) (t : Tip) → slice_get ts j ≡ Some t → slice_get ns j ≡ Some (Some m) → test j t ≡ true
    → has (numbers_from 0 test ts ns) m ≡ true
to_numbers test ts ns m j t a b h = to_numbers_from 0 j test ts ns m j t (omega arith) a b h

-- ---- a number that is found fits its size

below_again : (size : ℕ) (used : ℕ → Bool) (x : Option ℕ) → IsLeastUnused size used x → number_below size (as_integer x) ≡ x
below_again size used None h = refl
below_again size used (Some n) h = let less : nat_lt n size ≡ true = inside (h.0) in ap (λ (b : Bool). cond b (Some n) None) less
  where
    inside : n < size → nat_lt n size ≡ true
    inside l = grind (arith, nat_tests)

abbrev none_matched : ℕ → List (ℕ × ℕ)
none_matched i = []

no_match : (i : ℕ) → none_matched i ≡ []
no_match i = refl

pub put_back : (o : Option ℤ) (t : Tip) → option_map (λ (w : Written). w.number) (put o t) ≡ o
put_back None t = refl
put_back (Some z) t = refl

lane_source : (l k : ℕ) (o : Origin) (t : Tip) → plain_source (lane_tip l k o t) ≡ source_by o.said (is_first k o.first)
lane_source l k o t = ap (λ (x : Option ℤ). source_by x (is_first k o.first)) (put_back o.said t)

port_source : (ms : List (Option ℕ)) (o : Origin) (t : Tip) → plain_source (port_tip ms o t) ≡ source_by (settled ms o.said o.first o.free) t.begins
port_source ms o t = ap (λ (x : Option ℤ). source_by x t.begins) (put_back (settled ms o.said o.first o.free) t)

pub some_same : (m n : Option ℕ) → ◌≡◌ {A = Option (Option ℕ)} (Some m) (Some n) → m ≡ n
some_same m n e = cc

pub tip_same : (s t : Tip) → ◌≡◌ {A = Option Tip} (Some s) (Some t) → s ≡ t
tip_same s t e = cc

abbrev group : Source → List ℕ
group (Paired g) = g
group _ = []

module _ (matches : ℕ → List (ℕ × ℕ)) (ts : List Tip) (os : List Origin) (are : AreOrigins matches ts os) (label : ℕ → ℕ → ℕ) (lanes : AreLanes matches ts label)
    (vs us : List Tip) (ms ns : List (Option ℕ)) (in_lanes : AreMade (λ k o t. lane_tip (label t.instance t.port) k o t) ts os vs) (pairs_given : AreAllGiven vs ms)
    (at_ports : AreMade (λ k o t. port_tip ms o t) ts os us) (all_given : AreAllGiven us ns) where
  abbrev pub o_at : ℕ → Origin
  o_at k = get_or os k no_origin

  abbrev pub lane_at : ℕ → Tip → Tip
  lane_at k t = lane_tip (label t.instance t.port) k (o_at k) t

  abbrev pub port_at : ℕ → Tip → Tip
  port_at k t = port_tip ms (o_at k) t

  -- what each walk gives
  in_lane : (k : ℕ) (t : Tip) → slice_get ts k ≡ Some t → Has none_matched vs ms (lane_at k t) k (get_or ms k None) (source_by (o_at k).said (is_first k (o_at k).first))
  in_lane k t at =
      let within = slice_get_within ts k t at in
      subst (λ (s : Source). Has none_matched vs ms (lane_at k t) k (get_or ms k None) s) (plain none_matched no_match vs (lane_at k t) k ∙ lane_source (label t.instance t.port) k (o_at k) t)
      ((numbered none_matched no_match vs ms pairs_given).has k (lane_at k t) (get_or ms k None) (in_lanes.of k t at) (slice_get-get_or ms k None (omega (arith, pairs_given.each, in_lanes.each))))

  at_port : (k : ℕ) (t : Tip) (n : Option ℕ) → slice_get ts k ≡ Some t → slice_get ns k ≡ Some n
      → Has none_matched us ns (port_at k t) k n (source_by (settled ms (o_at k).said (o_at k).first (o_at k).free) t.begins)
  at_port k t n at there =
      subst (λ (s : Source). Has none_matched us ns (port_at k t) k n s) (plain none_matched no_match us (port_at k t) k ∙ port_source ms (o_at k) t)
      ((numbered none_matched no_match us ns all_given).has k (port_at k t) n (at_ports.of k t at) there)

  pub numbers_each : length ns ≡ length ts
  numbers_each = all_given.each ∙ at_ports.each

  pub lanes_each : length ms ≡ length ts
  lanes_each = pairs_given.each ∙ in_lanes.each

  pub number_at : (k : ℕ) (t : Tip) → slice_get ts k ≡ Some t → slice_get ns k ≡ Some (get_or ns k None)
  number_at k t at = let within = slice_get_within ts k t at in slice_get-get_or ns k None (omega (arith, numbers_each))

  pub lane_number_at : (k : ℕ) (t : Tip) → slice_get ts k ≡ Some t → slice_get ms k ≡ Some (get_or ms k None)
  lane_number_at k t at = let within = slice_get_within ts k t at in slice_get-get_or ms k None (omega (arith, lanes_each))

  pub origin : (k : ℕ) (t : Tip) (s : Source) → slice_get ts k ≡ Some t → source_of matches ts t k ≡ s → IsOrigin matches ts s (o_at k)
  origin k t s at e = subst (λ (x : Source). IsOrigin matches ts x (o_at k)) e (are.of k t at)

  -- ---- an end of which a number is said, and one that has none

  said_port : (k : ℕ) (t : Tip) (n : Option ℕ) (z : ℤ) → slice_get ts k ≡ Some t → slice_get ns k ≡ Some n → source_of matches ts t k ≡ Said z → n ≡ number_below t.size z
  said_port k t n z at there e =
      subst (λ (x : Option ℤ). Has none_matched us ns (port_at k t) k n (source_by (settled ms x (o_at k).first (o_at k).free) t.begins)) (origin k t (Said z) at e) (at_port k t n at there)

  said_lane : (k : ℕ) (t : Tip) (z : ℤ) → slice_get ts k ≡ Some t → source_of matches ts t k ≡ Said z → get_or ms k None ≡ number_below t.size z
  said_lane k t z at e =
      subst (λ (x : Option ℤ). Has none_matched vs ms (lane_at k t) k (get_or ms k None) (source_by x (is_first k (o_at k).first))) (origin k t (Said z) at e) (in_lane k t at)

  unpaired_port : (k : ℕ) (t : Tip) (n : Option ℕ) → slice_get ts k ≡ Some t → slice_get ns k ≡ Some n → source_of matches ts t k ≡ Unpaired → n ≡ None
  unpaired_port k t n at there e =
      let o = origin k t Unpaired at e in
      let is : settled ms (o_at k).said (o_at k).first (o_at k).free ≡ Some (negsuc 0) =
      ap (λ (x : Option ℤ). settled ms x (o_at k).first (o_at k).free) o.0 ∙ ap (λ (x : Option ℕ). settled ms None x (o_at k).free) o.1 ∙ ap (λ (x : Bool). settled ms None None x) o.2 in
      subst (λ (x : Option ℤ). Has none_matched us ns (port_at k t) k n (source_by x t.begins)) is (at_port k t n at there)

  open_port : (k : ℕ) (t : Tip) (n : Option ℕ) → slice_get ts k ≡ Some t → slice_get ns k ≡ Some n → (((o_at k).said ≡ None) × ((o_at k).first ≡ None) × ((o_at k).free ≡ true))
      → Has none_matched us ns (port_at k t) k n (cond t.begins Output Input)
  open_port k t n at there o =
      let is : settled ms (o_at k).said (o_at k).first (o_at k).free ≡ None =
      ap (λ (x : Option ℤ). settled ms x (o_at k).first (o_at k).free) o.0 ∙ ap (λ (x : Option ℕ). settled ms None x (o_at k).free) o.1 ∙ ap (λ (x : Bool). settled ms None None x) o.2 in
      subst (λ (x : Option ℤ). Has none_matched us ns (port_at k t) k n (source_by x t.begins)) is (at_port k t n at there)

  -- ---- the ends of a pair

  related : (g : List ℕ) (i j : ℕ) (s t : Tip) → Member g (pairs matches ts) → has g i ≡ true → has g j ≡ true → slice_get ts i ≡ Some s → slice_get ts j ≡ Some t
      → (s.instance ≡ t.instance) × (linked (matches s.instance) s.port t.port ≡ true)
  related g i j s t m a b at there =
      let key = one_key matches ts g i j s t (member_contains (pairs matches ts) g m) a b at there in
      let alike = alike_is s t (both_left (are_alike s t) (linked (matches s.instance) s.port t.port) key) in
      (alike.2, both_right (are_alike s t) (linked (matches s.instance) s.port t.port) key)

  -- the first end asks for a number in its lane
  lane_output : (f : ℕ) (w : Tip) (h : List ℕ) → slice_get ts f ≡ Some w → source_of matches ts w f ≡ Paired h → first_of matches ts h ≡ f
      → IsLeastOutside w.size (used_by_output none_matched vs ms (lane_at f w) f) (get_or ms f None)
  lane_output f w h at e first =
      let o = origin f w (Paired h) at e in
      let is : is_first f (o_at f).first ≡ true = ap (λ (x : Option ℕ). is_first f x) o.1 ∙ number_same (first_of matches ts h) f first in
      subst (λ (b : Bool). Has none_matched vs ms (lane_at f w) f (get_or ms f None) (source_by None b)) is
      (subst (λ (x : Option ℤ). Has none_matched vs ms (lane_at f w) f (get_or ms f None) (source_by x (is_first f (o_at f).first))) o.0 (in_lane f w at))

  -- each end of a pair has what the first end has found
  pub paired_number : (k : ℕ) (t : Tip) (n : Option ℕ) (g : List ℕ) → slice_get ts k ≡ Some t → slice_get ns k ≡ Some n → source_of matches ts t k ≡ Paired g → n ≡ get_or ms (first_of matches ts g) None
  paired_number k t n g at there e =
      let o = origin k t (Paired g) at e in
      let x : Option ℕ = get_or ms (first_of matches ts g) None in
      let is : settled ms (o_at k).said (o_at k).first (o_at k).free ≡ Some (as_integer x) =
      ap (λ (y : Option ℤ). settled ms y (o_at k).first (o_at k).free) o.0 ∙ ap (λ (y : Option ℕ). settled ms None y (o_at k).free) o.1 in
      let n_is : n ≡ number_below t.size (as_integer x) = subst (λ (y : Option ℤ). Has none_matched us ns (port_at k t) k n (source_by y t.begins)) is (at_port k t n at there) in
      n_is ∙ fits (first_source matches ts t k g e)
    where
      fits : ((f : ℕ) × (w : Tip) × (h : List ℕ) × HasFirst matches ts g f w h) → number_below t.size (as_integer (get_or ms (first_of matches ts g) None)) ≡ get_or ms (first_of matches ts g) None
      fits r =
          let f = r.0 in
          let w = r.1 in
          let p = paired_is matches ts t k g e in
          let m = pair_found matches ts k g p.pair in
          let rel = related g f k w t m.0 r.3.end.here m.1 r.3.end.at at in
          let size : w.size ≡ t.size = lanes.sizes f k w t r.3.end.at at rel.0 rel.1 in
          subst (λ (y : ℕ). number_below t.size (as_integer (get_or ms y None)) ≡ get_or ms y None) (sym r.3.end.first)
          (subst (λ (y : ℕ). number_below y (as_integer (get_or ms f None)) ≡ get_or ms f None) size
          (below_again w.size (has (used_by_output none_matched vs ms (lane_at f w) f)) (get_or ms f None) (lane_output f w r.2 r.3.end.at r.3.source r.3.first)))

  -- ---- what is used before a pair

  plain_lane : (j : ℕ) (s : Tip) → source_of none_matched vs (lane_at j s) j ≡ source_by (o_at j).said (is_first j (o_at j).first)
  plain_lane j s = plain none_matched no_match vs (lane_at j s) j ∙ lane_source (label s.instance s.port) j (o_at j) s

  plain_port : (j : ℕ) (s : Tip) → source_of none_matched us (port_at j s) j ≡ source_by (settled ms (o_at j).said (o_at j).first (o_at j).free) s.begins
  plain_port j s = plain none_matched no_match us (port_at j s) j ∙ port_source ms (o_at j) s

  pub tip_at : (j : ℕ) → j < length ts → slice_get ts j ≡ Some (get_or ts j no_tip)
  tip_at j l = slice_get-get_or ts j no_tip l

  module _ (g : List ℕ) (f : ℕ) (w : Tip) (m_g : Member g (pairs matches ts)) (whole : is_whole matches ts g ≡ true) (end : IsFirst matches ts g f w) where
    ports : (s : Tip) → (is_at_port_of ts g s ≡ true) ↔ ((w.instance ≡ s.instance) × (linked (matches w.instance) w.port s.port ≡ true))
    ports s = ports_to matches ts g f w s (member_contains (pairs matches ts) g m_g) whole end.here end.at

    lane_port : (j : ℕ) (s : Tip) → slice_get ts j ≡ Some s → at_one_port (lane_at j s) (lane_at f w) ≡ true → is_at_port_of ts g s ≡ true
    lane_port j s at e =
        let inst : s.instance ≡ w.instance = same_number _ _ (both_left (s.instance == w.instance) (label s.instance s.port == label w.instance w.port) e) in
        let lane : label s.instance s.port ≡ label w.instance w.port = same_number _ _ (both_right (s.instance == w.instance) (label s.instance s.port == label w.instance w.port) e) in
        (ports s).1 (sym inst, (lanes.same f j w s end.at at (sym inst)).0 (sym lane))

    port_lane : (j : ℕ) (s : Tip) → slice_get ts j ≡ Some s → is_at_port_of ts g s ≡ true → (s.instance ≡ w.instance) × (label s.instance s.port ≡ label w.instance w.port)
    port_lane j s at e =
        let r = (ports s).0 e in
        (sym r.0, sym ((lanes.same f j w s end.at at r.0).1 r.1))

    in_one_lane : (j : ℕ) (s : Tip) → (s.instance ≡ w.instance) × (label s.instance s.port ≡ label w.instance w.port) → at_one_port (lane_at j s) (lane_at f w) ≡ true
    in_one_lane j s r = join (s.instance == w.instance) (label s.instance s.port == label w.instance w.port) (number_same _ _ r.0) (number_same _ _ r.1)

    abbrev pair_test : ℕ → Tip → Bool
    pair_test j s = is_at_port_of ts g s && is_before_pair matches ts g (source_of matches ts s j)

    abbrev lane_test : ℕ → Tip → Bool
    lane_test j s = at_one_port s (lane_at f w) && is_before_output f j (source_of none_matched vs s j)

    to_pair : (m j : ℕ) (s : Tip) → slice_get ts j ≡ Some s → get_or ms j None ≡ Some m → is_at_port_of ts g s ≡ true → is_before_output f j (source_by (o_at j).said (is_first j (o_at j).first)) ≡ true
        → (src : Source) → source_of matches ts s j ≡ src → has (used_by_pair matches ts ns g) m ≡ true
    to_pair m j s at there port before (Said z) is =
        let n = number_at j s at in
        let number : slice_get ns j ≡ Some (Some m) = n ∙ ap (λ (x : Option ℕ). Some x) (said_port j s (get_or ns j None) z at n is ∙ sym (said_lane j s z at is) ∙ there) in
        to_numbers pair_test ts ns m j s at number
        (join (is_at_port_of ts g s) (is_before_pair matches ts g (source_of matches ts s j)) port (ap (λ (x : Source). is_before_pair matches ts g x) is))
    to_pair m j s at there port before (Paired h) is = by_first (first_of matches ts h == j) refl
      where
        o : IsOrigin matches ts (Paired h) (o_at j)
        o = origin j s (Paired h) at is

        by_first : (b : Bool) → (first_of matches ts h == j) ≡ b → has (used_by_pair matches ts ns g) m ≡ true
        by_first true e =
            let first : first_of matches ts h ≡ j = same_number _ _ e in
            let begins : is_first j (o_at j).first ≡ true = ap (λ (x : Option ℕ). is_first j x) o.1 ∙ e in
            let less : nat_lt j f ≡ true =
            subst (λ (b : Bool). is_before_output f j (source_by None b) ≡ true) begins (subst (λ (x : Option ℤ). is_before_output f j (source_by x (is_first j (o_at j).first)) ≡ true) o.0 before) in
            let earlier : nat_lt (first_of matches ts h) (first_of matches ts g) ≡ true = ap (λ (x : ℕ). nat_lt x (first_of matches ts g)) first ∙ ap (λ (x : ℕ). nat_lt j x) end.first ∙ less in
            let n = number_at j s at in
            let number : slice_get ns j ≡ Some (Some m) =
            n ∙ ap (λ (x : Option ℕ). Some x) (paired_number j s (get_or ns j None) h at n is ∙ ap (λ (x : ℕ). get_or ms x None) first ∙ there) in
            to_numbers pair_test ts ns m j s at number
            (join (is_at_port_of ts g s) (is_before_pair matches ts g (source_of matches ts s j)) port (ap (λ (x : Source). is_before_pair matches ts g x) is ∙ earlier))
        by_first false e =
            let ends : is_first j (o_at j).first ≡ false = ap (λ (x : Option ℕ). is_first j x) o.1 ∙ e in
            let never : false ≡ true =
            subst (λ (b : Bool). is_before_output f j (source_by None b) ≡ true) ends (subst (λ (x : Option ℤ). is_before_output f j (source_by x (is_first j (o_at j).first)) ≡ true) o.0 before) in
            cc never
    to_pair m j s at there port before Unpaired is =
        let o = origin j s Unpaired at is in
        let never : false ≡ true =
        subst (λ (x : Option ℕ). is_before_output f j (source_by None (is_first j x)) ≡ true) o.1 (subst (λ (x : Option ℤ). is_before_output f j (source_by x (is_first j (o_at j).first)) ≡ true) o.0 before) in
        cc never
    to_pair m j s at there port before Output is =
        let o = origin j s Output at is in
        let never : false ≡ true =
        subst (λ (x : Option ℕ). is_before_output f j (source_by None (is_first j x)) ≡ true) o.1 (subst (λ (x : Option ℤ). is_before_output f j (source_by x (is_first j (o_at j).first)) ≡ true) o.0 before) in
        cc never
    to_pair m j s at there port before Input is =
        let o = origin j s Input at is in
        let never : false ≡ true =
        subst (λ (x : Option ℕ). is_before_output f j (source_by None (is_first j x)) ≡ true) o.1 (subst (λ (x : Option ℤ). is_before_output f j (source_by x (is_first j (o_at j).first)) ≡ true) o.0 before) in
        cc never

    from_lane : (m : ℕ) → has (used_by_output none_matched vs ms (lane_at f w) f) m ≡ true → has (used_by_pair matches ts ns g) m ≡ true
    from_lane m e =
        let r = of_numbers lane_test vs ms m e in
        let j = r.0 in
        let s = get_or ts j no_tip in
        let within = slice_get_within vs j r.1 r.2 in
        let at = tip_at j (omega (arith, in_lanes.each)) in
        let y_is : r.1 ≡ lane_at j s = tip_same r.1 (lane_at j s) (sym r.2 ∙ in_lanes.of j s at) in
        let test : lane_test j (lane_at j s) ≡ true = subst (λ (y : Tip). lane_test j y ≡ true) y_is r.4 in
        let port = lane_port j s at (both_left (at_one_port (lane_at j s) (lane_at f w)) (is_before_output f j (source_of none_matched vs (lane_at j s) j)) test) in
        let before = sym (ap (λ (x : Source). is_before_output f j x) (plain_lane j s)) ∙ both_right (at_one_port (lane_at j s) (lane_at f w)) (is_before_output f j (source_of none_matched vs (lane_at j s) j)) test in
        let number : get_or ms j None ≡ Some m = some_same (get_or ms j None) (Some m) (sym (lane_number_at j s at) ∙ r.3) in
        to_pair m j s at number port before (source_of matches ts s j) refl

    to_lane_by : (m j : ℕ) (s : Tip) → slice_get ts j ≡ Some s → slice_get ns j ≡ Some (Some m) → is_at_port_of ts g s ≡ true → (src : Source) → source_of matches ts s j ≡ src
        → is_before_pair matches ts g src ≡ true → has (used_by_output none_matched vs ms (lane_at f w) f) m ≡ true
    to_lane_by m j s at there port (Said z) is before =
        let said : (o_at j).said ≡ Some z = origin j s (Said z) at is in
        let number : slice_get ms j ≡ Some (Some m) = lane_number_at j s at ∙ ap (λ (x : Option ℕ). Some x) (said_lane j s z at is ∙ sym (said_port j s (Some m) z at there is)) in
        let counts : is_before_output f j (source_of none_matched vs (lane_at j s) j) ≡ true =
        ap (λ (x : Source). is_before_output f j x) (plain_lane j s ∙ ap (λ (x : Option ℤ). source_by x (is_first j (o_at j).first)) said) in
        to_numbers lane_test vs ms m j (lane_at j s) (in_lanes.of j s at) number
        (join (at_one_port (lane_at j s) (lane_at f w)) (is_before_output f j (source_of none_matched vs (lane_at j s) j)) (in_one_lane j s (port_lane j s at port)) counts)
    to_lane_by m j s at there port (Paired h) is before =
        let r = first_source matches ts s j h is in
        let e = r.0 in
        let x = r.1 in
        let o = origin e x (Paired r.2) r.3.end.at r.3.source in
        let p = paired_is matches ts s j h is in
        let q = pair_found matches ts j h p.pair in
        let rel = related h j e s x q.0 q.1 r.3.end.here at r.3.end.at in
        let lane = port_lane j s at port in
        let same : label s.instance s.port ≡ label x.instance x.port = (lanes.same j e s x at r.3.end.at rel.0).1 rel.1 in
        let begins : is_first e (o_at e).first ≡ true = ap (λ (y : Option ℕ). is_first e y) o.1 ∙ number_same (first_of matches ts r.2) e r.3.first in
        let earlier : nat_lt e f ≡ true = ap (λ (y : ℕ). nat_lt y f) (sym r.3.end.first) ∙ ap (λ (y : ℕ). nat_lt (first_of matches ts h) y) (sym end.first) ∙ before in
        let counts : is_before_output f e (source_of none_matched vs (lane_at e x) e) ≡ true =
        ap (λ (y : Source). is_before_output f e y)
        (plain_lane e x ∙ ap (λ (y : Option ℤ). source_by y (is_first e (o_at e).first)) o.0 ∙ ap (λ (b : Bool). source_by None b) begins) ∙ earlier in
        let number : slice_get ms e ≡ Some (Some m) =
        lane_number_at e x r.3.end.at ∙ ap (λ (y : Option ℕ). Some y) (ap (λ (y : ℕ). get_or ms y None) (sym r.3.end.first) ∙ sym (paired_number j s (Some m) h at there is)) in
        to_numbers lane_test vs ms m e (lane_at e x) (in_lanes.of e x r.3.end.at) number
        (join (at_one_port (lane_at e x) (lane_at f w)) (is_before_output f e (source_of none_matched vs (lane_at e x) e)) (in_one_lane e x (sym rel.0 ∙ lane.0, sym same ∙ lane.1)) counts)
    to_lane_by m j s at there port Unpaired is before = cc before
    to_lane_by m j s at there port Output is before = cc before
    to_lane_by m j s at there port Input is before = cc before

    to_lane : (m : ℕ) → has (used_by_pair matches ts ns g) m ≡ true → has (used_by_output none_matched vs ms (lane_at f w) f) m ≡ true
    to_lane m e =
        let r = of_numbers pair_test ts ns m e in
        to_lane_by m r.0 r.1 r.2 r.3 (both_left (is_at_port_of ts g r.1) (is_before_pair matches ts g (source_of matches ts r.1 r.0)) r.4) (source_of matches ts r.1 r.0) refl
        (both_right (is_at_port_of ts g r.1) (is_before_pair matches ts g (source_of matches ts r.1 r.0)) r.4)

    pair_used : (m : ℕ) → has (used_by_output none_matched vs ms (lane_at f w) f) m ≡ has (used_by_pair matches ts ns g) m
    pair_used m = same_truth _ _ (from_lane m) (to_lane m)

  paired_has : (k : ℕ) (t : Tip) (n : Option ℕ) (g : List ℕ) → slice_get ts k ≡ Some t → slice_get ns k ≡ Some n → source_of matches ts t k ≡ Paired g → IsLeastOutside t.size (used_by_pair matches ts ns g) n
  paired_has k t n g at there e =
      let r = first_source matches ts t k g e in
      let f = r.0 in
      let w = r.1 in
      let p = paired_is matches ts t k g e in
      let m = pair_found matches ts k g p.pair in
      let rel = related g f k w t m.0 r.3.end.here m.1 r.3.end.at at in
      let size : w.size ≡ t.size = lanes.sizes f k w t r.3.end.at at rel.0 rel.1 in
      let number : get_or ms f None ≡ n = ap (λ (y : ℕ). get_or ms y None) (sym r.3.end.first) ∙ sym (paired_number k t n g at there e) in
      subst (λ (x : Option ℕ). IsLeastOutside t.size (used_by_pair matches ts ns g) x) number
      (subst (λ (y : ℕ). IsLeastOutside y (used_by_pair matches ts ns g) (get_or ms f None)) size
      (least_same w.size (has (used_by_output none_matched vs ms (lane_at f w) f)) (has (used_by_pair matches ts ns g)) (pair_used g f w m.0 (whole_of matches ts g p.unwritten) r.3.end) (get_or ms f None)
      (lane_output f w r.2 r.3.end.at r.3.source r.3.first)))

  -- ---- what is used before an output

  module _ (k : ℕ) (t : Tip) (at_k : slice_get ts k ≡ Some t) where
    abbrev output_test : ℕ → Tip → Bool
    output_test j s = at_one_port s t && is_before_output k j (source_of matches ts s j)

    abbrev port_test : ℕ → Tip → Bool
    port_test j s = at_one_port s (port_at k t) && is_before_output k j (source_of none_matched us s j)

    said_source : (j : ℕ) (z : ℤ) (s : Tip) → settled ms (o_at j).said (o_at j).first (o_at j).free ≡ Some z → source_of none_matched us (port_at j s) j ≡ Said z
    said_source j z s e = plain_port j s ∙ ap (λ (x : Option ℤ). source_by x s.begins) e

    -- an end counts in the one where it counts in the other, unless it has no number
    counts_same : (j m : ℕ) (s : Tip) → slice_get ts j ≡ Some s → slice_get ns j ≡ Some (Some m) → (src : Source) → source_of matches ts s j ≡ src
        → is_before_output k j (source_of none_matched us (port_at j s) j) ≡ is_before_output k j src
    counts_same j m s at there (Said z) is =
        ap (λ (x : Source). is_before_output k j x) (said_source j z s (ap (λ (x : Option ℤ). settled ms x (o_at j).first (o_at j).free) (origin j s (Said z) at is)))
    counts_same j m s at there (Paired h) is =
        let o = origin j s (Paired h) at is in
        ap (λ (x : Source). is_before_output k j x)
        (said_source j (as_integer (get_or ms (first_of matches ts h) None)) s
        (ap (λ (y : Option ℤ). settled ms y (o_at j).first (o_at j).free) o.0 ∙ ap (λ (y : Option ℕ). settled ms None y (o_at j).free) o.1))
    counts_same j m s at there Unpaired is = cc (unpaired_port j s (Some m) at there is)
    counts_same j m s at there Output is =
        let o = origin j s Output at is in
        ap (λ (x : Source). is_before_output k j x) (plain_port j s ∙ open_source j s o ∙ ap (λ (b : Bool). source_by None b) (output_begins matches ts s j is))
      where
        open_source : (j : ℕ) (s : Tip) → (((o_at j).said ≡ None) × ((o_at j).first ≡ None) × ((o_at j).free ≡ true))
            → source_by (settled ms (o_at j).said (o_at j).first (o_at j).free) s.begins ≡ source_by None s.begins
        open_source j s o =
            ap (λ (x : Option ℤ). source_by x s.begins)
            (ap (λ (x : Option ℤ). settled ms x (o_at j).first (o_at j).free) o.0 ∙ ap (λ (x : Option ℕ). settled ms None x (o_at j).free) o.1 ∙ ap (λ (x : Bool). settled ms None None x) o.2)
    counts_same j m s at there Input is =
        let o = origin j s Input at is in
        ap (λ (x : Source). is_before_output k j x) (plain_port j s ∙ open_source j s o ∙ ap (λ (b : Bool). source_by None b) (input_ends matches ts s j is))
      where
        open_source : (j : ℕ) (s : Tip) → (((o_at j).said ≡ None) × ((o_at j).first ≡ None) × ((o_at j).free ≡ true))
            → source_by (settled ms (o_at j).said (o_at j).first (o_at j).free) s.begins ≡ source_by None s.begins
        open_source j s o =
            ap (λ (x : Option ℤ). source_by x s.begins)
            (ap (λ (x : Option ℤ). settled ms x (o_at j).first (o_at j).free) o.0 ∙ ap (λ (x : Option ℕ). settled ms None x (o_at j).free) o.1 ∙ ap (λ (x : Bool). settled ms None None x) o.2)

    from_port : (m : ℕ) → has (used_by_output none_matched us ns (port_at k t) k) m ≡ true → has (used_by_output matches ts ns t k) m ≡ true
    from_port m e =
        let r = of_numbers port_test us ns m e in
        let j = r.0 in
        let s = get_or ts j no_tip in
        let within = slice_get_within us j r.1 r.2 in
        let at = tip_at j (omega (arith, at_ports.each)) in
        let y_is : r.1 ≡ port_at j s = tip_same r.1 (port_at j s) (sym r.2 ∙ at_ports.of j s at) in
        let test : port_test j (port_at j s) ≡ true = subst (λ (y : Tip). port_test j y ≡ true) y_is r.4 in
        let port : at_one_port s t ≡ true = both_left (at_one_port s t) (is_before_output k j (source_of none_matched us (port_at j s) j)) test in
        let before = sym (counts_same j m s at r.3 (source_of matches ts s j) refl) ∙ both_right (at_one_port s t) (is_before_output k j (source_of none_matched us (port_at j s) j)) test in
        to_numbers output_test ts ns m j s at r.3 (join (at_one_port s t) (is_before_output k j (source_of matches ts s j)) port before)

    to_port : (m : ℕ) → has (used_by_output matches ts ns t k) m ≡ true → has (used_by_output none_matched us ns (port_at k t) k) m ≡ true
    to_port m e =
        let r = of_numbers output_test ts ns m e in
        let j = r.0 in
        let s = r.1 in
        let port : at_one_port s t ≡ true = both_left (at_one_port s t) (is_before_output k j (source_of matches ts s j)) r.4 in
        let before = counts_same j m s r.2 r.3 (source_of matches ts s j) refl ∙ both_right (at_one_port s t) (is_before_output k j (source_of matches ts s j)) r.4 in
        to_numbers port_test us ns m j (port_at j s) (at_ports.of j s r.2) r.3 (join (at_one_port s t) (is_before_output k j (source_of none_matched us (port_at j s) j)) port before)

    output_used : (m : ℕ) → has (used_by_output none_matched us ns (port_at k t) k) m ≡ has (used_by_output matches ts ns t k) m
    output_used m = same_truth _ _ (from_port m) (to_port m)

  has_by : (k : ℕ) (t : Tip) (n : Option ℕ) → slice_get ts k ≡ Some t → slice_get ns k ≡ Some n → (src : Source) → source_of matches ts t k ≡ src → Has matches ts ns t k n src
  has_by k t n at there (Said z) is = said_port k t n z at there is
  has_by k t n at there (Paired g) is = paired_has k t n g at there is
  has_by k t n at there Unpaired is = unpaired_port k t n at there is
  has_by k t n at there Output is =
      least_same t.size (has (used_by_output none_matched us ns (port_at k t) k)) (has (used_by_output matches ts ns t k)) (output_used k t at) n
      (subst (λ (b : Bool). Has none_matched us ns (port_at k t) k n (cond b Output Input)) (output_begins matches ts t k is) (open_port k t n at there (origin k t Output at is)))
  has_by k t n at there Input is =
      subst (λ (b : Bool). Has none_matched us ns (port_at k t) k n (cond b Output Input)) (input_ends matches ts t k is) (open_port k t n at there (origin k t Input at is))

  pub by_walks : Numbered matches ts ns
  by_walks = record { each = numbers_each; has = λ k t n at there. has_by k t n at there (source_of matches ts t k) refl }
