-- That no two connections begin at one port with one number.
use Rattle.std.proofs.Common.{◌≡◌, ◌∙◌, ap, refl, sym, subst, ℕ, zero, suc, ◌+◌, ◌<◌, ◌⊎◌, inl, inr, Bool, true, false, ◌&&◌, ◌==◌, nat_lt, cond, List, [], ◌∷◌, Option, None, Some, slice_get, arith}
use Rattle.std.specs.Prelude.{ℤ, pos, negsuc}
use Rattle.std.proofs.lemmas.Bool.Decides.{nat_tests}
use Rattle.fp_base.specs.declared.rule.Rule.TheVariants.{OutputNumberTwice}
use Rattle.fp_base.specs.Least.{broken_at, IsUnbroken}
use Rattle.fp_base.proofs.Bools.{join, or_left, or_right, not_both}
use Rattle.fp_base.proofs.Options.{same_some}
use Rattle.fp_base.proofs.Numbers.{same_number, number_same}
use Rattle.fp_tables.specs.Instances.{beginnings_differ}
use Rattle.fp_tables.specs.Lookup.{same_end}
use Rattle.fp_tables.specs.declared.topology.End.{End}
use Rattle.fp_tables.specs.declared.topology.Wire.{Wire}
use Rattle.fp_tables.specs.declared.topology.Topology.{Topology}
use Rattle.fp_tables.specs.declared.model.Model.{Model}
use Rattle.fp_tables.proofs.Indexed.{mapped_apart}
use Rattle.fp_numbering.specs.declared.tips.Tip.{Tip}
use Rattle.fp_numbering.specs.Answers.{numbers_of, AreNumbered}
use Rattle.fp_numbering.specs.Broken.{Breaks}
use Rattle.fp_numbering.specs.Ends.{matches_of, from_tip, tips_of, at_one_port, number_below}
use Rattle.fp_numbering.specs.Keys.{linked, is_of_key}
use Rattle.fp_numbering.specs.Numbers.{numbers_from, Source, source_of, is_at_port_of, is_before_pair, is_before_output, used_by_pair, used_by_output, Has, Numbered}
use Rattle.fp_numbering.specs.Numbers.Source.{Said, Paired, Unpaired, Output, Input}
use Rattle.fp_numbering.specs.Pairs.{has, are_alike, is_at, pairs, said_of, alike_at, is_whole, first_of}
use Rattle.fp_numbering.proofs.Unique.{both_left, both_right}
use Rattle.fp_numbering.proofs.Joining.{Member}
use Rattle.fp_numbering.proofs.Keying.{at_is, one, one_only, one_key, all_related, class_whole, linked_same, ports_to}
use Rattle.fp_numbering.proofs.Sourcing.{member_contains, input_ends, paired_is, pair_found, whole_of, same_ends, first_end, said_by, said_source}
use Rattle.fp_numbering.proofs.Placing.{beside, place, places_rise, from_tip_at, numbered, from_number_at}

-- ---- what is used

used_there : (test : ℕ → Tip → Bool) (k : ℕ) (ts : List Tip) (ns : List (Option ℕ)) (i d : ℕ) (t : Tip) (n : ℕ) → d ≡ k + i → slice_get ts i ≡ Some t → slice_get ns i ≡ Some (Some n) → test d t ≡ true
    → has (numbers_from k test ts ns) n ≡ true
used_there test k [] ns i d t n is at there h = absurd (cc)
used_there test k (u ∷ ts) [] i d t n is at there h = absurd (cc)
used_there test k (u ∷ ts) (m ∷ ns) zero d t n is at there h =
    let same : u ≡ t = cc in
    let number : m ≡ Some n = same_some there in
    let index : d ≡ k = omega arith in
    let passes : test k u ≡ true = ap (λ (x : ℕ). test x u) (sym index) ∙ ap (λ (x : Tip). test d x) same ∙ h in
    subst (λ (x : Option ℕ). has (numbers_from k test (u ∷ ts) (x ∷ ns)) n ≡ true) (sym number)
    (ap (λ (b : Bool). has (cond b (n ∷ numbers_from (suc k) test ts ns) (numbers_from (suc k) test ts ns)) n) passes
    ∙ or_left (n == n) (has (numbers_from (suc k) test ts ns) n) (number_same n n refl))
used_there test k (u ∷ ts) (None ∷ ns) (suc i) d t n is at there h = used_there test (suc k) ts ns i d t n (omega arith) at there h
used_there test k (u ∷ ts) (Some m ∷ ns) (suc i) d t n is at there h = part (test k u) (used_there test (suc k) ts ns i d t n (omega arith) at there h)
  where
    part : (b : Bool) → has (numbers_from (suc k) test ts ns) n ≡ true → has (cond b (m ∷ numbers_from (suc k) test ts ns) (numbers_from (suc k) test ts ns)) n ≡ true
    part true r = or_right (m == n) (has (numbers_from (suc k) test ts ns) n) r
    part false r = r

chosen : (b : Bool) (n k : ℕ) → ◌≡◌ {A = Option ℕ} (Some n) (cond b (Some k) None) → n ≡ k
chosen true n k e = same_some e
chosen false n k e = absurd (cc)

-- a number is what is said of it
number_said : (size n : ℕ) (z : ℤ) → Some n ≡ number_below size z → z ≡ pos n
number_said size n (pos k) e = ap (λ (x : ℕ). pos x) (sym (chosen (nat_lt k size) n k e))
number_said size n (negsuc k) e = absurd (cc)

order : (i j : ℕ) → (i < j) ⊎ ((j < i) ⊎ (i ≡ j))
order i j = grind arith

one_port_back : (s t : Tip) → at_one_port s t ≡ true → at_one_port t s ≡ true
one_port_back s t h =
    let i = same_number s.instance t.instance (both_left (s.instance == t.instance) (s.port == t.port) h) in
    let p = same_number s.port t.port (both_right (s.instance == t.instance) (s.port == t.port) h) in
    join (t.instance == s.instance) (t.port == s.port) (number_same t.instance s.instance (sym i)) (number_same t.port s.port (sym p))

module _ (matches : ℕ → List (ℕ × ℕ)) (ts : List Tip) where
  -- ---- two ends of one pair

  count_at : (s : Tip) (q : ℕ × ℕ) → (s.port ≡ q.0) ⊎ (s.port ≡ q.1) → (alike_at matches ts s q.0 == 1) && (alike_at matches ts s q.1 == 1) ≡ true → alike_at matches ts s s.port ≡ 1
  count_at s q (inl e) h = ap (λ (p : ℕ). alike_at matches ts s p) e ∙ same_number (alike_at matches ts s q.0) 1 (both_left (alike_at matches ts s q.0 == 1) (alike_at matches ts s q.1 == 1) h)
  count_at s q (inr e) h = ap (λ (p : ℕ). alike_at matches ts s p) e ∙ same_number (alike_at matches ts s q.1) 1 (both_right (alike_at matches ts s q.0 == 1) (alike_at matches ts s q.1 == 1) h)

  -- a whole pair has one end at a port
  one_at_port : (g : List ℕ) (i j : ℕ) (s t : Tip) → Member g (pairs matches ts) → is_whole matches ts g ≡ true → has g i ≡ true → has g j ≡ true → slice_get ts i ≡ Some s → slice_get ts j ≡ Some t
      → s.port ≡ t.port → i ≡ j
  one_at_port g i j s t m w a b at there same =
      let c = member_contains (pairs matches ts) g m in
      let self = all_related matches ts g m i i a a in
      let is : self.0 ≡ s = one matches ts i self.0 s self.2 at in
      let q = self.6.0 in
      let matched : Member q (matches s.instance) = subst (λ (x : Tip). Member q (matches x.instance)) is self.6.1 in
      let here : is_at q s ≡ true = subst (λ (x : Tip). is_at q x ≡ true) is self.6.2 in
      let own : is_of_key matches s s ≡ true = one_key matches ts g i i s s c a a at at in
      let other : is_of_key matches s t ≡ true = one_key matches ts g i j s t c a b at there in
      let counts = (class_whole matches ts g i s c a at).0 w i s q at own (member_contains (matches s.instance) q matched) here in
      let count = count_at s q (at_is q s here) counts in
      one_only (λ (x : Tip). are_alike s x && x.port == s.port) ts i j s t count at
      (join (are_alike s s) (s.port == s.port) (both_left (are_alike s s) (linked (matches s.instance) s.port s.port) own) (number_same s.port s.port refl)) there
      (join (are_alike s t) (t.port == s.port) (both_left (are_alike s t) (linked (matches s.instance) s.port t.port) other) (number_same t.port s.port (sym same)))

  -- pairs without a number whose first end is one have their ends in common
  one_first : (g h : List ℕ) (i j : ℕ) (s t : Tip) → source_of matches ts s i ≡ Paired g → source_of matches ts t j ≡ Paired h → slice_get ts i ≡ Some s → slice_get ts j ≡ Some t → s.port ≡ t.port
      → first_of matches ts g ≡ first_of matches ts h → i ≡ j
  one_first g h i j s t a b at there same firsts =
      let p = paired_is matches ts s i g a in
      let q = paired_is matches ts t j h b in
      let mg = pair_found matches ts i g p.pair in
      let mh = pair_found matches ts j h q.pair in
      let wg = whole_of matches ts g p.unwritten in
      let wh = whole_of matches ts h q.unwritten in
      let fg = first_end matches ts g i mg.0 wg mg.1 in
      let fh = first_end matches ts h j mh.0 wh mh.1 in
      let f : fh.0 ≡ fg.0 = sym fh.2.first ∙ sym firsts ∙ fg.2.first in
      let common : has h fg.0 ≡ true = subst (λ (x : ℕ). has h x ≡ true) f fh.2.here in
      let inside : has g j ≡ true = same_ends matches ts g h fg.0 mg.0 mh.0 wg wh fg.2.here common j ∙ mh.1 in
      one_at_port g i j s t mg.0 wg mg.1 inside at there same

  -- an end at the port of a pair's end is at one of the pair's ports
  at_port : (g : List ℕ) (i : ℕ) (s t : Tip) → source_of matches ts s i ≡ Paired g → slice_get ts i ≡ Some s → at_one_port s t ≡ true → is_at_port_of ts g t ≡ true
  at_port g i s t e at h =
      let p = paired_is matches ts s i g e in
      let f = pair_found matches ts i g p.pair in
      let port = same_number s.port t.port (both_right (s.instance == t.instance) (s.port == t.port) h) in
      (ports_to matches ts g i s t (member_contains (pairs matches ts) g f.0) (whole_of matches ts g p.unwritten) f.1 at).1
      (same_number s.instance t.instance (both_left (s.instance == t.instance) (s.port == t.port) h), subst (λ (x : ℕ). linked (matches s.instance) s.port x ≡ true) port (linked_same (matches s.instance) s.port))

  module _ (ns : List (Option ℕ)) (numbered : Numbered matches ts ns) (unbroken : IsUnbroken (Breaks matches ts)) where
    -- of an end that comes before an end of a pair, at its port
    before_pair : (g : List ℕ) (i j n : ℕ) (s t : Tip) (x : Source) → slice_get ts i ≡ Some s → slice_get ts j ≡ Some t → slice_get ns i ≡ Some (Some n) → at_one_port t s ≡ true
        → source_of matches ts s i ≡ x → source_of matches ts t j ≡ Paired g → is_before_pair matches ts g x ≡ true → Has matches ts ns t j (Some n) (Paired g) → ⊥
    before_pair g i j n s t x at there number port a b before h =
        let early : is_before_pair matches ts g (source_of matches ts s i) ≡ true = ap (λ (y : Source). is_before_pair matches ts g y) a ∙ before in
        not_both
        (used_there (λ k u. is_at_port_of ts g u && is_before_pair matches ts g (source_of matches ts u k)) 0 ts ns i i s n (omega arith) at number
        (join (is_at_port_of ts g s) (is_before_pair matches ts g (source_of matches ts s i)) (at_port g j t s b there port) early))
        h.1

    -- of an end that comes before an output, at its port
    before_output : (i j n : ℕ) (s t : Tip) (x : Source) → slice_get ts i ≡ Some s → slice_get ns i ≡ Some (Some n) → at_one_port s t ≡ true → source_of matches ts s i ≡ x → is_before_output j i x ≡ true
        → Has matches ts ns t j (Some n) Output → ⊥
    before_output i j n s t x at number port a before h =
        let early : is_before_output j i (source_of matches ts s i) ≡ true = ap (λ (y : Source). is_before_output j i y) a ∙ before in
        not_both
        (used_there (λ k u. at_one_port u t && is_before_output j k (source_of matches ts u k)) 0 ts ns i i s n (omega arith) at number
        (join (at_one_port s t) (is_before_output j i (source_of matches ts s i)) port early))
        h.1

    -- no two numbers are said at one output
    said_once : (i j n : ℕ) (s t : Tip) (y z : ℤ) → i < j → slice_get ts i ≡ Some s → slice_get ts j ≡ Some t → s.begins ≡ true → t.begins ≡ true → at_one_port s t ≡ true
        → source_of matches ts s i ≡ Said y → source_of matches ts t j ≡ Said z → Some n ≡ number_below s.size y → Some n ≡ number_below t.size z → ⊥
    said_once i j n s t y z l at there begins begins_too port a b h g =
        let first : said_of matches ts s i ≡ Some z =
        said_source matches ts s i ∙ ap (λ (x : Source). said_by matches ts x) a ∙ ap (λ (x : ℤ). Some x) (number_said s.size n y h ∙ sym (number_said t.size n z g)) in
        let second : said_of matches ts t j ≡ Some z = said_source matches ts t j ∙ ap (λ (x : Source). said_by matches ts x) b in
        unbroken (broken_at OutputNumberTwice t.at) (j, t, there, inr (inl (i, s, z, l, at, begins, begins_too, port, first, second, refl)))

    module _ (i j n : ℕ) (s t : Tip) (l : i < j) (at : slice_get ts i ≡ Some s) (there : slice_get ts j ≡ Some t) (begins : s.begins ≡ true) (begins_too : t.begins ≡ true) (port : at_one_port s t ≡ true)
        (number : slice_get ns i ≡ Some (Some n)) (number_too : slice_get ns j ≡ Some (Some n)) where
      begins_not : (u : Tip) (k : ℕ) → u.begins ≡ true → source_of matches ts u k ≡ Input → ⊥
      begins_not u k e is = not_both e (input_ends matches ts u k is)

      two_pairs : (g h : List ℕ) → source_of matches ts s i ≡ Paired g → source_of matches ts t j ≡ Paired h → Has matches ts ns s i (Some n) (Paired g) → Has matches ts ns t j (Some n) (Paired h) → ⊥
      two_pairs g h a b x y =
          elim (order (first_of matches ts g) (first_of matches ts h)) [
            | inl less ↦
                let early : nat_lt (first_of matches ts g) (first_of matches ts h) ≡ true = grind (arith, nat_tests) in
                before_pair h i j n s t (Paired g) at there number (one_port_back s t port) a b early y
            | inr r ↦
                elim r [
                  | inl less ↦
                      let early : nat_lt (first_of matches ts h) (first_of matches ts g) ≡ true = grind (arith, nat_tests) in
                      before_pair g j i n t s (Paired h) there at number_too port b a early x
                  | inr same ↦
                      let index : i ≡ j = one_first g h i j s t a b at there (same_number s.port t.port (both_right (s.instance == t.instance) (s.port == t.port) port)) same in
                      absurd (omega arith)
                ]
          ]

      clash : (x y : Source) → source_of matches ts s i ≡ x → source_of matches ts t j ≡ y → Has matches ts ns s i (Some n) x → Has matches ts ns t j (Some n) y → ⊥
      clash (Said y) (Said z) a b h g = said_once i j n s t y z l at there begins begins_too port a b h g
      clash (Said y) (Paired q) a b h g = before_pair q i j n s t (Said y) at there number (one_port_back s t port) a b refl g
      clash (Said y) Output a b h g = before_output i j n s t (Said y) at number port a refl g
      clash (Paired p) (Said z) a b h g = before_pair p j i n t s (Said z) there at number_too port b a refl h
      clash (Paired p) (Paired q) a b h g = two_pairs p q a b h g
      clash (Paired p) Output a b h g = before_output i j n s t (Paired p) at number port a refl g
      clash Output (Said z) a b h g = before_output j i n t s (Said z) there number_too (one_port_back s t port) b refl h
      clash Output (Paired q) a b h g = before_output j i n t s (Paired q) there number_too (one_port_back s t port) b refl h
      clash Output Output a b h g =
          let early : nat_lt i j ≡ true = grind (arith, nat_tests) in
          before_output i j n s t Output at number port a early g
      clash Unpaired y a b h g = cc
      clash Input y a b h g = absurd (begins_not s i begins a)
      clash x Unpaired a b h g = cc
      clash x Input a b h g = absurd (begins_not t j begins_too b)

      pub no_clash : ⊥
      no_clash = clash (source_of matches ts s i) (source_of matches ts t j) refl refl (numbered.has i s (Some n) at number) (numbered.has j t (Some n) there number_too)

-- ---- wires

pub record IsSame (e f : End) : Type 0 where
  pub instance : e.instance ≡ f.instance
  pub port : e.port ≡ f.port
  pub number : e.number ≡ f.number

same_is : (e f : End) → same_end e f ≡ true → IsSame e f
same_is e f h =
    let front : (e.instance == f.instance) && (e.port == f.port) ≡ true = both_left ((e.instance == f.instance) && (e.port == f.port)) (e.number == f.number) h in
    record {
      instance = same_number e.instance f.instance (both_left (e.instance == f.instance) (e.port == f.port) front);
      port = same_number e.port f.port (both_right (e.instance == f.instance) (e.port == f.port) front);
      number = same_number e.number f.number (both_right ((e.instance == f.instance) && (e.port == f.port)) (e.number == f.number) h);
    }

module _ (m : Model) (o : Topology) (are : AreNumbered m o.links o.wires) where
  not_same : (j k : ℕ) (v w : Wire) → j < k → slice_get o.wires j ≡ Some v → slice_get o.wires k ≡ Some w → same_end v.from w.from ≡ true → ⊥
  not_same j k v w l at there h =
      let same = same_is v.from w.from h in
      let a = beside o.links o.wires are.joined j v at in
      let b = beside o.links o.wires are.joined k w there in
      let instance : a.0.from ≡ b.0.from = sym a.2.from ∙ same.instance ∙ b.2.from in
      let port : a.0.from_port ≡ b.0.from_port = sym a.2.from_port ∙ same.port ∙ b.2.from_port in
      let number : slice_get (numbers_of o.wires) (place j) ≡ Some (Some w.from.number) = from_number_at o.wires j v at ∙ ap (λ (n : ℕ). numbered n) same.number in
      no_clash (matches_of m) (tips_of m o.links) (numbers_of o.wires) are.numbered are.unbroken (place j) (place k) w.from.number (from_tip m a.0) (from_tip m b.0) (places_rise j k l)
      (from_tip_at m o.links j a.0 a.1) (from_tip_at m o.links k b.0 b.1) refl refl
      (join (a.0.from == b.0.from) (a.0.from_port == b.0.from_port) (number_same a.0.from b.0.from instance) (number_same a.0.from_port b.0.from_port port)) number
      (from_number_at o.wires k w there)

  pub all_differ : beginnings_differ m o ≡ true
  all_differ = mapped_apart same_end (λ (w : Wire). w.from) o.wires not_same
