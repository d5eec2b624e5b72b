-- Where no component has matches, what the walk gives is the numbering.
use Rattle.std.proofs.Common.{◌≡◌, ◌∙◌, ap, refl, sym, subst, ℕ, suc, ◌+◌, ◌<◌, ◌≤◌, Bool, true, false, ◌&&◌, cond, List, [], ◌∷◌, ◌++◌, length, take, drop, map, Option, None, Some, slice_get, get_or, arith, length-take, length-drop}
use Rattle.std.specs.Prelude.{ℤ, flat_map, filter}
use Rattle.std.specs.List.{cons_option, find}
use Rattle.std.specs.Option.{option_and_then}
use Rattle.std.proofs.lemmas.Bool.Decides.{nat_tests}
use Rattle.std.proofs.lemmas.List.{take-append-drop, get_or-drop}
use Rattle.std.proofs.lemmas.Option.{slice_get-get_or, slice_get_within, get_or_from_slice_get}
use Rattle.fp_numbering.specs.declared.tips.Tip.{Tip}
use Rattle.fp_numbering.specs.Ends.{number_below, written_number, at_one_port}
use Rattle.fp_numbering.specs.Pairs.{has, is_at, joined, paired_by, pairs_at, pairs, pair_of}
use Rattle.fp_numbering.specs.Numbers.{IsLeastOutside, numbers_from, Source, source_of, is_before_output, used_by_output, Has, Numbered}
use Rattle.fp_numbering.specs.Numbers.Source.{Said, Paired, Unpaired, Output, Input}
use Rattle.fp_numbering.specs.Walks.{source_by, plain_source, counts, said_number, said_at, is_at_port, used_before, port_key, HasPlainly, AreAllGiven}
use Rattle.fp_numbering.proofs.Walking.{no_tip}
use Rattle.fp_numbering.proofs.Giving.{numbers_append, numbers_front}

-- ---- tests that agree

pub numbers_tests : (test other : ℕ → Tip → Bool) (i : ℕ) (xs : List Tip) (ns : List (Option ℕ)) → ((j : ℕ) (t : Tip) → i ≤ j → j < i + length xs → test j t ≡ other j t)
    → numbers_from i test xs ns ≡ numbers_from i other xs ns
numbers_tests test other i [] ns h = refl
numbers_tests test other i (x ∷ xs) [] h = refl
numbers_tests test other i (x ∷ xs) (None ∷ ns) h = numbers_tests test other (suc i) xs ns (λ j t a b. h j t (omega arith) (omega arith))
numbers_tests test other i (x ∷ xs) (Some n ∷ ns) h =
    ap (λ (b : Bool). cond b (n ∷ numbers_from (suc i) test xs ns) (numbers_from (suc i) test xs ns)) (h i x (omega arith) (omega arith))
    ∙ ap (λ (rest : List ℕ). cond (other i x) (n ∷ rest) rest) (numbers_tests test other (suc i) xs ns (λ j t a b. h j t (omega arith) (omega arith)))

abbrev head : Bool → Option ℕ → List ℕ → List ℕ
head b None rest = rest
head b (Some n) rest = cond b (n ∷ rest) rest

one_more : (test : ℕ → Tip → Bool) (i : ℕ) (x : Tip) (xs : List Tip) (n : Option ℕ) (ns : List (Option ℕ)) → numbers_from i test (x ∷ xs) (n ∷ ns) ≡ head (test i x) n (numbers_from (suc i) test xs ns)
one_more test i x xs None ns = refl
one_more test i x xs (Some n) ns = refl

-- of an end that comes later, what is written counts alone
same_head : (b c : Bool) (n said : Option ℕ) (rest : List ℕ) → (c ≡ true → n ≡ said) → (c ≡ false → said ≡ None) → head (b && c) n rest ≡ cons_option (cond b said None) rest
same_head true true n said rest h g = ap (λ (o : Option ℕ). head true o rest) (h refl) ∙ go said
  where
    go : (o : Option ℕ) → head true o rest ≡ cons_option o rest
    go None = refl
    go (Some k) = refl
same_head true false n said rest h g = go n ∙ ap (λ (o : Option ℕ). cons_option o rest) (sym (g refl))
  where
    go : (o : Option ℕ) → head false o rest ≡ rest
    go None = refl
    go (Some k) = refl
same_head false c n said rest h g = go n
  where
    go : (o : Option ℕ) → head false o rest ≡ rest
    go None = refl
    go (Some k) = refl

abbrev SaidHas : Tip → Option ℕ → Type 0
SaidHas u m = (z : ℤ) → written_number u ≡ Some z → m ≡ number_below u.size z

module _ (k : ℕ) (q : ℕ × ℕ × ℕ) where
  abbrev before_it : ℕ → Tip → Bool
  before_it j s = is_at_port q s && is_before_output k j (plain_source s)

  written_counts : (u : Tip) (j : ℕ) (m : Option ℕ) (o : Option ℤ) (b : Bool) → k ≤ j → written_number u ≡ o → SaidHas u m
      → (is_before_output k j (source_by o b) ≡ true → m ≡ option_and_then (number_below u.size) o) × (is_before_output k j (source_by o b) ≡ false → option_and_then (number_below u.size) o ≡ None)
  written_counts u j m (Some z) b l is h = (λ e. h z is, λ e. cc)
  written_counts u j m None true l is h = (λ e. absurd (grind (arith, nat_tests)), λ e. refl)
  written_counts u j m None false l is h = (λ e. cc, λ e. refl)

  behind : (i : ℕ) (us : List Tip) (ms : List (Option ℕ)) → k ≤ i → length us ≡ length ms → ((j : ℕ) (u : Tip) (m : Option ℕ) → slice_get us j ≡ Some u → slice_get ms j ≡ Some m → SaidHas u m)
      → numbers_from i before_it us ms ≡ said_at q us
  behind i [] ms l e h = refl
  behind i (u ∷ us) [] l e h = absurd (omega arith)
  behind i (u ∷ us) (m ∷ ms) l e h =
      let both = written_counts u i m (written_number u) u.begins l refl (h 0 u m refl refl) in
      one_more before_it i u us m ms
      ∙ same_head (is_at_port q u) (is_before_output k i (plain_source u)) m (said_number u) (numbers_from (suc i) before_it us ms) both.0 both.1
      ∙ ap (λ (rest : List ℕ). cons_option (cond (is_at_port q u) (said_number u) None) rest) (behind (suc i) us ms (omega arith) (omega arith) (λ j x y a b. h (suc j) x y a b))

  counts_before : (j : ℕ) (o : Option ℤ) (b : Bool) → j < k → is_before_output k j (source_by o b) ≡ counts (source_by o b)
  counts_before j (Some z) b l = refl
  counts_before j None true l = grind (arith, nat_tests)
  counts_before j None false l = refl

-- ---- no matches

find_none : {A : Type 0} (test : A → Bool) (xs : List A) → xs ≡ [] → find test xs ≡ None
find_none test [] e = refl
find_none test (x ∷ xs) e = cc

module _ (matches : ℕ → List (ℕ × ℕ)) (none : (i : ℕ) → matches i ≡ []) (ts : List Tip) where
  no_pairs_at : (t : Tip) → pairs_at matches ts t ≡ []
  no_pairs_at t = ap (λ (ms : List (ℕ × ℕ)). cond t.unmatched [] (map (paired_by matches ts t) (filter (λ q. is_at q t) ms))) (none t.instance) ∙ go t.unmatched
    where
      go : (b : Bool) → ◌≡◌ {A = List (List ℕ)} (cond b [] []) []
      go true = refl
      go false = refl

  no_pairs_in : (us : List Tip) → flat_map (pairs_at matches ts) us ≡ []
  no_pairs_in [] = refl
  no_pairs_in (u ∷ us) = ap (λ (ps : List (List ℕ)). ps ++ flat_map (pairs_at matches ts) us) (no_pairs_at u) ∙ no_pairs_in us

  pub no_pairs : pairs matches ts ≡ []
  unfolding pairs
  no_pairs = ap (λ (ps : List (List ℕ)). joined ps) (no_pairs_in ts)

  pub no_pair_of : (k : ℕ) → pair_of matches ts k ≡ None
  unfolding pair_of
  no_pair_of k = find_none (λ (g : List ℕ). has g k) (pairs matches ts) no_pairs

  pub plain : (t : Tip) (k : ℕ) → source_of matches ts t k ≡ plain_source t
  plain t k = go (written_number t) refl
    where
      go : (o : Option ℤ) → written_number t ≡ o → source_of matches ts t k ≡ plain_source t
      go (Some z) e = rw e refl
      go None e = rw (e, no_pair_of k, no_pair_of k) refl

  module _ (ns : List (Option ℕ)) (all : AreAllGiven ts ns) where
    has_said : (k : ℕ) (u : Tip) (m : Option ℕ) → slice_get ts k ≡ Some u → get_or ns k None ≡ m → SaidHas u m
    has_said k u m at there z is =
        let given : HasPlainly ts ns u k m (source_by (written_number u) u.begins) = subst (λ (o : Option ℕ). HasPlainly ts ns u k o (plain_source u)) there (all.given k u at) in
        subst (λ (o : Option ℤ). HasPlainly ts ns u k m (source_by o u.begins)) is given

    slice_get_dropped : {A : Type 0} (k j : ℕ) (xs : List A) (d x : A) → slice_get (drop k xs) j ≡ Some x → (k + j < length xs) × (get_or xs (k + j) d ≡ x)
    slice_get_dropped k j xs d x at =
        let within = slice_get_within (drop k xs) j x at in
        let size = length-drop k xs in
        (omega arith, sym (get_or-drop k xs j d) ∙ get_or_from_slice_get (drop k xs) j x d at)

    used_same : (t : Tip) (k : ℕ) → k < length ts → used_by_output matches ts ns t k ≡ used_before ts ns k (port_key t)
    used_same t k l =
        let it : ℕ → Tip → Bool = before_it k (port_key t) in
        numbers_tests (λ j s. at_one_port s t && is_before_output k j (source_of matches ts s j)) it 0 ts ns
        (λ j s a b. ap (λ (x : Source). at_one_port s t && is_before_output k j x) (plain s j))
        ∙ ap (λ (us : List Tip). numbers_from 0 it us ns) (sym (take-append-drop k ts))
        ∙ ap (λ (ms : List (Option ℕ)). numbers_from 0 it (take k ts ++ drop k ts) ms) (sym (take-append-drop k ns))
        ∙ numbers_append it 0 k (take k ts) (drop k ts) (take k ns) (drop k ns) (omega (arith, length-take {A = Tip}, length-take {A = Option ℕ}, all.each)) (omega (arith, length-take {A = Tip}))
        ∙ ap (λ (xs : List ℕ). xs ++ numbers_from k it (drop k ts) (drop k ns))
        (numbers_tests it (λ j s. is_at_port (port_key t) s && counts (plain_source s)) 0 (take k ts) (take k ns)
        (λ j s a b. ap (λ (x : Bool). is_at_port (port_key t) s && x) (counts_before k (port_key t) j (written_number s) s.begins (omega (arith, length-take {A = Tip}))))
        ∙ sym (numbers_front (λ j s. is_at_port (port_key t) s && counts (plain_source s)) 0 (take k ts) (take k ns) (drop k ns) (omega (arith, length-take {A = Tip}, length-take {A = Option ℕ}, all.each)))
        ∙ ap (λ (ms : List (Option ℕ)). numbers_from 0 (λ j s. is_at_port (port_key t) s && counts (plain_source s)) (take k ts) ms) (take-append-drop k ns))
        ∙ ap (λ (xs : List ℕ). numbers_from 0 (λ j s. is_at_port (port_key t) s && counts (plain_source s)) (take k ts) ns ++ xs)
        (behind k (port_key t) k (drop k ts) (drop k ns) (omega arith) (omega (arith, length-drop {A = Tip}, length-drop {A = Option ℕ}, all.each))
        (λ j u m at there.
        let a = slice_get_dropped k j ts no_tip u at in
        let b = slice_get_dropped k j ns None m there in
        has_said (k + j) u m (slice_get-get_or ts (k + j) no_tip a.0 ∙ ap (λ (x : Tip). Some x) a.1) b.1))

    has_it : (t : Tip) (k : ℕ) (n : Option ℕ) (s : Source) → k < length ts → HasPlainly ts ns t k n s → Has matches ts ns t k n s
    has_it t k n (Said z) l h = h
    has_it t k n Output l h = subst (λ (used : List ℕ). IsLeastOutside t.size used n) (sym (used_same t k l)) h
    has_it t k n Input l h = h
    has_it t k n (Paired g) l h = absurd h
    has_it t k n Unpaired l h = absurd h

    pub numbered : Numbered matches ts ns
    numbered =
        record {
          each = all.each;
          has = λ k t n at there.
              subst (λ (s : Source). Has matches ts ns t k n s) (sym (plain t k))
              (has_it t k n (plain_source t) (slice_get_within ts k t at)
              (subst (λ (o : Option ℕ). HasPlainly ts ns t k o (plain_source t)) (get_or_from_slice_get ns k n None there) (all.given k t at)));
        }
