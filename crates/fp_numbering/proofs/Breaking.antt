-- That what the walks find broken is what is broken.
use Rattle.std.proofs.Common.{◌≡◌, ◌∙◌, ap, refl, sym, subst, ℕ, ◌⊎◌, inl, inr, Bool, true, false, List, take, Option, None, Some, slice_get, get_or, arith}
use Rattle.std.specs.Prelude.{ℤ}
use Rattle.std.specs.List.{list_any}
use Rattle.std.proofs.lemmas.Option.{slice_get-get_or, slice_get_within}
use Rattle.fp_base.specs.declared.refusal.Refusal.{Refusal}
use Rattle.fp_base.specs.Least.{IsLeast, IsUnbroken}
use Rattle.fp_base.proofs.Numbers.{same_number, number_same}
use Rattle.fp_base.proofs.Passing.{any_before, found_before}
use Rattle.fp_numbering.specs.declared.tips.Tip.{Tip}
use Rattle.fp_numbering.specs.declared.origins.Origin.{Origin}
use Rattle.fp_numbering.specs.Ends.{written_number}
use Rattle.fp_numbering.specs.Pairs.{said_of, first_of}
use Rattle.fp_numbering.specs.Numbers.{Source, source_of, Numbered}
use Rattle.fp_numbering.specs.Numbers.Source.{Said, Paired, Unpaired, Output, Input}
use Rattle.fp_numbering.specs.Broken.{asks_here, IsTipBroken, IsTwice, FindsNone, Breaks}
use Rattle.fp_numbering.specs.Walks.{AreAllGiven}
use Rattle.fp_numbering.specs.Faults.{begins_at, IsTwicePlainly, FindsNonePlainly}
use Rattle.fp_numbering.specs.Matched.{BreaksByWalks}
use Rattle.fp_numbering.specs.Origins.{no_tip, no_origin, IsOrigin, AreOrigins, is_first, lane_tip, settled, port_tip, said_tip, AreMade, AreLanes}
use Rattle.fp_numbering.proofs.Unique.{one_numbering}
use Rattle.fp_numbering.proofs.Beginning.{is_begun, begun_is, repeats_from, repeats_is}
use Rattle.fp_numbering.proofs.Sourcing.{said_by, said_source, output_begins, input_ends}
use Rattle.fp_numbering.proofs.Walkings.{put_back, tip_same, some_same, number_at, lane_number_at, origin, paired_number, by_walks}

module _ (matches : ℕ → List (ℕ × ℕ)) (ts : List Tip) (os : List Origin) (are : AreOrigins matches ts os) (label : ℕ → ℕ → ℕ) (lanes : AreLanes matches ts label)
    (vs us : List Tip) (ms ns : List (Option ℕ)) (in_lanes : AreMade (λ k o t. lane_tip (label t.instance t.port) k o t) ts os vs) (pairs_given : AreAllGiven vs ms)
    (at_ports : AreMade (λ k o t. port_tip ms o t) ts os us) (all_given : AreAllGiven us ns) (ss : List Tip) (are_said : AreMade (λ k o t. said_tip o t) ts os ss) where
  abbrev o_at : ℕ → Origin
  o_at k = get_or os k no_origin

  all : Numbered matches ts ns
  all = by_walks matches ts os are label lanes vs us ms ns in_lanes pairs_given at_ports all_given

  org : (k : ℕ) (t : Tip) (s : Source) → slice_get ts k ≡ Some t → source_of matches ts t k ≡ s → IsOrigin matches ts s (o_at k)
  org k t s at e = origin matches ts os are label lanes vs us ms ns in_lanes pairs_given at_ports all_given k t s at e

  said_here : (k : ℕ) (t : Tip) → slice_get ts k ≡ Some t → said_of matches ts t k ≡ (o_at k).said
  said_here k t at = said_source matches ts t k ∙ go (source_of matches ts t k) refl
    where
      go : (s : Source) → source_of matches ts t k ≡ s → said_by matches ts s ≡ (o_at k).said
      go (Said z) e = sym (org k t (Said z) at e)
      go (Paired g) e = sym (org k t (Paired g) at e).0
      go Unpaired e = sym (org k t Unpaired at e).0
      go Output e = sym (org k t Output at e).0
      go Input e = sym (org k t Input at e).0

  written_said : (k : ℕ) (t : Tip) → slice_get ts k ≡ Some t → written_number (said_tip (o_at k) t) ≡ said_of matches ts t k
  written_said k t at = put_back (o_at k).said t ∙ sym (said_here k t at)

  -- ---- an output's number twice

  to_twice : (k : ℕ) (t : Tip) (f : Refusal) → slice_get ts k ≡ Some t → IsTwice matches ts k t f → IsTwicePlainly ss k (said_tip (o_at k) t) f
  to_twice k t f at b =
      let j = b.0 in
      let s = b.1 in
      let z = b.2 in
      let x = said_tip (o_at j) s in
      let y = said_tip (o_at k) t in (
        b.10,
        repeats_from (λ q. list_any (begins_at q) (take k ss)) y z b.6 (written_said k t at ∙ b.9)
            (any_before (begins_at (y.instance, y.port, z)) ss k j x b.3 (are_said.of j s b.4) (is_begun x y z b.5 b.7 (written_said j s b.4 ∙ b.8))),
      )

  from_twice : (k : ℕ) (t : Tip) (f : Refusal) → slice_get ts k ≡ Some t → IsTwicePlainly ss k (said_tip (o_at k) t) f → IsTwice matches ts k t f
  from_twice k t f at h =
      let y = said_tip (o_at k) t in
      let r = repeats_is (λ q. list_any (begins_at q) (take k ss)) y h.1 in
      let z = r.1.0 in
      let a = found_before (begins_at (y.instance, y.port, z)) ss k r.1.2 in
      let j = a.0 in
      let s = get_or ts j no_tip in
      let within = slice_get_within ss j a.1 a.3 in
      let there = slice_get-get_or ts j no_tip (omega (arith, are_said.each)) in
      let is : a.1 ≡ said_tip (o_at j) s = tip_same a.1 (said_tip (o_at j) s) (sym a.3 ∙ are_said.of j s there) in
      let b = begun_is (said_tip (o_at j) s) y z (subst (λ (x : Tip). begins_at (y.instance, y.port, z) x ≡ true) is a.4) in
      (j, s, z, a.2, there, b.0, r.0, b.1, sym (written_said j s there) ∙ b.2, sym (written_said k t at) ∙ r.1.1, h.0)

  -- ---- no number free

  to_none : (k : ℕ) (t : Tip) (f : Refusal) → slice_get ts k ≡ Some t → FindsNone matches ts k t f
      → (FindsNonePlainly vs ms k (lane_tip (label t.instance t.port) k (o_at k) t) f) ⊎ (FindsNonePlainly us ns k (port_tip ms (o_at k) t) f)
  to_none k t f at b = go (source_of matches ts t k) refl b.3
    where
      here : slice_get ns k ≡ Some None
      here = let same : b.0 ≡ ns = one_numbering matches ts b.0 ns b.1 all in subst (λ (xs : List (Option ℕ)). slice_get xs k ≡ Some None) same b.2

      go : (s : Source) → source_of matches ts t k ≡ s → asks_here matches ts k s
          → (FindsNonePlainly vs ms k (lane_tip (label t.instance t.port) k (o_at k) t) f) ⊎ (FindsNonePlainly us ns k (port_tip ms (o_at k) t) f)
      go (Said z) e h = absurd h
      go (Paired g) e h =
          let o = org k t (Paired g) at e in
          let begins : is_first k (o_at k).first ≡ true = ap (λ (x : Option ℕ). is_first k x) o.1 ∙ number_same (first_of matches ts g) k (sym h) in
          let number : None ≡ get_or ms (first_of matches ts g) None =
          paired_number matches ts os are label lanes vs us ms ns in_lanes pairs_given at_ports all_given k t None g at here e in
          let lane : slice_get ms k ≡ Some None =
          lane_number_at matches ts os are label lanes vs us ms ns in_lanes pairs_given at_ports all_given k t at
          ∙ ap (λ (x : Option ℕ). Some x) (ap (λ (x : ℕ). get_or ms x None) h ∙ sym number) in
          inl (b.4, (begins, put_back (o_at k).said t ∙ o.0, lane))
      go Unpaired e h = absurd h
      go Output e h =
          let o = org k t Output at e in
          let is : settled ms (o_at k).said (o_at k).first (o_at k).free ≡ None =
          ap (λ (x : Option ℤ). settled ms x (o_at k).first (o_at k).free) o.0 ∙ ap (λ (x : Option ℕ). settled ms None x (o_at k).free) o.1 ∙ ap (λ (x : Bool). settled ms None None x) o.2 in
          inr (b.4, (output_begins matches ts t k e, put_back (settled ms (o_at k).said (o_at k).first (o_at k).free) t ∙ is, here))
      go Input e h = absurd h

  from_lane_none : (k : ℕ) (t : Tip) (f : Refusal) → slice_get ts k ≡ Some t → FindsNonePlainly vs ms k (lane_tip (label t.instance t.port) k (o_at k) t) f → FindsNone matches ts k t f
  from_lane_none k t f at h = go (source_of matches ts t k) refl
    where
      unsaid : (o_at k).said ≡ None
      unsaid = sym (put_back (o_at k).said t) ∙ h.1.1

      begins : is_first k (o_at k).first ≡ true
      begins = h.1.0

      not_first : (o_at k).first ≡ None → ⊥
      not_first e = let never : false ≡ true = sym (ap (λ (x : Option ℕ). is_first k x) e) ∙ begins in cc never

      go : (s : Source) → source_of matches ts t k ≡ s → FindsNone matches ts k t f
      go (Said z) e = cc (sym unsaid ∙ org k t (Said z) at e)
      go (Paired g) e =
          let o = org k t (Paired g) at e in
          let first : first_of matches ts g ≡ k = same_number (first_of matches ts g) k (sym (ap (λ (x : Option ℕ). is_first k x) o.1) ∙ begins) in
          let n = number_at matches ts os are label lanes vs us ms ns in_lanes pairs_given at_ports all_given k t at in
          let number = paired_number matches ts os are label lanes vs us ms ns in_lanes pairs_given at_ports all_given k t (get_or ns k None) g at n e in
          let lane = lane_number_at matches ts os are label lanes vs us ms ns in_lanes pairs_given at_ports all_given k t at in
          let none : get_or ms k None ≡ None = some_same (get_or ms k None) None (sym lane ∙ h.1.2) in
          let here : slice_get ns k ≡ Some None = n ∙ ap (λ (x : Option ℕ). Some x) (number ∙ ap (λ (x : ℕ). get_or ms x None) first ∙ none) in
          (ns, all, here, subst (λ (s : Source). asks_here matches ts k s) (sym e) (sym first), h.0)
      go Unpaired e = absurd (not_first (org k t Unpaired at e).1)
      go Output e = absurd (not_first (org k t Output at e).1)
      go Input e = absurd (not_first (org k t Input at e).1)

  from_port_none : (k : ℕ) (t : Tip) (f : Refusal) → slice_get ts k ≡ Some t → FindsNonePlainly us ns k (port_tip ms (o_at k) t) f → FindsNone matches ts k t f
  from_port_none k t f at h = go (source_of matches ts t k) refl
    where
      unsettled : settled ms (o_at k).said (o_at k).first (o_at k).free ≡ None
      unsettled = sym (put_back (settled ms (o_at k).said (o_at k).first (o_at k).free) t) ∙ h.1.1

      go : (s : Source) → source_of matches ts t k ≡ s → FindsNone matches ts k t f
      go (Said z) e = cc (sym (ap (λ (x : Option ℤ). settled ms x (o_at k).first (o_at k).free) (org k t (Said z) at e)) ∙ unsettled)
      go (Paired g) e =
          let o = org k t (Paired g) at e in
          cc (sym (ap (λ (x : Option ℤ). settled ms x (o_at k).first (o_at k).free) o.0 ∙ ap (λ (x : Option ℕ). settled ms None x (o_at k).free) o.1) ∙ unsettled)
      go Unpaired e =
          let o = org k t Unpaired at e in
          cc
          (sym
          (ap (λ (x : Option ℤ). settled ms x (o_at k).first (o_at k).free) o.0 ∙ ap (λ (x : Option ℕ). settled ms None x (o_at k).free) o.1 ∙ ap (λ (x : Bool). settled ms None None x) o.2)
          ∙ unsettled)
      go Output e = (ns, all, h.1.2, subst (λ (s : Source). asks_here matches ts k s) (sym e) tt, h.0)
      go Input e = cc (sym (input_ends matches ts t k e) ∙ h.1.0)

  -- ---- all

  to_walks : (f : Refusal) → Breaks matches ts f → BreaksByWalks matches ts ss vs ms us ns f
  to_walks f h = go h.0 h.1 h.2 h.3
    where
      go : (k : ℕ) (t : Tip) → slice_get ts k ≡ Some t → IsTipBroken matches ts k t f → BreaksByWalks matches ts ss vs ms us ns f
      go k t at (inl b) = inl (k, t, at, b)
      go k t at (inr (inl b)) = inr (inl (k, said_tip (o_at k) t, are_said.of k t at, to_twice k t f at b))
      go k t at (inr (inr (inl b))) = inr (inr (inl (inl (k, t, at, b))))
      go k t at (inr (inr (inr (inl b)))) = inr (inr (inl (inr (k, t, at, b))))
      go k t at (inr (inr (inr (inr (inl b))))) = inr (inr (inr (inl (k, t, at, b))))
      go k t at (inr (inr (inr (inr (inr b))))) =
          elim (to_none k t f at b) [
            | inl x ↦ inr (inr (inr (inr (inl (k, lane_tip (label t.instance t.port) k (o_at k) t, in_lanes.of k t at, x)))))
            | inr y ↦ inr (inr (inr (inr (inr (k, port_tip ms (o_at k) t, at_ports.of k t at, y)))))
          ]

  from_walks : (f : Refusal) → BreaksByWalks matches ts ss vs ms us ns f → Breaks matches ts f
  from_walks f (inl h) = (h.0, h.1, h.2, inl h.3)
  from_walks f (inr (inl h)) =
      let k = h.0 in
      let t = get_or ts k no_tip in
      let within = slice_get_within ss k h.1 h.2 in
      let at = slice_get-get_or ts k no_tip (omega (arith, are_said.each)) in
      let is : h.1 ≡ said_tip (o_at k) t = tip_same h.1 (said_tip (o_at k) t) (sym h.2 ∙ are_said.of k t at) in
      (k, t, at, inr (inl (from_twice k t f at (subst (λ (x : Tip). IsTwicePlainly ss k x f) is h.3))))
  from_walks f (inr (inr (inl (inl h)))) = (h.0, h.1, h.2, inr (inr (inl h.3)))
  from_walks f (inr (inr (inl (inr h)))) = (h.0, h.1, h.2, inr (inr (inr (inl h.3))))
  from_walks f (inr (inr (inr (inl h)))) = (h.0, h.1, h.2, inr (inr (inr (inr (inl h.3)))))
  from_walks f (inr (inr (inr (inr (inl h))))) =
      let k = h.0 in
      let t = get_or ts k no_tip in
      let within = slice_get_within vs k h.1 h.2 in
      let at = slice_get-get_or ts k no_tip (omega (arith, in_lanes.each)) in
      let v = lane_tip (label t.instance t.port) k (o_at k) t in
      let is : h.1 ≡ v = tip_same h.1 v (sym h.2 ∙ in_lanes.of k t at) in
      (k, t, at, inr (inr (inr (inr (inr (from_lane_none k t f at (subst (λ (x : Tip). FindsNonePlainly vs ms k x f) is h.3)))))))
  from_walks f (inr (inr (inr (inr (inr h))))) =
      let k = h.0 in
      let t = get_or ts k no_tip in
      let within = slice_get_within us k h.1 h.2 in
      let at = slice_get-get_or ts k no_tip (omega (arith, at_ports.each)) in
      let u = port_tip ms (o_at k) t in
      let is : h.1 ≡ u = tip_same h.1 u (sym h.2 ∙ at_ports.of k t at) in
      (k, t, at, inr (inr (inr (inr (inr (from_port_none k t f at (subst (λ (x : Tip). FindsNonePlainly us ns k x f) is h.3)))))))

  pub least_broken : (o : Option Refusal) → IsLeast (BreaksByWalks matches ts ss vs ms us ns) o → IsLeast (Breaks matches ts) o
  least_broken o l = record { holds = λ f e. from_walks f (l.holds f e); least = λ g b. l.least g (to_walks g b) }

  pub unbroken : IsLeast (BreaksByWalks matches ts ss vs ms us ns) None → IsUnbroken (Breaks matches ts)
  unbroken l f b = l.least f (to_walks f b)
