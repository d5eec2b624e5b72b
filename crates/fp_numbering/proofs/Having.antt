-- Where nothing is broken, each end has a number.
use Rattle.std.proofs.Common.{◌≡◌, ◌∙◌, ap, refl, sym, subst, ℕ, ◌<◌, ◌⊎◌, inl, inr, Bool, true, false, cond, List, [], ◌∷◌, length, Option, None, Some, slice_get, get_or, arith}
use Rattle.std.specs.Prelude.{ℤ, is_some, ◌==◌}
use Rattle.std.specs.List.{list_all}
use Rattle.std.specs.Option.{option_and_then, option_map}
use Rattle.std.specs.Ordering.{int_eq}
use Rattle.std.proofs.lemmas.Option.{slice_get-get_or}
use Rattle.fp_base.specs.declared.refusal.Refusal.{Refusal}
use Rattle.fp_base.specs.declared.rule.Rule.TheVariants.{PortNumberRange, MatchNumbersDiffer, NoNumberFree}
use Rattle.fp_base.specs.Least.{IsUnbroken, broken_at}
use Rattle.fp_tables.specs.declared.topology.Written.{Written}
use Rattle.fp_numbering.specs.declared.tips.Tip.{Tip}
use Rattle.fp_numbering.specs.Ends.{written_number, number_below}
use Rattle.fp_numbering.specs.Pairs.{has, are_alike, pairs, pair_of, is_whole, written_in, given_by, given, is_unwritten, first_of}
use Rattle.fp_numbering.specs.Numbers.{Source, source_of, Has, Numbered}
use Rattle.fp_numbering.specs.Numbers.Source.{Said, Paired, Unpaired, Output, Input}
use Rattle.fp_numbering.specs.Broken.{asks_here, IsTipBroken, Breaks}
use Rattle.fp_numbering.specs.Keys.{linked}
use Rattle.fp_numbering.specs.Origins.{no_tip, AreLanes}
use Rattle.fp_numbering.proofs.Unique.{both_left, both_right}
use Rattle.fp_numbering.proofs.Joining.{Member}
use Rattle.fp_numbering.proofs.Keying.{alike_is, one_key}
use Rattle.fp_numbering.proofs.Setwise.{gives, written_from}
use Rattle.fp_numbering.proofs.Sourcing.{member_contains, source_from, source_given, source_is, pair_found, first_source}
use Rattle.fp_numbering.proofs.Lacking.{not_whole}
use Rattle.fp_numbering.proofs.Classing.{some_tip, given_whole, unwritten_whole}
use Rattle.fp_numbering.proofs.Varying.{one_fails}

written_is : (o : Option Written) (z : ℤ) → option_map (λ (w : Written). w.number) o ≡ Some z → (w : Written) × (o ≡ Some w) × (w.number ≡ z)
written_is None z e = cc
written_is (Some w) z e = (w, refl, cc)

some_or_none : (n : Option ℕ) → (is_some n ≡ true) ⊎ (n ≡ None)
some_or_none None = inr refl
some_or_none (Some n) = inl refl

order : (i j : ℕ) → (i < j) ⊎ ((j < i) ⊎ (i ≡ j))
order i j = grind arith

module _ (matches : ℕ → List (ℕ × ℕ)) (ts : List Tip) (label : ℕ → ℕ → ℕ) (lanes : AreLanes matches ts label) (ns : List (Option ℕ)) (all : Numbered matches ts ns) (unbroken : IsUnbroken (Breaks matches ts))
    (first_has : (k : ℕ) (t : Tip) (g : List ℕ) → slice_get ts k ≡ Some t → slice_get ns k ≡ Some None → source_of matches ts t k ≡ Paired g → slice_get ns (first_of matches ts g) ≡ Some None) where
  at_end : (k : ℕ) (t : Tip) (f : Refusal) → slice_get ts k ≡ Some t → IsTipBroken matches ts k t f → ⊥
  at_end k t f at b = unbroken f (k, t, at, b)

  out_of_range : (k : ℕ) (t : Tip) (z : ℤ) → slice_get ts k ≡ Some t → written_number t ≡ Some z → number_below t.size z ≡ None → ⊥
  out_of_range k t z at w n =
      let r = written_is t.written z w in
      at_end k t (broken_at PortNumberRange r.0.at) at (inl (r.0, r.1, ap (λ (y : ℤ). number_below t.size y) r.2 ∙ n, refl))

  related : (g : List ℕ) (i j : ℕ) (s t : Tip) → Member g (pairs matches ts) → has g i ≡ true → has g j ≡ true → slice_get ts i ≡ Some s → slice_get ts j ≡ Some t → s.size ≡ t.size
  related g i j s t m a b at there =
      let key = one_key matches ts g i j s t (member_contains (pairs matches ts) g m) a b at there in
      let alike = alike_is s t (both_left (are_alike s t) (linked (matches s.instance) s.port t.port) key) in
      lanes.sizes i j s t at there alike.2 (both_right (are_alike s t) (linked (matches s.instance) s.port t.port) key)

  given_in : (g : List ℕ) (z : ℤ) → given matches ts g ≡ Some z → Member z (written_in matches ts g)
  unfolding given
  given_in g z e = by (is_whole matches ts g) e
    where
      by : (b : Bool) → cond b (given_by (written_in matches ts g)) None ≡ Some z → Member z (written_in matches ts g)
      by true d = (gives (written_in matches ts g) z d).0
      by false d = cc

  member_end : (g : List ℕ) (z : ℤ) → Member z (written_in matches ts g) → (j : ℕ) × (s : Tip) × (has g j ≡ true) × (slice_get ts j ≡ Some s) × (written_number s ≡ Some z)
  member_end g z m =
      let r = written_from (λ x. option_and_then written_number (slice_get ts x)) g z m in
      let s = some_tip written_number (slice_get ts r.0) z r.2 in
      (r.0, s.0, r.1, s.1, s.2)

  given_out : (k : ℕ) (t : Tip) (g : List ℕ) (z : ℤ) → slice_get ts k ≡ Some t → pair_of matches ts k ≡ Some g → given matches ts g ≡ Some z → number_below t.size z ≡ None → ⊥
  given_out k t g z at p e n =
      let f = pair_found matches ts k g p in
      let r = member_end g z (given_in g z e) in
      let size = related g k r.0 t r.1 f.0 f.1 r.2 at r.3 in
      out_of_range r.0 r.1 z r.3 r.4 (ap (λ (x : ℕ). number_below x z) (sym size) ∙ n)

  differ : (g : List ℕ) (i j : ℕ) (s t : Tip) (y z : ℤ) → Member g (pairs matches ts) → is_whole matches ts g ≡ true → has g i ≡ true → has g j ≡ true → i < j → slice_get ts i ≡ Some s → slice_get ts j ≡ Some t
      → written_number s ≡ Some y → written_number t ≡ Some z → (y ≡ z → ⊥) → ⊥
  differ g i j s t y z m w a b l at there c d n =
      at_end j t (broken_at MatchNumbersDiffer t.at) there (inr (inr (inr (inr (inl (g, i, s, y, z, member_contains (pairs matches ts) g m, w, a, b, l, at, c, d, n, refl))))))

  differ_any : (g : List ℕ) (y z : ℤ) → Member g (pairs matches ts) → is_whole matches ts g ≡ true → Member y (written_in matches ts g) → Member z (written_in matches ts g) → (y ≡ z → ⊥) → ⊥
  differ_any g y z m w a b n =
      let p = member_end g y a in
      let q = member_end g z b in
      elim (order p.0 q.0) [
        | inl l ↦ differ g p.0 q.0 p.1 q.1 y z m w p.2 q.2 l p.3 q.3 p.4 q.4 n
        | inr r ↦
            elim r [
              | inl l ↦ differ g q.0 p.0 q.1 p.1 z y m w q.2 p.2 l q.3 p.3 q.4 p.4 (λ e. n (sym e))
              | inr e ↦ n (same_number p.0 q.0 p.1 q.1 y z e p.3 q.3 p.4 q.4)
            ]
      ]
    where
      same_number : (i j : ℕ) (s t : Tip) (y z : ℤ) → i ≡ j → slice_get ts i ≡ Some s → slice_get ts j ≡ Some t → written_number s ≡ Some y → written_number t ≡ Some z → y ≡ z
      same_number i j s t y z e at there c d =
          let same : s ≡ t = tips s t (sym at ∙ ap (λ (x : ℕ). slice_get ts x) e ∙ there) in
          ints y z (sym c ∙ ap (λ (u : Tip). written_number u) same ∙ d)
        where
          tips : (s t : Tip) → ◌≡◌ {A = Option Tip} (Some s) (Some t) → s ≡ t
          tips s t e = cc

          ints : (y z : ℤ) → ◌≡◌ {A = Option ℤ} (Some y) (Some z) → y ≡ z
          ints y z e = cc

  -- a pair that takes no number
  unpaired_out : (g : List ℕ) → Member g (pairs matches ts) → given matches ts g ≡ None → is_unwritten matches ts g ≡ false → (w : Bool) → is_whole matches ts g ≡ w → ⊥
  unpaired_out g m e u false w =
      let r = not_whole matches ts g m w in
      let l = r.4 in
      elim l.5 [
        | inl x ↦ at_end l.0 l.1 l.2 l.3 (inr (inr (inl x)))
        | inr y ↦ at_end l.0 l.1 l.2 l.3 (inr (inr (inr (inl y))))
      ]
  unpaired_out g m e u true w = by (written_in matches ts g) refl (sym (given_whole matches ts g w) ∙ e) (sym (unwritten_whole matches ts g w) ∙ u)
    where
      by : (zs : List ℤ) → written_in matches ts g ≡ zs → given_by (written_in matches ts g) ≡ None → (length (written_in matches ts g) == 0) ≡ false → ⊥
      by [] is d v = cc (sym v ∙ ap (λ (ys : List ℤ). length ys == 0) is ∙ empty)
        where
          empty : (0 == 0) ≡ true
          empty = refl
      by (z ∷ zs) is d v = part (list_all (int_eq z) zs) refl (sym (ap (λ (ys : List ℤ). given_by ys) is) ∙ d)
        where
          part : (b : Bool) → list_all (int_eq z) zs ≡ b → cond b (Some z) None ≡ None → ⊥
          part true a f = cc
          part false a f =
              let r = one_fails z zs a in
              differ_any g z r.0 m w (subst (λ (ys : List ℤ). Member z ys) (sym is) (inl refl)) (subst (λ (ys : List ℤ). Member r.0 ys) (sym is) (inr r.1)) r.2

  by_source : (k : ℕ) (t : Tip) → slice_get ts k ≡ Some t → slice_get ns k ≡ Some None → (s : Source) → source_of matches ts t k ≡ s → Has matches ts ns t k None s → ⊥
  by_source k t at there (Said z) e h = said (written_number t) (pair_of matches ts k) refl refl (sym (source_is matches ts t k) ∙ e)
    where
      of_given : (g : List ℕ) (o : Option ℤ) → pair_of matches ts k ≡ Some g → given matches ts g ≡ o → source_given matches ts g o ≡ Said z → ⊥
      of_given g (Some y) p d s =
          let same : y ≡ z = value y z s in
          given_out k t g z at p (d ∙ ap (λ (x : ℤ). Some x) same) (sym h)
        where
          value : (y z : ℤ) → Said y ≡ Said z → y ≡ z
          value y z s = ap (λ (x : Source). elim x [ Said w ↦ w | Paired q ↦ y | Unpaired ↦ y | Output ↦ y | Input ↦ y ]) s
      of_given g None p d s = neither (is_unwritten matches ts g) s
        where
          neither : (b : Bool) → cond b (Paired g) Unpaired ≡ Said z → ⊥
          neither true x = cc
          neither false x = cc

      said : (o : Option ℤ) (p : Option (List ℕ)) → written_number t ≡ o → pair_of matches ts k ≡ p → source_from matches ts t.begins o p ≡ Said z → ⊥
      said (Some y) p w q s =
          let same : y ≡ z = ap (λ (x : Source). elim x [ Said v ↦ v | Paired g ↦ y | Unpaired ↦ y | Output ↦ y | Input ↦ y ]) s in
          out_of_range k t z at (w ∙ ap (λ (x : ℤ). Some x) same) (sym h)
      said None None w q s = neither t.begins s
        where
          neither : (b : Bool) → cond b Output Input ≡ Said z → ⊥
          neither true x = cc
          neither false x = cc
      said None (Some g) w q s = of_given g (given matches ts g) q refl s
  by_source k t at there (Paired g) e h =
      let r = first_source matches ts t k g e in
      let f = r.0 in
      let none : slice_get ns f ≡ Some None = ap (λ (x : ℕ). slice_get ns x) (sym r.3.end.first) ∙ first_has k t g at there e in
      at_end f r.1 (broken_at NoNumberFree r.1.at) r.3.end.at
      (inr (inr (inr (inr (inr (ns, all, none, subst (λ (s : Source). asks_here matches ts f s) (sym r.3.source) (sym r.3.first), refl))))))
  by_source k t at there Unpaired e h = un (written_number t) (pair_of matches ts k) refl refl (sym (source_is matches ts t k) ∙ e)
    where
      of_given : (g : List ℕ) (o : Option ℤ) → pair_of matches ts k ≡ Some g → given matches ts g ≡ o → source_given matches ts g o ≡ Unpaired → ⊥
      of_given g (Some y) p d s = cc
      of_given g None p d s = by (is_unwritten matches ts g) refl s
        where
          by : (b : Bool) → is_unwritten matches ts g ≡ b → cond b (Paired g) Unpaired ≡ Unpaired → ⊥
          by true u x = cc
          by false u x = unpaired_out g (pair_found matches ts k g p).0 d u (is_whole matches ts g) refl

      un : (o : Option ℤ) (p : Option (List ℕ)) → written_number t ≡ o → pair_of matches ts k ≡ p → source_from matches ts t.begins o p ≡ Unpaired → ⊥
      un (Some y) p w q s = cc
      un None None w q s = neither t.begins s
        where
          neither : (b : Bool) → cond b Output Input ≡ Unpaired → ⊥
          neither true x = cc
          neither false x = cc
      un None (Some g) w q s = of_given g (given matches ts g) q refl s
  by_source k t at there Output e h =
      at_end k t (broken_at NoNumberFree t.at) at (inr (inr (inr (inr (inr (ns, all, there, subst (λ (s : Source). asks_here matches ts k s) (sym e) tt, refl))))))
  by_source k t at there Input e h = cc

  pub all_have : (k : ℕ) → k < length ns → is_some (get_or ns k None) ≡ true
  all_have k l =
      elim (some_or_none (get_or ns k None)) [
        | inl h ↦ h
        | inr h ↦
            let t = get_or ts k no_tip in
            let at = slice_get-get_or ts k no_tip (omega (arith, all.each)) in
            let there : slice_get ns k ≡ Some None = slice_get-get_or ns k None l ∙ ap (λ (n : Option ℕ). Some n) h in
            absurd (by_source k t at there (source_of matches ts t k) refl (all.has k t None at there))
      ]
