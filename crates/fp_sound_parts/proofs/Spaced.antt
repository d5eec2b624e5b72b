-- Ranges of which none overlaps an earlier one are apart, as integers and as they stand in a model.
use Rattle.std.proofs.Common.{◌≡◌, ◌∙◌, ap, refl, sym, ℕ, zero, suc, ◌<◌, Bool, true, false, not, cond, ◌&&◌, ◌||◌, ℤ, pos, int_lt, List, [], ◌∷◌, map, take, Option, None, Some, slice_get, arith}
use Rattle.std.specs.Prelude.{filter_map, find, nat_le}
use Rattle.std.specs.List.{cons_option, list_any}
use Rattle.std.proofs.lemmas.Bool.Decides.{nat_tests}
use Rattle.std.proofs.lemmas.Int.{ints}
use Rattle.std.proofs.Math.Bool.{and_comm}
use Rattle.fp_base.specs.Least.{IsUnbroken}
use Rattle.fp_base.proofs.Bools.{both, join}
use Rattle.fp_tables.specs.Instances as model
use Rattle.fp_tables.specs.Lists.{apart}
use Rattle.fp_instances.specs.Ranges.{RangesBroken, last_of, overlap, overlapping}
use Rattle.fp_instances.specs.declared.ranges.IdRange.{IdRange}
use Rattle.fp_sound_parts.proofs.DeploymentLists.{all_apart}

-- ---- as integers

-- an earlier one that overlaps is found, or one before it
found : (rs : List IdRange) (j k : ℕ) (q r : IdRange) → j < k → slice_get rs j ≡ Some q → overlap q r ≡ true → (p : IdRange) × (find (λ (s : IdRange). overlap s r) (take k rs) ≡ Some p)
found [] j k q r l at h = absurd (cc)
found (s ∷ rs) j zero q r l at h = absurd (omega arith)
found (s ∷ rs) zero (suc k) q r l at h =
    let same : s ≡ q = cc in
    let first : overlap s r ≡ true = ap (λ (x : IdRange). overlap x r) same ∙ h in
    (s, rw first refl)
found (s ∷ rs) (suc j) (suc k) q r l at h = by (overlap s r) (found rs j k q r (omega arith) at h)
  where
    by : (b : Bool) → (p : IdRange) × (find (λ (x : IdRange). overlap x r) (take k rs) ≡ Some p) → (p : IdRange) × (cond b (Some s) (find (λ (x : IdRange). overlap x r) (take k rs)) ≡ Some p)
    by true f = (s, refl)
    by false f = f

pub spaced : (rs : List IdRange) → IsUnbroken (RangesBroken rs) → apart overlap rs ≡ true
spaced rs unbroken =
    all_apart overlap rs (λ j k q r l d e h.
    let p = found rs j k q r l d h in
    unbroken (overlapping p.0 r) (k, r, e, (p.0, p.1, refl)))

-- ---- the same ranges of naturals

abbrev pub Beside : Option IdRange → Option (ℕ × ℕ) → Type 0
Beside None None = Unit {0}
Beside (Some r) (Some q) = (r.base ≡ pos q.0) × (last_of r ≡ pos q.1)
Beside _ _ = ⊥

not_before : (a b : ℕ) → not (int_lt (pos a) (pos b)) ≡ nat_le b a
not_before a b = by (nat_le b a) refl
  where
    by : (t : Bool) → nat_le b a ≡ t → not (int_lt (pos a) (pos b)) ≡ t
    by true e = (let past : int_lt (pos a) (pos b) ≡ false = grind (arith, ints, nat_tests) in ap not past)
    by false e = (let past : int_lt (pos a) (pos b) ≡ true = grind (arith, ints, nat_tests) in ap not past)

same_overlap : (r s : IdRange) (q p : ℕ × ℕ) → Beside (Some r) (Some q) → Beside (Some s) (Some p) → overlap r s ≡ model.overlap (Some q) (Some p)
same_overlap r s q p h k =
    ap (λ (z : ℤ). not (int_lt z s.base) && not (int_lt (last_of s) r.base)) h.1 ∙ ap (λ (z : ℤ). not (int_lt (pos q.1) z) && not (int_lt (last_of s) r.base)) k.0
    ∙ ap (λ (z : ℤ). not (int_lt (pos q.1) (pos p.0)) && not (int_lt z r.base)) k.1 ∙ ap (λ (z : ℤ). not (int_lt (pos q.1) (pos p.0)) && not (int_lt (pos p.1) z)) h.0
    ∙ ap (λ (b : Bool). b && not (int_lt (pos p.1) (pos q.0))) (not_before q.1 p.0) ∙ ap (λ (b : Bool). nat_le p.0 q.1 && b) (not_before p.1 q.0) ∙ and_comm (nat_le p.0 q.1) (nat_le q.0 p.1)

module _ {A B : Type 0} (f : A → Option IdRange) (g : B → Option (ℕ × ℕ)) where
  abbrev pub AllBeside : List A → List B → Type 0
  AllBeside [] [] = Unit {0}
  AllBeside (x ∷ xs) (y ∷ ys) = Beside (f x) (g y) × AllBeside xs ys
  AllBeside _ _ = ⊥

  none_there : (ys : List B) → list_any (model.overlap None) (map g ys) ≡ false
  none_there [] = refl
  none_there (y ∷ ys) = none_there ys

  any_there : (r : IdRange) (q : ℕ × ℕ) → Beside (Some r) (Some q) → (xs : List A) (ys : List B) → AllBeside xs ys → list_any (overlap r) (filter_map f xs) ≡ list_any (model.overlap (Some q)) (map g ys)
  any_there r q is [] [] h = refl
  any_there r q is [] (y ∷ ys) h = absurd h
  any_there r q is (x ∷ xs) [] h = absurd h
  any_there r q is (x ∷ xs) (y ∷ ys) h = by (f x) (g y) h.0 (any_there r q is xs ys h.1)
    where
      by : (o : Option IdRange) (p : Option (ℕ × ℕ)) → Beside o p → list_any (overlap r) (filter_map f xs) ≡ list_any (model.overlap (Some q)) (map g ys)
          → list_any (overlap r) (cons_option o (filter_map f xs)) ≡ (model.overlap (Some q) p || list_any (model.overlap (Some q)) (map g ys))
      by None None b rest = rest
      by None (Some p) b rest = absurd b
      by (Some s) None b rest = absurd b
      by (Some s) (Some p) b rest =
          ap (λ (t : Bool). t || list_any (overlap r) (filter_map f xs)) (same_overlap r s q p is b) ∙ ap (λ (t : Bool). model.overlap (Some q) (Some p) || t) rest

  pub spaced_there : (xs : List A) (ys : List B) → AllBeside xs ys → apart overlap (filter_map f xs) ≡ true → apart model.overlap (map g ys) ≡ true
  spaced_there [] [] h k = refl
  spaced_there [] (y ∷ ys) h k = absurd h
  spaced_there (x ∷ xs) [] h k = absurd h
  spaced_there (x ∷ xs) (y ∷ ys) h k = by (f x) (g y) h.0 (λ rest. spaced_there xs ys h.1 rest) k
    where
      by : (o : Option IdRange) (p : Option (ℕ × ℕ)) → Beside o p → (apart overlap (filter_map f xs) ≡ true → apart model.overlap (map g ys) ≡ true) → apart overlap (cons_option o (filter_map f xs)) ≡ true
          → (not (list_any (model.overlap p) (map g ys)) && apart model.overlap (map g ys)) ≡ true
      by None None b rest k = join (not (list_any (model.overlap None) (map g ys))) (apart model.overlap (map g ys)) (ap not (none_there ys)) (rest k)
      by None (Some p) b rest k = absurd b
      by (Some r) None b rest k = absurd b
      by (Some r) (Some q) b rest k =
          let parts = both (not (list_any (overlap r) (filter_map f xs))) (apart overlap (filter_map f xs)) k in
          join (not (list_any (model.overlap (Some q)) (map g ys))) (apart model.overlap (map g ys)) (ap not (sym (any_there r q b xs ys h.1)) ∙ parts.0) (rest parts.1)
