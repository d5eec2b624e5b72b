-- Names joined by dots: they are qualified names, and give back what was joined.
use Rattle.std.proofs.Common.{◌≡◌, ℕ, Bool, true, false, cond, ◌&&◌, List, [], ◌∷◌, ◌++◌, flat_map, refl, sym, ap, ◌∙◌, subst, arith}
use Rattle.std.specs.Prelude.{◌==◌}
use Rattle.std.specs.List.{list_all}
use Rattle.std.proofs.lemmas.Bool.Decides.{nat_tests}
use Rattle.fp_base.proofs.Lists.{head_same, tail_same, same_joined}
use Rattle.fp_base.proofs.Bools.{both, or_left}
use Rattle.fp_base.proofs.Bytes.{name_bytes}
use Rattle.fp_base.specs.Names.{is_digit, is_letter, is_name, is_name_byte}
use Rattle.fp_tables.specs.Names.{goes_on, is_qualified}
use Rattle.fp_meaning.specs.Names.{Path}
use Rattle.fp_meaning.specs.Values.{dotted}

-- a dot stands in no name
is_dot : (b : ℕ) → (b == 46) ≡ true → b ≡ 46
is_dot b e = grind (arith, nat_tests)

no_dot_named : is_name_byte 46 ≡ true → ⊥
no_dot_named h = cc

no_dot : (b : ℕ) → is_name_byte b ≡ true → (b == 46) ≡ false
no_dot b h = go (b == 46) refl
  where
    go : (t : Bool) → (b == 46) ≡ t → (b == 46) ≡ false
    go false e = e
    go true e = absurd (no_dot_named (subst (λ (n : ℕ). is_name_byte n ≡ true) (is_dot b e) h))

-- the rest of names joined by dots
abbrev pub rest_of : Path → List ℕ
rest_of names = flat_map (λ (n : List ℕ). 46 ∷ n) names

-- ---- what is joined is a qualified name

skip : (x y : Bool) (t : Bool) → t ≡ false → cond t x y ≡ y
skip x y t e = ap (λ (b : Bool). cond b x y) e

both_then : (a b c : Bool) → a ≡ true → b ≡ c → (a && b) ≡ c
both_then true b c h e = e
both_then false b c h e = absurd (cc)

rest_goes_on : (bs rest : List ℕ) → list_all is_name_byte bs ≡ true → goes_on true (bs ++ rest) ≡ goes_on true rest
rest_goes_on [] rest h = refl
rest_goes_on (b ∷ bs) rest h =
    let t = both (is_name_byte b) (list_all is_name_byte bs) h in
    skip (true && goes_on false (bs ++ rest)) (is_name_byte b && goes_on true (bs ++ rest)) (b == 46) (no_dot b t.0)
    ∙ both_then (is_name_byte b) (goes_on true (bs ++ rest)) (goes_on true rest) t.0 (rest_goes_on bs rest t.1)

name_goes_on : (n rest : List ℕ) → is_name n ≡ true → goes_on false (n ++ rest) ≡ goes_on true rest
name_goes_on [] rest h = absurd (cc)
name_goes_on (b ∷ bs) rest h =
    let t = both (is_letter b) (list_all is_name_byte bs) h in
    skip (false && goes_on false (bs ++ rest)) (is_letter b && goes_on true (bs ++ rest)) (b == 46) (no_dot b (or_left (is_letter b) (is_digit b) t.0))
    ∙ both_then (is_letter b) (goes_on true (bs ++ rest)) (goes_on true rest) t.0 (rest_goes_on bs rest t.1)

names_go_on : (ns : Path) → list_all is_name ns ≡ true → goes_on true (rest_of ns) ≡ true
names_go_on [] h = refl
names_go_on (n ∷ ns) h = let t = both (is_name n) (list_all is_name ns) h in name_goes_on n (rest_of ns) t.0 ∙ names_go_on ns t.1

pub dotted_qualified : (p : Path) → list_all is_name p ≡ true → (p ≡ [] → ⊥) → is_qualified (dotted p) ≡ true
dotted_qualified [] h some = absurd (some refl)
dotted_qualified (n ∷ ns) h some = let t = both (is_name n) (list_all is_name ns) h in name_goes_on n (rest_of ns) t.0 ∙ names_go_on ns t.1

-- ---- and gives back what was joined

-- what begins with a byte of a name begins no rest
not_rest : {A : Type 0} (b : ℕ) (bs : List ℕ) (ns : Path) → is_name_byte b ≡ true → rest_of ns ≡ b ∷ bs → A
not_rest b bs [] h e = absurd (cc)
not_rest b bs (n ∷ ns) h e = absurd (no_dot_named (subst (λ (x : ℕ). is_name_byte x ≡ true) (sym (head_same _ _ _ _ e)) h))

one_name : (a b : List ℕ) (ns ms : Path) → list_all is_name_byte a ≡ true → list_all is_name_byte b ≡ true → a ++ rest_of ns ≡ b ++ rest_of ms → (a ≡ b) × (rest_of ns ≡ rest_of ms)
one_name [] [] ns ms h k e = (refl, e)
one_name [] (y ∷ b) ns ms h k e = not_rest y (b ++ rest_of ms) ns (both (is_name_byte y) (list_all is_name_byte b) k).0 e
one_name (x ∷ a) [] ns ms h k e = not_rest x (a ++ rest_of ns) ms (both (is_name_byte x) (list_all is_name_byte a) h).0 (sym e)
one_name (x ∷ a) (y ∷ b) ns ms h k e =
    let t = one_name a b ns ms (both (is_name_byte x) (list_all is_name_byte a) h).1 (both (is_name_byte y) (list_all is_name_byte b) k).1 (tail_same _ _ _ _ e) in
    (same_joined (head_same _ _ _ _ e) t.0, t.1)

same_rests : (ns ms : Path) → list_all is_name ns ≡ true → list_all is_name ms ≡ true → rest_of ns ≡ rest_of ms → ns ≡ ms
same_rests [] [] h k e = refl
same_rests [] (m ∷ ms) h k e = absurd (cc)
same_rests (n ∷ ns) [] h k e = absurd (cc)
same_rests (n ∷ ns) (m ∷ ms) h k e =
    let s = both (is_name n) (list_all is_name ns) h in
    let t = both (is_name m) (list_all is_name ms) k in
    let u = one_name n m ns ms (name_bytes n s.0) (name_bytes m t.0) (tail_same _ _ _ _ e) in
    same_joined {A = List ℕ} u.0 (same_rests ns ms s.1 t.1 u.1)

starts : {A : Type 0} (n : List ℕ) (rest : List ℕ) → is_name n ≡ true → [] ≡ n ++ rest → A
starts [] rest h e = absurd (cc)
starts (b ∷ bs) rest h e = absurd (cc)

pub dotted_same : (p q : Path) → list_all is_name p ≡ true → list_all is_name q ≡ true → dotted p ≡ dotted q → p ≡ q
dotted_same [] [] h k e = refl
dotted_same [] (m ∷ ms) h k e = starts m (rest_of ms) (both (is_name m) (list_all is_name ms) k).0 e
dotted_same (n ∷ ns) [] h k e = starts n (rest_of ns) (both (is_name n) (list_all is_name ns) h).0 (sym e)
dotted_same (n ∷ ns) (m ∷ ms) h k e =
    let s = both (is_name n) (list_all is_name ns) h in
    let t = both (is_name m) (list_all is_name ms) k in
    let u = one_name n m ns ms (name_bytes n s.0) (name_bytes m t.0) e in
    same_joined {A = List ℕ} u.0 (same_rests ns ms s.1 t.1 u.1)
