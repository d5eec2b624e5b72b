-- The longest piece by its first byte.
use Rattle.std.proofs.Common.{◌≡◌, ℕ, ◌≤◌, ◌+◌, List, [], ◌∷◌, ◌++◌, length, take, drop, get_or, slice_get, Some, None, Option, sym, ap, ◌∙◌, arith, suc, refl, cond, true, false, Bool, subst, ◌&&◌, ◌||◌, inl, inr, take-append-drop, length-take}
use Rattle.std.specs.Prelude.{◌==◌}
use Rattle.std.specs.List.{list_all, prefix_len}
use Rattle.std.specs.Option.{is_some}
use Rattle.std.proofs.lemmas.Bool.{eqb-true}
use Rattle.std.proofs.lemmas.Option.{some_pair_parts}
use Rattle.std.proofs.lemmas.List.Sums.{prefix_len-le-length}
use Rattle.fp_base.specs.Names.{is_letter, is_digit, is_name_byte, is_name}
use Rattle.fp_base.proofs.Bools.{and_left, and_right}
use Rattle.fp_base.proofs.Bytes.{name_bytes}
use Rattle.fp_lexer.specs.Words.{marks}
use Rattle.fp_lexer.specs.Scan.{one_mark, one_mark_shape, other}
use Rattle.fp_lexer.specs.Found.{IsSmall, HasPart, what_of}
use Rattle.fp_lexer.specs.declared.shape.Shape.{Shape}
use Rattle.fp_lexer.specs.declared.shape.Shape.TheVariants as shape
use Rattle.fp_lexer.specs.Tokens.{Spells, Spelled, IsLongest}
use Rattle.fp_lexer.specs.declared.token.Word.{Word}
use Rattle.fp_lexer.specs.declared.token.Word.TheVariants.{Name, Mark, Newline}
use Rattle.fp_lexer.proofs.Runs.{bool_cases, cond_true, cond_false, or_cases}
use Rattle.fp_lexer.specs.Bytes.{newline_len}
use Rattle.fp_lexer.proofs.Lines.{newline_forms}
use Rattle.fp_lexer.proofs.Lined.{is_lead, no_lead, letter_no_lead}
use Rattle.fp_lexer.proofs.FirstBytes.{is_empty, is_one, is_two, is_single, ends, ends_other, shape, shaped, ends_letter, ends_rest}

-- the pieces that begin with b go on with something that ends it
pub after_first : (indent : ℕ) (b : ℕ) (t v after : List ℕ) (what : Option Word) (P : Type 0) → is_lead b ≡ false → b ∷ t ≡ v ++ after → Spells indent (b ∷ t) v what
    → ((u : List ℕ) → v ≡ b ∷ u → t ≡ u ++ after → ends b u ≡ true → P) → P
after_first indent b t v after what P lead e s k = elim s [ inl p ↦ by_bytes v (shaped v what p) e k | inr l ↦ no_lead indent b t v what P l lead ]
  where
    by_bytes : (v : List ℕ) → shape v ≡ true → b ∷ t ≡ v ++ after → ((u : List ℕ) → v ≡ b ∷ u → t ≡ u ++ after → ends b u ≡ true → P) → P
    by_bytes [] h e k = cc
    by_bytes (c ∷ u) h e k =
        let same : c ≡ b = cc in
        let tail : t ≡ u ++ after = cc in
        k u (ap (λ (x : ℕ). x ∷ u) same) tail (ap (λ (x : ℕ). ends x u) (sym same) ∙ h)

pub longest_from : (indent : ℕ) (b : ℕ) (t w more : List ℕ) (what : Option Word) → is_lead b ≡ false → b ∷ t ≡ w ++ more → Spelled w what
    → ((u after : List ℕ) → t ≡ u ++ after → ends b u ≡ true → suc (length u) ≤ length w) → IsLongest indent (b ∷ t) w what
longest_from indent b t w more what lead e s k = record {
  more = more;
  splits = e;
  spelled = inl s;
  longest = λ v after other split spelled. after_first indent b t v after other (length v ≤ length w) lead split spelled
      (λ u isv tail h. let le = k u after tail h in let l = ap length isv in omega (arith, le, l));
}

pub none_from : (indent : ℕ) (b : ℕ) (t : List ℕ) → is_lead b ≡ false → ((u after : List ℕ) → t ≡ u ++ after → ends b u ≡ true → ⊥)
    → (w more : List ℕ) (what : Option Word) → b ∷ t ≡ w ++ more → Spells indent (b ∷ t) w what → ⊥
none_from indent b t lead k w more what e s = after_first indent b t w more what ⊥ lead e s (λ u isv tail h. k u more tail h)

empty_length : (u : List ℕ) → is_empty u ≡ true → length u ≡ 0
empty_length [] e = refl
empty_length (x ∷ xs) e = cc

-- a piece of one byte, where no longer one begins with it
pub one_byte : (indent : ℕ) (b : ℕ) (t : List ℕ) (what : Option Word) → is_lead b ≡ false → Spelled (b ∷ []) what → ((u : List ℕ) → ends b u ≡ true → is_empty u ≡ true) → IsLongest indent (b ∷ t) (b ∷ []) what
one_byte indent b t what lead s k = longest_from indent b t (b ∷ []) t what lead refl s (λ u after tail h. let l = empty_length u (k u h) in omega (arith, l))

pub one_length : (c : ℕ) (u : List ℕ) → is_one c u ≡ true → (u ≡ c ∷ [])
one_length c [] e = cc
one_length c (x ∷ []) e = ap (λ (y : ℕ). y ∷ []) (eqb-true x c (and_left _ _ e))
one_length c (x ∷ y ∷ ys) e = let h : false ≡ true = and_right (x == c) false e in cc

-- ---- names and numbers

pub all_le_prefix : (p : ℕ → Bool) (v more : List ℕ) → list_all p v ≡ true → length v ≤ prefix_len p (v ++ more)
all_le_prefix p [] more e = omega arith
all_le_prefix p (x ∷ xs) more e =
    let h = all_le_prefix p xs more (and_right (p x) (list_all p xs) e) in
    let c = cond_true (p x) (1 + prefix_len p (xs ++ more)) 0 (and_left (p x) (list_all p xs) e) in
    omega (arith, h, c)

pub prefix_all : (p : ℕ → Bool) (xs : List ℕ) → list_all p (take (prefix_len p xs) xs) ≡ true
prefix_all p [] = refl
prefix_all p (x ∷ xs) = bool_cases (p x) _
    (λ e. rw e (let h : 1 + prefix_len p xs ≡ suc (prefix_len p xs) = omega arith in rw h (rw e (prefix_all p xs))))
    (λ e. rw e refl)

-- a run of bytes is the longest piece, where only they may follow its first
pub run_longest : (indent : ℕ) (p : ℕ → Bool) (b : ℕ) (t : List ℕ) (what : Option Word) → is_lead b ≡ false → ((u : List ℕ) → ends b u ≡ true → list_all p u ≡ true)
    → Spelled (b ∷ take (prefix_len p t) t) what → IsLongest indent (b ∷ t) (b ∷ take (prefix_len p t) t) what
run_longest indent p b t what lead k s = longest_from indent b t (b ∷ take (prefix_len p t) t) (drop (prefix_len p t) t) what lead
    (ap (λ (x : List ℕ). b ∷ x) (sym (take-append-drop (prefix_len p t) t))) s
    (λ u after tail h.
    let le = all_le_prefix p u after (k u h) in
    let e = ap (prefix_len p) tail in
    let l = length-take (prefix_len p t) t in
    let m = prefix_len-le-length p t in
    omega (arith, le, e, l, m))

pub name_longest : (indent : ℕ) (b : ℕ) (t : List ℕ) (what : Option Word) → is_letter b ≡ true → Spelled (b ∷ take (prefix_len is_name_byte t) t) what
    → IsLongest indent (b ∷ t) (b ∷ take (prefix_len is_name_byte t) t) what
name_longest indent b t what e s = run_longest indent is_name_byte b t what (letter_no_lead b e) (λ u h. sym (ends_letter b u e) ∙ h) s

-- ---- other pieces

-- one branch of a table
pick : {A : Type 0} (c : Bool) (x m : A) (more : Option A) (P : Type 0) → cond c (Some x) more ≡ Some m → (c ≡ true → x ≡ m → P) → (more ≡ Some m → P) → P
pick true x m more P e f g = f refl (cc)
pick false x m more P e f g = g e

mark_is : (x k b : ℕ) → slice_get marks k ≡ Some (x ∷ []) → b ≡ x → slice_get marks k ≡ Some (b ∷ [])
mark_is x k b h e = h ∙ ap (λ (y : ℕ). Some (y ∷ [])) (sym e)

entry : (x k m b : ℕ) → slice_get marks k ≡ Some (x ∷ []) → (b == x) ≡ true → k ≡ m → slice_get marks m ≡ Some (b ∷ [])
entry x k m b h t e = subst (λ (j : ℕ). slice_get marks j ≡ Some (b ∷ [])) e (mark_is x k b h (eqb-true b x t))

pub mark_spells : (b m : ℕ) → one_mark b ≡ Some m → slice_get marks m ≡ Some (b ∷ [])
mark_spells b m e =
    pick (b == 40) 0 m _ _ e (entry 40 0 m b refl) (λ e. pick (b == 41) 1 m _ _ e (entry 41 1 m b refl) (λ e.
    pick (b == 91) 2 m _ _ e (entry 91 2 m b refl) (λ e. pick (b == 93) 3 m _ _ e (entry 93 3 m b refl) (λ e.
    pick (b == 123) 4 m _ _ e (entry 123 4 m b refl) (λ e. pick (b == 125) 5 m _ _ e (entry 125 5 m b refl) (λ e.
    pick (b == 42) 6 m _ _ e (entry 42 6 m b refl) (λ e. pick (b == 47) 7 m _ _ e (entry 47 7 m b refl) (λ e.
    pick (b == 43) 8 m _ _ e (entry 43 8 m b refl) (λ e. pick (b == 45) 9 m _ _ e (entry 45 9 m b refl) (λ e.
    pick (b == 44) 11 m _ _ e (entry 44 11 m b refl) (λ e. pick (b == 46) 12 m _ _ e (entry 46 12 m b refl) (λ e.
    pick (b == 58) 13 m _ _ e (entry 58 13 m b refl) (λ e. pick (b == 59) 14 m _ _ e (entry 59 14 m b refl) (λ e.
    pick (b == 61) 15 m _ _ e (entry 61 15 m b refl) (λ e. cc)))))))))))))))

-- ---- the pieces that begin with no letter and no digit

-- what `other` answers of a byte and the rest
pub record OtherIs (indent b : ℕ) (t text : List ℕ) (shape : Shape) (n : ℕ) : Type 0 where
  pub w : List ℕ
  pub longest : IsLongest indent (b ∷ t) w (what_of indent text shape)
  pub size : n ≡ length w
  pub small : IsSmall (what_of indent text shape)
  pub has : HasPart text shape

other_from : (indent : ℕ) (b : ℕ) (t text w : List ℕ) (s s' : Shape) (n n' : ℕ) → IsLongest indent (b ∷ t) w (what_of indent text s) → n ≡ length w → IsSmall (what_of indent text s) → HasPart text s → s ≡ s' → n ≡ n' → OtherIs indent b t text s' n'
other_from indent b t text w s s' n n' l z small has e f = record {
  w = w;
  longest = subst (λ (x : Shape). IsLongest indent (b ∷ t) w (what_of indent text x)) e l;
  size = sym f ∙ z;
  small = subst (λ (x : Shape). IsSmall (what_of indent text x)) e small;
  has = subst (λ (x : Shape). HasPart text x) e has;
}

-- one branch
choose : {A : Type 0} (c : Bool) (x m : A) (more : Option A) (P : Type 0) → cond c (Some x) more ≡ Some m → (c ≡ true → x ≡ m → P) → (c ≡ false → more ≡ Some m → P) → P
choose true x m more P e f g = f refl (cc)
choose false x m more P e f g = g refl e

refuse : {A : Type 0} (c : Bool) (x : A) (more : Option A) (P : Type 0) → cond c (Some x) more ≡ None → (c ≡ false → more ≡ None → P) → P
refuse true x more P e g = cc
refuse false x more P e g = g refl e

and_false : (a b : Bool) → (a && b) ≡ false → a ≡ true → b ≡ false
and_false true b e t = e
and_false false b e t = cc

-- a first byte that is known
known : (indent : ℕ) (b x : ℕ) (t w : List ℕ) (what : Option Word) → (b == x) ≡ true → IsLongest indent (x ∷ t) (x ∷ w) what → IsLongest indent (b ∷ t) (x ∷ w) what
known indent b x t w what e l = subst (λ (y : ℕ). IsLongest indent (y ∷ t) (x ∷ w) what) (sym (eqb-true b x e)) l

-- a second byte that is known
second : (t : List ℕ) (x : ℕ) → (get_or t 0 0 == x) ≡ true → (0 == x) ≡ false → t ≡ x ∷ drop 1 t
second [] x e f = cc
second (c ∷ t) x e f = ap (λ (y : ℕ). y ∷ t) (eqb-true c x e)

two_bytes : (indent : ℕ) (b x : ℕ) (t : List ℕ) (what : Option Word) → is_lead b ≡ false → Spelled (b ∷ x ∷ []) what → ((u : List ℕ) → ends b u ≡ true → length u ≤ 1) → t ≡ x ∷ drop 1 t → IsLongest indent (b ∷ t) (b ∷ x ∷ []) what
two_bytes indent b x t what lead s k e = longest_from indent b t (b ∷ x ∷ []) (drop 1 t) what lead (ap (λ (y : List ℕ). b ∷ y) e) s (λ u after tail h. let l = k u h in omega (arith, l))

one_le : (c : ℕ) (u : List ℕ) → is_one c u ≡ true → length u ≤ 1
one_le c u e = let h = ap length (one_length c u e) in omega (arith, h)

minus_le : (u : List ℕ) → (is_empty u || is_one 62 u) ≡ true → length u ≤ 1
minus_le u e = or_cases (is_empty u) (is_one 62 u) _ e (λ h. let l = empty_length u h in omega (arith, l)) (λ h. one_le 62 u h)

-- a mark of one byte, with nothing behind it that would make it a longer one
mark_ends : (b : ℕ) (t u after : List ℕ) → is_letter b ≡ false → is_digit b ≡ false → (b == 36) ≡ false → (b == 92) ≡ false → (b == 13) ≡ false → ((b == 45) ≡ true → (get_or t 0 0 == 62) ≡ false) → t ≡ u ++ after → ends b u ≡ true → is_empty u ≡ true
mark_ends b t u after l d dollar slash cr minus tail h =
    let o : ends_other b u ≡ true = sym (ends_rest b u l d dollar slash) ∙ h in
    let o2 : cond (b == 45) (is_empty u || is_one 62 u) (is_single b && is_empty u) ≡ true = sym (cond_false (b == 13) (is_one 10 u) _ cr) ∙ o in
    bool_cases (b == 45) _
    (λ e. or_cases (is_empty u) (is_one 62 u) _ (sym (cond_true (b == 45) (is_empty u || is_one 62 u) (is_single b && is_empty u) e) ∙ o2) (λ h. h)
    (λ h. let is : u ≡ 62 ∷ [] = one_length 62 u h in
    let at : t ≡ 62 ∷ after = tail ∙ ap (λ (x : List ℕ). x ++ after) is in
    let no : (get_or t 0 0 == 62) ≡ false = minus e in
    let yes : (get_or t 0 0 == 62) ≡ true = ap (λ (x : List ℕ). get_or x 0 0 == 62) at in
    let both : true ≡ false = sym yes ∙ no in cc))
    (λ e. and_right (is_single b) (is_empty u) (sym (cond_false (b == 45) (is_empty u || is_one 62 u) (is_single b && is_empty u) e) ∙ o2))

mark_longest : (indent : ℕ) (b : ℕ) (t : List ℕ) (k : ℕ) → is_lead b ≡ false → is_letter b ≡ false → is_digit b ≡ false → (b == 36) ≡ false → (b == 92) ≡ false → (b == 13) ≡ false → ((b == 45) ≡ true → (get_or t 0 0 == 62) ≡ false) → slice_get marks k ≡ Some (b ∷ []) → IsLongest indent (b ∷ t) (b ∷ []) (Some (Mark k))
mark_longest indent b t k lead l d dollar slash cr minus s = longest_from indent b t (b ∷ []) t _ lead refl s (λ u after tail h. let e = empty_length u (mark_ends b t u after l d dollar slash cr minus tail h) in omega (arith, e))

-- no mark of one byte is a carriage return
no_return : (b k : ℕ) → one_mark b ≡ Some k → (b == 13) ≡ false
no_return b k e = bool_cases (b == 13) _ (λ h. let x = eqb-true b 13 h in let n : one_mark 13 ≡ Some k = sym (ap one_mark x) ∙ e in cc) (λ h. h)

abbrev shape_of : (Shape × ℕ) → Shape
shape_of p = p.0

abbrev size_of : (Shape × ℕ) → ℕ
size_of p = p.1

pub other_ok : (indent : ℕ) (b : ℕ) (t text : List ℕ) (s : Shape) (n : ℕ) → is_lead b ≡ false → is_letter b ≡ false → is_digit b ≡ false → (b == 36) ≡ false → (b == 92) ≡ false → other b (get_or t 0 0) ≡ Some (s, n) → OtherIs indent b t text s n
other_ok indent b t text s n lead l d dollar slash e =
    choose (b == 32 || b == 9) (shape.Blank, 1) (s, n) _ _ e
    (λ h q. or_cases (b == 32) (b == 9) _ h
    (λ x. other_from indent b t text (32 ∷ []) shape.Blank s 1 n (known indent b 32 t [] None x (one_byte indent 32 t None refl (inl refl) (λ u z. z))) refl (λ m z. cc) tt (ap shape_of q) (ap size_of q))
    (λ x. other_from indent b t text (9 ∷ []) shape.Blank s 1 n (known indent b 9 t [] None x (one_byte indent 9 t None refl (inr (inl refl)) (λ u z. z))) refl (λ m z. cc) tt (ap shape_of q) (ap size_of q)))
    (λ _ e. choose (b == 10) (shape.Newline, 1) (s, n) _ _ e
    (λ x q. other_from indent b t text (10 ∷ []) shape.Newline s 1 n (known indent b 10 t [] _ x (one_byte indent 10 t (Some Newline) refl (inl refl) (λ u z. z))) refl (λ m z. cc) tt (ap shape_of q) (ap size_of q))
    (λ _ e. choose (b == 13 && get_or t 0 0 == 10) (shape.Newline, 2) (s, n) _ _ e
    (λ x q. other_from indent b t text (13 ∷ 10 ∷ []) shape.Newline s 2 n
    (known indent b 13 t (10 ∷ []) _ (and_left _ _ x) (two_bytes indent 13 10 t (Some Newline) refl (inr refl) (λ u z. one_le 10 u z) (second t 10 (and_right _ _ x) refl))) refl (λ m z. cc) tt (ap shape_of q) (ap size_of q))
    (λ _ e. choose (b == 45 && get_or t 0 0 == 62) (shape.Mark 10, 2) (s, n) _ _ e
    (λ x q. other_from indent b t text (45 ∷ 62 ∷ []) (shape.Mark 10) s 2 n
    (known indent b 45 t (62 ∷ []) _ (and_left _ _ x) (two_bytes indent 45 62 t (Some (Mark 10)) refl refl (λ u z. minus_le u z) (second t 62 (and_right _ _ x) refl))) refl (λ m z. cc) tt (ap shape_of q) (ap size_of q))
    (λ bare e. one_mark_ok (one_mark b) refl (and_false (b == 45) (get_or t 0 0 == 62) bare) e))))
  where
    one_mark_ok : (o : Option ℕ) → one_mark b ≡ o → ((b == 45) ≡ true → (get_or t 0 0 == 62) ≡ false) → one_mark_shape o ≡ Some (s, n) → OtherIs indent b t text s n
    one_mark_ok None i bare e = cc
    one_mark_ok (Some k) i bare e = let q = some_pair_parts (shape.Mark k) s 1 n e in other_from indent b t text (b ∷ []) (shape.Mark k) s 1 n (mark_longest indent b t k lead l d dollar slash (no_return b k i) bare (mark_spells b k i)) refl (λ m z. cc) tt q.0 q.1

-- nothing begins there
single_no : (b : ℕ) → (b == 32 || b == 9) ≡ false → (b == 10) ≡ false → one_mark b ≡ None → is_single b ≡ false
single_no b e f g = grind (arith, ap (λ (o : Option ℕ). is_some o) g)

pub other_none : (indent : ℕ) (b : ℕ) (t : List ℕ) → is_lead b ≡ false → is_letter b ≡ false → is_digit b ≡ false → (b == 36) ≡ false → (b == 92) ≡ false → other b (get_or t 0 0) ≡ None → (w more : List ℕ) (what : Option Word) → b ∷ t ≡ w ++ more → Spells indent (b ∷ t) w what → ⊥
other_none indent b t lead l d dollar slash e =
    refuse (b == 32 || b == 9) (shape.Blank, 1) _ _ e (λ blank e. refuse (b == 10) (shape.Newline, 1) _ _ e (λ nl e.
    refuse (b == 13 && get_or t 0 0 == 10) (shape.Newline, 2) _ _ e (λ cr e. refuse (b == 45 && get_or t 0 0 == 62) (shape.Mark 10, 2) _ _ e (λ arrow e.
    none_from indent b t lead (λ u after tail h.
    let none : one_mark b ≡ None = no_mark (one_mark b) e in
    let o : ends_other b u ≡ true = sym (ends_rest b u l d dollar slash) ∙ h in
    bool_cases (b == 13) ⊥
    (λ x. let is : u ≡ 10 ∷ [] = one_length 10 u (sym (cond_true (b == 13) (is_one 10 u) (cond (b == 45) (is_empty u || is_one 62 u) (is_single b && is_empty u)) x) ∙ o) in
    let at : t ≡ 10 ∷ after = tail ∙ ap (λ (x : List ℕ). x ++ after) is in
    let yes : (get_or t 0 0 == 10) ≡ true = ap (λ (x : List ℕ). get_or x 0 0 == 10) at in
    let both : true ≡ false = sym yes ∙ and_false (b == 13) (get_or t 0 0 == 10) cr x in cc)
    (λ x. bool_cases (b == 45) ⊥
    (λ y. let i : one_mark 45 ≡ None = sym (ap one_mark (eqb-true b 45 y)) ∙ none in cc)
    (λ y. let o2 : (is_single b && is_empty u) ≡ true = sym (cond_false (b == 13) (is_one 10 u) (cond (b == 45) (is_empty u || is_one 62 u) (is_single b && is_empty u)) x ∙ cond_false (b == 45) (is_empty u || is_one 62 u) (is_single b && is_empty u) y) ∙ o in
    let both : true ≡ false = sym (and_left (is_single b) (is_empty u) o2) ∙ single_no b blank nl none in cc)))))))
  where
    no_mark : (o : Option ℕ) → one_mark_shape o ≡ None → o ≡ None
    no_mark None e = refl
    no_mark (Some k) e = cc

two_length : (b c : ℕ) (u : List ℕ) → is_two b c u ≡ true → u ≡ b ∷ c ∷ []
two_length b c [] e = cc
two_length b c (x ∷ u) e = ap (λ (y : ℕ). y ∷ u) (eqb-true x b (and_left _ _ e)) ∙ ap (λ (v : List ℕ). b ∷ v) (one_length c u (and_right _ _ e))

-- ---- a `$` and a name

pub dollar_longest : (indent : ℕ) (t name : List ℕ) → name ≡ take (prefix_len is_name_byte t) t → is_name name ≡ true → IsLongest indent (36 ∷ t) (36 ∷ name) (Some (Name name))
dollar_longest indent t name i named = longest_from indent 36 t (36 ∷ name) (drop (prefix_len is_name_byte t) t) (Some (Name name)) refl
    (ap (λ (x : List ℕ). 36 ∷ x) (sym (take-append-drop (prefix_len is_name_byte t) t) ∙ ap (λ (x : List ℕ). x ++ drop (prefix_len is_name_byte t) t) (sym i))) (named, inr refl)
    (λ u after tail h.
    let le = all_le_prefix is_name_byte u after (name_bytes u h) in
    let e = ap (prefix_len is_name_byte) tail in
    let l = length-take (prefix_len is_name_byte t) t in
    let m = prefix_len-le-length is_name_byte t in
    let n = ap length i in
    omega (arith, le, e, l, m, n))

pub dollar_none : (indent : ℕ) (t : List ℕ) → is_letter (get_or t 0 0) ≡ false → (w more : List ℕ) (what : Option Word) → 36 ∷ t ≡ w ++ more → Spells indent (36 ∷ t) w what → ⊥
dollar_none indent t e = none_from indent 36 t refl (λ u after tail h. bare u h after tail)
  where
    bare : (u : List ℕ) → is_name u ≡ true → (after : List ℕ) → t ≡ u ++ after → ⊥
    bare [] h after tail = cc
    bare (x ∷ u) h after tail = let y : is_letter (get_or t 0 0) ≡ true = ap (λ (v : List ℕ). is_letter (get_or v 0 0)) tail ∙ and_left (is_letter x) (list_all is_name_byte u) h in let z : true ≡ false = sym y ∙ e in cc

-- ---- a backslash and a newline

slash_cases : (u : List ℕ) (P : Type 0) → ends 92 u ≡ true → (u ≡ 10 ∷ [] → P) → (u ≡ 13 ∷ 10 ∷ [] → P) → P
slash_cases u P h f g = or_cases (is_one 10 u) (is_two 13 10 u) P h (λ x. f (one_length 10 u x)) (λ x. g (two_length 13 10 u x))

pub slash_none : (indent : ℕ) (t : List ℕ) → newline_len t ≡ 0 → (w more : List ℕ) (what : Option Word) → 92 ∷ t ≡ w ++ more → Spells indent (92 ∷ t) w what → ⊥
slash_none indent t e = none_from indent 92 t refl (λ u after tail h. slash_cases u ⊥ h
    (λ x. let y : newline_len t ≡ 1 = ap newline_len (tail ∙ ap (λ (v : List ℕ). v ++ after) x) in omega (arith, y, e))
    (λ x. let y : newline_len t ≡ 2 = ap newline_len (tail ∙ ap (λ (v : List ℕ). v ++ after) x) in omega (arith, y, e)))

pub slash_longest : (indent : ℕ) (t : List ℕ) → (newline_len t ≡ 0 → ⊥) → (w : List ℕ) × IsLongest indent (92 ∷ t) w None × (length w ≡ 1 + newline_len t)
slash_longest indent t k = newline_forms t _ (λ z. absurd (k z))
    (λ t' e n. (
      92 ∷ 10 ∷ [],
      longest_from indent 92 t (92 ∷ 10 ∷ []) t' None refl (ap (λ (v : List ℕ). 92 ∷ v) e) (inr (inr (inl refl)))
          (λ u after tail h. slash_cases u _ h (λ x. let l = ap length x in omega (arith, l))
          (λ x. let y : 10 ∷ t' ≡ 13 ∷ 10 ∷ after = sym e ∙ tail ∙ ap (λ (v : List ℕ). v ++ after) x in cc)),
      omega (arith, n),
    ))
    (λ t' e n. (
      92 ∷ 13 ∷ 10 ∷ [],
      longest_from indent 92 t (92 ∷ 13 ∷ 10 ∷ []) t' None refl (ap (λ (v : List ℕ). 92 ∷ v) e) (inr (inr (inr refl)))
          (λ u after tail h. slash_cases u _ h (λ x. let l = ap length x in omega (arith, l)) (λ x. let l = ap length x in omega (arith, l))),
      omega (arith, n),
    ))
