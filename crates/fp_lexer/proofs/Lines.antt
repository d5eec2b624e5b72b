-- Newlines and lines.
use Rattle.std.proofs.Common.{◌≡◌, ℕ, ◌<◌, ◌≤◌, ◌+◌, List, [], ◌∷◌, ◌++◌, length, take, drop, get_or, sym, ap, ◌∙◌, arith, refl, true, false, get_or-drop, take-append-drop, ◌&&◌}
use Rattle.std.specs.Prelude.{◌==◌}
use Rattle.std.proofs.lemmas.Bool.{eqb-true, eq-eqb, ne_eqb}
use Rattle.std.proofs.lemmas.List.{drop_more, drop_all}
use Rattle.fp_base.proofs.Bools.{and_left, and_right}
use Rattle.fp_lexer.specs.Bytes.{newline_of, newline_len, line}
use Rattle.fp_lexer.proofs.Runs.{bool_cases, cond_true, cond_false}

pub newline_here : (text : List ℕ) (at : ℕ) → at < length text → newline_len (drop at text) ≡ newline_of (get_or text at 0) (get_or text (at + 1) 0)
newline_here text at h =
    ap newline_len (drop_more text at 0 h) ∙ ap (newline_of (get_or text at 0)) (get_or-drop (at + 1) text 0 0 ∙ ap (λ (k : ℕ). get_or text k 0) (omega arith))

pub newline_past : (text : List ℕ) (at : ℕ) → length text ≤ at → newline_len (drop at text) ≡ 0
newline_past text at h = ap newline_len (drop_all at text h)

pub line_more : (text : List ℕ) (at : ℕ) → at < length text → newline_of (get_or text at 0) (get_or text (at + 1) 0) ≡ 0 → line (drop at text) ≡ get_or text at 0 ∷ line (drop (at + 1) text)
line_more text at h e =
    let n : newline_len (get_or text at 0 ∷ drop (at + 1) text) ≡ 0 = sym (ap newline_len (drop_more text at 0 h)) ∙ newline_here text at h ∙ e in
    ap line (drop_more text at 0 h) ∙ cond_true (newline_len (get_or text at 0 ∷ drop (at + 1) text) == 0) (get_or text at 0 ∷ line (drop (at + 1) text)) [] (eq-eqb _ 0 n)

pub line_stops : (text : List ℕ) (at : ℕ) → at < length text → (newline_of (get_or text at 0) (get_or text (at + 1) 0) ≡ 0 → ⊥) → line (drop at text) ≡ []
line_stops text at h e =
    let n : newline_len (get_or text at 0 ∷ drop (at + 1) text) ≡ newline_of (get_or text at 0) (get_or text (at + 1) 0) = sym (ap newline_len (drop_more text at 0 h)) ∙ newline_here text at h in
    ap line (drop_more text at 0 h) ∙ cond_false (newline_len (get_or text at 0 ∷ drop (at + 1) text) == 0) (get_or text at 0 ∷ line (drop (at + 1) text)) [] (ne_eqb _ 0 (λ z. e (sym n ∙ z)))

pub line_past : (text : List ℕ) (at : ℕ) → length text ≤ at → line (drop at text) ≡ []
line_past text at h = ap line (drop_all at text h)

pub line_takes : (xs : List ℕ) → take (length (line xs)) xs ≡ line xs
line_takes [] = refl
line_takes (b ∷ bs) = bool_cases (newline_len (b ∷ bs) == 0) _
    (λ e. let c = cond_true (newline_len (b ∷ bs) == 0) (b ∷ line bs) [] e in ap (λ (l : List ℕ). take (length l) (b ∷ bs)) c ∙ ap (λ (l : List ℕ). b ∷ l) (line_takes bs) ∙ sym c)
    (λ e. let c = cond_false (newline_len (b ∷ bs) == 0) (b ∷ line bs) [] e in ap (λ (l : List ℕ). take (length l) (b ∷ bs)) c ∙ sym c)

pub line_splits : (xs : List ℕ) → xs ≡ line xs ++ drop (length (line xs)) xs
line_splits xs = sym (take-append-drop (length (line xs)) xs) ∙ ap (λ (l : List ℕ). l ++ drop (length (line xs)) xs) (line_takes xs)

-- the newline that a text begins with
pub newline_forms : (xs : List ℕ) (P : Type 0) → (newline_len xs ≡ 0 → P) → ((t : List ℕ) → xs ≡ 10 ∷ t → newline_len xs ≡ 1 → P) → ((t : List ℕ) → xs ≡ 13 ∷ 10 ∷ t → newline_len xs ≡ 2 → P) → P
newline_forms [] P z o w = z refl
newline_forms (b ∷ []) P z o w = bool_cases (b == 10) _
    (λ e. o [] (ap (λ (x : ℕ). x ∷ []) (eqb-true b 10 e)) (cond_true (b == 10) 1 _ e))
    (λ e. bool_cases (b == 13 && 0 == 10) _ (λ f. let g : false ≡ true = and_right (b == 13) false f in cc) (λ f. z (cond_false (b == 10) 1 _ e ∙ cond_false (b == 13 && 0 == 10) 2 0 f)))
newline_forms (b ∷ c ∷ t) P z o w = bool_cases (b == 10) _
    (λ e. o (c ∷ t) (ap (λ (x : ℕ). x ∷ c ∷ t) (eqb-true b 10 e)) (cond_true (b == 10) 1 _ e))
    (λ e. bool_cases (b == 13 && c == 10) _
    (λ f. let p = eqb-true b 13 (and_left _ _ f) in let q = eqb-true c 10 (and_right _ _ f) in
    w t (ap (λ (x : ℕ). x ∷ c ∷ t) p ∙ ap (λ (x : ℕ). 13 ∷ x ∷ t) q) (cond_false (b == 10) 1 _ e ∙ cond_true (b == 13 && c == 10) 2 0 f))
    (λ f. z (cond_false (b == 10) 1 _ e ∙ cond_false (b == 13 && c == 10) 2 0 f)))
