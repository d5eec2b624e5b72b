-- Copying the parts of a body that stay.
use Rattle.std.proofs.Common.{◌≡◌, ℕ, ◌<◌, ◌≤◌, ◌+◌, ◌-◌, List, [], ◌∷◌, ◌++◌, length, take, drop, get_or, sym, ap, ◌∙◌, arith, refl, true, false, get_or-drop, drop-drop, length-drop, append_assoc}
use Rattle.std.specs.Prelude.{◌==◌}
use Rattle.std.specs.Str.{IsUtf8, IsCharBoundary}
use Rattle.std.proofs.lemmas.Bool.{ne_eqb}
use Rattle.std.proofs.lemmas.List.{drop_more, take_more}
use Rattle.std.proofs.lemmas.Str.{IsCharBoundary-after_ascii}
use Rattle.fp_lexer.specs.Bytes.{body_text}
use Rattle.fp_lexer.proofs.Runs.{cond_false}
use Rattle.fp_lexer.proofs.Parts.{at_ascii}

-- a part with the byte behind it
pub run_more : (xs : List ℕ) (from at : ℕ) → from ≤ at → at < length xs → take ((at + 1) - from) (drop from xs) ≡ take (at - from) (drop from xs) ++ get_or xs at 0 ∷ []
run_more xs from at le h =
    let d = length-drop from xs in
    let size : (at + 1) - from ≡ (at - from) + 1 = omega (arith, le) in
    let there : from + (at - from) ≡ at = omega (arith, le) in
    ap (λ (k : ℕ). take k (drop from xs)) size ∙ take_more (drop from xs) (at - from) 0 (omega (arith, d, le, h))
    ∙ ap (λ (b : ℕ). take (at - from) (drop from xs) ++ b ∷ []) (get_or-drop from xs (at - from) 0 ∙ ap (λ (k : ℕ). get_or xs k 0) there)

-- a byte that stays, where the rest behind it becomes r
pub stays : (text xs r : List ℕ) (from at : ℕ) → from ≤ at → at < length xs
    → text ++ take ((at + 1) - from) (drop from xs) ++ r ≡ text ++ take (at - from) (drop from xs) ++ get_or xs at 0 ∷ r
stays text xs r from at le h =
    let part = take (at - from) (drop from xs) in
    ap (λ (x : List ℕ). text ++ x ++ r) (run_more xs from at le h) ∙ ap (λ (x : List ℕ). x ++ r) (sym (append_assoc text part (get_or xs at 0 ∷ [])))
    ∙ append_assoc (text ++ part) (get_or xs at 0 ∷ []) r

-- ---- escapes

pub plain_byte : (text body : List ℕ) (from at : ℕ) → from ≤ at → at < length body → (get_or body at 0 ≡ 92 → ⊥)
    → text ++ take ((at + 1) - from) (drop from body) ++ body_text false (drop (at + 1) body) ≡ text ++ take (at - from) (drop from body) ++ body_text false (drop at body)
plain_byte text body from at le h plain =
    let rest : body_text false (drop at body) ≡ get_or body at 0 ∷ body_text false (drop (at + 1) body) =
    ap (body_text false) (drop_more body at 0 h) ∙ cond_false (get_or body at 0 == 92) (body_text true (drop (at + 1) body)) (get_or body at 0 ∷ body_text false (drop (at + 1) body)) (ne_eqb (get_or body at 0) 92 plain) in
    stays text body (body_text false (drop (at + 1) body)) from at le h ∙ sym (ap (λ (r : List ℕ). text ++ take (at - from) (drop from body) ++ r) rest)

one_kept : (bs : List ℕ) → body_text true bs ≡ take 1 bs ++ body_text false (drop 1 bs)
one_kept [] = refl
one_kept (b ∷ bs) = refl

pub escaped_byte : (text new body : List ℕ) (from at : ℕ) → at < length body → get_or body at 0 ≡ 92 → new ≡ text ++ take (at - from) (drop from body)
    → new ++ take ((at + 2) - (at + 1)) (drop (at + 1) body) ++ body_text false (drop (at + 2) body) ≡ text ++ take (at - from) (drop from body) ++ body_text false (drop at body)
escaped_byte text new body from at h slash copied =
    let one : (at + 2) - (at + 1) ≡ 1 = omega arith in
    let two : (at + 1) + 1 ≡ at + 2 = omega arith in
    let next : drop (at + 2) body ≡ drop 1 (drop (at + 1) body) = sym (drop-drop 1 (at + 1) body ∙ ap (λ (k : ℕ). drop k body) two) in
    let first : drop at body ≡ 92 ∷ drop (at + 1) body = drop_more body at 0 h ∙ ap (λ (b : ℕ). b ∷ drop (at + 1) body) slash in
    let rest : body_text false (drop at body) ≡ take ((at + 2) - (at + 1)) (drop (at + 1) body) ++ body_text false (drop (at + 2) body) =
    ap (body_text false) first ∙ one_kept (drop (at + 1) body)
    ∙ ap (λ (k : ℕ). take k (drop (at + 1) body) ++ body_text false (drop 1 (drop (at + 1) body))) (sym one)
    ∙ ap (λ (r : List ℕ). take ((at + 2) - (at + 1)) (drop (at + 1) body) ++ body_text false r) (sym next) in
    let one = take ((at + 2) - (at + 1)) (drop (at + 1) body) in
    let tail = body_text false (drop (at + 2) body) in
    ap (λ (x : List ℕ). x ++ one ++ tail) copied ∙ append_assoc (text ++ take (at - from) (drop from body)) one tail
    ∙ ap (λ (r : List ℕ). text ++ take (at - from) (drop from body) ++ r) (sym rest)

-- behind a backslash a character begins
pub behind_escape : (body : List ℕ) (at b : ℕ) → IsUtf8 body → at < length body → get_or body at 0 ≡ b → b < 128 → IsCharBoundary body (at + 1)
behind_escape body at b utf8 h e a = IsCharBoundary-after_ascii body at utf8 h (omega (arith, e, a))

pub before_escape : (body : List ℕ) (at b : ℕ) → at < length body → get_or body at 0 ≡ b → b < 128 → IsCharBoundary body at
before_escape body at b h e a = at_ascii body at (omega arith) (omega (arith, e, a))
