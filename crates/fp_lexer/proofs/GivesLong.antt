-- The string between `"""` at an offset of a text, from what the parts of the lexer say.
use Rattle.std.proofs.Common.{◌≡◌, ℕ, ◌<◌, ◌≤◌, ◌+◌, ◌-◌, List, [], ◌∷◌, ◌++◌, length, take, drop, get_or, Some, None, Ok, sym, ap, ◌∙◌, arith, refl, true, false, subst, ◌&&◌, length-append, get_or-drop, append_assoc, drop-drop, take_at, inr}
use Rattle.std.specs.Prelude.{◌==◌}
use Rattle.std.proofs.lemmas.Bool.{eqb-true}
use Rattle.fp_lexer.specs.Bytes.{long_text, indent_at}
use Rattle.fp_lexer.specs.Scan.{long_len, bad_len, string_len}
use Rattle.fp_lexer.specs.Found.{IsPart, IsFlawed, GivesLexeme}
use Rattle.fp_lexer.specs.Broken.{NoneBegins}
use Rattle.fp_lexer.specs.Tokens.{begins_long, IsLongBody, IsLexeme}
use Rattle.fp_base.specs.declared.rule.Rule.TheVariants.{BadEscape}
use Rattle.fp_base.proofs.Bools.{and_left, and_right}
use Rattle.fp_lexer.specs.declared.shape.Shape.TheVariants as shape
use Rattle.fp_lexer.specs.declared.token.Word.TheVariants.{Str}
use Rattle.fp_lexer.proofs.Runs.{cond_true}
use Rattle.fp_lexer.proofs.Lined.{lined_longest, lead_none, quoted, long_quoted}
use Rattle.fp_lexer.proofs.LongStrings.{long_sound, long_body, bad_is, bad_first_is, bad_none, bad_within, same_body}
use Rattle.fp_lexer.proofs.Parts.{quoted_part}
use Rattle.fp_lexer.proofs.Gives.{first_is, none_first, long_is, within_from, first_behind}

-- two more `"` stand behind the byte
abbrev pub long_at : List ℕ → ℕ → Type 0
long_at text at = (get_or text (at + 1) 0 == 34 && get_or text (at + 2) 0 == 34) ≡ true

second : (text : List ℕ) (at : ℕ) → long_at text at → get_or text (at + 1) 0 ≡ 34
second text at e = eqb-true _ 34 (and_left (get_or text (at + 1) 0 == 34) (get_or text (at + 2) 0 == 34) e)

third : (text : List ℕ) (at : ℕ) → long_at text at → get_or text (at + 2) 0 ≡ 34
third text at e = eqb-true _ 34 (and_right (get_or text (at + 1) 0 == 34) (get_or text (at + 2) 0 == 34) e)

pub long_within : (text : List ℕ) (at : ℕ) → long_at text at → at + 2 < length text
long_within text at e = within_from text (at + 2) 34 (third text at e) (omega arith)

opening : (text : List ℕ) (at : ℕ) → at < length text → get_or text at 0 ≡ 34 → long_at text at → drop at text ≡ 34 ∷ 34 ∷ 34 ∷ drop (at + 3) text
opening text at h q e =
    let w = long_within text at e in
    let two : (at + 1) + 1 ≡ at + 2 = omega arith in
    let three : (at + 2) + 1 ≡ at + 3 = omega arith in
    let c : drop (at + 2) text ≡ 34 ∷ drop (at + 3) text = first_is text (at + 2) 34 w (third text at e) ∙ ap (λ (k : ℕ). 34 ∷ drop k text) three in
    let b : drop (at + 1) text ≡ 34 ∷ 34 ∷ drop (at + 3) text = first_is text (at + 1) 34 (omega (arith, w)) (second text at e) ∙ ap (λ (k : ℕ). 34 ∷ drop k text) two ∙ ap (λ (x : List ℕ). 34 ∷ x) c in
    first_is text at 34 h q ∙ ap (λ (x : List ℕ). 34 ∷ x) b

pub unclosed : (text : List ℕ) (at : ℕ) → at < length text → get_or text at 0 ≡ 34 → long_at text at → long_len false (drop (at + 3) text) ≡ None → NoneBegins text at
unclosed text at h q l e =
    let t = drop (at + 1) text in
    let long : begins_long (34 ∷ t) ≡ true = sym (ap begins_long (first_is text at 34 h q)) ∙ long_is text at ∙ l in
    let behind : drop 2 t ≡ drop (at + 3) text = drop-drop 2 (at + 1) text ∙ ap (λ (k : ℕ). drop k text) (omega arith) in
    none_first text at 34 h q (lead_none (indent_at text at) 34 t (inr (inr refl))
    (cond_true (begins_long (34 ∷ t)) (long_quoted (indent_at text at) (drop 2 t) (long_len false (drop 2 t))) (quoted t (string_len false t)) long
    ∙ ap (long_quoted (indent_at text at) (drop 2 t)) (ap (long_len false) behind ∙ e)))

-- a body at a place is a piece
pub body_piece : (text : List ℕ) (at : ℕ) (raw : List ℕ) → IsLongBody (drop at text) raw → IsLexeme text (record { what = Some (Str (long_text (indent_at text at) raw)); from = at; past = at + 6 + length raw })
body_piece text at raw body =
    let w = 34 ∷ 34 ∷ 34 ∷ raw ++ 34 ∷ 34 ∷ 34 ∷ [] in
    let a = length-append raw (34 ∷ 34 ∷ 34 ∷ []) in (
      w,
      lined_longest (indent_at text at) (drop at text) w body.more (Some (Str (long_text (indent_at text at) raw)))
          (body.splits ∙ ap (λ (x : List ℕ). 34 ∷ 34 ∷ 34 ∷ x) (sym (append_assoc raw (34 ∷ 34 ∷ 34 ∷ []) body.more)))
          (inr (raw, body, refl, refl)),
      omega (arith, a),
    )

-- what was read as far as an offset
pub record LongRead (text : List ℕ) (at end : ℕ) : Type 0 where
  pub body : IsLongBody (drop at text) (take (end - (at + 3)) (drop (at + 3) text))
  pub size : end ≡ at + 3 + length (take (end - (at + 3)) (drop (at + 3) text))

pub long_read : (text : List ℕ) (at end : ℕ) → at < length text → get_or text at 0 ≡ 34 → long_at text at → at + 3 ≤ end → long_len false (drop (at + 3) text) ≡ Some (end - (at + 3)) → LongRead text at end
long_read text at end h q l le e =
    let t = drop (at + 3) text in
    let r = long_sound false t (end - (at + 3)) e in
    let size = r.size in
    let raw : r.raw ≡ take (end - (at + 3)) t = sym (ap (λ (x : List ℕ). take (end - (at + 3)) x) r.splits ∙ take_at r.raw (34 ∷ 34 ∷ 34 ∷ r.more) (end - (at + 3)) (sym size)) in
    let n = ap length raw in
    record {
      body = subst (λ (x : List ℕ). IsLongBody (drop at text) x) raw (long_body (drop at text) t (end - (at + 3)) r (opening text at h q l) e);
      size = omega (arith, n, size, le);
    }

pub bad_flaw : (text : List ℕ) (at end n : ℕ) → LongRead text at end → bad_len false (take (end - (at + 3)) (drop (at + 3) text)) ≡ Some n → IsFlawed text at BadEscape (at + 3 + n)
bad_flaw text at end n r e =
    let raw = take (end - (at + 3)) (drop (at + 3) text) in (
      (raw, n, r.body, bad_is raw n e, refl),
      λ other b.
          let same : b.0 ≡ raw = same_body (drop at text) b.0 raw b.2 r.body in
          let least = bad_first_is b.0 n b.1 (ap (bad_len false) same ∙ e) b.3 in
          let there = b.4 in omega (arith, least, there),
    )

pub bad_in_text : (text : List ℕ) (at end n : ℕ) → LongRead text at end → bad_len false (take (end - (at + 3)) (drop (at + 3) text)) ≡ Some n → at + 3 + n < end
bad_in_text text at end n r e =
    let raw = take (end - (at + 3)) (drop (at + 3) text) in
    let h = bad_within raw n (bad_is raw n e) in
    let size = r.size in omega (arith, h, size)

pub gives_long : (text : List ℕ) (at end : ℕ) → at < length text → get_or text at 0 ≡ 34 → long_at text at → at + 3 ≤ end → end + 3 ≤ length text → LongRead text at end
    → bad_len false (take (end - (at + 3)) (drop (at + 3) text)) ≡ None → GivesLexeme text at (Ok (shape.Long (record { from = at + 3; past = end }), end + 3))
gives_long text at end h q l le within r none =
    let raw = take (end - (at + 3)) (drop (at + 3) text) in
    let size = r.size in
    let there : end ≡ at + (3 + length raw) = omega (arith, size) in
    let behind : 3 + length raw ≡ length (34 ∷ 34 ∷ 34 ∷ raw) = omega arith in
    let close : get_or text end 0 ≡ 34 =
    ap (λ (k : ℕ). get_or text k 0) there ∙ sym (get_or-drop at text (3 + length raw) 0) ∙ ap (λ (x : List ℕ). get_or x (3 + length raw) 0) r.body.splits
    ∙ ap (λ (k : ℕ). get_or (34 ∷ 34 ∷ 34 ∷ raw ++ 34 ∷ 34 ∷ 34 ∷ r.body.more) k 0) behind ∙ first_behind (34 ∷ 34 ∷ 34 ∷ raw) 34 (34 ∷ 34 ∷ r.body.more) in
    let third_is = third text at l in (
      subst (λ (k : ℕ). IsLexeme text (record { what = Some (Str (long_text (indent_at text at) raw)); from = at; past = k })) (omega (arith, size)) (body_piece text at raw r.body),
      λ n z. cc,
      λ utf8. subst (λ (k : ℕ). IsPart text (record { from = k; past = end })) (omega arith)
          (quoted_part text (at + 2) end utf8 (long_within text at l) (omega (arith, third_is)) (omega (arith, le)) (omega (arith, within)) (omega (arith, close))),
      λ there b.
          let same : b.0 ≡ raw = same_body (drop at text) b.0 raw b.2 r.body in
          bad_none b.0 b.1 (ap (bad_len false) same ∙ none) b.3,
    )
