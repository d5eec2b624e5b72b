use Rattle.std.proofs.Common.{◌≡◌, List, ℕ, [], ◌++◌, ◌+◌, ◌-◌, take, drop, sym, ap, ◌∙◌, arith, subst, cond}
use Rattle.std.specs.Str.{IsCharBoundary}
use Rattle.std.specs.Prelude.{◌==◌}
use Rattle.fp_lexer.specs.Bytes.{dedent}
use Rattle.fp_lexer.specs.Scan.{spaces}
use Rattle.fp_lexer.proofs.Dedents.{starts, starts_part, dedent_front, other_byte, newline_byte, newline_part, spaces_part}
use Rattle.fp_lexer.proofs.shape.dedented.Goals as goal

pub body-init : goal.body-init
body-init c =
    let bytes = c.as_bytes-bytes.result.now in
    let from = c.line_start-from.result in
    let at : from ≡ starts c.args.indent bytes = c.line_start-from.ensures.value ∙ ap (λ (k : ℕ). k + cond (k == 0) 0 (spaces c.args.indent (drop k bytes))) c.newline_len-newline.ensures.len in
    let within = c.line_start-from.ensures.within in
    let none : from - from ≡ 0 = omega arith in
    record {
      order = omega arith;
      within = within;
      begins = subst (λ (k : ℕ). IsCharBoundary bytes k) (sym at) (starts_part bytes c.args.indent c.as_bytes-bytes.ensures.utf8 (omega (arith, at, within)));
      rest = ap (λ (x : List ℕ). x ++ take (from - from) (drop from bytes) ++ dedent c.args.indent 0 (drop from bytes)) c.new-text.ensures
          ∙ ap (λ (k : ℕ). [] ++ take k (drop from bytes) ++ dedent c.args.indent 0 (drop from bytes)) none
          ∙ ap (λ (k : ℕ). dedent c.args.indent 0 (drop k bytes)) at ∙ sym (dedent_front c.args.indent bytes);
    }

pub range-requires-clause-end_boundary : goal.range-requires-clause-end_boundary
range-requires-clause-end_boundary c = subst (λ (b : List ℕ). IsCharBoundary b (c.body.at + 1)) c.as_bytes-bytes.ensures.value
    (newline_part c.as_bytes-bytes.result.now c.body.at c.as_bytes-bytes.ensures.utf8 c.body-test.true c.if-bytes-at-eq10.true)

pub body-preserved-then-bytes-at-eq10 : goal.body-preserved-then-bytes-at-eq10
body-preserved-then-bytes-at-eq10 c =
    let bytes = c.as_bytes-bytes.result.now in
    let utf8 = c.as_bytes-bytes.ensures.utf8 in
    let copied : c.push_str.new.self ≡ c.body.text ++ take ((c.body.at + 1) - c.body.from) (drop c.body.from bytes) =
    c.in_ok-push_str.ensures.ok ∙ ap (λ (part : List ℕ). c.body.text ++ part) (c.range.ensures.value ∙ ap (λ (b : List ℕ). take ((c.body.at + 1) - c.body.from) (drop c.body.from b)) (sym c.as_bytes-bytes.ensures.value)) in
    let value = c.spaces.ensures.value in
    let next : (c.body.at + 1) + c.spaces.result ≡ (c.body.at + 1) + spaces c.args.indent (drop (c.body.at + 1) bytes) = ap (λ (k : ℕ). (c.body.at + 1) + k) value in
    let within = c.spaces.ensures.within in
    record {
      order = omega arith;
      within = within;
      begins = subst (λ (k : ℕ). IsCharBoundary bytes k) (sym next)
          (spaces_part bytes (c.body.at + 1) c.args.indent utf8 (omega (arith, within)) (omega (arith, value, within)) (newline_part bytes c.body.at utf8 c.body-test.true c.if-bytes-at-eq10.true));
      rest = newline_byte c.body.text c.push_str.new.self bytes c.body.from c.body.at c.args.indent ((c.body.at + 1) + c.spaces.result) c.body.invariant.order c.body-test.true c.if-bytes-at-eq10.true copied next
          ∙ c.body.invariant.rest;
    }

pub body-preserved : goal.body-preserved
body-preserved c = record {
  order = (let h = c.body.invariant.order in omega (arith, h));
  within = omega (arith, c.body-test.true);
  begins = c.body.invariant.begins;
  rest = other_byte c.body.text c.as_bytes-bytes.result.now c.body.from c.body.at c.args.indent c.body.invariant.order c.body-test.true c.if-bytes-at-eq10.false ∙ c.body.invariant.rest;
}
