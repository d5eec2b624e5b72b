use Rattle.std.proofs.Common.{◌≡◌, List, ℕ, [], ◌++◌, ◌-◌, take, drop, false, sym, ap, ◌∙◌, arith}
use Rattle.std.proofs.lemmas.Str.{IsCharBoundary-start}
use Rattle.fp_lexer.specs.Bytes.{body_text}
use Rattle.fp_lexer.proofs.Copies.{plain_byte, escaped_byte, behind_escape}
use Rattle.fp_lexer.proofs.shape.unescaped.Goals as goal

pub body-init : goal.body-init
body-init c = record {
  order = omega arith;
  begins = IsCharBoundary-start c.as_bytes-bytes.result.now c.as_bytes-bytes.ensures.utf8;
  rest = ap (λ (x : List ℕ). x ++ [] ++ body_text false c.as_bytes-bytes.result.now) c.new-text.ensures;
}

pub body-preserved-then-bytes-at-eq92 : goal.body-preserved-then-bytes-at-eq92
body-preserved-then-bytes-at-eq92 c =
    let bytes = c.as_bytes-bytes.result.now in
    let copied : c.push_str.new.self ≡ c.body.text ++ take (c.body.at - c.body.from) (drop c.body.from bytes) =
    c.in_ok-push_str.ensures.ok ∙ ap (λ (part : List ℕ). c.body.text ++ part) (c.range.ensures.value ∙ ap (λ (b : List ℕ). take (c.body.at - c.body.from) (drop c.body.from b)) (sym c.as_bytes-bytes.ensures.value)) in
    record {
      order = omega arith;
      begins = behind_escape bytes c.body.at 92 c.as_bytes-bytes.ensures.utf8 c.body-test.true c.if-bytes-at-eq92.true (omega arith);
      rest = escaped_byte c.body.text c.push_str.new.self bytes c.body.from c.body.at c.body-test.true c.if-bytes-at-eq92.true copied ∙ c.body.invariant.rest;
    }

pub body-preserved : goal.body-preserved
body-preserved c = record {
  order = (let h = c.body.invariant.order in omega (arith, h));
  begins = c.body.invariant.begins;
  rest = plain_byte c.body.text c.as_bytes-bytes.result.now c.body.from c.body.at c.body.invariant.order c.body-test.true c.if-bytes-at-eq92.false ∙ c.body.invariant.rest;
}
