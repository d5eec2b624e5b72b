use Rattle.std.proofs.Common.{◌≡◌, ℕ, List, sym, ◌∙◌, ap, arith, Option, Some, None, subst}
use Rattle.std.proofs.lemmas.Str.{utf8_valid_len-IsUtf8}
use Rattle.fp_base.specs.Places.{place_at}
use Rattle.fp_base.specs.declared.place.Place.{Place}
use Rattle.fp_lexer.specs.Bytes.{indent_at}
use Rattle.fp_lexer.specs.Tokens.{IsLexeme, Lexeme, Lexed}
use Rattle.fp_lexer.specs.Broken.{IsStop, IsUnbroken}
use Rattle.fp_lexer.specs.Found.{IsSmall, HasPart, what_of}
use Rattle.fp_lexer.specs.declared.token.Word.{Word}
use Rattle.fp_lexer.proofs.Gives.{piece_within}
use Rattle.fp_lexer.proofs.Cuts.{piece_grows}
use Rattle.fp_lexer.proofs.First.{flaw_within, first_flaw, stops}
use Rattle.fp_lexer.proofs.State.{own_place, indent_is, state_blank, state_token, state_end}
use Rattle.fp_lexer.proofs.lexing.lex_valid.Goals as goal

pub place_after-there-requires : goal.place_after-there-requires
place_after-there-requires c =
    let bytes = c.as_bytes-bytes.result.now in
    let p : Lexeme = record { what = what_of (indent_at bytes c.pieces.at) bytes c.in-Ok.shape; from = c.pieces.at; past = c.in-Ok.past } in
    let g = piece_grows bytes p c.in-Ok.ensures.0 in
    let w = piece_within bytes p c.in-Ok.ensures.0 (omega arith) in
    record {
      place = own_place c.args.file bytes c.pieces.at c.pieces.here c.pieces.invariant.here;
      order = omega (arith, g);
      within = w;
      short = (let s = c.requires in let l = c.as_bytes-bytes.ensures.len in omega (arith, w, s, l));
    }

pub what_of-requires : goal.what_of-requires
what_of-requires c = subst (λ (text : List ℕ). HasPart text c.in-Ok.shape) c.as_bytes-bytes.ensures.value (c.in-Ok.ensures.2 c.as_bytes-bytes.ensures.utf8)

pub pieces-smaller-in_ok-standing-in-Some : goal.pieces-smaller-in_ok-standing-in-Some
pieces-smaller-in_ok-standing-in-Some c =
    let h = piece_grows c.as_bytes-bytes.result.now (record { what = what_of (indent_at c.as_bytes-bytes.result.now c.pieces.at) c.as_bytes-bytes.result.now c.in-Ok.shape; from = c.pieces.at; past = c.in-Ok.past }) c.in-Ok.ensures.0 in omega (arith, h)

pub pieces-preserved-in_ok-standing-in-Some : goal.pieces-preserved-in_ok-standing-in-Some
pieces-preserved-in_ok-standing-in-Some c =
    let bytes = c.as_bytes-bytes.result.now in
    let here : c.place_after-there.result ≡ place_at c.args.file bytes c.in-Ok.past =
    c.place_after-there.ensures ∙ ap (λ (f : ℕ). place_at f bytes c.in-Ok.past) (ap (λ (p : Place). p.file) c.pieces.invariant.here) in
    let indent = indent_is c.args.file bytes c.pieces.at c.pieces.here c.pieces.invariant.here in
    let is : what_of (indent_at bytes c.pieces.at) bytes c.in-Ok.shape ≡ Some c.in-Some.word =
    ap (λ (text : List ℕ). what_of (indent_at bytes c.pieces.at) text c.in-Ok.shape) c.as_bytes-bytes.ensures.value ∙ sym (ap (λ (n : ℕ). what_of n c.args.text.now c.in-Ok.shape) indent) ∙ sym c.in_ok-what-in-Ok.ensures ∙ c.in-Some.is in
    record {
      within = (let h = piece_within bytes (record { what = what_of (indent_at bytes c.pieces.at) bytes c.in-Ok.shape; from = c.pieces.at; past = c.in-Ok.past }) c.in-Ok.ensures.0 (omega arith) in omega (arith, h));
      here = here;
      state = state_token c.args.file bytes c.pieces.tokens c.add.new.tokens c.pieces.standing c.in_ok-standing-in-Some.standing c.pieces.at c.in-Ok.past c.in-Some.word _
          c.pieces.invariant.state
          (subst (λ (x : Option Word). IsLexeme bytes (record { what = x; from = c.pieces.at; past = c.in-Ok.past })) is c.in-Ok.ensures.0)
          (subst (λ (x : Option Word). IsSmall x) is c.in-Ok.ensures.1)
          c.in-Ok.ensures.3
          (let a = c.pieces.invariant.here in cc)
          c.in_ok-standing-in-Some.ensures;
    }

pub pieces-preserved : goal.pieces-preserved
pieces-preserved c =
    let bytes = c.as_bytes-bytes.result.now in
    let indent = indent_is c.args.file bytes c.pieces.at c.pieces.here c.pieces.invariant.here in
    let is : what_of (indent_at bytes c.pieces.at) bytes c.in-Ok.shape ≡ None =
    ap (λ (text : List ℕ). what_of (indent_at bytes c.pieces.at) text c.in-Ok.shape) c.as_bytes-bytes.ensures.value ∙ sym (ap (λ (n : ℕ). what_of n c.args.text.now c.in-Ok.shape) indent) ∙ sym c.in_ok-what-in-Ok.ensures ∙ c.in-None.is in
    record {
      within = (let h = piece_within bytes (record { what = what_of (indent_at bytes c.pieces.at) bytes c.in-Ok.shape; from = c.pieces.at; past = c.in-Ok.past }) c.in-Ok.ensures.0 (omega arith) in omega (arith, h));
      here = c.place_after-there.ensures ∙ ap (λ (f : ℕ). place_at f bytes c.in-Ok.past) (ap (λ (p : Place). p.file) c.pieces.invariant.here);
      state = state_blank c.args.file bytes c.pieces.tokens c.pieces.standing c.pieces.at c.in-Ok.past c.pieces.invariant.state
          (subst (λ (x : Option Word). IsLexeme bytes (record { what = x; from = c.pieces.at; past = c.in-Ok.past })) is c.in-Ok.ensures.0)
          c.in-Ok.ensures.3;
    }

pub refused-requires : goal.refused-requires
refused-requires c =
    let bytes = c.as_bytes-bytes.result.now in
    let s = c.pieces.invariant.state in
    let h = flaw_within bytes c.pieces.at c.in-Err.flaw.at c.in-Err.flaw.rule c.pieces-test.true c.in-Err.ensures in
    record { within = omega (arith, h); short = (let r = c.requires in let l = c.as_bytes-bytes.ensures.len in omega (arith, h, r, l)) }

pub returns-in-Err : goal.returns-in-Err
returns-in-Err c =
    let bytes = c.as_bytes-bytes.result.now in
    let s = c.pieces.invariant.state in
    let l = c.as_bytes-bytes.ensures.len in
    let v = utf8_valid_len-IsUtf8 bytes c.as_bytes-bytes.ensures.utf8 in
    let h = flaw_within bytes c.pieces.at c.in-Err.flaw.at c.in-Err.flaw.rule c.pieces-test.true c.in-Err.ensures in
    let f = first_flaw bytes c.pieces.at s.ps c.in-Err.flaw c.pieces-test.true (omega (arith, v)) (let r = c.requires in omega (arith, r, l)) s.cuts s.whole c.in-Err.ensures (omega (arith, h, v)) in
    subst (λ (text : List ℕ). IsStop c.args.file text c.refused.result) c.as_bytes-bytes.ensures.value (stops c.args.file bytes c.in-Err.flaw c.refused.result c.refused.ensures f)

pub returns : goal.returns
returns c =
    let bytes = c.as_bytes-bytes.result.now in
    let l = c.as_bytes-bytes.ensures.len in
    subst (λ (text : List ℕ). Lexed c.args.file text c.pieces.tokens × IsUnbroken c.args.file text) c.as_bytes-bytes.ensures.value
    (state_end c.args.file bytes c.pieces.tokens c.pieces.standing c.pieces.at c.pieces.invariant.state (let h = c.pieces.invariant.within in omega (arith, h)) (let r = c.requires in omega (arith, r, l)) c.as_bytes-bytes.ensures.utf8)
