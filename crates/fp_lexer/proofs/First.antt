-- Which broken rule comes first.
use Rattle.std.proofs.Common.{◌≡◌, ℕ, ◌<◌, ◌≤◌, ◌+◌, ◌⊎◌, List, [], ◌∷◌, ◌++◌, length, length-append, length-drop, Some, None, sym, ap, ◌∙◌, arith, refl, subst, pos, inl, inr, ltb}
use Rattle.std.specs.Prelude.{slice_index}
use Rattle.std.specs.Str.{IsUtf8}
use Rattle.std.specs.Str.Lossy.{utf8_valid_len}
use Rattle.std.proofs.lemmas.Bool.{ltb-true, ltb-false}
use Rattle.std.proofs.lemmas.Str.{utf8_valid_len-IsUtf8}
use Rattle.fp_base.specs.Places.{place_at}
use Rattle.fp_base.specs.Rules.{row}
use Rattle.fp_base.specs.declared.place.Place.{Place}
use Rattle.fp_base.specs.declared.rule.Rule.{Rule}
use Rattle.fp_base.specs.declared.rule.Rule.TheVariants.{BadCharacter, OpenString, BadEscape, NumberTooLarge, TextTooLong}
use Rattle.fp_base.specs.declared.refusal.Stop.{Stop}
use Rattle.fp_base.specs.declared.refusal.Stop.TheVariants.{Broken}
use Rattle.fp_lexer.specs.Found.{IsSmall, IsFlawed, IsFirstFlaw}
use Rattle.fp_lexer.specs.Tokens.{IsLexeme, Lexeme, Cuts}
use Rattle.fp_lexer.specs.Bytes.{long_text, indent_at}
use Rattle.fp_lexer.specs.Broken.{Reached, NoneBegins, LargeBegins, BadEscapeAt, BrokenAt, IsUnbroken, ComesBefore, IsFirstBroken, IsStop, longest_text}
use Rattle.fp_lexer.specs.declared.token.Word.TheVariants.{Number, Str}
use Rattle.fp_lexer.specs.declared.pieces.Flaw.{Flaw}
use Rattle.fp_lexer.proofs.Runs.{bool_cases}
use Rattle.fp_lexer.proofs.Gives.{within_from}
use Rattle.fp_lexer.proofs.Rises.{places_rise}
use Rattle.fp_lexer.proofs.GivesLong.{body_piece}
use Rattle.fp_lexer.proofs.LongStrings.{bad_within}
use Rattle.fp_lexer.proofs.Cuts.{EachLexeme, IsFine, IsWhole, AllWhole, whole_fine, finer, each_push, cuts_push, meet, piece_none, small_large, piece_ends}

-- a bad escape stands behind the opening of its string, and within the text
bad_behind : (text : List ℕ) (from at : ℕ) → BadEscapeAt text from at → from + 3 ≤ at
bad_behind text from at b = let e = b.4 in omega (arith, e)

bad_in_text : (text : List ℕ) (from at : ℕ) → BadEscapeAt text from at → at < length text
bad_in_text text from at b =
    let raw = b.0 in
    let l = ap length b.2.splits in
    let a = length-append raw (34 ∷ 34 ∷ 34 ∷ b.2.more) in
    let d = length-drop from text in
    let w = bad_within raw b.1 b.3 in
    let e = b.4 in
    omega (arith, l, a, d, w, e)

-- but the length, and the first byte that belongs to no character, nothing is broken before an offset as far as which pieces reach in
-- which nothing is broken before it
pub before_reached : (text : List ℕ) (to m : ℕ) (ps : List Lexeme) (other : Rule) (there : ℕ) → Cuts text 0 ps to → EachLexeme (IsFine text m) ps → m ≤ to → length text ≤ longest_text → BrokenAt text other there
    → (m ≤ there) ⊎ (there ≡ utf8_valid_len text)
before_reached text to m ps BadCharacter there c s le short b = elim b.1 [
  | inl e ↦ inr e
  | inr n ↦ elim (meet (IsFine text m) text 0 0 to there ps n.0.0 refl c s n.0.1) [ inl h ↦ inl (omega (arith, h, le)) | inr p ↦ piece_none text p.0 there _ p.1 p.3 n.2 ]
]
before_reached text to m ps OpenString there c s le short b = elim (meet (IsFine text m) text 0 0 to there ps b.0.0 refl c s b.0.1) [
  | inl h ↦ inl (omega (arith, h, le))
  | inr p ↦ piece_none text p.0 there _ p.1 p.3 b.2
]
before_reached text to m ps BadEscape there c s le short b = elim (meet (IsFine text m) text 0 0 to b.0 ps b.1.0 refl c s b.1.1) [
  | inl h ↦ inl (let k = bad_behind text b.0 there b.2 in omega (arith, h, le, k))
  | inr p ↦ inl (p.2.1 there (subst (λ (k : ℕ). BadEscapeAt text k there) (sym p.3) b.2))
]
before_reached text to m ps NumberTooLarge there c s le short b = elim (meet (IsFine text m) text 0 0 to there ps b.0.0 refl c s b.0.1) [
  | inl h ↦ inl (omega (arith, h, le))
  | inr p ↦ small_large text p.0 there _ p.1 p.2.0 p.3 b.1
]
before_reached text to m ps TextTooLong there c s le short b = let h = b.1 in absurd (omega (arith, h))
before_reached text to m ps _ there c s le short b = absurd b

-- what is broken is broken within the text
pub broken_within : (text : List ℕ) (rule : Rule) (at : ℕ) → BrokenAt text rule at → at ≤ length text
broken_within text BadCharacter at b = let h = b.0 in omega (arith, h)
broken_within text OpenString at b = let h = within_from text at 34 b.1 (omega arith) in omega (arith, h)
broken_within text BadEscape at b = let h = bad_in_text text b.0 at b.2 in omega (arith, h)
broken_within text NumberTooLarge at b = let h = piece_ends text (record { what = Some (Number (pos b.1.0)); from = at; past = b.1.1 }) b.1.2 in omega (arith, h)
broken_within text TextTooLong at b = let h = b.0 in omega (arith, h)
broken_within text _ at b = absurd b

-- the first by offset and row of the table is the first by place and row
first_from : (file : ℕ) (text : List ℕ) (flaw : Flaw) → IsFirstFlaw text flaw → IsFirstBroken file text flaw.rule (place_at file text flaw.at)
first_from file text flaw f = record {
  broken = (flaw.at, refl, f.broken);
  least = λ other there o. bool_cases (ltb flaw.at o.0) _
      (λ lt. inl (subst (λ (p : Place). ComesBefore (place_at file text flaw.at) p) (sym o.1) (places_rise file text flaw.at o.0 (ltb-true flaw.at o.0 lt) (broken_within text other o.0 o.2))))
      (λ ge. let le = f.before other o.0 o.2 in
      let l = ltb-false flaw.at o.0 ge in
      let e : flaw.at ≡ o.0 = omega (arith, le, l) in
      let p : place_at file text flaw.at ≡ there = ap (λ (k : ℕ). place_at file text k) e ∙ sym o.1 in
      inr (ap (λ (q : Place). q.line) p, ap (λ (q : Place). q.column) p, f.here other (subst (λ (k : ℕ). BrokenAt text other k) (sym e) o.2)));
}

-- a text is refused for its first flaw
pub stops : (file : ℕ) (text : List ℕ) (flaw : Flaw) (stop : Stop) → stop ≡ Broken (record { rule = flaw.rule; place = place_at file text flaw.at; other = None }) → IsFirstFlaw text flaw → IsStop file text stop
stops file text flaw stop e f = subst (λ (s : Stop). IsStop file text s) (sym e) (first_from file text flaw f, refl)

-- ---- a flaw of the piece at an offset

-- the first row of the table
first_row : (text : List ℕ) (at : ℕ) (other : Rule) → BrokenAt text other at → 1 ≤ row other
first_row text at BadCharacter b = omega arith
first_row text at OpenString b = omega arith
first_row text at BadEscape b = omega arith
first_row text at NumberTooLarge b = omega arith
first_row text at TextTooLong b = omega arith
first_row text at _ b = absurd b

open_row : (text : List ℕ) (at : ℕ) (other : Rule) → at < utf8_valid_len text → slice_index text at ≡ 34 → BrokenAt text other at → 2 ≤ row other
open_row text at BadCharacter lt q b = elim b.1 [ inl e ↦ absurd (omega (arith, lt, e)) | inr n ↦ absurd (n.1 q) ]
open_row text at OpenString lt q b = omega arith
open_row text at BadEscape lt q b = omega arith
open_row text at NumberTooLarge lt q b = omega arith
open_row text at TextTooLong lt q b = omega arith
open_row text at _ lt q b = absurd b

-- behind the start of a string, or where none begins
bad_row : (text : List ℕ) (at : ℕ) (other : Rule) → at < utf8_valid_len text → (Reached text at → NoneBegins text at → ⊥) → BrokenAt text other at → 3 ≤ row other
bad_row text at BadCharacter lt k b = elim b.1 [ inl e ↦ absurd (omega (arith, lt, e)) | inr n ↦ absurd (k n.0 n.2) ]
bad_row text at OpenString lt k b = absurd (k b.0 b.2)
bad_row text at BadEscape lt k b = omega arith
bad_row text at NumberTooLarge lt k b = omega arith
bad_row text at TextTooLong lt k b = omega arith
bad_row text at _ lt k b = absurd b

large_row : (text : List ℕ) (at : ℕ) (other : Rule) → at < utf8_valid_len text → (BrokenAt text BadEscape at → ⊥) → LargeBegins text at → BrokenAt text other at → 4 ≤ row other
large_row text at BadCharacter lt k l b = elim b.1 [ inl e ↦ absurd (omega (arith, lt, e)) | inr n ↦ absurd (n.2 l.2.0 l.2.1.more (Some (Number (pos l.0))) l.2.1.splits l.2.1.spelled) ]
large_row text at OpenString lt k l b = absurd (b.2 l.2.0 l.2.1.more (Some (Number (pos l.0))) l.2.1.splits l.2.1.spelled)
large_row text at BadEscape lt k l b = absurd (k b)
large_row text at NumberTooLarge lt k l b = omega arith
large_row text at TextTooLong lt k l b = omega arith
large_row text at _ lt k l b = absurd b

-- no escape is bad where whole pieces end
no_bad_end : (text : List ℕ) (at : ℕ) (ps : List Lexeme) → Cuts text 0 ps at → AllWhole text ps → BrokenAt text BadEscape at → ⊥
no_bad_end text at ps c s b = elim (meet (IsWhole text) text 0 0 at b.0 ps b.1.0 refl c s b.1.1) [
  | inl h ↦ let k = bad_behind text b.0 at b.2 in omega (arith, h, k)
  | inr p ↦ p.2.1 at (subst (λ (k : ℕ). BadEscapeAt text k at) (sym p.3) b.2)
]

-- ---- a string with a bad escape

-- pieces to the end of the string, in which nothing is broken before it
pub record FineString (text : List ℕ) (there : ℕ) : Type 0 where
  pub ps : List Lexeme
  pub to : ℕ
  pub cuts : Cuts text 0 ps to
  pub fine : EachLexeme (IsFine text there) ps
  pub behind : there < to

fine_string : (text : List ℕ) (at there : ℕ) (ps : List Lexeme) → Cuts text 0 ps at → AllWhole text ps → IsFlawed text at BadEscape there → FineString text there
fine_string text at there ps c s f =
    let raw = f.0.0 in
    let body = f.0.2 in
    let p : Lexeme = record { what = Some (Str (long_text (indent_at text at) raw)); from = at; past = at + 6 + length raw } in
    let w = bad_within raw f.0.1 f.0.3 in
    let e = f.0.4 in
    record {
      ps = ps ++ p ∷ [];
      to = at + 6 + length raw;
      cuts = cuts_push text 0 at ps p c refl (body_piece text at raw body);
      fine = each_push (IsFine text there) ps p (whole_fine text there ps s) ((λ n z. cc), f.1);
      behind = omega (arith, w, e);
    }

-- within it no piece could begin
no_piece_within : (text : List ℕ) (there : ℕ) → FineString text there → Reached text there → NoneBegins text there → ⊥
no_piece_within text there f r n = elim (meet (IsFine text there) text 0 0 f.to there f.ps r.0 refl f.cuts f.fine r.1) [
  | inl h ↦ let b = f.behind in omega (arith, h, b)
  | inr p ↦ piece_none text p.0 there _ p.1 p.3 n
]

-- ---- the first flaw

-- the flaw of the piece at an offset is of one of these kinds
flaw_kinds : (text : List ℕ) (at there : ℕ) (rule : Rule) (P : Type 0) → IsFlawed text at rule there
    → (rule ≡ BadCharacter → there ≡ at → (slice_index text at ≡ 34 → ⊥) → NoneBegins text at → P)
    → (rule ≡ OpenString → there ≡ at → slice_index text at ≡ 34 → NoneBegins text at → P)
    → (rule ≡ NumberTooLarge → there ≡ at → LargeBegins text at → P)
    → (rule ≡ BadEscape → IsFlawed text at BadEscape there → P) → P
flaw_kinds text at there BadCharacter P f bad quote large escape = bad refl f.0 f.1 f.2
flaw_kinds text at there OpenString P f bad quote large escape = quote refl f.0 f.1 f.2
flaw_kinds text at there NumberTooLarge P f bad quote large escape = large refl f.0 f.1
flaw_kinds text at there BadEscape P f bad quote large escape = escape refl f
flaw_kinds text at there _ P f bad quote large escape = absurd f

-- it stands within the text
pub flaw_within : (text : List ℕ) (at there : ℕ) (rule : Rule) → at < length text → IsFlawed text at rule there → there < length text
flaw_within text at there rule h f = flaw_kinds text at there rule _ f
    (λ r e q n. omega (arith, h, e)) (λ r e q n. omega (arith, h, e)) (λ r e l. omega (arith, h, e)) (λ r g. bad_in_text text at there g.0)

-- a flaw at the start of its piece
at_start : (text : List ℕ) (at there : ℕ) (rule : Rule) (ps : List Lexeme) → Cuts text 0 ps at → AllWhole text ps → length text ≤ longest_text → at < utf8_valid_len text → there ≡ at
    → BrokenAt text rule at → ((other : Rule) → BrokenAt text other at → row rule ≤ row other) → IsFirstFlaw text (record { rule = rule; at = there })
at_start text at there rule ps c s short lt e b h = record {
  broken = subst (λ (k : ℕ). BrokenAt text rule k) (sym e) b;
  before = λ other x o. elim (before_reached text at at ps other x c (whole_fine text at ps s) (omega arith) short o) [ inl le ↦ omega (arith, le, e) | inr v ↦ omega (arith, v, lt, e) ];
  here = λ other o. h other (subst (λ (k : ℕ). BrokenAt text other k) e o);
}

-- a flaw of the piece that begins where whole pieces end, within the characters
pub first_flaw : (text : List ℕ) (at : ℕ) (ps : List Lexeme) (flaw : Flaw) → at < length text → at < utf8_valid_len text → length text ≤ longest_text → Cuts text 0 ps at → AllWhole text ps
    → IsFlawed text at flaw.rule flaw.at → flaw.at < utf8_valid_len text → IsFirstFlaw text flaw
first_flaw text at ps flaw h lt short c s f valid = flaw_kinds text at flaw.at flaw.rule (IsFirstFlaw text flaw) f
    (λ r e q n. as_rule r (at_start text at flaw.at BadCharacter ps c s short lt e (h, inr ((ps, c), q, n)) (λ other o. first_row text at other o)))
    (λ r e q n. as_rule r (at_start text at flaw.at OpenString ps c s short lt e ((ps, c), q, n) (λ other o. open_row text at other lt q o)))
    (λ r e l. as_rule r (at_start text at flaw.at NumberTooLarge ps c s short lt e ((ps, c), l) (λ other o. large_row text at other lt (no_bad_end text at ps c s) l o)))
    (λ r g.
    let p = fine_string text at flaw.at ps c s g in
    let behind = p.behind in
    as_rule r (record {
      broken = (at, (ps, c), g.0);
      before = λ other x o. elim (before_reached text p.to flaw.at p.ps other x p.cuts p.fine (omega (arith, behind)) short o) [ inl le ↦ le | inr v ↦ omega (arith, v, valid) ];
      here = λ other o. bad_row text flaw.at other valid (no_piece_within text flaw.at p) o;
    }))
  where
    as_rule : {rule : Rule} → flaw.rule ≡ rule → IsFirstFlaw text (record { rule = rule; at = flaw.at }) → IsFirstFlaw text flaw
    as_rule {rule} r g = subst (λ (x : Rule). IsFirstFlaw text (record { rule = x; at = flaw.at })) (sym r) g

-- the first byte that belongs to no character, where pieces reach it in which nothing is broken before it
mangled : (text : List ℕ) (to valid : ℕ) (ps : List Lexeme) → valid ≡ utf8_valid_len text → valid < length text → length text ≤ longest_text → Cuts text 0 ps to → EachLexeme (IsFine text valid) ps → valid ≤ to
    → IsFirstFlaw text (record { rule = BadCharacter; at = valid })
mangled text to valid ps v h short c s le = record {
  broken = (h, inl v);
  before = λ other there b. elim (before_reached text to valid ps other there c s le short b) [ inl l ↦ l | inr e ↦ omega (arith, v, e) ];
  here = λ other b. first_row text valid other b;
}

pub mangled_flaw : (text : List ℕ) (at valid : ℕ) (ps : List Lexeme) → valid ≡ utf8_valid_len text → valid < length text → length text ≤ longest_text → Cuts text 0 ps at → AllWhole text ps → valid ≤ at
    → IsFirstFlaw text (record { rule = BadCharacter; at = valid })
mangled_flaw text at valid ps v h short c s le = mangled text at valid ps v h short c (whole_fine text valid ps s) le

-- it stands in a string, before a bad escape
pub mangled_string : (text : List ℕ) (at valid : ℕ) (ps : List Lexeme) (flaw : Flaw) → valid ≡ utf8_valid_len text → valid < length text → length text ≤ longest_text → Cuts text 0 ps at → AllWhole text ps → at < valid
    → IsFlawed text at flaw.rule flaw.at → valid ≤ flaw.at → IsFirstFlaw text (record { rule = BadCharacter; at = valid })
mangled_string text at valid ps flaw v h short c s lt f le = flaw_kinds text at flaw.at flaw.rule _ f
    (λ r e q n. absurd (omega (arith, e, le, lt)))
    (λ r e q n. absurd (omega (arith, e, le, lt)))
    (λ r e l. absurd (omega (arith, e, le, lt)))
    (λ r g.
    let p = fine_string text at flaw.at ps c s g in
    let behind = p.behind in
    mangled text p.to valid p.ps v h short p.cuts (finer text valid flaw.at p.ps le p.fine) (omega (arith, behind, le)))

-- ---- a text that is too long

-- its first byte belongs to no character
pub long_mangled : (text : List ℕ) → utf8_valid_len text ≡ 0 → longest_text < length text → IsFirstFlaw text (record { rule = BadCharacter; at = 0 })
long_mangled text v long = record {
  broken = (omega (arith, long), inl (sym v));
  before = λ other there b. omega arith;
  here = λ other b. first_row text 0 other b;
}

no_bad_start : (text : List ℕ) → BrokenAt text BadEscape 0 → ⊥
no_bad_start text b = let k = bad_behind text b.0 0 b.2 in omega (arith, k)

-- its first piece has a flaw at its start
pub long_flawed : (text : List ℕ) (flaw : Flaw) → (utf8_valid_len text ≡ 0 → ⊥) → longest_text < length text → IsFlawed text 0 flaw.rule flaw.at → flaw.at ≡ 0 → IsFirstFlaw text flaw
long_flawed text flaw v long f z = flaw_kinds text 0 flaw.at flaw.rule (IsFirstFlaw text flaw) f
    (λ r e q n. as_rule r (record { broken = at_zero BadCharacter (omega (arith, long), inr (([], refl), q, n)); before = λ other there b. omega (arith, z); here = λ other b. first_row text flaw.at other b }))
    (λ r e q n. as_rule r (record { broken = at_zero OpenString (([], refl), q, n); before = λ other there b. omega (arith, z); here = λ other b. open_row text 0 other (omega (arith, v)) q (subst (λ (k : ℕ). BrokenAt text other k) z b) }))
    (λ r e l. as_rule r (record { broken = at_zero NumberTooLarge (([], refl), l); before = λ other there b. omega (arith, z); here = λ other b. large_row text 0 other (omega (arith, v)) (no_bad_start text) l (subst (λ (k : ℕ). BrokenAt text other k) z b) }))
    (λ r g. let k = bad_behind text 0 flaw.at g.0 in absurd (omega (arith, k, z)))
  where
    as_rule : {rule : Rule} → flaw.rule ≡ rule → IsFirstFlaw text (record { rule = rule; at = flaw.at }) → IsFirstFlaw text flaw
    as_rule {rule} r g = subst (λ (x : Rule). IsFirstFlaw text (record { rule = x; at = flaw.at })) (sym r) g

    at_zero : (rule : Rule) → BrokenAt text rule 0 → BrokenAt text rule flaw.at
    at_zero rule b = subst (λ (k : ℕ). BrokenAt text rule k) (sym z) b

long_row : (text : List ℕ) (p : Lexeme) (other : Rule) → (utf8_valid_len text ≡ 0 → ⊥) → IsLexeme text p → IsSmall p.what → p.from ≡ 0 → BrokenAt text other 0 → 5 ≤ row other
long_row text p BadCharacter v i small e b = elim b.1 [ inl z ↦ absurd (v (sym z)) | inr n ↦ piece_none text p 0 _ i e n.2 ]
long_row text p OpenString v i small e b = piece_none text p 0 _ i e b.2
long_row text p BadEscape v i small e b = absurd (no_bad_start text b)
long_row text p NumberTooLarge v i small e b = small_large text p 0 _ i small e b.1
long_row text p TextTooLong v i small e b = omega arith
long_row text p _ v i small e b = absurd b

-- its first piece has none
pub long_first : (text : List ℕ) (p : Lexeme) → (utf8_valid_len text ≡ 0 → ⊥) → IsLexeme text p → IsSmall p.what → p.from ≡ 0 → longest_text < length text → IsFirstFlaw text (record { rule = TextTooLong; at = 0 })
long_first text p v i small e long = record {
  broken = (refl, long);
  before = λ other there b. omega arith;
  here = λ other b. long_row text p other v i small e b;
}

-- its first piece is a string with a bad escape
pub long_string : (text : List ℕ) (flaw : Flaw) → (utf8_valid_len text ≡ 0 → ⊥) → longest_text < length text → IsFlawed text 0 flaw.rule flaw.at → (flaw.at ≡ 0 → ⊥) → IsFirstFlaw text (record { rule = TextTooLong; at = 0 })
long_string text flaw v long f z = flaw_kinds text 0 flaw.at flaw.rule _ f
    (λ r e q n. absurd (z e))
    (λ r e q n. absurd (z e))
    (λ r e l. absurd (z e))
    (λ r g. long_first text _ v (body_piece text 0 g.0.0 g.0.2) (λ n z. cc) refl long)

-- ---- no flaw

-- whole pieces to the end of characters: nothing is broken
pub unbroken : (file : ℕ) (text : List ℕ) (ps : List Lexeme) → Cuts text 0 ps (length text) → AllWhole text ps → length text ≤ longest_text → IsUtf8 text → IsUnbroken file text
unbroken file text ps c s short utf8 rule place b =
    let v = utf8_valid_len-IsUtf8 text utf8 in
    let le : length text ≤ b.0 = elim (before_reached text (length text) (length text) ps rule b.0 c (whole_fine text (length text) ps s) (omega arith) short b.2) [ inl h ↦ h | inr e ↦ omega (arith, e, v) ] in
    end_unbroken rule b.0 b.2 le
  where
    end_unbroken : (rule : Rule) (at : ℕ) → BrokenAt text rule at → length text ≤ at → ⊥
    end_unbroken BadCharacter at b le = let h = b.0 in omega (arith, h, le)
    end_unbroken OpenString at b le = let h = within_from text at 34 b.1 (omega arith) in omega (arith, h, le)
    end_unbroken BadEscape at b le = let h = bad_in_text text b.0 at b.2 in omega (arith, h, le)
    end_unbroken NumberTooLarge at b le = let h = piece_ends text (record { what = Some (Number (pos b.1.0)); from = at; past = b.1.1 }) b.1.2 in omega (arith, h, le)
    end_unbroken TextTooLong at b le = let h = b.1 in omega (arith, h, short)
    end_unbroken _ at b le = absurd b
