-- A text is read in one way: as marks, and as the end or what refuses it.
use Rattle.std.proofs.Common.{◌≡◌, ℕ, Bool, true, false, cond, ◌==◌, List, [], ◌∷◌, ◌++◌, Option, None, Some, refl, sym, ◌∙◌, ap, subst, append_assoc, append-nil, arith}
use Rattle.std.specs.Prelude.{MatchResult, Result, Ok, Err}
use Rattle.std.proofs.Common.{inl, inr}
use Rattle.std.proofs.lemmas.Bool.Decides.{nat_tests}
use Rattle.fp_base.specs.declared.format.FormatPiece.{FormatPiece}
use Rattle.fp_base.specs.declared.format.Format.{Format}
use Rattle.fp_formats.specs.declared.fault.FormatFault.{FormatFault}
use Rattle.fp_formats.specs.declared.fault.FormatFault.TheVariants as fault
use Rattle.fp_formats.specs.declared.mark.Mark.{Mark}
use Rattle.fp_formats.specs.declared.mark.Mark.TheVariants.{Byte, Field}
use Rattle.fp_formats.specs.declared.mark.Form.{Form}
use Rattle.fp_formats.specs.declared.mark.Form.TheVariants as form
use Rattle.fp_base.specs.Formats.{is_brace, doubled}
use Rattle.fp_formats.specs.Spelling.{has_no_brace, is_form, begins_with, IsLone, IsFormat, HasOtherField, HasLoneBrace, IsCause, OrNoMemory}
use Rattle.fp_formats.specs.Marks.{form_text, mark_text, IsOtherField, IsLoneBrace, IsStop}
use Rattle.fp_formats.proofs.Braces.{opens, same_closing, no_brace-head}
use Rattle.fp_formats.proofs.Pieces.{marks_of, written, spelling-written, same_pieces}

-- ---- one mark

again : ℕ → List ℕ
again b = cond (is_brace b) (b ∷ []) []

doubled_head : (b : ℕ) (x : List ℕ) → doubled b ++ x ≡ b ∷ (again b ++ x)
unfolding again
doubled_head b x = by (is_brace b)
  where
    by : (t : Bool) → cond t (b ∷ b ∷ []) (b ∷ []) ++ x ≡ b ∷ (cond t (b ∷ []) [] ++ x)
    by true = refl
    by false = refl

again-brace : (b : ℕ) → is_brace b ≡ true → again b ≡ b ∷ []
unfolding again
again-brace b h = rw h refl

again-same : (b : ℕ) (x y : List ℕ) → again b ++ x ≡ again b ++ y → x ≡ y
unfolding again
again-same b x y = by (is_brace b)
  where
    by : (t : Bool) → cond t (b ∷ []) [] ++ x ≡ cond t (b ∷ []) [] ++ y → x ≡ y
    by true e = cc
    by false e = e

clean_form : (f : Form) → has_no_brace (form_text f) ≡ true
clean_form form.Any = refl
clean_form form.Dec = refl
clean_form form.Hex = refl
clean_form form.Oct = refl
clean_form form.Char = refl

good_form : (f : Form) → is_form (form_text f) ≡ true
good_form form.Any = refl
good_form form.Dec = refl
good_form form.Hex = refl
good_form form.Oct = refl
good_form form.Char = refl

form_named : List ℕ → Form
form_named [] = form.Any
form_named (b ∷ w) = cond (b == 100) form.Dec (cond (b == 120) form.Hex (cond (b == 111) form.Oct form.Char))

form_named-text : (f : Form) → form_named (form_text f) ≡ f
unfolding form_named
form_named-text form.Any = refl
form_named-text form.Dec = refl
form_named-text form.Hex = refl
form_named-text form.Oct = refl
form_named-text form.Char = refl

field_text : (f : Form) (x : List ℕ) → mark_text (Field f) ++ x ≡ 123 ∷ (form_text f ++ (125 ∷ x))
field_text f x = ap (λ t. 123 ∷ t) (append_assoc (form_text f) (125 ∷ []) x)

-- a doubled brace or another byte isn't the begin of a field
byte_no_field : (b : ℕ) (x w y : List ℕ) → has_no_brace w ≡ true → doubled b ++ x ≡ 123 ∷ (w ++ (125 ∷ y)) → ⊥
byte_no_field b x w y h e =
    let d = doubled_head b x in
    let p : b ≡ 123 = cc in
    let q : again b ++ x ≡ w ++ (125 ∷ y) = cc in
    let a : again b ≡ b ∷ [] = again-brace b (ap is_brace p ∙ opens) in
    let r : b ∷ x ≡ w ++ (125 ∷ y) = sym (ap (λ t. t ++ x) a) ∙ q in
    by w h r p
  where
    by : (v : List ℕ) → has_no_brace v ≡ true → b ∷ x ≡ v ++ (125 ∷ y) → b ≡ 123 → ⊥
    by [] k r p = let s : b ≡ 125 = cc in omega (arith, s, p)
    by (c ∷ v) k r p =
        let s : c ≡ 123 = cc in
        let t : is_brace c ≡ true = ap is_brace s ∙ opens in
        let u = no_brace-head c v k in
        cc

byte_no_lone : (b : ℕ) (x : List ℕ) (c : ℕ) (after : List ℕ) → IsLone c after → doubled b ++ x ≡ c ∷ after → ⊥
byte_no_lone b x c after l e =
    let d = doubled_head b x in
    let p : b ≡ c = cc in
    let q : again b ++ x ≡ after = cc in
    let a : again b ≡ b ∷ [] = again-brace b (ap is_brace p ∙ l.is_brace) in
    let r : b ∷ x ≡ after = sym (ap (λ t. t ++ x) a) ∙ q in
    let s : (b == c) ≡ false = ap (begins_with c) r ∙ l.not_doubled in
    let t : (b == c) ≡ true = grind (arith, nat_tests) in
    cc

pub field_no_lone : (w y : List ℕ) (c : ℕ) (after : List ℕ) → has_no_brace w ≡ true → IsLone c after → 123 ∷ (w ++ (125 ∷ y)) ≡ c ∷ after → ⊥
field_no_lone w y c after h l e =
    let p : c ≡ 123 = cc in
    let q : after ≡ w ++ (125 ∷ y) = cc in
    l.no_field p w y h q

same_mark : (m n : Mark) (x y : List ℕ) → mark_text m ++ x ≡ mark_text n ++ y → (m ≡ n) × (x ≡ y)
same_mark (Byte b) (Byte c) x y e =
    let d = doubled_head b x in
    let f = doubled_head c y in
    let p : b ≡ c = cc in
    let q : again b ++ x ≡ again c ++ y = cc in
    let r : again b ++ x ≡ again b ++ y = q ∙ ap (λ t. again t ++ y) (sym p) in
    (ap (λ t. Byte t) p, again-same b x y r)
same_mark (Byte b) (Field f) x y e = absurd (byte_no_field b x (form_text f) y (clean_form f) (e ∙ field_text f y))
same_mark (Field f) (Byte b) x y e = absurd (byte_no_field b y (form_text f) x (clean_form f) (sym e ∙ field_text f x))
same_mark (Field f) (Field g) x y e =
    let d = field_text f x in
    let c = field_text g y in
    let p : form_text f ++ (125 ∷ x) ≡ form_text g ++ (125 ∷ y) = cc in
    let r = same_closing (form_text f) (form_text g) x y (clean_form f) (clean_form g) p in
    let s : f ≡ g = sym (form_named-text f) ∙ ap form_named r.0 ∙ form_named-text g in
    (ap (λ t. Field t) s, r.1)

-- ---- the end

pub Ends : Option FormatFault → List ℕ → Type 0
Ends None x = x ≡ []
Ends (Some given) x = IsStop given x

no_mark_other : (m : Mark) (x z : List ℕ) → IsOtherField x → x ≡ mark_text m ++ z → ⊥
no_mark_other (Byte b) x z o e = byte_no_field b z o.inside o.after o.is_field (sym e ∙ o.stands)
no_mark_other (Field f) x z o e =
    let d = field_text f z in
    let p : form_text f ++ (125 ∷ z) ≡ o.inside ++ (125 ∷ o.after) = cc (d, e, o.stands) in
    let r = same_closing (form_text f) o.inside z o.after (clean_form f) o.is_field p in
    let s : is_form o.inside ≡ true = sym (ap is_form r.0) ∙ good_form f in
    cc (s, o.is_other)

no_mark_lone : (m : Mark) (x z : List ℕ) → IsLoneBrace x → x ≡ mark_text m ++ z → ⊥
no_mark_lone (Byte b) x z o e = byte_no_lone b z o.brace o.after o.lone (sym e ∙ o.stands)
no_mark_lone (Field f) x z o e = field_no_lone (form_text f) z o.brace o.after (clean_form f) o.lone (sym (field_text f z) ∙ sym e ∙ o.stands)

no_mark_end : (m : Mark) (z : List ℕ) → [] ≡ mark_text m ++ z → ⊥
no_mark_end (Byte b) z e = let d = doubled_head b z in cc
no_mark_end (Field f) z e = cc

no_mark : (end : Option FormatFault) (m : Mark) (x z : List ℕ) → Ends end x → x ≡ mark_text m ++ z → ⊥
unfolding Ends
no_mark None m x z h e = no_mark_end m z (sym h ∙ e)
no_mark (Some fault.Field) m x z h e = no_mark_other m x z h e
no_mark (Some fault.Brace) m x z h e = no_mark_lone m x z h e
no_mark (Some fault.NoMemory) m x z h e = h

same_end : (end last : Option FormatFault) (x : List ℕ) → Ends end x → Ends last x → end ≡ last
unfolding Ends
same_end None None x h k = refl
same_end None (Some fault.Field) x h k = absurd (cc (h, k.stands))
same_end None (Some fault.Brace) x h k = absurd (cc (h, k.stands))
same_end None (Some fault.NoMemory) x h k = absurd k
same_end (Some fault.Field) None x h k = absurd (cc (k, h.stands))
same_end (Some fault.Field) (Some fault.Field) x h k = refl
same_end (Some fault.Field) (Some fault.Brace) x h k = absurd (field_no_lone h.inside h.after k.brace k.after h.is_field k.lone (sym h.stands ∙ k.stands))
same_end (Some fault.Field) (Some fault.NoMemory) x h k = absurd k
same_end (Some fault.Brace) None x h k = absurd (cc (k, h.stands))
same_end (Some fault.Brace) (Some fault.Field) x h k = absurd (field_no_lone k.inside k.after h.brace h.after k.is_field h.lone (sym k.stands ∙ h.stands))
same_end (Some fault.Brace) (Some fault.Brace) x h k = refl
same_end (Some fault.Brace) (Some fault.NoMemory) x h k = absurd k
same_end (Some fault.NoMemory) last x h k = absurd h

pub same_reading : (end last : Option FormatFault) (ms ns : List Mark) (x y : List ℕ) → Ends end x → Ends last y → written ms ++ x ≡ written ns ++ y → (ms ≡ ns) × (end ≡ last)
unfolding written
same_reading end last [] [] x y h k e = (refl, same_end end last x h (subst (Ends last) (sym e) k))
same_reading end last [] (n ∷ ns) x y h k e = absurd (no_mark end n x (written ns ++ y) h (e ∙ append_assoc (mark_text n) (written ns) y))
same_reading end last (m ∷ ms) [] x y h k e = absurd (no_mark last m y (written ms ++ x) k (sym e ∙ append_assoc (mark_text m) (written ms) x))
same_reading end last (m ∷ ms) (n ∷ ns) x y h k e =
    let p = sym (append_assoc (mark_text m) (written ms) x) ∙ e ∙ append_assoc (mark_text n) (written ns) y in
    let r = same_mark m n (written ms ++ x) (written ns ++ y) p in
    let s = same_reading end last ms ns x y h k r.1 in
    let a : m ≡ n = r.0 in
    let b : ms ≡ ns = s.0 in
    (cc, s.1)

-- ---- whole texts

pub record Reading (text : List ℕ) (end : Option FormatFault) (ms : List Mark) : Type 0 where
  pub rest : List ℕ
  pub stands : text ≡ written ms ++ rest
  pub ends : Ends end rest

pub reads_format : (text : List ℕ) (parts : List FormatPiece) → IsFormat text parts → Reading text None (marks_of parts)
unfolding Ends
reads_format text parts f = record { rest = []; stands = f.spells ∙ spelling-written parts ∙ sym (append-nil (written (marks_of parts))); ends = refl }

pub reads_field : (text : List ℕ) (o : HasOtherField text) → Reading text (Some fault.Field) (marks_of o.before)
unfolding Ends
reads_field text o =
    record {
      rest = 123 ∷ (o.inside ++ (125 ∷ o.after));
      stands = o.stands ∙ ap (λ t. t ++ (123 ∷ (o.inside ++ (125 ∷ o.after)))) (spelling-written o.before);
      ends = record { inside = o.inside; after = o.after; stands = refl; is_field = o.is_field; is_other = o.is_other };
    }

pub reads_brace : (text : List ℕ) (o : HasLoneBrace text) → Reading text (Some fault.Brace) (marks_of o.before)
unfolding Ends
reads_brace text o =
    record {
      rest = o.brace ∷ o.after;
      stands = o.stands ∙ ap (λ t. t ++ (o.brace ∷ o.after)) (spelling-written o.before);
      ends = record { brace = o.brace; after = o.after; stands = refl; lone = o.lone };
    }

pub one_reading : (text : List ℕ) (end last : Option FormatFault) (ms ns : List Mark) → Reading text end ms → Reading text last ns → (ms ≡ ns) × (end ≡ last)
one_reading text end last ms ns r s = same_reading end last ms ns r.rest s.rest r.ends s.ends (sym r.stands ∙ s.stands)

-- ---- answers

pub AnswersFormat : List ℕ → Result Format FormatFault → Type 0
AnswersFormat text r = MatchResult r (λ f. IsFormat text f.parts) (λ given. IsCause given text)

pub only_format : (text : List ℕ) (r : Result Format FormatFault) → MatchResult r (λ f. IsFormat text f.parts) (λ given. IsCause given text) → (parts : List FormatPiece) → IsFormat text parts → MatchResult r (λ f. f.parts ≡ parts) (λ given. given ≡ fault.NoMemory)
only_format text (Ok f) a parts g =
    let s = one_reading text None None (marks_of f.parts) (marks_of parts) (reads_format text f.parts a) (reads_format text parts g) in
    same_pieces f.parts parts a.whole g.whole s.0
only_format text (Err fault.Field) a parts g =
    let s = one_reading text (Some fault.Field) None (marks_of a.before) (marks_of parts) (reads_field text a) (reads_format text parts g) in
    absurd (cc (s.1))
only_format text (Err fault.Brace) a parts g =
    let s = one_reading text (Some fault.Brace) None (marks_of a.before) (marks_of parts) (reads_brace text a) (reads_format text parts g) in
    absurd (cc (s.1))
only_format text (Err fault.NoMemory) a parts g = refl

pub field_refused : (text : List ℕ) (r : Result Format FormatFault) → MatchResult r (λ f. IsFormat text f.parts) (λ given. IsCause given text) → HasOtherField text → MatchResult r (λ _. ⊥) (OrNoMemory fault.Field)
field_refused text (Ok f) a g =
    let s = one_reading text None (Some fault.Field) (marks_of f.parts) (marks_of g.before) (reads_format text f.parts a) (reads_field text g) in
    absurd (cc (s.1))
field_refused text (Err fault.Field) a g = inl refl
field_refused text (Err fault.Brace) a g =
    let s = one_reading text (Some fault.Brace) (Some fault.Field) (marks_of a.before) (marks_of g.before) (reads_brace text a) (reads_field text g) in
    absurd (cc (s.1))
field_refused text (Err fault.NoMemory) a g = inr refl

pub brace_refused : (text : List ℕ) (r : Result Format FormatFault) → MatchResult r (λ f. IsFormat text f.parts) (λ given. IsCause given text) → HasLoneBrace text → MatchResult r (λ _. ⊥) (OrNoMemory fault.Brace)
brace_refused text (Ok f) a g =
    let s = one_reading text None (Some fault.Brace) (marks_of f.parts) (marks_of g.before) (reads_format text f.parts a) (reads_brace text g) in
    absurd (cc (s.1))
brace_refused text (Err fault.Field) a g =
    let s = one_reading text (Some fault.Field) (Some fault.Brace) (marks_of a.before) (marks_of g.before) (reads_field text a) (reads_brace text g) in
    absurd (cc (s.1))
brace_refused text (Err fault.Brace) a g = inl refl
brace_refused text (Err fault.NoMemory) a g = inr refl
