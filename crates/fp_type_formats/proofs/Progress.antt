-- A text is read element by element: what is left of it, and what was read.
use Rattle.std.proofs.Common.{◌≡◌, ℕ, ◌+◌, ◌≤◌, Bool, true, false, List, [], ◌∷◌, ◌++◌, length, length-append, refl, sym, ◌∙◌, ap, subst, arith}
use Rattle.fp_base.specs.Formats.{is_brace}
use Rattle.fp_formats.specs.Spelling.{has_no_brace, begins_with}
use Rattle.fp_formats.proofs.Braces.{closes, opens}
use Rattle.fp_type_formats.specs.declared.reading.Mark.{Mark}
use Rattle.fp_type_formats.specs.declared.reading.Mark.TheVariants as mark
use Rattle.fp_type_formats.specs.declared.reading.Reading.{Reading}
use Rattle.fp_type_formats.specs.Elements.{Element, plain, escape, field, lone, element_text, IsReading}
use Rattle.fp_type_formats.specs.Sorted.{IsNext, IsReadAs, field_mark, mark_of, nothing_read, read_on, with_mark}
use Rattle.fp_type_formats.proofs.Heads.{field_bytes, never_empty, same_head}

at_most_one : (unfit : ℕ → Bool) (m : Mark) (r : Reading) → (with_mark unfit m r).fields ≤ r.fields + 1
at_most_one unfit mark.Text r = omega arith
at_most_one unfit mark.Any r = omega arith
at_most_one unfit mark.Numeric r = omega arith
at_most_one unfit mark.Other r = omega arith
at_most_one unfit mark.Lone r = omega arith

shorter : (e : Element) (after : List ℕ) → length after + 1 ≤ length (element_text e ++ after)
shorter (plain b) after = omega arith
shorter (escape b) after = omega arith
shorter (field w) after = let e = ap length (field_bytes w after) in let f = length-append w (125 ∷ after) in omega (arith, e, f)
shorter (lone b) after = omega arith

one_fewer : (e : Element) (after rest : List ℕ) → rest ≡ element_text e ++ after → length after + 1 ≤ length rest
one_fewer e after rest is = let s = shorter e after in let l = ap length is in omega (arith, s, l)

module _ (unfit : ℕ → Bool) where
  -- how each reading of the whole goes on with the rest, and each of the rest is the end of one of the whole
  pub record IsReadTo (text : List ℕ) (r : Reading) (rest : List ℕ) : Type 0 where
    pub on : (es : List Element) → IsReading es text → (fs : List Element) × IsReading fs rest × (read_on unfit nothing_read es ≡ read_on unfit r fs)
    pub back : (fs : List Element) → IsReading fs rest → (es : List Element) × IsReading es text
    pub few : r.fields + length rest ≤ length text

  pub begun : (text : List ℕ) → IsReadTo text nothing_read text
  begun text = record { on = λ es h. (es, h, refl); back = λ fs h. (fs, h); few = omega arith }

  module _ (text : List ℕ) (r : Reading) (rest : List ℕ) (m : Mark) (after : List ℕ) (h : IsReadTo text r rest) (next : IsNext rest m after) where
    goes_on : (whole : Reading) (fs : List Element) → IsReading fs rest → whole ≡ read_on unfit r fs
        → (gs : List Element) × IsReading gs after × (whole ≡ read_on unfit (with_mark unfit m r) gs)
    goes_on whole [] k is = absurd (never_empty next.element after (sym k ∙ next.stands))
    goes_on whole (f ∷ gs) k is =
        let one = same_head f next.element k.0 after k.2 next.is (sym k.1 ∙ next.stands) in
        (gs, subst (IsReading gs) one.1 k.3, is ∙ ap (λ (x : Mark). read_on unfit (with_mark unfit x r) gs) (ap mark_of one.0 ∙ next.marked))

    pub read_next : IsReadTo text (with_mark unfit m r) after
    read_next = record {
      on = λ es k. let t = h.on es k in goes_on (read_on unfit nothing_read es) t.0 t.1 t.2;
      back = λ gs k. h.back (next.element ∷ gs) (after, next.stands, next.is, k);
      few = let a = at_most_one unfit m r in let b = one_fewer next.element after rest next.stands in let c = h.few in omega (arith, a, b, c);
    }

  ended_by : (r whole : Reading) (fs : List Element) → IsReading fs [] → whole ≡ read_on unfit r fs → r ≡ whole
  ended_by r whole [] k is = sym is
  ended_by r whole (f ∷ fs) k is = absurd (never_empty f k.0 k.1)

  pub ended : (text : List ℕ) (r : Reading) (rest : List ℕ) → rest ≡ [] → IsReadTo text r rest → IsReadAs unfit text r
  ended text r rest empty h =
      let g : IsReadTo text r [] = subst (λ (x : List ℕ). IsReadTo text r x) empty h in
      let t = g.back [] refl in
      record { elements = t.0; reading = t.1; exact = λ es k. let s = g.on es k in ended_by r (read_on unfit nothing_read es) s.0 s.1 s.2 }

-- ---- the first element

pub next_plain : (b : ℕ) (after : List ℕ) → is_brace b ≡ false → IsNext (b ∷ after) mark.Text after
next_plain b after h = record { element = plain b; stands = refl; is = h; marked = refl }

pub next_escape : (b : ℕ) (behind after : List ℕ) → behind ≡ b ∷ after → is_brace b ≡ true → IsNext (b ∷ behind) mark.Text after
next_escape b behind after is h = record { element = escape b; stands = ap (λ (t : List ℕ). b ∷ t) is; is = h; marked = refl }

not_opening : ◌≡◌ {A = ℕ} 125 123 → ⊥
not_opening e = omega (arith, e)

pub closing_lone : (behind : List ℕ) → begins_with 125 behind ≡ false → IsNext (125 ∷ behind) mark.Lone behind
closing_lone behind h =
    record { element = lone 125; stands = refl; is = record { is_brace = closes; not_doubled = h; no_field = λ e inside rest k l. not_opening e }; marked = refl }

pub opening_lone : (behind : List ℕ) → begins_with 123 behind ≡ false → ((inside rest : List ℕ) → has_no_brace inside ≡ true → behind ≡ inside ++ (125 ∷ rest) → ⊥)
    → IsNext (123 ∷ behind) mark.Lone behind
opening_lone behind h none =
    record { element = lone 123; stands = refl; is = record { is_brace = opens; not_doubled = h; no_field = λ e. none }; marked = refl }

pub next_field : (behind inside after : List ℕ) → behind ≡ inside ++ (125 ∷ after) → has_no_brace inside ≡ true → IsNext (123 ∷ behind) (field_mark inside) after
next_field behind inside after is h =
    record { element = field inside; stands = ap (λ (t : List ℕ). 123 ∷ t) is ∙ sym (field_bytes inside after); is = h; marked = refl }
