-- One end more in a walk.
use Rattle.std.proofs.Common.{◌≡◌, ◌∙◌, ap, refl, sym, ℕ, ◌+◌, ◌<◌, Bool, true, false, ◌&&◌, ◌||◌, cond, List, [], ◌∷◌, length, take, Option, None, Some, get_or, arith, subst}
use Rattle.std.specs.Prelude.{◌==◌, unwrap_or}
use Rattle.std.specs.List.{cons_option}
use Rattle.std.specs.BTreeMap.{is_at as is_key}
use Rattle.std.proofs.lemmas.Bool.Decides.{nat_tests}
use Rattle.std.proofs.lemmas.List.{take_more}
use Rattle.std.proofs.lemmas.List.Elements.{filter_map-append}
use Rattle.std.proofs.lemmas.List.Folds.{list_any-append}
use Rattle.fp_tables.specs.Found.{pair_cmp}
use Rattle.fp_numbering.specs.declared.tips.Tip.{Tip}
use Rattle.fp_numbering.specs.Pairs.{has}
use Rattle.fp_numbering.specs.Walks.{said_number, said_at, is_at_port, is_mark}

abbrev pub no_tip : Tip
no_tip = record { instance = 0; port = 0; size = 0; other = 0; begins = false; written = None; unmatched = false; at = record { file = 0; line = 0; column = 0 } }

abbrev here : ℕ × ℕ × ℕ → Tip → Option ℕ
here q t = cond (is_at_port q t) (said_number t) None

pub one_mark : (t : Tip) (q : ℕ × ℕ × ℕ) (b : Bool) (o : Option ℕ) → is_at_port q t ≡ b → has (cons_option (cond b o None) []) q.2 ≡ is_mark t o q
one_mark t q true None e = refl
one_mark t q true (Some n) e = or_false (n == q.2) ∙ ap (λ (b : Bool). b && n == q.2) (sym e)
  where
    or_false : (b : Bool) → (b || false) ≡ b
    or_false true = refl
    or_false false = refl
one_mark t q false None e = refl
one_mark t q false (Some n) e = ap (λ (b : Bool). b && n == q.2) (sym e)

pub said_more : (ts : List Tip) (i : ℕ) (t : Tip) (q : ℕ × ℕ × ℕ) → i < length ts
    → has (said_at q (take (i + 1) ts)) q.2 ≡ (has (said_at q (take i ts)) q.2 || is_mark (get_or ts i t) (said_number (get_or ts i t)) q)
said_more ts i t q l =
    let x = get_or ts i t in
    ap (λ (us : List Tip). has (said_at q us) q.2) (take_more ts i t l)
    ∙ ap (λ (ns : List ℕ). has ns q.2) (filter_map-append (here q) (take i ts) (x ∷ []))
    ∙ list_any-append (λ n. n == q.2) (said_at q (take i ts)) (cons_option (here q x) [])
    ∙ ap (λ (b : Bool). has (said_at q (take i ts)) q.2 || b) (one_mark x q (is_at_port q x) (said_number x) refl)

pub said_after : (ts : List Tip) (i : ℕ) (t : Tip) (q : ℕ × ℕ × ℕ) (old new : Bool) → i < length ts → old ≡ has (said_at q (take i ts)) q.2
    → new ≡ (old || is_mark (get_or ts i t) (said_number (get_or ts i t)) q) → new ≡ has (said_at q (take (i + 1) ts)) q.2
said_after ts i t q old new l was now =
    now ∙ ap (λ (b : Bool). b || is_mark (get_or ts i t) (said_number (get_or ts i t)) q) was ∙ sym (said_more ts i t q l)

pub still : (a b c : Bool) → c ≡ cond a true b → b ≡ true → c ≡ true
still true b c e h = e
still false b c e h = e ∙ h

-- ---- numbers below which all are taken

port_tests : (i p : ℕ) (q : ℕ × ℕ) → is_key (pair_cmp (i, p)) q ≡ (i == q.0 && p == q.1)
port_tests i p q = grind (arith, nat_tests)

pub lows_more : (i p low : ℕ) (f g : ℕ × ℕ → Option ℕ) (old new : ℕ × ℕ × ℕ → Bool) → ((q : ℕ × ℕ) → g q ≡ cond (is_key (pair_cmp (i, p)) q) (Some low) (f q))
    → ((q : ℕ × ℕ) (n : ℕ) → n < unwrap_or (f q) 0 → old (q.0, q.1, n) ≡ true) → ((n : ℕ) → n < low → old (i, p, n) ≡ true) → ((r : ℕ × ℕ × ℕ) → old r ≡ true → new r ≡ true)
    → (q : ℕ × ℕ) (n : ℕ) → n < unwrap_or (g q) 0 → new (q.0, q.1, n) ≡ true
lows_more i p low f g old new is before here grows q n l = by (i == q.0 && p == q.1) refl
  where
    same_first : (i == q.0 && p == q.1) ≡ true → i ≡ q.0
    same_first e = grind (arith, nat_tests)

    same_second : (i == q.0 && p == q.1) ≡ true → p ≡ q.1
    same_second e = grind (arith, nat_tests)

    by : (b : Bool) → (i == q.0 && p == q.1) ≡ b → new (q.0, q.1, n) ≡ true
    by true e =
        let less : n < low = subst (λ (o : Option ℕ). n < unwrap_or o 0) (is q ∙ ap (λ (b : Bool). cond b (Some low) (f q)) (port_tests i p q ∙ e)) l in
        ap (λ (x : ℕ). new (x, q.1, n)) (sym (same_first e)) ∙ ap (λ (x : ℕ). new (i, x, n)) (sym (same_second e)) ∙ grows (i, p, n) (here n less)
    by false e = grows (q.0, q.1, n) (before q n (subst (λ (o : Option ℕ). n < unwrap_or o 0) (is q ∙ ap (λ (b : Bool). cond b (Some low) (f q)) (port_tests i p q ∙ e)) l))
