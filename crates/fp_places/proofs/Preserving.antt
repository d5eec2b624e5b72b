-- What holds of every node that a grammar spells by tokens of which something holds: from the parts of a grammar to the whole.
use Rattle.std.proofs.Common.{◌≡◌, ℕ, Bool, true, List, [], ◌∷◌, ◌++◌, Option, Some, None, inl, inr, subst, sym}
use Rattle.std.specs.List.{AllByRecursion as Each}
use Rattle.fp_grammar.specs.Grammar.{Grammar, Language, Nonterminal, Spells, SpellsMany, SpellsAlternating, built, allowed, after, before}
use Rattle.fp_grammar.specs.Grammar.Grammar.{token, seq, map, alt, optional, alternating, chain, ref}
use Rattle.fp_grammar.specs.Seal.{seal}
use Rattle.fp_base.proofs.Bools.{both}
use Rattle.fp_base.proofs.Lists.{InOption, each_before, each_behind}

-- each node has Q that a language gives to tokens that all have P
abbrev pub LanguageGives : {T X : Type 0} → (T → Type 0) → Language T X → (X → Type 0) → Type 0
LanguageGives {T = T} {X = X} P language Q = (w : List T) (x : X) → language w x → Each P w → Q x

-- the same of a grammar
pub record Gives {T X : Type 0} (kind : T → ℕ) (P : T → Type 0) (g : Grammar T X) (Q : X → Type 0) : Type 0 where
  pub given : LanguageGives P (Spells kind g) Q

built_given : {X Y : Type 0} (Q : X → Type 0) (R : Y → Type 0) (allows : X → Bool) (build : X → Y → X) → ((x : X) (y : Y) → allows x ≡ true → Q x → R y → Q (build x y))
    → (x : X) (ys : List Y) → allowed allows build x ys ≡ true → Q x → Each R ys → Q (built build x ys)
built_given Q R allows build step x [] may h hs = h
built_given Q R allows build step x (y ∷ ys) may h hs =
    let each = both (allows x) (allowed allows build (build x y) ys) may in
    built_given Q R allows build step (build x y) ys each.1 (step x y each.0 h hs.0) hs.1

module _ {T : Type 0} (P : T → Type 0) where
  one_alone : (w : List T) (t : T) → w ≡ t ∷ [] → Each P w → P t
  one_alone w t e h = let h' : Each P (t ∷ []) = subst (λ (v : List T). Each P v) e h in h'.0

  cut : (w u v : List T) → w ≡ u ++ v → Each P w → Each P u × Each P v
  cut w u v e h =
      let h' : Each P (u ++ v) = subst (λ (z : List T). Each P z) e h in
      (each_before P u v h', each_behind P u v h')

  many_given : {X : Type 0} (language : Language T X) (Q : X → Type 0) → LanguageGives P language Q → (w : List T) (xs : List X) → SpellsMany language w xs → Each P w → Each Q xs
  many_given language Q p w [] s h = tt
  many_given language Q p w (x ∷ xs) s h =
      let c = cut w s.0 s.1 s.2 h in
      (p s.0 x s.3 c.0, many_given language Q p s.1 xs s.4 c.1)

  turns_given : {X : Type 0} (one other : Language T X) (Q : X → Type 0) → LanguageGives P one Q → LanguageGives P other Q
      → (w : List T) (xs : List X) → SpellsAlternating one other w xs → Each P w → Each Q xs
  turns_given one other Q p q w [] s h = tt
  turns_given one other Q p q w (x ∷ xs) s h =
      let c = cut w s.0 s.1 s.2 h in
      (p s.0 x s.3 c.0, turns_given other one Q q p s.1 xs s.4 c.1)

module _ {T : Type 0} {kind : T → ℕ} {P : T → Type 0} where
  -- nothing is claimed
  pub gives_anything : {X : Type 0} {a : Grammar T X} → Gives kind P a (λ x. Unit {0})
  gives_anything = record { given = λ w x s h. tt }

  pub gives_less : {X : Type 0} {a : Grammar T X} {Q : X → Type 0} (R : X → Type 0) → ((x : X) → Q x → R x) → Gives kind P a Q → Gives kind P a R
  gives_less R to p = record { given = λ w x s h. to x (p.given w x s h) }

  pub gives_both : {X : Type 0} {a : Grammar T X} {Q R : X → Type 0} → Gives kind P a Q → Gives kind P a R → Gives kind P a (λ x. Q x × R x)
  gives_both p q = record { given = λ w x s h. (p.given w x s h, q.given w x s h) }

  pub gives_token : (k : ℕ) → Gives kind P (token k) (λ t. P t × (kind t ≡ k))
  gives_token k = record { given = λ w t s h. (one_alone P w t s.0 h, s.1) }

  pub gives_seq : {X Y : Type 0} {a : Grammar T X} {b : Grammar T Y} {Q : X → Type 0} {R : Y → Type 0}
      → Gives kind P a Q → Gives kind P b R → Gives kind P (seq a b) (λ p. Q p.0 × R p.1)
  gives_seq p q = record { given = λ w x s h. let c = cut P w s.0 s.1 s.2 h in (p.given s.0 x.0 s.3 c.0, q.given s.1 x.1 s.4 c.1) }

  pub gives_map : {X Y : Type 0} {a : Grammar T X} {Q : X → Type 0} (R : Y → Type 0) (f : X → Y) → ((x : X) → Q x → R (f x)) → Gives kind P a Q → Gives kind P (map f a) R
  gives_map R f step p = record { given = λ w y s h. subst R (sym s.1) (step s.0 (p.given w s.0 s.2 h)) }

  pub gives_alt : {X : Type 0} {a b : Grammar T X} {Q : X → Type 0} → Gives kind P a Q → Gives kind P b Q → Gives kind P (alt a b) Q
  gives_alt {Q = Q} p q = record {
    given = λ w x s h. elim s as (λ _. Q x) [
      | inl i ↦ p.given w x i h
      | inr i ↦ q.given w x i h
    ];
  }

  pub gives_optional : {X : Type 0} {a : Grammar T X} {Q : X → Type 0} → Gives kind P a Q → Gives kind P (optional a) (InOption Q)
  gives_optional {X = X} {a = a} {Q = Q} p = record { given = go }
    where
      go : (w : List T) (o : Option X) → Spells kind (optional a) w o → Each P w → InOption Q o
      go w None s h = tt
      go w (Some x) s h = p.given w x s h

  pub gives_turns : {X : Type 0} {a b : Grammar T X} {Q : X → Type 0} → Gives kind P a Q → Gives kind P b Q → Gives kind P (alternating a b) (Each Q)
  gives_turns {a = a} {b = b} {Q = Q} p q = record { given = turns_given P (Spells kind a) (Spells kind b) Q p.given q.given }

  pub gives_chain : {X Y : Type 0} {a : Grammar T X} {b : Grammar T Y} {Q : X → Type 0} {R : Y → Type 0} (allows : X → Bool) (build : X → Y → X)
      → ((x : X) (y : Y) → allows x ≡ true → Q x → R y → Q (build x y)) → Gives kind P a Q → Gives kind P b R → Gives kind P (chain a b allows build) Q
  gives_chain {b = b} {Q = Q} {R = R} allows build step p q = record {
    given = λ w x s h.
        let t = s.3 in
        let c = cut P w t.0 t.1 t.2 h in
        subst Q (sym s.1) (built_given Q R allows build step s.0.0 s.0.1 s.2 (p.given t.0 s.0.0 t.3 c.0) (many_given P (Spells kind b) R q.given t.1 s.0.1 t.4 c.1));
  }

  -- a nonterminal gives what its language does, and a sealed production what stands under the seal
  pub gives_ref : {X : Type 0} (n : Nonterminal T X) {Q : X → Type 0} → LanguageGives P n.spells Q → Gives kind P (ref n) Q
  gives_ref n p = record { given = p }

  pub gives_seal : {X : Type 0} {a : Grammar T X} {Q : X → Type 0} (first extends : List ℕ) → Gives kind P a Q → Gives kind P (seal kind a first extends) Q
  gives_seal first extends p = record { given = p.given }

  pub gives_after : {X : Type 0} {a : Grammar T X} {Q : X → Type 0} (k : ℕ) → Gives kind P a Q → Gives kind P (after k a) Q
  gives_after {Q = Q} k p = gives_map Q (λ p. p.1) (λ p h. h.1) (gives_seq (gives_token k) p)

  pub gives_before : {X : Type 0} {a : Grammar T X} {Q : X → Type 0} (k : ℕ) → Gives kind P a Q → Gives kind P (before a k) Q
  gives_before {Q = Q} k p = gives_map Q (λ p. p.0) (λ p h. h.0) (gives_seq p (gives_token k))
