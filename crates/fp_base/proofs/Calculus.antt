-- The least of a union, of two phases, and of what a test tells.
use Rattle.std.proofs.Common.{◌≡◌, ◌↔◌, Bool, true, false, cond, MatchBool, Option, Some, None, refl, inl, inr, sym, subst}
use Rattle.fp_base.specs.declared.refusal.Refusal.{Refusal}
use Rattle.fp_base.specs.Least.{NoLater, no_later}
use Rattle.fp_base.specs.Least.{IsLeast, lesser_of, earlier_of, Either, Phased}
use Rattle.fp_base.proofs.Bools.{not_both, told_true, told_false}
use Rattle.fp_base.proofs.Ordering.{no_later_same, no_later_through, no_later_true, no_later_false}

-- nothing is broken
pub least_none : {P : Refusal → Type 0} → ((f : Refusal) → P f → ⊥) → IsLeast P None
least_none none = record { holds = λ f e. cc; least = λ g p. absurd (none g p) }

-- one refusal and no other
pub least_one : (f : Refusal) → IsLeast (λ g. g ≡ f) (Some f)
least_one f = record { holds = λ g e. cc; least = λ g e. subst (λ (x : Refusal). NoLater f x) (sym e) (no_later_same f) }

-- the same is broken
pub least_same : {P Q : Refusal → Type 0} {o : Option Refusal} → ((f : Refusal) → P f → Q f) → ((f : Refusal) → Q f → P f) → IsLeast P o → IsLeast Q o
least_same to back l = record { holds = λ f e. to f (l.holds f e); least = λ g q. l.least g (back g q) }

-- nothing is broken where there is no first
pub none_broken : {P : Refusal → Type 0} → IsLeast P None → (f : Refusal) → P f → ⊥
none_broken l f p = l.least f p

-- of an equation and what it says
pub least_along : {P : Refusal → Type 0} {o q : Option Refusal} → o ≡ q → IsLeast P o → IsLeast P q
least_along {P = P} e l = subst (λ (x : Option Refusal). IsLeast P x) e l

-- of a union: the lesser
pub least_either : {P Q : Refusal → Type 0} (a b : Option Refusal) → IsLeast P a → IsLeast Q b → IsLeast (Either P Q) (lesser_of a b)
least_either None b l m =
    record { holds = λ f e. inr (m.holds f e); least = λ g. elim [ inl p ↦ absurd (l.least g p) | inr q ↦ m.least g q ] }
least_either (Some f) None l m =
    record { holds = λ g e. inl (l.holds g e); least = λ g. elim [ inl p ↦ l.least g p | inr q ↦ absurd (m.least g q) ] }
least_either {P = P} {Q = Q} (Some f) (Some g) l m = go (no_later f g) refl
  where
    go : (b : Bool) → no_later f g ≡ b → IsLeast (Either P Q) (cond b (Some f) (Some g))
    go true e = record {
      holds = λ h i. inl (l.holds h i);
      least = λ h. elim [ inl p ↦ l.least h p | inr q ↦ no_later_through f g h (no_later_true f g e) (m.least h q) ];
    }
    go false e = record {
      holds = λ h i. inr (m.holds h i);
      least = λ h. elim [ inl p ↦ no_later_through g f h (no_later_false f g e) (l.least h p) | inr q ↦ m.least h q ];
    }

-- of two phases: that of the earlier, if there is one
pub least_phased : {P Q : Refusal → Type 0} (a b : Option Refusal) → IsLeast P a → IsLeast Q b → IsLeast (Phased P Q) (earlier_of a b)
least_phased None b l m =
    record { holds = λ f e. inr (m.holds f e, l.least); least = λ g. elim [ inl p ↦ absurd (l.least g p) | inr q ↦ m.least g q.0 ] }
least_phased (Some f) b l m =
    record { holds = λ g e. inl (l.holds g e); least = λ g. elim [ inl p ↦ l.least g p | inr q ↦ absurd (q.1 f (l.holds f refl)) ] }

-- of one refusal under a test that tells a fact
pub least_if : {Q : Type 0} (b : Bool) (f : Refusal) → (b ≡ true → Q) → (b ≡ false → Q → ⊥) → IsLeast (λ g. (g ≡ f) × Q) (cond b (Some f) None)
least_if true f on_true on_false =
    record { holds = λ g e. (cc, on_true refl); least = λ g q. subst (λ (x : Refusal). NoLater f x) (sym q.0) (no_later_same f) }
least_if false f on_true on_false = record { holds = λ g e. cc; least = λ g q. absurd (on_false refl q.1) }

-- of one refusal that is all that is broken
pub least_only : {P : Refusal → Type 0} (g : Refusal) → P g → ((f : Refusal) → P f → f ≡ g) → IsLeast P (Some g)
least_only {P = P} g p only =
    record {
      holds = λ f e. let same : g ≡ f = cc in subst (λ (x : Refusal). P x) same p;
      least = λ f q. subst (λ (x : Refusal). NoLater g x) (sym (only f q)) (no_later_same g);
    }

-- of one refusal under a flag that tells a fact
pub least_flag : (Q : Type 0) (b : Bool) (f : Refusal) → MatchBool b Q (Q → ⊥) → IsLeast (λ g. (g ≡ f) × Q) (cond b (Some f) None)
least_flag Q b f h = least_if b f (told_true b Q h) (told_false b Q h)

-- of one refusal by a test
pub least_told : (Q : Type 0) (b : Bool) (f : Refusal) (o : Option Refusal) → (b ≡ true) ↔ Q → o ≡ cond b (Some f) None → IsLeast (λ g. (g ≡ f) × Q) o
least_told Q b f o h is = least_along (sym is) (least_if b f h.0 (λ e q. not_both (h.1 q) e))

-- of two phases, where the earlier has one
pub least_first : {P Q : Refusal → Type 0} (f : Refusal) → IsLeast P (Some f) → IsLeast (Phased P Q) (Some f)
least_first f l = record { holds = λ g e. inl (l.holds g e); least = λ g. elim [ inl p ↦ l.least g p | inr q ↦ absurd (q.1 f (l.holds f refl)) ] }
