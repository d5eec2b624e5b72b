-- What is noted of a list so far.
use Rattle.std.proofs.Common.{◌≡◌, ℕ, ◌+◌, ◌<◌, ◌≤◌, ◌==◌, ◌||◌, ◌↔◌, ◌⊎◌, inl, inr, Bool, true, false, not, cond, List, length, slice_get, Option, Some, None, refl, sym, ap, subst, ◌∙◌, arith}
use Rattle.std.proofs.lemmas.Option.{slice_get_within}
use Rattle.fp_base.proofs.Bools.{or_cases, or_left, or_right, not_both}
use Rattle.fp_base.proofs.Elements.{least_first_none, least_next, least_of_all}
use Rattle.fp_base.proofs.Options.{same_some}
use Rattle.fp_base.proofs.Spots.{below_or_at}
use Rattle.fp_base.proofs.Numbers.{same_number, number_same}
use Rattle.fp_base.proofs.Calculus.{least_told}
use Rattle.fp_base.specs.declared.refusal.Refusal.{Refusal}
use Rattle.fp_base.specs.declared.rule.Rule.TheVariants.{BadInstance}
use Rattle.fp_base.specs.Least.{broken_at, InFirst, IsLeast, lesser_of}
use Rattle.fp_topologies.specs.MemberBroken.{Holds, IsRepeated, LackingAt, RepeatedAt, Repeated, Stands}
use Rattle.fp_written_parts.specs.declared.topology.UsedInstance.{UsedInstance}

-- what is noted is what stands at the first so many places
pub record AreNoted (has : ℕ → ℕ → Type 0) (n : ℕ) (noted : ℕ → Bool) : Type 0 where
  pub to : (i : ℕ) → noted i ≡ true → (k : ℕ) × (k < n) × has k i
  pub from : (k i : ℕ) → k < n → has k i → noted i ≡ true

module _ (has : ℕ → ℕ → Type 0) where
  pub none_noted : (noted : ℕ → Bool) → ((i : ℕ) → noted i ≡ false) → AreNoted has 0 noted
  none_noted noted none = record { to = λ i e. not_both e (none i); from = λ k i l h. absurd (omega arith) }

  pub one_noted : (n x : ℕ) (old new : ℕ → Bool) → ((i : ℕ) → new i ≡ (old i || (x == i))) → has n x → ((i : ℕ) → has n i → x ≡ i) → AreNoted has n old → AreNoted has (n + 1) new
  one_noted n x old new adds here only before = record {
    to = λ i e. found i (or_cases (old i) (x == i) (sym (adds i) ∙ e));
    from = λ k i l h. adds i ∙ there k i h (below_or_at k n l);
  }
    where
      found : (i : ℕ) → (old i ≡ true) ⊎ ((x == i) ≡ true) → (k : ℕ) × (k < n + 1) × has k i
      found i (inl e) = let t = before.to i e in let l = t.1 in (t.0, omega arith, t.2)
      found i (inr e) = (n, omega arith, subst (λ (j : ℕ). has n j) (same_number x i e) here)

      there : (k i : ℕ) → has k i → (k < n) ⊎ (k ≡ n) → (old i || (x == i)) ≡ true
      there k i h (inl l) = or_left (old i) (x == i) (before.from k i l h)
      there k i h (inr s) = or_right (old i) (x == i) (number_same x i (only i (subst (λ (j : ℕ). has j i) s h)))

-- ---- of a list of numbers

abbrev pub At : List ℕ → ℕ → ℕ → Type 0
At ns k i = slice_get ns k ≡ Some i

pub number_noted : (ns : List ℕ) (n x : ℕ) (old new : ℕ → Bool) → slice_get ns n ≡ Some x → ((i : ℕ) → new i ≡ (old i || (x == i))) → AreNoted (At ns) n old → AreNoted (At ns) (n + 1) new
number_noted ns n x old new at adds before = one_noted (At ns) n x old new adds at (λ i h. same_some (sym at ∙ h)) before

pub all_noted : (ns : List ℕ) (n : ℕ) (noted : ℕ → Bool) → length ns ≤ n → AreNoted (At ns) n noted → (i : ℕ) → (noted i ≡ true) ↔ Holds ns i
all_noted ns n noted past h i =
    (λ e. let t = h.to i e in (t.0, t.2), λ t. h.from t.0 i (let low = slice_get_within ns t.0 i t.1 in omega arith) t.1)

-- ---- of the own members

module _ (us : List UsedInstance) where
  told_repeated : (n : ℕ) (x : UsedInstance) (noted : ℕ → Bool) → slice_get us n ≡ Some x → AreNoted (Stands us) n noted → (noted x.instance ≡ true) ↔ IsRepeated us n
  told_repeated n x noted at h =
      (λ e. let t = h.to x.instance e in (x.instance, t.0, t.1, t.2, (x, at, refl)), λ r. subst (λ (i : ℕ). noted i ≡ true) (same r.0 r.4) (h.from r.1 r.0 r.2 r.3))
    where
      same : (i : ℕ) → Stands us n i → i ≡ x.instance
      same i t = sym t.2 ∙ ap (λ (u : UsedInstance). u.instance) (same_some (sym t.1 ∙ at))

  pub record RepeatedFirst (n : ℕ) (first : Option Refusal) (noted : ℕ → Bool) : Type 0 where
    pub least : IsLeast (InFirst n (RepeatedAt us) us) first
    pub noted_are : AreNoted (Stands us) n noted

  pub repeated_none : (noted : ℕ → Bool) → ((i : ℕ) → noted i ≡ false) → RepeatedFirst 0 None noted
  repeated_none noted none = record { least = least_first_none (RepeatedAt us) us; noted_are = none_noted (Stands us) noted none }

  not_not : (b : Bool) → not (not b) ≡ b
  not_not true = refl
  not_not false = refl

  pub repeated_next : (n : ℕ) (x : UsedInstance) (first more fault : Option Refusal) (fresh : Bool) (old new : ℕ → Bool) → slice_get us n ≡ Some x → more ≡ lesser_of first fault
      → fault ≡ cond (not fresh) (Some (broken_at BadInstance x.at)) None → fresh ≡ not (old x.instance)
      → ((i : ℕ) → new i ≡ (old i || (x.instance == i))) → RepeatedFirst n first old → RepeatedFirst (n + 1) more new
  repeated_next n x first more fault fresh old new at is found told adds before = record {
    least =
        least_next (RepeatedAt us) us n x first more fault at is
        (least_told (IsRepeated us n) (old x.instance) (broken_at BadInstance x.at) fault (told_repeated n x old at before.noted_are)
        (found ∙ ap (λ (b : Bool). cond b (Some (broken_at BadInstance x.at)) None) (ap not told ∙ not_not (old x.instance))))
        before.least;
    noted_are = one_noted (Stands us) n x.instance old new adds (x, at, refl) (λ i t. ap (λ (u : UsedInstance). u.instance) (same_some (sym at ∙ t.1)) ∙ t.2) before.noted_are;
  }

  pub repeated_all : (n : ℕ) (first : Option Refusal) (noted : ℕ → Bool) → length us ≤ n → RepeatedFirst n first noted → IsLeast (Repeated us) first
  repeated_all n first noted past h = least_of_all (RepeatedAt us) us n first past h.least

-- ---- of what is used

lacking_by : (held : List ℕ) (i : ℕ) (b : Bool) → (b ≡ true) ↔ Holds held i → (not b ≡ true) ↔ (Holds held i → ⊥)
lacking_by held i true is = (λ h. absurd (cc), λ none. absurd (none (is.0 refl)))
lacking_by held i false is = (λ h x. not_both (is.1 x) refl, λ none. refl)

pub lacking_next : (held : List ℕ) (us : List UsedInstance) (has : ℕ → Bool) (n : ℕ) (x : UsedInstance) (first more fault : Option Refusal) (b : Bool) → slice_get us n ≡ Some x → more ≡ lesser_of first fault
    → b ≡ has x.instance → fault ≡ cond (not b) (Some (broken_at BadInstance x.at)) None → ((i : ℕ) → (has i ≡ true) ↔ Holds held i)
    → IsLeast (InFirst n (λ (k : ℕ). LackingAt held) us) first → IsLeast (InFirst (n + 1) (λ (k : ℕ). LackingAt held) us) more
lacking_next held us has n x first more fault b at is told found are before =
    least_next (λ (k : ℕ). LackingAt held) us n x first more fault at is
    (least_told (Holds held x.instance → ⊥) (not b) (broken_at BadInstance x.at) fault
    (subst (λ (h : Bool). (not h ≡ true) ↔ (Holds held x.instance → ⊥)) (sym told) (lacking_by held x.instance (has x.instance) (are x.instance))) found)
    before
