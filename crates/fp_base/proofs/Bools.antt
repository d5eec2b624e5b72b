-- Truth values that are joined.
use Rattle.std.proofs.Common.{◌≡◌, Bool, true, false, cond, ◌&&◌, ◌||◌, not, MatchBool, ◌⊎◌, inl, inr, refl, sym, ap}

pub both : (a b : Bool) → (a && b) ≡ true → (a ≡ true) × (b ≡ true)
both true true h = (refl, refl)
both true false h = absurd (cc)
both false b h = absurd (cc)

pub join : (a b : Bool) → a ≡ true → b ≡ true → (a && b) ≡ true
join true b h k = k
join false b h k = absurd (cc)

pub neither : (a b : Bool) → (a || b) ≡ false → (a ≡ false) × (b ≡ false)
neither false false h = (refl, refl)
neither false true h = absurd (cc)
neither true b h = absurd (cc)

pub or_cases : (a b : Bool) → (a || b) ≡ true → (a ≡ true) ⊎ (b ≡ true)
or_cases true b e = inl refl
or_cases false b e = inr e

pub or_left : (a b : Bool) → a ≡ true → (a || b) ≡ true
or_left true b e = refl
or_left false b e = cc

pub or_right : (a b : Bool) → b ≡ true → (a || b) ≡ true
or_right true b e = refl
or_right false b e = e

pub not_true : (b : Bool) → not b ≡ true → b ≡ false
not_true false h = refl
not_true true h = absurd (cc)

pub and_left : (a b : Bool) → (a && b) ≡ true → a ≡ true
and_left a b h = (both a b h).0

pub and_right : (a b : Bool) → (a && b) ≡ true → b ≡ true
and_right a b h = (both a b h).1

pub and_true : (b : Bool) → b ≡ (b && true)
and_true true = refl
and_true false = refl

pub or_assoc : (a b c : Bool) → ((a || b) || c) ≡ (a || (b || c))
or_assoc true b c = refl
or_assoc false b c = refl

-- ---- what can't be

pub not_both : {A : Type 0} {b : Bool} → b ≡ true → b ≡ false → A
not_both e f = absurd (cc)

pub never_true : (b : Bool) → not b ≡ true → b ≡ true → ⊥
never_true true h k = cc
never_true false h k = cc

pub not_so : (b : Bool) → (b ≡ true → ⊥) → not b ≡ true
not_so true h = absurd (h refl)
not_so false h = refl

pub not_either : (a b : Bool) → (a ≡ true → ⊥) → not b ≡ true → not (a || b) ≡ true
not_either true b h rest = absurd (h refl)
not_either false b h rest = rest

pub twice_not : (a b : Bool) → a ≡ not b → not a ≡ b
twice_not a true e = ap not e
twice_not a false e = ap not e

-- ---- two that tell of one thing

pub same_truth : (a b : Bool) → (a ≡ true → b ≡ true) → (b ≡ true → a ≡ true) → a ≡ b
same_truth true b h k = sym (h refl)
same_truth false true h k = k refl
same_truth false false h k = refl

pub flag_same : {P Q : Type 0} (flag : Bool) → (P → Q) → (Q → P) → MatchBool flag P (P → ⊥) → MatchBool flag Q (Q → ⊥)
flag_same true f g m = f m
flag_same false f g m = λ q. m (g q)

-- what is new was not there
pub was_there : (new had : Bool) → new ≡ not had → new ≡ false → had ≡ true
was_there new true e f = refl
was_there new false e f = absurd (cc)

pub was_new : (new had : Bool) → new ≡ not had → new ≡ true → had ≡ false
was_new new false e f = refl
was_new new true e f = absurd (cc)

-- what is asked of is noted beside what was
pub or_noted : (now asked had : Bool) → now ≡ cond asked true had → now ≡ (had || asked)
or_noted now true true e = e
or_noted now true false e = e
or_noted now false true e = e
or_noted now false false e = e

-- what a flag tells that decides
pub told_true : (b : Bool) (P : Type 0) → MatchBool b P (P → ⊥) → b ≡ true → P
told_true true P m e = m
told_true false P m e = absurd (cc)

pub told_false : (b : Bool) (P : Type 0) → MatchBool b P (P → ⊥) → b ≡ false → P → ⊥
told_false true P m e = absurd (cc)
told_false false P m e = m
