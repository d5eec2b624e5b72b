-- What an option holds, and what is held of an answer.
use Rattle.std.proofs.Common.{◌≡◌, ◌↔◌, ◌∙◌, ℕ, Bool, true, false, cond, not, Option, Some, None, refl, sym}
use Rattle.std.specs.Prelude.{is_some, is_none, option_map, option_and_then, Result, Ok, Err, IfOk, OnOk}

pub same_some : {A : Type 0} {x y : A} → Some x ≡ Some y → x ≡ y
same_some e = cc

-- of one option
pub one_some : {A : Type 0} (o : Option A) (x y : A) → o ≡ Some x → o ≡ Some y → x ≡ y
one_some o x y d e = cc

pub none_of : {A : Type 0} (o : Option A) → not (is_some o) ≡ true → o ≡ None
none_of None h = refl
none_of (Some x) h = absurd (cc)

pub some_of : {A : Type 0} (o : Option A) → is_some o ≡ true → (x : A) × (o ≡ Some x)
some_of None h = absurd (cc)
some_of (Some x) h = (x, refl)

pub mapped_some : {A B : Type 0} (f : A → B) (o : Option A) (y : B) → option_map f o ≡ Some y → (x : A) × (o ≡ Some x) × (f x ≡ y)
mapped_some f None y h = absurd (cc)
mapped_some f (Some x) y h = (x, refl, same_some h)

pub then_some : {A B : Type 0} (f : A → Option B) (o : Option A) (y : B) → option_and_then f o ≡ Some y → (x : A) × (o ≡ Some x) × (f x ≡ Some y)
then_some f None y h = absurd (cc)
then_some f (Some x) y h = (x, refl, h)

pub if_ok_then : {A E : Type 0} (r : Result A E) (P Q : A → Type 0) → ((x : A) → P x → Q x) → IfOk r P → IfOk r Q
if_ok_then (Ok x) P Q then h = then x h
if_ok_then (Err e) P Q then h = tt

pub on_ok_then : {A E : Type 0} (r : Result A E) (P Q : Type 0) → (P → Q) → OnOk r P → OnOk r Q
on_ok_then (Ok x) P Q then h = then h
on_ok_then (Err e) P Q then h = tt

-- ---- that there is none

pub no_some : {A B : Type 0} {x : A} → None ≡ Some x → B
no_some e = absurd (cc)

pub none_some : {A B : Type 0} {x : A} {o : Option A} → o ≡ None → o ≡ Some x → B
none_some e d = no_some (sym e ∙ d)

pub none_is : {A : Type 0} (o : Option A) → is_none o ≡ true → o ≡ None
none_is None e = refl
none_is (Some x) e = absurd (cc)

pub none_unless : {A : Type 0} (o : Option A) → ((x : A) → o ≡ Some x → ⊥) → o ≡ None
none_unless None h = refl
none_unless (Some x) h = absurd (h x refl)

pub none_told : {A : Type 0} (o : Option A) (b : Bool) → is_some o ≡ not b → (b ≡ true) ↔ (o ≡ None)
none_told None true e = (λ h. refl, λ h. refl)
none_told None false e = absurd (cc)
none_told (Some x) true e = absurd (cc)
none_told (Some x) false e = (λ h. absurd (cc), λ h. absurd (cc))

-- what stands there under a test
pub some_if : (m n : ℕ) (b : Bool) → cond b (Some m) None ≡ Some n → m ≡ n
some_if m n true e = same_some e
some_if m n false e = absurd (cc)
