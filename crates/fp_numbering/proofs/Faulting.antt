-- One end more in the walks for what is broken.
use Rattle.std.proofs.Common.{◌≡◌, ◌∙◌, ap, refl, sym, subst, ℕ, ◌+◌, ◌<◌, Bool, true, false, not, ◌&&◌, cond, List, length, take, Option, None, Some, slice_get, get_or}
use Rattle.std.specs.Prelude.{ℤ, is_none, is_some}
use Rattle.std.specs.List.{list_any}
use Rattle.std.specs.Option.{option_map}
use Rattle.std.proofs.lemmas.Option.{slice_get-get_or}
use Rattle.fp_base.specs.declared.refusal.Refusal.{Refusal}
use Rattle.fp_base.specs.declared.rule.Rule.TheVariants.{PortNumberRange, OutputNumberTwice, NoNumberFree}
use Rattle.fp_base.specs.Least.{IsLeast, InFirst, InSome, lesser_of, broken_at}
use Rattle.fp_base.proofs.Calculus.{least_if, least_along, least_same}
use Rattle.fp_base.proofs.Options.{one_some, none_is}
use Rattle.fp_base.proofs.Elements.{least_first_next, least_in_one, least_first_all}
use Rattle.fp_base.proofs.Bools.{twice_not}
use Rattle.fp_tables.specs.Lists.{some_and}
use Rattle.fp_tables.specs.declared.topology.Written.{Written}
use Rattle.fp_numbering.specs.declared.tips.Tip.{Tip}
use Rattle.fp_numbering.specs.Ends.{written_number, number_below}
use Rattle.fp_numbering.specs.Broken.{IsOutOfRange}
use Rattle.fp_numbering.specs.Faults.{begins_at, repeats, IsTwicePlainly, FindsNonePlainly}
use Rattle.fp_numbering.proofs.Walking.{no_tip}

-- one end more
pub next : (P : ℕ → Tip → Refusal → Type 0) (ts : List Tip) (k : ℕ) (a b o : Option Refusal) → k < length ts → o ≡ lesser_of a b
    → IsLeast (InFirst k P ts) a → IsLeast (P k (get_or ts k no_tip)) b → IsLeast (InFirst (k + 1) P ts) o
next P ts k a b o l is before here =
    least_along (sym is) (least_first_next P ts k a b before (least_in_one P ts k (get_or ts k no_tip) b (slice_get-get_or ts k no_tip l) here))

pub over : (P : ℕ → Tip → Refusal → Type 0) (ts : List Tip) (k : ℕ) (o : Option Refusal) → k ≡ length ts → IsLeast (InFirst k P ts) o → IsLeast (InSome P ts) o
over P ts k o is l = least_first_all P ts o (subst (λ (n : ℕ). IsLeast (InFirst n P ts) o) is l)

begins : (b x : Bool) → not b ≡ false → (b && x) ≡ x
begins true x e = refl
begins false x e = cc

pub repeated : (t : Tip) (w : Written) (begun : ℕ × ℕ × ℤ → Bool) (added : Bool) (z : ℤ) → z ≡ w.number → not t.begins ≡ false → t.written ≡ Some w
    → added ≡ not (begun (t.instance, t.port, z)) → not added ≡ repeats begun t
repeated t w begun added z same b is e =
    twice_not added (begun (t.instance, t.port, z)) e ∙ ap (λ (y : ℤ). begun (t.instance, t.port, y)) same
    ∙ sym (ap (λ (o : Option Written). t.begins && some_and (λ z. begun (t.instance, t.port, z)) (option_map (λ (x : Written). x.number) o)) is ∙ begins t.begins _ b)

repeats_same : (f g : ℕ × ℕ × ℤ → Bool) → ((q : ℕ × ℕ × ℤ) → f q ≡ g q) → (t : Tip) → repeats f t ≡ repeats g t
repeats_same f g e t = ap (λ (b : Bool). t.begins && b) (go (written_number t))
  where
    go : (o : Option ℤ) → some_and (λ z. f (t.instance, t.port, z)) o ≡ some_and (λ z. g (t.instance, t.port, z)) o
    go None = refl
    go (Some z) = e (t.instance, t.port, z)

pub twice_least : (ts : List Tip) (k : ℕ) (t : Tip) (begun : ℕ × ℕ × ℤ → Bool) (b : Bool) (o : Option Refusal) → ((q : ℕ × ℕ × ℤ) → begun q ≡ list_any (begins_at q) (take k ts))
    → b ≡ repeats begun t → o ≡ cond b (Some (broken_at OutputNumberTwice t.at)) None → IsLeast (IsTwicePlainly ts k t) o
twice_least ts k t begun b o same is e =
    let eq = is ∙ repeats_same begun (λ q. list_any (begins_at q) (take k ts)) same t in
    least_along (sym e) (least_if b (broken_at OutputNumberTwice t.at) (λ h. sym eq ∙ h) (λ h r. cc (sym h ∙ eq ∙ r)))

all_three : (x y z : Bool) → (x && y && z) ≡ true → (x ≡ true) × (y ≡ true) × (z ≡ true)
all_three true true true e = (refl, refl, refl)
all_three true true false e = cc
all_three true false z e = cc
all_three false y z e = cc

-- of a written number
pub out_least : (k : ℕ) (t : Tip) (w : Written) (z : ℤ) (n : Option ℕ) (b : Bool) (o : Option Refusal) → t.written ≡ Some w → z ≡ w.number → n ≡ number_below t.size z → b ≡ is_none n
    → o ≡ cond b (Some (broken_at PortNumberRange w.at)) None → IsLeast (IsOutOfRange k t) o
out_least k t w z n b o at same is none e =
    let told : b ≡ is_none (number_below t.size w.number) = none ∙ ap (λ (x : Option ℕ). is_none x) (is ∙ ap (λ (y : ℤ). number_below t.size y) same) in
    least_along (sym e)
    (least_same (λ f p. (w, at, p.1, p.0)) back
    (least_if b (broken_at PortNumberRange w.at) (λ h. none_is (number_below t.size w.number) (sym told ∙ h)) (λ h q. cc (sym h ∙ told ∙ ap (λ (x : Option ℕ). is_none x) q))))
  where
    back : (f : Refusal) → IsOutOfRange k t f → (f ≡ broken_at PortNumberRange w.at) × (number_below t.size w.number ≡ None)
    back f p =
        let one : p.0 ≡ w = one_some t.written p.0 w p.1 at in
        (p.3 ∙ ap (λ (x : Written). broken_at PortNumberRange x.at) one, ap (λ (x : Written). number_below t.size x.number) (sym one) ∙ p.2)

number_none : (o : Option Written) → o ≡ None → ◌≡◌ {A = Option ℤ} (option_map (λ (w : Written). w.number) o) None
number_none None e = refl
number_none (Some w) e = cc

to_none : (o : Option Written) → ◌≡◌ {A = Option ℤ} (option_map (λ (w : Written). w.number) o) None → is_none o ≡ true
to_none None e = refl
to_none (Some w) e = cc

is_it : (m n : Option ℕ) → ◌≡◌ {A = Option (Option ℕ)} (Some m) (Some n) → m ≡ n
is_it m n e = cc

none_true : (n : Option ℕ) → n ≡ None → is_none n ≡ true
none_true None e = refl
none_true (Some x) e = cc

pub untested : {A : Type 0} (o : Option A) (b : Bool) → is_some o ≡ not b → b ≡ is_none o
untested None true e = refl
untested None false e = cc
untested (Some x) true e = cc
untested (Some x) false e = refl

pub none_least : (t : Tip) (n : Option ℕ) (y z : Bool) (o : Option Refusal) → is_some t.written ≡ not y → is_some n ≡ not z
    → o ≡ cond (t.begins && y && z) (Some (broken_at NoNumberFree t.at)) None
    → (ts : List Tip) (ns : List (Option ℕ)) (k : ℕ) → slice_get ns k ≡ Some n → IsLeast (FindsNonePlainly ts ns k t) o
none_least t n y z o no_written no_number e ts ns k at =
    let unwritten = untested t.written y no_written in
    let unnumbered = untested n z no_number in
    least_along (sym e)
    (least_if (t.begins && y && z) (broken_at NoNumberFree t.at)
    (λ h.
    let parts = all_three t.begins y z h in
    (parts.0, number_none t.written (none_is t.written (sym unwritten ∙ parts.1)), at ∙ ap (λ (x : Option ℕ). Some x) (none_is n (sym unnumbered ∙ parts.2))))
    (λ h r.
    let is_y : y ≡ true = unwritten ∙ to_none t.written r.1 in
    let is_z : z ≡ true = unnumbered ∙ none_true n (is_it n None (sym at ∙ r.2)) in
    not_all t.begins y z h r.0 is_y is_z))
  where
    not_all : (a b c : Bool) → (a && b && c) ≡ false → a ≡ true → b ≡ true → c ≡ true → ⊥
    not_all true true true e p q r = cc
    not_all true true false e p q r = cc
    not_all true false c e p q r = cc
    not_all false b c e p q r = cc
