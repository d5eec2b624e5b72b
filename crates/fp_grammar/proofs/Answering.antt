-- What a function answers, from what the functions that it called answered.
use Rattle.std.proofs.Common.{◌≡◌, ℕ, ◌+◌, List, ◌∷◌, drop, ◌++◌, ◌∙◌, ap, inl, inr, length, sym, subst}
use Rattle.std.specs.Prelude.{not, true, Result, Ok, Err, IsErrAnd}
use Rattle.std.proofs.lemmas.Result.{err_from_is_err_and}
use Rattle.fp_base.proofs.Bools.{and_left, and_right}
use Rattle.fp_grammar.specs.declared.halt.Halt.{Halt}
use Rattle.fp_grammar.specs.declared.halt.Halt.TheVariants.{Unexpected, NoMemory}
use Rattle.fp_grammar.specs.Grammar.{Grammar, Spells}
use Rattle.fp_grammar.specs.Sets.{nullable, is_predictive}
use Rattle.fp_grammar.specs.Grammar.Grammar.{token, seq, map, alt}
use Rattle.fp_grammar.specs.Parses.{Accepts, Refuses, RefusesBy, Parses}
use Rattle.fp_grammar.proofs.Cutting.{Agrees}
use Rattle.fp_grammar.specs.Promises.{RefsGood}
use Rattle.fp_grammar.proofs.Fits.{told_of}
use Rattle.fp_grammar.proofs.Seconds.{apart_never}
use Rattle.fp_grammar.proofs.Further.{first_further_accepts}
use Rattle.fp_grammar.proofs.Walk.{Absent}
use Rattle.fp_grammar.proofs.Steps.{absent}

module _ {T : Type 0} {kind : T → ℕ} where
  refused_by : {X A : Type 0} {g : Grammar T X} {a : Grammar T A} {tokens : List T} {from mid : ℕ} → ((to : ℕ) → Refuses kind a tokens mid to → Refuses kind g tokens from to) → (s : Halt) → RefusesBy kind a tokens mid s → RefusesBy kind g tokens from s
  refused_by f (Unexpected to) h = f to h
  refused_by f NoMemory h = tt

  -- the exit of a `?`
  pub passing : {X A : Type 0} {g : Grammar T X} {a : Grammar T A} {tokens : List T} {from mid : ℕ} (s : Halt) (r : Result (X × ℕ) Halt) → ((to : ℕ) → Refuses kind a tokens mid to → Refuses kind g tokens from to) → RefusesBy kind a tokens mid s → IsErrAnd r (λ y. y ≡ s) → Parses kind g tokens from r
  passing {g = g} {tokens = tokens} {from = from} s r f h e =
      let p = err_from_is_err_and r e in
      let b : RefusesBy kind g tokens from p.0 = subst (λ v. RefusesBy kind g tokens from v) (sym p.2) (refused_by f s h) in
      subst (λ v. Parses kind g tokens from v) (sym p.1) b

  -- what a call answered is handed on
  pub handing : {X : Type 0} {g a : Grammar T X} {tokens : List T} {from mid : ℕ} → ((x : X) (to : ℕ) → Accepts kind a tokens mid x to → Accepts kind g tokens from x to) → ((to : ℕ) → Refuses kind a tokens mid to → Refuses kind g tokens from to) → (r : Result (X × ℕ) Halt) → Parses kind a tokens mid r → Parses kind g tokens from r
  handing f h (Ok p) i = f p.0 p.1 i
  handing f h (Err s) i = refused_by h s i

  pub absent_map : {X Y : Type 0} {f : X → Y} {a : Grammar T X} {tokens : List T} {mid : ℕ} → Absent kind a tokens mid → Absent kind (map f a) tokens mid
  absent_map n = record { nothing = λ z y agrees s. n.nothing z s.0 agrees s.2 }

  -- what was made, said otherwise
  pub as_value : {X : Type 0} {g : Grammar T X} {tokens : List T} {from to : ℕ} {x y : X} → x ≡ y → Accepts kind g tokens from x to → Accepts kind g tokens from y to
  as_value {g = g} {tokens = tokens} {from = from} {to = to} e p = subst (λ v. Accepts kind g tokens from v to) e p

  -- neither alternative is there
  pub absent_both : {X : Type 0} {a b : Grammar T X} {tokens : List T} {mid : ℕ} → Absent kind a tokens mid → Absent kind b tokens mid → Absent kind (alt a b) tokens mid
  absent_both {X = X} {a = a} {b = b} {tokens = tokens} {mid = mid} n m = record { nothing = go }
    where
      go : (z : List T) (x : X) → Agrees z (drop mid tokens) → Spells kind (alt a b) z x → ⊥
      go z x agrees (inl s) = n.nothing z x agrees s
      go z x agrees (inr s) = m.nothing z x agrees s

  -- what was read as the first alternative rules out the second
  pub alt_first_accepted : {X : Type 0} {a b : Grammar T X} {tokens : List T} {mid to : ℕ} {x : X} → is_predictive (alt a b) ≡ true → RefsGood kind (alt a b) → Accepts kind a tokens mid x to → Accepts kind (alt a b) tokens mid x to
  alt_first_accepted {a = a} {b = b} {x = x} predictive refs p =
      let e1 = and_right (is_predictive a) _ predictive in
      let e2 = and_right (is_predictive b) _ e1 in
      let never = apart_never a b (and_left (not (nullable a)) _ e2) (told_of a (and_left (is_predictive a) _ predictive) refs.0) (told_of b (and_left (is_predictive b) _ e1) refs.1) (and_right (not (nullable b)) _ (and_right (not (nullable a)) _ e2)) in
      first_further_accepts p (λ t s more y e i. never p.w (t ∷ more) x y p.spelled i)

  -- a call refused at its first token: the part is absent
  pub absent_now : {X : Type 0} {a : Grammar T X} {tokens : List T} {at : ℕ} (s : Halt) → s ≡ Unexpected at → RefusesBy kind a tokens at s → Absent kind a tokens at
  absent_now {a = a} {tokens = tokens} {at = at} s e h = let p : Refuses kind a tokens at at = subst (λ v. RefusesBy kind a tokens at v) e h in absent p

  -- a call refused later
  pub refused_later : {X A : Type 0} {g : Grammar T X} {a : Grammar T A} {tokens : List T} {from at : ℕ} → ((to : ℕ) → (at ≡ to → ⊥) → Refuses kind a tokens at to → Refuses kind g tokens from to) → (s : Halt) → (s ≡ Unexpected at → ⊥) → RefusesBy kind a tokens at s → RefusesBy kind g tokens from s
  refused_later f (Unexpected to) other h = f to (λ e. other (ap Unexpected (sym e))) h
  refused_later f NoMemory other h = tt

  -- what begins with a token that was refused is absent
  pub absent_after : {X A : Type 0} {k : ℕ} {a : Grammar T A} {f : T × A → X} {tokens : List T} {mid : ℕ} → Refuses kind (token k) tokens mid mid → Absent kind (map f (seq (token k) a)) tokens mid
  absent_after {X = X} {k = k} {a = a} {f = f} {tokens = tokens} {mid = mid} p =
      let n = absent p in
      record { nothing = λ z y agrees s. n.nothing s.2.0 s.0.0 (λ t r e. agrees t (r ++ s.2.1) (s.2.2 ∙ ap (λ l. l ++ s.2.1) e)) s.2.3 }

  -- a token takes one place
  pub after_one : {k : ℕ} {t : T} {tokens : List T} {mid at : ℕ} → Accepts kind (token k) tokens mid t at → at ≡ mid + 1
  after_one {k = k} {mid = mid} p = p.place ∙ ap (λ l. mid + length l) p.spelled.0
