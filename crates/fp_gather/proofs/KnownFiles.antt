-- What is kept of the files that were read, with one more.
use Rattle.std.proofs.Common.{◌≡◌, ℕ, ◌+◌, ◌-◌, ◌<◌, ◌≤◌, List, [], ◌∷◌, ◌++◌, length, Bool, true, false, cond, MatchBool, Option, Some, None, refl, sym, ap, subst, ◌∙◌, arith}
use Rattle.std.specs.Prelude.{Contains, IsSomeAnd, MatchOption, nat_le, sum_by}
use Rattle.std.proofs.lemmas.List.{map-append, length-map}
use Rattle.std.proofs.lemmas.List.Sums.{sum_by-append}
use Rattle.std.proofs.lemmas.Bool.Decides.{nat_tests}
use Rattle.std.proofs.Math.Nat.{zero-add}
use Rattle.fp_base.specs.declared.refusal.Refusal.{Refusal}
use Rattle.fp_base.specs.Least.{IsLeast, lesser_of}
use Rattle.fp_base.proofs.Calculus.{least_none}
use Rattle.fp_base.proofs.Numbers.{at_most}
use Rattle.fp_parse_parts.specs.declared.parsing.Inside.{Inside}
use Rattle.fp_gather.proofs.FoundInFiles.{in_files_least, refused_least}
use Rattle.fp_gather.specs.gathering.Answers.{IsFound, Knows, room_left}
use Rattle.fp_gather.specs.gathering.Reading.{Reading, Gives, Passes, most_bytes}
use Rattle.fp_gather.specs.gathering.Walks.{Walked, bytes_of, has_some, is_included, next_reading, nothing_read, with_reading, with_refused}
use Rattle.fp_gather.specs.declared.gathering.progress.Progress.{Progress}
use Rattle.fp_gather.specs.declared.gathering.reading.FileFound.{FileFound}

none_there : {X : Type 0} (x : X) → Contains [] x → ⊥
none_there x h = let lt = h.1 in absurd (omega (arith, lt))

pub nothing_known : (progress : Progress) → progress ≡ record { names = []; room = Some 16777216; inclusions = 0; tokens = None; grammar = None; includes = None } → Knows progress nothing_read
nothing_known progress e = record {
  names = ap (λ (p : Progress). p.names) e;
  room = go progress.room (ap (λ (p : Progress). p.room) e);
  inclusions = ap (λ (p : Progress). p.inclusions) e;
  tokens = least_at progress.tokens (ap (λ (p : Progress). p.tokens) e) (λ f q. none_there q.0 q.1);
  grammar = least_at progress.grammar (ap (λ (p : Progress). p.grammar) e) (λ f q. none_there q.0 q.1);
  includes = least_at progress.includes (ap (λ (p : Progress). p.includes) e) (λ f q. none_there f q);
}
  where
    go : (room : Option ℕ) → room ≡ Some 16777216 → MatchOption room (most_bytes < 0) (λ left. 0 + left ≡ most_bytes)
    go None e = cc
    go (Some left) e = let same : left ≡ 16777216 = cc in omega (arith, same)

    least_at : {P : Refusal → Type 0} (o : Option Refusal) → o ≡ None → ((f : Refusal) → P f → ⊥) → IsLeast P o
    least_at None e none = least_none none
    least_at (Some f) e none = cc

le_false : (m n : ℕ) → nat_le m n ≡ false → n < m
le_false m n e = grind (arith, nat_tests)

-- how much room is left
room_step : (room : Option ℕ) (bytes count total : ℕ) → total ≡ bytes + count → MatchOption room (most_bytes < bytes) (λ left. bytes + left ≡ most_bytes)
    → MatchOption (room_left room count) (most_bytes < total) (λ left. total + left ≡ most_bytes)
room_step None bytes count total e h = omega (arith, e, h)
room_step (Some left) bytes count total e h = go (nat_le count left) refl
  where
    go : (b : Bool) → nat_le count left ≡ b → MatchOption (cond b (Some (left - count)) None) (most_bytes < total) (λ more. total + more ≡ most_bytes)
    go true t = let l : count ≤ left = at_most count left t in omega (arith, e, h, l)
    go false t = let l : left < count = le_false count left t in omega (arith, e, h, l)

pub passes_step : (room : Option ℕ) (bytes count : ℕ) (passes : Bool) → MatchOption room (most_bytes < bytes) (λ left. bytes + left ≡ most_bytes)
    → MatchBool passes (IsSomeAnd room (λ left. left < count)) (IsSomeAnd room (λ left. left < count) → ⊥)
    → MatchBool passes ((bytes ≤ most_bytes) × (most_bytes < bytes + count)) ((bytes ≤ most_bytes) × (most_bytes < bytes + count) → ⊥)
passes_step None bytes count true h p = absurd p
passes_step None bytes count false h p = λ q. let a = q.0 in absurd (omega (arith, h, a))
passes_step (Some left) bytes count true h p = (omega (arith, h, p), omega (arith, h, p))
passes_step (Some left) bytes count false h p = λ q. let b = q.1 in p (omega (arith, h, b))

sum_more : (f : Reading → ℕ) (readings : List Reading) (r : Reading) → sum_by f (readings ++ r ∷ []) ≡ sum_by f readings + f r
sum_more f readings r = sum_by-append f readings (r ∷ []) ∙ ap (λ (n : ℕ). sum_by f readings + n) (zero-add (f r))

-- what is kept, with a reading more
pub known_more : (old new : Progress) (before : Walked) (r : Reading) (found : FileFound) → Knows old before → IsFound r found
    → new.names ≡ old.names ++ r.name ∷ [] → new.room ≡ room_left old.room (length r.text) → new.inclusions ≡ old.inclusions + cond (has_some r.round) 1 0
    → new.tokens ≡ lesser_of old.tokens found.tokens → new.grammar ≡ lesser_of old.grammar found.grammar → new.includes ≡ old.includes
    → Knows new (with_reading before r)
known_more old new before r found known is_found names room inclusions tokens grammar includes = record {
  names = names ∙ ap (λ (x : List (List ℕ)). x ++ r.name ∷ []) known.names ∙ sym (map-append (λ (q : Reading). q.name) before.readings (r ∷ []));
  room = room_at new.room room;
  inclusions = inclusions ∙ ap (λ (n : ℕ). n + cond (has_some r.round) 1 0) known.inclusions ∙ sym (sum_more (λ (q : Reading). cond (is_included q) 1 0) before.readings r);
  tokens = least_at new.tokens tokens (in_files_least before r old.tokens found.tokens known.tokens is_found.tokens);
  grammar = least_at new.grammar grammar (in_files_least before r old.grammar found.grammar known.grammar is_found.grammar);
  includes = least_at new.includes includes known.includes;
}
  where
    least_at : {P : Refusal → Type 0} (o : Option Refusal) {q : Option Refusal} → o ≡ q → IsLeast P q → IsLeast P o
    least_at {P = P} o e l = subst (λ (x : Option Refusal). IsLeast P x) (sym e) l

    room_at : (o : Option ℕ) → o ≡ room_left old.room (length r.text)
        → MatchOption o (most_bytes < bytes_of (before.readings ++ r ∷ [])) (λ left. bytes_of (before.readings ++ r ∷ []) + left ≡ most_bytes)
    room_at o e = subst (λ (x : Option ℕ). MatchOption x (most_bytes < bytes_of (before.readings ++ r ∷ [])) (λ left. bytes_of (before.readings ++ r ∷ []) + left ≡ most_bytes)) (sym e)
        (room_step old.room (bytes_of before.readings) (length r.text) (bytes_of (before.readings ++ r ∷ [])) (sum_more (λ (q : Reading). length q.text) before.readings r) known.room)

-- what is kept, with an include that breaks its rule
pub known_refused : (old new : Progress) (before : Walked) (f : Refusal) → Knows old before → new ≡ record old { includes = lesser_of old.includes (Some f) } → Knows new (with_refused before f)
known_refused old new before f known e = subst (λ (p : Progress). Knows p (with_refused before f)) (sym e) (record {
  names = known.names;
  room = known.room;
  inclusions = known.inclusions;
  tokens = known.tokens;
  grammar = known.grammar;
  includes = refused_least before.refused f old.includes known.includes;
})

-- what is given of a file that is taken in, and what is kept then
pub taken : (old : Progress) (before : Walked) (round : List (List ℕ)) (within : Inside) (name copied text : List ℕ) (number inclusions : ℕ) (passes : Bool) (found : FileFound)
    (names : List (List ℕ)) (room : Option ℕ) (tokens grammar : Option Refusal) → Knows old before
    → number ≡ length old.names → inclusions ≡ old.inclusions + cond (has_some round) 1 0
    → MatchBool passes (IsSomeAnd old.room (λ left. left < length text)) (IsSomeAnd old.room (λ left. left < length text) → ⊥)
    → ((r : Reading) → r.number ≡ number → r.text ≡ text → r.inside ≡ within → MatchBool passes (Passes r) (Passes r → ⊥) → IsFound r found)
    → copied ≡ name → names ≡ old.names ++ copied ∷ [] → room ≡ room_left old.room (length text)
    → tokens ≡ lesser_of old.tokens found.tokens → grammar ≡ lesser_of old.grammar found.grammar
    → Gives (next_reading before round within name text) found.given
    × Knows (record { names = names; room = room; inclusions = inclusions; tokens = tokens; grammar = grammar; includes = old.includes }) (with_reading before (next_reading before round within name text))
taken old before round within name copied text number inclusions passes found names room tokens grammar known en ei ep is_found ec ens er et eg =
    let r = next_reading before round within name text in
    let here = is_found r (sym (en ∙ ap length known.names ∙ length-map before.readings (λ (q : Reading). q.name))) refl refl
    (passes_step old.room (bytes_of before.readings) (length text) passes known.room ep) in (
      here.gives,
      known_more old (record { names = names; room = room; inclusions = inclusions; tokens = tokens; grammar = grammar; includes = old.includes }) before r found known here
          (ens ∙ ap (λ (x : List ℕ). old.names ++ x ∷ []) ec) er ei et eg refl,
    )
