-- `Parses` is the relation of the longest viable prefix.
use Rattle.std.proofs.Common.{◌≡◌, ℕ, ◌≤◌, List, [], ◌∷◌, ◌++◌, ◌⊎◌, length, drop, sym, ◌∙◌, ap, subst, inl, inr, arith, append-nil, append_assoc, length-append}
use Rattle.std.specs.Prelude.{Result, Ok, Err}
use Rattle.fp_grammar.specs.declared.halt.Halt.{Halt}
use Rattle.fp_grammar.specs.declared.halt.Halt.TheVariants.{Unexpected, NoMemory}
use Rattle.fp_grammar.specs.Grammar.{Grammar, Spells}
use Rattle.fp_grammar.specs.Parses.{Parses, IsStuck}
use Rattle.fp_grammar.specs.Longest.{IsViable, Begins, AnswersLongest}
use Rattle.fp_grammar.proofs.Lists.{Cuts, cuts_of}
use Rattle.fp_grammar.proofs.Lists.Cuts.{same, longer, shorter}
use Rattle.fp_grammar.specs.Promises.{Fits}
use Rattle.fp_grammar.proofs.Fits.{good_of}

pub longest_by : {T X : Type 0} (kind : T → ℕ) (g : Grammar T X) (w rest : List T) → IsStuck (Spells kind g) w rest → (v : List T) → Begins (w ++ rest) v → IsViable kind g v → length v ≤ length w
longest_by {T = T} kind g w rest stuck v (s, e) (more, x, i) = go (cuts_of w rest v s e)
  where
    go : Cuts w rest v s → length v ≤ length w
    go (same f h) = omega (arith, ap length f)
    go (longer t r f h) = absurd (stuck t (r ++ s) (r ++ more) x h (subst (λ l. Spells kind g l x) (ap (λ l. l ++ more) f ∙ append_assoc w (t ∷ r) more) i))
    go (shorter t r f h) = omega (arith, ap length f, length-append v (t ∷ r))

module _ {T : Type 0} where
  pub answers_longest_of : {X : Type 0} (kind : T → ℕ) (g : Grammar T X) (tokens : List T) (from : ℕ) (r : Result (X × ℕ) Halt) → ((w : List T) × (x : X) × Spells kind g w x) → Parses kind g tokens from r → AnswersLongest kind g tokens from r
  answers_longest_of kind g tokens from (Ok q) f p = (
    p.w,
    record {
      begins = (drop q.1 tokens, p.splits);
      viable = ([], q.0, subst (λ l. Spells kind g l q.0) (sym (append-nil p.w)) p.spelled);
      longest = λ v b i. longest_by kind g p.w (drop q.1 tokens) p.stuck v (b.0, sym p.splits ∙ b.1) i;
    },
    p.spelled,
    p.place,
  )
  answers_longest_of {X = X} kind g tokens from (Err (Unexpected to)) f p = (
    p.w,
    record {
      begins = (drop to tokens, p.splits);
      viable = viable p.viable;
      longest = λ v b i. longest_by kind g p.w (drop to tokens) p.stuck v (b.0, sym p.splits ∙ b.1) i;
    },
    p.none,
    p.place,
  )
    where
      viable : ((p.w ≡ []) ⊎ ((more : List T) × (x : X) × Spells kind g (p.w ++ more) x)) → IsViable kind g p.w
      viable (inl e) = (f.0, f.1, subst (λ l. Spells kind g (l ++ f.0) f.1) (sym e) f.2)
      viable (inr i) = i
  answers_longest_of kind g tokens from (Err NoMemory) f p = tt

module _ {T : Type 0} {kind : T → ℕ} where
  pub answers_longest : {X : Type 0} (g : Grammar T X) (tokens : List T) (from : ℕ) (r : Result (X × ℕ) Halt) → Fits kind g → Parses kind g tokens from r → AnswersLongest kind g tokens from r
  answers_longest g tokens from r fits p = answers_longest_of kind g tokens from r ((good_of g fits.predictive fits.refs).spelling fits.some) p
