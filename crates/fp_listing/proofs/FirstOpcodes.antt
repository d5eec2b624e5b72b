-- The first opcode of each parameter, where a list of commands grows by one.
use Rattle.std.proofs.Common.{◌≡◌, ℕ, ◌==◌, cond, List, ◌+◌, ◌<◌, length, take, get_or, Option, Some, None, is_some, option_map, find, ap, sym, ◌∙◌, refl}
use Rattle.fp_tables.specs.Lists.{some_and}
use Rattle.fp_tables.specs.declared.component.Command.{Command}
use Rattle.fp_tables.proofs.Firsts.{find_more, mapped}

-- the opcode of the first command of which this gives the parameter
abbrev pub first_opcode : (Command → Option ℕ) → List Command → ℕ → Option ℕ
first_opcode of cs k = option_map (λ (c : Command). c.opcode) (find (λ (c : Command). some_and (λ n. n == k) (of c)) cs)

same : (o : Option ℕ) → o ≡ cond (is_some o) o None
same None = refl
same (Some k) = refl

module _ (of : Command → Option ℕ) (cs : List Command) (i : ℕ) (c : Command) (lt : i < length cs) (is : c ≡ get_or cs i c) (q : ℕ) where
  grown : first_opcode of (take (i + 1) cs) q ≡ cond (is_some (first_opcode of (take i cs) q)) (first_opcode of (take i cs) q) (cond (some_and (λ n. n == q) (of c)) (Some c.opcode) None)
  grown =
      ap (option_map (λ (d : Command). d.opcode)) (find_more (λ (d : Command). some_and (λ n. n == q) (of d)) cs i c lt)
      ∙ mapped (λ (d : Command). d.opcode) (find (λ (d : Command). some_and (λ n. n == q) (of d)) (take i cs)) (some_and (λ n. n == q) (of (get_or cs i c))) (get_or cs i c)
      ∙ ap (λ (d : Command). cond (is_some (first_opcode of (take i cs) q)) (first_opcode of (take i cs) q) (cond (some_and (λ n. n == q) (of d)) (Some d.opcode) None)) (sym is)

  -- a command of a parameter
  pub noted : (k : ℕ) (before now : Option ℕ) → of c ≡ Some k → before ≡ first_opcode of (take i cs) q →
      now ≡ cond (is_some before) before (cond (k == q) (Some c.opcode) None) → now ≡ first_opcode of (take (i + 1) cs) q
  noted k before now of_k stood given =
      given ∙ ap (λ (o : Option ℕ). cond (is_some o) o (cond (k == q) (Some c.opcode) None)) stood
      ∙ ap (λ (o : Option ℕ). cond (is_some (first_opcode of (take i cs) q)) (first_opcode of (take i cs) q) (cond (some_and (λ n. n == q) o) (Some c.opcode) None)) (sym of_k)
      ∙ sym grown

  -- another command
  pub passed : (now : Option ℕ) → of c ≡ None → now ≡ first_opcode of (take i cs) q → now ≡ first_opcode of (take (i + 1) cs) q
  passed now of_none stood =
      stood ∙ same (first_opcode of (take i cs) q)
      ∙ ap (λ (o : Option ℕ). cond (is_some (first_opcode of (take i cs) q)) (first_opcode of (take i cs) q) (cond (some_and (λ n. n == q) o) (Some c.opcode) None)) (sym of_none)
      ∙ sym grown
