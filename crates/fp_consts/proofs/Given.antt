-- Uses whose meanings and values are given.
use Rattle.std.proofs.Common.{◌≡◌, ℕ, ◌+◌, List, [], ◌∷◌, ◌++◌, length, slice_get, Option, Some, inl, inr, refl, sym, subst, arith}
use Rattle.fp_base.specs.declared.value.Value.{Value}
use Rattle.fp_tree.specs.declared.source.Source.{Source}
use Rattle.fp_tree.specs.declared.name.Qual.{Qual}
use Rattle.fp_tree.specs.declared.expression.Form.TheOpen as form
use Rattle.fp_meaning.specs.declared.group.Group.TheVariants as group
use Rattle.fp_meaning.specs.declared.names.Mention.{Mention}
use Rattle.fp_meaning.specs.Names.{Path, definitions}
use Rattle.fp_meaning.specs.Meaning.{Means}
use Rattle.fp_meaning.specs.Origins.{Origin, Constant, Enumerated, NoValue, origins}
use Rattle.fp_meaning.specs.Values.{names_of, MeansOrigin, Val, constant, written, implied, IsValue}
use Rattle.fp_meaning.proofs.Meanings.{one_meaning}
use Rattle.fp_consts.specs.declared.measured.Measured.{Measured}
use Rattle.fp_consts.specs.Examined.{AreGiven, IsExact, HasValue, GivesValue, plain}

module _ (source : Source) (table : List (Option Measured)) (numbers : List ℕ) where
  at_same : (ms : List Mention) (m n : ℕ) → m ≡ n → AreGiven source table numbers ms m → AreGiven source table numbers ms n
  at_same ms m n e g = subst (λ (k : ℕ). AreGiven source table numbers ms k) e g

  pub given_split : (xs ys : List Mention) (from : ℕ) → AreGiven source table numbers (xs ++ ys) from
      → AreGiven source table numbers xs from × AreGiven source table numbers ys (from + length xs)
  given_split [] ys from g = (tt, at_same ys from (from + 0) (omega arith) g)
  given_split (x ∷ xs) ys from g =
      let t = given_split xs ys (from + 1) g.1 in
      ((g.0, t.0), at_same ys (from + 1 + length xs) (from + length (x ∷ xs)) (omega arith) t.1)

module _ (source : Source) (scope : Path) (name : Qual) (number : ℕ) (means : Means (definitions source) scope (names_of name) group.Value number) where
  gives : (origin : Origin) (v : Value) → slice_get (origins source) number ≡ Some origin → GivesValue source origin v → Val source scope (form.Use name) v
  gives (Constant inner e) v at h = constant (number, means, at) h
  gives (Enumerated inner enum position c) v at (inl t) =
      subst (λ (w : Value). Val source scope (form.Use name) w) (sym t.6) (written (number, means, at) t.3 t.4 t.5)
  gives (Enumerated inner enum position c) v at (inr t) =
      subst (λ (w : Value). Val source scope (form.Use name) w) (sym t.2) (implied (number, means, at) t.0 t.1)
  gives NoValue v at h = absurd h

  here : (origin : Origin) → MeansOrigin source scope name origin → slice_get (origins source) number ≡ Some origin
  here origin m = subst (λ (k : ℕ). slice_get (origins source) k ≡ Some origin) (one_meaning _ _ _ _ _ _ m.1 means) m.2

  given_by : (v : Value) → Val source scope (form.Use name) v → HasValue source number v
  given_by v (constant {inner = inner} {e = e} m h) = (Constant inner e, here (Constant inner e) m, h)
  given_by v (written {inner = inner} {enum = enum} {position = position} {c = c} {e = e} {v = u} {n = n} m w h i) =
      (Enumerated inner enum position c, here (Enumerated inner enum position c) m, inl (e, u, n, w, h, i, refl))
  given_by v (implied {inner = inner} {enum = enum} {position = position} {c = c} m w all) =
      (Enumerated inner enum position c, here (Enumerated inner enum position c) m, inr (w, all, refl))

  -- a use has the value of what it means
  pub use_value : (o : Option Measured) → IsExact source number o → IsValue source scope (form.Use name) (plain o)
  use_value o exact = record {
    holds = λ v e. let t = exact.holds v e in gives t.0 v t.1 t.2;
    only = λ v h. exact.only v (given_by v h);
  }
