-- An expression has one value at most.
use Rattle.std.proofs.Common.{◌≡◌, ℕ, ℤ, pos, neg_ℤ, List, Some, None, refl, sym, ap, subst, ◌∙◌}
use Rattle.fp_base.proofs.Options.{same_some}
use Rattle.fp_base.specs.declared.value.Value.{Value, Int, Array, Struct}
use Rattle.fp_tree.specs.declared.source.Source.{Source}
use Rattle.fp_tree.specs.declared.name.Qual.{Qual}
use Rattle.fp_tree.specs.declared.definition.Enum.{Enum}
use Rattle.fp_tree.specs.declared.part.EnumConst.{EnumConst}
use Rattle.fp_tree.specs.declared.expression.Expr.{Expr}
use Rattle.fp_meaning.specs.Names.{Path}
use Rattle.fp_meaning.specs.Origins.{Constant, Enumerated}
use Rattle.fp_meaning.specs.Values.{Opened, opened, number_in, result_of, constant_value, parts_with, MeansOrigin, Val, number, text, truth, constant, written, implied, negated, combined, enclosed, listed, structured, Vals, none, more}
use Rattle.fp_meaning.proofs.OneOrigin.{origin_unique}

-- the value of an expression in another scope that is the same
moved : {source : Source} {one other : Path} {e f : Expr} {v : Value} → one ≡ other → e ≡ f → Val source one (opened e) v → Val source other (opened f) v
moved {source = source} {other = other} {e = e} {v = v} same_scope same h =
    subst (λ (x : Expr). Val source other (opened x) v) same (subst (λ (p : Path). Val source p (opened e) v) same_scope h)

same_numbers : {u v : Value} {x y : ℤ} → u ≡ v → number_in u ≡ Some x → number_in v ≡ Some y → x ≡ y
same_numbers e p q = same_some (sym p ∙ ap number_in e ∙ q)

-- what the origins that a use means have in common
module _ (source : Source) (scope : Path) (name : Qual) where
  same_constant : {p q : Path} {e f : Expr} → MeansOrigin source scope name (Constant p e) → MeansOrigin source scope name (Constant q f) → (q ≡ p) × (f ≡ e)
  same_constant {p = p} {q = q} {e = e} {f = f} m n = let same : Constant p e ≡ Constant q f = origin_unique source scope name m n in (cc, cc)

  apart : {p q : Path} {e : Expr} {enum : Enum} {position : ℕ} {c : EnumConst}
      → MeansOrigin source scope name (Constant p e) → MeansOrigin source scope name (Enumerated q enum position c) → ⊥
  apart {p = p} {q = q} {e = e} {enum = enum} {position = position} {c = c} m n =
      let same : Constant p e ≡ Enumerated q enum position c = origin_unique source scope name m n in cc

  same_enumerated : {p q : Path} {one other : Enum} {i j : ℕ} {c d : EnumConst}
      → MeansOrigin source scope name (Enumerated p one i c) → MeansOrigin source scope name (Enumerated q other j d) → (q ≡ p) × (other ≡ one) × (j ≡ i) × (d ≡ c)
  same_enumerated {p = p} {q = q} {one = one} {other = other} {i = i} {j = j} {c = c} {d = d} m n =
      let same : Enumerated p one i c ≡ Enumerated q other j d = origin_unique source scope name m n in (cc, cc, cc, cc)

same_written : {c d : EnumConst} {e f : Expr} → d ≡ c → c.value ≡ Some e → d.value ≡ Some f → f ≡ e
same_written same a b = same_some (sym b ∙ ap (λ (x : EnumConst). x.value) same ∙ a)

not_both : {A : Type 0} {c d : EnumConst} {e : Expr} → d ≡ c → c.value ≡ Some e → d.value ≡ None → A
not_both same a b = let both : None ≡ Some _ = sym b ∙ ap (λ (x : EnumConst). x.value) same ∙ a in cc

same_value : {p q : Path} {one other : Enum} {c d : EnumConst} {x y : ℤ} → q ≡ p → other ≡ one → d ≡ c → x ≡ y → constant_value p one c x ≡ constant_value q other d y
same_value a b c d = cc

mutual
  pub one_value : {source : Source} {scope : Path} {s : Opened} {v w : Value} → Val source scope s v → Val source scope s w → v ≡ w
  one_value number number = refl
  one_value text text = refl
  one_value truth truth = refl
  one_value {source = source} {scope = scope} (constant {name = name} m h) (constant n k) =
      let same = same_constant source scope name m n in
      one_value h (moved same.0 same.1 k)
  one_value {source = source} {scope = scope} (constant {name = name} m h) (written n c k l) = absurd (apart source scope name m n)
  one_value {source = source} {scope = scope} (constant {name = name} m h) (implied n c all) = absurd (apart source scope name m n)
  one_value {source = source} {scope = scope} (written {name = name} m c h l) (constant n k) = absurd (apart source scope name n m)
  one_value {source = source} {scope = scope} (written {name = name} m a h i) (written n b k j) =
      let same = same_enumerated source scope name m n in
      same_value same.0 same.1 same.3 (same_numbers (one_value h (moved same.0 (same_written same.3 a b) k)) i j)
  one_value {source = source} {scope = scope} (written {name = name} m a h l) (implied n b all) = not_both (same_enumerated source scope name m n).3 a b
  one_value {source = source} {scope = scope} (implied {name = name} m c all) (constant n k) = absurd (apart source scope name n m)
  one_value {source = source} {scope = scope} (implied {name = name} m b all) (written n a k l) = not_both (same_enumerated source scope name n m).3 a b
  one_value {source = source} {scope = scope} (implied {name = name} m c all) (implied n d other) =
      let same = same_enumerated source scope name m n in
      same_value same.0 same.1 same.3 (ap (λ (k : ℕ). pos k) (sym same.2))
  one_value (negated h i f) (negated k j g) = ap (λ (x : ℤ). Int (neg_ℤ x)) (same_numbers (one_value h k) i j)
  one_value (combined {operator = operator} {x = x} {y = y} h i l m r) (combined {x = x'} {y = y'} k j n o s) =
      let left : x ≡ x' = same_numbers (one_value h k) i j in
      let right : y ≡ y' = same_numbers (one_value l n) m o in
      ap (λ (z : ℤ). Int (result_of operator z y)) left ∙ ap (λ (z : ℤ). Int (result_of operator x' z)) right
  one_value (enclosed h) (enclosed k) = one_value h k
  one_value (listed h i) (listed k j) = ap Array (one_values h k)
  one_value (structured {members = members} h i) (structured k j) = ap (λ (vs : List Value). Struct (parts_with members vs)) (one_values h k)

  pub one_values : {source : Source} {scope : Path} {es : List Expr} {vs ws : List Value} → Vals source scope es vs → Vals source scope es ws → vs ≡ ws
  one_values none none = refl
  one_values (more h hs) (more k ks) = let first = one_value h k in let rest = one_values hs ks in cc
