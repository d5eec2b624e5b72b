-- What is broken in an expression, from what its outermost production breaks and what its parts break.
use Rattle.std.proofs.Common.{◌≡◌, zero, suc, List, [], ◌∷◌, slice_get, Option, Some, None, refl, inl, inr, sym, subst}
use Rattle.fp_base.specs.declared.refusal.Refusal.{Refusal}
use Rattle.fp_tree.specs.declared.source.Source.{Source}
use Rattle.fp_tree.specs.declared.expression.Expr.{Expr}
use Rattle.fp_base.specs.Least.{IsLeast, Either, lesser_of}
use Rattle.fp_meaning.specs.Names.{Path}
use Rattle.fp_meaning.specs.Values.{Opened, opened}
use Rattle.fp_meaning.specs.ConstantFaults.{BrokenHere, parts_of, BrokenIn, itself, within}
use Rattle.fp_consts.specs.Examined.{PartsBroken}
use Rattle.fp_base.proofs.Calculus.{least_none, least_same, least_either}

module _ (source : Source) (scope : Path) where
  pub parts_none : IsLeast (PartsBroken source scope []) None
  parts_none = least_none (λ f t. cc)

  pub parts_one : (a : Expr) (o : Option Refusal) → IsLeast (BrokenIn source scope a) o → IsLeast (PartsBroken source scope (a ∷ [])) o
  parts_one a o l = least_same to back l
    where
      to : (f : Refusal) → BrokenIn source scope a f → PartsBroken source scope (a ∷ []) f
      to f b = (0, a, refl, b)

      back : (f : Refusal) → PartsBroken source scope (a ∷ []) f → BrokenIn source scope a f
      back f (zero, x, at, b) = let same : x ≡ a = cc in subst (λ (e : Expr). BrokenIn source scope e f) same b
      back f (suc k, x, at, b) = cc

  pub parts_two : (a b : Expr) (o q : Option Refusal) → IsLeast (BrokenIn source scope a) o → IsLeast (BrokenIn source scope b) q
      → IsLeast (PartsBroken source scope (a ∷ b ∷ [])) (lesser_of o q)
  parts_two a b o q l m = least_same to back (least_either o q l m)
    where
      to : (f : Refusal) → Either (BrokenIn source scope a) (BrokenIn source scope b) f → PartsBroken source scope (a ∷ b ∷ []) f
      to f (inl h) = (0, a, refl, h)
      to f (inr h) = (1, b, refl, h)

      back : (f : Refusal) → PartsBroken source scope (a ∷ b ∷ []) f → Either (BrokenIn source scope a) (BrokenIn source scope b) f
      back f (zero, x, at, h) = let same : x ≡ a = cc in inl (subst (λ (e : Expr). BrokenIn source scope e f) same h)
      back f (suc zero, x, at, h) = let same : x ≡ b = cc in inr (subst (λ (e : Expr). BrokenIn source scope e f) same h)
      back f (suc (suc k), x, at, h) = cc

  pub broken_whole : (e : Expr) (s : Opened) (P : Refusal → Type 0) (own inner : Option Refusal) → opened e ≡ s
      → ((f : Refusal) → P f → BrokenHere source scope e.at.first s f) → ((f : Refusal) → BrokenHere source scope e.at.first s f → P f)
      → IsLeast P own → IsLeast (PartsBroken source scope (parts_of s)) inner → IsLeast (BrokenIn source scope e) (lesser_of own inner)
  broken_whole e s P own inner is here there l m = least_same to back (least_either own inner l m)
    where
      to : (f : Refusal) → Either P (PartsBroken source scope (parts_of s)) f → BrokenIn source scope e f
      to f (inl p) = itself (subst (λ (x : Opened). BrokenHere source scope e.at.first x f) (sym is) (here f p))
      to f (inr t) = within t.0 (subst (λ (x : Opened). slice_get (parts_of x) t.0 ≡ Some t.1) (sym is) t.2) t.3

      back : (f : Refusal) → BrokenIn source scope e f → Either P (PartsBroken source scope (parts_of s)) f
      back f (itself h) = inl (there f (subst (λ (x : Opened). BrokenHere source scope e.at.first x f) is h))
      back f (within {part = part} k at b) = inr (k, part, subst (λ (x : Opened). slice_get (parts_of x) k ≡ Some part) is at, b)

  -- of an expression without parts that breaks nothing
  pub unbroken : (e : Expr) (s : Opened) → opened e ≡ s → ((f : Refusal) → BrokenHere source scope e.at.first s f → ⊥) → parts_of s ≡ []
      → IsLeast (BrokenIn source scope e) None
  unbroken e s is never none =
      broken_whole e s (λ f. ⊥) None None is (λ f p. absurd p) never (least_none (λ f p. p))
      (subst (λ (parts : List Expr). IsLeast (PartsBroken source scope parts) None) (sym none) parts_none)
