-- A use means one definition.
use Rattle.std.proofs.Common.{◌≡◌, ℕ, ◌<◌, List, [], ◌∷◌, ◌++◌, length, refl, sym, subst, ◌∙◌, arith}
use Rattle.fp_base.specs.declared.refusal.Refusal.{Refusal}
use Rattle.fp_meaning.specs.declared.group.Group.{Group}
use Rattle.fp_meaning.specs.declared.names.Definition.{Definition}
use Rattle.fp_meaning.specs.declared.names.Mention.{Mention}
use Rattle.fp_meaning.specs.Broken.{IsUndefined, IsWrongKind}
use Rattle.fp_meaning.specs.Meaning.{IsFirst, IsScopeOf, Means}
use Rattle.fp_meaning.specs.Names.{Path}

-- two beginnings of one length are one
pub same_start : (p r q s : Path) → p ++ r ≡ q ++ s → length p ≡ length q → p ≡ q
same_start [] r [] s e l = refl
same_start [] r (y ∷ q) s e l = absurd (omega arith)
same_start (x ∷ p) r [] s e l = absurd (omega arith)
same_start (x ∷ p) r (y ∷ q) s e l =
    let h : x ≡ y = cc in
    let f : p ++ r ≡ q ++ s = cc in
    λ i. h i ∷ same_start p r q s f (omega arith) i

-- neither is less
pub neither_less : (x y : ℕ) → (y < x → ⊥) → (x < y → ⊥) → x ≡ y
neither_less x y a b = grind arith

first_same : (a b : List ℕ) (p q : Path) → a ∷ p ≡ b ∷ q → a ≡ b
first_same a b p q e = cc

pub one_scope : (ds : List Definition) (scope : Path) (group : Group) (first : List ℕ) (a b : Path) → IsScopeOf ds scope group first a → IsScopeOf ds scope group first b → a ≡ b
one_scope ds scope group first a b s t =
    same_start a s.rest b t.rest (sym s.within ∙ t.within)
    (neither_less (length a) (length b) (λ l. t.longest a s.rest s.within l s.known) (λ l. s.longest b t.rest t.within l t.known))

one_first : (ds : List Definition) (group : Group) (name : Path) (a b : ℕ) → IsFirst ds group name a → IsFirst ds group name b → a ≡ b
one_first ds group name a b s t = neither_less a b (λ l. s.first b l t.named) (λ l. t.first a l s.named)

pub one_meaning : (ds : List Definition) (scope name : Path) (group : Group) (a b : ℕ) → Means ds scope name group a → Means ds scope name group b → a ≡ b
one_meaning ds scope name group a b m n =
    let firsts : n.first ≡ m.first = first_same n.first m.first n.others m.others (sym n.names ∙ m.names) in
    let found : IsScopeOf ds scope group m.first n.prefix = subst (λ (x : List ℕ). IsScopeOf ds scope group x n.prefix) firsts n.found in
    let prefixes = one_scope ds scope group m.first n.prefix m.prefix found m.found in
    one_first ds group (m.prefix ++ name) a b m.meant (subst (λ (x : Path). IsFirst ds group (x ++ name) b) prefixes n.meant)

pub undefined_or_wrong_kind : (ds : List Definition) (m : Mention) (f g : Refusal) → IsUndefined ds m f → IsWrongKind ds m g → ⊥
undefined_or_wrong_kind ds m f g u w = u.1 w.1.0 w.1.1
