-- Tests joined: of one thing, and of each of a list.
use Rattle.std.proofs.Common.{◌≡◌, Bool, true, false, ◌&&◌, List, [], ◌∷◌, refl, sym, ap, ap₂, ◌∙◌}
use Rattle.fp_tables.specs.Lists.{all_hold}

-- as the program joins them
abbrev pub joined : Bool → List Bool → Bool
joined a [] = a
joined a (b ∷ bs) = joined (a && b) bs

both_apart : (a b c : Bool) → ((a && b) && c) ≡ (a && (b && c))
both_apart true b c = refl
both_apart false b c = refl

pub as_joined : (a : Bool) (bs : List Bool) → joined a bs ≡ (a && all_hold bs)
as_joined true [] = refl
as_joined false [] = refl
as_joined a (b ∷ bs) = as_joined (a && b) bs ∙ both_apart a b (all_hold bs)

-- the same results, one after another
pub same_first : {a b : Bool} {xs ys : List Bool} → a ≡ b → xs ≡ ys → ◌≡◌ {A = List Bool} (a ∷ xs) (b ∷ ys)
same_first e f = ap₂ (λ (x : Bool) (xs : List Bool). x ∷ xs) e f

pub none : ◌≡◌ {A = List Bool} [] []
none = refl

pub results : (a : Bool) (xs ys : List Bool) → ◌≡◌ {A = List Bool} (a ∷ xs) ys → joined a xs ≡ all_hold ys
results a xs ys e = as_joined a xs ∙ ap all_hold e

-- where the first result is known
pub later_results : (first a : Bool) (xs ys : List Bool) → first ≡ true → ◌≡◌ {A = List Bool} (a ∷ xs) ys → joined a xs ≡ all_hold (first ∷ ys)
later_results first a xs ys h e = results a xs ys e ∙ sym (ap (λ b. b && all_hold ys) h)
