-- Marks and places in lists of the walk.
use Rattle.std.proofs.Common.{◌≡◌, ◌≢◌, ℕ, zero, suc, ◌<◌, ◌⊎◌, Bool, List, [], ◌∷◌, ◌++◌, length, map, set, Some, slice_get, refl, sym, ap, ◌∙◌, subst, inl, inr, arith, length-set}
use Rattle.std.proofs.lemmas.Option.{slice_get_within}
use Rattle.fp_graph.specs.declared.visit.Mark.{Mark}
use Rattle.fp_graph.specs.declared.visit.Mark.TheVariants.{Done}
use Rattle.fp_graph.specs.Visits.{Among, marked}
use Rattle.fp_base.proofs.Spots.{get_set_same, get_set_other, same_or_other}

pub among_map : {A B : Type 0} (f : A → B) (xs : List A) (y : B) → Among (map f xs) y → (x : A) × Among xs x × (f x ≡ y)
among_map f [] y h = absurd h
among_map f (x ∷ xs) y (inl e) = (x, inl refl, e)
among_map f (x ∷ xs) y (inr h) = let t = among_map f xs y h in (t.0, inr t.1, t.2)

-- ---- marks of several

pub marked_length : (vs : List ℕ) (c : Bool) (marks : List Mark) → length (marked vs c marks) ≡ length marks
marked_length [] c marks = refl
marked_length (v ∷ vs) c marks = marked_length vs c (set marks v (Done c)) ∙ length-set marks v (Done c)

pub marked_other : (vs : List ℕ) (c : Bool) (marks : List Mark) (w : ℕ) → ((k : ℕ) → slice_get vs k ≡ Some w → ⊥)
    → slice_get (marked vs c marks) w ≡ slice_get marks w
marked_other [] c marks w h = refl
marked_other (v ∷ vs) c marks w h =
    marked_other vs c (set marks v (Done c)) w (λ k e. h (suc k) e) ∙ get_set_other marks v w (Done c) (λ e. h 0 (ap Some (sym e)))

pub stays_marked : (vs : List ℕ) (c : Bool) (marks : List Mark) (w : ℕ) → slice_get marks w ≡ Some (Done c) → slice_get (marked vs c marks) w ≡ Some (Done c)
stays_marked [] c marks w e = e
stays_marked (v ∷ vs) c marks w e = stays_marked vs c (set marks v (Done c)) w (go (same_or_other w v))
  where
    go : (w ≡ v) ⊎ (w ≢ v) → slice_get (set marks v (Done c)) w ≡ Some (Done c)
    go (inl s) =
        let within = slice_get_within marks w (Done c) e in
        subst (λ (x : ℕ). slice_get (set marks v (Done c)) x ≡ Some (Done c)) (sym s) (get_set_same marks v (Done c) (omega arith))
    go (inr n) = get_set_other marks v w (Done c) n ∙ e

pub marked_same : (vs : List ℕ) (c : Bool) (marks : List Mark) (w k : ℕ) → slice_get vs k ≡ Some w → w < length marks
    → slice_get (marked vs c marks) w ≡ Some (Done c)
marked_same [] c marks w k e h = cc
marked_same (v ∷ vs) c marks w zero e h =
    let s : v ≡ w = cc in
    stays_marked vs c (set marks v (Done c)) w (subst (λ (x : ℕ). slice_get (set marks x (Done c)) w ≡ Some (Done c)) (sym s) (get_set_same marks w (Done c) h))
marked_same (v ∷ vs) c marks w (suc k) e h =
    let long = length-set marks v (Done c) in
    marked_same vs c (set marks v (Done c)) w k e (omega arith)

pub marked_push : (vs : List ℕ) (v : ℕ) (c : Bool) (marks : List Mark) → marked (vs ++ v ∷ []) c marks ≡ set (marked vs c marks) v (Done c)
marked_push [] v c marks = refl
marked_push (w ∷ vs) v c marks = marked_push vs v c (set marks w (Done c))
