-- Items that pass a test, in lists that grow.
use Rattle.std.proofs.Common.{◌≡◌, ◌↔◌, ℕ, Bool, true, false, cond, ◌||◌, List, [], ◌∷◌, ◌++◌, map, Some, None, refl, sym, ap, subst}
use Rattle.std.specs.Prelude.{is_some}
use Rattle.std.specs.List.{find, list_any}
use Rattle.fp_base.proofs.Passing.{any_at, any_found, any_pushed}
use Rattle.fp_base.proofs.Bytes.{same_bytes, bytes_same}
use Rattle.fp_written_parts.specs.declared.port.WrittenPort.{WrittenPort}
use Rattle.fp_component_rules.specs.Firsts.{has_port, is_named, with_port}
use Rattle.fp_component_rules.specs.Tested.{any_seen}

pub any_mapped : {A B : Type 0} (g : A → B) (f : B → Bool) (xs : List A) → list_any (λ (x : A). f (g x)) xs ≡ list_any f (map g xs)
any_mapped g f [] = refl
any_mapped g f (x ∷ xs) = ap (λ (b : Bool). f (g x) || b) (any_mapped g f xs)

mapped_pushed : {A B : Type 0} (f : A → B) (xs : List A) (x : A) → map f (xs ++ x ∷ []) ≡ map f xs ++ f x ∷ []
mapped_pushed f [] x = refl
mapped_pushed {B = B} f (y ∷ xs) x = ap (λ (zs : List B). f y ∷ zs) (mapped_pushed f xs x)

-- ---- the first of a list with one item more

pub find_pushed : {A : Type 0} (f : A → Bool) (xs : List A) (x : A) → find f (xs ++ x ∷ []) ≡ cond (is_some (find f xs)) (find f xs) (cond (f x) (Some x) None)
find_pushed f [] x = refl
find_pushed f (y ∷ xs) x = go (f y) (find_pushed f xs x)
  where
    go : (b : Bool) → find f (xs ++ x ∷ []) ≡ cond (is_some (find f xs)) (find f xs) (cond (f x) (Some x) None)
        → cond b (Some y) (find f (xs ++ x ∷ [])) ≡ cond (is_some (cond b (Some y) (find f xs))) (cond b (Some y) (find f xs)) (cond (f x) (Some x) None)
    go true rest = refl
    go false rest = rest

-- ---- names

-- a port more
pub has_with : (q : List ℕ) (p : WrittenPort) (ps : List WrittenPort) → has_port q (with_port p ps) ≡ (has_port q ps || is_named q p)
has_with q p ps = go (has_port p.name ps) refl
  where
    known : (b c : Bool) → has_port p.name ps ≡ true → is_named q p ≡ b → has_port q ps ≡ c → c ≡ (c || b)
    known b true e is has = refl
    known false false e is has = refl
    known true false e is has =
        let same : has_port q ps ≡ true = subst (λ (n : List ℕ). has_port n ps ≡ true) (sym (same_bytes q p.name is)) e in
        absurd (cc)

    go : (d : Bool) → has_port p.name ps ≡ d → has_port q (cond d ps (ps ++ p ∷ [])) ≡ (has_port q ps || is_named q p)
    go true e = known (is_named q p) (has_port q ps) e refl refl
    go false e = any_pushed (is_named q) ps p

-- one of the names was seen exactly where some name is among both
pub seen_told : (seen own : List WrittenPort) → (any_seen seen own ≡ true) ↔ ((name : List ℕ) × (has_port name own ≡ true) × (has_port name seen ≡ true))
seen_told seen own = (
  λ e.
      let t = any_found (λ (p : WrittenPort). has_port p.name seen) own e in
      (t.1.name, any_at (is_named t.1.name) own t.0 t.1 t.2 (bytes_same t.1.name t.1.name refl), t.3),
  λ t.
      let u = any_found (is_named t.0) own t.1 in
      any_at (λ (p : WrittenPort). has_port p.name seen) own u.0 u.1 u.2 (subst (λ (n : List ℕ). has_port n seen ≡ true) (same_bytes t.0 u.1.name u.3) t.2),
)
