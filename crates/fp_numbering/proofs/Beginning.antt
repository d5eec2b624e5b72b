-- Connections that begin with a number where an earlier one does.
use Rattle.std.proofs.Common.{◌≡◌, ◌∙◌, ap, refl, ℕ, Bool, true, false, ◌&&◌, Option, None, Some, arith}
use Rattle.std.specs.Prelude.{ℤ, ◌==◌}
use Rattle.std.specs.Ordering.{int_eq}
use Rattle.std.proofs.lemmas.Cmp.{int_eq_equiv}
use Rattle.std.proofs.lemmas.Int.{ints}
use Rattle.fp_tables.specs.Lists.{some_and}
use Rattle.fp_numbering.specs.declared.tips.Tip.{Tip}
use Rattle.fp_numbering.specs.Ends.{written_number, at_one_port}
use Rattle.fp_numbering.specs.Faults.{begins_at, repeats}

pub is_begun : (s t : Tip) (z : ℤ) → s.begins ≡ true → at_one_port s t ≡ true → written_number s ≡ Some z → begins_at (t.instance, t.port, z) s ≡ true
is_begun s t z b p w =
    ap (λ (x : Bool). x && (s.instance == t.instance && s.port == t.port && some_and (λ y. int_eq y z) (written_number s))) b
    ∙ ap (λ (o : Option ℤ). s.instance == t.instance && s.port == t.port && some_and (λ y. int_eq y z) o) w
    ∙ ap (λ (x : Bool). s.instance == t.instance && s.port == t.port && x) (int_eq_equiv.refl z)
    ∙ go (s.instance == t.instance) (s.port == t.port) p
  where
    go : (x y : Bool) → (x && y) ≡ true → (x && y && true) ≡ true
    go true true e = refl
    go true false e = cc
    go false y e = cc

int_same : (y z : ℤ) → int_eq y z ≡ true → y ≡ z
int_same y z e = grind (arith, ints)

pub begun_is : (s t : Tip) (z : ℤ) → begins_at (t.instance, t.port, z) s ≡ true → (s.begins ≡ true) × (at_one_port s t ≡ true) × (written_number s ≡ Some z)
begun_is s t z h = go s.begins (s.instance == t.instance) (s.port == t.port) (written_number s) h
  where
    go : (b x y : Bool) (o : Option ℤ) → (b && (x && y && some_and (λ w. int_eq w z) o)) ≡ true → (b ≡ true) × ((x && y) ≡ true) × (o ≡ Some z)
    go true true true (Some w) e = (refl, refl, ap (λ (v : ℤ). Some v) (int_same w z e))
    go true true true None e = cc
    go true true false o e = cc
    go true false y o e = cc
    go false x y o e = cc

pub repeats_from : (begun : ℕ × ℕ × ℤ → Bool) (t : Tip) (z : ℤ) → t.begins ≡ true → written_number t ≡ Some z → begun (t.instance, t.port, z) ≡ true → repeats begun t ≡ true
repeats_from begun t z b w h =
    ap (λ (x : Bool). x && some_and (λ y. begun (t.instance, t.port, y)) (written_number t)) b ∙ ap (λ (o : Option ℤ). some_and (λ y. begun (t.instance, t.port, y)) o) w ∙ h

pub repeats_is : (begun : ℕ × ℕ × ℤ → Bool) (t : Tip) → repeats begun t ≡ true → (t.begins ≡ true) × ((z : ℤ) × (written_number t ≡ Some z) × (begun (t.instance, t.port, z) ≡ true))
repeats_is begun t h = go t.begins (written_number t) h
  where
    go : (b : Bool) (o : Option ℤ) → (b && some_and (λ y. begun (t.instance, t.port, y)) o) ≡ true → (b ≡ true) × ((z : ℤ) × (o ≡ Some z) × (begun (t.instance, t.port, z) ≡ true))
    go true (Some z) e = (refl, (z, refl, e))
    go true None e = cc
    go false o e = cc
