-- The thirteen tests of a program.
use Rattle.std.proofs.Common.{◌≡◌, Bool, true, ◌&&◌, IsTrue, refl}
use Rattle.fp_base.proofs.Bools.{both}

three : (a b c : Bool) → ((a && b) && c) ≡ true → (a ≡ true) × (b ≡ true) × (c ≡ true)
three a b c t = let p = both (a && b) c t in let q = both a b p.0 in (q.0, q.1, p.1)

four : (a b c d : Bool) → (((a && b) && c) && d) ≡ true → (a ≡ true) × (b ≡ true) × (c ≡ true) × (d ≡ true)
four a b c d t = let p = both ((a && b) && c) d t in let q = three a b c p.0 in (q.0, q.1, q.2, p.1)

six : (a b c d e f : Bool) → (((((a && b) && c) && d) && e) && f) ≡ true → (a ≡ true) × (b ≡ true) × (c ≡ true) × (d ≡ true) × (e ≡ true) × (f ≡ true)
six a b c d e f t =
    let p = both ((((a && b) && c) && d) && e) f t in
    let q = both (((a && b) && c) && d) e p.0 in
    let r = four a b c d q.0 in (r.0, r.1, r.2, r.3, q.1, p.1)

pub thirteen : (a b c d e f g h i j k l m : Bool) → IsTrue ((((a && b) && c) && (((d && e) && f) && g)) && (((((h && i) && j) && k) && l) && m)) →
    (a ≡ true) × (b ≡ true) × (c ≡ true) × (d ≡ true) × (e ≡ true) × (f ≡ true) × (g ≡ true)
    × (h ≡ true) × (i ≡ true) × (j ≡ true) × (k ≡ true) × (l ≡ true) × (m ≡ true)
thirteen a b c d e f g h i j k l m t =
    let p = both (((a && b) && c) && (((d && e) && f) && g)) (((((h && i) && j) && k) && l) && m) t in
    let q = both ((a && b) && c) (((d && e) && f) && g) p.0 in
    let x = three a b c q.0 in
    let y = four d e f g q.1 in
    let z = six h i j k l m p.1 in (x.0, x.1, x.2, y.0, y.1, y.2, y.3, z.0, z.1, z.2, z.3, z.4, z.5)

pub thirteen_back : (a b c d e f g h i j k l m : Bool) →
    a ≡ true → b ≡ true → c ≡ true → d ≡ true → e ≡ true → f ≡ true → g ≡ true → h ≡ true → i ≡ true → j ≡ true → k ≡ true → l ≡ true → m ≡ true → IsTrue ((((a && b) && c) && (((d && e) && f) && g)) && (((((h && i) && j) && k) && l) && m))
thirteen_back a b c d e f g h i j k l m p q r s t u v w x y z o n = rw (p, q, r, s, t, u, v, w, x, y, z, o, n) refl
