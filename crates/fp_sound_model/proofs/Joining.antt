-- Lemmas on the wires of a topology.
use Rattle.std.proofs.Common.{◌≡◌, ℕ, Bool, true, false, ◌&&◌, List, [], ◌∷◌, map, eqb, IsTrue, sym, ap₂, ◌∙◌, refl, arith}
use Rattle.std.specs.List.{list_any, list_all}
use Rattle.std.specs.Ordering.{eq_by_cmp, nat_cmp}
use Rattle.std.specs.BTreeSet.{BTreeSet, IsFromIterResult, contains}
use Rattle.std.proofs.lemmas.Bool.Decides.{nat_tests}
use Rattle.fp_tables.specs.Lists.{apart}
use Rattle.fp_tables.specs.Found.{key_cmp, key_of}
use Rattle.fp_tables.specs.Lookup.{same_end}
use Rattle.fp_tables.specs.Instances.{is_member, joins_members}
use Rattle.fp_tables.specs.declared.topology.End.{End}
use Rattle.fp_tables.specs.declared.topology.Wire.{Wire}
use Rattle.fp_tables.specs.declared.topology.Topology.{Topology}
use Rattle.fp_tables.specs.declared.model.Model.{Model}
use Rattle.fp_tables.proofs.Differing.{apart-map}

same_keys : (e f : End) → eq_by_cmp key_cmp (key_of e) (key_of f) ≡ same_end e f
same_keys e f = grind (arith, nat_tests)

pub beginnings_apart : (ws : List Wire) → apart (eq_by_cmp key_cmp) (map (λ (w : Wire). key_of w.from) ws) ≡ apart same_end (map (λ (w : Wire). w.from) ws)
beginnings_apart ws =
    let same : Wire → Wire → Bool = λ v w. same_end v.from w.from in
    sym (apart-map same (eq_by_cmp key_cmp) (λ (w : Wire). key_of w.from) (λ v w. sym (same_keys v.from w.from)) ws)
    ∙ apart-map same same_end (λ (w : Wire). w.from) (λ v w. refl) ws

pub same_member : (q : ℕ) (ns : List ℕ) → list_any (eq_by_cmp nat_cmp q) ns ≡ list_any (λ k. eqb k q) ns
same_member q [] = refl
same_member q (n ∷ ns) =
    let here : eq_by_cmp nat_cmp q n ≡ eqb n q = grind (arith, nat_tests) in
    rw (here, same_member q ns) refl

all_same : {X : Type 0} (f g : X → Bool) → ((x : X) → f x ≡ g x) → (xs : List X) → list_all f xs ≡ list_all g xs
all_same f g same [] = refl
all_same f g same (x ∷ xs) = rw (same x, all_same f g same xs) refl

pub members_join : (m : Model) (o : Topology) (members : BTreeSet ℕ) → IsFromIterResult nat_cmp o.instances members → (ws : List Wire) →
    list_all (λ (w : Wire). contains nat_cmp members w.from.instance && contains nat_cmp members w.to.instance) ws ≡ list_all (joins_members m o) ws
members_join m o members made =
    let member : (i : ℕ) → contains nat_cmp members i ≡ is_member m o i = λ i. made.0 i ∙ same_member i o.instances in
    all_same _ (joins_members m o) (λ w. ap₂ (λ (a b : Bool). a && b) (member w.from.instance) (member w.to.instance))

pub six : (a b c d e f : Bool) → IsTrue (((((a && b) && c) && d) && e) && f) → (a ≡ true) × (b ≡ true) × (c ≡ true) × (d ≡ true) × (e ≡ true) × (f ≡ true)
six true true true true true true h = (refl, refl, refl, refl, refl, refl)
six false b c d e f h = absurd (cc)
six true false c d e f h = absurd (cc)
six true true false d e f h = absurd (cc)
six true true true false e f h = absurd (cc)
six true true true true false f h = absurd (cc)
six true true true true true false h = absurd (cc)

pub six_back : (a b c d e f : Bool) → a ≡ true → b ≡ true → c ≡ true → d ≡ true → e ≡ true → f ≡ true → IsTrue (((((a && b) && c) && d) && e) && f)
six_back a b c d e f p q r s t u = rw (p, q, r, s, t, u) refl
