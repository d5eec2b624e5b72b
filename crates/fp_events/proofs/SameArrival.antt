-- The tests of specs/Answers decide equality.
use Rattle.std.proofs.Common.{◌≡◌, ℕ, true, ◌&&◌, Option, List, refl, ap₂, arith, ◌==◌}
use Rattle.std.proofs.lemmas.Bool.Decides.{nat_tests}
use Rattle.fp_base.proofs.Bools.{both}
use Rattle.fp_base.specs.Same.{same, same_option, same_text}
use Rattle.fp_base.proofs.Sameness.{Tests, value_same, list_same, option_same, text_same, nat_same}
use Rattle.fp_tables.specs.Lookup.{same_end}
use Rattle.fp_tables.specs.declared.topology.End.{End}
use Rattle.fp_events.specs.declared.event.Point.{Point}
use Rattle.fp_events.specs.declared.event.Point.TheVariants.{Port, Command, Post, Signal}
use Rattle.fp_events.specs.declared.event.Origin.{Origin}
use Rattle.fp_events.specs.declared.event.Origin.TheVariants.{Caller, Own, Wire}
use Rattle.fp_events.specs.declared.event.Arrival.{Arrival}
use Rattle.fp_events.specs.Answers.{same_point, same_origin, same_values, same_arrival}

point_equal : (p q : Point) → same_point p q ≡ true → p ≡ q
point_equal (Port m j) (Port n k) h = grind (arith, nat_tests)
point_equal (Command m) (Command n) h = grind (arith, nat_tests)
point_equal (Post m) (Post n) h = grind (arith, nat_tests)
point_equal (Signal r s) (Signal q u) h = grind (arith, nat_tests)
point_equal _ _ h = absurd (cc)

point_itself : (p : Point) → same_point p p ≡ true
point_itself (Port m j) = grind (arith, nat_tests)
point_itself (Command m) = grind (arith, nat_tests)
point_itself (Post m) = grind (arith, nat_tests)
point_itself (Signal m j) = grind (arith, nat_tests)

end_equal : (e f : End) → same_end e f ≡ true → e ≡ f
end_equal e f h =
    let t = both ((e.instance == f.instance) && (e.port == f.port)) (e.number == f.number) h in
    let u = both (e.instance == f.instance) (e.port == f.port) t.0 in
    let p : e.instance ≡ f.instance = nat_same.equal _ _ u.0 in
    let q : e.port ≡ f.port = nat_same.equal _ _ u.1 in
    let r : e.number ≡ f.number = nat_same.equal _ _ t.1 in
    λ j. record { instance = p j; port = q j; number = r j }

end_itself : (e : End) → same_end e e ≡ true
end_itself e = rw (nat_same.itself e.instance, nat_same.itself e.port) (nat_same.itself e.number)

note_same : Tests (same_option same_text)
note_same = option_same same_text text_same

values_same : Tests same_values
values_same = list_same same value_same

pub value_option_same : Tests (same_option same)
value_option_same = option_same same value_same

origin_equal : (o q : Origin) → same_origin o q ≡ true → o ≡ q
origin_equal Caller Caller h = refl
origin_equal Own Own h = refl
origin_equal (Wire e m) (Wire f n) h =
    let t = both (same_end e f) (same_option same_text m n) h in
    ap₂ (λ (a : End) (b : Option (List ℕ)). Wire a b) (end_equal e f t.0) (note_same.equal m n t.1)
origin_equal _ _ h = absurd (cc)

origin_itself : (o : Origin) → same_origin o o ≡ true
origin_itself Caller = refl
origin_itself Own = refl
origin_itself (Wire e m) = rw (end_itself e) (note_same.itself m)

pub arrival_equal : (r q : Arrival) → same_arrival r q ≡ true → r ≡ q
arrival_equal r q h =
    let t = both (same_point r.point q.point && same_origin r.origin q.origin) (same_values r.with q.with) h in
    let u = both (same_point r.point q.point) (same_origin r.origin q.origin) t.0 in
    let a = point_equal r.point q.point u.0 in
    let b = origin_equal r.origin q.origin u.1 in
    let c = values_same.equal r.with q.with t.1 in
    λ j. record { point = a j; origin = b j; with = c j }

pub arrival_itself : (r : Arrival) → same_arrival r r ≡ true
arrival_itself r = rw (point_itself r.point, origin_itself r.origin) (values_same.itself r.with)

pub arrival_option_same : Tests (same_option same_arrival)
arrival_option_same = option_same same_arrival (record { equal = arrival_equal; itself = arrival_itself })
