-- What is noted of the ports that connections join, and which connections join others.
use Rattle.std.proofs.Common.{◌≡◌, ℕ, ◌+◌, ◌<◌, ◌≤◌, Bool, true, false, not, cond, ◌&&◌, ◌||◌, ◌==◌, List, [], ◌∷◌, ◌++◌, length, take, drop, Some, slice_get, refl, sym, ap, subst, ◌∙◌, arith}
use Rattle.std.specs.BTreeSet.{BTreeSet, contains}
use Rattle.std.specs.List.{list_any}
use Rattle.std.specs.Ordering.{is_eq, nat_cmp, ordering_then}
use Rattle.std.proofs.lemmas.Bool.Decides.{nat_tests}
use Rattle.std.proofs.lemmas.List.{append-nil, append_assoc}
use Rattle.std.proofs.lemmas.List.Folds.{list_any-append}
use Rattle.std.proofs.Math.Bool.{or-false}
use Rattle.fp_base.proofs.Bools.{both, was_there, was_new, or_noted}
use Rattle.fp_base.proofs.Lists.{any_same, take_next, drop_over, drop_here}
use Rattle.fp_base.proofs.Comparing.{both_equal, numbers_tie}
use Rattle.fp_tables.specs.declared.topology.Link.{Link}
use Rattle.fp_topologies.specs.Ends.{AreTaken, Ends, HasPorts, ends_cmp, ends_of}
use Rattle.fp_topologies.specs.Joined.{new_beside, same_ports}

-- ---- equal ends are the same ports

regroup : (a b c d : Bool) → (((a && b) && c) && d) ≡ (a && (b && (c && d)))
regroup false b c d = refl
regroup true false c d = refl
regroup true true c d = refl

ends_tie : (l q : Link) → is_eq (ends_cmp (ends_of l) (ends_of q)) ≡ same_ports q l
ends_tie l q =
    let one = nat_cmp l.from q.from in
    let two = nat_cmp l.from_port q.from_port in
    let three = nat_cmp l.to q.to in
    let four = nat_cmp l.to_port q.to_port in
    both_equal (ordering_then (ordering_then one two) three) four ∙ ap (λ b. b && is_eq four) (both_equal (ordering_then one two) three)
    ∙ ap (λ b. (b && is_eq three) && is_eq four) (both_equal one two) ∙ regroup (is_eq one) (is_eq two) (is_eq three) (is_eq four)
    ∙ alike (is_eq one) (is_eq two) (is_eq three) (is_eq four) (q.from == l.from) (q.from_port == l.from_port) (q.to == l.to) (q.to_port == l.to_port)
    (numbers_tie l.from q.from) (numbers_tie l.from_port q.from_port) (numbers_tie l.to q.to) (numbers_tie l.to_port q.to_port)
  where
    alike : (a b c d e f g h : Bool) → a ≡ e → b ≡ f → c ≡ g → d ≡ h → (a && (b && (c && d))) ≡ (e && (f && (g && h)))
    alike a b c d e f g h p q r s = λ i. p i && (q i && (r i && s i))

-- ---- noting

pub noted_more : (now had : Bool) (key : Ends) (l q : Link) → key ≡ ends_of l → now ≡ cond (is_eq (ends_cmp key (ends_of q))) true had → now ≡ (had || same_ports q l)
noted_more now had key l q is e =
    or_noted now (same_ports q l) had (e ∙ ap (λ (k : Ends). cond (is_eq (ends_cmp k (ends_of q))) true had) is ∙ ap (λ b. cond b true had) (ends_tie l q))

pub fresh_is : (new : Bool) (had : Ends → Bool) (key : Ends) (l : Link) → key ≡ ends_of l → new ≡ not (had key) → new ≡ not (had (ends_of l))
fresh_is new had key l is e = e ∙ ap (λ (k : Ends). not (had k)) is

pub noted_behind : (before after : BTreeSet Ends) (xs : List Link) (l : Link)
    → ((q : Link) → contains ends_cmp after (ends_of q) ≡ (contains ends_cmp before (ends_of q) || same_ports q l)) → HasPorts before xs → HasPorts after (xs ++ l ∷ [])
noted_behind before after xs l notes has q =
    notes q ∙ ap (λ b. b || same_ports q l) (has q) ∙ ap (λ b. list_any (same_ports q) xs || b) (sym (or-false (same_ports q l))) ∙ sym (list_any-append (same_ports q) xs (l ∷ []))

pub noted_next : (before after : BTreeSet Ends) (there all : List Link) (n : ℕ) (l : Link) → slice_get all n ≡ Some l
    → ((q : Link) → contains ends_cmp after (ends_of q) ≡ (contains ends_cmp before (ends_of q) || same_ports q l)) → HasPorts before (there ++ take n all) → HasPorts after (there ++ take (n + 1) all)
noted_next before after there all n l here notes has =
    subst (HasPorts after) (append_assoc there (take n all) (l ∷ []) ∙ ap (λ xs. there ++ xs) (sym (take_next all n l here))) (noted_behind before after (there ++ take n all) l notes has)

pub noted_none : (noted : BTreeSet Ends) (there : List Link) → HasPorts noted there → HasPorts noted (there ++ [])
noted_none noted there has = subst (HasPorts noted) (sym (append-nil there)) has

-- ---- those that join other ports

alike_to : (l q x : Link) → same_ports q l ≡ true → same_ports q x ≡ same_ports l x
alike_to l q x e =
    let a = both (q.from == l.from) (q.from_port == l.from_port && (q.to == l.to && q.to_port == l.to_port)) e in
    let b = both (q.from_port == l.from_port) (q.to == l.to && q.to_port == l.to_port) a.1 in
    let c = both (q.to == l.to) (q.to_port == l.to_port) b.1 in
    λ i. same q.from l.from x.from a.0 i && (same q.from_port l.from_port x.from_port b.0 i && (same q.to l.to x.to c.0 i && same q.to_port l.to_port x.to_port c.1 i))
  where
    same : (m n k : ℕ) → (m == n) ≡ true → (m == k) ≡ (n == k)
    same m n k e = grind (arith, nat_tests)

-- one that was there is noted in vain
known_or : (xs : List Link) (l q : Link) → list_any (same_ports l) xs ≡ true → (list_any (same_ports q) xs || same_ports q l) ≡ list_any (same_ports q) xs
known_or xs l q there = go (same_ports q l) refl
  where
    ors : (a : Bool) → a ≡ true → (a || true) ≡ a
    ors true e = refl
    ors false e = sym e

    go : (b : Bool) → same_ports q l ≡ b → (list_any (same_ports q) xs || same_ports q l) ≡ list_any (same_ports q) xs
    go true e = ap (λ b. list_any (same_ports q) xs || b) e ∙ ors (list_any (same_ports q) xs) (any_same (same_ports q) (same_ports l) (λ x. alike_to l q x e) xs ∙ there)
    go false e = ap (λ b. list_any (same_ports q) xs || b) e ∙ or-false (list_any (same_ports q) xs)

pub noted_again : (before after : BTreeSet Ends) (xs : List Link) (l : Link) → ((q : Link) → contains ends_cmp after (ends_of q) ≡ (contains ends_cmp before (ends_of q) || same_ports q l))
    → list_any (same_ports l) xs ≡ true → HasPorts before xs → HasPorts after xs
noted_again before after xs l notes there has q = notes q ∙ ap (λ b. b || same_ports q l) (has q) ∙ known_or xs l q there

pub taken_none : (there all : List Link) (noted : BTreeSet Ends) → HasPorts noted there → AreTaken there all 0 noted []
taken_none there all noted has = record {
  has = noted_none noted there has;
  rest = ap (λ xs. new_beside xs all) (sym (append-nil there));
}

module _ (there all : List Link) (n : ℕ) (before after : BTreeSet Ends) (taken : List Link) (l : Link) (here : slice_get all n ≡ Some l) (new : Bool)
    (fresh : new ≡ not (contains ends_cmp before (ends_of l))) (notes : (q : Link) → contains ends_cmp after (ends_of q) ≡ (contains ends_cmp before (ends_of q) || same_ports q l))
    (so : AreTaken there all n before taken) where
  opened : (b : Bool) → list_any (same_ports l) (there ++ taken) ≡ b
      → new_beside there all ≡ taken ++ cond b (new_beside (there ++ taken) (drop (n + 1) all)) (l ∷ new_beside ((there ++ taken) ++ l ∷ []) (drop (n + 1) all))
  opened b is =
      so.rest ∙ ap (λ xs. taken ++ new_beside (there ++ taken) xs) (drop_here all n l here)
      ∙ ap (λ a. taken ++ cond a (new_beside (there ++ taken) (drop (n + 1) all)) (l ∷ new_beside ((there ++ taken) ++ l ∷ []) (drop (n + 1) all))) is

  pub taken_passed : new ≡ false → AreTaken there all (n + 1) after taken
  taken_passed e =
      let known : list_any (same_ports l) (there ++ taken) ≡ true = sym (so.has l) ∙ was_there new (contains ends_cmp before (ends_of l)) fresh e in
      record { has = noted_again before after (there ++ taken) l notes known so.has; rest = opened true known }

  pub taken_more : new ≡ true → (more : List Link) → more ≡ taken ++ l ∷ [] → AreTaken there all (n + 1) after more
  taken_more e more is =
      let unknown : list_any (same_ports l) (there ++ taken) ≡ false = sym (so.has l) ∙ was_new new (contains ends_cmp before (ends_of l)) fresh e in
      let joined : (there ++ taken) ++ l ∷ [] ≡ there ++ (taken ++ l ∷ []) = append_assoc there taken (l ∷ []) in
      subst (AreTaken there all (n + 1) after) (sym is)
      (record {
        has = subst (HasPorts after) joined (noted_behind before after (there ++ taken) l notes so.has);
        rest =
            opened false unknown ∙ sym (append_assoc taken (l ∷ []) (new_beside ((there ++ taken) ++ l ∷ []) (drop (n + 1) all)))
            ∙ ap (λ xs. (taken ++ l ∷ []) ++ new_beside xs (drop (n + 1) all)) joined;
      })

pub taken_all : (there all : List Link) (n : ℕ) (noted : BTreeSet Ends) (taken : List Link) → length all ≤ n → AreTaken there all n noted taken → taken ≡ new_beside there all
taken_all there all n noted taken over so =
    sym (append-nil taken) ∙ sym (ap (λ xs. taken ++ new_beside (there ++ taken) xs) (drop_over all n over)) ∙ sym so.rest
