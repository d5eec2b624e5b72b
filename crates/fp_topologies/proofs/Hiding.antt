-- What importers take of a topology.
use Rattle.std.proofs.Common.{◌≡◌, ℕ, ◌+◌, ◌<◌, Bool, true, false, not, cond, ◌&&◌, ◌||◌, ◌==◌, List, [], ◌∷◌, ◌++◌, take, Option, Some, None, slice_get, refl, sym, ap, subst, ◌∙◌, arith}
use Rattle.std.specs.BTreeSet.{BTreeSet, contains}
use Rattle.std.specs.List.{filter, list_any}
use Rattle.std.specs.Ordering.{is_eq, nat_cmp}
use Rattle.std.proofs.lemmas.Bool.Decides.{nat_tests}
use Rattle.std.proofs.lemmas.List.Elements.{filter_agree}
use Rattle.std.proofs.lemmas.List.Folds.{list_any-append}
use Rattle.std.proofs.lemmas.List.{append-nil}
use Rattle.std.proofs.Math.Bool.{or-false}
use Rattle.fp_base.proofs.Lists.{take_next}
use Rattle.fp_tables.specs.declared.topology.Link.{Link}
use Rattle.fp_written_parts.specs.declared.topology.MemberInstance.{MemberInstance}
use Rattle.fp_written_parts.specs.declared.topology.WrittenTopology.{WrittenTopology}
use Rattle.fp_topologies.specs.Held.{is_private_at}
use Rattle.fp_topologies.specs.Joined.{is_taken}
use Rattle.fp_topologies.specs.Taken.{is_open, is_private_among}

-- by the set of those that are private
pub open_taken : (ts : List WrittenTopology) (t : ℕ) (hidden : BTreeSet ℕ) → ((i : ℕ) → contains nat_cmp hidden i ≡ is_private_at ts t i) → (ls : List Link)
    → filter (is_open hidden) ls ≡ filter (is_taken ts t) ls
open_taken ts t hidden same ls = filter_agree (is_open hidden) (is_taken ts t) (λ (l : Link). λ i. not (same l.from i) && not (same l.to i)) ls

pub private_next : (i : ℕ) (members : List MemberInstance) (n : ℕ) (m : MemberInstance) (before after : Bool) → slice_get members n ≡ Some m → after ≡ (before || (m.private && (m.used.instance == i)))
    → before ≡ is_private_among i (take n members) → after ≡ is_private_among i (take (n + 1) members)
private_next i members n m before after here notes h =
    let test : MemberInstance → Bool = λ (x : MemberInstance). x.private && x.used.instance == i in
    notes ∙ ap (λ b. b || test m) h ∙ ap (λ b. list_any test (take n members) || b) (sym (or-false (test m))) ∙ sym (list_any-append test (take n members) (m ∷ []))
    ∙ ap (list_any test) (sym (take_next members n m here))

-- a private member is noted
pub hidden_is : (now had : Bool) (k i : ℕ) (private : Bool) → private ≡ true → now ≡ cond (is_eq (nat_cmp k i)) true had → now ≡ (had || (private && (k == i)))
hidden_is now had k i private is e = grind (arith, nat_tests)

-- ---- those that pass

filter_append : {A : Type 0} (p : A → Bool) (xs ys : List A) → filter p (xs ++ ys) ≡ filter p xs ++ filter p ys
filter_append p [] ys = refl
filter_append p (x ∷ xs) ys = go (p x) (filter_append p xs ys)
  where
    go : (b : Bool) → filter p (xs ++ ys) ≡ filter p xs ++ filter p ys → cond b (x ∷ filter p (xs ++ ys)) (filter p (xs ++ ys)) ≡ cond b (x ∷ filter p xs) (filter p xs) ++ filter p ys
    go true e = ap (λ zs. x ∷ zs) e
    go false e = e

pub open_next : (p : Link → Bool) (all : List Link) (n : ℕ) (l : Link) (taken more : List Link) → slice_get all n ≡ Some l → more ≡ taken ++ filter p (l ∷ []) → taken ≡ filter p (take n all) → more ≡ filter p (take (n + 1) all)
open_next p all n l taken more here grows h =
    grows ∙ ap (λ ls. ls ++ filter p (l ∷ [])) h ∙ sym (filter_append p (take n all) (l ∷ [])) ∙ ap (filter p) (sym (take_next all n l here))

pub one_kept : (p : Link → Bool) (l : Link) (taken more : List Link) (b : Bool) → b ≡ p l → b ≡ true → more ≡ taken ++ l ∷ [] → more ≡ taken ++ filter p (l ∷ [])
one_kept p l taken more b is e grows = grows ∙ ap (λ a. taken ++ cond a (l ∷ []) []) (sym e ∙ is)

pub none_kept : (p : Link → Bool) (l : Link) (taken : List Link) (b : Bool) → b ≡ p l → b ≡ false → taken ≡ taken ++ filter p (l ∷ [])
none_kept p l taken b is e = sym (append-nil taken) ∙ ap (λ a. taken ++ cond a (l ∷ []) []) (sym e ∙ is)
