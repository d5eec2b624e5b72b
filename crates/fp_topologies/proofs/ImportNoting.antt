-- Numbers that are noted one after another.
use Rattle.std.proofs.Common.{◌≡◌, ◌∙◌, ◌==◌, ◌||◌, ℕ, Bool, true, false, not, cond, List, [], ◌∷◌, ◌++◌, sym, ap, subst, append_assoc}
use Rattle.std.proofs.lemmas.List.{append-nil}
use Rattle.std.specs.Ordering.{nat_cmp}
use Rattle.std.specs.BTreeSet.{contains}
use Rattle.fp_base.proofs.Bools.{was_there, was_new}
use Rattle.fp_topologies.specs.declared.firsts.Firsts.{Firsts}
use Rattle.fp_topologies.specs.ImportFirsts.{AreFirsts, has_number}
use Rattle.fp_topologies.specs.Imports.{first_of_each}
use Rattle.fp_topologies.proofs.Numbers.{first_pushed, has_pushed}

-- the set with one number more is that of the list with it
module _ (all : List ℕ) (n : ℕ) (old : Firsts) (before : AreFirsts all old) (new : Bool) (fresh : new ≡ not (contains nat_cmp old.seen n)) where
  module _ (after : Firsts) (adds : (i : ℕ) → contains nat_cmp after.seen i ≡ (contains nat_cmp old.seen i || (n == i))) where
    seen_more : (i : ℕ) → contains nat_cmp after.seen i ≡ has_number i (all ++ n ∷ [])
    seen_more i = adds i ∙ ap (λ (b : Bool). b || (n == i)) (before.seen i) ∙ sym (has_pushed i n all)

    pub pushed : new ≡ true → after.row ≡ old.row ++ n ∷ [] → AreFirsts (all ++ n ∷ []) after
    pushed is e =
        let none : has_number n all ≡ false = sym (before.seen n) ∙ was_new new (contains nat_cmp old.seen n) fresh is in
        record {
          row =
              e ∙ ap (λ (ns : List ℕ). ns ++ n ∷ []) before.row
              ∙ sym (first_pushed all n ∙ ap (λ (b : Bool). cond b (first_of_each all) (first_of_each all ++ n ∷ [])) none);
          seen = seen_more;
        }

    pub passed : new ≡ false → after.row ≡ old.row → AreFirsts (all ++ n ∷ []) after
    passed is e =
        let there : has_number n all ≡ true = sym (before.seen n) ∙ was_there new (contains nat_cmp old.seen n) fresh is in
        record {
          row = e ∙ before.row ∙ sym (first_pushed all n ∙ ap (λ (b : Bool). cond b (first_of_each all) (first_of_each all ++ n ∷ [])) there);
          seen = seen_more;
        }

-- ---- list by list

pub none_more : (all : List ℕ) (f : Firsts) → AreFirsts all f → AreFirsts (all ++ []) f
none_more all f h = subst (λ (ns : List ℕ). AreFirsts ns f) (sym (append-nil all)) h

pub some_more : (all before more after : List ℕ) (f : Firsts) → after ≡ before ++ more → AreFirsts (all ++ before ++ more) f → AreFirsts (all ++ after) f
some_more all before more after f is h = subst (λ (ns : List ℕ). AreFirsts ns f) (append_assoc all before more ∙ ap (λ (ns : List ℕ). all ++ ns) (sym is)) h

pub along : (xs ys : List ℕ) (f : Firsts) → xs ≡ ys → AreFirsts xs f → AreFirsts ys f
along xs ys f e h = subst (λ (ns : List ℕ). AreFirsts ns f) e h
