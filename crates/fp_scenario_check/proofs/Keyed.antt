-- A key more in an ordered set, and keys by the texts that they are made of.
use Rattle.std.proofs.Common.{◌≡◌, ℕ, Bool, true, ◌&&◌, ◌||◌, ◌==◌, List, Ordering, Equal, nat_cmp, is_eq, bytes_eq, sym, ap, ap₂, ◌∙◌}
use Rattle.std.specs.BTreeSet.{BTreeSet, contains_by, insert_key}
use Rattle.std.specs.Ordering.{ordering_then}
use Rattle.std.proofs.lemmas.Map.Text.{is_eq-slice_cmp}
use Rattle.std.proofs.lemmas.Slice.Eq.{bytes_eq-Decides}
use Rattle.std.proofs.Math.Bool.{and_comm}
use denote.Ref.{Bor}
use Rattle.fp_base.proofs.Bools.{both}
use Rattle.fp_base.proofs.Sameness.{nat_same}
use Rattle.fp_base.proofs.Comparing.{both_equal, numbers_tie}
use Rattle.fp_base.proofs.Bytes.{bytes_turned}
use Rattle.fp_base.proofs.KeySets.{key_added}
use Rattle.fp_scenario_check.specs.Keys.{Key, Owned, key_cmp, owned_cmp, same_key, text_cmp, texts_of}

-- ---- texts

abbrev pub same_texts : List ℕ × List ℕ × List ℕ → List ℕ × List ℕ × List ℕ → Bool
same_texts a b = bytes_eq a.0 b.0 && bytes_eq a.1 b.1 && bytes_eq a.2 b.2

-- keys are the same by their texts
pub key_by_texts : (a b : Key) → same_key a b ≡ same_texts (texts_of a) (texts_of b)
key_by_texts a b =
    both_equal (ordering_then (text_cmp a.0 b.0) (text_cmp a.1 b.1)) (text_cmp a.2 b.2) ∙ ap (λ (c : Bool). c && is_eq (text_cmp a.2 b.2)) (both_equal (text_cmp a.0 b.0) (text_cmp a.1 b.1))
    ∙ ap₂ (λ (c d : Bool). c && d) (ap₂ (λ (c d : Bool). c && d) (is_eq-slice_cmp a.0.now b.0.now) (is_eq-slice_cmp a.1.now b.1.now)) (is_eq-slice_cmp a.2.now b.2.now)

texts_turned : (a b : List ℕ × List ℕ × List ℕ) → same_texts a b ≡ same_texts b a
texts_turned a b = ap₂ (λ (c d : Bool). c && d) (ap₂ (λ (c d : Bool). c && d) (bytes_turned a.0 b.0) (bytes_turned a.1 b.1)) (bytes_turned a.2 b.2)

pub key_turned : (a b : Key) → same_key a b ≡ same_key b a
key_turned a b = key_by_texts a b ∙ texts_turned (texts_of a) (texts_of b) ∙ sym (key_by_texts b a)

equal_so : (o : Ordering) → o ≡ Equal → is_eq o ≡ true
equal_so o e = ap is_eq e

-- equal keys have the same texts, and so the same queries
key_exact : (q k x : Key) → key_cmp k x ≡ Equal → is_eq (key_cmp q k) ≡ is_eq (key_cmp q x)
key_exact q k x e =
    let t = both (bytes_eq k.0.now x.0.now && bytes_eq k.1.now x.1.now) (bytes_eq k.2.now x.2.now) (sym (key_by_texts k x) ∙ equal_so (key_cmp k x) e) in
    let s = both (bytes_eq k.0.now x.0.now) (bytes_eq k.1.now x.1.now) t.0 in
    key_by_texts q k
    ∙ ap₂ (λ (c d : Bool). c && d)
    (ap₂ (λ (c d : Bool). c && d) (ap (bytes_eq q.0.now) ((bytes_eq-Decides k.0.now x.0.now).0 s.0)) (ap (bytes_eq q.1.now) ((bytes_eq-Decides k.1.now x.1.now).0 s.1)))
    (ap (bytes_eq q.2.now) ((bytes_eq-Decides k.2.now x.2.now).0 t.1))
    ∙ sym (key_by_texts q x)

-- the key is in the set from here on
pub key_seen : (old new : BTreeSet Key) (k : Key) → new.keys ≡ insert_key key_cmp old.keys k → (q : Key) → contains_by (key_cmp q) new ≡ (contains_by (key_cmp q) old || same_key k q)
key_seen old new k is q = key_added key_cmp (key_cmp q) k (key_exact q k) old new is ∙ ap (λ (b : Bool). contains_by (key_cmp q) old || b) (key_turned q k)

-- ---- an instance and a text

owned_by_parts : (a b : Owned) → is_eq (owned_cmp a b) ≡ ((b.0 == a.0) && bytes_eq a.1.now b.1.now)
owned_by_parts a b = both_equal (nat_cmp a.0 b.0) (text_cmp a.1 b.1) ∙ ap₂ (λ (c d : Bool). c && d) (numbers_tie a.0 b.0) (is_eq-slice_cmp a.1.now b.1.now)

owned_exact : (q k x : Owned) → owned_cmp k x ≡ Equal → is_eq (owned_cmp q k) ≡ is_eq (owned_cmp q x)
owned_exact q k x e =
    let t = both (x.0 == k.0) (bytes_eq k.1.now x.1.now) (sym (owned_by_parts k x) ∙ equal_so (owned_cmp k x) e) in
    owned_by_parts q k
    ∙ ap₂ (λ (c d : Bool). c && d) (ap (λ (n : ℕ). n == q.0) (sym (nat_same.equal x.0 k.0 t.0))) (ap (bytes_eq q.1.now) ((bytes_eq-Decides k.1.now x.1.now).0 t.1))
    ∙ sym (owned_by_parts q x)

-- an instance's handler for a place is noted from here on
pub owned_seen : (old new : BTreeSet Owned) (k : Owned) → new.keys ≡ insert_key owned_cmp old.keys k → (i : ℕ) (on : Bor (List ℕ)) →
    contains_by (owned_cmp (i, on)) new ≡ (contains_by (owned_cmp (i, on)) old || (bytes_eq k.1.now on.now && (k.0 == i)))
owned_seen old new k is i on =
    key_added owned_cmp (owned_cmp (i, on)) k (owned_exact (i, on) k) old new is
    ∙ ap (λ (b : Bool). contains_by (owned_cmp (i, on)) old || b) (owned_by_parts (i, on) k ∙ and_comm (k.0 == i) (bytes_eq on.now k.1.now) ∙ ap (λ (b : Bool). b && (k.0 == i)) (bytes_turned on.now k.1.now))
