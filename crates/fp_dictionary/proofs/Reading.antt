-- Rounds over what is marked: each reads one, and what it uses is marked from then on.
use Rattle.std.proofs.Common.{◌≡◌, ◌⊎◌, inl, inr, ℕ, zero, suc, ◌<◌, true, List, [], length, slice_get, Option, Some, None, refl, sym, subst, ◌∙◌, arith}
use Rattle.std.specs.Prelude.{option_map, unwrap_or}
use Rattle.std.specs.List.{list_any}
use Rattle.fp_base.proofs.Lists.{get_within}
use Rattle.fp_base.proofs.Options.{mapped_some, one_some}
use Rattle.fp_base.proofs.Spots.{item_below}
use Rattle.fp_tables.specs.Lists.{some_and}
use Rattle.fp_tables.specs.Types.{form_at, is_named, is_use, kinds_in}
use Rattle.fp_tables.specs.declared.kind.Form.{Form}
use Rattle.fp_tables.specs.declared.kind.TypeDef.{TypeDef}
use Rattle.fp_tables.specs.declared.model.Model.{Model}
use Rattle.fp_tables.specs.declared.topology.Topology.{Topology}
use Rattle.fp_dictionary.specs.Marks.{Marks, kinds_at, no_marks, round_read, rounds_read, with_marks}
use Rattle.fp_dictionary.specs.Used.{IsUsed, kinds_listed, named, through}
use Rattle.fp_dictionary.proofs.Coming.{AreMarks, Comes, Grows, grows_not, grows_on, is_among, many_come, unmarked_are}

below_or_last : (i r : ℕ) → i < suc r → (i < r) ⊎ (i ≡ r)
below_or_last i r h = grind arith

module _ (types : List TypeDef) where
  same_uses : (k : ℕ) (o : Option Form) → some_and (λ (f : Form). list_any (is_named k) (kinds_in f)) o ≡ list_any (is_named k) (unwrap_or (option_map kinds_in o) [])
  same_uses k None = refl
  same_uses k (Some f) = refl

  use_among : (j k : ℕ) → is_use types j k → is_among k (kinds_at types j)
  use_among j k h = sym (same_uses k (form_at types j)) ∙ h

  among_use : (j k : ℕ) → is_among k (kinds_at types j) → is_use types j k
  among_use j k h = same_uses k (form_at types j) ∙ h

  -- what uses something stands in the table
  pub uses_within : (j k : ℕ) → is_use types j k → j < length types
  uses_within j k h = go (form_at types j) refl h
    where
      go : (o : Option Form) → form_at types j ≡ o → some_and (λ (f : Form). list_any (is_named k) (kinds_in f)) o ≡ true → j < length types
      go None e h = absurd (cc)
      go (Some f) e h = (let t = mapped_some (λ (d : TypeDef). d.form) (slice_get types j) f e in get_within types j t.0 t.1)

  module _ (Is : ℕ → Type 0) (closes : (j k : ℕ) → Is j → is_use types j k → Is k) where
    pub record AreRead (r : ℕ) (s t : Marks) : Type 0 where
      pub are : AreMarks (length types) Is t
      pub grows : Grows s t
      pub closed : (i j k : ℕ) → i < r → slice_get t.order i ≡ Some j → is_use types j k → k < length types → slice_get t.flags k ≡ Some true

    one_round : (r : ℕ) (s t : Marks) → AreRead r s t → AreRead (suc r) s (round_read types t r)
    one_round r s t old = go (slice_get t.order r) refl
      where
        nothing : slice_get t.order r ≡ None → (i j k : ℕ) → slice_get t.order i ≡ Some j → is_use types j k → k < length types → (i < r) ⊎ (i ≡ r) → slice_get t.flags k ≡ Some true
        nothing e i j k at uses lt (inl low) = old.closed i j k low at uses lt
        nothing e i j k at uses lt (inr last) = (let there : slice_get t.order r ≡ Some j = subst (λ (x : ℕ). slice_get t.order x ≡ Some j) last at in absurd (cc))

        go : (o : Option ℕ) → slice_get t.order r ≡ o → AreRead (suc r) s (with_marks t (unwrap_or (option_map (kinds_at types) o) []))
        go None e = record { are = old.are; grows = old.grows; closed = λ i j k low at uses lt. nothing e i j k at uses lt (below_or_last i r low) }
        go (Some p) e =
            record {
              are = comes.are;
              grows = grows_on s t after old.grows comes.grows;
              closed = λ i j k low at uses lt. by i j k (stood i j (here low) at) uses lt (below_or_last i r low);
            }
          where
            after : Marks
            after = with_marks t (kinds_at types p)

            comes : Comes (length types) Is t (kinds_at types p) after
            comes = many_come (length types) Is t (kinds_at types p) old.are (λ k h. closes p k (old.are.sound r p e) (among_use p k h))

            here : {i : ℕ} → i < suc r → i < length t.order
            here low = (let most = get_within t.order r p e in omega arith)

            stood : (i j : ℕ) → i < length t.order → slice_get after.order i ≡ Some j → slice_get t.order i ≡ Some j
            stood i j lt at =
                let x = item_below t.order i lt in
                subst (λ (y : ℕ). slice_get t.order i ≡ Some y) (one_some (slice_get after.order i) x.0 j (comes.grows.order i x.0 x.1) at) x.1

            by : (i j k : ℕ) → slice_get t.order i ≡ Some j → is_use types j k → k < length types → (i < r) ⊎ (i ≡ r) → slice_get after.flags k ≡ Some true
            by i j k at uses lt (inl low) = comes.grows.flags k (old.closed i j k low at uses lt)
            by i j k at uses lt (inr last) =
                let same : p ≡ j = one_some (slice_get t.order r) p j e (subst (λ (x : ℕ). slice_get t.order x ≡ Some j) last at) in
                comes.all k (use_among p k (subst (λ (x : ℕ). is_use types x k) (sym same) uses)) lt

    pub all_rounds : (r : ℕ) (s : Marks) → AreMarks (length types) Is s → AreRead r s (rounds_read types s r)
    all_rounds zero s are = record { are = are; grows = grows_not s; closed = λ i j k low at uses lt. absurd (omega arith) }
    all_rounds (suc r) s are = one_round r s (rounds_read types s r) (all_rounds r s are)

-- the types of the table that are used, each once
pub record AreReached (m : Model) (o : Topology) (ks : List ℕ) : Type 0 where
  pub each : (i k : ℕ) → slice_get ks i ≡ Some k → IsUsed m o k
  pub all : (k : ℕ) → IsUsed m o k → k < length m.types → (i : ℕ) × (slice_get ks i ≡ Some k)
  pub once : (i j k : ℕ) → slice_get ks i ≡ Some k → slice_get ks j ≡ Some k → i ≡ j

module _ (m : Model) (o : Topology) where
  abbrev pub first : Marks
  first = with_marks (no_marks (length m.types)) (kinds_listed m o)

  pub all_reached : AreReached m o (rounds_read m.types first (length m.types)).order
  all_reached = record { each = read.are.sound; all = λ k uses lt. read.are.listed k (comes k uses lt); once = read.are.once }
    where
      listed : Comes (length m.types) (IsUsed m o) (no_marks (length m.types)) (kinds_listed m o) first
      listed = many_come (length m.types) (IsUsed m o) (no_marks (length m.types)) (kinds_listed m o) (unmarked_are (length m.types) (IsUsed m o)) (λ k h. named k h)

      last : Marks
      last = rounds_read m.types first (length m.types)

      read : AreRead m.types (IsUsed m o) (λ j k h uses. through j k h uses) (length m.types) first last
      read = all_rounds m.types (IsUsed m o) (λ j k h uses. through j k h uses) (length m.types) first listed.are

      enough : (i j : ℕ) → slice_get last.order i ≡ Some j → i < length m.types
      enough i j at = (let low = get_within last.order i j at in let counts = read.are.counts in omega arith)

      comes : (k : ℕ) → IsUsed m o k → k < length m.types → slice_get last.flags k ≡ Some true
      comes _ (named k h) lt = read.grows.flags k (listed.all k h lt)
      comes _ (through j k u h) lt =
          let before = read.are.listed j (comes j u (uses_within m.types j k h)) in
          read.closed before.0 j k (enough before.0 j before.1) before.1 h lt
