-- A type that has a size is on no cycle.
use Rattle.std.proofs.Common.{◌≡◌, ℕ, zero, suc, ◌<◌, ◌≤◌, List, [], ◌∷◌, map, Option, Some, subst, slice_get, ⊎_elim, arith}
use Rattle.fp_base.proofs.Options.{same_some}
use Rattle.fp_tables.specs.Types.{kinds_in}
use Rattle.fp_tables.specs.declared.kind.Kind.{Kind}
use Rattle.fp_tables.specs.declared.kind.Kind.TheVariants as kind
use Rattle.fp_tables.specs.declared.kind.Form.{Form}
use Rattle.fp_tables.specs.declared.kind.Field.{Field}
use Rattle.fp_type_sizes.specs.declared.written.WrittenType.{WrittenType}
use Rattle.fp_type_sizes.specs.Sizes.{IsPlain, HasForm, Measures, plain, named, MeasuresForm, abstract_, alias, array, struct, enum, MeasuresFields, no_field, field, MeasuresMember, one, many, IsOfSize, IsTooLarge}
use Rattle.fp_type_sizes.specs.Found.{UsesType, LeadsTo}
use Rattle.fp_type_sizes.specs.Found as found
use Rattle.fp_type_sizes.proofs.OneSize.{one_form, one_size}

-- one step behind the first
rotated : {ws : List WrittenType} {i k j : ℕ} → LeadsTo ws k i → UsesType ws i j → LeadsTo ws k j
rotated (found.one u) v = found.more u (found.one v)
rotated (found.more u l) v = found.more u (rotated l v)

pub turned : {ws : List WrittenType} {i : ℕ} → LeadsTo ws i i → (j : ℕ) × UsesType ws i j × LeadsTo ws j j
turned {i = i} (found.one u) = (i, u, found.one u)
turned (found.more {j = j} u l) = (j, u, rotated l u)

pub same_named : {i j : ℕ} → kind.Named i ≡ kind.Named j → i ≡ j
same_named e = cc

not_plain : {k : Kind} {i : ℕ} → IsPlain k → k ≡ kind.Named i → ⊥
not_plain h e = subst IsPlain e h

form_of_named : {ws : List WrittenType} {i j : ℕ} {f : Form} → i ≡ j → HasForm ws i f → HasForm ws j f
form_of_named {ws = ws} {f = f} e h = subst (λ (x : ℕ). HasForm ws x f) e h

used_of_form : (f : Form) {g : Form} (n : ℕ) (k : Kind) → g ≡ f → slice_get (kinds_in g) n ≡ Some k → slice_get (kinds_in f) n ≡ Some k
used_of_form f n k e h = subst (λ (x : Form). slice_get (kinds_in x) n ≡ Some k) e h

single : {k l : Kind} (n : ℕ) → slice_get (k ∷ []) n ≡ Some l → k ≡ l
single zero e = same_some e
single (suc n) e = absurd (cc)

mutual
  pub no_cycle : {ws : List WrittenType} {k : Kind} {a b : ℕ} → Measures ws k a b → (i : ℕ) → k ≡ kind.Named i → LeadsTo ws i i → ⊥
  no_cycle (plain h) i e l = not_plain h e
  no_cycle (named {f = f} h m) i e l =
      let t = turned l in
      no_cycle_form m t.1.at t.0 (used_of_form f t.1.at (kind.Named t.0) (one_form t.1.form (form_of_named (same_named e) h)) t.1.used) t.2

  no_cycle_form : {ws : List WrittenType} {f : Form} {a b : ℕ} → MeasuresForm ws f a b → (n j : ℕ) → slice_get (kinds_in f) n ≡ Some (kind.Named j) → LeadsTo ws j j → ⊥
  no_cycle_form abstract_ n j e l = absurd (cc)
  no_cycle_form (alias m) n j e l = no_cycle m j (single n e) l
  no_cycle_form (array m) n j e l = no_cycle m j (single n e) l
  no_cycle_form (struct m) n j e l = no_cycle_fields m n j e l
  no_cycle_form (enum h m) n j e l = no_cycle m j (single n e) l

  no_cycle_fields : {ws : List WrittenType} {fs : List Field} {a b : ℕ} → MeasuresFields ws fs a b → (n j : ℕ) → slice_get (map (λ (f : Field). f.kind) fs) n ≡ Some (kind.Named j) → LeadsTo ws j j → ⊥
  no_cycle_fields no_field n j e l = absurd (cc)
  no_cycle_fields (field m ms) zero j e l = no_cycle_member m j (same_some e) l
  no_cycle_fields (field m ms) (suc n) j e l = no_cycle_fields ms n j e l

  no_cycle_member : {ws : List WrittenType} {o : Option ℕ} {k : Kind} {a b : ℕ} → MeasuresMember ws o k a b → (j : ℕ) → k ≡ kind.Named j → LeadsTo ws j j → ⊥
  no_cycle_member (one m) j e l = no_cycle m j e l
  no_cycle_member (many m) j e l = no_cycle m j e l

pub apart : {ws : List WrittenType} {k : Kind} → IsOfSize ws k → IsTooLarge ws k → ⊥
apart (a, b, m, few, low) (c, d, n, large) =
    let same = one_size m n in
    ⊎_elim (λ more. less_and_more a c 65536 same.leaves few more) (λ more. less_and_more b d 64 same.levels low more) large
  where
    less_and_more : (x y most : ℕ) → x ≡ y → x ≤ most → most < y → ⊥
    less_and_more x y most e few more = omega arith
