-- What a type is for all that a value and it meet.
use Rattle.std.proofs.Common.{◌≡◌, ℕ, zero, suc, ◌+◌, ◌-◌, ◌*◌, ◌≤◌, Bool, true, false, cond, List, [], ◌∷◌, Option, Some, None, refl, sym, ◌∙◌, subst, slice_get, arith}
use Rattle.std.specs.Str.{bytes_eq}
use Rattle.fp_base.proofs.Options.{same_some, no_some}
use Rattle.fp_base.proofs.Bools.{not_both}
use Rattle.fp_tables.specs.declared.kind.Kind.{Kind}
use Rattle.fp_tables.specs.declared.kind.Kind.TheVariants as kind
use Rattle.fp_tables.specs.declared.kind.Form.{Form}
use Rattle.fp_tables.specs.declared.kind.Form.TheVariants as form
use Rattle.fp_tables.specs.declared.kind.Field.{Field}
use Rattle.fp_type_sizes.specs.declared.written.WrittenType.{WrittenType}
use Rattle.fp_type_sizes.specs.declared.written.TypeExtent.{TypeExtent}
use Rattle.fp_type_sizes.specs.Sizes.{IsPlain, HasForm, IsAlias, IsOfSize, EndsAs, at_plain, at_form, behind_alias, Measures, plain, named, array, alias, MeasuresFields, no_field, field, MeasuresMember, one, many}
use Rattle.fp_type_sizes.specs.Found.{IsExtent, AreExtents}
use Rattle.fp_type_sizes.specs.Sized.{kind_extent, is_few}
use Rattle.fp_type_sizes.proofs.OneSize.{one_form, one_size}
use Rattle.fp_type_sizes.proofs.Counted.{kind_holds, kind_only}
use Rattle.fp_type_sizes.proofs.Limits.{is_sound, misses_none, few_of, of_few, form_measured, of_struct, of_alias, some_levels}
use Rattle.fp_types.specs.declared.target.Rest.TheVariants.{OfStruct, OfMembers}
use Rattle.fp_types.specs.Converting.{Opened, Target, of_kind, form_target, plain_target, member_named}
use Rattle.fp_types.specs.Faults.{Meets, here, in_plain, in_named}
use Rattle.fp_types.specs.Making.{Enough, EnoughEach, EnoughIn, PassesKinds, MeetsThrough, IsMetThrough}
use Rattle.fp_types.specs.Meeting.{IsReachedBy}
use Rattle.fp_types.specs.Read.{end_target}
use Rattle.fp_types.proofs.Opening.{plain_end, named_end}

-- ---- what is met has a size

pub met_of_size : {ws : List WrittenType} {test : Opened → Target → Bool} {k : Kind} {v : Opened} → PassesKinds test → Meets ws test v (of_kind k) → IsOfSize ws k
met_of_size {k = k} {v = v} passes (here e) = not_both e (passes v k)
met_of_size passes (in_plain p m) = (1, 1, plain p, omega arith, omega arith)
met_of_size passes (in_named f s m) = s

pub no_met_levels : (ws : List WrittenType) (test : Opened → Target → Bool) (k : Kind) (v : Opened) → PassesKinds test → Enough ws 0 k → Meets ws test v (of_kind k) → ⊥
no_met_levels ws test k v passes none m = let s = met_of_size passes m in let low = none s.0 s.1 s.2 in let some = some_levels s.2 in omega arith

-- ---- levels

member_levels : {ws : List WrittenType} {o : Option ℕ} {k : Kind} {x y a b : ℕ} → MeasuresMember ws o k x y → Measures ws k a b → b ≤ y
member_levels {y = y} {b = b} (one m) n = let same = (one_size m n).levels in omega arith
member_levels (many m) n = let same = (one_size m n).levels in omega arith

pub each_enough : {ws : List WrittenType} {fields : List Field} {c d : ℕ} (m : ℕ) → MeasuresFields ws fields c d → d ≤ m → EnoughEach ws m fields
each_enough m no_field h = tt
each_enough {ws = ws} m (field {f = f} {b = b} {d = d} n ns) h =
    let low : b ≤ m = omega arith in
    let rest : d ≤ m = omega arith in
    let first : Enough ws m f.kind = λ x y k. let l = member_levels n k in omega arith in
    (first, each_enough m ns rest)

module _ (ws : List WrittenType) where
  form_enough : (n i : ℕ) (f : Form) → HasForm ws i f → ¬ IsAlias f → IsOfSize ws (kind.Named i) → Enough ws n (kind.Named i) → EnoughIn ws (n - 1) (form_target (OfStruct i) f)
  form_enough n i form.Abstract h not size enough = tt
  form_enough n i (form.Alias k) h not size enough = absurd (not tt)
  form_enough n i (form.Array m k format) h not size enough = λ a b meas. let l = enough (m * a) (1 + b) (named h (array meas)) in omega arith
  form_enough n i (form.Struct fields) h not size enough =
      let p = of_struct (form_measured h size.2) in
      let l = enough size.0 size.1 size.2 in
      each_enough (n - 1) p.2 (lower p.1 size.1 n p.3 l)
    where
      lower : (d b m : ℕ) → b ≡ 1 + d → b ≤ m → d ≤ m - 1
      lower d b m e l = omega arith
  form_enough n i (form.Enum k cs) h not size enough = tt

  -- those of a type's own form
  pub own_enough : (i : ℕ) (f : Form) → HasForm ws i f → IsOfSize ws (kind.Named i) → EnoughIn ws 64 (form_target OfMembers f)
  own_enough i form.Abstract h s = tt
  own_enough i (form.Alias k) h s = λ a b m. let same = (one_size (of_alias (form_measured h s.2)) m).levels in let low = s.4 in omega arith
  own_enough i (form.Array n k format) h s = λ a b m. let same = (one_size (named h (array m)) s.2).levels in let low = s.4 in omega arith
  own_enough i (form.Struct fields) h s = let p = of_struct (form_measured h s.2) in each_enough 64 p.2 (lower p.1 s.1 p.3 s.4)
    where
      lower : (d b : ℕ) → b ≡ 1 + d → b ≤ 64 → d ≤ 64
      lower d b e l = omega arith
  own_enough i (form.Enum k cs) h s = tt

  plain_enough : (n : ℕ) (k : Kind) → IsPlain k → EnoughIn ws n (plain_target k)
  plain_enough n kind.U8 p = tt
  plain_enough n kind.U16 p = tt
  plain_enough n kind.U32 p = tt
  plain_enough n kind.U64 p = tt
  plain_enough n kind.I8 p = tt
  plain_enough n kind.I16 p = tt
  plain_enough n kind.I32 p = tt
  plain_enough n kind.I64 p = tt
  plain_enough n kind.Bool p = tt
  plain_enough n (kind.Str size) p = tt
  plain_enough n (kind.Named i) p = absurd p

  -- ---- a type and what it is

  plain_down : (k : Kind) → IsPlain k → (test : Opened → Target → Bool) (v : Opened) → PassesKinds test → Meets ws test v (of_kind k) → Meets ws test v (plain_target k)
  plain_down k p test v passes (here e) = not_both e (passes v k)
  plain_down k p test v passes (in_plain q m) = m
  plain_down k p test v passes (in_named f s m) = absurd p

  named_down : (i : ℕ) (f : Form) → HasForm ws i f → (test : Opened → Target → Bool) (v : Opened) → PassesKinds test → Meets ws test v (of_kind (kind.Named i))
      → Meets ws test v (form_target (OfStruct i) f)
  named_down i f h test v passes (here e) = not_both e (passes v (kind.Named i))
  named_down i f h test v passes (in_plain q m) = absurd q
  named_down i f h test v passes (in_named g s m) = subst (λ (x : Form). Meets ws test v (form_target (OfStruct i) x)) (one_form g h) m

  through_end : (k e : Kind) → EndsAs ws k e → IsOfSize ws k → (t : Target) × (end_target ws e ≡ Some t) × MeetsThrough ws k t
  through_end k e (at_plain p) size = (
    plain_target k,
    plain_end ws k p,
    record {
      up = λ test v m. in_plain p m;
      down = λ test v passes m. plain_down k p test v passes m;
      enough = λ n enough. plain_enough (n - 1) k p;
    },
  )
  through_end k e (at_form {i = i} {f = f} h not) size = (
    form_target (OfStruct i) f,
    named_end ws i f h not,
    record {
      up = λ test v m. in_named h size m;
      down = λ test v passes m. named_down i f h test v passes m;
      enough = λ n enough. form_enough n i f h not size enough;
    },
  )
  through_end k e (behind_alias {i = i} {k = l} h r) size =
      let inner : IsOfSize ws l = (size.0, size.1, of_alias (form_measured h size.2), size.3, size.4) in
      let p = through_end l e r inner in (
        p.0,
        p.1,
        record {
          up = λ test v m. in_named h size (p.2.up test v m);
          down = λ test v passes m. p.2.down test v passes (named_down i (form.Alias l) h test v passes m);
          enough = λ n enough. p.2.enough n (λ a b m. enough a b (named h (alias m)));
        },
      )

  -- ---- from the table of sizes

  module _ (table : List (Option TypeExtent)) (are : AreExtents ws table) where
    if_few : (k : Kind) (x : TypeExtent) (b : Bool) → is_few x.size ≡ b → IsExtent ws k x → IsMetThrough ws k (cond b (end_target ws x.end) None)
    if_few k x false is found = λ test v passes m.
        let size = met_of_size passes m in
        let same = one_size found.measures size.2 in
        let l : found.leaves ≤ 65536 = at_most same.leaves size.3 in
        let h : found.levels ≤ 64 = at_most same.levels size.4 in
        not_both (of_few ws table are found.leaves found.levels x.size found.size l h) is
      where
        at_most : {m n most : ℕ} → m ≡ n → n ≤ most → m ≤ most
        at_most e d = omega arith
    if_few k x true is found =
        let f = few_of ws table are found.leaves found.levels x.size found.size is in
        let p = through_end k x.end found.ends (found.leaves, found.levels, found.measures, f.0, f.1) in
        subst (λ (o : Option Target). IsMetThrough ws k o) (sym p.1) p.2

    pub through_found : (k : Kind) (x : TypeExtent) → kind_extent table k ≡ Some x → IsMetThrough ws k (cond (is_few x.size) (end_target ws x.end) None)
    through_found k x e = if_few k x (is_few x.size) refl (kind_holds ws table k x (is_sound ws table are) e)

    pub through_unfound : (k : Kind) → kind_extent table k ≡ None → IsMetThrough ws k None
    through_unfound k e = λ test v passes m. let s = met_of_size passes m in let x = kind_only ws table k s.0 s.1 (misses_none ws table are (k ∷ [])) s.2 in no_some (sym e ∙ x.1)

pub is_through : (ws : List WrittenType) (k : Kind) (o p : Option Target) → o ≡ p → IsMetThrough ws k p → IsMetThrough ws k o
is_through ws k o p e h = subst (λ (x : Option Target). IsMetThrough ws k x) (sym e) h

pub through_some : (ws : List WrittenType) (k : Kind) (o : Option Target) (t : Target) → o ≡ Some t → IsMetThrough ws k o → MeetsThrough ws k t
through_some ws k o t e h = subst (λ (x : Option Target). IsMetThrough ws k x) e h

pub through_none : (ws : List WrittenType) (k : Kind) (o : Option Target) → o ≡ None → IsMetThrough ws k o → (test : Opened → Target → Bool) (v : Opened) → PassesKinds test
    → Meets ws test v (of_kind k) → ⊥
through_none ws k o e h = subst (λ (x : Option Target). IsMetThrough ws k x) e h

-- ---- members

module _ (ws : List WrittenType) (n : ℕ) where
  pub enough_field : (fields : List Field) (i : ℕ) (f : Field) → slice_get fields i ≡ Some f → EnoughEach ws n fields → Enough ws n f.kind
  enough_field [] i f e h = no_some e
  enough_field (g ∷ gs) zero f e h = subst (λ (x : Field). Enough ws n x.kind) (same_some e) h.0
  enough_field (g ∷ gs) (suc i) f e h = enough_field gs i f e h.1

  pub enough_named : (fields : List Field) (name : List ℕ) (f : Field) → member_named fields name ≡ Some f → EnoughEach ws n fields → Enough ws n f.kind
  enough_named [] name f e h = no_some e
  enough_named (g ∷ gs) name f e h = go (bytes_eq g.name name) e (λ is. enough_named gs name f is h.1)
    where
      go : (b : Bool) → cond b (Some g) (member_named gs name) ≡ Some f → (member_named gs name ≡ Some f → Enough ws n f.kind) → Enough ws n f.kind
      go true is rest = subst (λ (x : Field). Enough ws n x.kind) (same_some is) h.0
      go false is rest = rest is

-- ---- what is told with the most levels

pub not_met : (ws : List WrittenType) (test : Opened → Target → Bool) (k : Kind) (v : Opened) → PassesKinds test → (Enough ws 64 k → Meets ws test v (of_kind k) → ⊥) → Meets ws test v (of_kind k) → ⊥
not_met ws test k v passes h m =
    let s = met_of_size passes m in
    h (λ a b n. let same = (one_size s.2 n).levels in let low = s.4 in omega arith) m

pub reached_by_kind : (ws : List WrittenType) (k : Kind) (v : Opened) → IsReachedBy ws v (of_kind k)
reached_by_kind ws k v test passes m = let s = met_of_size passes m in λ a b n. let same = (one_size s.2 n).levels in let low = s.4 in omega arith
