-- The pass over defaults.
use Rattle.std.proofs.Common.{◌≡◌, ◌≢◌, ℕ, suc, ◌+◌, ◌<◌, ◌≤◌, ◌⊎◌, inl, inr, true, false, List, [], ◌∷◌, length, set, Option, Some, None, refl, sym, ap, ◌∙◌, subst, slice_get, arith, length-set, length-append, ◌++◌}
use Rattle.std.specs.Prelude.{option_map}
use Rattle.std.proofs.lemmas.Option.{slice_get_within}
use Rattle.fp_base.specs.declared.value.Value.{Value}
use Rattle.fp_base.specs.declared.value.MemberValue.{MemberValue}
use Rattle.fp_base.proofs.Options.{same_some, no_some}
use Rattle.fp_tables.specs.Types.{kinds_in}
use Rattle.fp_tables.specs.declared.kind.Kind.{Kind}
use Rattle.fp_tables.specs.declared.kind.Kind.TheVariants as kind
use Rattle.fp_tables.specs.declared.kind.Form.{Form}
use Rattle.fp_tables.specs.declared.kind.Form.TheVariants as form
use Rattle.fp_tables.specs.declared.kind.Field.{Field}
use Rattle.fp_tables.specs.declared.kind.Constant.{Constant}
use Rattle.fp_tables.specs.declared.kind.TypeDef.{TypeDef}
use Rattle.fp_type_sizes.specs.declared.written.WrittenType.{WrittenType}
use Rattle.fp_type_sizes.specs.declared.written.TypeExtent.{TypeExtent}
use Rattle.fp_type_sizes.specs.declared.written.Own.{Own}
use Rattle.fp_type_sizes.specs.declared.written.Own.TheVariants as own
use Rattle.fp_types.specs.declared.target.Rest.TheVariants.{OfMembers}
use Rattle.fp_type_sizes.specs.Sizes.{HasForm, IsOfSize, named, array}
use Rattle.fp_type_sizes.specs.Found.{UsesType, LeadsTo, IsTypeOrder, AreExtents}
use Rattle.fp_types.specs.Given.{AreDefaults, IsDefaultIf, IsTypeGiven, AreTypesGiven}
use Rattle.fp_type_sizes.specs.Found as found
use Rattle.fp_type_sizes.specs.Sized.{kind_extent, is_few_if}
use Rattle.fp_types.specs.Converting.{Opened, opened, Target, of_kind, constants, opaque, form_target, HasOwn, Becomes, Default, DefaultIs, Completes, of_each, first, the_one, plainly, by_form, by_value}
use Rattle.fp_types.specs.Converting as convert
use Rattle.fp_types.specs.Making.{StandsIn, itself, further, AreSoundDefaults, HasDefault, HasDefaultsIn, Suffices, SufficesIn, IsMade, IsDefault, AreCompleted, structured}
use Rattle.fp_types.specs.Completing.{SufficesForLefts}
use Rattle.fp_types.specs.Defaulted.{HasDefaultsInForm, MissesNoDefault, FindsDefault, FindsBy, DefaultedFirst, ConvertsIf, given_of}
use Rattle.fp_type_sizes.proofs.OneSize.{one_form, one_size}
use Rattle.fp_types.proofs.OneResult.{one_result, one_default, one_own}
use Rattle.fp_type_sizes.proofs.Counted.{formed}
use Rattle.fp_type_sizes.proofs.Limits.{HasSize, used_sized, sized_is, form_measured, of_struct, of_alias}
use Rattle.fp_types.proofs.Opening.{each_full, result_of_size}
use Rattle.fp_base.proofs.Spots.{get_set_same, get_set_other, same_or_other, item_below, get_push}

-- ---- what leads to what

leads_of : {ws : List WrittenType} {v m i : ℕ} → UsesType ws v m → StandsIn ws (kind.Named m) i → LeadsTo ws v i
leads_of u itself = found.one u
leads_of u (further w ins) = found.more u (leads_of w ins)

module _ {ws : List WrittenType} {v : ℕ} {f : Form} (h : HasForm ws v f) where
  leads_at : (at : ℕ) {k : Kind} {i : ℕ} → slice_get (kinds_in f) at ≡ Some k → StandsIn ws k i → LeadsTo ws v i
  leads_at at e itself = found.one (record { shape = f; form = h; at = at; used = e })
  leads_at at e (further u ins) = leads_of (record { shape = f; form = h; at = at; used = e }) (further u ins)

  pub knows_form : (table : List (Option Value)) → MissesNoDefault ws table v → HasDefaultsInForm ws table f
  knows_form table misses at k e i ins = misses i (leads_at at e ins)

-- ---- before in an order

module _ (ws : List WrittenType) (order : List ℕ) (ordered : IsTypeOrder ws order) where
  before : (k v w : ℕ) → slice_get order k ≡ Some v → HasSize ws (kind.Named v) → LeadsTo ws v w → (j : ℕ) × (j < k) × (slice_get order j ≡ Some w)
  before k v w is s (found.one u) = ordered.behind k v w s.0 s.1 is s.2 u
  before k v w is s (found.more {j = m} u l) =
      let p = ordered.behind k v m s.0 s.1 is s.2 u in
      let q = before p.0 m w p.2 (used_sized s u) l in
      (q.0, (let a = p.1 in let b = q.1 in omega arith), q.2)

-- ---- a type of size

module _ (ws : List WrittenType) where
  pub default_of_size : (v : ℕ) (x : Value) → DefaultIs ws (kind.Named v) x → IsOfSize ws (kind.Named v)
  default_of_size v x (plainly p d) = absurd p
  default_of_size v x (by_form h s o d) = s
  default_of_size v x (by_value h s o d) = s

  -- ---- a form with what stands behind `default`

  own_inside : (table : List (Option Value)) (v : ℕ) (f : Form) → HasForm ws v f → IsOfSize ws (kind.Named v) → HasDefaultsInForm ws table f → SufficesIn ws table 64 (form_target OfMembers f)
  own_inside table v form.Abstract h s knows = tt
  own_inside table v (form.Alias k) h s knows = record {
    enough = λ a b m. let same = (one_size (of_alias (form_measured h s.2)) m).levels in let low = s.4 in omega arith;
    knows = knows 0 k refl;
  }
  own_inside table v (form.Array n k format) h s knows = record {
    enough = λ a b m. let same = (one_size (named h (array m)) s.2).levels in let low = s.4 in omega arith;
    knows = knows 0 k refl;
  }
  own_inside table v (form.Struct fields) h s knows =
      let p = of_struct (form_measured h s.2) in
      (each_full table 64 p.2 (lower p.1 s.1 p.3 s.4) knows, tt)
    where
      lower : (d b : ℕ) → b ≡ 1 + d → b ≤ 64 → d ≤ 64
      lower d b e l = omega arith
  own_inside table v (form.Enum k cs) h s knows = tt

  by_form_back : (v : ℕ) (f : Form) (x : Value) → HasForm ws v f → HasOwn ws v own.Unwritten → DefaultIs ws (kind.Named v) x → Default ws (form_target OfMembers f) x
  by_form_back v f x h o (plainly p d) = absurd p
  by_form_back v f x h o (by_form g s p d) = subst (λ (y : Form). Default ws (form_target OfMembers y) x) (one_form g h) d
  by_form_back v f x h o (by_value g s p d) = differ (one_own o p)
    where
      differ : {A : Type 0} {u : Value} → own.Unwritten ≡ own.Has u → A
      differ e = absurd (cc)

  pub by_value_back : (v : ℕ) (f : Form) (u x : Value) → HasForm ws v f → HasOwn ws v (own.Has u) → DefaultIs ws (kind.Named v) x → Becomes ws (opened u) (form_target OfMembers f) x
  by_value_back v f u x h o (plainly p d) = absurd p
  by_value_back v f u x h o (by_form g s p d) = differ (one_own p o)
    where
      differ : {A : Type 0} {u : Value} → own.Unwritten ≡ own.Has u → A
      differ e = absurd (cc)
  by_value_back v f u x h o (by_value {f = k} g s p d) =
      subst (λ (y : Form). Becomes ws (opened u) (form_target OfMembers y) x) (one_form g h) (subst (λ (y : Value). Becomes ws (opened y) (form_target OfMembers k) x) (same_value (one_own p o)) d)
    where
      same_value : {y z : Value} → own.Has y ≡ own.Has z → y ≡ z
      same_value e = cc

  no_value_back : (v : ℕ) (x : Value) → HasOwn ws v own.NoValue → DefaultIs ws (kind.Named v) x → ⊥
  no_value_back v x o (plainly p d) = p
  no_value_back v x o (by_form g s p d) = differ (one_own p o)
    where
      differ : own.Unwritten ≡ own.NoValue → ⊥
      differ e = cc
  no_value_back v x o (by_value g s p d) = differ (one_own p o)
    where
      differ : {u : Value} → own.Has u ≡ own.NoValue → ⊥
      differ e = cc

  module _ (table : List (Option Value)) (v : ℕ) where
    pub finds_none : ((x : Value) → DefaultIs ws (kind.Named v) x → ⊥) → FindsDefault ws table v None
    finds_none never = record { holds = λ x e. no_some e; only = λ full x d. absurd (never x d) }

    unwritten_finds : (f : Form) (o : Option Value) → HasForm ws v f → IsOfSize ws (kind.Named v) → HasOwn ws v own.Unwritten
        → IsDefault ws (HasDefaultsInForm ws table f) (form_target OfMembers f) o → FindsDefault ws table v o
    unwritten_finds f (Some y) h s o d = record {
      holds = λ x e. subst (λ (z : Value). DefaultIs ws (kind.Named v) z) (same_some e) (by_form h s o d);
      only = λ full x g. ap (λ (z : Value). Some z) (one_default d (by_form_back v f x h o g));
    }
    unwritten_finds f None h s o d = record {
      holds = λ x e. no_some e;
      only = λ full x g. absurd (d (knows_form h table full) x (by_form_back v f x h o g));
    }

    has_finds : (f : Form) (u : Value) (o : Option Value) → HasForm ws v f → IsOfSize ws (kind.Named v) → HasOwn ws v (own.Has u)
        → IsMade ws (SufficesIn ws table 64 (form_target OfMembers f)) (opened u) (form_target OfMembers f) o → FindsDefault ws table v o
    has_finds f u (Some y) h s o d = record {
      holds = λ x e. subst (λ (z : Value). DefaultIs ws (kind.Named v) z) (same_some e) (by_value h s o d);
      only = λ full x g. ap (λ (z : Value). Some z) (one_result d (by_value_back v f u x h o g));
    }
    has_finds f u None h s o d = record {
      holds = λ x e. no_some e;
      only = λ full x g. absurd (d (own_inside table v f h s (knows_form h table full)) x (by_value_back v f u x h o g));
    }

    pub by_own : (own_ : Own) (f : Form) (o : Option Value) → HasForm ws v f → IsOfSize ws (kind.Named v) → HasOwn ws v own_ → FindsBy ws table own_ f o → FindsDefault ws table v o
    by_own own.Unwritten f o h s has d = unwritten_finds f o h s has d
    by_own own.NoValue f o h s has d = subst (λ (x : Option Value). FindsDefault ws table v x) (sym d) (finds_none (λ x g. no_value_back v x has g))
    by_own (own.Has u) f o h s has d = has_finds f u o h s has d

    pub unformed : ((f : Form) → HasForm ws v f → ⊥) → FindsDefault ws table v None
    unformed none = finds_none (λ x d. formless x d)
      where
        formless : (x : Value) → DefaultIs ws (kind.Named v) x → ⊥
        formless x (plainly p d) = p
        formless x (by_form h s o d) = none _ h
        formless x (by_value h s o d) = none _ h

    pub unsized : (sizes : List (Option TypeExtent)) (are : AreExtents ws sizes) → is_few_if (kind_extent sizes (kind.Named v)) ≡ false → FindsDefault ws table v None
    unsized sizes are e = finds_none (λ x d. let is = sized_is ws sizes are (kind.Named v) (default_of_size v x d) in let both : true ≡ false = sym is ∙ e in cc)

-- ---- the pass

pub defaulted_first : (ws : List WrittenType) (order : List ℕ) (table : List (Option Value)) → length table ≡ length ws → AreSoundDefaults ws table → DefaultedFirst ws order 0 table
defaulted_first ws order table each sound = record { each = each; sound = sound; done = λ j v lt e x d. absurd (omega arith) }

module _ (ws : List WrittenType) (order : List ℕ) (ordered : IsTypeOrder ws order) (table : List (Option Value)) (k v : ℕ) (o : Option Value) where
  full_here : DefaultedFirst ws order k table → slice_get order k ≡ Some v → (x : Value) → DefaultIs ws (kind.Named v) x → MissesNoDefault ws table v
  full_here done_first is x d w l =
      let s = default_of_size ws v x d in
      let p = before ws order ordered k v w is (s.0, s.1, s.2) l in
      done_first.done p.0 w p.1 p.2

  pub defaulted_next : DefaultedFirst ws order k table → slice_get order k ≡ Some v → FindsDefault ws table v o → DefaultedFirst ws order (k + 1) (set table v o)
  defaulted_next done_first is finds = record {
    each = length-set table v o ∙ done_first.each;
    sound = λ i x e. sound_at i x (same_or_other i v) e;
    done = λ j u lt e. done_at j u lt e (same_or_other u v);
  }
    where
      here : slice_get (set table v o) v ≡ Some o
      here = get_set_same table v o (let lt = ordered.within k v is in let each = done_first.each in omega arith)

      sound_at : (i : ℕ) (x : Value) → (i ≡ v) ⊎ (i ≢ v) → slice_get (set table v o) i ≡ Some (Some x) → DefaultIs ws (kind.Named i) x
      sound_at i x (inl same) e =
          let there : slice_get (set table v o) v ≡ Some (Some x) = subst (λ (n : ℕ). slice_get (set table v o) n ≡ Some (Some x)) same e in
          subst (λ (n : ℕ). DefaultIs ws (kind.Named n) x) (sym same) (finds.holds x (same_some (sym here ∙ there)))
      sound_at i x (inr other) e = done_first.sound i x (sym (get_set_other table v i o other) ∙ e)

      earlier : (j u : ℕ) → j < k + 1 → slice_get order j ≡ Some u → u ≢ v → j < k
      earlier j u lt e other = go (same_or_other j k)
        where
          go : (j ≡ k) ⊎ (j ≢ k) → j < k
          go (inl same) = absurd (other (same_some (sym e ∙ ap (λ (n : ℕ). slice_get order n) same ∙ is)))
          go (inr n) = omega arith

      done_at : (j u : ℕ) → j < k + 1 → slice_get order j ≡ Some u → (u ≡ v) ⊎ (u ≢ v) → HasDefault ws (set table v o) u
      done_at j u lt e (inl same) x d =
          let g = subst (λ (n : ℕ). DefaultIs ws (kind.Named n) x) same d in
          ap (λ (n : ℕ). slice_get (set table v o) n) same ∙ here ∙ ap (λ (y : Option Value). Some y) (finds.only (full_here done_first is x g) x g)
      done_at j u lt e (inr other) x d = get_set_other table v u o other ∙ done_first.done j u (earlier j u lt e other) e x d

pub defaulted_all : (ws : List WrittenType) (order : List ℕ) (table : List (Option Value)) (k : ℕ) → IsTypeOrder ws order → length order ≤ k → DefaultedFirst ws order k table → AreDefaults ws table
defaulted_all ws order table k ordered all done_first = record {
  each = done_first.each;
  at = λ i o is. record {
    holds = λ x e. done_first.sound i x (is ∙ ap (λ (y : Option Value). Some y) e);
    only = λ x d.
        let lt : i < length ws = subst (λ (n : ℕ). i < n) done_first.each (slice_get_within table i o is) in
        let p = ordered.all i lt in
        let below : p.0 < length order = slice_get_within order p.0 i p.1 in
        same_some (sym is ∙ done_first.done p.0 i (omega arith) p.1 x d);
  };
}

-- ---- forms without a default of their own

module _ (ws : List WrittenType) (table : List (Option Value)) where
  pub lefts_of : (fields : List Field) → HasDefaultsInForm ws table (form.Struct fields) → SufficesForLefts ws table OfMembers fields
  lefts_of [] knows = tt
  lefts_of (f ∷ fs) knows = (knows 0 f.kind refl, lefts_of fs (λ at k e. knows (suc at) k e))

  each_back : {fields : List Field} {x : Value} → Default ws (convert.struct OfMembers fields) x → (made : List MemberValue) × Completes ws OfMembers [] fields made
  each_back (of_each h) = (_, h)

  pub each_default : (fields : List Field) (m : Option (List MemberValue)) → AreCompleted ws (SufficesForLefts ws table OfMembers fields) OfMembers [] fields m
      → IsDefault ws (SufficesForLefts ws table OfMembers fields) (convert.struct OfMembers fields) (option_map structured m)
  each_default fields (Some made) h = of_each h
  each_default fields None h = λ full x d. let p = each_back d in h full p.0 p.1

  first_back : {cs : List Constant} {x : Value} → Default ws (constants cs) x → (c : Constant) × (slice_get cs 0 ≡ Some c)
  first_back (first {c = c}) = (c, refl)

  pub first_default : (full : Type 0) (cs : List Constant) → IsDefault ws full (constants cs) (option_map (λ (c : Constant). c.value) (slice_get cs 0))
  first_default full [] = λ all x d. let p = first_back d in no_some p.1
  first_default full (c ∷ cs) = first

  pub weaker : (full less : Type 0) (t : Target) (o : Option Value) → (full → less) → IsDefault ws less t o → IsDefault ws full t o
  weaker full less t (Some x) f h = h
  weaker full less t None f h = λ all. h (f all)

  pub for_form : (f g : Form) (o p : Option Value) → f ≡ g → o ≡ p → IsDefault ws (HasDefaultsInForm ws table g) (form_target OfMembers g) p → IsDefault ws (HasDefaultsInForm ws table f) (form_target OfMembers f) o
  for_form f g o p e d h = subst (λ (x : Form). IsDefault ws (HasDefaultsInForm ws table x) (form_target OfMembers x) o) (sym e) (subst (λ (x : Option Value). IsDefault ws (HasDefaultsInForm ws table g) (form_target OfMembers g) x) (sym d) h)

  pub at_option : (full : Type 0) (t : Target) (o p : Option Value) → o ≡ p → IsDefault ws full t p → IsDefault ws full t o
  at_option full t o p e h = subst (λ (x : Option Value). IsDefault ws full t x) (sym e) h

  pub at_fields : (xs fields : List Field) (o : Option Value) → xs ≡ fields → IsDefault ws (SufficesForLefts ws table OfMembers xs) (convert.struct OfMembers xs) o
      → IsDefault ws (SufficesForLefts ws table OfMembers fields) (convert.struct OfMembers fields) o
  at_fields xs fields o e h = subst (λ (l : List Field). IsDefault ws (SufficesForLefts ws table OfMembers l) (convert.struct OfMembers l) o) e h

-- ---- a value by itself

pub are_sound : (ws : List WrittenType) (table : List (Option Value)) → AreDefaults ws table → AreSoundDefaults ws table
are_sound ws table are i w e = (are.at i (Some w) e).holds w refl

has_default : (ws : List WrittenType) (table : List (Option Value)) → AreDefaults ws table → (i : ℕ) → HasDefault ws table i
has_default ws table are i w d =
    let s = default_of_size ws i w d in
    let f = formed ws i s.0 s.1 s.2 in
    let lt : i < length table = subst (λ (x : ℕ). i < x) (sym are.each) (slice_get_within ws i f.1.written f.1.here) in
    let o = item_below table i lt in
    o.1 ∙ ap (λ (y : Option Value). Some y) ((are.at i o.0 o.1).only w d)

pub converts_if : (ws : List WrittenType) (table : List (Option Value)) → AreDefaults ws table → (v : Value) (k : Kind) (o : Option Value)
    → IsMade ws (Suffices ws table 64 k) (opened v) (of_kind k) o → ConvertsIf ws v k o
converts_if ws table are v k (Some x) h = record {
  holds = λ w e. subst (λ (z : Value). Becomes ws (opened v) (of_kind k) z) (same_some e) h;
  only = λ w b. ap (λ (z : Value). Some z) (one_result h b);
}
converts_if ws table are v k None h = record {
  holds = λ w e. no_some e;
  only = λ w b.
      let s = result_of_size b in
      absurd (h (record { enough = λ a c m. let same = (one_size s.2 m).levels in let low = s.4 in omega arith; knows = λ i ins. has_default ws table are i }) w b);
}

pub default_if : (ws : List WrittenType) (table : List (Option Value)) → AreDefaults ws table → (k : Kind) (o : Option Value)
    → IsDefault ws (HasDefaultsIn ws table k) (of_kind k) o → IsDefaultIf ws k o
default_if ws table are k (Some x) h = record {
  holds = λ v e. subst (λ (z : Value). DefaultIs ws k z) (same_some e) h;
  only = λ v d. ap (λ (z : Value). Some z) (one_default h d);
}
default_if ws table are k None h = record {
  holds = λ v e. no_some e;
  only = λ v d. absurd (h (λ i s. has_default ws table are i) v d);
}

-- ---- types with their defaults

made_of : (w : WrittenType) (v : Value) (o : Option Form) (d : TypeDef) → w.form ≡ o → option_map (λ (f : Form). record { name = w.name; form = f; default = v; note = w.note }) o ≡ Some d
    → (w.form ≡ Some d.form) × (d.default ≡ v) × (d.name ≡ w.name) × (d.note ≡ w.note)
made_of w v None d is e = no_some e
made_of w v (Some f) d is e =
    let same : ◌≡◌ {A = TypeDef} (record { name = w.name; form = f; default = v; note = w.note }) d = same_some e in
    (is ∙ ap (λ (x : TypeDef). Some x.form) same, sym (ap (λ (x : TypeDef). x.default) same), sym (ap (λ (x : TypeDef). x.name) same), sym (ap (λ (x : TypeDef). x.note) same))

module _ (ws : List WrittenType) (table : List (Option Value)) (are : AreDefaults ws table) (i : ℕ) (w : WrittenType) (here : slice_get ws i ≡ Some w) where
  given_from : (o : Option Value) → slice_get table i ≡ Some o → IsTypeGiven ws i (given_of w o)
  given_from None is = record {
    holds = λ d e. no_some e;
    names = λ d v e h. no_some e;
    only = λ f v h d. no_some ((are.at i None is).only v d);
  }
  given_from (Some v) is = record {
    holds = λ d e.
        let p = made_of w v w.form d refl e in
        (record { written = w; here = here; form = p.0 }, subst (λ (x : Value). DefaultIs ws (kind.Named i) x) (sym p.1) ((are.at i (Some v) is).holds v refl));
    names = λ d u e h.
        let p = made_of w v w.form d refl e in
        let same : w ≡ u = same_some (sym here ∙ h) in
        (p.2 ∙ ap (λ (x : WrittenType). x.name) same, p.3 ∙ ap (λ (x : WrittenType). x.note) same);
    only = λ f u h d.
        let same : w ≡ h.written = same_some (sym here ∙ h.here) in
        let form : w.form ≡ Some f = ap (λ (x : WrittenType). x.form) same ∙ h.form in
        (record { name = w.name; form = f; default = v; note = w.note }, ap (λ (x : Option Form). option_map (λ (y : Form). record { name = w.name; form = y; default = v; note = w.note }) x) form);
  }

  pub given_is : (o : Option Value) (r : Option TypeDef) → slice_get table i ≡ Some o → r ≡ given_of w o → IsTypeGiven ws i r
  given_is o r is e = subst (λ (x : Option TypeDef). IsTypeGiven ws i x) (sym e) (given_from o is)

-- a row of what is given of the first so many
pub record GivenFirst (ws : List WrittenType) (n : ℕ) (row : List (Option TypeDef)) : Type 0 where
  pub each : length row ≡ n
  pub at : (i : ℕ) (o : Option TypeDef) → slice_get row i ≡ Some o → IsTypeGiven ws i o

pub given_none : (ws : List WrittenType) (row : List (Option TypeDef)) → row ≡ [] → GivenFirst ws 0 row
given_none ws row is = subst (λ (x : List (Option TypeDef)). GivenFirst ws 0 x) (sym is) (record { each = refl; at = λ i o e. no_some e })

pub given_next : (ws : List WrittenType) (n : ℕ) (row more : List (Option TypeDef)) (o : Option TypeDef) → GivenFirst ws n row → IsTypeGiven ws n o → more ≡ row ++ o ∷ [] → GivenFirst ws (n + 1) more
given_next ws n row more o first_ given e = subst (λ (x : List (Option TypeDef)). GivenFirst ws (n + 1) x) (sym e) (record {
  each = let l = length-append row (o ∷ []) in let k = first_.each in omega arith;
  at = λ i p h. at_place i p (get_push row o p i h);
})
  where
    at_place : (i : ℕ) (p : Option TypeDef) → (slice_get row i ≡ Some p) ⊎ ((i ≡ length row) × (o ≡ p)) → IsTypeGiven ws i p
    at_place i p (inl h) = first_.at i p h
    at_place i p (inr q) = subst (λ (x : ℕ). IsTypeGiven ws x p) (sym (q.0 ∙ first_.each)) (subst (λ (x : Option TypeDef). IsTypeGiven ws n x) q.1 given)

pub given_all : (ws : List WrittenType) (n : ℕ) (row : List (Option TypeDef)) → n ≡ length ws → GivenFirst ws n row → AreTypesGiven ws row
given_all ws n row e first_ = record { each = first_.each ∙ e; at = first_.at }
