-- What is read of items that are resolved, one part after another.
use Rattle.std.proofs.Common.{◌≡◌, Bool, true, false, cond, ℕ, suc, ◌+◌, ◌≤◌, ℤ, pos, List, [], ◌∷◌, ◌++◌, length, map, flat_map, take, slice_get, Option, Some, None, option_map, refl, sym, ap, ◌∙◌, subst, arith, append_assoc}
use Rattle.std.specs.Prelude.{option_and_then}
use Rattle.std.proofs.lemmas.List.{append-nil, take_all, length-take-le}
use Rattle.std.proofs.lemmas.Option.{slice_get_within}
use Rattle.std.specs.Option.{option_flatten}
use Rattle.fp_base.proofs.Lists.{take_next}
use Rattle.fp_base.proofs.Options.{same_some, no_some}
use Rattle.fp_base.specs.declared.value.Value.{Value}
use Rattle.fp_tree.specs.declared.source.Source.{Source}
use Rattle.fp_tree.specs.declared.name.Name.{Name}
use Rattle.fp_tree.specs.declared.name.Qual.{Qual}
use Rattle.fp_tree.specs.declared.definition.Def.{Def}
use Rattle.fp_tree.specs.declared.definition.Enum.{Enum}
use Rattle.fp_tree.specs.declared.expression.Expr.{Expr}
use Rattle.fp_tree.specs.declared.part.EnumConst.{EnumConst}
use Rattle.fp_tree.specs.declared.type_name.TypeForm.{TypeForm}
use Rattle.fp_tree.specs.declared.type_name.TypeForm.TheVariants as type
use Rattle.fp_tables.specs.declared.kind.Constant.{Constant}
use Rattle.fp_tables.specs.declared.kind.Kind.{Kind}
use Rattle.fp_tables.specs.declared.kind.Kind.TheVariants as kind
use Rattle.fp_meaning.specs.declared.group.Group.{Group}
use Rattle.fp_meaning.specs.declared.group.Group.TheVariants as group
use Rattle.fp_meaning.specs.declared.names.Definition.{Definition}
use Rattle.fp_meaning.specs.declared.item.Item.{Item}
use Rattle.fp_meaning.specs.declared.item.Item.TheVariants as item
use Rattle.fp_meaning.specs.Meaning.{Means}
use Rattle.fp_meaning.specs.Layout.{constant_items, expression_items, type_form_items}
use Rattle.fp_meaning.specs.Names.{Path, definitions}
use Rattle.fp_meaning.specs.Sites.{Naming, entry, is_implied}
use Rattle.fp_meaning.proofs.Meanings.{one_meaning}
use Rattle.fp_meaning.specs.Values.{number_in, dotted, opened, names_of, IsImplied, Val}
use Rattle.fp_consts.proofs.Valued.{implied_when, implied_then}
use Rattle.fp_type_sizes.specs.declared.written.WrittenType.{WrittenType}
use Rattle.fp_type_sizes.specs.declared.written.Own.{Own}
use Rattle.fp_type_forms.specs.declared.resolving.Resolution.{Resolution}
use Rattle.fp_type_forms.specs.declared.resolving.Resolution.TheVariants as resolution
use Rattle.fp_type_forms.specs.Written.{IsOnly, AllAt, TypeHere, is_kind, types_before, primitive, NumberIs, IsSizeTo, IsStringSize, KindIs, ConstantIs, EnumeratedIs, FormIs, OwnIs, IsWritten}
use Rattle.fp_type_forms.specs.Resolved.{IsMarkOf, AreResolved, AreWrittenIn, Takes, Moves, UseMeans, constant_with, kind_resolved, number_given, number_meant, use_resolved, value_resolved, own_with, one_more, both_there}
use Rattle.fp_type_forms.proofs.Only.{only_same, only_mapped, only_then, only_both, only_nothing, only_more}

-- the use of anything but a type
meant_by : (g : Group) (ds : List Definition) (number : ℕ) → is_kind g ≡ false → use_resolved g ds number ≡ resolution.Meant number
meant_by group.Kind ds number other = absurd (cc)
meant_by g ds number other = refl

module _ (source : Source) (marks : List (Option Value)) (rs : List Resolution) where
  pub taken_as : {P Q : Type 0} (xs : List Item) (a b : ℕ) → (P → Q) → Takes source marks rs xs a b P → Takes source marks rs xs a b Q
  taken_as xs a b to f others h = let t = f others h in (to t.0, t.1)

  pub taken_then : {P Q : Type 0} (xs ys : List Item) (a b c : ℕ) → Takes source marks rs xs a b P → Takes source marks rs ys b c Q → Takes source marks rs (xs ++ ys) a c (P × Q)
  taken_then xs ys a b c f g others h =
      let t = f (ys ++ others) (subst (λ (l : List Item). AreResolved source marks rs l a) (append_assoc xs ys others) h) in
      let u = g others t.1 in ((t.0, u.0), u.1)

  pub taken_nothing : {P : Type 0} (a : ℕ) → P → Takes source marks rs [] a a P
  taken_nothing a p others h = (p, h)

  -- all of it
  pub taken_all : {P : Type 0} (xs : List Item) (a b : ℕ) → Takes source marks rs xs a b P → AreResolved source marks rs xs a → P
  taken_all xs a b f h = (f [] (subst (λ (l : List Item). AreResolved source marks rs l a) (sym (append-nil xs)) h)).0

  pub taken_both : {A B C : Type 0} (P : A → Type 0) (Q : B → Type 0) (g : A → B → C) (o : Option A) (q : Option B) (xs ys : List Item) (a b c : ℕ)
      → Takes source marks rs xs a b (IsOnly P o) → Takes source marks rs ys b c (IsOnly Q q)
      → Takes source marks rs (xs ++ ys) a c (IsOnly (λ z. (x : A) × (y : B) × P x × Q y × (z ≡ g x y)) (both_there g o q))
  taken_both P Q g o q xs ys a b c h k = taken_as (xs ++ ys) a c (λ t. only_both P Q g o q t.0 t.1) (taken_then xs ys a b c h k)

  -- an expression
  pub taken_expression : {P : Type 0} (since : ℕ) (scope : Path) (e : Expr) (a b : ℕ) → Moves rs a b
      → ((o : Option Value) → value_resolved marks (slice_get rs a) ≡ o → IsOnly (Val source scope (opened e)) o → P)
      → Takes source marks rs (expression_items since scope e) a b P
  taken_expression since scope e a b moves to others h =
      let r = h.0.0 in
      let at : slice_get rs a ≡ Some r = h.0.1 in
      let mark = h.0.2.2 in
      let is : value_resolved marks (slice_get rs a) ≡ mark.0 =
      ap (value_resolved marks) (at ∙ ap (λ (x : Resolution). Some x) h.0.2.1) ∙ ap option_flatten mark.1 in
      (to mark.0 is (record { holds = mark.2.holds; only = mark.2.only }), subst (λ (n : ℕ). AreResolved source marks rs others n) (sym (moves r at)) h.1)

  pub number_valued : (scope : Path) (e : Expr) (o : Option Value) (n : Option ℤ) (v : Option Value) → v ≡ o → n ≡ option_and_then number_in v → IsOnly (Val source scope (opened e)) o
      → IsOnly (NumberIs source scope e) n
  number_valued scope e o n v is d only =
      only_same (NumberIs source scope e) (d ∙ ap (option_and_then number_in) is) (only_then (Val source scope (opened e)) number_in o only)

  pub size_numbered : (most : ℕ) (scope : Path) (e : Expr) (o : Option ℤ) (r : Option ℕ) → IsOnly (NumberIs source scope e) o
      → IsOnly (λ (n : ℕ). (o ≡ Some (pos n)) × (1 ≤ n) × (n ≤ most)) r → IsOnly (IsSizeTo source scope most e) r
  size_numbered most scope e o r h k = record {
    holds = λ n is. let t = k.holds n is in record { number = h.holds (pos n) t.0; least = t.1; greatest = t.2 };
    only = λ n t. k.only n (h.only (pos n) t.number, t.least, t.greatest);
  }

  pub own_valued : (scope : Path) (e : Expr) (o : Option Value) (w : Own) (v : Option Value) → v ≡ o → w ≡ own_with v → IsOnly (Val source scope (opened e)) o
      → OwnIs source scope (Some e) w
  own_valued scope e o w v is d only = subst (λ (x : Own). OwnIs source scope (Some e) x) (sym (d ∙ ap own_with is)) (go o only)
    where
      go : (o : Option Value) → IsOnly (Val source scope (opened e)) o → OwnIs source scope (Some e) (own_with o)
      go None h = λ u val. no_some (h.only u val)
      go (Some u) h = h.holds u refl

  pub text_sized : (since : ℕ) (scope : Path) (e : Expr) (size : Option ℕ) (k : Option Kind) (a b : ℕ) → k ≡ option_map (λ (n : ℕ). kind.Str n) size
      → Takes source marks rs (expression_items since scope e) a b (IsOnly (IsSizeTo source scope 65535 e) size)
      → Takes source marks rs (expression_items since scope e) a b (IsOnly (KindIs source scope (type.Text (Some e))) k)
  text_sized since scope e size k a b is h =
      taken_as (expression_items since scope e) a b
      (λ only. only_same (KindIs source scope (type.Text (Some e))) is (only_mapped (IsStringSize source scope e) (λ (n : ℕ). kind.Str n) size only)) h

  -- ---- the names of types

  pub taken_leaf : (since : ℕ) (scope : Path) (t : TypeForm) (k : Kind) (a : ℕ) → primitive t ≡ Some k
      → Takes source marks rs (type_form_items since scope t) a a (IsOnly (KindIs source scope t) (Some k))
  taken_leaf since scope (type.Text size) k a is = no_some is
  taken_leaf since scope (type.Use q) k a is = no_some is
  taken_leaf since scope type.F32 k a is = no_some is
  taken_leaf since scope type.F64 k a is = no_some is
  taken_leaf since scope t k a is = taken_nothing a (record { holds = λ x e. is ∙ e; only = λ x e. sym is ∙ e })

  pub taken_f32 : (since : ℕ) (scope : Path) (a : ℕ) → Takes source marks rs (type_form_items since scope type.F32) a a (IsOnly (KindIs source scope type.F32) None)
  taken_f32 since scope a = taken_nothing a (record { holds = λ x e. e; only = λ x e. e })

  pub taken_f64 : (since : ℕ) (scope : Path) (a : ℕ) → Takes source marks rs (type_form_items since scope type.F64) a a (IsOnly (KindIs source scope type.F64) None)
  taken_f64 since scope a = taken_nothing a (record { holds = λ x e. e; only = λ x e. e })

  pub taken_use : (since : ℕ) (scope : Path) (q : Qual) (a b : ℕ) (k : Option Kind) → k ≡ kind_resolved (slice_get rs a) → Moves rs a b
      → Takes source marks rs (type_form_items since scope (type.Use q)) a b (IsOnly (KindIs source scope (type.Use q)) k)
  taken_use since scope q a b k is moves others h =
      let r = h.0.0 in
      let at : slice_get rs a ≡ Some r = h.0.1 in
      let number = h.0.2.0 in
      let found : k ≡ Some (kind.Named (types_before (definitions source) number)) =
      is ∙ ap kind_resolved (at ∙ ap (λ (x : Resolution). Some x) h.0.2.2) in
      (only_same (KindIs source scope (type.Use q)) found (the_only number h.0.2.1), subst (λ (n : ℕ). AreResolved source marks rs others n) (sym (moves r at)) h.1)
    where
      the_only : (number : ℕ) → Means (definitions source) scope (names_of q) group.Kind number
          → IsOnly (KindIs source scope (type.Use q)) (Some (kind.Named (types_before (definitions source) number)))
      the_only number m = record {
        holds = λ x e. (number, m, sym (same_some e));
        only = λ x t.
            ap (λ (n : ℕ). Some (kind.Named (types_before (definitions source) n))) (one_meaning (definitions source) scope (names_of q) group.Kind number t.0 m t.1)
            ∙ ap (λ (y : Kind). Some y) (sym t.2);
      }

-- ---- the uses of other names

module _ (source : Source) (marks : List (Option Value)) (rs : List Resolution) (n : Naming) where
  only_meant : (number : ℕ) → UseMeans source n number → IsOnly (UseMeans source n) (Some number)
  only_meant number m = record {
    holds = λ x e. subst (λ (k : ℕ). UseMeans source n k) (same_some e) m;
    only = λ x t.
        ap (λ (k : ℕ). Some k) (one_meaning (definitions source) n.scope (map (λ (y : Name). y.text) n.names) n.group number x m t);
  }

  pub taken_meant : (since a b : ℕ) (k : Option ℕ) → is_kind n.group ≡ false → k ≡ number_meant (slice_get rs a) → Moves rs a b
      → Takes source marks rs (item.Used since n ∷ []) a b (IsOnly (UseMeans source n) k)
  taken_meant since a b k other is moves others h =
      let r = h.0.0 in
      let at : slice_get rs a ≡ Some r = h.0.1 in
      let number = h.0.2.0 in
      let meant : r ≡ resolution.Meant number = h.0.2.2 ∙ meant_by n.group (definitions source) number other in
      let found : k ≡ Some number = is ∙ ap number_meant (at ∙ ap (λ (x : Resolution). Some x) meant) in
      (only_same (UseMeans source n) found (only_meant number h.0.2.1), subst (λ (j : ℕ). AreResolved source marks rs others j) (sym (moves r at)) h.1)

-- ---- parts that follow one another

abbrev pub items_from : {A : Type 0} → (ℕ → A → List Item) → ℕ → List A → List Item
items_from g k [] = []
items_from g k (x ∷ xs) = g k x ++ items_from g (suc k) xs

items_more : {A : Type 0} (g : ℕ → A → List Item) (k n : ℕ) (xs : List A) (x : A) → n ≡ k + length xs → items_from g k (xs ++ x ∷ []) ≡ items_from g k xs ++ g n x
items_more g k n [] x e = append-nil (g k x) ∙ ap (λ (m : ℕ). g m x) (omega arith)
items_more g k n (y ∷ xs) x e =
    ap (λ (l : List Item). g k y ++ l) (items_more g (suc k) n xs x (omega arith)) ∙ sym (append_assoc (g k y) (items_from g (suc k) xs) (g n x))

pub items_next : {A : Type 0} (g : ℕ → A → List Item) (xs : List A) (k : ℕ) (x : A) → slice_get xs k ≡ Some x
    → items_from g 0 (take (k + 1) xs) ≡ items_from g 0 (take k xs) ++ g k x
items_next g xs k x at =
    let within = slice_get_within xs k x at in
    let long : length (take k xs) ≡ k = length-take-le k xs (omega arith) in
    ap (λ l. items_from g 0 l) (take_next xs k x at) ∙ items_more g 0 k (take k xs) x (omega arith)

pub items_flat : {A : Type 0} (g : A → List Item) (k : ℕ) (xs : List A) → flat_map g xs ≡ items_from (λ n. g) k xs
items_flat g k [] = refl
items_flat g k (x ∷ xs) = ap (λ (l : List Item). g x ++ l) (items_flat g (suc k) xs)

pub items_listed : (scope : Path) (d : Enum) (k : ℕ) (cs : List EnumConst) → constant_items scope d k cs ≡ items_from (λ n c. item.Enumerated (entry scope d n c) ∷ []) k cs
items_listed scope d k [] = refl
items_listed scope d k (c ∷ cs) = ap (λ (l : List Item). item.Enumerated (entry scope d k c) ∷ l) (items_listed scope d (suc k) cs)

module _ {A B : Type 0} (R : ℕ → A → B → Type 0) (g : ℕ → A → List Item) (source : Source) (marks : List (Option Value)) (rs : List Resolution) (xs : List A) where
  -- the first so many
  abbrev pub TakesFirst : ℕ → ℕ → ℕ → Option (List B) → Type 0
  TakesFirst k a b row = Takes source marks rs (items_from g 0 (take k xs)) a b (IsOnly (AllAt R 0 (take k xs)) row)

  pub first_taken : (a b : ℕ) (row : Option (List B)) → b ≡ a → row ≡ Some [] → TakesFirst 0 a b row
  first_taken a b row same is =
      subst (λ (n : ℕ). TakesFirst 0 a n row) (sym same) (subst (λ (r : Option (List B)). TakesFirst 0 a a r) (sym is) (taken_nothing source marks rs a (only_nothing R)))

  pub next_taken : (k : ℕ) (x : A) (a b c : ℕ) (row more : Option (List B)) (one : Option B) → slice_get xs k ≡ Some x → more ≡ one_more row one → TakesFirst k a b row
      → Takes source marks rs (g k x) b c (IsOnly (R k x) one) → TakesFirst (k + 1) a c more
  next_taken k x a b c row more one at is before here =
      let within = slice_get_within xs k x at in
      let long : length (take k xs) ≡ k = length-take-le k xs (omega arith) in
      subst (λ (l : List A). Takes source marks rs (items_from g 0 l) a c (IsOnly (AllAt R 0 l) more)) (sym (take_next xs k x at))
      (subst (λ (l : List Item). Takes source marks rs l a c (IsOnly (AllAt R 0 (take k xs ++ x ∷ [])) more)) (sym (items_more g 0 k (take k xs) x (omega arith)))
      (taken_as source marks rs (items_from g 0 (take k xs) ++ g k x) a c
      (λ t. only_same (AllAt R 0 (take k xs ++ x ∷ [])) is (only_more R k (take k xs) x row one (omega arith) t.0 t.1))
      (taken_then source marks rs (items_from g 0 (take k xs)) (g k x) a b c before here)))

  pub whole_taken : (k a b : ℕ) (row : Option (List B)) → length xs ≤ k → TakesFirst k a b row → Takes source marks rs (items_from g 0 xs) a b (IsOnly (AllAt R 0 xs) row)
  whole_taken k a b row past h = subst (λ (l : List A). Takes source marks rs (items_from g 0 l) a b (IsOnly (AllAt R 0 l) row)) (take_all k xs past) h

-- ---- enumerations

module _ (source : Source) (marks : List (Option Value)) (rs : List Resolution) (scope : Path) (d : Enum) (position : ℕ) where
  position_given : (b : Bool) → is_implied d ≡ b → IsOnly (λ (n : ℤ). IsImplied d × (n ≡ pos position)) (cond b (Some (pos position)) None)
  position_given true is = record { holds = λ n e. (implied_when d is, sym (same_some e)); only = λ n t. ap (λ (z : ℤ). Some z) (sym t.1) }
  position_given false is = record { holds = λ n e. no_some e; only = λ n t. let never : is_implied d ≡ true = implied_then d t.0 in absurd (cc) }

  number_listed : (a : ℕ) (implied : Bool) (v : Option Expr) (r : Resolution) (written : Option ℤ) → is_implied d ≡ implied → slice_get rs a ≡ Some r
      → written ≡ option_and_then number_in (value_resolved marks (slice_get rs a)) → IsMarkOf source marks scope v r
      → IsOnly (ConstantIs source scope d position v) (number_given position implied v written)
  number_listed a implied None r written same at is mark = position_given implied same
  number_listed a implied (Some e) r written same at is mark =
      number_valued source marks rs scope e mark.2.0 written (value_resolved marks (slice_get rs a))
      (ap (value_resolved marks) (at ∙ ap (λ (x : Resolution). Some x) mark.1) ∙ ap option_flatten mark.2.1) is
      (record { holds = mark.2.2.holds; only = mark.2.2.only })

  pub taken_number : (c : EnumConst) (a b : ℕ) (implied : Bool) (written number : Option ℤ) → implied ≡ is_implied d
      → written ≡ option_and_then number_in (value_resolved marks (slice_get rs a)) → Moves rs a b → number ≡ number_given position implied c.value written
      → Takes source marks rs (item.Enumerated (entry scope d position c) ∷ []) a b (IsOnly (ConstantIs source scope d position c.value) number)
  taken_number c a b implied written number same is moves gives others h = (
    only_same (ConstantIs source scope d position c.value) gives (number_listed a implied c.value h.0.0 written (sym same) h.0.1 is h.0.2),
    subst (λ (n : ℕ). AreResolved source marks rs others n) (sym (moves h.0.0 h.0.1)) h.1,
  )

  pub taken_enumerated : (c : EnumConst) (a b : ℕ) (implied : Bool) (of : List ℕ) (written number : Option ℤ) (made : Option Constant) → implied ≡ is_implied d
      → of ≡ dotted (scope ++ d.name.text ∷ []) → written ≡ option_and_then number_in (value_resolved marks (slice_get rs a)) → Moves rs a b
      → number ≡ number_given position implied c.value written → made ≡ option_map (constant_with of c) number
      → Takes source marks rs (item.Enumerated (entry scope d position c) ∷ []) a b (IsOnly (EnumeratedIs source scope d position c) made)
  taken_enumerated c a b implied of written number made same named is moves gives makes others h = (
    only_same (EnumeratedIs source scope d position c)
        (makes ∙ ap (λ (o : Option ℤ). option_map (constant_with of c) o) gives
        ∙ ap (λ (x : List ℕ). option_map (constant_with x c) (number_given position implied c.value written)) named)
        (only_mapped (ConstantIs source scope d position c.value) (constant_with (dotted (scope ++ d.name.text ∷ [])) c) (number_given position implied c.value written)
        (number_listed a implied c.value h.0.0 written (sym same) h.0.1 is h.0.2)),
    subst (λ (n : ℕ). AreResolved source marks rs others n) (sym (moves h.0.0 h.0.1)) h.1,
  )

-- ---- whole types

pub whole_written : (source : Source) (marks : List (Option Value)) (rs : List Resolution) (t : TypeHere) (w : WrittenType) (xs ys : List Item) (a b c : ℕ)
    → w.name ≡ dotted (t.scope ++ t.name.text ∷ []) → w.note ≡ t.note → Takes source marks rs xs a b (IsOnly (FormIs source t.scope t.definition) w.form)
    → Takes source marks rs ys b c (OwnIs source t.scope t.default w.default) → AreResolved source marks rs (xs ++ ys) a → IsWritten source t w
whole_written source marks rs t w xs ys a b c name note form default h =
    let both = taken_all source marks rs (xs ++ ys) a c (taken_then source marks rs xs ys a b c form default) h in
    record { name = name; form = both.0; default = both.1; note = note }

pub written_by : (marks : List (Option Value)) (rs : List Resolution) (start : ℕ) (scope : Path) (d e : Def) (o : Option WrittenType) → d ≡ e
    → AreWrittenIn marks rs start scope e o → AreWrittenIn marks rs start scope d o
written_by marks rs start scope d e o same h = subst (λ (x : Def). AreWrittenIn marks rs start scope x o) (sym same) h
