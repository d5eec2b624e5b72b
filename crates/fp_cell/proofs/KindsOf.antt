-- Values of given kinds: one of them, one replaced, and the one of a set command.
use Rattle.std.proofs.Common.{◌≡◌, ℕ, zero, suc, Bool, true, false, List, [], ◌∷◌, map, set, get_or, Option, Some, None, option_map, unwrap_or, is_some, refl, sym, ap, ◌∙◌, slice_get, ◌⊎◌, inl, inr}
use Rattle.std.proofs.lemmas.Bool.{false≢true}
use Rattle.fp_base.specs.declared.value.Value.{Value}
use Rattle.fp_base.proofs.Bools.{both, join}
use Rattle.fp_tables.specs.Components.{same_kind, takes_its_value}
use Rattle.fp_tables.specs.Types.{has_kind, have_kinds}
use Rattle.fp_tables.specs.declared.component.Command.{Command}
use Rattle.fp_tables.specs.declared.component.Param.{Param}
use Rattle.fp_tables.specs.declared.component.CommandPart.TheVariants.{SetParam}
use Rattle.fp_tables.specs.declared.kind.Formal.{Formal}
use Rattle.fp_tables.specs.declared.kind.Kind.{Kind}
use Rattle.fp_tables.specs.declared.kind.TypeDef.{TypeDef}
use Rattle.fp_tables.proofs.Optional.{some_and_of}
use Rattle.fp_tables.proofs.OneKind.{same_kind_is}

pub mapped_test_of : {X : Type 0} (p : X → Bool) (o : Option X) → unwrap_or (option_map p o) false ≡ true → (x : X) × (o ≡ Some x) × (p x ≡ true)
mapped_test_of p None h = absurd (cc)
mapped_test_of p (Some x) h = (x, refl, h)

module _ (types : List TypeDef) where
  -- the value at a place has the kind that stands there
  pub kind_at : (ps : List Param) (vs : List Value) (k : ℕ) (v : Value) → have_kinds types (map (λ (p : Param). p.kind) ps) vs ≡ true → slice_get vs k ≡ Some v
      → (p : Param) × (slice_get ps k ≡ Some p) × (has_kind types p.kind v ≡ true)
  kind_at [] [] k v h e = absurd (cc)
  kind_at [] (w ∷ vs) k v h e = absurd (cc)
  kind_at (p ∷ ps) [] k v h e = absurd (cc)
  kind_at (p ∷ ps) (w ∷ vs) zero v h e =
      let s : w ≡ v = cc in
      (p, refl, ap (has_kind types p.kind) (sym s) ∙ (both (has_kind types p.kind w) (have_kinds types (map (λ (p : Param). p.kind) ps) vs) h).0)
  kind_at (p ∷ ps) (w ∷ vs) (suc k) v h e = kind_at ps vs k v (both (has_kind types p.kind w) (have_kinds types (map (λ (p : Param). p.kind) ps) vs) h).1 e

  pub there_at : (ps : List Param) (vs : List Value) (k : ℕ) → have_kinds types (map (λ (p : Param). p.kind) ps) vs ≡ true → is_some (slice_get ps k) ≡ is_some (slice_get vs k)
  there_at [] [] k h = refl
  there_at [] (w ∷ vs) k h = absurd (cc)
  there_at (p ∷ ps) [] k h = absurd (cc)
  there_at (p ∷ ps) (w ∷ vs) zero h = refl
  there_at (p ∷ ps) (w ∷ vs) (suc k) h = there_at ps vs k (both (has_kind types p.kind w) (have_kinds types (map (λ (p : Param). p.kind) ps) vs) h).1

  pub kinds_set : (ps : List Param) (vs : List Value) (k : ℕ) (v : Value) (p : Param) → have_kinds types (map (λ (p : Param). p.kind) ps) vs ≡ true
      → slice_get ps k ≡ Some p → has_kind types p.kind v ≡ true → have_kinds types (map (λ (p : Param). p.kind) ps) (set vs k v) ≡ true
  kinds_set [] [] k v p h e f = absurd (cc)
  kinds_set [] (w ∷ vs) k v p h e f = absurd (cc)
  kinds_set (q ∷ ps) [] k v p h e f = absurd (cc)
  kinds_set (q ∷ ps) (w ∷ vs) zero v p h e f =
      let s : q ≡ p = cc in
      join (has_kind types q.kind v) (have_kinds types (map (λ (p : Param). p.kind) ps) vs)
      (ap (λ (x : Param). has_kind types x.kind v) s ∙ f) (both (has_kind types q.kind w) (have_kinds types (map (λ (p : Param). p.kind) ps) vs) h).1
  kinds_set (q ∷ ps) (w ∷ vs) (suc k) v p h e f =
      let b = both (has_kind types q.kind w) (have_kinds types (map (λ (p : Param). p.kind) ps) vs) h in
      join (has_kind types q.kind w) (have_kinds types (map (λ (p : Param). p.kind) ps) (set vs k v)) b.0 (kinds_set ps vs k v p b.1 e f)

  -- what a set command takes: one value, of its parameter's kind
  pub record Sets (ps : List Param) (k : ℕ) (vs : List Value) : Type 0 where
    pub param : Param
    pub is_param : slice_get ps k ≡ Some param
    pub value : Value
    pub is_value : vs ≡ value ∷ []
    pub of_kind : has_kind types param.kind value ≡ true

  one_value : (f : Formal) (vs : List Value) (k : Kind) → same_kind f.kind k ≡ true → have_kinds types (f.kind ∷ []) vs ≡ true → (v : Value) × (vs ≡ v ∷ []) × (has_kind types k v ≡ true)
  one_value f [] k e h = absurd (cc)
  one_value f (v ∷ []) k e h = (v, refl, ap (λ (j : Kind). has_kind types j v) (sym (same_kind_is f.kind k e)) ∙ (both (has_kind types f.kind v) true h).0)
  one_value f (v ∷ w ∷ vs) k e h = absurd (false≢true ((both (has_kind types f.kind v) false h).1))

  pub set_value : (ps : List Param) (c : Command) (k : ℕ) (vs : List Value) → takes_its_value ps c ≡ true → c.part ≡ SetParam k
      → have_kinds types (map (λ (f : Formal). f.kind) c.formals) vs ≡ true → Sets ps k vs
  set_value ps c k vs takes is kinds =
      go c.formals (sym (ap (λ x. takes_its_value ps (record c { part = x })) is) ∙ takes) kinds
    where
      go : (fs : List Formal) → takes_its_value ps (record c { part = SetParam k; formals = fs }) ≡ true → have_kinds types (map (λ (f : Formal). f.kind) fs) vs ≡ true → Sets ps k vs
      go [] h of = absurd (false≢true (some_and_of _ (slice_get ps k) h).2)
      go (f ∷ []) h of =
          let p = some_and_of _ (slice_get ps k) h in
          let v = one_value f vs p.0.kind p.2 of in
          record { param = p.0; is_param = p.1; value = v.0; is_value = v.1; of_kind = v.2 }
      go (f ∷ g ∷ fs) h of = absurd (false≢true (some_and_of _ (slice_get ps k) h).2)

-- what stands at a place behind a change of one place
pub set_read : {X : Type 0} (xs : List (Option X)) (j k : ℕ) (x y : X) → get_or (set xs j (Some x)) k None ≡ Some y → (get_or xs k None ≡ Some y) ⊎ ((k ≡ j) × (y ≡ x))
set_read [] j k x y h = inl h
set_read (z ∷ xs) zero zero x y h = let e : y ≡ x = cc in inr (refl, e)
set_read (z ∷ xs) zero (suc k) x y h = inl h
set_read (z ∷ xs) (suc j) zero x y h = inl h
set_read {X} (z ∷ xs) (suc j) (suc k) x y h = go (set_read xs j k x y h)
  where
    go : (get_or xs k None ≡ Some y) ⊎ ((k ≡ j) × (y ≡ x)) → (get_or xs k None ≡ Some y) ⊎ ((suc k ≡ suc j) × (y ≡ x))
    go (inl e) = inl e
    go (inr e) = inr (ap suc e.0, e.1)
