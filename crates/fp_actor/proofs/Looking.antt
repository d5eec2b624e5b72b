-- The value of a name among bindings.
use Rattle.std.proofs.Common.{◌≡◌, ◌⊎◌, inl, inr, ℕ, zero, suc, Bool, true, false, cond, ◌&&◌, List, [], ◌∷◌, ◌++◌, length, map, Option, Some, None, Result, IfOk, is_some, option_map, unwrap_or, refl, sym, ap, ◌∙◌, subst, arith}
use Rattle.std.specs.Prelude.{codes}
use Rattle.std.specs.List.{find, zip, slice_get}
use Rattle.std.specs.Option.{option_or}
use Rattle.std.proofs.lemmas.Option.{slice_get-map}
use Rattle.std.proofs.lemmas.List.Folds.{find-append}
use Rattle.fp_base.specs.Same.{same_text}
use Rattle.fp_base.specs.declared.value.Value.{Value, Opaque}
use Rattle.fp_tables.specs.declared.machine.Named.{Named}
use Rattle.fp_events.specs.Actor.{Bindings, Doing}
use Rattle.fp_events.specs.Follows.{with_value}
use Rattle.fp_tables.specs.Lookup.{Described}
use Rattle.fp_tables.specs.declared.program.Program.{Program}
use Rattle.fp_actor.specs.Entries.{has_kind_at}

abbrev pub looked : List ℕ → Bindings → Option Value
looked name bs = option_map (λ (b : List ℕ × Value). b.1) (find (λ (b : List ℕ × Value). same_text b.0 name) bs)

abbrev pub bound_of : Option Doing → Bindings
bound_of o = unwrap_or (option_map (λ (d : Doing). d.bound) o) []

-- where one of two lists is at its end, nothing is left of them side by side
pub none_beside : {F V : Type 0} (p : List ℕ × V → Bool) (name : F → List ℕ) (fs : List F) (vs : List V) → (length fs ≡ 0) ⊎ (length vs ≡ 0) → find p (zip (map name fs) vs) ≡ None
none_beside p name [] vs h = refl
none_beside p name (f ∷ fs) [] h = refl
none_beside p name (f ∷ fs) (v ∷ vs) (inl e) = absurd (omega arith)
none_beside p name (f ∷ fs) (v ∷ vs) (inr e) = absurd (omega arith)

pub carry : {A E : Type 0} (o : Result A E) (x y : A) → x ≡ y → IfOk o (λ v. v ≡ x) → IfOk o (λ v. v ≡ y)
carry o x y e h = subst (λ z. IfOk o (λ v. v ≡ z)) e h

pub only_bound : (d : Doing) (k : ℕ) → k ≡ 0 → d.bound ≡ bound_of (slice_get (d ∷ []) k)
only_bound d k e = ap (λ n. bound_of (slice_get (d ∷ []) n)) (sym e)

-- lists that are alone, with the same bindings
pub same_bound : (d e : Doing) → d.bound ≡ e.bound → (k : ℕ) → bound_of (slice_get (d ∷ []) k) ≡ bound_of (slice_get (e ∷ []) k)
same_bound d e h zero = h
same_bound d e h (suc k) = refl

pub action_bound : (t : Described) (program : Program) (v : Option Value) (x : Option Named) (name : List ℕ) →
    cond (has_kind_at x && same_text (codes "value") name) v None ≡ looked name (with_value t program v x)
action_bound t program None None name = refl
action_bound t program None (Some x) name = go (is_some x.kind && same_text (codes "value") name)
  where
    go : (b : Bool) → cond {A = Option Value} b None None ≡ None
    go true = refl
    go false = refl
action_bound t program (Some v) None name = refl
action_bound t program (Some v) (Some x) name = go (is_some x.kind)
  where
    go : (b : Bool) → cond (b && same_text (codes "value") name) (Some v) None ≡ looked name (cond b ((codes "value", v) ∷ []) [])
    go false = refl
    go true = here (same_text (codes "value") name)
      where
        here : (b : Bool) → cond b (Some v) None ≡ option_map (λ (b : List ℕ × Value). b.1) (cond b (Some (codes "value", v)) None)
        here true = refl
        here false = refl

or_of : (a b : Option (List ℕ × Value)) → option_map (λ (b : List ℕ × Value). b.1) (option_or a b) ≡ option_or (option_map (λ (b : List ℕ × Value). b.1) a) (option_map (λ (b : List ℕ × Value). b.1) b)
or_of None b = refl
or_of (Some x) b = refl

looked_either : (name : List ℕ) (xs ys : Bindings) → looked name (xs ++ ys) ≡ option_or (looked name xs) (looked name ys)
looked_either name xs ys =
    ap (λ (o : Option (List ℕ × Value)). option_map (λ (b : List ℕ × Value). b.1) o) (find-append (λ (b : List ℕ × Value). same_text b.0 name) xs ys)
    ∙ or_of (find (λ (b : List ℕ × Value). same_text b.0 name) xs) (find (λ (b : List ℕ × Value). same_text b.0 name) ys)

pub found_made : (name : List ℕ) (xs ys : Bindings) (v : Value) → Some v ≡ looked name xs → v ≡ unwrap_or (looked name (xs ++ ys)) Opaque
found_made name xs ys v e = sym (ap (λ (o : Option Value). unwrap_or o Opaque) (looked_either name xs ys ∙ ap (λ o. option_or o (looked name ys)) (sym e)))

pub found_base : (name : List ℕ) (xs ys : Bindings) → None ≡ looked name xs → unwrap_or (looked name ys) Opaque ≡ unwrap_or (looked name (xs ++ ys)) Opaque
found_base name xs ys e = sym (ap (λ (o : Option Value). unwrap_or o Opaque) (looked_either name xs ys ∙ ap (λ o. option_or o (looked name ys)) (sym e)))

pub performed_bound : (f : ℕ → Doing) (ks : List ℕ) (k x : ℕ) → Some x ≡ slice_get ks k → (f x).bound ≡ bound_of (slice_get (map f ks) k)
performed_bound f ks k x e = sym (ap bound_of (slice_get-map f ks k ∙ ap (option_map f) (sym e)))

pub performed_none : (f : ℕ → Doing) (ks : List ℕ) (k : ℕ) → None ≡ slice_get ks k → [] ≡ bound_of (slice_get (map f ks) k)
performed_none f ks k e = sym (ap bound_of (slice_get-map f ks k ∙ ap (option_map f) (sym e)))
