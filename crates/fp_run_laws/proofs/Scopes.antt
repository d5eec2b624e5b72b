-- What is bound, and the values of arguments.
use Rattle.std.proofs.Common.{◌≡◌, ℕ, Bool, true, false, cond, ◌&&◌, ◌==◌, List, [], ◌∷◌, zip, find, Some, option_map, refl, sym, ap, ◌∙◌}
use Rattle.std.specs.Str.{bytes_eq}
use Rattle.fp_base.specs.Same.{same_text}
use Rattle.fp_base.specs.declared.value.Value.{Value}
use Rattle.fp_base.proofs.Bools.{both, join}
use Rattle.fp_tables.specs.Arguments.{Scope, nothing_bound, with_bound, formals_bound, kinds_of, is_one_kind, argument_suits, arguments_suit}
use Rattle.fp_tables.specs.Types.{has_kind, have_kinds, Leads}
use Rattle.fp_tables.specs.declared.kind.Formal.{Formal}
use Rattle.fp_tables.specs.declared.kind.Kind.{Kind}
use Rattle.fp_tables.specs.declared.kind.TypeDef.{TypeDef}
use Rattle.fp_tables.specs.declared.program.Arg.{Arg}
use Rattle.fp_tables.specs.declared.program.Arg.TheVariants.{Given, Bound}
use Rattle.fp_events.specs.Actor.{Bindings}
use Rattle.fp_events.specs.Due.{value_of, values, first_value}
use Rattle.fp_events.specs.Lookup.{names}
use Rattle.fp_base.proofs.Options.{same_some}
use Rattle.fp_run_laws.specs.Suits.{BoundSuits}
use Rattle.fp_tables.proofs.Aliases.{one_kind}
use Rattle.fp_tables.proofs.Optional.{some_and_of}

pub same_bytes : (xs ys : List ℕ) → same_text xs ys ≡ bytes_eq xs ys
same_bytes [] [] = refl
same_bytes [] (y ∷ ys) = refl
same_bytes (x ∷ xs) [] = refl
same_bytes (x ∷ xs) (y ∷ ys) = ap (λ (b : Bool). (x == y) && b) (same_bytes xs ys)

module _ (types : List TypeDef) where
  pub nothing_suits : (bound : Bindings) → BoundSuits types nothing_bound bound
  nothing_suits bound name k h = absurd (cc)

  pub one_more_suits : (given : List ℕ) (j : Kind) (v : Value) (scope : Scope) (bound : Bindings) → has_kind types j v ≡ true → BoundSuits types scope bound → BoundSuits types (with_bound given j scope) ((given, v) ∷ bound)
  one_more_suits given j v scope bound is suits name k h = go (bytes_eq given name) (same_bytes given name) h (suits name k)
    where
      go : (b : Bool) → same_text given name ≡ b → cond b (Some j) (scope name) ≡ Some k → (scope name ≡ Some k → has_kind types k (value_of bound (Bound name)) ≡ true)
          → has_kind types k (value_of ((given, v) ∷ bound) (Bound name)) ≡ true
      go true e h rest = rw e (ap (λ (q : Kind). has_kind types q v) (sym (same_some h)) ∙ is)
      go false e h rest = rw e (rest h)

  -- formals with values of their kinds
  pub formals_suit : (fs : List Formal) (vs : List Value) → have_kinds types (kinds_of fs) vs ≡ true → BoundSuits types (formals_bound fs) (zip (names fs) vs)
  formals_suit [] vs h name k e = absurd (cc)
  formals_suit (f ∷ fs) [] h name k e = absurd (cc)
  formals_suit (f ∷ fs) (v ∷ vs) h name k e =
      let b = both (has_kind types f.kind v) (have_kinds types (kinds_of fs) vs) h in
      go (bytes_eq f.name name) (same_bytes f.name name) e b.0 (formals_suit fs vs b.1 name k)
    where
      go : (b : Bool) → same_text f.name name ≡ b → option_map (λ (f : Formal). f.kind) (cond b (Some f) (find (λ (f : Formal). bytes_eq f.name name) fs)) ≡ Some k → has_kind types f.kind v ≡ true
          → (formals_bound fs name ≡ Some k → has_kind types k (value_of (zip (names fs) vs) (Bound name)) ≡ true)
          → has_kind types k (value_of (zip (names (f ∷ fs)) (v ∷ vs)) (Bound name)) ≡ true
      go true e h is rest = rw e (ap (λ (q : Kind). has_kind types q v) (sym (same_some h)) ∙ is)
      go false e h is rest = rw e (rest h)

  -- ---- arguments

  module _ (none : (i : ℕ) → Leads types i i → ⊥) where
    pub argument_kind : (scope : Scope) (bound : Bindings) (k : Kind) (a : Arg) → BoundSuits types scope bound → argument_suits types scope k a ≡ true → has_kind types k (value_of bound a) ≡ true
    argument_kind scope bound k (Given v) suits h = h
    argument_kind scope bound k (Bound name) suits h =
        let s = some_and_of (λ j. is_one_kind types j k) (scope name) h in
        one_kind types none s.0 k (value_of bound (Bound name)) s.2 (suits name s.0 s.1)

    pub arguments_kinds : (scope : Scope) (bound : Bindings) (ks : List Kind) (args : List Arg) → BoundSuits types scope bound → arguments_suit types scope ks args ≡ true → have_kinds types ks (values bound args) ≡ true
    arguments_kinds scope bound [] [] suits h = refl
    arguments_kinds scope bound [] (a ∷ rest) suits h = absurd (cc)
    arguments_kinds scope bound (k ∷ ks) [] suits h = absurd (cc)
    arguments_kinds scope bound (k ∷ ks) (a ∷ rest) suits h =
        let b = both (argument_suits types scope k a) (arguments_suit types scope ks rest) h in
        join (has_kind types k (value_of bound a)) (have_kinds types ks (values bound rest))
        (argument_kind scope bound k a suits b.0) (arguments_kinds scope bound ks rest suits b.1)

    pub one_value : (scope : Scope) (bound : Bindings) (k : Kind) (args : List Arg) → BoundSuits types scope bound → arguments_suit types scope (k ∷ []) args ≡ true → has_kind types k (first_value (values bound args)) ≡ true
    one_value scope bound k [] suits h = absurd (cc)
    one_value scope bound k (a ∷ rest) suits h = argument_kind scope bound k a suits (both (argument_suits types scope k a) (arguments_suit types scope [] rest) h).0
