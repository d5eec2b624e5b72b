-- The steps of a parser that reads in steps.
use Rattle.std.proofs.Common.{◌≡◌, ℕ, ◌<◌, length, List, [], ◌∷◌, ◌++◌, ◌⊎◌, drop, refl, sym, ◌∙◌, ap, subst, inl, inr, arith, append_assoc, append-nil, length-append}
use Rattle.fp_grammar.specs.Grammar.{Grammar, Spells}
use Rattle.fp_grammar.specs.Sets.{nullable, productive, first}
use Rattle.std.specs.Prelude.{Result, Ok, Err}
use Rattle.fp_base.proofs.Bools.{never_true}
use Rattle.fp_grammar.specs.declared.halt.Halt.{Halt}
use Rattle.fp_grammar.specs.declared.halt.Halt.TheVariants.{Unexpected, NoMemory}
use Rattle.fp_grammar.specs.Parses.{Accepts, Refuses, Parses}
use Rattle.fp_grammar.proofs.Cutting.{Agrees, cut_stuck, cut_none}
use Rattle.fp_grammar.proofs.Walk.{Reached, Agrees-append, Agrees-cons, Agrees-none, begin, done, stop}
use Rattle.fp_grammar.specs.Steps.{Next, Steps, SpellsFrom, Driven, from_state}
use Rattle.fp_grammar.specs.Steps.Next.{on, ends}
use Rattle.fp_grammar.specs.Steps.SpellsFrom.{last, more}
use Rattle.fp_grammar.proofs.StepsGood.{piece_good, begins, same_piece, same_state, not_both, from_fits}

module _ {T S Y X : Type 0} {kind : T → ℕ} {steps : Steps T S Y X} {over : List ℕ} (d : Driven kind steps over) {tokens : List T} where
  -- an accepted piece is the first of each spelling that agrees with the tokens: of one that ends with it
  ends_alone : {s : S} {mid to : ℕ} {y : Y} (p : Accepts kind (steps.piece s) tokens mid y to) (z w : List T) (y' : Y) → Agrees z (drop to tokens) → w ≡ p.w ++ z → Spells kind (steps.piece s) w y' → y ≡ y'
  ends_alone {s = s} {to = to} {y = y} p z w y' agrees f h =
      let c = cut_stuck (Spells kind (steps.piece s)) (nullable (steps.piece s)) (productive (steps.piece s)) (first (steps.piece s)) over (piece_good d s) (first (steps.piece s)) (d.apart s) p.w z w [] (drop to tokens) y y' p.spelled p.stuck agrees h (λ t l e. cc) (sym f ∙ sym (append-nil w)) in
      same_piece d s p.w w y y' p.spelled h c.0

  -- and of one that goes on
  goes_on : {s : S} {mid to : ℕ} {y : Y} (p : Accepts kind (steps.piece s) tokens mid y to) (z w u v : List T) (s' : S) (y' : Y) (x : X) → Agrees z (drop to tokens) → w ≡ p.w ++ z → w ≡ u ++ v → Spells kind (steps.piece s) u y' → SpellsFrom kind steps s' v x → (y ≡ y') × (z ≡ v)
  goes_on {s = s} {to = to} {y = y} p z w u v s' y' x agrees f g h m =
      let c = cut_stuck (Spells kind (steps.piece s)) (nullable (steps.piece s)) (productive (steps.piece s)) (first (steps.piece s)) over (piece_good d s) (first (steps.piece s')) (d.apart s') p.w z u v (drop to tokens) y y' p.spelled p.stuck agrees h (λ t l e. begins d s' v x m t l e) (sym f ∙ g) in
      (same_piece d s p.w u y y' p.spelled h c.0, c.1)

  -- past a piece that others follow
  pub step_on : {Z : Type 0} {g : Grammar T Z} {k : X → Z} {s s' : S} {y : Y} {from mid to : ℕ} → Reached kind g (from_state kind steps over s) k tokens from mid → Accepts kind (steps.piece s) tokens mid y to → steps.leads s y ≡ on s' → Reached kind g (from_state kind steps over s') k tokens from to
  step_on {Z = Z} {g = g} {k = k} {s = s} {s' = s'} {y = y} {to = to} r p e = record {
    fits = from_fits d s';
    w = r.w ++ p.w;
    place = omega (arith, length-append r.w p.w, r.place, p.place);
    splits = r.splits ∙ ap (λ z. r.w ++ z) p.splits ∙ sym (append_assoc r.w p.w (drop to tokens));
    forward = λ z x m. subst (λ v. Spells kind g v (k x)) (sym (append_assoc r.w p.w z)) (r.forward (p.w ++ z) x (more s s' (p.w ++ z) p.w z y x refl p.spelled e m));
    back = back;
  }
    where
      invert : (z w : List T) (x : X) → Agrees z (drop to tokens) → w ≡ p.w ++ z → SpellsFrom kind steps s w x → SpellsFrom kind steps s' z x
      invert z w x agrees f (last _ _ y' _ h e') = absurd (not_both s' x (sym e ∙ ap (λ i. steps.leads s i) (ends_alone p z w y' agrees f h) ∙ e'))
      invert z w x agrees f (more _ s2 _ u v y' _ i h e' m) =
          let c = goes_on p z w u v s2 y' x agrees f i h m in
          let j = same_state s' s2 (sym e ∙ ap (λ i. steps.leads s i) c.0 ∙ e') in
          subst (λ q. SpellsFrom kind steps q z x) (sym j) (subst (λ l. SpellsFrom kind steps s2 l x) (sym c.1) m)

      back : (z : List T) (v : Z) → Agrees z (drop to tokens) → Spells kind g ((r.w ++ p.w) ++ z) v → (x : X) × (v ≡ k x) × SpellsFrom kind steps s' z x
      back z v agrees m =
          let q = r.back (p.w ++ z) v (subst (λ l. Agrees (p.w ++ z) l) (sym p.splits) (Agrees-append p.w z (drop to tokens) agrees)) (subst (λ l. Spells kind g l v) (append_assoc r.w p.w z) m) in
          (q.0, q.1, invert z (p.w ++ z) q.0 agrees refl q.2)

  -- a piece takes tokens
  pub reads : {s : S} {mid to : ℕ} {y : Y} → Accepts kind (steps.piece s) tokens mid y to → length (drop to tokens) < length (drop mid tokens)
  reads {s = s} {mid = mid} {to = to} {y = y} p = go p.w p.splits p.spelled
    where
      go : (w : List T) → drop mid tokens ≡ w ++ drop to tokens → Spells kind (steps.piece s) w y → length (drop to tokens) < length (drop mid tokens)
      go [] e h = absurd (never_true (nullable (steps.piece s)) (d.filled s) ((piece_good d s).empty y h))
      go (t ∷ w) e h = omega (arith, ap length e, length-append (t ∷ w) (drop to tokens))

  -- the last piece
  pub step_ends : {s : S} {y : Y} {x : X} {mid to : ℕ} → Accepts kind (steps.piece s) tokens mid y to → steps.leads s y ≡ ends x → Accepts kind (from_state kind steps over s) tokens mid x to
  step_ends {s = s} {y = y} {x = x} {to = to} p e = record {
    w = p.w;
    place = p.place;
    splits = p.splits;
    spelled = last s p.w y x p.spelled e;
    stuck = λ t r m x' f i. go t r m (p.w ++ t ∷ m) x' f refl i;
  }
    where
      go : (t : T) (r m w : List T) (x' : X) → drop to tokens ≡ t ∷ r → w ≡ p.w ++ t ∷ m → SpellsFrom kind steps s w x' → ⊥
      go t r m w x' f g (last _ _ y' _ h e') = p.stuck t r m y' f (subst (λ l. Spells kind (steps.piece s) l y') g h)
      go t r m w x' f g (more _ s2 _ u v y' _ i h e' n) =
          let c = goes_on p (t ∷ m) w u v s2 y' x' (Agrees-cons t r m (drop to tokens) f) g i h n in
          not_both s2 x (sym e' ∙ ap (λ i. steps.leads s i) (sym c.0) ∙ e)

  -- a piece was refused
  pub step_stop : {s : S} {mid to : ℕ} → Refuses kind (steps.piece s) tokens mid to → Refuses kind (from_state kind steps over s) tokens mid to
  step_stop {s = s} {to = to} p = record {
    w = p.w;
    place = p.place;
    splits = p.splits;
    viable = viable p.viable;
    none = λ x i. cut p.w [] x (sym (append-nil p.w)) (Agrees-none (drop to tokens)) (λ y h. p.none y h) i;
    stuck = λ t r m x f i. cut (p.w ++ t ∷ m) (t ∷ m) x refl (Agrees-cons t r m (drop to tokens) f) (λ y h. p.stuck t r m y f h) i;
  }
    where
      after : (m : List T) (y : Y) → Spells kind (steps.piece s) (p.w ++ m) y → (n : Next S X) → steps.leads s y ≡ n → (l : List T) × (x : X) × SpellsFrom kind steps s (p.w ++ l) x
      after m y h (ends x) e = (m, x, last s (p.w ++ m) y x h e)
      after m y h (on s') e =
          let q = d.spelling s' in
          (m ++ q.0, q.1, more s s' (p.w ++ (m ++ q.0)) (p.w ++ m) q.0 y q.1 (sym (append_assoc p.w m q.0)) h e q.2)

      viable : ((p.w ≡ []) ⊎ ((m : List T) × (y : Y) × Spells kind (steps.piece s) (p.w ++ m) y)) → (p.w ≡ []) ⊎ ((m : List T) × (x : X) × SpellsFrom kind steps s (p.w ++ m) x)
      viable (inl e) = inl e
      viable (inr (m, y, h)) = inr (after m y h (steps.leads s y) refl)

      cut : (w z : List T) (x : X) → w ≡ p.w ++ z → Agrees z (drop to tokens) → ((y : Y) → Spells kind (steps.piece s) w y → ⊥) → SpellsFrom kind steps s w x → ⊥
      cut w z x f agrees whole (last _ _ y _ h e) = whole y h
      cut w z x f agrees whole (more _ s' _ u v y _ i h e m) =
          cut_none (Spells kind (steps.piece s)) (nullable (steps.piece s)) (productive (steps.piece s)) (first (steps.piece s)) over (piece_good d s) (first (steps.piece s')) (d.apart s') p.w z u v (drop to tokens) y p.viable p.none p.stuck agrees h (λ t l e. begins d s' v x m t l e) (sym f ∙ i)

  -- what is left answers for the whole
  pub parses_on : {s s' : S} {y : Y} {from mid : ℕ} → Accepts kind (steps.piece s) tokens from y mid → steps.leads s y ≡ on s' → (answer : Result (X × ℕ) Halt) → Parses kind (from_state kind steps over s') tokens mid answer → Parses kind (from_state kind steps over s) tokens from answer
  parses_on {s = s} {from = from} p e (Ok (x, to)) q = done (step_on (begin tokens from (from_fits d s)) p e) q
  parses_on {s = s} {from = from} p e (Err (Unexpected to)) q = stop (step_on (begin tokens from (from_fits d s)) p e) q
  parses_on p e (Err NoMemory) q = tt
