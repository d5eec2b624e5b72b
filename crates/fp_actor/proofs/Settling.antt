-- What the first action from a place on is to the lists that are left from there.
use Rattle.std.proofs.Common.{◌≡◌, ℕ, suc, ◌+◌, ◌≤◌, ◌<◌, Bool, true, false, cond, eqb, List, [], ◌∷◌, ◌++◌, drop, Option, Some, None, option_map, unwrap_or, refl, sym, ap, ◌∙◌, subst, arith, add-one}
use Rattle.std.specs.List.{slice_get}
use Rattle.std.proofs.lemmas.Bool.Decides.{nat_tests}
use Rattle.fp_base.proofs.Lists.{drop_next, drop_past, drop_head}
use Rattle.fp_base.proofs.Numbers.{number_itself}
use Rattle.fp_events.specs.Actor.{Action, Bindings, Doing}
use Rattle.fp_events.specs.Due.{first_action}
use Rattle.fp_events.specs.Follows.{without_first}
use Rattle.fp_actor.specs.Levels.{reached, begun}

pub begun_nothing : (ds : List Doing) → begun 0 [] ds ≡ ds
begun_nothing [] = refl
begun_nothing (d ∷ ds) = refl

is_other : (k m : ℕ) → k < m → eqb m k ≡ false
is_other k m h = grind (arith, nat_tests)

cond_same : (b : Bool) → cond {A = Bindings} b [] [] ≡ []
cond_same true = refl
cond_same false = refl

-- a list whose actions are through is passed over
passed_first : (d : Doing) (actions : List Action) (bound : Bindings) (ds : List Doing) → actions ≡ [] → first_action (record { actions = actions; bound = bound } ∷ ds) ≡ first_action ds
passed_first d actions bound ds e = ap (λ (l : List Action). first_action (record { actions = l; bound = bound } ∷ ds)) e

passed_rest : (d : Doing) (actions : List Action) (bound : Bindings) (ds : List Doing) → actions ≡ [] → without_first (record { actions = actions; bound = bound } ∷ ds) ≡ without_first ds
passed_rest d actions bound ds e = ap (λ (l : List Action). without_first (record { actions = l; bound = bound } ∷ ds)) e

same_triple : (p q : ℕ × ℕ × Action) → Some p ≡ Some q → p ≡ q
same_triple p q e = cc

reached_from : (ds : List Doing) (k a m b : ℕ) (x : Action) → reached ds k a ≡ Some (m, b, x) → k ≤ m
reached_from [] k a m b x e = absurd (cc)
reached_from (d ∷ ds) k a m b x e = go (reached_from ds (suc k) 0 m b x) (slice_get d.actions a) e
  where
    go : (reached ds (suc k) 0 ≡ Some (m, b, x) → suc k ≤ m) → (o : Option Action) → unwrap_or (option_map (λ (y : Action). Some (k, a, y)) o) (reached ds (suc k) 0) ≡ Some (m, b, x) → k ≤ m
    go later None e = let h : suc k ≤ m = later e in omega arith
    go later (Some y) e = let s : k ≡ m = ap (λ (r : ℕ × ℕ × Action). r.0) (same_triple (k, a, y) (m, b, x) e) in omega arith

-- where no action is left nothing of it counts
pub spent : (ds old : List Doing) (k a : ℕ) (more : Bindings) → reached ds k a ≡ None →
    (first_action (begun a more ds ++ old) ≡ first_action old) × (without_first (begun a more ds ++ old) ≡ without_first old)
spent [] old k a more e = (refl, refl)
spent (d ∷ ds) old k a more e = go (spent ds old (suc k) 0 []) (slice_get d.actions a) refl e
  where
    go : (reached ds (suc k) 0 ≡ None → (first_action (begun 0 [] ds ++ old) ≡ first_action old) × (without_first (begun 0 [] ds ++ old) ≡ without_first old)) → (o : Option Action) → slice_get d.actions a ≡ o → unwrap_or (option_map (λ (y : Action). Some (k, a, y)) o) (reached ds (suc k) 0) ≡ None →
        (first_action (begun a more (d ∷ ds) ++ old) ≡ first_action old) × (without_first (begun a more (d ∷ ds) ++ old) ≡ without_first old)
    go later (Some y) h e = absurd (cc)
    go later None h e =
        let rest = later e in
        let plain : begun 0 [] ds ++ old ≡ ds ++ old = ap (λ (l : List Doing). l ++ old) (begun_nothing ds) in (
          passed_first d (drop a d.actions) (more ++ d.bound) (ds ++ old) (drop_past d.actions a h) ∙ ap first_action (sym plain) ∙ rest.0,
          passed_rest d (drop a d.actions) (more ++ d.bound) (ds ++ old) (drop_past d.actions a h) ∙ ap without_first (sym plain) ∙ rest.1,
        )

pub record Settled (lists old : List Doing) (k : ℕ) (more : Bindings) (m a : ℕ) (x : Action) (now : List Doing) : Type 0 where
  pub d : Doing
  pub there : slice_get lists m ≡ Some d
  pub action : slice_get d.actions a ≡ Some x
  pub first : first_action now ≡ Some (x, cond (eqb m k) more [] ++ d.bound)
  pub rest : without_first now ≡ begun (a + 1) (cond (eqb m k) more []) (drop m lists) ++ old

module _ (lists old : List Doing) (m b : ℕ) (x : Action) where
  at_head : (d : Doing) (ds : List Doing) (k a : ℕ) (more : Bindings) (y : Action) → drop k lists ≡ d ∷ ds → slice_get d.actions a ≡ Some y →
      Settled lists old k more k a y (begun a more (d ∷ ds) ++ old)
  at_head d ds k a more y h e =
      let opened = drop_next d.actions a y e in
      record {
        d = d;
        there = (drop_head lists k d ds h).0;
        action = e;
        first =
            rw (number_itself k) (ap (λ (l : List Action). first_action (record { actions = l; bound = more ++ d.bound } ∷ (ds ++ old))) opened);
        rest =
            rw (number_itself k, h, add-one)
            (ap (λ (l : List Action). without_first (record { actions = l; bound = more ++ d.bound } ∷ (ds ++ old))) opened);
      }

  further : (d : Doing) (ds : List Doing) (k a : ℕ) (more : Bindings) → k < m → slice_get d.actions a ≡ None → Settled lists old (suc k) [] m b x (begun 0 [] ds ++ old) →
      Settled lists old k more m b x (begun a more (d ∷ ds) ++ old)
  further d ds k a more lt e s =
      let plain : begun 0 [] ds ++ old ≡ ds ++ old = ap (λ (l : List Doing). l ++ old) (begun_nothing ds) in
      let none : cond (eqb m k) more [] ≡ [] = ap (λ (t : Bool). cond t more []) (is_other k m lt) in
      let same : cond {A = Bindings} (eqb m (suc k)) [] [] ≡ cond (eqb m k) more [] = cond_same (eqb m (suc k)) ∙ sym none in
      record {
        d = s.d;
        there = s.there;
        action = s.action;
        first =
            passed_first d (drop a d.actions) (more ++ d.bound) (ds ++ old) (drop_past d.actions a e) ∙ ap first_action (sym plain) ∙ s.first
            ∙ ap (λ (l : Bindings). Some (x, l ++ s.d.bound)) same;
        rest =
            passed_rest d (drop a d.actions) (more ++ d.bound) (ds ++ old) (drop_past d.actions a e) ∙ ap without_first (sym plain) ∙ s.rest
            ∙ ap (λ (l : Bindings). begun (b + 1) l (drop m lists) ++ old) same;
      }

  pub settle : (ds : List Doing) (k a : ℕ) (more : Bindings) → drop k lists ≡ ds → reached ds k a ≡ Some (m, b, x) → Settled lists old k more m b x (begun a more ds ++ old)
  settle [] k a more h e = absurd (cc)
  settle (d ∷ ds) k a more h e = go (settle ds (suc k) 0 []) (slice_get d.actions a) refl e
    where
      go : (drop (suc k) lists ≡ ds → reached ds (suc k) 0 ≡ Some (m, b, x) → Settled lists old (suc k) [] m b x (begun 0 [] ds ++ old)) → (o : Option Action) → slice_get d.actions a ≡ o → unwrap_or (option_map (λ (y : Action). Some (k, a, y)) o) (reached ds (suc k) 0) ≡ Some (m, b, x) →
          Settled lists old k more m b x (begun a more (d ∷ ds) ++ old)
      go later (Some y) f e =
          let same = same_triple (k, a, y) (m, b, x) e in
          let p : k ≡ m = ap (λ (r : ℕ × ℕ × Action). r.0) same in
          let q : a ≡ b = ap (λ (r : ℕ × ℕ × Action). r.1) same in
          let r : y ≡ x = ap (λ (r : ℕ × ℕ × Action). r.2) same in
          subst (λ z. Settled lists old k more m b z (begun a more (d ∷ ds) ++ old)) r
          (subst (λ z. Settled lists old k more m z y (begun a more (d ∷ ds) ++ old)) q
          (subst (λ z. Settled lists old k more z a y (begun a more (d ∷ ds) ++ old)) p (at_head d ds k a more y h f)))
      go later None f e =
          let above : suc k ≤ m = reached_from ds (suc k) 0 m b x e in
          let lt : k < m = omega arith in
          further d ds k a more lt f (later (sym (drop_head lists k d ds h).1) e)
