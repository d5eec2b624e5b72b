-- What is behind a choice, from what is behind its branches.
use Rattle.std.proofs.Common.{◌≡◌, ℕ, zero, suc, ◌<◌, ◌≤◌, Bool, true, false, ◌&&◌, ◌||◌, max, min, leb, List, [], ◌∷◌, ◌++◌, Option, None, Some, option_map, slice_get, refl, sym, ap, ap₂, subst, ◌∙◌, arith}
use Rattle.std.proofs.lemmas.Bool.Decides.{nat_tests}
use Rattle.fp_tables.specs.Machines.{node_at, either_branch, reached_at, reached, begins_choices, guard_is_given, actions_are_given, choice_is_given, behind_is_given}
use Rattle.fp_sound_machines.specs.Wanted.{meets}
use Rattle.fp_sound_machines.specs.Behind.{join_spans, span, IsBehind, nothing_behind, found_at, open_target, open_branch, either, found_behind, found_count, AreBehind}
use Rattle.fp_tables.specs.declared.kind.Kind.{Kind}
use Rattle.fp_tables.specs.declared.kind.TypeDef.{TypeDef}
use Rattle.fp_tables.specs.declared.machine.Step.{Step}
use Rattle.fp_tables.specs.declared.machine.On.{On}
use Rattle.fp_tables.specs.declared.machine.Node.{Node}
use Rattle.fp_tables.specs.declared.machine.Node.TheVariants as node
use Rattle.fp_tables.specs.declared.machine.Vertex.{Vertex}
use Rattle.fp_tables.specs.declared.machine.Machine.{Machine}
use Rattle.fp_sound_machines.specs.declared.wanted.Wanted.TheVariants.{Nothing}
use Rattle.fp_sound_machines.specs.declared.choices.Behind.{Behind}

-- ---- spans of lists

spans_regroup : (p q r : Option (ℕ × ℕ)) → join_spans p (join_spans q r) ≡ join_spans (join_spans p q) r
spans_regroup None q r = refl
spans_regroup (Some p) None r = refl
spans_regroup (Some p) (Some q) None = refl
spans_regroup (Some p) (Some q) (Some r) =
    let least : min p.0 (min q.0 r.0) ≡ min (min p.0 q.0) r.0 = omega arith in
    let most : max p.1 (max q.1 r.1) ≡ max (max p.1 q.1) r.1 = omega arith in
    ap Some (λ i. (least i, most i))

span_append : (ms ns : List ℕ) → span (ms ++ ns) ≡ join_spans (span ms) (span ns)
span_append [] ns = refl
span_append (m ∷ ms) ns = ap (join_spans (Some (m, m))) (span_append ms ns) ∙ spans_regroup (Some (m, m)) (span ms) (span ns)

-- ---- steps

none_below : (n : ℕ) → false ≡ leb (suc n) 0
none_below n = grind (arith, nat_tests)

module _ (vs : List Vertex) where
  pub begins_step : (n v : ℕ) → begins_choices vs (suc n) (Some v) ≡ either_branch (begins_choices vs n) (node_at vs v)
  unfolding begins_choices
  begins_step n v = refl

  pub begins_zero : (t : Option ℕ) → begins_choices vs 0 t ≡ true
  unfolding begins_choices
  begins_zero t = refl

  pub begins_none : (n : ℕ) → begins_choices vs n None ≡ leb n 0
  unfolding begins_choices
  begins_none zero = refl
  begins_none (suc n) = none_below n

  reached_none : (n : ℕ) → reached vs n None ≡ []
  unfolding reached
  reached_none zero = refl
  reached_none (suc n) = refl

  pub reached_step : (n v : ℕ) → reached vs (suc n) (Some v) ≡ reached_at (reached vs n) v (node_at vs v)
  unfolding reached
  reached_step n v = refl

module _ (types : List TypeDef) (m : Machine) where
  given_none : (given : Option Kind) (n : ℕ) → behind_is_given types m given n None ≡ true
  unfolding behind_is_given
  given_none given zero = refl
  given_none given (suc n) = refl

  given_step : (given : Option Kind) (n v : ℕ) → behind_is_given types m given (suc n) (Some v) ≡ choice_is_given types m given (behind_is_given types m given n) (node_at m.vertices v)
  unfolding behind_is_given
  given_step given n v = refl

  none_behind : IsBehind types m None nothing_behind
  none_behind = record {
    choices = begins_none m.vertices;
    states = λ n lt. ap span (reached_none m.vertices n);
    wanted = λ given n lt. given_none given n;
  }

  -- a target that isn't a choice
  leaf_behind : (v : ℕ) (o : Option Node) (s : Option (ℕ × ℕ)) → node_at m.vertices v ≡ o → ((f : Option ℕ → Bool) → either_branch f o ≡ false) → ((f : Option ℕ → List ℕ) → span (reached_at f v o) ≡ s) →
      ((given : Option Kind) (f : Option ℕ → Bool) → choice_is_given types m given f o ≡ true) → IsBehind types m (Some v) (record { choices = 0; states = s; wanted = Nothing })
  leaf_behind v o s e no_branch states given_all = record {
    choices = of_choices;
    states = of_states;
    wanted = of_wanted;
  }
    where
      of_choices : (n : ℕ) → begins_choices m.vertices n (Some v) ≡ leb n 0
      of_choices zero = begins_zero m.vertices (Some v)
      of_choices (suc n) = begins_step m.vertices n v ∙ ap (either_branch (begins_choices m.vertices n)) e ∙ no_branch (begins_choices m.vertices n) ∙ none_below n

      of_states : (n : ℕ) → 0 < n → span (reached m.vertices n (Some v)) ≡ s
      of_states zero lt = absurd (omega arith)
      of_states (suc n) lt = ap span (reached_step m.vertices n v ∙ ap (reached_at (reached m.vertices n) v) e) ∙ states (reached m.vertices n)

      of_wanted : (given : Option Kind) (n : ℕ) → 0 < n → behind_is_given types m given n (Some v) ≡ true
      of_wanted given zero lt = absurd (omega arith)
      of_wanted given (suc n) lt = given_step given n v ∙ ap (choice_is_given types m given (behind_is_given types m given n)) e ∙ given_all given (behind_is_given types m given n)

  state_behind : (v : ℕ) (initial : Option Step) (entry exit : List ℕ) (on : List On) → node_at m.vertices v ≡ Some (node.State initial entry exit on) →
      IsBehind types m (Some v) (record { choices = 0; states = Some (v, v); wanted = Nothing })
  state_behind v initial entry exit on e = leaf_behind v (Some (node.State initial entry exit on)) (Some (v, v)) e (λ f. refl) (λ f. refl) (λ given f. refl)

  absent_behind : (v : ℕ) → node_at m.vertices v ≡ None → IsBehind types m (Some v) nothing_behind
  absent_behind v e = leaf_behind v None None e (λ f. refl) (λ f. refl) (λ given f. refl)

  -- ---- a choice

  either_below : (n a b : ℕ) → (leb n a || leb n b) ≡ leb (suc n) (suc (max a b))
  either_below n a b = grind (arith, nat_tests)

  zero_below : (n : ℕ) → true ≡ leb 0 n
  zero_below n = grind (arith, nat_tests)

  module _ (v guard : ℕ) (met unmet : Step) (e : node_at m.vertices v ≡ Some (node.Choice guard met unmet)) (l r b : Behind) where
    abbrev pub is_wanted : Type 0
    is_wanted =
        (given : Option Kind) → meets types given b.wanted
        ≡ (guard_is_given types m given guard && actions_are_given types m given met.actions && meets types given l.wanted && actions_are_given types m given unmet.actions && meets types given r.wanted)

    pub choice_behind : IsBehind types m met.target l → IsBehind types m unmet.target r → b.choices ≡ suc (max l.choices r.choices) → b.states ≡ join_spans l.states r.states → is_wanted →
        IsBehind types m (Some v) b
    choice_behind left right longest joined wanted = record {
      choices = of_choices;
      states = of_states;
      wanted = of_wanted;
    }
      where
        of_choices : (n : ℕ) → begins_choices m.vertices n (Some v) ≡ leb n b.choices
        of_choices zero = begins_zero m.vertices (Some v) ∙ zero_below b.choices
        of_choices (suc n) =
            begins_step m.vertices n v ∙ ap (either_branch (begins_choices m.vertices n)) e ∙ ap₂ (λ (x y : Bool). x || y) (left.choices n) (right.choices n)
            ∙ either_below n l.choices r.choices ∙ ap (leb (suc n)) (sym longest)

        of_states : (n : ℕ) → b.choices < n → span (reached m.vertices n (Some v)) ≡ b.states
        of_states zero lt = absurd (omega arith)
        of_states (suc n) lt =
            let long = longest in
            ap span (reached_step m.vertices n v ∙ ap (reached_at (reached m.vertices n) v) e) ∙ span_append (reached m.vertices n met.target) (reached m.vertices n unmet.target)
            ∙ ap₂ join_spans (left.states n (omega (arith, long))) (right.states n (omega (arith, long))) ∙ sym joined

        of_wanted : (given : Option Kind) (n : ℕ) → b.choices < n → behind_is_given types m given n (Some v) ≡ meets types given b.wanted
        of_wanted given zero lt = absurd (omega arith)
        of_wanted given (suc n) lt =
            let long = longest in
            let first = left.wanted given n (omega (arith, long)) in
            let second = right.wanted given n (omega (arith, long)) in
            given_step given n v ∙ ap (choice_is_given types m given (behind_is_given types m given n)) e
            ∙ ap₂ (λ (x y : Bool). guard_is_given types m given guard && actions_are_given types m given met.actions && x && actions_are_given types m given unmet.actions && y) first second
            ∙ sym (wanted given)

  -- ---- what was found behind a target

  module _ (found : List (Option Behind)) where
    abbrev vs : List Vertex
    vs = m.vertices

    at_absent : (v : ℕ) → node_at vs v ≡ None → found_behind vs found (Some v) ≡ nothing_behind
    at_absent v e = rw e refl

    at_state : (v : ℕ) (initial : Option Step) (entry exit : List ℕ) (on : List On) → node_at vs v ≡ Some (node.State initial entry exit on) →
        found_behind vs found (Some v) ≡ record { choices = 0; states = Some (v, v); wanted = Nothing }
    at_state v initial entry exit on e = rw e refl

    at_choice : (v guard : ℕ) (met unmet : Step) (b : Behind) → node_at vs v ≡ Some (node.Choice guard met unmet) → found_at found v ≡ Some b → found_behind vs found (Some v) ≡ b
    at_choice v guard met unmet b e f = rw (e, f) refl

    at_open : (v guard : ℕ) (met unmet : Step) → node_at vs v ≡ Some (node.Choice guard met unmet) → found_at found v ≡ None → open_target vs found (Some v) ≡ Some v
    at_open v guard met unmet e f = rw (e, f) refl

    abbrev IsGood : Option ℕ → Behind → Type 0
    IsGood t b = IsBehind types m t b × (b.choices ≤ found_count found)

    module _ (known : AreBehind types m found) where
      good_choice : (v guard : ℕ) (met unmet : Step) → node_at vs v ≡ Some (node.Choice guard met unmet) → open_target vs found (Some v) ≡ None → (o : Option Behind) → found_at found v ≡ o →
          IsGood (Some v) (found_behind vs found (Some v))
      good_choice v guard met unmet e closed None f = let here = at_open v guard met unmet e f in absurd (cc)
      good_choice v guard met unmet e closed (Some b) f = subst (IsGood (Some v)) (sym (at_choice v guard met unmet b e f)) (known.right v b f, known.bounded v b f)

      good_node : (v : ℕ) → open_target vs found (Some v) ≡ None → (o : Option Node) → node_at vs v ≡ o → IsGood (Some v) (found_behind vs found (Some v))
      good_node v closed None e = subst (IsGood (Some v)) (sym (at_absent v e)) (absent_behind v e, omega arith)
      good_node v closed (Some (node.State initial entry exit on)) e =
          subst (IsGood (Some v)) (sym (at_state v initial entry exit on e)) (state_behind v initial entry exit on e, omega arith)
      good_node v closed (Some (node.Choice guard met unmet)) e = good_choice v guard met unmet e closed (found_at found v) refl

      pub closed_behind : (t : Option ℕ) → open_target vs found t ≡ None → IsGood t (found_behind vs found t)
      closed_behind None closed = (none_behind, omega arith)
      closed_behind (Some v) closed = good_node v closed (node_at vs v) refl

either_none : (p q : Option ℕ) → either p q ≡ None → (p ≡ None) × (q ≡ None)
either_none None q h = (refl, h)
either_none (Some p) q h = absurd (cc)

pub closed_branches : (vs : List Vertex) (found : List (Option Behind)) (v guard : ℕ) (met unmet : Step) → node_at vs v ≡ Some (node.Choice guard met unmet) → open_branch vs found v ≡ None →
    (open_target vs found met.target ≡ None) × (open_target vs found unmet.target ≡ None)
closed_branches vs found v guard met unmet e closed =
    let opened : open_branch vs found v ≡ either (open_target vs found met.target) (open_target vs found unmet.target) = rw e refl in
    either_none _ _ (sym opened ∙ closed)

-- what was found behind the two branches of a choice
pub record HasBranches (types : List TypeDef) (m : Machine) (found : List (Option Behind)) (v guard : ℕ) (met unmet : Step) (l r : Behind) : Type 0 where
  pub at : node_at m.vertices v ≡ Some (node.Choice guard met unmet)
  pub left : IsBehind types m met.target l
  pub right : IsBehind types m unmet.target r
  pub left_bound : l.choices ≤ found_count found
  pub right_bound : r.choices ≤ found_count found

pub has_branches : (types : List TypeDef) (m : Machine) (found : List (Option Behind)) (v guard : ℕ) (met unmet : Step) (l r : Behind) (x : Vertex) → AreBehind types m found → Some x ≡ slice_get m.vertices v →
    x.node ≡ node.Choice guard met unmet → open_branch m.vertices found v ≡ None → l ≡ found_behind m.vertices found met.target → r ≡ found_behind m.vertices found unmet.target →
    HasBranches types m found v guard met unmet l r
has_branches types m found v guard met unmet l r x known got is closed lis ris =
    let at : node_at m.vertices v ≡ Some (node.Choice guard met unmet) = ap (option_map (λ (y : Vertex). y.node)) (sym got) ∙ ap Some is in
    let none = closed_branches m.vertices found v guard met unmet at closed in
    let left = closed_behind types m found known met.target none.0 in
    let right = closed_behind types m found known unmet.target none.1 in
    record {
      at = at;
      left = subst (IsBehind types m met.target) (sym lis) left.0;
      right = subst (IsBehind types m unmet.target) (sym ris) right.0;
      left_bound = subst (λ (b : Behind). b.choices ≤ found_count found) (sym lis) left.1;
      right_bound = subst (λ (b : Behind). b.choices ≤ found_count found) (sym ris) right.1;
    }
