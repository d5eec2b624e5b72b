-- Steps of going through choices.
use Rattle.std.proofs.Common.{◌≡◌, ◌≢◌, ℕ, suc, ◌+◌, ◌-◌, ◌*◌, ◌<◌, ◌≤◌, Bool, true, false, cond, not, ◌&&◌, leb, List, [], ◌∷◌, ◌++◌, length, set, Option, None, Some, is_none, is_some, ◌⊎◌, inl, inr, refl, sym, ap, subst, ◌∙◌, arith, length-set}
use Rattle.std.proofs.lemmas.Bool.Decides.{nat_tests}
use Rattle.fp_tables.specs.Machines.{node_at, begins_choices, either_branch, has_no_ring}
use Rattle.fp_sound_machines.specs.Behind.{found_at, found_count, choice_at, is_open, open_target, open_branch, either, found_behind, IsBehind, AreBehind, AllBehind, is_branch, IsPath, Begins}
use Rattle.fp_tables.specs.declared.kind.TypeDef.{TypeDef}
use Rattle.fp_tables.specs.declared.machine.Node.{Node}
use Rattle.fp_tables.specs.declared.machine.Node.TheVariants as node
use Rattle.fp_tables.specs.declared.machine.Vertex.{Vertex}
use Rattle.fp_tables.specs.declared.machine.Machine.{Machine}
use Rattle.fp_tables.proofs.Indexed.{all_from_any}
use Rattle.fp_sound_machines.specs.declared.choices.Behind.{Behind}
use Rattle.fp_base.proofs.Bools.{both}
use Rattle.fp_base.proofs.Spots.{same_or_other}
use Rattle.fp_sound_machines.proofs.Branches.{begins_step, closed_behind}
use Rattle.fp_sound_machines.proofs.Chains.{choice_within}
use Rattle.fp_sound_machines.proofs.Found.{found_same, found_other, found_more, count_within}

module _ (vs : List Vertex) (found : List (Option Behind)) where
  -- ---- a branch that is open

  open_one : (t : Option ℕ) (w : ℕ) → open_target vs found t ≡ Some w → (t ≡ Some w) × (is_open vs found w ≡ true)
  open_one None w h = absurd (cc)
  open_one (Some v) w h = go (is_open vs found v) refl h
    where
      go : (b : Bool) → is_open vs found v ≡ b → cond b (Some v) None ≡ Some w → (Some v ≡ Some w) × (is_open vs found w ≡ true)
      go true e h = let same : v ≡ w = cc in (h, subst (λ (x : ℕ). is_open vs found x ≡ true) same e)
      go false e h = absurd (cc)

  open_either : (s t : Option ℕ) (w : ℕ) (p : Option ℕ) → open_target vs found s ≡ p → either p (open_target vs found t) ≡ Some w → ((s ≡ Some w) ⊎ (t ≡ Some w)) × (is_open vs found w ≡ true)
  open_either s t w None e h = let k = open_one t w h in (inr k.0, k.1)
  open_either s t w (Some p) e h = let k = open_one s w (e ∙ h) in (inl k.0, k.1)

  open_from : (v w : ℕ) (o : Option Node) → node_at vs v ≡ o → open_branch vs found v ≡ Some w → is_branch vs v w × (is_open vs found w ≡ true)
  open_from v w None e h = let none : None ≡ Some w = rw e at h in absurd (cc)
  open_from v w (Some (node.State initial entry exit on)) e h = let none : None ≡ Some w = rw e at h in absurd (cc)
  open_from v w (Some (node.Choice guard met unmet)) e h =
      let one : either (open_target vs found met.target) (open_target vs found unmet.target) ≡ Some w = rw e at h in
      let k = open_either met.target unmet.target w (open_target vs found met.target) refl one in
      (rw e k.0, k.1)

  pub branch_open : (v w : ℕ) → Some w ≡ open_branch vs found v → is_branch vs v w × (is_open vs found w ≡ true)
  branch_open v w h = open_from v w (node_at vs v) refl (sym h)

  -- ---- no branch that is open

  target_closed : (w : ℕ) → open_target vs found (Some w) ≡ None → is_open vs found w ≡ true → ⊥
  target_closed w h o = let no : Some w ≡ None = rw o at h in cc

  closed_from : (v w : ℕ) (o : Option Node) → node_at vs v ≡ o → is_branch vs v w → open_branch vs found v ≡ None → is_open vs found w ≡ true → ⊥
  closed_from v w None e h closed opened = let no : ⊥ = rw e at h in no
  closed_from v w (Some (node.State initial entry exit on)) e h closed opened = let no : ⊥ = rw e at h in no
  closed_from v w (Some (node.Choice guard met unmet)) e h closed opened =
      let none : either (open_target vs found met.target) (open_target vs found unmet.target) ≡ None = rw e at closed in
      let one : (met.target ≡ Some w) ⊎ (unmet.target ≡ Some w) = rw e at h in
      go (open_target vs found met.target) refl none one
    where
      go : (p : Option ℕ) → open_target vs found met.target ≡ p → either p (open_target vs found unmet.target) ≡ None → (met.target ≡ Some w) ⊎ (unmet.target ≡ Some w) → ⊥
      go (Some p) q none one = cc
      go None q none (inl t) = target_closed w (ap (open_target vs found) (sym t) ∙ q) opened
      go None q none (inr t) = target_closed w (ap (open_target vs found) (sym t) ∙ none) opened

  -- ---- a longer path

  pub path_longer : (path : List ℕ) (v w : ℕ) → IsPath vs found (path ++ v ∷ []) → is_branch vs v w → is_open vs found w ≡ true → IsPath vs found ((path ++ v ∷ []) ++ w ∷ [])
  path_longer [] v w h b o = (h, b, o)
  path_longer (x ∷ []) v w h b o = (h.0, h.1, path_longer [] v w h.2 b o)
  path_longer (x ∷ y ∷ path) v w h b o = (h.0, h.1, path_longer (y ∷ path) v w h.2 b o)

  pub begins_longer : (choice : ℕ) (path : List ℕ) (v w : ℕ) → Begins found choice (path ++ v ∷ []) → Begins found choice ((path ++ v ∷ []) ++ w ∷ [])
  begins_longer choice [] v w h = h
  begins_longer choice (x ∷ path) v w h = h

  pub last_open : (path : List ℕ) (v : ℕ) → IsPath vs found (path ++ v ∷ []) → is_open vs found v ≡ true
  last_open [] v h = h
  last_open (x ∷ []) v h = h.2
  last_open (x ∷ y ∷ path) v h = last_open (y ∷ path) v h.2

-- ---- something is found of the last choice of a path

module _ (vs : List Vertex) (found : List (Option Behind)) (t : ℕ) (b : Behind) (lt : t < length found) where
  abbrev after : List (Option Behind)
  after = set found t (Some b)

  here_found : found_at after t ≡ Some b
  here_found = found_same found t b lt

  still_open : (v : ℕ) → v ≢ t → is_open vs found v ≡ true → is_open vs after v ≡ true
  still_open v ne h = ap (λ (o : Option Behind). choice_at vs v && is_none o) (found_other found t b v ne) ∙ h

  other_than : (v w : ℕ) → is_branch vs v w → is_open vs found w ≡ true → open_branch vs found t ≡ None → v ≢ t
  other_than v w h o closed = λ e. closed_from vs found v w (node_at vs v) refl h (ap (open_branch vs found) e ∙ closed) o

  first_open : (v : ℕ) (path : List ℕ) → IsPath vs found (v ∷ path) → is_open vs found v ≡ true
  first_open v [] h = h
  first_open v (w ∷ path) h = h.0

  pub path_shorter : (path : List ℕ) → IsPath vs found (path ++ t ∷ []) → open_branch vs found t ≡ None → IsPath vs after path
  path_shorter [] h closed = tt
  path_shorter (v ∷ []) h closed = still_open v (other_than v t h.1 h.2 closed) h.0
  path_shorter (v ∷ w ∷ path) h closed =
      (still_open v (other_than v w h.1 (first_open w (path ++ t ∷ []) h.2) closed) h.0, h.1, path_shorter (w ∷ path) h.2 closed)

  pub begins_shorter : (choice : ℕ) (path : List ℕ) → Begins found choice (path ++ t ∷ []) → Begins after choice path
  begins_shorter choice [] h = ap (λ (o : Option Behind). is_some o) (ap (found_at after) (sym h) ∙ here_found)
  begins_shorter choice (v ∷ path) h = h

  pub still_found : (v : ℕ) → is_some (found_at found v) ≡ true → is_some (found_at after v) ≡ true
  still_found v h = elim (same_or_other v t) [
    | inl e ↦ ap (λ (o : Option Behind). is_some o) (ap (found_at after) e ∙ here_found)
    | inr ne ↦ ap (λ (o : Option Behind). is_some o) (found_other found t b v ne) ∙ h
  ]

  pub more_behind : (types : List TypeDef) (m : Machine) → AreBehind types m found → found_at found t ≡ None → IsBehind types m (Some t) b → b.choices ≤ found_count found + 1 → AreBehind types m after
  more_behind types m known none behind bound =
      let more = found_more found t b lt none in
      record {
        few = known.few;
        one_each = length-set found t (Some b) ∙ known.one_each;
        right = λ v c e. elim (same_or_other v t) [
          | inl s ↦ let same : b ≡ c = some_same b c (sym here_found ∙ ap (found_at after) (sym s) ∙ e) in subst (λ (x : ℕ). IsBehind types m (Some x) c) (sym s) (subst (IsBehind types m (Some t)) same behind)
          | inr ne ↦ known.right v c (sym (found_other found t b v ne) ∙ e)
        ];
        bounded = λ v c e. elim (same_or_other v t) [
          | inl s ↦ let same : b ≡ c = some_same b c (sym here_found ∙ ap (found_at after) (sym s) ∙ e) in let long : b.choices ≡ c.choices = ap (λ (x : Behind). x.choices) same in omega (arith, more, long, bound)
          | inr ne ↦ let few = known.bounded v c (sym (found_other found t b v ne) ∙ e) in omega (arith, more, few)
        ];
      }
    where
      some_same : (x y : Behind) → Some x ≡ Some y → x ≡ y
      some_same x y e = cc

-- ---- all choices were gone through

module _ (types : List TypeDef) (m : Machine) (found : List (Option Behind)) (known : AreBehind types m found) where
  abbrev vs : List Vertex
  vs = m.vertices

  too_long : (b : Behind) → b.choices ≤ found_count found → leb (suc (length vs)) b.choices ≡ false
  too_long b h =
      let within = count_within found in
      let each = known.one_each in
      let lt : b.choices < suc (length vs) = omega (arith, within, each, h) in
      grind (arith, nat_tests)

  none_begins : (v : ℕ) → is_open vs found v ≡ false → (o : Option Node) → node_at vs v ≡ o → begins_choices vs (suc (length vs)) (Some v) ≡ false
  none_begins v closed None e = begins_step vs (length vs) v ∙ ap (either_branch (begins_choices vs (length vs))) e
  none_begins v closed (Some (node.State initial entry exit on)) e = begins_step vs (length vs) v ∙ ap (either_branch (begins_choices vs (length vs))) e
  none_begins v closed (Some (node.Choice guard met unmet)) e = go (found_at found v) refl
    where
      go : (o : Option Behind) → found_at found v ≡ o → begins_choices vs (suc (length vs)) (Some v) ≡ false
      go None f = let opened : is_open vs found v ≡ true = rw (e, f) refl in absurd (cc)
      go (Some b) f = (known.right v b f).choices (suc (length vs)) ∙ too_long b (known.bounded v b f)

  pub no_ring : ((v : ℕ) → is_open vs found v ≡ false) → has_no_ring vs ≡ true
  no_ring closed =
      all_from_any (λ n (x : Vertex). not (begins_choices vs (suc (length vs)) (Some n))) 0 vs (λ k x. ap (λ (b : Bool). not b) (none_begins k (closed k) (node_at vs k) refl))

pub all_behind : (types : List TypeDef) (m : Machine) (found : List (Option Behind)) → AreBehind types m found → ((v : ℕ) → is_open m.vertices found v ≡ false) → AllBehind types m found
all_behind types m found known closed = record {
  no_ring = no_ring types m found known closed;
  states = λ t. let k = behind t in k.0.states (suc (length m.vertices)) (few t k.1);
  wanted = λ given t. let k = behind t in k.0.wanted given (suc (length m.vertices)) (few t k.1);
}
  where
    target_closed : (t : Option ℕ) → open_target m.vertices found t ≡ None
    target_closed None = refl
    target_closed (Some v) = rw (closed v) refl

    behind : (t : Option ℕ) → IsBehind types m t (found_behind m.vertices found t) × ((found_behind m.vertices found t).choices ≤ found_count found)
    behind t = closed_behind types m found known t (target_closed t)

    few : (t : Option ℕ) → (found_behind m.vertices found t).choices ≤ found_count found → (found_behind m.vertices found t).choices < suc (length m.vertices)
    few t h =
        let within = count_within found in
        let each = known.one_each in
        omega (arith, within, each, h)

pub all_closed : (vs : List Vertex) (found : List (Option Behind)) → ((v : ℕ) → v < length vs → is_open vs found v ≡ false) → (v : ℕ) → is_open vs found v ≡ false
all_closed vs found closed v = go (is_open vs found v) refl
  where
    go : (b : Bool) → is_open vs found v ≡ b → is_open vs found v ≡ false
    go false e = e
    go true e = closed v (choice_within vs v (both (choice_at vs v) (is_none (found_at found v)) e).0)

-- ---- an end

pub goes_deeper : (most count long : ℕ) → long ≤ most → (most - count) * (most + 2) + (most + 1 - (long + 1)) < (most - count) * (most + 2) + (most + 1 - long)
goes_deeper most count long h = omega arith

pub finds_more : (most count long : ℕ) → count < most → (most - (count + 1)) * (most + 2) + (most + 1 - long) < (most - count) * (most + 2) + (most + 1 - (long + 1))
finds_more most count long lt = go (most - (count + 1)) (most - count) (omega arith)
  where
    go : (a b : ℕ) → b ≡ suc a → a * (most + 2) + (most + 1 - long) < b * (most + 2) + (most + 1 - (long + 1))
    go a b e =
        let same : b * (most + 2) ≡ suc a * (most + 2) = ap (λ (n : ℕ). n * (most + 2)) e in
        let more : suc a * (most + 2) ≡ a * (most + 2) + (most + 2) = omega arith in
        omega (arith, same, more)
