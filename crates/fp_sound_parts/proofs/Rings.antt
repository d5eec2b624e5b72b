-- Choices that don't lead to themselves make no chain longer than there are vertices.
use Rattle.std.proofs.Common.{◌≡◌, ℕ, zero, suc, ◌+◌, ◌<◌, ◌≤◌, ◌⊎◌, not, Bool, true, false, eqb, List, [], ◌∷◌, length, slice_get, option_map, Option, Some, None, refl, sym, ap, subst, ◌∙◌, inl, inr, arith}
use Rattle.std.specs.List.{AllByRecursion, IsDistinct, list_any}
use Rattle.std.proofs.lemmas.Bool.Decides.{nat_tests}
use Rattle.std.proofs.lemmas.Map.Steps.{length-le_from_distinct_below}
use Rattle.std.proofs.lemmas.Option.{slice_get_within}
use Rattle.fp_base.proofs.Bools.{or_cases, not_so, not_both}
use Rattle.fp_tables.specs.Machines.{node_at, begins_choices, either_branch, has_no_ring}
use Rattle.fp_tables.specs.declared.machine.Node.{Node}
use Rattle.fp_tables.specs.declared.machine.Vertex.{Vertex}
use Rattle.fp_machine_rules.specs.declared.item.Target.{Target}
use Rattle.fp_machine_rules.specs.declared.item.Target.TheVariants.{Stays, Undefined, To}
use Rattle.fp_machine_rules.specs.declared.item.Form.{Form}
use Rattle.fp_machine_rules.specs.declared.item.Form.TheVariants as form
use Rattle.fp_machine_rules.specs.declared.item.Item.{Item}
use Rattle.fp_machine_rules.specs.Forms.{Stands, IsState, IsVertex, is_state, is_vertex}
use Rattle.fp_machine_rules.specs.Through.{Branches, met, unmet, Through, here, past, IsOnRing}
use Rattle.fp_sound_parts.proofs.Tests.{all_from_each}
use Rattle.fp_sound_parts.proofs.Standing.{Corresponds, IsChoiceNode, IsStateNode, to_number}

-- ---- states and choices

-- a vertex is a state or a choice
pub data IsEither (items : List Item) (v : ℕ) : Type 0 where
  state : IsState items v → IsEither items v
  choice : (name : ℕ) (first second : Target) (p : Option ℕ) → Stands items v (form.Choice name first second) p → IsEither items v

pub either_of : (items : List Item) (v : ℕ) → IsVertex items v → IsEither items v
either_of items v s = go s.item.form refl s.holds
  where
    go : (f : Form) → s.item.form ≡ f → is_vertex f ≡ true → IsEither items v
    go (form.State n) is h = state (record { item = s.item; here = s.here; holds = rw is refl })
    go (form.Choice n a b) is h = choice n a b s.item.parent (record { item = s.item; here = s.here; form = is; parent = refl })
    go (form.Initial t) is h = absurd cc
    go (form.On n m t) is h = absurd cc
    go form.Entry is h = absurd cc
    go form.Exit is h = absurd cc
    go (form.Declares d) is h = absurd cc

pub state_is_vertex : (items : List Item) (v : ℕ) → IsState items v → IsVertex items v
state_is_vertex items v s = go s.item.form refl s.holds
  where
    go : (f : Form) → s.item.form ≡ f → is_state f ≡ true → IsVertex items v
    go (form.State n) is h = record { item = s.item; here = s.here; holds = rw is refl }
    go (form.Choice n a b) is h = absurd cc
    go (form.Initial t) is h = absurd cc
    go (form.On n m t) is h = absurd cc
    go form.Entry is h = absurd cc
    go form.Exit is h = absurd cc
    go (form.Declares d) is h = absurd cc

-- ---- numbers

eqb_false : (m n : ℕ) → (m ≡ n → ⊥) → eqb m n ≡ false
eqb_false m n h = go (eqb m n) refl
  where
    go : (b : Bool) → eqb m n ≡ b → eqb m n ≡ false
    go false e = e
    go true e = let same : m ≡ n = grind (arith, nat_tests) in absurd (h same)

module _ (items : List Item) (vs : List Vertex) (number : ℕ → ℕ) (at : Corresponds items vs number) where
  -- the one leads to the other through choices, by one at least
  record LeadsTo (n v : ℕ) : Type 0 where
    from : ℕ
    vertex : IsVertex items from
    is : number from ≡ n
    branch : ℕ
    leads : Branches items from (To branch)
    onward : Through items branch v

  -- what a chain of choices goes on with
  record GoesOn (k v : ℕ) : Type 0 where
    next : ℕ
    leads : Branches items v (To next)
    chain : begins_choices vs k (Some (number next)) ≡ true

  chain_on : (k : ℕ) (v : ℕ) (t : Target) → Branches items v t → (o : Option ℕ) → o ≡ to_number number t → begins_choices vs (suc k) o ≡ true → GoesOn (suc k) v
  unfolding begins_choices
  chain_on k v (To w) b o is h = record { next = w; leads = b; chain = ap (begins_choices vs (suc k)) (sym is) ∙ h }
  chain_on k v Stays b o is h = absurd (not_both h (ap (begins_choices vs (suc k)) is))
  chain_on k v Undefined b o is h = absurd (not_both h (ap (begins_choices vs (suc k)) is))

  of_state : (k : ℕ) (o : Option Node) → IsStateNode o → either_branch (begins_choices vs k) o ≡ true → ⊥
  of_state k o s h = not_both h (ap (either_branch (begins_choices vs k)) s.is)

  goes_on : (k v : ℕ) → IsVertex items v → begins_choices vs (suc (suc k)) (Some (number v)) ≡ true → GoesOn (suc k) v
  unfolding begins_choices
  goes_on k v is h = go (either_of items v is)
    where
      go : IsEither items v → GoesOn (suc k) v
      go (state s) = absurd (of_state (suc k) (node_at vs (number v)) (at.state v s) h)
      go (choice n a b p s) =
          let c = at.choice v n a b p s in
          by c (or_cases (begins_choices vs (suc k) c.met.target) (begins_choices vs (suc k) c.unmet.target) (ap (either_branch (begins_choices vs (suc k))) (sym c.is) ∙ h))
        where
          by : (c : IsChoiceNode number (node_at vs (number v)) a b) → (begins_choices vs (suc k) c.met.target ≡ true) ⊎ (begins_choices vs (suc k) c.unmet.target ≡ true) → GoesOn (suc k) v
          by c (inl e) = chain_on k v a (met s) c.met.target c.to_met e
          by c (inr e) = chain_on k v b (unmet s) c.unmet.target c.to_unmet e

  within : (k v : ℕ) → begins_choices vs (suc k) (Some (number v)) ≡ true → number v < length vs
  unfolding begins_choices
  within k v h = go (slice_get vs (number v)) refl
    where
      go : (o : Option Vertex) → slice_get vs (number v) ≡ o → number v < length vs
      go (Some x) e = slice_get_within vs (number v) x e
      go None e = absurd (not_both h (ap (λ (o : Option Vertex). either_branch (begins_choices vs k) (option_map (λ (x : Vertex). x.node) o)) e))

  -- ---- no number stands a second time on the way

  abbrev LeadTo : ℕ → List ℕ → Type 0
  LeadTo v ns = AllByRecursion (λ n. LeadsTo n v) ns

  onward_to : (v w : ℕ) → Branches items v (To w) → (ns : List ℕ) → LeadTo v ns → LeadTo w ns
  onward_to v w b [] h = tt
  onward_to v w b (n ∷ ns) h =
      (record { from = h.0.from; vertex = h.0.vertex; is = h.0.is; branch = h.0.branch; leads = h.0.leads; onward = past h.0.onward b }, onward_to v w b ns h.1)

  ring_of : (n v : ℕ) → IsVertex items v → LeadsTo n v → number v ≡ n → IsOnRing items v
  ring_of n v is l e =
      let same : l.from ≡ v = at.same l.from v l.vertex is (l.is ∙ sym e) in
      record { branch = l.branch; leads = subst (λ (u : ℕ). Branches items u (To l.branch)) same l.leads; back = l.onward }

  others : (v : ℕ) → IsVertex items v → (IsOnRing items v → ⊥) → (ns : List ℕ) → LeadTo v ns → AllByRecursion (λ n. eqb (number v) n ≡ false) ns
  others v is never [] h = tt
  others v is never (n ∷ ns) h = (eqb_false (number v) n (λ e. never (ring_of n v is h.0 e)), others v is never ns h.1)

  abbrev AreBelow : List ℕ → Type 0
  AreBelow ns = AllByRecursion (λ n. n < length vs) ns

  below_any : (ns : List ℕ) → AreBelow ns → (q : ℕ) → list_any (eqb q) ns ≡ true → q < length vs
  below_any [] h q e = absurd cc
  below_any (n ∷ ns) h q e = go (or_cases (eqb q n) (list_any (eqb q) ns) e) (λ s. below_any ns h.1 q s)
    where
      go : (eqb q n ≡ true) ⊎ (list_any (eqb q) ns ≡ true) → (list_any (eqb q) ns ≡ true → q < length vs) → q < length vs
      go (inl s) later = let same : q ≡ n = grind (arith, nat_tests) in let low : n < length vs = h.0 in omega (arith, low, same)
      go (inr s) later = later s

  few : (ns : List ℕ) → IsDistinct eqb ns → AreBelow ns → length ns ≤ length vs
  few ns d low = length-le_from_distinct_below ns (length vs) d (λ q e. below_any ns low q e)

  module _ (never : (v : ℕ) → IsOnRing items v → ⊥) where
    walk : (k v : ℕ) (ns : List ℕ) → IsVertex items v → begins_choices vs (suc k) (Some (number v)) ≡ true → LeadTo v ns → IsDistinct eqb ns → AreBelow ns
        → length vs ≤ length ns + k → ⊥
    unfolding IsDistinct
    walk zero v ns is h to d low full =
        let n : length (number v ∷ ns) ≤ length vs = few (number v ∷ ns) (others v is (never v) ns to, d) (within zero v h, low) in
        absurd (omega (arith, n, full))
    walk (suc k) v ns is h to d low full =
        let on = goes_on k v is h in
        walk k on.next (number v ∷ ns) (at.leads v on.next on.leads) on.chain
        (record { from = v; vertex = is; is = refl; branch = on.next; leads = on.leads; onward = here }, onward_to v on.next on.leads ns to)
        (others v is (never v) ns to, d) (within (suc k) v h, low) (omega (arith, full))

    begins_few : (n : ℕ) (x : Vertex) → slice_get vs n ≡ Some x → begins_choices vs (suc (length vs)) (Some n) ≡ true → ⊥
    unfolding IsDistinct
    begins_few n x e h =
        let v = at.back n x e in
        walk (length vs) v.0 [] v.1 (ap (λ (m : ℕ). begins_choices vs (suc (length vs)) (Some m)) v.2 ∙ h) tt tt tt (omega arith)

    pub no_ring : has_no_ring vs ≡ true
    no_ring = all_from_each (λ n (_ : Vertex). not (begins_choices vs (suc (length vs)) (Some n))) 0 vs each
      where
        each : (k : ℕ) (x : Vertex) → slice_get vs k ≡ Some x → not (begins_choices vs (suc (length vs)) (Some (0 + k))) ≡ true
        each k x e =
            let z : 0 + k ≡ k = omega arith in
            not_so (begins_choices vs (suc (length vs)) (Some (0 + k))) (λ h. begins_few k x e (ap (λ (m : ℕ). begins_choices vs (suc (length vs)) (Some m)) (sym z) ∙ h))
