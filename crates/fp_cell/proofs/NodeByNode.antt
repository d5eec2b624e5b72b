-- A walk over flat nodes, a node at a time.
use Rattle.std.proofs.Common.{◌≡◌, ℕ, suc, ◌+◌, ◌-◌, ◌<◌, Bool, true, cond, List, [], ◌++◌, Option, Some, None, refl, sym, ◌∙◌, ap, arith, append_assoc, slice_get}
use Rattle.std.proofs.lemmas.List.{append-nil}
use Rattle.std.specs.Option.{option_map, is_some}
use Rattle.std.proofs.lemmas.Bool.{false≢true}
use Rattle.fp_tables.specs.declared.machine.Machine.{Machine}
use Rattle.fp_events.specs.Machine.{Walk, first_these, stays, answer, ask}
use Rattle.fp_machine_flat.specs.declared.node.Next.{Next}
use Rattle.fp_machine_flat.specs.declared.node.Next.TheVariants.{Leaf, Ask}
use Rattle.fp_machine_flat.specs.declared.node.FlatNode.{FlatNode}
use Rattle.fp_machine_flat.specs.Walking.{follows, passes, walks}
use Rattle.fp_cell.specs.Walked.{walks_on}

pub nothing_first : (o : Option Walk) → o ≡ option_map (first_these []) o
nothing_first None = refl
nothing_first (Some w) = refl

these_first : (xs ys : List ℕ) (o : Option Walk) → option_map (first_these xs) (option_map (first_these ys) o) ≡ option_map (first_these (xs ++ ys)) o
these_first xs ys None = refl
these_first xs ys (Some w) = ap (λ (zs : List ℕ). let r : Walk = record { actions = zs; reached = w.reached } in Some r) (sym (append_assoc xs ys w.actions))

module _ (m : Machine) (answers : ℕ → List Bool) (nodes : List FlatNode) where
  once : (n k at : ℕ) (asked : List ℕ) (o : Option FlatNode) → n ≡ suc k → slice_get nodes at ≡ o → walks m answers nodes n at asked ≡ passes m answers (walks m answers nodes k) asked o
  unfolding walks
  once n k at asked o e is = rw (e, is) refl

  -- the walk goes on from a node: from the next one where a guard is asked
  passed : (n i at : ℕ) (asked before after : List ℕ) (whole : Option Walk) (node : FlatNode) (next : Next) → i < n →
      whole ≡ walks_on m answers nodes before (n - i) at asked → Some node ≡ slice_get nodes at → after ≡ before ++ node.actions → node.next ≡ next →
      whole ≡ option_map (first_these after) (follows m answers (walks m answers nodes (n - (i + 1))) asked next)
  passed n i at asked before after whole node next low h is grown then =
      let e : n - i ≡ suc (n - (i + 1)) = omega arith in
      rw (grown, sym then)
      (h ∙ ap (option_map (first_these before)) (once (n - i) (n - (i + 1)) at asked (Some node) e (sym is))
      ∙ these_first before node.actions (follows m answers (walks m answers nodes (n - (i + 1))) asked node.next))

  pub asked_on : (n i at guard positive negative later : ℕ) (asked before after more : List ℕ) (whole : Option Walk) (node : FlatNode) (met : Bool) → i < n →
      whole ≡ walks_on m answers nodes before (n - i) at asked → Some node ≡ slice_get nodes at → after ≡ before ++ node.actions → node.next ≡ Ask guard positive negative →
      met ≡ answer m answers asked guard → later ≡ cond met positive negative → more ≡ ask m answers asked guard →
      whole ≡ walks_on m answers nodes after (n - (i + 1)) later more
  asked_on n i at guard positive negative later asked before after more whole node met low h is grown then told goes counted =
      rw (goes, told, counted) (passed n i at asked before after whole node (Ask guard positive negative) low h is grown then)

  pub ended : (n i at leaf : ℕ) (asked before after : List ℕ) (whole : Option Walk) (node : FlatNode) → i < n →
      whole ≡ walks_on m answers nodes before (n - i) at asked → Some node ≡ slice_get nodes at → after ≡ before ++ node.actions → node.next ≡ Leaf leaf →
      whole ≡ Some (stays after leaf asked)
  ended n i at leaf asked before after whole node low h is grown then =
      passed n i at asked before after whole node (Leaf leaf) low h is grown then
      ∙ ap (λ (zs : List ℕ). Some (stays zs leaf asked)) (append-nil after)

  pub lost : (n i at : ℕ) (asked before : List ℕ) (whole : Option Walk) → i < n →
      whole ≡ walks_on m answers nodes before (n - i) at asked → None ≡ slice_get nodes at → is_some whole ≡ true → ⊥
  lost n i at asked before whole low h is there =
      let e : n - i ≡ suc (n - (i + 1)) = omega arith in
      let none : whole ≡ None = h ∙ ap (option_map (first_these before)) (once (n - i) (n - (i + 1)) at asked None e (sym is)) in
      false≢true (sym (ap is_some none) ∙ there)

  pub spent : (n at : ℕ) (asked before : List ℕ) (whole : Option Walk) → n ≡ 0 →
      whole ≡ walks_on m answers nodes before n at asked → is_some whole ≡ true → ⊥
  unfolding walks
  spent n at asked before whole e h there =
      let none : whole ≡ None = h ∙ ap (λ (k : ℕ). option_map (first_these before) (walks m answers nodes k at asked)) e in
      false≢true (sym (ap is_some none) ∙ there)
