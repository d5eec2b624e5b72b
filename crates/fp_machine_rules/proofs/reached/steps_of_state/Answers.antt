use Rattle.std.proofs.Common.{◌≡◌, ◌↔◌, List, Bool, true, false, IsTrue, Option, Some, slice_get, ℕ, ap, sym, ◌∙◌}
use Rattle.fp_machine_rules.specs.declared.gathering.Parts.{Parts}
use Rattle.fp_base.proofs.Options.{if_ok_then}
use Rattle.fp_machine_rules.proofs.Steps.{steps_leaf, steps_holder}
use Rattle.fp_machine_rules.proofs.reached.steps_of_state.Goals as goal

same_parts : (table read : List Parts) (v : ℕ) (ps qs : Parts) → read ≡ table → slice_get read v ≡ Some ps → slice_get table v ≡ Some qs → ps ≡ qs
same_parts table read v ps qs e h k = some_same (sym h ∙ (ap (λ (t : List Parts). slice_get t v) e ∙ k))
  where
    some_same : ◌≡◌ {A = Option Parts} (Some ps) (Some qs) → ps ≡ qs
    some_same x = cc

at_false : (b : Bool) (P : Type 0) → b ≡ false → IsTrue b ↔ P → P → ⊥
at_false b P e h p = differ (h.1 p) e
  where
    differ : b ≡ true → b ≡ false → ⊥
    differ x y = cc

pub returns-then-is_empty : goal.returns-then-is_empty
returns-then-is_empty c =
    let same = same_parts _ _ c.args.state _ _ c.deref.ensures.value c.parts_at-parts.ensures (c.requires.gathered.exact c.args.state c.requires.within) in
    let none = c.is_empty.ensures.0 c.if-is_empty.true in
    λ is. if_ok_then c.counted.result _ _ (λ row h. steps_leaf c.args.items.now c.args.state row is (ap (λ (ps : Parts). ps.names) (sym same) ∙ none) h) c.counted.ensures

pub returns-else-is_empty : goal.returns-else-is_empty
returns-else-is_empty c =
    let same = same_parts _ _ c.args.state _ _ c.deref.ensures.value c.parts_at-parts.ensures (c.requires.gathered.exact c.args.state c.requires.within) in
    λ is.
    if_ok_then c.copy.result _ _
    (λ row h.
    steps_holder c.args.items.now c.args.state row is
    (λ e. at_false _ _ c.if-is_empty.false c.is_empty.ensures (ap (λ (ps : Parts). ps.names) same ∙ e))
    (h ∙ ap (λ (ps : Parts). ps.initials) same))
    c.copy.ensures
