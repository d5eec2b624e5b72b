use Rattle.std.proofs.Common.{◌≡◌, ℕ, Bool, List, map, None, inl, inr, sym, ap, ◌∙◌, ⊎_elim}
use Rattle.std.specs.List.{find, zip}
use Rattle.std.specs.Option.{option_map}
use Rattle.std.specs.Slice.Iter.{iter_rest}
use Rattle.std.specs.Iterator.Adapters.{zip_first, zip_second}
use Rattle.fp_base.specs.Same.{same_text}
use Rattle.fp_base.specs.declared.value.Value.{Value}
use Rattle.fp_tables.specs.declared.kind.Formal.{Formal}
use Rattle.fp_actor.proofs.Looking.{none_beside}
use Rattle.fp_actor.proofs.values.formal_value.Goals as goal

pub returns : goal.returns
returns c =
    let both = c.loop-formal.formal-iterator in
    let is_named : List ℕ × Value → Bool = λ b. same_text b.0 c.args.name.now in
    let left : find is_named (zip (map (λ (f : Formal). f.name) (iter_rest (zip_first both))) (iter_rest (zip_second both))) ≡ None =
    none_beside is_named (λ (f : Formal). f.name) (iter_rest (zip_first both)) (iter_rest (zip_second both)) (⊎_elim (λ u. inl u.1.0) (λ u. inr u.1.0) c.in-None.ensures.steps) in
    sym (ap (option_map (λ (b : List ℕ × Value). b.1)) (c.loop-formal.invariant ∙ left))
