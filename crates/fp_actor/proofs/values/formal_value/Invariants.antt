use Rattle.std.proofs.Common.{◌≡◌, ℕ, Bool, List, map}
use Rattle.std.specs.List.{find, zip}
use Rattle.std.specs.Slice.Iter.{iter_rest}
use Rattle.std.specs.Iterator.Adapters.{zip_first, zip_second}
use Rattle.fp_base.specs.Same.{same_text}
use Rattle.fp_base.specs.declared.value.Value.{Value}
use Rattle.fp_tables.specs.declared.kind.Formal.{Formal}
use Rattle.fp_actor.proofs.values.formal_value.Given as goal

abbrev pub invariant-loop-formal : goal.invariant-loop-formal
invariant-loop-formal l =
    let names : List Formal → List (List ℕ) = map (λ (f : Formal). f.name) in
    let is_named : List ℕ × Value → Bool = λ b. same_text b.0 l.name in
    find is_named (zip (names l.formals) l.with) ≡ find is_named (zip (names (iter_rest (zip_first l.formal-iterator))) (iter_rest (zip_second l.formal-iterator)))
