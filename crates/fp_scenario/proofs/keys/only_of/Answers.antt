use Rattle.std.proofs.Common.{is_some, ap, sym, ◌∙◌, arith}
use Rattle.serde_json.specs.Find.{get}
use Rattle.serde_json.specs.View.{view}
use Rattle.fp_scenario.proofs.Kept.{second_at, had_at, not_at}
use Rattle.fp_scenario.proofs.keys.only_of.Goals as goal
use Rattle.fp_scenario.proofs.keys.only_of.Goals.{then-has+else-is_some, else-has}

pub returns-then-is_some : goal.returns-then-is_some
returns-then-is_some c =
    let d = view c.args.value.now in
    second_at c.args.keys.now c.loop-key.key-index _ d c.loop-key.found (omega arith) (sym c.if-has.true ∙ c.has.ensures ∙ ap (λ k. is_some (get k d)) c.text.ensures) (sym c.if-is_some.true ∙ c.is_some.ensures) c.loop-key.invariant

pub loop-key-preserved : goal.loop-key-preserved
loop-key-preserved c =
    let d = view c.args.value.now in
    let asked = c.has.ensures ∙ ap (λ k. is_some (get k d)) c.text.ensures in
    elim c.if-has.branch [
      | then-has+else-is_some w ↦ rw w.found-is (had_at c.args.keys.now c.loop-key.key-index _ d c.loop-key.found (omega arith) (sym w.if-has.true ∙ asked) (sym w.if-is_some.false ∙ w.is_some.ensures) c.loop-key.invariant)
      | else-has w ↦ rw w.found-is (not_at c.args.keys.now c.loop-key.key-index _ d c.loop-key.found (omega arith) (sym w.if-has.false ∙ asked) c.loop-key.invariant)
    ]
