use Rattle.std.proofs.Common.{ap, sym, ◌∙◌, inl, List, arith}
use Rattle.std.specs.List.{list_any}
use Rattle.std.proofs.lemmas.Option.{slice_get-get_or}
use Rattle.fp_machine_rules.specs.declared.item.Target.{Target}
use Rattle.fp_machine_rules.specs.Undefined.{is_undefined}
use Rattle.fp_machine_rules.proofs.Steps.{any_among, meets_at, meets_none, none_more}
use Rattle.fp_machine_rules.proofs.reached.meets_undefined.Goals as goal

pub returns-then-has_undefined : goal.returns-then-has_undefined
returns-then-has_undefined c = inl (any_among _ (sym c.has_undefined.ensures ∙ c.if-has_undefined.true))

pub returns-then-has_undefined-2 : goal.returns-then-has_undefined-2
returns-then-has_undefined-2 c =
    meets_at _ c.args.rows.now c.args.found.now c.loop-vertex.vertex-index _ (slice_get-get_or c.args.found.now c.loop-vertex.vertex-index 0 c.loop-vertex-test.true)
    (ap (λ (row : List Target). list_any is_undefined row) (sym c.row_of.ensures) ∙ (sym c.has_undefined-in-loop-vertex.ensures ∙ c.if-has_undefined-2.true))

pub loop-vertex-preserved : goal.loop-vertex-preserved
loop-vertex-preserved c =
    none_more c.args.rows.now c.args.found.now c.loop-vertex.vertex-index _ c.loop-vertex.invariant
    (slice_get-get_or c.args.found.now c.loop-vertex.vertex-index 0 c.loop-vertex-test.true)
    (ap (λ (row : List Target). list_any is_undefined row) (sym c.row_of.ensures) ∙ (sym c.has_undefined-in-loop-vertex.ensures ∙ c.if-has_undefined-2.false))

pub returns : goal.returns
returns c =
    meets_none c.args.starts.now c.args.rows.now c.args.found.now (sym c.has_undefined.ensures ∙ c.if-has_undefined.false)
    (λ k v l. c.loop-vertex.invariant k v (omega (arith, l, c.loop-vertex-test.false)))
