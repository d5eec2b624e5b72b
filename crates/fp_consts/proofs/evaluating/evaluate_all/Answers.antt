use Rattle.std.proofs.Common.{◌≡◌, ℕ, List, length, flat_map, Option, sym, ap, subst, ◌∙◌}
use Rattle.fp_base.specs.declared.refusal.Refusal.{Refusal}
use Rattle.fp_base.specs.Least.{IsLeast}
use Rattle.fp_meaning.specs.declared.group.Group.TheVariants as group
use Rattle.fp_meaning.specs.declared.names.Definition.{Definition}
use Rattle.fp_meaning.specs.ConstantFaults.{ConstantsBroken}
use Rattle.fp_meaning.specs.Layout as layout
use Rattle.fp_meaning.specs.Meaning.{AreMeanings}
use Rattle.fp_meaning.specs.Names.{definitions, definitions_of, mentions}
use Rattle.fp_meaning.specs.Uses.{Uses, BrokenByChains}
use Rattle.fp_graph.specs.Chains.{AreFlags, Chain, IsOnCycle}
use Rattle.fp_consts.specs.declared.measured.Measured.{Measured}
use Rattle.fp_consts.specs.Marked.{Marks}
use Rattle.fp_consts.proofs.Evaluated.{all_values, all_broken}
use Rattle.fp_consts.proofs.evaluating.evaluate_all.Goals as goal

pub table_of-requires : goal.table_of-requires
table_of-requires c = record { ordered = c.in_ok-chained.ensures.order; flagged = c.in_ok-chained.ensures.cyclic }

pub chain_faults-chains-requires-clause-cyclic : goal.chain_faults-chains-requires-clause-cyclic
chain_faults-chains-requires-clause-cyclic c =
    c.in_ok-chained.ensures.cyclic.each ∙ ap (λ (ds : List Definition). length ds) (sym (c.as_slice-definitions.ensures ∙ c.in_ok-row.ensures))

pub chain_faults-chains-requires-clause-deep : goal.chain_faults-chains-requires-clause-deep
chain_faults-chains-requires-clause-deep c =
    c.in_ok-chained.ensures.deep.each ∙ ap (λ (ds : List Definition). length ds) (sym (c.as_slice-definitions.ensures ∙ c.in_ok-row.ensures))

pub returns-clause-at : goal.returns-clause-at
returns-clause-at c =
    let source = c.args.source.now in
    let meanings = c.as_slice-meanings.result.now in
    let meant : AreMeanings (definitions source) (mentions source) meanings =
    subst (λ (ns : List ℕ). AreMeanings (definitions source) (mentions source) ns) (sym c.as_slice-meanings.ensures) c.requires in
    let items = c.items-items.result.now in
    let laid : items ≡ layout.items source = c.items-items.ensures ∙ c.in_ok-layout.ensures in
    let table = c.in_ok-table.table.items in
    let marking = c.in_ok-marking.marking in
    let marks : Marks table meanings items marking = subst (λ (xs : List (Option Measured)). Marks xs meanings items marking) c.as_slice-values.ensures.value c.in_ok-marking.ensures in
    all_values source meanings items meant laid c.in_ok-laid.laid.firsts c.in_ok-laid.laid.spots table marking c.in_ok-laid.ensures.firsts c.in_ok-laid.ensures.spots c.in_ok-table.ensures marks

pub returns-clause-first : goal.returns-clause-first
returns-clause-first c =
    let source = c.args.source.now in
    let meanings = c.as_slice-meanings.result.now in
    let meant : AreMeanings (definitions source) (mentions source) meanings =
    subst (λ (ns : List ℕ). AreMeanings (definitions source) (mentions source) ns) (sym c.as_slice-meanings.ensures) c.requires in
    let items = c.items-items.result.now in
    let laid : items ≡ layout.items source = c.items-items.ensures ∙ c.in_ok-layout.ensures in
    let table = c.in_ok-table.table.items in
    let marking = c.in_ok-marking.marking in
    let marks : Marks table meanings items marking = subst (λ (xs : List (Option Measured)). Marks xs meanings items marking) c.as_slice-values.ensures.value c.in_ok-marking.ensures in
    let are : c.as_slice-definitions.result.now ≡ flat_map definitions_of items = c.as_slice-definitions.ensures ∙ c.in_ok-row.ensures in
    let count : length (flat_map definitions_of items) ≡ length c.as_slice-definitions.result.now = ap (λ (ds : List Definition). length ds) (sym are) in
    let cyclic = subst (λ (n : ℕ). AreFlags n (IsOnCycle (Uses items)) c.in_ok-chained.chained.cyclic.items) count c.in_ok-chained.ensures.cyclic in
    let deep = subst (λ (n : ℕ). AreFlags n (λ number. Chain n (Uses items) number 256) c.in_ok-chained.chained.deep.items) count c.in_ok-chained.ensures.deep in
    let chains : IsLeast (BrokenByChains items group.Value) c.chain_faults-chains.result = c.chain_faults-chains.ensures items are cyclic deep in
    subst (λ (o : Option Refusal). IsLeast (ConstantsBroken source) o) (sym c.lesser.ensures)
    (all_broken source meanings items meant laid c.in_ok-laid.laid.firsts c.in_ok-laid.laid.spots table marking c.in_ok-laid.ensures.firsts c.in_ok-laid.ensures.spots c.in_ok-table.ensures marks
    c.chain_faults-chains.result chains)
