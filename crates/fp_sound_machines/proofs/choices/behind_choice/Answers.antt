use Rattle.std.proofs.Common.{◌≡◌, ◌∙◌, ap, arith}
use Rattle.fp_sound_machines.specs.Behind.{found_behind}
use Rattle.fp_tables.specs.declared.machine.Node.TheVariants as node
use Rattle.fp_sound_machines.proofs.Branches.{has_branches, choice_behind}
use Rattle.fp_sound_machines.proofs.Found.{count_within}
use Rattle.fp_sound_machines.proofs.choices.behind_choice.Goals as goal

pub around-requires : goal.around-requires
around-requires c =
    let x = c.in-Some-Choice in
    let found = c.args.found.now in
    let is : x.field-0.now.node ≡ node.Choice x.guard x.yes x.no = cc in
    let k =
    has_branches c.args.types.now c.args.machine.now found c.args.choice x.guard x.yes x.no c.found_behind-met.result c.found_behind-unmet.result x.field-0.now c.requires.known x.ensures.value is
    c.requires.closed (c.found_behind-met.ensures ∙ ap (λ vs. found_behind vs found x.yes.target) c.as_slice-vertices.ensures)
    (c.found_behind-unmet.ensures ∙ ap (λ vs. found_behind vs found x.no.target) c.as_slice-vertices.ensures)
    in
    let within = count_within found in
    omega (arith, k.left_bound, k.right_bound, within, c.requires.known.one_each, c.requires.known.few)

pub returns-in-Some-Choice-clause-behind : goal.returns-in-Some-Choice-clause-behind
returns-in-Some-Choice-clause-behind c =
    let x = c.in-Some-Choice in
    let found = c.args.found.now in
    let l = c.found_behind-met.result in
    let r = c.found_behind-unmet.result in
    let is : x.field-0.now.node ≡ node.Choice x.guard x.yes x.no = cc in
    let k =
    has_branches c.args.types.now c.args.machine.now found c.args.choice x.guard x.yes x.no l r x.field-0.now c.requires.known x.ensures.value is c.requires.closed
    (c.found_behind-met.ensures ∙ ap (λ vs. found_behind vs found x.yes.target) c.as_slice-vertices.ensures)
    (c.found_behind-unmet.ensures ∙ ap (λ vs. found_behind vs found x.no.target) c.as_slice-vertices.ensures)
    in
    choice_behind c.args.types.now c.args.machine.now c.args.choice x.guard x.yes x.no k.at l r c.around.result k.left k.right c.around.ensures.choices c.around.ensures.states c.around.ensures.wanted

pub returns-in-Some-Choice-clause-bounded : goal.returns-in-Some-Choice-clause-bounded
returns-in-Some-Choice-clause-bounded c =
    let x = c.in-Some-Choice in
    let found = c.args.found.now in
    let is : x.field-0.now.node ≡ node.Choice x.guard x.yes x.no = cc in
    let k =
    has_branches c.args.types.now c.args.machine.now found c.args.choice x.guard x.yes x.no c.found_behind-met.result c.found_behind-unmet.result x.field-0.now c.requires.known x.ensures.value is
    c.requires.closed (c.found_behind-met.ensures ∙ ap (λ vs. found_behind vs found x.yes.target) c.as_slice-vertices.ensures)
    (c.found_behind-unmet.ensures ∙ ap (λ vs. found_behind vs found x.no.target) c.as_slice-vertices.ensures)
    in
    omega (arith, k.left_bound, k.right_bound, c.around.ensures.choices)
