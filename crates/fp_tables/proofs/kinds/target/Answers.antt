use Rattle.std.proofs.Common.{◌≡◌, ◌∙◌, ◌-◌, ◌+◌, suc, zero, ℕ, length, sym, ap, arith}
use Rattle.fp_tables.specs.Machines.{target_by}
use Rattle.fp_tables.proofs.kinds.target.Goals as goal

pub aliases-init : goal.aliases-init
aliases-init c = let types = c.args.types.now in let all : length types - 0 ≡ length types = omega arith in ap (λ (n : ℕ). target_by types n c.args.kind) (sym all)

pub aliases-preserved : goal.aliases-preserved
aliases-preserved c =
    let types = c.args.types.now in
    let left = length types - (c.aliases.counter + 1) in
    let more : length types - c.aliases.counter ≡ suc left = omega arith in
    c.aliases.invariant ∙ ap (λ (n : ℕ). target_by types n c.aliases.target) more ∙ c.in-Some.ensures left

pub returns-in-None : goal.returns-in-None
returns-in-None c =
    let types = c.args.types.now in
    let left = length types - (c.aliases.counter + 1) in
    let more : length types - c.aliases.counter ≡ suc left = omega arith in
    sym (c.aliases.invariant ∙ ap (λ (n : ℕ). target_by types n c.aliases.target) more ∙ c.in-None.ensures left)

pub returns : goal.returns
unfolding target_by
returns c =
    let types = c.args.types.now in
    let none : length types - c.aliases.counter ≡ zero = omega arith in
    sym (c.aliases.invariant ∙ ap (λ (n : ℕ). target_by types n c.aliases.target) none)
