use Rattle.std.proofs.Common.{◌≡◌, ℕ, suc, ◌+◌, ◌-◌, length, sym, ap, ◌∙◌, arith}
use Rattle.fp_tables.specs.Types.{shape_by, of_form}
use Rattle.fp_sound_types.proofs.Shaping.{out_of_names, no_name, named, unnamed, unlike_alias}
use Rattle.fp_sound_types.proofs.shapes.shape_of.Goals as goal

pub loop-init : goal.loop-init
loop-init c =
    let types = c.args.types.now in
    let all : length types + 1 - 0 ≡ suc (length types) = omega arith in
    ap (λ (n : ℕ). shape_by types n c.args.kind) all

pub returns-in_default-form : goal.returns-in_default-form
returns-in_default-form c =
    let types = c.args.types.now in
    let rest = length types + 1 - c.loop.counter in
    c.direct.ensures ∙ unlike_alias (shape_by types (rest - 1)) c.in-Some.form.now (c.in_default-form.not-Alias)
    ∙ sym (named types rest c.in-Named.at c.loop.target c.in-Some.form.now (omega arith) c.in-Named.is c.in-Some.ensures) ∙ c.loop.invariant

pub returns-in-None : goal.returns-in-None
returns-in-None c =
    let types = c.args.types.now in
    sym (unnamed types (length types + 1 - c.loop.counter) c.in-Named.at c.loop.target (omega arith) c.in-Named.is c.in-None.ensures) ∙ c.loop.invariant

pub returns-in_default : goal.returns-in_default
returns-in_default c =
    let types = c.args.types.now in
    c.primitive.ensures ∙ no_name types (length types + 1 - c.loop.counter) c.loop.target c.in_default.not-Named ∙ c.loop.invariant

pub loop-preserved : goal.loop-preserved
loop-preserved c =
    let types = c.args.types.now in
    let rest = length types + 1 - c.loop.counter in
    let less : length types + 1 - (c.loop.counter + 1) ≡ rest - 1 = omega arith in
    ap (λ (n : ℕ). shape_by types n c.in-Alias.next) less ∙ ap (of_form (shape_by types (rest - 1))) (sym c.in-Alias.is)
    ∙ sym (named types rest c.in-Named.at c.loop.target c.in-Some.form.now (omega arith) c.in-Named.is c.in-Some.ensures) ∙ c.loop.invariant

pub returns : goal.returns
returns c =
    let types = c.args.types.now in
    let none : length types + 1 - c.loop.counter ≡ 0 = omega arith in
    c.primitive-2.ensures ∙ out_of_names types c.loop.target ∙ sym (ap (λ (n : ℕ). shape_by types n c.loop.target) none) ∙ c.loop.invariant
