use Rattle.std.proofs.Common.{ℕ, ◌++◌, Option, ap, sym, ◌∙◌, arith}
use Rattle.std.proofs.lemmas.List.{append-nil}
use Rattle.fp_listing.specs.Members.{set_opcode, param_with, param_line}
use Rattle.fp_listing.proofs.Numbered.{one_more, all_numbered}
use Rattle.fp_listing.proofs.members.push_params.Goals as goal

pub loop-at-init : goal.loop-at-init
loop-at-init c = sym (append-nil c.args.out.now)

pub loop-at-preserved : goal.loop-at-preserved
loop-at-preserved c =
    let m = c.args.model.now in
    let cs = c.args.commands.now in
    let at = c.loop-at.at in
    let param = c.index-params-at.result in
    let set = c.opcode_of-set_by.ensures ∙ c.in_ok-set.ensures at in
    let save = c.opcode_of-saved_by.ensures ∙ c.in_ok-save.ensures at in
    one_more (param_line m cs) c.args.params.now at param c.loop-at-test.true c.args.out.now c.loop-at.out c.push_param.new.out c.index-params-at.is c.loop-at.invariant
    (c.in_ok-push_param.ensures ∙ ap (λ (o : Option ℕ). c.loop-at.out ++ param_with m o c.opcode_of-saved_by.result param) set
    ∙ ap (λ (o : Option ℕ). c.loop-at.out ++ param_with m (set_opcode cs at) o param) save)

pub returns : goal.returns
returns c =
    all_numbered (param_line c.args.model.now c.args.commands.now) c.args.params.now c.loop-at.at (omega (arith, c.loop-at-test.false)) c.args.out.now c.loop-at.out c.loop-at.invariant
