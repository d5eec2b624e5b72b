use Rattle.std.proofs.Common.{◌≡◌, Some, length, slice_get, refl}
use Rattle.std.proofs.lemmas.Option.{slice_get_read}
use Rattle.fp_scenario_check.proofs.Owning.{owned_all, owned_next, owned_none}
use Rattle.fp_scenario_check.proofs.owned.owned_of.Goals as goal

pub loop-text-init : goal.loop-text-init
loop-text-init c = owned_none c.args.tables.now c.args.texts.now c.new-owned.result c.new-owned.ensures.empty

pub loop-text-preserved : goal.loop-text-preserved
loop-text-preserved c =
    let texts = c.args.texts.now in
    let n = c.loop-text.text-index in
    let x = c.text-item.result in
    let at : slice_get texts n ≡ Some x = slice_get_read texts (length texts) n x refl c.loop-text-test.true c.text-item.is in
    owned_next c.args.tables.now texts n x c.loop-text.owned c.note.new.owned at c.in_ok-note.ensures c.loop-text.invariant

pub returns : goal.returns
returns c = owned_all c.args.tables.now c.args.texts.now c.loop-text.text-index c.loop-text.owned c.loop-text-test.false c.loop-text.invariant
