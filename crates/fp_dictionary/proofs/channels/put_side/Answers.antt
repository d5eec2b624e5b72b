use Rattle.std.proofs.Common.{◌∙◌, ap, sym, List}
use Rattle.std.proofs.lemmas.Result.{on_ok_weaker}
use Rattle.serde_json.specs.Data.{Data, put}
use Rattle.fp_dictionary.specs.Objects.{Entry, held, with_entries}
use Rattle.fp_dictionary.proofs.Sides.{no_side, some_side}
use Rattle.fp_dictionary.proofs.channels.put_side.Goals as goal

pub returns-in_ok-side_value : goal.returns-in_ok-side_value
returns-in_ok-side_value c =
    let key = c.args.key.now in
    let before = held c.args.sides.now in
    let some = some_side key c.args.high c.args.limits.now (sym c.has_side.ensures ∙ c.if-has_side.true) in
    on_ok_weaker c.put.result (λ h. h ∙ ap (λ (d : Data). put key d before) c.in_ok-side_value.ensures ∙ ap (λ (es : List Entry). with_entries es before) (sym some)) c.put.ensures

pub returns-else-has_side : goal.returns-else-has_side
returns-else-has_side c =
    let none = no_side c.args.key.now c.args.high c.args.limits.now (sym c.has_side.ensures ∙ c.if-has_side.false) in
    ap (λ (es : List Entry). with_entries es (held c.args.sides.now)) (sym none)
