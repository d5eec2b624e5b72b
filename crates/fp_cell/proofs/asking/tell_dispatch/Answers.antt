use Rattle.fp_events.specs.declared.event.Why.TheVariants as why
use Rattle.fp_cell.proofs.Asked.{dispatch_free, not_both}
use Rattle.fp_cell.proofs.asking.tell_dispatch.Goals as goal

pub tell_take-requires : goal.tell_take-requires
tell_take-requires c =
    dispatch_free c.args.state.now.turn why.QueueEmpty c.args.state.now.calls.pending c.requires (λ e. not_both c.is_empty.result c.if-is_empty.false (c.is_empty.ensures.1 e))
