use Rattle.fp_events.proofs.Hooks.{hook_opens, hook_puts_nothing}
use Rattle.fp_events.proofs.orders.hooked_calls.Goals as goal

pub returns-clause-frame : goal.returns-clause-frame
returns-clause-frame c = λ es e arrival is. hook_opens es e arrival is

pub returns-clause-untaken : goal.returns-clause-untaken
returns-clause-untaken c = λ tables es e arrival is. hook_puts_nothing tables es e arrival is
