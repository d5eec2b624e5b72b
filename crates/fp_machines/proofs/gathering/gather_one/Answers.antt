use Rattle.std.proofs.Common.{◌∙◌, sym}
use Rattle.std.proofs.lemmas.Result.{on_ok_weaker}
use Rattle.fp_machines.proofs.Members.{gather_none, gather_some}
use Rattle.fp_machines.proofs.gathering.gather_one.Goals as goal

pub returns-in-None : goal.returns-in-None
returns-in-None c =
    on_ok_weaker c.add.result (λ e es a before n h. gather_none es before _ n _ _ h _ (sym c.in_ok-parent.ensures ∙ c.in-None.is) (e es a)) c.add.ensures

pub returns-in-Some : goal.returns-in-Some
returns-in-Some c =
    on_ok_weaker c.add_at.result (λ e es a before n h. gather_some es before _ n _ _ h c.in-Some.at _ (sym c.in_ok-parent.ensures ∙ c.in-Some.is) (e es a))
    c.add_at.ensures
