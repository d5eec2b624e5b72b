use Rattle.fp_component_forms.specs.Positions.{names_in}
use Rattle.fp_component_forms.proofs.Firsts.{each_kind}
use Rattle.fp_component_forms.proofs.specials.special_types.Goals as goal

pub returns : goal.returns
returns c =
    each_kind (names_in c.args.definitions.now)
    (record { cmd_recv = c.in_ok-cmd_recv.cmd_recv; cmd_reg = c.in_ok-cmd_reg.cmd_reg; cmd_resp = c.in_ok-cmd_resp.cmd_resp; event = c.in_ok-event.event; text_event = c.in_ok-text_event.text_event; tlm = c.in_ok-tlm.tlm; time = c.in_ok-time.time; prm_get = c.in_ok-prm_get.prm_get; prm_set = c.in_ok-prm_set.prm_set })
    c.in_ok-cmd_recv.ensures c.in_ok-cmd_reg.ensures c.in_ok-cmd_resp.ensures c.in_ok-event.ensures c.in_ok-text_event.ensures c.in_ok-tlm.ensures c.in_ok-time.ensures c.in_ok-prm_get.ensures c.in_ok-prm_set.ensures
