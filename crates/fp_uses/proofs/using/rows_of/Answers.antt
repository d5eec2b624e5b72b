use Rattle.std.proofs.Common.{ℕ, List, flat_map, subst, ◌∙◌}
use Rattle.fp_meaning.specs.Owners.{counts_of, owners_from}
use Rattle.fp_uses.specs.Given.{AreBegun, Got}
use Rattle.fp_uses.proofs.UsesListed.{listed, used, as_many_rows}
use Rattle.fp_uses.proofs.using.rows_of.Goals as goal

pub returns-clause-each : goal.returns-clause-each
returns-clause-each c =
    let begun : AreBegun (flat_map counts_of c.args.items.now) c.in_ok-rows.rows.items =
    subst (λ (ns : List ℕ). AreBegun ns c.in_ok-rows.rows.items) (c.as_slice.ensures ∙ c.in_ok-counts.ensures) c.in_ok-rows.ensures in
    let got : Got (owners_from 0 c.args.items.now) c.args.uses.now.meanings c.in_ok-rows.rows.items c.give_all.new.rows.items =
    subst (λ (ts : List ℕ). Got (owners_from 0 c.args.items.now) ts c.in_ok-rows.rows.items c.give_all.new.rows.items) c.as_slice-3.ensures
    (subst (λ (us : List ℕ). Got us c.as_slice-3.result.now c.in_ok-rows.rows.items c.give_all.new.rows.items) (c.as_slice-2.ensures ∙ c.in_ok-owners.ensures) c.in_ok-give_all.ensures) in
    as_many_rows c.args.items.now c.args.uses.now.meanings c.requires c.in_ok-rows.rows.items c.give_all.new.rows.items begun got

pub returns-clause-uses : goal.returns-clause-uses
returns-clause-uses c user to =
    let begun : AreBegun (flat_map counts_of c.args.items.now) c.in_ok-rows.rows.items =
    subst (λ (ns : List ℕ). AreBegun ns c.in_ok-rows.rows.items) (c.as_slice.ensures ∙ c.in_ok-counts.ensures) c.in_ok-rows.ensures in
    let got : Got (owners_from 0 c.args.items.now) c.args.uses.now.meanings c.in_ok-rows.rows.items c.give_all.new.rows.items =
    subst (λ (ts : List ℕ). Got (owners_from 0 c.args.items.now) ts c.in_ok-rows.rows.items c.give_all.new.rows.items) c.as_slice-3.ensures
    (subst (λ (us : List ℕ). Got us c.as_slice-3.result.now c.in_ok-rows.rows.items c.give_all.new.rows.items) (c.as_slice-2.ensures ∙ c.in_ok-owners.ensures) c.in_ok-give_all.ensures) in (
      listed c.args.items.now c.args.uses.now.meanings c.requires c.in_ok-rows.rows.items c.give_all.new.rows.items begun got user to,
      used c.args.items.now c.args.uses.now.meanings c.requires c.in_ok-rows.rows.items c.give_all.new.rows.items begun got user to,
    )
