use Rattle.std.proofs.Common.{◌≡◌, ◌∙◌, List, Bool, MatchBool, None, ℕ, ap, subst}
use Rattle.fp_machine_rules.specs.declared.item.Target.{Target}
use Rattle.fp_machine_rules.specs.declared.gathering.Parts.{Parts}
use Rattle.fp_machine_rules.specs.Members.{initials}
use Rattle.fp_machine_rules.specs.Reaching.{IsReached}
use Rattle.fp_machine_rules.specs.Leaving.{MeetsUndefined}
use Rattle.fp_machine_rules.specs.Undefined.{flag, flags_from}
use Rattle.fp_base.proofs.Options.{if_ok_then}
use Rattle.fp_machine_rules.proofs.Steps.{flags_exact}
use Rattle.fp_machine_rules.proofs.reached.unreached.Goals as goal

reached_as : (rows rows' : List (List Target)) (starts starts' : List Target) (seen : List Bool) (found : List ℕ) → rows ≡ rows' → starts ≡ starts'
    → IsReached rows starts seen found → IsReached rows' starts' seen found
reached_as rows rows' starts starts' seen found r s h =
    subst (λ (x : List Target). IsReached rows' x seen found) s (subst (λ (x : List (List Target)). IsReached x starts seen found) r h)

met_as : (b : Bool) (starts starts' : List Target) (rows rows' : List (List Target)) (found found' : List ℕ) → starts ≡ starts' → rows ≡ rows' → found ≡ found'
    → MatchBool b (MeetsUndefined starts rows found) (MeetsUndefined starts rows found → ⊥)
    → MatchBool b (MeetsUndefined starts' rows' found') (MeetsUndefined starts' rows' found' → ⊥)
met_as b starts starts' rows rows' found found' s r f h =
    subst (λ (x : List ℕ). MatchBool b (MeetsUndefined starts' rows' x) (MeetsUndefined starts' rows' x → ⊥)) f
    (subst (λ (x : List (List Target)). MatchBool b (MeetsUndefined starts' x found) (MeetsUndefined starts' x found → ⊥)) r
    (subst (λ (x : List Target). MatchBool b (MeetsUndefined x rows found) (MeetsUndefined x rows found → ⊥)) s h))

pub returns : goal.returns
returns c =
    let items = c.args.items.now in
    let own = ap (λ (ps : Parts). ps.initials) c.requires.gathered.own in
    let visit = reached_as _ c.in_ok-rows.rows.items _ (initials items None) _ _ c.deref.ensures.value (c.as_slice.ensures ∙ own) c.in_ok-visit.ensures in
    let met = met_as _ _ (initials items None) _ c.in_ok-rows.rows.items _ _ (c.as_slice-2.ensures ∙ own) c.deref-2.ensures.value c.deref-3.ensures.value c.meets_undefined-wanting.ensures in
    if_ok_then c.flagged.result _ _ (λ flags e. flags_exact items c.in_ok-rows.rows.items c.in_ok-rows.ensures _ _ visit _ met flags.items (e ∙ ap (λ (s : List Bool). flags_from (flag s c.meets_undefined-wanting.result) 0 items) c.deref-4.ensures.value)) c.flagged.ensures
