use Rattle.std.proofs.Common.{◌∙◌, ◌&&◌, Bool, List, not, ap, ap₂}
use Rattle.std.specs.List.{filter}
use Rattle.std.proofs.Common.{map}
use Rattle.fp_tables.specs.Names.{numbers_differ}
use Rattle.fp_tables.specs.declared.component.Limit.{Limit}
use Rattle.fp_sound_model.proofs.channels.has_good_limits.Goals as goal

pub returns : goal.returns
returns c =
    let same = c.as_slice.ensures in
    let above = c.in_ok-above-2.ensures ∙ ap numbers_differ (c.in_ok-above.ensures.above ∙ ap (λ (ls : List Limit). map (λ (l : Limit). l.color) (filter (λ (l : Limit). l.high) ls)) same) in
    let below = c.in_ok-below.ensures ∙ ap numbers_differ (c.in_ok-above.ensures.below ∙ ap (λ (ls : List Limit). map (λ (l : Limit). l.color) (filter (λ (l : Limit). not l.high) ls)) same) in
    ap₂ (λ (a b : Bool). a && b) (ap₂ (λ (a b : Bool). a && b) c.may_have_limits.ensures above) below
