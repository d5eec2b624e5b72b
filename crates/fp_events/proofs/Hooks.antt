-- What a hook adds to the open frames and to the untaken calls.
use Rattle.std.proofs.Common.{◌≡◌, ℕ, Bool, true, false, cond, ◌==◌, List, [], ◌∷◌, ◌++◌, drop, refl, ap, ◌∙◌}
use Rattle.fp_base.proofs.Sameness.{nat_same}
use Rattle.fp_tables.specs.Lookup.{Described}
use Rattle.fp_events.specs.declared.event.Arrival.{Arrival}
use Rattle.fp_events.specs.declared.event.Entry.{Entry}
use Rattle.fp_events.specs.declared.event.What.{What}
use Rattle.fp_events.specs.declared.event.What.TheVariants as what
use Rattle.fp_events.specs.Frames.{opens, ends_a_frame, open_from, open_frames}
use Rattle.fp_events.specs.QueueOrder.{untaken_after, untaken_from}
use Rattle.fp_events.specs.Run.{at, by}
use Rattle.fp_events.proofs.FramesPair.{open_from-more}
use Rattle.fp_events.proofs.QueueLaws.{untaken_from-more}
use Rattle.fp_events.specs.SystemRun.{projection}

-- the last entry is one of its own projection
one_more : (test : Bool) (x e : Entry) (longer shorter : List Entry) → longer ≡ shorter ++ e ∷ [] → cond test (x ∷ longer) longer ≡ cond test (x ∷ shorter) shorter ++ e ∷ []
one_more true x e longer shorter h = ap (λ (l : List Entry). x ∷ l) h
one_more false x e longer shorter h = h

projected_last : (number : Entry → ℕ) (es : List Entry) (e : Entry) → projection number (number e) (es ++ e ∷ []) ≡ projection number (number e) es ++ e ∷ []
projected_last number [] e = rw (nat_same.itself (number e)) refl
projected_last number (x ∷ es) e =
    one_more (number x == number e) x e (projection number (number e) (es ++ e ∷ [])) (projection number (number e) es) (projected_last number es e)

pub hook_opens : (es : List Entry) (e : Entry) (r : Arrival) → e.what ≡ what.Hooked r → open_frames e.actor (es ++ e ∷ []) ≡ e ∷ open_frames e.actor es
hook_opens es e r is =
    ap (λ (l : List Entry). open_from [] l) (projected_last (λ e. e.actor) es e) ∙ open_from-more [] (by e.actor es) e
    ∙ ap (λ (w : What). cond (opens w) (e ∷ open_from [] (by e.actor es)) (cond (ends_a_frame w) (drop 1 (open_from [] (by e.actor es))) (open_from [] (by e.actor es)))) is

pub hook_puts_nothing : (t : Described) (es : List Entry) (e : Entry) (r : Arrival) → e.what ≡ what.Hooked r
    → untaken_from t e.instance [] (at e.instance (es ++ e ∷ [])) ≡ untaken_from t e.instance [] (at e.instance es)
hook_puts_nothing t es e r is =
    ap (λ (l : List Entry). untaken_from t e.instance [] l) (projected_last (λ e. e.instance) es e) ∙ untaken_from-more t e.instance [] (at e.instance es) e
    ∙ ap (λ (w : What). untaken_after t e.instance (untaken_from t e.instance [] (at e.instance es)) w) is
