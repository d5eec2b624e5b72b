-- The least link that is flagged.
use Rattle.std.proofs.Common.{◌≡◌, ◌∙◌, ℕ, ◌+◌, ◌≤◌, Bool, true, false, cond, List, length, slice_get, Option, Some, None, sym, arith}
use Rattle.std.specs.Prelude.{unwrap_or}
use Rattle.std.proofs.lemmas.Option.{slice_get_within}
use Rattle.fp_base.specs.Least.{InFirst, InSome, IsLeast, broken_at, lesser_of}
use Rattle.fp_base.specs.declared.rule.Rule.{Rule}
use Rattle.fp_base.specs.declared.refusal.Refusal.{Refusal}
use Rattle.fp_base.proofs.Calculus.{least_along, least_if, least_same}
use Rattle.fp_base.proofs.Elements.{least_first_next, least_first_none, least_in_one}
use Rattle.fp_component_rules.specs.declared.links.Link.{Link}
use Rattle.fp_component_rules.specs.Flagged.{FlaggedLink}

module _ (flags : List Bool) (rule : Rule) (links : List Link) where
  pub flagged_none : IsLeast (InFirst 0 (FlaggedLink flags rule) links) None
  flagged_none = least_first_none (FlaggedLink flags rule) links

  pub flagged_next : (k : ℕ) (link : Link) (first one more : Option Refusal) (flag : Bool) → slice_get links k ≡ Some link → flag ≡ unwrap_or (slice_get flags k) false
      → one ≡ cond flag (Some (broken_at rule link.written.at)) None → more ≡ lesser_of first one → IsLeast (InFirst k (FlaggedLink flags rule) links) first
      → IsLeast (InFirst (k + 1) (FlaggedLink flags rule) links) more
  flagged_next k link first one more flag at is found lesser before =
      least_along (sym lesser)
      (least_first_next (FlaggedLink flags rule) links k first one before
      (least_in_one (FlaggedLink flags rule) links k link one at
      (least_along (sym found) (least_if flag (broken_at rule link.written.at) (λ e. sym is ∙ e) (λ e h. false_not flag e (is ∙ h))))))
    where
      false_not : (b : Bool) → b ≡ false → b ≡ true → ⊥
      false_not true e h = absurd (cc)
      false_not false e h = absurd (cc)

  pub flagged_all : (k : ℕ) (first : Option Refusal) → length links ≤ k → IsLeast (InFirst k (FlaggedLink flags rule) links) first → IsLeast (InSome (FlaggedLink flags rule) links) first
  flagged_all k first past l =
      least_same (λ f t. (t.0, t.1, t.3, t.4))
      (λ f t.
      let low = slice_get_within links t.0 t.1 t.2 in
      (t.0, t.1, omega arith, t.2, t.3)) l
