-- A file that a reading misses isn't there.
use Rattle.std.proofs.Common.{◌≡◌, ℕ, zero, suc, List, [], ◌∷◌, Option, None, inl, inr, sym, subst}
use Rattle.fp_outside.specs.declared.files.HeldFile.{HeldFile}
use Rattle.fp_parse_parts.specs.declared.parsing.Inside.{Inside}
use Rattle.fp_parse_parts.specs.declared.parsing.Inside.TheVariants as inside
use Rattle.fp_parse_parts.specs.declared.parsing.Members.{Members}
use Rattle.fp_gather.specs.FilesRun.{IsHeld}
use Rattle.fp_gather.specs.declared.gathering.including.Inclusion.{Inclusion}
use Rattle.fp_gather.specs.gathering.Includes.{included_name, inclusions_in}
use Rattle.fp_gather.specs.gathering.Walks.{WalksEach, NoFile, Outcome, Reads, Stopped, Stops, Walk, Walked, WalksFile, WalksFiles, WalksInclude, WalksNamed, Went, most_levels, nothing_read}

abbrev HasGone : {A : Type 0} → Outcome A → Type 0
HasGone (Went after gives) = Unit {0}
HasGone (Stops stopped) = ⊥

pub gone_not_stopped : {A : Type 0} (v : Walked) (a : A) (s : Stopped) → Went v a ≡ Stops s → ⊥
gone_not_stopped v a s e = subst HasGone e tt

-- where a walk misses a file, the property holds of its name
abbrev Misses : {X A : Type 0} → (List ℕ → Type 0) → (X → Walk A) → Type 0
Misses {X = X} Q P = (x : X) (before : Walked) (absent : List ℕ) → P x before (Stops (NoFile absent)) → Q absent

module _ {X A : Type 0} (Q : List ℕ → Type 0) (P : X → Walk A) (misses : Misses Q P) where
  each_misses : (xs : List X) (before : Walked) (absent : List ℕ) → WalksEach P xs before (Stops (NoFile absent)) → Q absent
  each_misses [] before absent e = absurd e
  each_misses (x ∷ xs) before absent (inl e) = misses x before absent e
  each_misses (x ∷ xs) before absent (inr (between, first, p, e)) = each_misses xs between absent e

module _ (told : Option (List HeldFile)) where
  reads_misses : (round : List (List ℕ)) (within : Inside) → Misses (λ n. IsHeld told n None) (Reads told round within)
  reads_misses round within name before absent e = subst (λ (n : List ℕ). IsHeld told n None) (sym e.0) e.1

  file_misses : (inclusion : List (List ℕ) → Inclusion → Walk Members) → ((round : List (List ℕ)) → Misses (λ n. IsHeld told n None) (inclusion round))
      → (round : List (List ℕ)) (within : Inside) → Misses (λ n. IsHeld told n None) (WalksFile told inclusion round within)
  file_misses inclusion misses round within name before absent (inl e) = reads_misses round within name before absent e
  file_misses inclusion misses round within name before absent (inr (read, own, p, e)) =
      each_misses (λ n. IsHeld told n None) (inclusion (name ∷ round)) (misses (name ∷ round)) (inclusions_in own) read absent e

  include_misses : (levels : ℕ) (round : List (List ℕ)) → Misses (λ n. IsHeld told n None) (WalksInclude told levels round)
  include_misses zero round i before absent e = absurd (gone_not_stopped _ _ (NoFile absent) (sym e))
  include_misses (suc levels) round i before absent (inl e) = absurd (gone_not_stopped _ _ (NoFile absent) (sym e.1))
  include_misses (suc levels) round i before absent (inr e) =
      file_misses (WalksInclude told levels) (include_misses levels) round i.inside (included_name round i.include) before absent e.1

  named_misses : Misses (λ n. IsHeld told n None) (WalksNamed told)
  named_misses name before absent e = file_misses (WalksInclude told most_levels) (include_misses most_levels) [] inside.Unit name before absent e

  pub missing : (names : List (List ℕ)) (absent : List ℕ) → WalksFiles told names nothing_read (Stops (NoFile absent)) → IsHeld told absent None
  missing names absent = each_misses (λ n. IsHeld told n None) (WalksNamed told) named_misses names nothing_read absent
