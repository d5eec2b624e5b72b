-- What holds of what each file gives, and goes over to that with inserts in place of includes, holds of what files give that names ask for.
use Rattle.std.proofs.Common.{ℕ, zero, suc, List, [], ◌∷◌, Option, inl, inr, sym, subst}
use Rattle.std.specs.List.{AllByRecursion}
use Rattle.fp_outside.specs.declared.files.HeldFile.{HeldFile}
use Rattle.fp_parse_parts.specs.declared.parsing.Inside.{Inside}
use Rattle.fp_parse_parts.specs.declared.parsing.Inside.TheVariants as inside
use Rattle.fp_parse_parts.specs.declared.parsing.Members.{Members}
use Rattle.fp_parse_parts.specs.declared.parsing.Members.TheVariants as given
use Rattle.fp_tree.specs.declared.member.Member.{Member}
use Rattle.fp_gather.specs.declared.gathering.including.Inclusion.{Inclusion}
use Rattle.fp_gather.proofs.OneWalk.{same_given}
use Rattle.fp_gather.specs.gathering.Includes.{included_name, inclusions_in, replaced}
use Rattle.fp_gather.specs.gathering.Reading.{Reading, Gives, nothing_in}
use Rattle.fp_gather.specs.gathering.Walks.{Walked, Walk, Went, WalksEach, IsRefused, Reads, WalksFile, WalksInclude, WalksNamed, WalksFiles, most_levels, next_reading, nothing_read}

-- what a walk gives has it
abbrev GivesKept : {A : Type 0} → (A → Type 0) → Walk A → Type 0
GivesKept {A = A} Q P = (before after : Walked) (x : A) → P before (Went after x) → Q x

each_kept : {X A : Type 0} (Q : A → Type 0) (P : X → Walk A) → ((x : X) → GivesKept Q (P x)) → (xs : List X) → GivesKept (AllByRecursion Q) (WalksEach P xs)
each_kept Q P kept [] before after ys h = subst (AllByRecursion Q) (sym h.1) tt
each_kept Q P kept (x ∷ xs) before after ys (between, first, others, p, rest, e) =
    subst (AllByRecursion Q) (sym e) (kept x before between first p, each_kept Q P kept xs between after others rest)

module _ (K : Members → Type 0) (none : (i : Inside) → K (nothing_in i))
    (replace : (own : Members) (inserts : List Members) → K own → AllByRecursion K inserts → K (replaced own inserts))
    (gift : (r : Reading) (x : Members) → Gives r x → K x) (told : Option (List HeldFile)) where
  read_kept : (round : List (List ℕ)) (within : Inside) (name : List ℕ) → GivesKept K (Reads told round within name)
  read_kept round within name before after own (text, held, e, g) = gift (next_reading before round within name text) own g

  file_kept : (inclusion : List (List ℕ) → Inclusion → Walk Members) → ((round : List (List ℕ)) (i : Inclusion) → GivesKept K (inclusion round i))
      → (round : List (List ℕ)) (within : Inside) (name : List ℕ) → GivesKept K (WalksFile told inclusion round within name)
  file_kept inclusion kept round within name before after whole (read, own, inserts, h, hs, e) =
      subst K (sym e) (replace own inserts (read_kept round within name before read own h)
      (each_kept K (inclusion (name ∷ round)) (kept (name ∷ round)) (inclusions_in own) read after inserts hs))

  refused_kept : (i : Inclusion) → GivesKept K (IsRefused i)
  refused_kept i before after x h = subst K (sym (same_given h)) (none i.inside)

  include_kept : (levels : ℕ) (round : List (List ℕ)) (i : Inclusion) → GivesKept K (WalksInclude told levels round i)
  include_kept zero round i before after x h = refused_kept i before after x h
  include_kept (suc levels) round i before after x (inl h) = refused_kept i before after x h.1
  include_kept (suc levels) round i before after x (inr h) =
      file_kept (WalksInclude told levels) (include_kept levels) round i.inside (included_name round i.include) before after x h.1

  named_kept : (name : List ℕ) → GivesKept (λ (ms : List Member). K (given.Unit ms)) (WalksNamed told name)
  named_kept name before after ms h = file_kept (WalksInclude told most_levels) (include_kept most_levels) [] inside.Unit name before after (given.Unit ms) h

  -- the members of each file that the names ask for
  pub units_kept : (names : List (List ℕ)) (walked : Walked) (units : List (List Member)) → WalksFiles told names nothing_read (Went walked units)
      → AllByRecursion (λ (ms : List Member). K (given.Unit ms)) units
  units_kept names walked units h = each_kept (λ (ms : List Member). K (given.Unit ms)) (WalksNamed told) named_kept names nothing_read walked units h
