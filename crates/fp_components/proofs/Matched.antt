-- Matches one after another, and the positions of their ports.
use Rattle.std.proofs.Common.{◌≡◌, ◌∙◌, ℕ, zero, suc, ◌+◌, ◌≤◌, true, List, [], ◌∷◌, ◌++◌, length, take, flat_map, slice_get, Option, Some, None, is_some, sym, ap}
use Rattle.std.specs.Prelude.{position, OnOk, Result}
use Rattle.std.proofs.lemmas.Grind.{flat_map-append}
use Rattle.std.proofs.lemmas.List.{append-nil, take_all}
use Rattle.fp_base.proofs.Lists.{take_next}
use Rattle.fp_base.proofs.Options.{on_ok_then}
use Rattle.fp_tables.proofs.Firsts.{placed_somewhere}
use Rattle.fp_written_parts.specs.declared.member.WrittenMatch.{WrittenMatch}
use Rattle.fp_written_parts.specs.declared.member.WrittenMember.{WrittenMember}
use Rattle.fp_written_parts.specs.declared.member.WrittenMember.TheVariants as member
use Rattle.fp_written_parts.specs.declared.port.WrittenPort.{WrittenPort}
use Rattle.fp_component_rules.specs.Firsts.{has_port, is_named}
use Rattle.fp_components.specs.Listing.{AreWholeMatches}
use Rattle.fp_components.specs.Resolved.{AreEach, IsMatch, match_in}
use Rattle.fp_components.specs.Whole.{IsWholeMatch}
use Rattle.fp_components.proofs.Each.{each_push, each_same}

module _ (all : List WrittenPort) where
  pub one_whole : (members : List WrittenMember) (k : ℕ) (m : WrittenMember) → slice_get members k ≡ Some m → AreWholeMatches all members → AreWholeMatches all (m ∷ [])
  one_whole members k m at whole zero d e = whole k d (at ∙ e)
  one_whole members k m at whole (suc j) d e = absurd (cc)

  pub matches_next : (members : List WrittenMember) (k : ℕ) (m : WrittenMember) (pairs : List (ℕ × ℕ)) → slice_get members k ≡ Some m
      → AreEach (λ n. IsMatch all) (flat_map match_in (take k members) ++ match_in m) pairs → AreEach (λ n. IsMatch all) (flat_map match_in (take (k + 1) members)) pairs
  matches_next members k m pairs at h =
      each_same (λ n. IsMatch all) _ _ pairs
      (sym (ap (flat_map match_in) (take_next members k m at) ∙ flat_map-append match_in (take k members) (m ∷ [])
      ∙ ap (λ (ds : List WrittenMatch). flat_map match_in (take k members) ++ ds) (append-nil (match_in m)))) h

  pub matches_all : (members : List WrittenMember) (k : ℕ) (pairs : List (ℕ × ℕ)) → length members ≤ k → AreEach (λ n. IsMatch all) (flat_map match_in (take k members)) pairs
      → AreEach (λ n. IsMatch all) (flat_map match_in members) pairs
  matches_all members k pairs past h = each_same (λ n. IsMatch all) _ _ pairs (ap (flat_map match_in) (take_all k members past)) h

  -- a member that is no match
  pub passed : (before : List WrittenMatch) (m n : WrittenMember) (pairs : List (ℕ × ℕ)) → m ≡ n → match_in n ≡ [] → AreEach (λ k. IsMatch all) before pairs
      → AreEach (λ k. IsMatch all) (before ++ match_in m) pairs
  passed before m n pairs is none h =
      each_same (λ k. IsMatch all) before (before ++ match_in m) pairs
      (sym (ap (λ (x : WrittenMember). before ++ match_in x) is ∙ ap (λ (ds : List WrittenMatch). before ++ ds) none ∙ append-nil before)) h

  -- no port has the name
  pub no_position : {B : Type 0} (name : List ℕ) (o : Option ℕ) → o ≡ position (is_named name) all → None ≡ o → has_port name all ≡ true → B
  no_position name o is none has =
      let there : is_some (position (is_named name) all) ≡ true = placed_somewhere (is_named name) all ∙ has in
      absurd (cc)

  -- and one that is
  pub with_match : {T E : Type 0} (r : Result T E) (before : List WrittenMatch) (m : WrittenMember) (f d : WrittenMatch) (pairs more : List (ℕ × ℕ)) (pair : ℕ × ℕ) → m ≡ member.Match f → d ≡ f
      → AreWholeMatches all (m ∷ []) → (IsWholeMatch all d → IsMatch all d pair) → AreEach (λ k. IsMatch all) before pairs → OnOk r (more ≡ pairs ++ pair ∷ [])
      → OnOk r (AreEach (λ k. IsMatch all) (before ++ match_in m) more)
  with_match r before m f d pairs more pair is same whole clause h pushed =
      on_ok_then r (more ≡ pairs ++ pair ∷ []) (AreEach (λ k. IsMatch all) (before ++ match_in m) more)
      (λ e. each_same (λ k. IsMatch all) (before ++ d ∷ []) (before ++ match_in m) more
      (ap (λ (x : WrittenMatch). before ++ x ∷ []) same ∙ sym (ap (λ (x : WrittenMember). before ++ match_in x) is))
      (each_push (λ k. IsMatch all) before pairs more d pair e (clause (whole zero d (ap Some (is ∙ ap member.Match (sym same))))) h)) pushed
