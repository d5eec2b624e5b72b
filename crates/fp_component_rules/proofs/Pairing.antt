-- Matches of ports by what is known of the first of each name.
use Rattle.std.proofs.Common.{◌≡◌, ◌↔◌, ◌∙◌, ◌⊎◌, inl, inr, ℕ, ℤ, Bool, true, false, not, ◌||◌, List, Option, Some, None, refl, sym, ap, subst, bytes_eq}
use Rattle.std.specs.Prelude.{option_map}
use Rattle.std.specs.List.{find}
use Rattle.std.specs.Ordering.{int_eq}
use Rattle.std.proofs.lemmas.Bool.Decides.{Decides-int_eq}
use Rattle.std.proofs.lemmas.Bool.{not_from_false}
use Rattle.fp_base.specs.declared.rule.Rule.TheVariants.{BadMatch}
use Rattle.fp_base.specs.Least.{IsLeast, broken_at}
use Rattle.fp_base.proofs.Bools.{not_true, or_cases, or_left, or_right, not_both}
use Rattle.fp_base.proofs.Calculus.{least_none, least_told}
use Rattle.fp_base.proofs.Options.{one_some, same_some}
use Rattle.fp_base.proofs.Bytes.{same_bytes, bytes_same}
use Rattle.fp_written_parts.specs.declared.port.WrittenPort.{WrittenPort}
use Rattle.fp_written_parts.specs.declared.member.WrittenInterface.{WrittenInterface}
use Rattle.fp_written_parts.specs.declared.member.WrittenMatch.{WrittenMatch}
use Rattle.fp_written_parts.specs.declared.member.WrittenMember.{WrittenMember}
use Rattle.fp_written_parts.specs.declared.member.WrittenMember.TheVariants.{Port, Import, Command, Event, Channel, Param, Match, Running}
use Rattle.fp_component_rules.specs.Firsts.{is_named}
use Rattle.fp_component_rules.specs.Gifts.{IsGift, LeadsAmong}
use Rattle.fp_component_rules.specs.declared.gift.Gift.{Gift}
use Rattle.fp_component_rules.proofs.GatheringLaws.{first_gift, no_truth, same_list}
use Rattle.fp_component_rules.specs.declared.matching.End.{End}
use Rattle.fp_component_rules.specs.Broken.{DifferInSize, IsBadMatch, MatchAt, Names, NamesNone, NamesUnlike, is_general, size_of}
use Rattle.fp_component_rules.specs.Tested.{end_of, fails, match_fault, sizes_differ}
use Rattle.fp_component_rules.proofs.Folding.{flag_told}

-- ---- sizes

pub sizes_told : (s t : Option ℤ) → (sizes_differ s t ≡ true) ↔ DifferInSize s t
sizes_told None t = (λ e. no_truth e, λ d. absurd (cc d.2))
sizes_told (Some m) None = (λ e. no_truth e, λ d. absurd (cc d.3))
sizes_told (Some m) (Some n) = (λ e. (m, n, refl, refl, to (int_eq m n) refl e), λ d. back d (int_eq m n) refl)
  where
    to : (b : Bool) → int_eq m n ≡ b → not b ≡ true → m ≡ n → ⊥
    to true is e same = absurd (cc)
    to false is e same = not_both ((Decides-int_eq m n).1 same) is

    back : DifferInSize (Some m) (Some n) → (b : Bool) → int_eq m n ≡ b → not b ≡ true
    back d true is = absurd (d.4 (sym (same_some d.2) ∙ (Decides-int_eq m n).0 is ∙ same_some d.3))
    back d false is = refl

-- ---- tests

abbrev IsUnlike : Type 0 → WrittenPort → WrittenPort → Type 0
IsUnlike Same p q = Same ⊎ ((is_general p.role ≡ false) ⊎ ((is_general q.role ≡ false) ⊎ DifferInSize (size_of p.size) (size_of q.size)))

unlike_told : (Same : Type 0) (same : Bool) (p q : WrittenPort) → (same ≡ true) ↔ Same
    → ((((same || not (is_general p.role)) || not (is_general q.role)) || sizes_differ (size_of p.size) (size_of q.size)) ≡ true) ↔ IsUnlike Same p q
unlike_told Same same p q told = (λ e. last (or_cases ((same || a) || b) d e), back)
  where
    a : Bool
    a = not (is_general p.role)

    b : Bool
    b = not (is_general q.role)

    d : Bool
    d = sizes_differ (size_of p.size) (size_of q.size)

    first : (same ≡ true) ⊎ (a ≡ true) → IsUnlike Same p q
    first (inl e) = inl (told.0 e)
    first (inr e) = inr (inl (not_true (is_general p.role) e))

    next : ((same || a) ≡ true) ⊎ (b ≡ true) → IsUnlike Same p q
    next (inl e) = first (or_cases same a e)
    next (inr e) = inr (inr (inl (not_true (is_general q.role) e)))

    last : (((same || a) || b) ≡ true) ⊎ (d ≡ true) → IsUnlike Same p q
    last (inl e) = next (or_cases (same || a) b e)
    last (inr e) = inr (inr (inr ((sizes_told (size_of p.size) (size_of q.size)).0 e)))

    back : IsUnlike Same p q → (((same || a) || b) || d) ≡ true
    back (inl e) = or_left ((same || a) || b) d (or_left (same || a) b (or_left same a (told.1 e)))
    back (inr (inl e)) = or_left ((same || a) || b) d (or_left (same || a) b (or_right same a (not_from_false (is_general p.role) e)))
    back (inr (inr (inl e))) = or_left ((same || a) || b) d (or_right (same || a) b (not_from_false (is_general q.role) e))
    back (inr (inr (inr e))) = or_right ((same || a) || b) d ((sizes_told (size_of p.size) (size_of q.size)).1 e)

-- ---- the ports that names stand for

module _ (fs : List WrittenInterface) (ms : List WrittenMember) (gift : Gift) (h : IsGift fs ms gift) where
  abbrev stands_for : List ℕ → Option WrittenPort
  stands_for name = find (is_named name) h.all

  names_it : (name : List ℕ) (p : WrittenPort) → stands_for name ≡ Some p → Names fs ms name p
  names_it name p e = record { all = h.all; given = h.given; first = e }

  it_names : (name : List ℕ) (p : WrittenPort) → Names fs ms name p → stands_for name ≡ Some p
  it_names name p n = subst (λ (ps : List WrittenPort). find (is_named name) ps ≡ Some p) (same_list fs ms gift h n.all n.given) n.first

  names_none : (name : List ℕ) → stands_for name ≡ None → NamesNone fs ms name
  names_none name none p n = let e = it_names name p n in absurd (cc)

  -- a name that stands for none, or one for which nothing is known
  wanting : (d : WrittenMatch) → NamesNone fs ms d.first ⊎ NamesNone fs ms d.second → (not gift.leads_to_cycle ≡ true) ↔ IsBadMatch fs ms d
  wanting d none = (λ e. inl (none, λ l. not_both ((flag_told gift.leads_to_cycle h.leads).1 l) (not_true gift.leads_to_cycle e)), back)
    where
      unled : (b : Bool) → gift.leads_to_cycle ≡ b → (LeadsAmong fs ms → ⊥) → not b ≡ true
      unled true e no_lead = absurd (no_lead ((flag_told gift.leads_to_cycle h.leads).0 e))
      unled false e no_lead = refl

      there : NamesNone fs ms d.first ⊎ NamesNone fs ms d.second → NamesUnlike fs ms d → ⊥
      there (inl never) u = never u.one u.first
      there (inr never) u = never u.other u.second

      back : IsBadMatch fs ms d → not gift.leads_to_cycle ≡ true
      back (inl t) = unled gift.leads_to_cycle refl t.1
      back (inr u) = absurd (there none u)

  -- both stand for a port
  unlike : (d : WrittenMatch) (p q : WrittenPort) → stands_for d.first ≡ Some p → stands_for d.second ≡ Some q → IsUnlike (d.first ≡ d.second) p q ↔ IsBadMatch fs ms d
  unlike d p q first second = (λ u. inr (record { one = p; first = names_it d.first p first; other = q; second = names_it d.second q second; unlike = u }), back)
    where
      same : (u : NamesUnlike fs ms d) → u.one ≡ p → u.other ≡ q → IsUnlike (d.first ≡ d.second) p q
      same u is are =
          subst (λ (x : WrittenPort). IsUnlike (d.first ≡ d.second) x q) is (subst (λ (y : WrittenPort). IsUnlike (d.first ≡ d.second) u.one y) are u.unlike)

      back : IsBadMatch fs ms d → IsUnlike (d.first ≡ d.second) p q
      back (inl (inl never, l)) = absurd (never p (names_it d.first p first))
      back (inl (inr never, l)) = absurd (never q (names_it d.second q second))
      back (inr u) =
          same u (one_some (stands_for d.first) u.one p (it_names d.first u.one u.first) first)
          (one_some (stands_for d.second) u.other q (it_names d.second u.other u.second) second)

  names_told : (m n : List ℕ) → (bytes_eq m n ≡ true) ↔ (m ≡ n)
  names_told m n = (same_bytes m n, bytes_same m n)

  bad_told : (d : WrittenMatch) (x y : Option WrittenPort) → stands_for d.first ≡ x → stands_for d.second ≡ y
      → (fails (option_map end_of x) (option_map end_of y) (bytes_eq d.first d.second) gift.leads_to_cycle ≡ true) ↔ IsBadMatch fs ms d
  bad_told d None y first second = wanting d (inl (names_none d.first first))
  bad_told d (Some p) None first second = wanting d (inr (names_none d.second second))
  bad_told d (Some p) (Some q) first second =
      let told = unlike_told (d.first ≡ d.second) (bytes_eq d.first d.second) p q (names_told d.first d.second) in
      let bad = unlike d p q first second in
      (λ e. bad.0 (told.0 e), λ b. told.1 (bad.1 b))

  -- ---- a member

  abbrev pub FindsEnds : (List ℕ → Option End) → Type 0
  FindsEnds found = (q : List ℕ) → found q ≡ option_map end_of (find (is_named q) gift.firsts)

  pub match_least : (found : List ℕ → Option End) → FindsEnds found → (m : WrittenMember) → IsLeast (MatchAt fs ms m) (match_fault found gift.leads_to_cycle m)
  match_least found finds (Match d) = least_told (IsBadMatch fs ms d) _ (broken_at BadMatch d.at) _ (told (found d.first) (found d.second) (known d.first) (known d.second)) refl
    where
      known : (q : List ℕ) → found q ≡ option_map end_of (stands_for q)
      known q = finds q ∙ ap (option_map end_of) (first_gift fs ms gift h q)

      told : (x y : Option End) → x ≡ option_map end_of (stands_for d.first) → y ≡ option_map end_of (stands_for d.second)
          → (fails x y (bytes_eq d.first d.second) gift.leads_to_cycle ≡ true) ↔ IsBadMatch fs ms d
      told x y first second =
          subst (λ (z : Option End). (fails z y (bytes_eq d.first d.second) gift.leads_to_cycle ≡ true) ↔ IsBadMatch fs ms d) (sym first)
          (subst (λ (z : Option End). (fails (option_map end_of (stands_for d.first)) z (bytes_eq d.first d.second) gift.leads_to_cycle ≡ true) ↔ IsBadMatch fs ms d) (sym second)
          (bad_told d (stands_for d.first) (stands_for d.second) refl refl))
  match_least found finds (Port p) = least_none (λ f t. t)
  match_least found finds (Import i) = least_none (λ f t. t)
  match_least found finds (Command x) = least_none (λ f t. t)
  match_least found finds (Event x) = least_none (λ f t. t)
  match_least found finds (Channel x) = least_none (λ f t. t)
  match_least found finds (Param x) = least_none (λ f t. t)
  match_least found finds (Running x) = least_none (λ f t. t)
