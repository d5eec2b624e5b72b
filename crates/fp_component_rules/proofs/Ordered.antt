-- The gifts of interfaces, gathered in their order.
use Rattle.std.proofs.Common.{◌≡◌, ◌∙◌, ◌⊎◌, inl, inr, ℕ, ◌+◌, ◌<◌, ◌≤◌, Bool, true, false, MatchBool, List, [], ◌∷◌, ◌++◌, length, slice_get, set, take, Some, refl, sym, ap, subst, arith}
use Rattle.std.proofs.lemmas.List.{length-append, length-set}
use Rattle.std.proofs.lemmas.Option.{slice_get_within}
use Rattle.fp_base.proofs.Lists.{get_front, get_last, take_next}
use Rattle.fp_base.proofs.Options.{one_some}
use Rattle.fp_base.proofs.Spots.{below_or_at, get_push, get_set_other, get_set_same, item_below, same_or_other}
use Rattle.fp_graph.specs.Chains.{AreFlags, IsOrder}
use Rattle.fp_written_parts.specs.declared.member.WrittenInterface.{WrittenInterface}
use Rattle.fp_written_parts.specs.declared.member.WrittenMember.{WrittenMember}
use Rattle.fp_written_parts.specs.declared.member.WrittenMember.TheVariants.{Import}
use Rattle.fp_written_parts.specs.Giving.{Imports, IsCyclic, ImportsWithin}
use Rattle.fp_component_rules.specs.declared.gift.Gift.{Gift}
use Rattle.fp_component_rules.specs.Gathered.{AreGathered, HasGift}
use Rattle.fp_component_rules.specs.Gifts.{AreBegun, AreGifts, IsGift, Serves, SumsUp}
use Rattle.fp_component_rules.proofs.Summed.{gift_cyclic, gift_imported}

flag_is : {P : Type 0} (b : Bool) → MatchBool b P (P → ⊥) → P → b ≡ true
flag_is true h p = refl
flag_is false h p = absurd (h p)

module _ (fs : List WrittenInterface) (order : List ℕ) (cyclic : List Bool) (sorted : IsOrder (length fs) (Imports fs) order) (flagged : AreFlags (length fs) (IsCyclic fs) cyclic) where
  pub gathered_none : (gifts : List Gift) → AreBegun cyclic gifts → AreGathered fs order 0 gifts
  gathered_none gifts begun = record {
    each = begun.each ∙ flagged.each;
    done = λ k v low. absurd (omega arith);
    cyclic = λ v low c i is.
        let within : i.interface < length gifts = let e = begun.each ∙ flagged.each in omega arith in
        let t = item_below gifts i.interface within in
        let b = begun.of i.interface t.0 t.1 in
        let c_i : IsCyclic fs i.interface = subst (IsCyclic fs) (sym is) c in
        record { gift = t.0; here = t.1; is = gift_cyclic fs i t.0 c_i b.0 (flag_is t.0.leads_to_cycle (flagged.exact i.interface t.0.leads_to_cycle b.1) c_i) };
  }

  -- the next is on a cycle
  pub gathered_passed : (count v : ℕ) (gifts : List Gift) → slice_get order count ≡ Some v → slice_get cyclic v ≡ Some true → AreGathered fs order count gifts
      → AreGathered fs order (count + 1) gifts
  gathered_passed count v gifts at flag h = record {
    each = h.each;
    done = λ k w low e. go k w e (below_or_at k count low);
    cyclic = h.cyclic;
  }
    where
      go : (k w : ℕ) → slice_get order k ≡ Some w → (k < count) ⊎ (k ≡ count) → HasGift fs gifts w
      go k w e (inl low) = h.done k w low e
      go k w e (inr last) =
          let same : w ≡ v = one_some (slice_get order count) w v (subst (λ (j : ℕ). slice_get order j ≡ Some w) last e) at in
          subst (HasGift fs gifts) (sym same) (h.cyclic v (sorted.within count v at) (flagged.exact v true flag))

  -- all that the next imports are there
  pub serves_next : (count v : ℕ) (f : WrittenInterface) (gifts : List Gift) → slice_get order count ≡ Some v → slice_get cyclic v ≡ Some false → slice_get fs v ≡ Some f
      → AreGathered fs order count gifts → Serves fs gifts f.members
  serves_next count v f gifts at flag here h k i e =
      let imports : Imports fs v i.interface = record { written = f; here = here; k = k; import_ = i; member = e; of = refl } in
      let t = sorted.behind count v i.interface at (flagged.exact v false flag) imports in
      h.done t.0 i.interface t.1 t.2 i refl

  pub gathered_next : (count v : ℕ) (f : WrittenInterface) (gift : Gift) (gifts : List Gift) → slice_get order count ≡ Some v → slice_get cyclic v ≡ Some false → slice_get fs v ≡ Some f
      → AreGathered fs order count gifts → IsGift fs f.members gift → AreGathered fs order (count + 1) (set gifts v gift)
  gathered_next count v f gift gifts at flag here h is = record {
    each = length-set gifts v gift ∙ h.each;
    done = λ k w low e. noted k w e (below_or_at k count low) (same_or_other w v);
    cyclic = λ w low c. kept w (λ same. flagged.exact v false flag (subst (IsCyclic fs) same c)) (h.cyclic w low c);
  }
    where
      kept : (w : ℕ) → (w ≡ v → ⊥) → HasGift fs gifts w → HasGift fs (set gifts v gift) w
      kept w differ old i of =
          let s = old i of in
          record { gift = s.gift; here = get_set_other gifts v i.interface gift (λ e. differ (sym of ∙ e)) ∙ s.here; is = s.is }

      fresh : HasGift fs (set gifts v gift) v
      fresh i of =
          let low : v < length gifts = let e = h.each in let w = slice_get_within fs v f here in omega arith in
          record {
            gift = gift;
            here = ap (slice_get (set gifts v gift)) of ∙ get_set_same gifts v gift low;
            is = gift_imported fs i f gift (ap (slice_get fs) of ∙ here) (λ c. flagged.exact v false flag (subst (IsCyclic fs) of c)) is;
          }

      noted : (k w : ℕ) → slice_get order k ≡ Some w → (k < count) ⊎ (k ≡ count) → (w ≡ v) ⊎ (w ≡ v → ⊥) → HasGift fs (set gifts v gift) w
      noted k w e low (inl same) = subst (HasGift fs (set gifts v gift)) (sym same) fresh
      noted k w e (inl low) (inr differ) = kept w differ (h.done k w low e)
      noted k w e (inr last) (inr differ) =
          absurd (differ (one_some (slice_get order count) w v (subst (λ (j : ℕ). slice_get order j ≡ Some w) last e) at))

  pub gathered_all : (count : ℕ) (gifts : List Gift) → length order ≤ count → AreGathered fs order count gifts → AreGifts fs gifts
  gathered_all count gifts past h = record {
    each = h.each;
    of = λ i gift here.
        let low : i.interface < length fs = let e = h.each in let w = slice_get_within gifts i.interface gift here in omega arith in
        let t = sorted.all i.interface low in
        let within = slice_get_within order t.0 i.interface t.1 in
        let s = h.done t.0 i.interface (omega arith) t.1 i refl in
        subst (IsGift fs (Import i ∷ [])) (one_some (slice_get gifts i.interface) s.gift gift s.here here) s.is;
  }

-- what members import is among the interfaces
pub serves_within : (fs : List WrittenInterface) (gifts : List Gift) (ms : List WrittenMember) → AreGifts fs gifts → ImportsWithin fs ms → Serves fs gifts ms
serves_within fs gifts ms all within k i e =
    let low : i.interface < length gifts = let n = all.each in let w = within k i e in omega arith in
    let t = item_below gifts i.interface low in
    record { gift = t.0; here = t.1; is = all.of i t.0 t.1 }

-- ---- before any member is looked at

pub begun_none : (gifts : List Gift) → gifts ≡ [] → AreBegun [] gifts
begun_none gifts is = record { each = ap (λ (xs : List Gift). length xs) is; of = λ v g e. none v (subst (λ (xs : List Gift). slice_get xs v ≡ Some g) is e) }
  where
    none : {P : Type 0} {g : Gift} (v : ℕ) → slice_get [] v ≡ Some g → P
    none v e = absurd (cc)

pub begun_next : (flags : List Bool) (k : ℕ) (flag : Bool) (gifts : List Gift) (gift : Gift) (more : List Gift) → slice_get flags k ≡ Some flag → more ≡ gifts ++ gift ∷ []
    → SumsUp [] gift → gift.leads_to_cycle ≡ flag → AreBegun (take k flags) gifts → AreBegun (take (k + 1) flags) more
begun_next flags k flag gifts gift more at is sums leads h = record {
  each =
      ap (λ (xs : List Gift). length xs) is ∙ length-append gifts (gift ∷ []) ∙ ap (λ (n : ℕ). n + 1) h.each
      ∙ sym (ap (λ (xs : List Bool). length xs) (take_next flags k flag at) ∙ length-append (take k flags) (flag ∷ []));
  of = λ v g e. go v g (get_push gifts gift g v (subst (λ (xs : List Gift). slice_get xs v ≡ Some g) is e));
}
  where
    go : (v : ℕ) (g : Gift) → (slice_get gifts v ≡ Some g) ⊎ ((v ≡ length gifts) × (gift ≡ g)) → SumsUp [] g × (slice_get (take (k + 1) flags) v ≡ Some g.leads_to_cycle)
    go v g (inl e) =
        let b = h.of v g e in
        (b.0, subst (λ (xs : List Bool). slice_get xs v ≡ Some g.leads_to_cycle) (sym (take_next flags k flag at)) (get_front (take k flags) (flag ∷ []) v g.leads_to_cycle b.1))
    go v g (inr t) =
        let last : v ≡ length (take k flags) = t.0 ∙ h.each in
        let here : slice_get (take (k + 1) flags) (length (take k flags)) ≡ Some flag =
        ap (λ (xs : List Bool). slice_get xs (length (take k flags))) (take_next flags k flag at) ∙ get_last (take k flags) flag in (
          subst (SumsUp []) t.1 sums,
          ap (slice_get (take (k + 1) flags)) last ∙ here ∙ ap Some (sym leads ∙ ap (λ (x : Gift). x.leads_to_cycle) t.1),
        )
