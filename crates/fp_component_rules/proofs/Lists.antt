-- The lists of components, one after another.
use Rattle.std.proofs.Common.{◌≡◌, ◌∙◌, ◌⊎◌, inl, inr, ℕ, ◌+◌, List, [], ◌∷◌, ◌++◌, length, take, slice_get, Some, sym, ap, subst, arith}
use Rattle.std.proofs.lemmas.List.{length-append}
use Rattle.std.proofs.lemmas.Option.{slice_get_within}
use Rattle.fp_base.proofs.Lists.{take_next}
use Rattle.fp_base.proofs.Spots.{get_push}
use Rattle.fp_base.proofs.Options.{no_some}
use Rattle.fp_written_parts.specs.declared.port.WrittenPort.{WrittenPort}
use Rattle.fp_written_parts.specs.declared.member.WrittenComponent.{WrittenComponent}
use Rattle.fp_written_parts.specs.declared.member.WrittenInterface.{WrittenInterface}
use Rattle.fp_written_parts.specs.Giving.{GiveAll}
use Rattle.fp_component_rules.specs.Lists.{ArePortLists}

module _ (fs : List WrittenInterface) where
  pub lists_none : (lists : List (List WrittenPort)) → lists ≡ [] → ArePortLists fs [] lists
  lists_none lists is = record { each = ap (λ (xs : List (List WrittenPort)). length xs) is; of = λ k c ps e. no_some e }

  pub lists_next : (cs : List WrittenComponent) (k : ℕ) (c : WrittenComponent) (lists more : List (List WrittenPort)) (ports : List WrittenPort) → slice_get cs k ≡ Some c
      → more ≡ lists ++ ports ∷ [] → GiveAll fs c.members ports → ArePortLists fs (take k cs) lists → ArePortLists fs (take (k + 1) cs) more
  lists_next cs k c lists more ports at pushed given h = record {
    each =
        ap (λ (xs : List (List WrittenPort)). length xs) pushed ∙ length-append lists (ports ∷ []) ∙ ap (λ (n : ℕ). n + 1) h.each
        ∙ sym (ap (λ (xs : List WrittenComponent). length xs) (take_next cs k c at) ∙ length-append (take k cs) (c ∷ []));
    of = λ j d ps e p.
        go j d ps (get_push (take k cs) c d j (subst (λ (xs : List WrittenComponent). slice_get xs j ≡ Some d) (take_next cs k c at) e))
        (get_push lists ports ps j (subst (λ (xs : List (List WrittenPort)). slice_get xs j ≡ Some ps) pushed p));
  }
    where
      go : (j : ℕ) (d : WrittenComponent) (ps : List WrittenPort) → (slice_get (take k cs) j ≡ Some d) ⊎ ((j ≡ length (take k cs)) × (c ≡ d))
          → (slice_get lists j ≡ Some ps) ⊎ ((j ≡ length lists) × (ports ≡ ps)) → GiveAll fs d.members ps
      go j d ps (inl a) (inl b) = h.of j d ps a b
      go j d ps (inl a) (inr b) = let low = slice_get_within (take k cs) j d a in let last = b.0 in let each = h.each in absurd (omega arith)
      go j d ps (inr a) (inl b) = let low = slice_get_within lists j ps b in let last = a.0 in let each = h.each in absurd (omega arith)
      go j d ps (inr a) (inr b) =
          subst (λ (xs : List WrittenPort). GiveAll fs d.members xs) b.1 (subst (λ (x : WrittenComponent). GiveAll fs x.members ports) a.1 given)
