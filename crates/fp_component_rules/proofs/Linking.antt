-- The graph of imports, one interface after another.
use Rattle.std.proofs.Common.{◌≡◌, ◌∙◌, ℕ, suc, ◌+◌, List, [], ◌∷◌, ◌++◌, drop, length, slice_get, Some, sym, ap, append_assoc, arith}
use Rattle.std.proofs.lemmas.List.{length-append}
use Rattle.fp_base.proofs.Lists.{drop_next}
use Rattle.fp_base.proofs.Numbers.{one_more}
use Rattle.fp_base.specs.Numbers.{numbers_from}
use Rattle.fp_written_parts.specs.declared.member.WrittenInterface.{WrittenInterface}
use Rattle.fp_component_rules.specs.declared.links.Link.{Link}
use Rattle.fp_component_rules.specs.Links.{links_from, links_in, rows_from}

module _ (fs : List WrittenInterface) (k : ℕ) (f : WrittenInterface) (at : slice_get fs k ≡ Some f) where
  pub links_next : (links more after whole : List Link) → more ≡ links_in k f.members → after ≡ links ++ more → links ++ links_from k (drop k fs) ≡ whole
      → after ++ links_from (k + 1) (drop (k + 1) fs) ≡ whole
  links_next links more after whole is joined h =
      ap (λ (ls : List Link). ls ++ links_from (k + 1) (drop (k + 1) fs)) (joined ∙ ap (λ (ls : List Link). links ++ ls) is)
      ∙ ap (λ (n : ℕ). links ++ links_in k f.members ++ links_from n (drop n fs)) (sym (one_more k))
      ∙ append_assoc links (links_in k f.members) (links_from (suc k) (drop (suc k) fs))
      ∙ ap (λ (gs : List WrittenInterface). links ++ links_from k gs) (sym (drop_next fs k f at)) ∙ h

  pub rows_next : (count first : ℕ) (links more after : List Link) (row : List ℕ) (rows all whole : List (List ℕ)) → more ≡ links_in k f.members → after ≡ links ++ more
      → first ≡ count + length links → row ≡ numbers_from first (length more) → all ≡ rows ++ row ∷ [] → rows ++ rows_from (count + length links) k (drop k fs) ≡ whole
      → all ++ rows_from (count + length after) (k + 1) (drop (k + 1) fs) ≡ whole
  rows_next count first links more after row rows all whole is joined from numbers pushed h =
      let own = length (links_in k f.members) in
      let row_is : row ≡ numbers_from (count + length links) own = numbers ∙ ap (λ (ls : List Link). numbers_from first (length ls)) is ∙ ap (λ (n : ℕ). numbers_from n own) from in
      let behind : count + length after ≡ count + length links + own =
      let e : length after ≡ length links + own = ap (λ (ls : List Link). length ls) joined ∙ length-append links more ∙ ap (λ (ls : List Link). length links + length ls) is in
      omega arith in
      ap (λ (rs : List (List ℕ)). rs ++ rows_from (count + length after) (k + 1) (drop (k + 1) fs)) pushed
      ∙ ap (λ (n : ℕ). rows ++ row ∷ [] ++ rows_from n (k + 1) (drop (k + 1) fs)) behind
      ∙ ap (λ (n : ℕ). rows ++ row ∷ [] ++ rows_from (count + length links + own) n (drop n fs)) (sym (one_more k))
      ∙ append_assoc rows (row ∷ []) (rows_from (count + length links + own) (suc k) (drop (suc k) fs))
      ∙ ap (λ (r : List ℕ). rows ++ (r ∷ rows_from (count + length links + own) (suc k) (drop (suc k) fs))) row_is
      ∙ ap (λ (gs : List WrittenInterface). rows ++ rows_from (count + length links) k gs) (sym (drop_next fs k f at)) ∙ h
