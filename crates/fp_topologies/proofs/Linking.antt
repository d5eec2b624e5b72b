-- The graph of imports, one topology after another.
use Rattle.std.proofs.Common.{◌≡◌, ◌∙◌, ℕ, suc, ◌+◌, List, [], ◌∷◌, ◌++◌, drop, length, slice_get, Some, sym, ap, append_assoc, arith}
use Rattle.std.proofs.lemmas.List.{length-append}
use Rattle.fp_base.proofs.Lists.{drop_next}
use Rattle.fp_base.proofs.Numbers.{one_more}
use Rattle.fp_base.specs.Numbers.{numbers_from}
use Rattle.fp_written_parts.specs.declared.topology.WrittenTopology.{WrittenTopology}
use Rattle.fp_topologies.specs.declared.links.Link.{Link}
use Rattle.fp_topologies.specs.Links.{links_from, links_in, rows_from}

module _ (ts : List WrittenTopology) (k : ℕ) (o : WrittenTopology) (at : slice_get ts k ≡ Some o) where
  pub links_next : (links more after whole : List Link) → more ≡ links_in k o.imports → after ≡ links ++ more → links ++ links_from k (drop k ts) ≡ whole
      → after ++ links_from (k + 1) (drop (k + 1) ts) ≡ whole
  links_next links more after whole is joined h =
      ap (λ (ls : List Link). ls ++ links_from (k + 1) (drop (k + 1) ts)) (joined ∙ ap (λ (ls : List Link). links ++ ls) is)
      ∙ ap (λ (n : ℕ). links ++ links_in k o.imports ++ links_from n (drop n ts)) (sym (one_more k))
      ∙ append_assoc links (links_in k o.imports) (links_from (suc k) (drop (suc k) ts))
      ∙ ap (λ (os : List WrittenTopology). links ++ links_from k os) (sym (drop_next ts k o at)) ∙ h

  pub rows_next : (count first : ℕ) (links more after : List Link) (row : List ℕ) (rows all whole : List (List ℕ)) → more ≡ links_in k o.imports → after ≡ links ++ more
      → first ≡ count + length links → row ≡ numbers_from first (length more) → all ≡ rows ++ row ∷ [] → rows ++ rows_from (count + length links) k (drop k ts) ≡ whole
      → all ++ rows_from (count + length after) (k + 1) (drop (k + 1) ts) ≡ whole
  rows_next count first links more after row rows all whole is joined from numbers pushed h =
      let own = length (links_in k o.imports) in
      let row_is : row ≡ numbers_from (count + length links) own = numbers ∙ ap (λ (ls : List Link). numbers_from first (length ls)) is ∙ ap (λ (n : ℕ). numbers_from n own) from in
      let behind : count + length after ≡ count + length links + own =
      let e : length after ≡ length links + own = ap (λ (ls : List Link). length ls) joined ∙ length-append links more ∙ ap (λ (ls : List Link). length links + length ls) is in
      omega arith in
      ap (λ (rs : List (List ℕ)). rs ++ rows_from (count + length after) (k + 1) (drop (k + 1) ts)) pushed
      ∙ ap (λ (n : ℕ). rows ++ row ∷ [] ++ rows_from n (k + 1) (drop (k + 1) ts)) behind
      ∙ ap (λ (n : ℕ). rows ++ row ∷ [] ++ rows_from (count + length links + own) n (drop n ts)) (sym (one_more k))
      ∙ append_assoc rows (row ∷ []) (rows_from (count + length links + own) (suc k) (drop (suc k) ts))
      ∙ ap (λ (r : List ℕ). rows ++ (r ∷ rows_from (count + length links + own) (suc k) (drop (suc k) ts))) row_is
      ∙ ap (λ (os : List WrittenTopology). rows ++ rows_from (count + length links) k os) (sym (drop_next ts k o at)) ∙ h
