-- An order of what types use in their forms serves the passes over types.
use Rattle.std.proofs.Common.{◌≡◌, ℕ, zero, suc, ◌<◌, ◌⊎◌, inl, inr, List, [], ◌∷◌, ◌++◌, map, flat_map, length, Option, Some, None, option_map, slice_get, refl, sym, ap, ◌∙◌, subst}
use Rattle.std.proofs.lemmas.List.{length-map}
use Rattle.std.proofs.lemmas.Option.{slice_get-map, slice_get_within}
use Rattle.fp_base.proofs.Options.{mapped_some, same_some, no_some}
use Rattle.fp_graph.specs.Chains.{LeadsThrough, IsOrder}
use Rattle.fp_graph.specs.Chains as chains
use Rattle.fp_graph.specs.Rows.{IsListed}
use Rattle.fp_tables.specs.Types.{kinds_in}
use Rattle.fp_tables.specs.declared.kind.Kind.{Kind}
use Rattle.fp_tables.specs.declared.kind.Kind.TheVariants as kind
use Rattle.fp_tables.specs.declared.kind.Form.{Form}
use Rattle.fp_tables.specs.declared.kind.Form.TheVariants as form
use Rattle.fp_tables.specs.declared.kind.Field.{Field}
use Rattle.fp_type_sizes.specs.declared.written.WrittenType.{WrittenType}
use Rattle.fp_type_sizes.specs.Sizes.{Measures}
use Rattle.fp_type_sizes.specs.Found.{UsesType, LeadsTo, IsTypeOrder}
use Rattle.fp_type_sizes.specs.Found as found
use Rattle.fp_type_sizes.proofs.Counted.{formed}
use Rattle.fp_type_sizes.proofs.Limits.{used_sized}
use Rattle.fp_type_sizes.proofs.NoCycle.{no_cycle}
use Rattle.fp_source_types.specs.Used.{number_in, used_in, used_if, used_by}

-- ---- the numbers in one kind

named : {i w : ℕ} → Some i ≡ Some w → kind.Named i ≡ kind.Named w
named e = ap (λ (n : ℕ). kind.Named n) (same_some e)

alone : (k : Kind) (j w : ℕ) → slice_get (number_in k) j ≡ Some w → k ≡ kind.Named w
alone (kind.Named i) zero w e = named e
alone (kind.Named i) (suc j) w e = no_some e
alone k j w e = no_some e

number_there : (k : Kind) (w : ℕ) → k ≡ kind.Named w → slice_get (number_in k) 0 ≡ Some w
number_there k w e = subst (λ (x : Kind). slice_get (number_in x) 0 ≡ Some w) (sym e) refl

-- ---- those in the kind of a first member, and those behind

front : (k : Kind) (ns : List ℕ) (j w : ℕ) → slice_get (number_in k ++ ns) j ≡ Some w → (k ≡ kind.Named w) ⊎ ((m : ℕ) × (slice_get ns m ≡ Some w))
front (kind.Named i) ns zero w e = inl (named e)
front (kind.Named i) ns (suc j) w e = inr (j, e)
front k ns j w e = inr (j, e)

first_there : (k : Kind) (ns : List ℕ) (w : ℕ) → k ≡ kind.Named w → slice_get (number_in k ++ ns) 0 ≡ Some w
first_there k ns w e = subst (λ (x : Kind). slice_get (number_in x ++ ns) 0 ≡ Some w) (sym e) refl

behind : (k : Kind) (ns : List ℕ) (j w : ℕ) → slice_get ns j ≡ Some w → (m : ℕ) × (slice_get (number_in k ++ ns) m ≡ Some w)
behind (kind.Named i) ns j w e = (suc j, e)
behind k ns j w e = (j, e)

-- ---- in a form

abbrev numbers : List Field → List ℕ
numbers fs = flat_map (λ (f : Field). number_in f.kind) fs

abbrev kinds : List Field → List Kind
kinds fs = map (λ (f : Field). f.kind) fs

members : (fs : List Field) (j w : ℕ) → slice_get (numbers fs) j ≡ Some w → (n : ℕ) × (slice_get (kinds fs) n ≡ Some (kind.Named w))
members [] j w e = no_some e
members (f ∷ fs) j w e = go (front f.kind (numbers fs) j w e) (λ m h. members fs m w h)
  where
    go : (f.kind ≡ kind.Named w) ⊎ ((m : ℕ) × (slice_get (numbers fs) m ≡ Some w)) → ((m : ℕ) → slice_get (numbers fs) m ≡ Some w → (n : ℕ) × (slice_get (kinds fs) n ≡ Some (kind.Named w)))
        → (n : ℕ) × (slice_get (kinds (f ∷ fs)) n ≡ Some (kind.Named w))
    go (inl is) rest = (0, ap (λ (k : Kind). Some k) is)
    go (inr p) rest = let q = rest p.0 p.1 in (suc q.0, q.1)

members_there : (fs : List Field) (n w : ℕ) → slice_get (kinds fs) n ≡ Some (kind.Named w) → (j : ℕ) × (slice_get (numbers fs) j ≡ Some w)
members_there [] n w e = no_some e
members_there (f ∷ fs) zero w e = (0, first_there f.kind (numbers fs) w (same_some e))
members_there (f ∷ fs) (suc n) w e = let p = members_there fs n w e in behind f.kind (numbers fs) p.0 w p.1

kind_of_number : (k : Kind) (j w : ℕ) → slice_get (number_in k) j ≡ Some w → (n : ℕ) × (slice_get (k ∷ []) n ≡ Some (kind.Named w))
kind_of_number k j w e = (0, ap (λ (x : Kind). Some x) (alone k j w e))

number_of_kind : (k : Kind) (n w : ℕ) → slice_get (k ∷ []) n ≡ Some (kind.Named w) → (j : ℕ) × (slice_get (number_in k) j ≡ Some w)
number_of_kind k zero w e = (0, number_there k w (same_some e))
number_of_kind k (suc n) w e = no_some e

kind_used : (f : Form) (j w : ℕ) → slice_get (used_in f) j ≡ Some w → (n : ℕ) × (slice_get (kinds_in f) n ≡ Some (kind.Named w))
kind_used form.Abstract j w e = no_some e
kind_used (form.Alias k) j w e = kind_of_number k j w e
kind_used (form.Array size k format) j w e = kind_of_number k j w e
kind_used (form.Struct fs) j w e = members fs j w e
kind_used (form.Enum k cs) j w e = kind_of_number k j w e

number_used : (f : Form) (n w : ℕ) → slice_get (kinds_in f) n ≡ Some (kind.Named w) → (j : ℕ) × (slice_get (used_in f) j ≡ Some w)
number_used form.Abstract n w e = no_some e
number_used (form.Alias k) n w e = number_of_kind k n w e
number_used (form.Array size k format) n w e = number_of_kind k n w e
number_used (form.Struct fs) n w e = members_there fs n w e
number_used (form.Enum k cs) n w e = number_of_kind k n w e

-- ---- in the rows of all types

row_there : (ws : List WrittenType) (v : ℕ) (w : WrittenType) → slice_get ws v ≡ Some w → slice_get (map used_by ws) v ≡ Some (used_by w)
row_there ws v w e = slice_get-map used_by ws v ∙ ap (option_map used_by) e

row_of : (ws : List WrittenType) (v : ℕ) (row : List ℕ) → slice_get (map used_by ws) v ≡ Some row → (w : WrittenType) × (slice_get ws v ≡ Some w) × (used_by w ≡ row)
row_of ws v row e = mapped_some used_by (slice_get ws v) row (sym (slice_get-map used_by ws v) ∙ e)

one_more : {ws : List WrittenType} {i j k : ℕ} → LeadsTo ws i j → UsesType ws j k → LeadsTo ws i k
one_more (found.one u) v = found.more u (found.one v)
one_more (found.more u l) v = found.more u (one_more l v)

module _ (ws : List WrittenType) (rows : List (List ℕ)) (are : rows ≡ map used_by ws) where
  type_used : {v x : ℕ} → IsListed rows v x → UsesType ws v x
  type_used {v = v} {x = x} l =
      let p = row_of ws v l.row (ap (λ (rs : List (List ℕ)). slice_get rs v) (sym are) ∙ l.here) in
      go p.0 p.1 p.0.form refl (subst (λ (ns : List ℕ). slice_get ns l.k ≡ Some x) (sym p.2) l.target)
    where
      go : (w : WrittenType) → slice_get ws v ≡ Some w → (o : Option Form) → w.form ≡ o → slice_get (used_if o) l.k ≡ Some x → UsesType ws v x
      go w here None is e = no_some e
      go w here (Some f) is e = let q = kind_used f l.k x e in record { shape = f; form = record { written = w; here = here; form = is }; at = q.0; used = q.1 }

  count : length rows ≡ length ws
  count = ap (λ (rs : List (List ℕ)). length rs) are ∙ length-map ws used_by

  listed : {v x : ℕ} → UsesType ws v x → x < length ws → IsListed rows v x
  listed {v = v} {x = x} u below =
      let q = number_used u.shape u.at x u.used in
      let w = u.form.written in
      record {
        row = used_by w;
        here = ap (λ (rs : List (List ℕ)). slice_get rs v) are ∙ row_there ws v w u.form.here;
        k = q.0;
        target = subst (λ (o : Option Form). slice_get (used_if o) q.0 ≡ Some x) (sym u.form.form) q.1;
        within = subst (λ (n : ℕ). x < n) (sym count) below;
      }

  leads : {v x : ℕ} → LeadsThrough (IsListed rows) v x → LeadsTo ws v x
  leads (chains.one h) = found.one (type_used h)
  leads (chains.more l h) = one_more (leads l) (type_used h)

  there : (v w a b : ℕ) → Measures ws (kind.Named v) a b → UsesType ws v w → w < length ws
  there v w a b m u =
      let s = used_sized (a, b, m) u in
      let f = formed ws w s.0 s.1 s.2 in
      slice_get_within ws w f.1.written f.1.here

  pub served : (order : List ℕ) → IsOrder (length rows) (IsListed rows) order → IsTypeOrder ws order
  served order sorted = record {
    all = λ v low. sorted.all v (subst (λ (n : ℕ). v < n) (sym count) low);
    within = λ k v e. subst (λ (n : ℕ). v < n) count (sorted.within k v e);
    behind = λ k v w a b e m u. sorted.behind k v w e (λ l. no_cycle m v refl (leads l)) (listed u (there v w a b m u));
  }
