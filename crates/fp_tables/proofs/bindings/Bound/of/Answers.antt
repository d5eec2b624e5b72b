use Rattle.std.proofs.Common.{◌≡◌, ◌∙◌, take, ap, refl, sym, subst, List, ℕ, arith, None, true, is_some, BTreeMap, nat_cmp}
use Rattle.std.proofs.lemmas.Map.Text.{btree_map_updates_str}
use Rattle.std.proofs.lemmas.Slice.Eq.{bytes_eq-Decides}
use Rattle.std.specs.Cmp.Lexicographic.{slice_cmp}
use Rattle.std.specs.Str.{bytes_eq}
use Rattle.std.specs.BTreeMap.{get_by}
use denote.Ref.{Bor}
use Rattle.std.proofs.lemmas.List.{take_all}
use Rattle.fp_tables.specs.Arguments.{formals_bound}
use Rattle.fp_tables.specs.declared.kind.Formal.{Formal}
use Rattle.fp_base.proofs.Options.{none_of}
use Rattle.fp_tables.proofs.Firsts.{filled, kept}
use Rattle.fp_tables.proofs.Binding.{formal_bound}
use Rattle.fp_tables.specs.declared.kind.Kind.{Kind}
use Rattle.fp_tables.proofs.bindings.Bound.of.Goals as goal
use Rattle.fp_tables.proofs.bindings.Bound.of.Goals.{then-not-contains_key+in_ok-insert, else-not-contains_key}

pub loop-formal-preserved : goal.loop-formal-preserved
loop-formal-preserved c = λ q.
    let x = c.formal-item.result in
    let kinds = c.loop-formal.kinds in
    let more = formal_bound q c.args.formals.now c.loop-formal.formal-index x (omega arith) c.formal-item.is in
    let name = c.as_str-name.result.now in
    let same : bytes_eq name q ≡ true → name ≡ q = (bytes_eq-Decides name q).0 in
    elim c.if-not-contains_key.branch [
      | then-not-contains_key+in_ok-insert w ↦
          let free : get_by (λ (k : Bor (List ℕ)). slice_cmp nat_cmp name k.now) kinds ≡ None = none_of _ (cc) in
          ap (λ (m : BTreeMap (Bor (List ℕ)) Kind). get_by (λ (k : Bor (List ℕ)). slice_cmp nat_cmp q k.now) m) w.kinds-is
          ∙ filled _ (get_by (λ (k : Bor (List ℕ)). slice_cmp nat_cmp q k.now) kinds) _ (bytes_eq name q) (bytes_eq x.name q) x.kind
          (btree_map_updates_str name kinds w.insert.new.self _ w.in_ok-insert.ensures.updates q) (c.loop-formal.invariant q)
          (ap (λ (b : List ℕ). bytes_eq b q) c.as_str-name.ensures)
          (λ h. subst (λ (b : List ℕ). get_by (λ (k : Bor (List ℕ)). slice_cmp nat_cmp b k.now) kinds ≡ None) (same h) free) ∙ sym more
      | else-not-contains_key w ↦
          let full : is_some (get_by (λ (k : Bor (List ℕ)). slice_cmp nat_cmp name k.now) kinds) ≡ true = cc in
          ap (λ (m : BTreeMap (Bor (List ℕ)) Kind). get_by (λ (k : Bor (List ℕ)). slice_cmp nat_cmp q k.now) m) w.kinds-is
          ∙ kept _ (get_by (λ (k : Bor (List ℕ)). slice_cmp nat_cmp q k.now) kinds) _ (bytes_eq x.name q) x.kind refl (c.loop-formal.invariant q)
          (λ h. subst (λ (b : List ℕ). is_some (get_by (λ (k : Bor (List ℕ)). slice_cmp nat_cmp b k.now) kinds) ≡ true) (same (ap (λ (b : List ℕ). bytes_eq b q) c.as_str-name.ensures ∙ h)) full)
          ∙ sym more
    ]

pub returns : goal.returns
returns c =
    let formals = c.args.formals.now in
    let all : take c.loop-formal.formal-index formals ≡ formals = take_all c.loop-formal.formal-index formals (omega arith) in
    λ j q. (c.loop-formal.invariant q ∙ ap (λ (fs : List Formal). formals_bound fs q) all) j
