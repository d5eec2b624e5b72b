use Rattle.std.proofs.Common.{◌≡◌, ◌∙◌, take, ap, refl, sym, subst, List, ℕ, arith, None, true, is_some, BTreeMap, nat_cmp}
use Rattle.std.proofs.lemmas.Map.Text.{btree_map_updates_str}
use Rattle.std.proofs.lemmas.Slice.Eq.{bytes_eq-Decides}
use Rattle.std.proofs.lemmas.List.{take_all}
use Rattle.std.specs.Cmp.Lexicographic.{slice_cmp}
use Rattle.std.specs.Prelude.{position}
use Rattle.std.specs.Str.{bytes_eq}
use Rattle.std.specs.BTreeMap.{get_by}
use denote.Ref.{Bor}
use Rattle.fp_base.proofs.Options.{none_of}
use Rattle.fp_tables.proofs.Firsts.{filled, kept, position_at}
use Rattle.fp_tables.specs.declared.component.Port.{Port}
use Rattle.fp_topologies.proofs.index.firsts_among.Goals as goal
use Rattle.fp_topologies.proofs.index.firsts_among.Goals.{then-not-contains_key+in_ok-insert, else-not-contains_key}

pub loop-at-preserved : goal.loop-at-preserved
loop-at-preserved c = λ q.
    let x = c.index-ports-at.result in
    let firsts = c.loop-at.firsts in
    let more = position_at (λ (p : Port). bytes_eq p.name q) c.args.ports.now c.loop-at.at x (omega arith) c.index-ports-at.is in
    let name = c.as_str-name.result.now in
    let same : bytes_eq name q ≡ true → name ≡ q = (bytes_eq-Decides name q).0 in
    elim c.if-not-contains_key.branch [
      | then-not-contains_key+in_ok-insert w ↦
          let free : get_by (λ (k : Bor (List ℕ)). slice_cmp nat_cmp name k.now) firsts ≡ None = none_of _ (cc) in
          ap (λ (m : BTreeMap (Bor (List ℕ)) ℕ). get_by (λ (k : Bor (List ℕ)). slice_cmp nat_cmp q k.now) m) w.firsts-is
          ∙ filled _ (get_by (λ (k : Bor (List ℕ)). slice_cmp nat_cmp q k.now) firsts) _ (bytes_eq name q) (bytes_eq x.name q) c.loop-at.at
          (btree_map_updates_str name firsts w.insert.new.self _ w.in_ok-insert.ensures.updates q) (c.loop-at.invariant q)
          (ap (λ (b : List ℕ). bytes_eq b q) c.as_str-name.ensures)
          (λ h. subst (λ (b : List ℕ). get_by (λ (k : Bor (List ℕ)). slice_cmp nat_cmp b k.now) firsts ≡ None) (same h) free) ∙ sym more
      | else-not-contains_key w ↦
          let full : is_some (get_by (λ (k : Bor (List ℕ)). slice_cmp nat_cmp name k.now) firsts) ≡ true = cc in
          ap (λ (m : BTreeMap (Bor (List ℕ)) ℕ). get_by (λ (k : Bor (List ℕ)). slice_cmp nat_cmp q k.now) m) w.firsts-is
          ∙ kept _ (get_by (λ (k : Bor (List ℕ)). slice_cmp nat_cmp q k.now) firsts) _ (bytes_eq x.name q) c.loop-at.at refl (c.loop-at.invariant q)
          (λ h. subst (λ (b : List ℕ). is_some (get_by (λ (k : Bor (List ℕ)). slice_cmp nat_cmp b k.now) firsts) ≡ true) (same (ap (λ (b : List ℕ). bytes_eq b q) c.as_str-name.ensures ∙ h)) full)
          ∙ sym more
    ]

pub returns : goal.returns
returns c =
    let ports = c.args.ports.now in
    let all : take c.loop-at.at ports ≡ ports = take_all c.loop-at.at ports (omega arith) in
    record {
      short = c.requires;
      finds = λ q. c.loop-at.invariant q ∙ ap (position (λ (p : Port). bytes_eq p.name q)) all;
    }
