-- The first table, a view cut in two, two views joined, and the last table.
use Rattle.std.proofs.Common.{◌≡◌, ◌≢◌, ℕ, ◌+◌, ◌^◌, ◌<◌, true, false, List, [], ◌∷◌, ◌++◌, length, set, sym, refl, ap, ◌∙◌, subst, ⊎_elim, inl, inr, arith, Option, Some, None, length-set, length-append}
use mathlib.Core.Option.{none, some, some-ne-none, some-injective}
use mathlib.Core.Option as maybe
use native.Mathlib.Decide.{ℕ_discrete}
use lib.ListN.{get_elem?}
use Rattle.atomic_table.specs.Table.{State, Splits, Joins, opening, Final, Seen}
use Rattle.atomic_table.proofs.Lists.{at_set, set_here, set_else, at_longer}
use Rattle.fp_gate.specs.declared.booked.Entry.{Entry}
use Rattle.fp_gate.specs.declared.view.Kept.{Kept}
use Rattle.fp_gate.specs.declared.view.View.{View}
use Rattle.fp_gate.specs.Entries.{entries_of}
use Rattle.fp_gate.specs.Views.{first_view, spent, has_ticket}
use Rattle.fp_gate.specs.Rule.{Ruled}
use Rattle.fp_gate.specs.Steps.{made_one, newcomer, own, both}
use Rattle.fp_gate.proofs.Views.{at_less, at_snoc, at_append, sole, sole_at, waiting-set, waiting-append, lives, still_spent, each_set, apart_set, apart_snoc, turn_set, Keeper, keeper_joined, kept_set, only_set, only_snoc, only_joined}
use Rattle.fp_gate.proofs.Working.{ViewOk, Placed, Working, named_as, splits_too, joins_too, ruled, working}

module _ {N I : Type 0} where
  -- the view keeps the list of each other number
  abbrev pub KeepsAll : View N I → Type 0
  KeepsAll v = (k : ℕ) → 0 < k → k < v.made → (i : ℕ) × (o : Kept N I) × (get_elem? v.others i ≡ some o) × (o.number ≡ k)

module _ {T N I : Type 0} (name : T → N) (history : T → List (Entry I)) where
  abbrev Rule : N → State (Option T) (View N I) → Type 0
  Rule = Working name history

  splitting : (n : N) (id : ℕ) (v : View N I) → v.name ≢ None → 0 < v.made → v.made + 1 < 2 ^ 32 → Splits (Rule n) id v (made_one v) (newcomer v)
  splitting n id v is first room s r at =
      let live = lives v is in let w : View N I = made_one v in let u : View N I = newcomer v in let vs : List (View N I) = s.views in let vs1 : List (View N I) = set vs id w in
      let vs' : List (View N I) = vs1 ++ u ∷ [] in let long = length-set vs id w in let longer : length vs' ≡ length vs + 1 = length-append vs1 (u ∷ []) ∙ ap (λ (z : ℕ). z + 1) long in
      let ok = r.each id v at in let mine = named_as v n id ok.sort live in let sized = ok.made first in
      let gone : (k : ℕ) → get_elem? vs k ≡ some spent → get_elem? vs' k ≡ some spent = (λ (k : ℕ) (e : get_elem? vs k ≡ some spent). at_longer vs1 (u ∷ []) k spent (still_spent vs id k v w at live e)) in
      let P : ℕ → View N I → Type 0 = ViewOk n r.h r.served r.drawn (length vs') s.homes vs' in record {
        h = r.h;
        served = r.served;
        drawn = r.drawn;
        words = r.words;
        some_view = omega (arith, longer);
        few = omega (arith, longer, room, sized.1);
        count = let a = waiting-set vs id v w at in let b = waiting-append vs1 (u ∷ []) in omega (arith, r.count, a, b);
        apart = apart_snoc vs1 u (apart_set vs id w r.apart (λ j i x other there p q. other (r.apart j id i x v there at p q))) refl;
        unmade = λ k far. r.unmade k (omega (arith, longer, far));
        each = λ j x there. ⊎_elim
            (λ (old : get_elem? vs1 j ≡ some x). each_set P vs id w
            record {
              sort = inr mine;
              ticket = ok.ticket;
              turn = ok.turn;
              base = ok.base;
              left = λ _. ok.left live;
              others = λ i o there. let q = ok.others i o there in (q.0, gone o.number q.1, q.2);
              made = λ p. (sized.0, ap (λ (z : ℕ). z + 1) sized.1 ∙ sym longer);
              first = λ _. ap (λ (z : ℕ). z + 1) sized.1 ∙ sym longer;
            }
            (λ j u other there. let o = r.each j u there in record {
              sort = o.sort;
              ticket = o.ticket;
              turn = o.turn;
              base = o.base;
              left = o.left;
              others = λ i x there. let q = o.others i x there in (q.0, gone x.number q.1, q.2);
              made = λ p. absurd (other ((o.made p).0 ∙ sym sized.0));
              first = λ e. absurd (other (e ∙ sym sized.0));
            }) j x old)
            (λ (new : (j ≡ length vs1) × (u ≡ x)). let here : j ≡ length vs = new.0 ∙ long in subst (P j) new.1 record {
              sort = inr (mine.0, sized.1 ∙ sym here);
              ticket = λ k e. absurd (cc);
              turn = λ e. absurd (cc);
              base = (r.h, refl);
              left = λ _. r.unmade j (omega (arith, here));
              others = λ i o there. absurd (some-ne-none o (sym there));
              made = λ p. absurd (omega (arith, p));
              first = λ e. absurd (omega (arith, e, here, at_less vs id v at));
            }) (at_snoc vs1 u x j there);
        placed = ⊎_elim inl (λ t. let found = turn_set vs id t.1.0 v w t.1.1 at (λ on. on) t.1.2 t.1.3 in inr (t.0, (found.0, found.1, at_longer vs1 (u ∷ []) found.0 found.1 found.2, found.3))) r.placed;
        kept = λ k gone. ⊎_elim
            (λ (g : get_elem? vs1 k ≡ some spent). let m = kept_set vs id v w at (lives w is) (λ i o there. (i, there)) r.kept k g in (m.0, m.1, m.2, m.3, at_longer vs1 (u ∷ []) m.0 m.1 m.4, m.5, m.6))
            (λ (t : (k ≡ length vs1) × (u ≡ spent)). absurd (lives u is t.1)) (at_snoc vs1 u spent k gone);
        only = only_snoc vs1 u (only_set vs id v w at refl r.only) refl;
      }

  joining : (n : N) (id other : ℕ) (v w : View N I) → v.name ≢ None → w.name ≢ None → w.made ≡ 0 → w.ticket ≡ None → w.in_turn ≡ false → Joins (Rule n) id v other w (both v w) spent
  joining n id other v w is is' no_first idle off s r at apart at' =
      let live = lives v is in let live' = lives w is' in let b : View N I = both v w in let vs : List (View N I) = s.views in let vs1 : List (View N I) = set vs id b in let vs' : List (View N I) = set vs1 other spent in
      let long : length vs' ≡ length vs = length-set vs1 other spent ∙ length-set vs id b in
      let was : get_elem? vs other ≡ some w = sym (set_else vs id other b apart) ∙ at' in
      let ok = r.each id v at in let mine = named_as v n id ok.sort live in let ok' = r.each other w was in let mine' = named_as w n other ok'.sort live' in
      let gone : (k : ℕ) → get_elem? vs k ≡ some spent → get_elem? vs' k ≡ some spent = (λ (k : ℕ) (e : get_elem? vs k ≡ some spent). still_spent vs1 other k w spent at' live' (still_spent vs id k v b at live e)) in
      let now_gone : get_elem? vs' other ≡ some spent = set_here vs1 other spent (at_less vs1 other w at') in
      let old : (l : List (Kept N I)) → ((i : ℕ) (o : Kept N I) → get_elem? l i ≡ some o → (entries_of o.number r.h ≡ o.left) × (get_elem? vs o.number ≡ some spent) × (o.name ≡ Some n))
      → (o : Kept N I) → ((i : ℕ) × (get_elem? l i ≡ some o)) → (entries_of o.number r.h ≡ o.left) × (get_elem? vs' o.number ≡ some spent) × (o.name ≡ Some n)
      = (λ (l : List (Kept N I)) (has : (i : ℕ) (o : Kept N I) → get_elem? l i ≡ some o → (entries_of o.number r.h ≡ o.left) × (get_elem? vs o.number ≡ some spent) × (o.name ≡ Some n)) (o : Kept N I) (t : (i : ℕ) × (get_elem? l i ≡ some o)).
      let q = has t.0 o t.1 in (q.0, gone o.number q.1, q.2)) in
      let fresh : (o : Kept N I) → own w ≡ o → (entries_of o.number r.h ≡ o.left) × (get_elem? vs' o.number ≡ some spent) × (o.name ≡ Some n)
      = (λ (o : Kept N I) (e : own w ≡ o). subst (λ (z : Kept N I). (entries_of z.number r.h ≡ z.left) × (get_elem? vs' z.number ≡ some spent) × (z.name ≡ Some n)) e
      (ap (λ (z : ℕ). entries_of z r.h) mine'.1 ∙ ok'.left live', ap (get_elem? vs') mine'.1 ∙ now_gone, mine'.0)) in
      let kept_in : (i : ℕ) (o : Kept N I) → get_elem? (own w ∷ (w.others ++ v.others)) i ≡ some o → (entries_of o.number r.h ≡ o.left) × (get_elem? vs' o.number ≡ some spent) × (o.name ≡ Some n)
      = (λ (i : ℕ) (o : Kept N I) (there : get_elem? (own w ∷ (w.others ++ v.others)) i ≡ some o). ⊎_elim (λ (t : (j : ℕ) × (get_elem? (own w ∷ []) j ≡ some o)). fresh o (sole (own w) t.0 o t.1))
      (λ (t : (j : ℕ) × (get_elem? (w.others ++ v.others) j ≡ some o)). ⊎_elim (old w.others ok'.others o) (old v.others ok.others o) (at_append w.others v.others o t.0 t.1)) (at_append (own w ∷ []) (w.others ++ v.others) o i there)) in
      let here : get_elem? vs' id ≡ some b = set_else vs1 other id spent (λ e. apart (sym e)) ∙ set_here vs id b (at_less vs id v at) in
      let moved : (k : ℕ) (m : Keeper vs k) → Dec (m.0 ≡ id) → Dec (m.0 ≡ other) → Keeper vs' k = (λ (k : ℕ) (m : Keeper vs k). keeper_joined k vs vs' id other v w m at was here (λ ne ne'. set_else vs1 other m.0 spent ne' ∙ set_else vs id m.0 b ne)) in
      let P : ℕ → View N I → Type 0 = ViewOk n r.h r.served r.drawn (length vs') s.homes vs' in record {
        h = r.h;
        served = r.served;
        drawn = r.drawn;
        words = r.words;
        some_view = omega (arith, long, r.some_view);
        few = omega (arith, long, r.few);
        count = let a = waiting-set vs id v b at in let c = waiting-set vs1 other w spent at' in let d : has_ticket w.ticket ≡ 0 = ap has_ticket idle in omega (arith, r.count, a, c, d);
        apart = apart_set vs1 other spent (apart_set vs id b r.apart (λ j i x far there p q. far (r.apart j id i x v there at p q))) (λ j i x far there p q. absurd (cc));
        unmade = λ k far. r.unmade k (omega (arith, long, far));
        each = each_set P vs1 other spent
            record {
              sort = inl refl;
              ticket = λ k e. absurd (cc);
              turn = λ e. absurd (cc);
              base = (r.h, refl);
              left = λ alive. absurd (alive refl);
              others = λ i o there. absurd (some-ne-none o (sym there));
              made = λ p. absurd (omega (arith, p));
              first = λ e. absurd (omega (arith, ok'.first e, no_first, at_less vs other w was));
            }
            (λ j u ne there. each_set (λ i x. i ≢ other → P i x) vs id b
            (λ _. record {
              sort = inr mine;
              ticket = ok.ticket;
              turn = ok.turn;
              base = ok.base;
              left = λ _. ok.left live;
              others = λ i o there. kept_in i o there;
              made = λ p. let q = ok.made p in (q.0, q.1 ∙ sym long);
              first = λ e. ok.first e ∙ sym long;
            })
            (λ i x far there _. let o = r.each i x there in record {
              sort = o.sort;
              ticket = o.ticket;
              turn = o.turn;
              base = o.base;
              left = o.left;
              others = λ i y there. let q = o.others i y there in (q.0, gone y.number q.1, q.2);
              made = λ p. let q = o.made p in (q.0, q.1 ∙ sym long);
              first = λ e. o.first e ∙ sym long;
            }) j u there ne);
        placed = ⊎_elim inl (λ t. let found = turn_set vs id t.1.0 v b t.1.1 at (λ on. on) t.1.2 t.1.3 in let more = turn_set vs1 other found.0 w spent found.1 at' (λ on. absurd (cc)) found.2 found.3 in inr (t.0, more)) r.placed;
        kept = λ k gone. ⊎_elim
            (λ (t : (k ≡ other) × (spent ≡ spent)). (id, b, 0, own w, here, refl, mine'.1 ∙ sym t.0))
            (λ (t : (k ≢ other) × (get_elem? vs1 k ≡ some spent)). ⊎_elim
            (λ (x : (k ≡ id) × (b ≡ spent)). absurd (lives b is x.1))
            (λ (x : (k ≢ id) × (get_elem? vs k ≡ some spent)). moved k (r.kept k x.1) (ℕ_discrete (r.kept k x.1).0 id) (ℕ_discrete (r.kept k x.1).0 other)) (at_set vs id k b spent t.1)) (at_set vs1 other k spent spent gone);
        only = only_joined vs id other v w at was live' mine'.1 (λ a k x there has. ap (get_elem? vs) (sym has.3) ∙ ((r.each a x there).others has.0 has.1 has.2).1) r.only;
      }

  starting : (x : T) → history x ≡ [] → Rule (name x) (opening (0 ∷ 0 ∷ []) (Some x ∷ []) (first_view (name x)))
  starting x bare = record {
    h = [];
    served = 0;
    drawn = 0;
    words = refl;
    some_view = omega arith;
    few = omega arith;
    count = omega arith;
    apart = λ i j k v w a b p q. sole_at (first_view (name x)) i v a ∙ sym (sole_at (first_view (name x)) j w b);
    unmade = λ k far. refl;
    each = λ j v there. let zero_th : j ≡ 0 = sole_at (first_view (name x)) j v there in let it : first_view (name x) ≡ v = sole (first_view (name x)) j v there in
        subst (λ (t : ℕ × View N I). ViewOk {T = T} (name x) [] 0 0 1 (some (Some x) ∷ []) (first_view (name x) ∷ []) t.0 t.1) (λ i. (sym zero_th i, it i)) record {
          sort = inr (refl, refl);
          ticket = λ k e. absurd (cc);
          turn = λ e. absurd (cc);
          base = ([], refl);
          left = λ _. refl;
          others = λ i o has. absurd (some-ne-none o (sym has));
          made = λ _. (refl, refl);
          first = λ _. refl;
        };
    placed = inl (x, refl, refl, bare);
    kept = λ k gone. absurd (lives (first_view (name x)) (λ e. absurd (cc)) (sole (first_view (name x)) k spent gone));
    only = λ i j k v w a b p q. sole_at (first_view (name x)) i v a ∙ sym (sole_at (first_view (name x)) j w b);
  }

  -- the value of the last table, which has the name of the view v, and each list that v keeps
  abbrev pub HasTable : View N I → List (Option T) → Type 0
  HasTable v xs = (x : T) × (get_elem? xs 0 ≡ some (Some x)) × (v.name ≡ Some (name x)) × (entries_of v.number (history x) ≡ v.left)
      × ((i : ℕ) (o : Kept N I) → get_elem? v.others i ≡ some o → (entries_of o.number (history x) ≡ o.left) × (o.name ≡ Some (name x)))

  closing : (n : N) (id : ℕ) (v : View N I) (ws : List ℕ) (xs : List (Option T)) → v.name ≢ None → v.in_turn ≡ false → 0 < v.made → KeepsAll v → Final (Seen (Rule n) id v) ws xs → HasTable v xs
  closing n id v ws xs is off first all f = go r.placed
    where
      s : State (Option T) (View N I)
      s = f.0

      r : Rule n s
      r = f.1.0

      at : get_elem? s.views id ≡ some v
      at = f.1.1

      live : v ≢ spent
      live = lives v is

      ok : ViewOk n r.h r.served r.drawn (length s.views) s.homes s.views id v
      ok = r.each id v at

      none_in : (j : ℕ) (u : View N I) → get_elem? s.views j ≡ some u → u.in_turn ≡ true → Dec (j ≡ id) → ⊥
      none_in j u there on (yes e) = let it : v ≡ u = some-injective v u (sym at ∙ (ap (get_elem? s.views) (sym e) ∙ there)) in
          let f : false ≡ true = sym off ∙ (ap (λ (z : View N I). z.in_turn) it ∙ on) in absurd (cc)
      none_in j u there on (no ne) = let sized = ok.made first in let below = at_less s.views j u there in let after : j ≢ 0 = (λ (e : j ≡ 0). ne (e ∙ sym sized.0)) in
          let o = all j (omega (arith, after)) (omega (arith, sized.1, below)) in let q = ok.others o.0 o.1 o.2 in
          let it : spent ≡ u = some-injective spent u (sym q.1 ∙ (ap (get_elem? s.views) o.3 ∙ there)) in
          let f : false ≡ true = ap (λ (z : View N I). z.in_turn) it ∙ on in absurd (cc)

      go : Placed name history n r.h s.homes s.views → HasTable v xs
      go (inl p) = let same = p.3 in let mine = named_as v n id ok.sort live in (
        p.0,
        f.4 0 (Some p.0) (ap (λ (hs : List (maybe.Option (Option T))). get_elem? hs 0) p.1),
        mine.0 ∙ ap Some (sym p.2),
        ap (entries_of v.number) same ∙ (ap (λ (k : ℕ). entries_of k r.h) mine.1 ∙ ok.left live),
        (λ i o there. let q = ok.others i o there in (ap (entries_of o.number) same ∙ q.0, q.2 ∙ ap Some (sym p.2))),
      )
      go (inr t) = absurd (none_in t.1.0 t.1.1 t.1.2 t.1.3 (ℕ_discrete t.1.0 id))

  pub splits : (n : N) (id : ℕ) (v : View N I) → v.name ≢ None → 0 < v.made → v.made + 1 < 2 ^ 32 → Splits (Ruled name history n) id v (made_one v) (newcomer v)
  splits n id v is first room = splits_too name history n id v (made_one v) (newcomer v) (splitting n id v is first room)

  pub joins : (n : N) (id other : ℕ) (v w : View N I) → v.name ≢ None → w.name ≢ None → w.made ≡ 0 → w.ticket ≡ None → w.in_turn ≡ false → Joins (Ruled name history n) id v other w (both v w) spent
  joins n id other v w is is' no_first idle off = joins_too name history n id v other w (both v w) spent (joining n id other v w is is' no_first idle off)

  pub starts_at : (x y : T) (xs : List (Option T)) → y ≡ x → xs ≡ Some x ∷ [] → history x ≡ [] → Ruled name history (name y) (opening (0 ∷ 0 ∷ []) xs (first_view (name y)))
  starts_at x y xs e f bare = subst (λ (t : T × List (Option T)). Ruled name history (name t.0) (opening (0 ∷ 0 ∷ []) t.1 (first_view (name t.0)))) (λ i. (sym e i, sym f i)) (ruled name history (name x) _ (starting x bare))

  pub closes : (n : N) (id : ℕ) (v : View N I) (ws : List ℕ) (xs : List (Option T)) → v.name ≢ None → v.in_turn ≡ false → 0 < v.made → KeepsAll v → Final (Seen (Ruled name history n) id v) ws xs → HasTable v xs
  closes n id v ws xs is off first all f = closing n id v ws xs is off first all (f.0, (working name history n f.0 f.1.0, f.1.1), f.2, f.3, f.4)
