-- Each step on a word keeps the rule, and what a caller knows after it.
use Rattle.std.proofs.Common.{◌≡◌, ◌≢◌, ℕ, ◌+◌, ◌%◌, ◌^◌, ◌≤◌, true, false, List, [], ◌∷◌, ◌++◌, length, get_or, set, sym, refl, ap, ◌∙◌, subst, ⊎_elim, inl, inr, arith, Option, Some, None, length-set, append-nil}
use Rattle.std.proofs.Math.Nat.{mod-add-mod}
use Rattle.std.proofs.lemmas.List.{set-get_or}
use mathlib.Core.Option.{none, some, some-injective}
use mathlib.Core.Option as maybe
use mathlib.Core.List.{IsPrefix, append_cancel_left}
use base.Growing.{prefix_refl, prefix_trans}
use native.Mathlib.Decide.{ℕ_discrete}
use lib.ListN.{get_elem?}
use Rattle.atomic_table.specs.Table.{Valid, carried_after, State, step, Act, keeps, takes, gives, stepped, rest, Allows}
use Rattle.atomic_table.proofs.Lists.{set_here, set_again, one_turn}
use Rattle.fp_gate.specs.declared.booked.Entry.{Entry}
use Rattle.fp_gate.specs.declared.view.View.{View}
use Rattle.fp_gate.specs.Entries.{entries_of}
use Rattle.fp_gate.specs.Views.{spent, has_ticket}
use Rattle.fp_gate.specs.Rule.{Ruled}
use Rattle.fp_gate.specs.Steps.{Known, drew, looked, begun, HasTurn, ended, advanced}
use Rattle.fp_gate.specs.Passes.{MayLeave, Ends}
use Rattle.fp_gate.proofs.Entries.{entries_of-append, AllBy, none_by, one_by, own_one, same_entries}
use Rattle.fp_gate.proofs.Views.{at_less, waiting-set, waiting-le, lives, is_named, still_spent, each_set, apart_set, turn_set, kept_set, only_set}
use Rattle.fp_gate.proofs.Working.{ViewOk, Placed, Working, named_as, allows}

-- the value in the slot that was taken last
abbrev held_or : {A : Type 0} → A → List (ℕ × A) → A
held_or d [] = d
held_or d (c ∷ cs) = c.1

module _ {T N I : Type 0} (name : T → N) (history : T → List (Entry I)) where
  abbrev Rule : N → State (Option T) (View N I) → Type 0
  Rule = Working name history

  drawing : (n : N) (slots id : ℕ) (me : Known T N I) → me.0.name ≢ None → me.0.ticket ≡ None
      → Allows (Rule n) slots id me 0 (λ x. (x + 1) % 2 ^ 64) (drew (step slots 0 1 0 none) me)
  drawing n slots id me is idle s r deep at small =
      let v : View N I = me.0 in let live = lives v is in let w : View N I = record v { ticket = Some r.drawn } in let vs : List (View N I) = s.views in
      let vs' : List (View N I) = set vs id w in let long = length-set vs id w in let ok = r.each id v at in let mine = named_as v n id ok.sort live in
      let found : get_or s.words 0 0 ≡ r.drawn % 2 ^ 64 = ap (λ (ws : List ℕ). get_or ws 0 0) r.words in (
        w,
        keeps,
        tt,
        record {
          h = r.h;
          served = r.served;
          drawn = r.drawn + 1;
          words = ap (λ (ws : List ℕ). set ws 0 ((get_or ws 0 0 + 1) % 2 ^ 64)) r.words ∙ ap (λ (z : ℕ). z ∷ r.served % 2 ^ 64 ∷ []) (mod-add-mod r.drawn (2 ^ 64) 1);
          some_view = omega (arith, long, r.some_view);
          few = omega (arith, long, r.few);
          count = let a = waiting-set vs id v w at in let b : has_ticket v.ticket ≡ 0 = ap has_ticket idle in omega (arith, r.count, a, b);
          apart = apart_set vs id w r.apart (λ j k u other there has e. let q = (r.each j u there).ticket k has in let f : r.drawn ≡ k = cc in omega (arith, q.1, f));
          unmade = λ k far. r.unmade k (omega (arith, long, far));
          each = each_set (ViewOk n r.h r.served (r.drawn + 1) (length vs') s.homes vs') vs id w
              record {
                sort = inr mine;
                ticket = λ k has. let e : r.drawn ≡ k = cc in (omega (arith, e, r.count), omega (arith, e));
                turn = λ on. let q = ok.turn on in absurd (cc);
                base = ok.base;
                left = λ _. ok.left live;
                others = λ i x has. let q = ok.others i x has in (q.0, still_spent vs id x.number v w at live q.1, q.2);
                made = λ p. let q = ok.made p in (q.0, q.1 ∙ sym long);
                first = λ e. ok.first e ∙ sym long;
              }
              (λ j u other there. let o = r.each j u there in record {
                sort = o.sort;
                ticket = λ k has. let q = o.ticket k has in (q.0, omega (arith, q.1));
                turn = o.turn;
                base = o.base;
                left = o.left;
                others = λ i x has. let q = o.others i x has in (q.0, still_spent vs id x.number v w at live q.1, q.2);
                made = λ p. let q = o.made p in (q.0, q.1 ∙ sym long);
                first = λ e. o.first e ∙ sym long;
              });
          placed = ⊎_elim inl (λ t. inr (t.0, turn_set vs id t.1.0 v w t.1.1 at (λ on. on) t.1.2 t.1.3)) r.placed;
          kept = kept_set vs id v w at (lives w is) (λ i o there. (i, there)) r.kept;
          only = only_set vs id v w at refl r.only;
        },
        (r.drawn, refl, found),
      )

  looking : (n : N) (slots id k : ℕ) (me : Known T N I) → me.0.name ≢ None → me.0.ticket ≡ Some k → me.0.in_turn ≡ false
      → Allows (Rule n) slots id me 1 (λ x. x) (looked name history (step slots 1 0 0 none) me)
  looking n slots id k me is has off s r deep at small = go r.placed (ℕ_discrete (get_or s.words 1 0) (k % 2 ^ 64))
    where
      v : View N I
      v = me.0

      vs : List (View N I)
      vs = s.views

      live : v ≢ spent
      live = lives v is

      ok : ViewOk n r.h r.served r.drawn (length s.views) s.homes s.views id v
      ok = r.each id v at

      found : get_or s.words 1 0 ≡ r.served % 2 ^ 64
      found = ap (λ (ws : List ℕ). get_or ws 1 0) r.words

      Goes : Type 0
      Goes = (w : View N I) × (a : Act (Option T)) × Valid s.homes me.1 a × Rule n (stepped s 1 (get_or s.words 1 0) id me.1 w a) × looked name history (step slots 1 0 0 none) me (get_or s.words 1 0) (w, carried_after me.1 a)

      near : r.drawn ≤ r.served + 2 ^ 32
      near = omega (arith, r.count, waiting-le s.views, r.few)

      -- the ticket is the one that is served, where the numbers found say so
      is_served : get_or s.words 1 0 ≡ k % 2 ^ 64 → r.served ≡ k
      is_served e = let q = ok.ticket k has in one_turn r.served k (2 ^ 64) q.0 (omega (arith, q.1, near)) (sym found ∙ e)

      -- nothing changed
      stays : get_or s.words 1 0 ≢ k % 2 ^ 64 → Goes
      stays ne = (
        v,
        keeps,
        tt,
        subst (Rule n) (λ i. record { words = sym (set-get_or s.words 1 0) i; homes = s.homes; views = sym (set_again s.views id v at) i }) r,
        (λ k' has'. let same : k ≡ k' = cc in ((λ e. absurd (ne (e ∙ ap (λ (z : ℕ). z % 2 ^ 64) (sym same)))), (λ _. refl))),
      )

      begins : (x : T) → s.homes ≡ some (Some x) ∷ [] → name x ≡ n → history x ≡ r.h → get_or s.words 1 0 ≡ k % 2 ^ 64 → Goes
      begins x home named hist e =
          let w : View N I = begun history v x in let vs' : List (View N I) = set vs id w in let long = length-set vs id w in let out : set s.homes 0 none ≡ none ∷ [] = ap (λ (hs : List (maybe.Option (Option T))). set hs 0 none) home in
          let mine = named_as v n id ok.sort live in let due : v.ticket ≡ Some r.served = has ∙ ap Some (sym (is_served e)) in (
            w,
            takes 0 (Some x),
            ap (λ (hs : List (maybe.Option (Option T))). get_elem? hs 0) home,
            record {
              h = r.h;
              served = r.served;
              drawn = r.drawn;
              words = set-get_or s.words 1 0 ∙ r.words;
              some_view = omega (arith, long, r.some_view);
              few = omega (arith, long, r.few);
              count = let a = waiting-set vs id v w at in omega (arith, r.count, a);
              apart = apart_set vs id w r.apart (λ j i u other there p q. other (r.apart j id i u v there at p q));
              unmade = λ i far. r.unmade i (omega (arith, long, far));
              each = each_set (ViewOk n r.h r.served r.drawn (length vs') (set s.homes 0 none) vs') vs id w
                  record {
                    sort = inr mine;
                    ticket = ok.ticket;
                    turn = λ _. (due, hist, out);
                    base = subst (λ (b : List (Entry I)). IsPrefix b r.h) (sym hist) (prefix_refl r.h);
                    left = λ _. ok.left live;
                    others = λ i o there. let q = ok.others i o there in (q.0, still_spent vs id o.number v w at live q.1, q.2);
                    made = λ p. let q = ok.made p in (q.0, q.1 ∙ sym long);
                    first = λ e. ok.first e ∙ sym long;
                  }
                  (λ j u other there. let o = r.each j u there in record {
                    sort = o.sort;
                    ticket = o.ticket;
                    turn = λ on. let q = o.turn on in (q.0, q.1, out);
                    base = o.base;
                    left = o.left;
                    others = λ i x there. let q = o.others i x there in (q.0, still_spent vs id x.number v w at live q.1, q.2);
                    made = λ p. let q = o.made p in (q.0, q.1 ∙ sym long);
                    first = λ e. o.first e ∙ sym long;
                  });
              placed = inr (out, (id, w, set_here vs id w (at_less vs id v at), refl));
              kept = kept_set vs id v w at (lives w is) (λ i o there. (i, there)) r.kept;
              only = only_set vs id v w at refl r.only;
            },
            (λ k' has'. let same : k ≡ k' = cc in (
              (λ _. (x, refl, (mine.0 ∙ ap Some (sym named), subst (λ (z : List (Entry I)). entries_of v.number z ≡ v.left) (sym hist) (ap (λ (z : ℕ). entries_of z r.h) mine.1 ∙ ok.left live), subst (IsPrefix v.base) (sym hist) ok.base))),
              (λ ne. absurd (ne (e ∙ ap (λ (z : ℕ). z % 2 ^ 64) same))),
            )),
          )

      -- no other view is in its turn where this one's ticket is served
      taken : (j : ℕ) (u : View N I) → get_elem? s.views j ≡ some u → u.in_turn ≡ true → get_or s.words 1 0 ≡ k % 2 ^ 64 → ⊥
      taken j u there on e =
          let q = (r.each j u there).turn on in let same : j ≡ id = r.apart j id k u v there at (q.0 ∙ ap Some (is_served e)) has in
          let it : v ≡ u = some-injective v u (sym at ∙ (ap (get_elem? s.views) (sym same) ∙ there)) in
          let f : false ≡ true = sym off ∙ (ap (λ (z : View N I). z.in_turn) it ∙ on) in absurd (cc)

      go : Placed name history n r.h s.homes s.views → Dec (get_or s.words 1 0 ≡ k % 2 ^ 64) → Goes
      go (inl p) (yes e) = begins p.0 p.1 p.2 p.3 e
      go (inr p) (yes e) = absurd (taken p.1.0 p.1.1 p.1.2 p.1.3 e)
      go p (no ne) = stays ne

  advancing : (n : N) (slots id : ℕ) (v : View N I) (x : T) (es : List (Entry I)) → v.in_turn ≡ true → v.name ≡ Some (name x) → history x ≡ v.base ++ es → AllBy v.number es
      → Allows (Rule n) slots id (v, (0, Some x) ∷ []) 1 (λ z. (z + 1) % 2 ^ 64) (advanced history (step slots 1 1 0 none) (v, (0, Some x) ∷ []))
  advancing n slots id v x es on named_so longer by s r deep at small =
      let live = lives v (is_named v (name x) named_so) in let w : View N I = ended history v x in let vs : List (View N I) = s.views in
      let vs' : List (View N I) = set vs id w in let long = length-set vs id w in let ok = r.each id v at in let mine = named_as v n id ok.sort live in let due = ok.turn on in let inside = at_less vs id v at in
      let named : name x ≡ n = cc in let h' : List (Entry I) = history x in let grown : h' ≡ r.h ++ es = longer ∙ ap (λ (b : List (Entry I)). b ++ es) due.1 in
      let by' : AllBy id es = subst (λ (i : ℕ). AllBy i es) mine.1 by in
      let same : (k : ℕ) → k ≢ id → entries_of k h' ≡ entries_of k r.h = (λ (k : ℕ) (ne : k ≢ id). ap (entries_of k) grown ∙ same_entries id k r.h es by' ne) in
      let more : IsPrefix r.h h' = (es, sym grown) in
      let home : set s.homes 0 (some (Some x)) ≡ some (Some x) ∷ [] = ap (λ (hs : List (maybe.Option (Option T))). set hs 0 (some (Some x))) due.2 in
      let not_spent : (k : ℕ) → get_elem? vs k ≡ some spent → k ≢ id = (λ (k : ℕ) (gone : get_elem? vs k ≡ some spent) (e : k ≡ id). live (some-injective v spent (sym at ∙ (ap (get_elem? vs) (sym e) ∙ gone)))) in (
        w,
        gives,
        tt,
        record {
          h = h';
          served = r.served + 1;
          drawn = r.drawn;
          words = ap (λ (ws : List ℕ). set ws 1 ((get_or ws 1 0 + 1) % 2 ^ 64)) r.words ∙ ap (λ (z : ℕ). r.drawn % 2 ^ 64 ∷ z ∷ []) (mod-add-mod r.served (2 ^ 64) 1);
          some_view = omega (arith, long, r.some_view);
          few = omega (arith, long, r.few);
          count = let a = waiting-set vs id v w at in let b : has_ticket v.ticket ≡ 1 = ap has_ticket due.0 in omega (arith, r.count, a, b);
          apart = apart_set vs id w r.apart (λ j k u other there has e. absurd (cc));
          unmade = λ k far. same k (λ e. omega (arith, long, far, e, inside)) ∙ r.unmade k (omega (arith, long, far));
          each = each_set (ViewOk n h' (r.served + 1) r.drawn (length vs') (set s.homes 0 (some (Some x))) vs') vs id w
              record {
                sort = inr mine;
                ticket = λ k e. absurd (cc);
                turn = λ e. absurd (cc);
                base = prefix_trans v.base r.h h' ok.base more;
                left = λ _. ap (λ (k : ℕ). entries_of k h') (sym mine.1);
                others = λ i o there. let q = ok.others i o there in (same o.number (not_spent o.number q.1) ∙ q.0, still_spent vs id o.number v w at live q.1, q.2);
                made = λ p. let q = ok.made p in (q.0, q.1 ∙ sym long);
                first = λ e. ok.first e ∙ sym long;
              }
              (λ j u other there. let o = r.each j u there in record {
                sort = o.sort;
                ticket = λ k has. let q = o.ticket k has in let ne : r.served ≢ k = (λ (e : r.served ≡ k). other (r.apart j id k u v there at has (due.0 ∙ ap Some e))) in (omega (arith, q.0, ne), q.1);
                turn = λ e. let q = o.turn e in absurd (other (r.apart j id r.served u v there at q.0 due.0));
                base = prefix_trans u.base r.h h' o.base more;
                left = λ l. same j other ∙ o.left l;
                others = λ i x there. let q = o.others i x there in (same x.number (not_spent x.number q.1) ∙ q.0, still_spent vs id x.number v w at live q.1, q.2);
                made = λ p. let q = o.made p in (q.0, q.1 ∙ sym long);
                first = λ e. o.first e ∙ sym long;
              });
          placed = inl (x, home, named, refl);
          kept = kept_set vs id v w at (lives w (is_named v (name x) named_so)) (λ i o there. (i, there)) r.kept;
          only = only_set vs id v w at refl r.only;
        },
        (λ y e. let first : Some x ≡ Some y = ap (held_or (Some x)) e in let same_value : x ≡ y = cc in (ap (λ (z : T). (ended history v z, [])) same_value, ap (entries_of v.number) due.1 ∙ (ap (λ (k : ℕ). entries_of k r.h) mine.1 ∙ ok.left live))),
      )

  pub holds_it : (m m' : Known T N I) → HasTurn name history m m' → (y : Option T) × (m'.1 ≡ (0, y) ∷ rest m'.1)
  holds_it m m' got = let e : m'.1 ≡ (0, Some got.0) ∷ [] = ap (λ (z : Known T N I). z.1) got.1 in (Some got.0, e ∙ ap (λ (cs : List (ℕ × Option T)). (0, Some got.0) ∷ rest cs) (sym e))

  -- what the history has got in a turn
  abbrev Tail : View N I → List (Entry I) → Type 0
  Tail v h = (es : List (Entry I)) × (h ≡ v.base ++ es) × AllBy v.number es × (entries_of v.number es ≡ es)

  tail_of : (v : View N I) (h : List (Entry I)) → MayLeave v h → Tail v h
  tail_of v h (inl same) = ([], same ∙ sym (append-nil v.base), none_by v.number, refl)
  tail_of v h (inr t) = (t.0 ∷ [], t.2, subst (λ (p : ℕ). AllBy p (t.0 ∷ [])) t.1 (one_by t.0), own_one t.0 v.number t.1)

  leaving : (n : N) (slots id : ℕ) (v : View N I) (me : Known T N I) (x : T) → me ≡ (v, (0, Some x) ∷ []) → v.in_turn ≡ true → v.name ≡ Some (name x) → MayLeave v (history x)
      → Allows (Rule n) slots id me 1 (λ z. (z + 1) % 2 ^ 64) (advanced history (step slots 1 1 0 none) me)
  leaving n slots id v me x is on named may = let t = tail_of v (history x) may in
      subst (λ (m : Known T N I). Allows (Rule n) slots id m 1 (λ z. (z + 1) % 2 ^ 64) (advanced history (step slots 1 1 0 none) m)) (sym is) (advancing n slots id v x t.0 on named t.1 t.2)

  pub after_leave : (v : View N I) (slots found : ℕ) (me me' : Known T N I) (x : T) → me ≡ (v, (0, Some x) ∷ []) → MayLeave v (history x) → advanced history (step slots 1 1 0 none) me found me' → Ends v (history x) me'.0
  after_leave v slots found me me' x is may told =
      let t = tail_of v (history x) may in let did = subst (λ (m : Known T N I). advanced history (step slots 1 1 0 none) m found me') is told x refl in let now = did.0 in
      let all : entries_of v.number (history x) ≡ v.left ++ t.0 = ap (entries_of v.number) t.1 ∙ (entries_of-append v.number v.base t.0 ∙ (λ i. did.1 i ++ t.3 i)) in (
        ap (λ (m : Known T N I). m.0.turns) now,
        ap (λ (m : Known T N I). m.0.base) now,
        (λ es longer. ap (λ (m : Known T N I). m.0.left) now ∙ (all ∙ ap (λ (z : List (Entry I)). v.left ++ z) (append_cancel_left v.base t.0 es (sym t.1 ∙ longer)))),
      )

  pub draws : (n : N) (slots id : ℕ) (me : Known T N I) → me.0.name ≢ None → me.0.ticket ≡ None → Allows (Ruled name history n) slots id me 0 (λ x. (x + 1) % 2 ^ 64) (drew (step slots 0 1 0 none) me)
  draws n slots id me is idle = allows name history n slots id me 0 (λ x. (x + 1) % 2 ^ 64) (drew (step slots 0 1 0 none) me) (drawing n slots id me is idle)

  pub looks : (n : N) (slots id k : ℕ) (me : Known T N I) → me.0.name ≢ None → me.0.ticket ≡ Some k → me.0.in_turn ≡ false
      → Allows (Ruled name history n) slots id me 1 (λ x. x) (looked name history (step slots 1 0 0 none) me)
  looks n slots id k me is has off = allows name history n slots id me 1 (λ x. x) (looked name history (step slots 1 0 0 none) me) (looking n slots id k me is has off)

  pub leaves : (n : N) (slots id : ℕ) (v : View N I) (me : Known T N I) (x : T) → me ≡ (v, (0, Some x) ∷ []) → v.in_turn ≡ true → v.name ≡ Some (name x) → MayLeave v (history x)
      → Allows (Ruled name history n) slots id me 1 (λ z. (z + 1) % 2 ^ 64) (advanced history (step slots 1 1 0 none) me)
  leaves n slots id v me x is on named may = allows name history n slots id me 1 (λ z. (z + 1) % 2 ^ 64) (advanced history (step slots 1 1 0 none) me) (leaving n slots id v me x is on named may)
