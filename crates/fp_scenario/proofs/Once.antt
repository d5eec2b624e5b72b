-- A value spells one scenario at most, and what a sound value spells keeps the limits.
use Rattle.std.proofs.Common.{◌≡◌, ◌≤◌, ℕ, suc, List, [], ◌∷◌, length, Bool, Option, Some, None, true, false, is_some, option_map, option_and_then, unwrap_or, nat_le, codes, rules, refl, sym, true≢false, ap, ◌∙◌, subst, arith}
use Rattle.std.specs.List.{AllByRecursion, list_all}
use Rattle.serde_json.specs.Data.{Data, null, boolean, number, string, array, object}
use Rattle.serde_json.specs.Find.{get, as_object, as_str}
use Rattle.fp_base.proofs.Bools.{both}
use Rattle.fp_base.proofs.Options.{same_some}
use Rattle.fp_scenario.specs.Checked.{IsSound, AllSound}
use Rattle.fp_scenario.specs.Keys.{first_of, at_key, keys_of, needed, wanted_at}
use Rattle.fp_scenario.specs.Kinds.{items, natural, within, is_identifier, is_of_kind, is_of_size}
use Rattle.fp_scenario.specs.Spelled.{EachSpelled, IsAct, IsCaller, IsHandler, IsAnswer, IsGuard, Spells, items_at, number_at, text_at, first_text, given}
use Rattle.fp_scenario.specs.Same.{Paired, IsSameAct, IsSameCaller, IsSameHandler, IsSameGuard, IsSame, IsOfText, IsNamed, IsKept}
use Rattle.fp_scenario.specs.declared.scenario.Scenario.{Scenario}
use Rattle.fp_scenario.specs.declared.scenario.CallerText.{CallerText}
use Rattle.fp_scenario.specs.declared.scenario.HandlerText.{HandlerText}
use Rattle.fp_scenario.specs.declared.scenario.GuardText.{GuardText}
use Rattle.fp_scenario.specs.declared.scenario.ActText.{ActText}
use Rattle.fp_scenario.specs.declared.wanted.Wanted.{Wanted}
use Rattle.fp_scenario.specs.declared.wanted.Wanted.TheVariants as wanted
use Rattle.fp_scenario.specs.declared.first_key.FirstKey.TheVariants.{Read, Respond}
use Rattle.fp_scenario.proofs.Kept.{first_there}
use Rattle.fp_scenario.proofs.Inside.{kind_of_sound, size_of_sound, member_sound, items_sound, needed_of_sound}

paired : {A : Type 0} (P : Data → A → Type 0) (Q : A → A → Type 0) → ((d : Data) (a b : A) → P d a → P d b → Q a b) → (ds : List Data) (as_ bs : List A) → EachSpelled P ds as_ → EachSpelled P ds bs → Paired Q as_ bs
paired P Q one [] [] [] x y = tt
paired P Q one [] [] (b ∷ bs) x y = absurd y
paired P Q one [] (a ∷ as_) bs x y = absurd x
paired P Q one (d ∷ ds) [] bs x y = absurd x
paired P Q one (d ∷ ds) (a ∷ as_) [] x y = absurd y
paired P Q one (d ∷ ds) (a ∷ as_) (b ∷ bs) x y = (one d a b x.0 y.0, paired P Q one ds as_ bs x.1 y.1)

one_act : (d : Data) (a b : ActText) → IsAct d a → IsAct d b → IsSameAct a b
one_act d a b x y =
    let key : a.key ≡ b.key = same_some (x.key ∙ sym y.key) in
    record {
      key = key;
      first = x.first ∙ ap (λ k. first_text k d) key ∙ sym y.first;
      at = x.at ∙ sym y.at;
      name = x.name ∙ sym y.name;
      with_ = x.with_ ∙ ap (λ k. given k d) key ∙ sym y.with_;
      as_ = x.as_ ∙ sym y.as_;
    }

one_caller : (d : Data) (a b : CallerText) → IsCaller d a → IsCaller d b → IsSameCaller a b
one_caller d a b x y = record { name = x.name ∙ sym y.name; do_ = paired IsAct IsSameAct one_act _ _ _ x.do_ y.do_ }

one_handler : (d : Data) (a b : HandlerText) → IsHandler d a → IsHandler d b → IsSameHandler a b
one_handler d a b x y = record { of = x.of ∙ sym y.of; on_ = x.on_ ∙ sym y.on_; do_ = paired IsAct IsSameAct one_act _ _ _ x.do_ y.do_ }

one_list : (ds : List Data) (as_ bs : List Bool) → EachSpelled IsAnswer ds as_ → EachSpelled IsAnswer ds bs → as_ ≡ bs
one_list [] [] [] x y = refl
one_list [] [] (b ∷ bs) x y = absurd y
one_list [] (a ∷ as_) bs x y = absurd x
one_list (d ∷ ds) [] bs x y = absurd x
one_list (d ∷ ds) (a ∷ as_) [] x y = absurd y
one_list (d ∷ ds) (a ∷ as_) (b ∷ bs) x y = ap (λ c. c ∷ as_) (same_some (sym x.0 ∙ y.0)) ∙ ap (λ cs. b ∷ cs) (one_list ds as_ bs x.1 y.1)

one_guard : (d : Data) (a b : GuardText) → IsGuard d a → IsGuard d b → IsSameGuard a b
one_guard d a b x y = record { of = x.of ∙ sym y.of; machine = x.machine ∙ sym y.machine; guard_name = x.guard_name ∙ sym y.guard_name; answers = one_list _ _ _ x.answers y.answers }

pub spelled_once : (d : Data) (a b : Scenario) → Spells d a → Spells d b → IsSame a b
spelled_once d a b x y = record {
  steps = x.steps ∙ sym y.steps;
  callers = paired IsCaller IsSameCaller one_caller _ _ _ x.callers y.callers;
  handlers = paired IsHandler IsSameHandler one_handler _ _ _ x.handlers y.handlers;
  guards = paired IsGuard IsSameGuard one_guard _ _ _ x.guards y.guards;
}

-- ---- limits

each_length : {A : Type 0} (P : Data → A → Type 0) (ds : List Data) (as_ : List A) → EachSpelled P ds as_ → length ds ≡ length as_
each_length P [] [] x = refl
each_length P [] (a ∷ as_) x = absurd x
each_length P (d ∷ ds) [] x = absurd x
each_length P (d ∷ ds) (a ∷ as_) x = ap suc (each_length P ds as_ x.1)

counted : (n : ℕ) → nat_le 0 n ≡ true → (o : Option Data) → ((y : Data) → o ≡ Some y → nat_le (length (items y)) n ≡ true) → nat_le (length (unwrap_or (option_map items o) [])) n ≡ true
counted n least None each = least
counted n least (Some y) each = each y refl

stepped_in : (o : Option ℕ) → unwrap_or (option_map (within 1 20000) o) false ≡ true → within 1 20000 (unwrap_or o 10000) ≡ true
stepped_in (Some n) h = h
stepped_in None h = absurd (true≢false (sym h))

stepped : (o : Option Data) → ((y : Data) → o ≡ Some y → is_of_size wanted.Steps y ≡ true) → within 1 20000 (unwrap_or (option_and_then natural o) 10000) ≡ true
stepped None each = refl
stepped (Some y) each = stepped_in (natural y) (each y refl)

at_least : (m n : ℕ) → within m 20000 n ≡ true → m ≤ n
at_least m n h = search (rules, arith)

at_most : (m n : ℕ) → within 1 m n ≡ true → n ≤ m
at_most m n h = search (rules, arith)

no_more : (m n : ℕ) → nat_le n m ≡ true → n ≤ m
no_more m n h = search (rules, arith)

identified : (o : Option (List ℕ)) → unwrap_or (option_map is_identifier o) false ≡ true → is_identifier (unwrap_or o []) ≡ true
identified (Some s) h = h
identified None h = absurd (true≢false (sym h))

identified_at : (o : Option Data) → ((y : Data) → o ≡ Some y → is_of_kind wanted.Identifier y ≡ true) → (none : o ≡ None → ⊥) → is_identifier (unwrap_or (option_and_then as_str o) []) ≡ true
identified_at None each none = absurd (none refl)
identified_at (Some y) each none = identified (as_str y) (each y refl)

-- a sound caller has an identifier as its name
caller_named : (d : Data) → IsSound wanted.Caller d → is_identifier (text_at (codes "name") d) ≡ true
caller_named d h =
    let there = needed_of_sound wanted.Caller d h (kind_of_sound wanted.Caller d h) in
    identified_at (get (codes "name") d) (λ y found. kind_of_sound wanted.Identifier y (member_sound wanted.Caller wanted.Identifier d y (codes "name") h refl found)) (λ none. true≢false (sym (both _ _ there).0 ∙ ap is_some none))

over_each : {A : Type 0} (w : Wanted) (P : Data → A → Type 0) (Q : A → Type 0) → ((d : Data) (a : A) → IsSound w d → P d a → Q a) → (ds : List Data) (as_ : List A) → AllSound w ds → EachSpelled P ds as_ → AllByRecursion Q as_
over_each w P Q gives [] [] all each = tt
over_each w P Q gives [] (a ∷ as_) all each = absurd each
over_each w P Q gives (d ∷ ds) [] all each = absurd each
over_each w P Q gives (d ∷ ds) (a ∷ as_) all each = (gives d a (all 0 d refl) each.0, over_each w P Q gives ds as_ (λ i x found. all (suc i) x found) each.1)

act_responds : (d : Data) (act : ActText) → IsSound wanted.Action d → IsAct d act → act.key ≡ Respond → is_identifier act.first ≡ true
act_responds d act h x responds =
    let only_first : first_of d ≡ Some Respond = sym x.key ∙ ap (λ k. Some k) responds in
    let there = first_there d Respond only_first in
    let text : act.first ≡ text_at (codes "respond") d = x.first ∙ ap (λ k. first_text k d) responds in
    ap is_identifier text ∙ identified_at (get (codes "respond") d) (λ y found. kind_of_sound wanted.Identifier y (member_sound wanted.Action wanted.Identifier d y (codes "respond") h refl found)) (λ none. true≢false (sym there ∙ ap is_some none))

in_object : (k : List ℕ) (d : Data) → is_some (get k d) ≡ true → is_some (as_object d) ≡ true
in_object k (object ms) there = refl
in_object k null there = absurd (true≢false (sym there))
in_object k (boolean b) there = absurd (true≢false (sym there))
in_object k (number n) there = absurd (true≢false (sym there))
in_object k (string s) there = absurd (true≢false (sym there))
in_object k (array ds) there = absurd (true≢false (sym there))

texted_at : (o : Option Data) → is_some o ≡ true → ((y : Data) → o ≡ Some y → is_of_kind wanted.Text y ≡ true) → is_some (option_and_then as_str o) ≡ true
texted_at None there each = absurd (true≢false (sym there))
texted_at (Some y) there each = each y refl

act_reads : (d : Data) (act : ActText) → IsSound wanted.Action d → IsAct d act → act.key ≡ Read → is_some act.as_ ≡ true
act_reads d act h x reads =
    let only_first : first_of d ≡ Some Read = sym x.key ∙ ap (λ k. Some k) reads in
    let all = ap (λ f. list_all (λ k. is_some (get k d)) (needed wanted.Action f)) (sym only_first) ∙ needed_of_sound wanted.Action d h (in_object (codes "read") d (first_there d Read only_first)) in
    let wants : wanted_at wanted.Action d (codes "as") ≡ Some wanted.Text = ap (λ f. at_key (codes "as") (keys_of wanted.Action f)) only_first in
    ap is_some x.as_
    ∙ texted_at (get (codes "as") d) (both (is_some (get (codes "as") d)) true all).0 (λ y found. kind_of_sound wanted.Text y (member_sound wanted.Action wanted.Text d y (codes "as") h wants found))

act_named : (d : Data) (act : ActText) → IsSound wanted.Action d → IsAct d act → IsNamed act
act_named d act h x = record { responds = act_responds d act h x; reads = act_reads d act h x }

few_acts : (w : Wanted) (d : Data) (acts : List ActText) → IsSound w d → wanted_at w d (codes "do") ≡ Some wanted.Actions → EachSpelled IsAct (items_at (codes "do") d) acts → (length acts ≤ 1000) × AllByRecursion IsNamed acts
few_acts w d acts h wants each = (
  subst (λ n. n ≤ 1000) (each_length IsAct (items_at (codes "do") d) acts each) (no_more 1000 _ (counted 1000 refl (get (codes "do") d) (λ y found. size_of_sound wanted.Actions y (member_sound w wanted.Actions d y (codes "do") h wants found)))),
  over_each wanted.Action IsAct IsNamed act_named (items_at (codes "do") d) acts (items_sound w wanted.Actions wanted.Action d (codes "do") h wants refl) each,
)

caller_kept : (d : Data) (c : CallerText) → IsSound wanted.Caller d → IsCaller d c → (is_identifier c.name ≡ true) × (length c.do_ ≤ 1000) × AllByRecursion IsNamed c.do_
caller_kept d c h x = let acts = few_acts wanted.Caller d c.do_ h refl x.do_ in (ap is_identifier x.name ∙ caller_named d h, acts.0, acts.1)

handler_kept : (d : Data) (c : HandlerText) → IsSound wanted.Handler d → IsHandler d c → (length c.do_ ≤ 1000) × AllByRecursion IsNamed c.do_
handler_kept d c h x = few_acts wanted.Handler d c.do_ h refl x.do_

answered : (o : Option Data) → is_some o ≡ true → ((y : Data) → o ≡ Some y → is_of_size wanted.Answers y ≡ true) → within 1 1024 (length (unwrap_or (option_map items o) [])) ≡ true
answered None there each = absurd (true≢false (sym there))
answered (Some y) there each = each y refl

enough : (n : ℕ) → within 1 1024 n ≡ true → 1 ≤ n
enough n h = search (rules, arith)

guard_kept : (d : Data) (g : GuardText) → IsSound wanted.Guard d → IsGuard d g → (1 ≤ length g.answers) × (length g.answers ≤ 1024)
guard_kept d g h x =
    let all = needed_of_sound wanted.Guard d h (kind_of_sound wanted.Guard d h) in
    let there = (both (is_some (get (codes "answers") d)) true (both (is_some (get (codes "guard") d)) _ (both (is_some (get (codes "machine") d)) _ (both (is_some (get (codes "of") d)) _ all).1).1).1).0 in
    let sized = answered (get (codes "answers") d) there (λ y found. size_of_sound wanted.Answers y (member_sound wanted.Guard wanted.Answers d y (codes "answers") h refl found)) in
    let same = each_length IsAnswer (items_at (codes "answers") d) g.answers x.answers in
    (subst (λ n. 1 ≤ n) same (enough _ sized), subst (λ n. n ≤ 1024) same (at_most 1024 _ sized))

pub kept : (s : Scenario) → IsOfText s → IsKept s
kept s (d, h, x) =
    let steps = stepped (get (codes "steps") d) (λ y found. size_of_sound wanted.Steps y (member_sound wanted.Scenario wanted.Steps d y (codes "steps") h refl found)) in
    let callers = counted 32 refl (get (codes "callers") d) (λ y found. size_of_sound wanted.Callers y (member_sound wanted.Scenario wanted.Callers d y (codes "callers") h refl found)) in
    record {
      some_steps = subst (λ n. 1 ≤ n) (sym x.steps) (at_least 1 (unwrap_or (number_at (codes "steps") d) 10000) steps);
      few_steps = subst (λ n. n ≤ 20000) (sym x.steps) (at_most 20000 (unwrap_or (number_at (codes "steps") d) 10000) steps);
      few_callers = subst (λ n. n ≤ 32) (each_length IsCaller (items_at (codes "callers") d) s.callers x.callers) (no_more 32 _ callers);
      callers = over_each wanted.Caller IsCaller _ caller_kept (items_at (codes "callers") d) s.callers (items_sound wanted.Scenario wanted.Callers wanted.Caller d (codes "callers") h refl refl) x.callers;
      handlers = over_each wanted.Handler IsHandler _ handler_kept (items_at (codes "handlers") d) s.handlers (items_sound wanted.Scenario wanted.Handlers wanted.Handler d (codes "handlers") h refl refl) x.handlers;
      guards = over_each wanted.Guard IsGuard _ guard_kept (items_at (codes "guards") d) s.guards (items_sound wanted.Scenario wanted.Guards wanted.Guard d (codes "guards") h refl refl) x.guards;
    }
