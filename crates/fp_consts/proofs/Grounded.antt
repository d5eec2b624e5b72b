-- What is on a cycle has no value.
use Rattle.std.proofs.Common.{◌≡◌, ℕ, ◌<◌, ◌⊎◌, List, [], ◌∷◌, flat_map, slice_get, Option, Some, None, refl, inl, inr, sym, ap, subst, arith}
use Rattle.std.specs.List.{Contains}
use Rattle.std.proofs.lemmas.List.Elements.{Contains-append_cases, Contains-push_cases, at_from_Contains}
use Rattle.fp_base.specs.declared.value.Value.{Value}
use Rattle.fp_tree.specs.declared.source.Source.{Source}
use Rattle.fp_tree.specs.declared.name.Qual.{Qual}
use Rattle.fp_tree.specs.declared.expression.Expr.{Expr}
use Rattle.fp_meaning.specs.declared.group.Group.TheVariants as group
use Rattle.fp_meaning.specs.declared.names.Mention.{Mention}
use Rattle.fp_meaning.specs.Names.{Path, definitions, mentioned, in_expression, in_optional}
use Rattle.fp_meaning.specs.Meaning.{Means}
use Rattle.fp_meaning.specs.Origins.{Placed, placed, placed_optional, Origin, Constant, Enumerated, NoValue, origins, written_in}
use Rattle.fp_meaning.specs.Values.{Opened, opened, names_of, MeansOrigin, Val, number, text, truth, constant, written, implied, negated, combined, enclosed, listed, structured, Vals, none, more}
use Rattle.fp_meaning.specs.Layout.{items}
use Rattle.fp_meaning.specs.Uses.{Uses}
use Rattle.fp_graph.specs.Chains.{LeadsThrough, one as first_step, more as further_step, IsOnCycle}
use Rattle.fp_meaning.proofs.Meanings.{one_meaning}
use Rattle.fp_consts.specs.Examined.{HasValue, GivesValue}
use Rattle.fp_consts.proofs.Rolled.{open_uses, opened_uses}
use Rattle.fp_consts.proofs.Own.{own_use, in_placed, constant_valued, enumerated_valued}

-- each chain of uses from the definition on ends
pub data Grounded (source : Source) : ℕ → Type 0 where
  ground : {user : ℕ} → ((used : ℕ) → Uses (items source) user used → Grounded source used) → Grounded source user

none_there : {A B : Type 0} (y : A) → Contains [] y → B
none_there y h = let t = at_from_Contains [] y h in let below : t.0 < 0 = t.1 in absurd (omega arith)

alone : {A : Type 0} (x y : A) → Contains (x ∷ []) y → y ≡ x
alone x y h = elim (Contains-push_cases [] x y h) [
  | inl n ↦ none_there y n
  | inr e ↦ sym e
]

-- something is written there, so it has a value
has_value : (origin : Origin) (p : Placed) → written_in origin ≡ Some p → origin ≡ NoValue → ⊥
has_value (Constant scope e) p is none_ = constant_valued none_
has_value (Enumerated scope enum position c) p is none_ = enumerated_valued none_
has_value NoValue p is none_ = cc

module _ (source : Source) where
  -- a definition whose written expression uses only what is grounded
  abbrev Grounds : Path → Opened → Type 0
  Grounds scope s = (m : Mention) → Contains (open_uses scope s) m → (used : ℕ) → Means (definitions source) m.scope m.name group.Value used → Grounded source used

  in_whole : (scope : Path) (e : Expr) (m : Mention) → Contains (in_expression scope e) m → Contains (open_uses scope (opened e)) m
  in_whole scope e m h = subst (λ (ms : List Mention). Contains ms m) (opened_uses scope e) h

  grounded_by : (user : ℕ) (origin : Origin) (p : Placed) → slice_get (origins source) user ≡ Some origin → written_in origin ≡ Some p
      → Grounds p.scope (opened p.expression) → Grounded source user
  grounded_by user origin p at is grounds = ground (λ used u.
      let own = own_use source user used origin at (has_value origin p is) u in
      let there : Contains (in_expression p.scope p.expression) own.mention = subst (λ (o : Option Placed). Contains (in_optional in_placed o) own.mention) is own.there in
      grounds own.mention (in_whole p.scope p.expression own.mention there) used own.means)

  nothing_used : (user : ℕ) (origin : Origin) → slice_get (origins source) user ≡ Some origin → written_in origin ≡ None → (origin ≡ NoValue → ⊥) → Grounded source user
  nothing_used user origin at is valued = ground (λ used u.
      let own = own_use source user used origin at valued u in
      none_there own.mention (subst (λ (o : Option Placed). Contains (in_optional in_placed o) own.mention) is own.there))

  used_there : (scope : Path) (name : Qual) (m : Mention) (origin : Origin) (o : MeansOrigin source scope name origin) → Contains (mentioned group.Value scope name ∷ []) m → (used : ℕ)
      → Means (definitions source) m.scope m.name group.Value used → Grounded source o.0 → Grounded source used
  used_there scope name m origin o there used means g =
      let same : m ≡ mentioned group.Value scope name = alone (mentioned group.Value scope name) m there in
      let meant : Means (definitions source) scope (names_of name) group.Value used = subst (λ (x : Mention). Means (definitions source) x.scope x.name group.Value used) same means in
      subst (λ (k : ℕ). Grounded source k) (one_meaning _ _ _ _ _ _ o.1 meant) g

  mutual
    grounded : {scope : Path} {s : Opened} {v : Value} → Val source scope s v → Grounds scope s
    grounded number m there used means = none_there m there
    grounded text m there used means = none_there m there
    grounded truth m there used means = none_there m there
    grounded {scope = scope} (constant {inner = inner} {name = name} {e = e} o h) m there used means =
        used_there scope name m (Constant inner e) o there used means (grounded_by o.0 (Constant inner e) (placed inner e) o.2 refl (grounded h))
    grounded {scope = scope} (written {inner = inner} {name = name} {enum = enum} {position = position} {c = c} {e = e} o is h i) m there used means =
        used_there scope name m (Enumerated inner enum position c) o there used means
        (grounded_by o.0 (Enumerated inner enum position c) (placed inner e) o.2 (ap (λ (x : Option Expr). placed_optional inner x) is) (grounded h))
    grounded {scope = scope} (implied {inner = inner} {name = name} {enum = enum} {position = position} {c = c} o is all) m there used means =
        used_there scope name m (Enumerated inner enum position c) o there used means
        (nothing_used o.0 (Enumerated inner enum position c) o.2 (ap (λ (x : Option Expr). placed_optional inner x) is) enumerated_valued)
    grounded {scope = scope} (negated {a = a} h i f) m there used means = grounded h m (in_whole scope a m there) used means
    grounded {scope = scope} (combined {a = a} {b = b} h i k j r) m there used means = elim (Contains-append_cases (in_expression scope a) (in_expression scope b) m there) [
      | inl l ↦ grounded h m (in_whole scope a m l) used means
      | inr l ↦ grounded k m (in_whole scope b m l) used means
    ]
    grounded {scope = scope} (enclosed {a = a} h) m there used means = grounded h m (in_whole scope a m there) used means
    grounded (listed hs within) m there used means = grounded_all hs m there used means
    grounded (structured hs within) m there used means = grounded_all hs m there used means

    grounded_all : {scope : Path} {es : List Expr} {vs : List Value} → Vals source scope es vs → (m : Mention) → Contains (flat_map (in_expression scope) es) m → (used : ℕ)
        → Means (definitions source) m.scope m.name group.Value used → Grounded source used
    grounded_all none m there used means = none_there m there
    grounded_all {scope = scope} (more {e = e} {es = es} h hs) m there used means = elim (Contains-append_cases (in_expression scope e) (flat_map (in_expression scope) es) m there) [
      | inl l ↦ grounded h m (in_whole scope e m l) used means
      | inr l ↦ grounded_all hs m l used means
    ]

  value_grounded : (user : ℕ) (origin : Origin) (v : Value) → slice_get (origins source) user ≡ Some origin → GivesValue source origin v → Grounded source user
  value_grounded user (Constant scope e) v at h = grounded_by user (Constant scope e) (placed scope e) at refl (grounded h)
  value_grounded user (Enumerated scope enum position c) v at (inl t) =
      grounded_by user (Enumerated scope enum position c) (placed scope t.0) at (ap (λ (x : Option Expr). placed_optional scope x) t.3) (grounded t.4)
  value_grounded user (Enumerated scope enum position c) v at (inr t) = nothing_used user (Enumerated scope enum position c) at (ap (λ (x : Option Expr). placed_optional scope x) t.0) enumerated_valued
  value_grounded user NoValue v at h = absurd h

  -- a way from the definition on ends, so that it doesn't come back
  abbrev Way : ℕ → ℕ → Type 0
  Way = LeadsThrough (Uses (items source))

  first_of : {from to : ℕ} → Way from to → (between : ℕ) × Uses (items source) from between × ((between ≡ to) ⊎ Way between to)
  first_of (first_step {to = to} u) = (to, u, inl refl)
  first_of (further_step {between = between} {to = to} w u) = let t = first_of w in (t.0, t.1, inr (go t.2))
    where
      go : {k : ℕ} → (k ≡ between) ⊎ Way k between → Way k to
      go (inl e) = subst (λ (x : ℕ). Way x to) (sym e) (first_step u)
      go (inr v) = further_step v u

  round_to : {k between : ℕ} → Uses (items source) k between → (between ≡ k) ⊎ Way between k → Way between between
  round_to {between = between} u (inl e) = subst (λ (x : ℕ). Way x between) (sym e) (first_step u)
  round_to u (inr w) = further_step w u

  off_cycles : (k : ℕ) → Grounded source k → Way k k → ⊥
  off_cycles k (ground next) w = let t = first_of w in off_cycles t.0 (next t.0 t.1) (round_to t.1 t.2)

  pub none_on_cycle : (user : ℕ) (v : Value) → IsOnCycle (Uses (items source)) user → HasValue source user v → ⊥
  none_on_cycle user v cycle has = off_cycles user (value_grounded user has.0 v has.1 has.2) cycle
