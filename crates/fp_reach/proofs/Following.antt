-- Paths between handlers, guards and turns, and paths in the graph that has actions between them.
use Rattle.std.proofs.Common.{◌≡◌, ◌⊎◌, inl, inr, ℕ, Bool, true, false, slice_get, Option, Some, None, refl, sym, ap, subst}
use Rattle.fp_graph.specs.Visits.{Among}
use Rattle.fp_base.proofs.Options.{one_some}
use Rattle.fp_tables.specs.Lookup.{Described}
use Rattle.fp_tables.specs.declared.program.Act.{Act}
use Rattle.fp_tables.specs.declared.program.Spot.{Spot}
use Rattle.fp_tables.specs.declared.program.Handler.{Handler as Handled}
use Rattle.fp_tables.specs.declared.program.Program.{Program}
use Rattle.fp_reach.specs.declared.node.Node.{Node}
use Rattle.fp_reach.specs.declared.node.Node.TheVariants.{At, Implied}
use Rattle.fp_reach.specs.declared.node.Arrival.{Arrival}
use Rattle.fp_reach.specs.declared.node.Lock.{Lock as Held}
use Rattle.fp_reach.specs.declared.node.Lock.TheVariants.{Guard, Turn}
use Rattle.fp_reach.specs.declared.vertex.Vertex.{Vertex}
use Rattle.fp_reach.specs.declared.vertex.Vertex.TheVariants.{Handler, Action, Lock}
use Rattle.fp_reach.specs.Nodes.{leads, guards, led, taken, opens, sends}
use Rattle.fp_reach.specs.Reaching.{Reaches, once, again, Comes}
use Rattle.fp_reach.specs.Vertices.{counts}
use Rattle.fp_reach.specs.Cycles.{ActLeads, arriving, dispatching, Acts, Edge, of_action, of_sending, Takes, action_takes, sending_takes, Holds, holds, HasNoCycle, IsOnCycle, IsOnLockCycle, TakesAlong, itself, through}
use Rattle.fp_reach.proofs.Amid.{reaches_join, comes_join, join_comes, comes_comes, first_step, last_step}
use Rattle.fp_reach.proofs.Vertices.{Goes, to_action, by_action, taken_by_action, by_sending, taken_by_sending, opened}
use Rattle.fp_reach.proofs.Ways.{IsAt, dispatch_takes, turn_taken, own_turn, sends_at, guards_no_turn}

-- what a handler opens with, none of an implied one
abbrev opens_node : Described → Node → Option Held
opens_node t (At i place) = opens t i place
opens_node t (Implied i n) = None

-- parts of an action's vertex
abbrev number_of : ℕ → Vertex → ℕ
number_of other (Action n k) = n
number_of other _ = other

abbrev place_of : ℕ → Vertex → ℕ
place_of other (Action n k) = k
place_of other _ = other

abbrev IsNoAction : Vertex → Type 0
IsNoAction (Action n k) = ⊥
IsNoAction _ = Unit {0}

module _ (t : Described) (program : Program) where
  one_handler : {n k j : ℕ} {h g : Handled} {a b : Act} → Acts t program n k h a → Acts t program n j g b → h ≡ g
  one_handler {n = n} {h = h} {g = g} p q = one_some (slice_get program.handlers n) h g p.handler q.handler

  one_action : {n k : ℕ} {h : Handled} {a b : Act} → Acts t program n k h a → Acts t program n k h b → a ≡ b
  one_action {k = k} {h = h} {a = a} {b = b} p q = one_some (slice_get h.acts k) a b p.action q.action

  -- what holds of an action holds of each with the same positions
  any_action : (P : Handled → Act → Type 0) {m j : ℕ} {g : Handled} {b : Act} → Acts t program m j g b → P g b → (g2 : Handled) (b2 : Act) → Acts t program m j g2 b2 → P g2 b2
  any_action P {m = m} {j = j} {g = g} {b = b} mine p g2 b2 theirs =
      let same : g ≡ g2 = one_handler mine theirs in
      let now : Acts t program m j g2 b = subst (λ (x : Handled). Acts t program m j x b) same mine in
      subst (λ (y : Act). P g2 y) (one_action now theirs) (subst (λ (x : Handled). P x b) same p)

  only_guards : (z : Arrival) (m : Held) → guards t z ≡ Some m → counts false m ≡ true → ⊥
  only_guards z (Turn i) e counted = guards_no_turn t z i e
  only_guards z (Guard i) e counted = cc

  abbrev pub E : Node → Node → Type 0
  E = Edge t program

  -- ---- from paths between handlers

  -- an action leads to the implied handler
  abbrev IsReady : Node → Type 0
  IsReady (At i place) = Unit {0}
  IsReady (Implied i m) = (n k : ℕ) × (h : Handled) × (a : Act) × Acts t program n k h a × (led t h.instance a ≡ Some (Implied i m))

  -- something goes on from it
  data Lives : Node → Type 0 where
    standing : {h : Handled} (n : ℕ) → slice_get program.handlers n ≡ Some h → Lives (At h.instance h.place)
    implied : {i m : ℕ} → Lives (Implied i m)

  lives : {u v : Node} → E u v → Lives u
  lives (of_action {n = n} acts l) = standing n acts.handler
  lives (of_sending x among e) = implied

  lives_reaching : {u v : Node} → Reaches E u v → Lives u
  lives_reaching p = lives (first_step p).1

  lives_taking : {u : Node} {m : Held} → Takes t program u m → Lives u
  lives_taking (action_takes {n = n} acts e) = standing n acts.handler
  lives_taking (sending_takes x among e) = implied

  ready_led : {n k : ℕ} {h : Handled} {a : Act} → Acts t program n k h a → (v : Node) → led t h.instance a ≡ Some v → IsReady v
  ready_led acts (At i place) e = tt
  ready_led {n = n} {k = k} {h = h} {a = a} acts (Implied i m) e = (n, k, h, a, acts, e)

  ready_sent : (i m : ℕ) (x : Arrival) → Among (sends t i m) x → (v : Node) → leads t x ≡ Some v → IsReady v
  ready_sent i m x among (At j place) e = tt
  ready_sent i m x among (Implied j k) e = absurd (sends_at t i m x (Implied j k) among e)

  ready : {u v : Node} → E u v → IsReady v
  ready {v = v} (of_action acts (arriving e)) = ready_led acts v e
  ready (of_action acts (dispatching d e)) = tt
  ready {v = v} (of_sending {i = i} {n = m} x among e) = ready_sent i m x among v e

  ready_reached : {u v : Node} → Reaches E u v → IsReady v
  ready_reached p = ready (last_step p).1

  module _ (b : Bool) where
    abbrev pub G : Vertex → Vertex → Type 0
    G = Goes t program b

    opened_at : (i : ℕ) (v : Node) → Lives v → opens_node t v ≡ Some (Turn i) → G (Lock (Turn i)) (Handler v)
    opened_at i v (standing n here) e = opened n here e refl
    opened_at i v implied e = absurd (cc)

    act_leads : {n k : ℕ} {h : Handled} {a : Act} {v : Node} → Acts t program n k h a → ActLeads t h.instance a v → Lives v → Reaches G (Action n k) (Handler v)
    act_leads acts (arriving e) l = once (by_action acts e)
    act_leads {h = h} {a = a} acts (dispatching {place = place} d e) l =
        again (taken_by_action acts (dispatch_takes t h.instance a d) refl) (once (opened_at h.instance (At h.instance place) l e))

    edge_goes : {u v : Node} → E u v → IsReady u → Lives v → Reaches G (Handler u) (Handler v)
    edge_goes (of_action acts l) r lives = again (to_action acts) (act_leads acts l lives)
    edge_goes (of_sending x among e) r lives = once (by_sending x r.4 r.5 among e)

    path_goes : {u v : Node} → Reaches E u v → IsReady u → Lives v → Reaches G (Handler u) (Handler v)
    path_goes (once e) r l = edge_goes e r l
    path_goes (again e p) r l = reaches_join (edge_goes e r (lives_reaching p)) (path_goes p (ready e) l)

    comes_goes : {u v : Node} → Comes E u v → IsReady u → Lives v → Comes G (Handler u) (Handler v)
    comes_goes (inl e) r l = inl (ap Handler e)
    comes_goes (inr p) r l = inr (path_goes p r l)

    -- an action of the program is on a cycle
    abbrev pub IsRound : Type 0
    IsRound = (n k : ℕ) × Reaches G (Action n k) (Action n k)

    act_round : {n k : ℕ} {h : Handled} {a : Act} {v : Node} → Acts t program n k h a → ActLeads t h.instance a v → Comes E v (At h.instance h.place) → IsRound
    act_round {n = n} {k = k} acts (arriving e) p =
        let l = standing n acts.handler in
        (n, k, again (by_action acts e) (comes_join (comes_goes p (ready (of_action acts (arriving e))) l) (once (to_action acts))))
    act_round {n = n} {k = k} {h = h} acts (dispatching d e) (inl same) =
        let l = subst Lives (sym same) (standing n acts.handler) in
        (n, k, reaches_join (act_leads acts (dispatching d e) l) (comes_join (inl (ap Handler same)) (once (to_action acts))))
    act_round {n = n} {k = k} acts (dispatching d e) (inr p) =
        let l = lives_reaching p in
        (n, k, reaches_join (act_leads acts (dispatching d e) l) (reaches_join (path_goes p tt (standing n acts.handler)) (once (to_action acts))))

    from_at : {v w : Node} → E v w → IsAt v → Comes E w v → IsRound
    from_at (of_action acts l) at p = act_round acts l p
    from_at (of_sending x among e) at p = absurd at

    edge_round : {u v : Node} → E u v → Comes E v u → IsRound
    edge_round (of_action acts l) p = act_round acts l p
    edge_round (of_sending {i = i} {n = m} {v = v} x among e) (inl same) = absurd (subst IsAt same (sends_at t i m x v among e))
    edge_round (of_sending {i = i} {n = m} {v = v} x among e) (inr q) =
        let s = first_step q in from_at s.1 (sends_at t i m x v among e) (comes_comes s.2 (inr (once (of_sending x among e))))

    -- a cycle of handlers passes through an action
    pub cycle_round : (u : Node) → Reaches E u u → IsRound
    cycle_round u p = let s = first_step p in edge_round s.1 s.2

  -- ---- cycles of guards and turns

  abbrev pub F : Vertex → Vertex → Type 0
  F = Goes t program true

  all_count : (m : Held) → counts true m ≡ true
  all_count (Turn i) = refl
  all_count (Guard i) = refl

  take_goes : {v : Node} {m : Held} → Takes t program v m → IsReady v → Reaches F (Handler v) (Lock m)
  take_goes {m = m} (action_takes acts e) r = again (to_action acts) (once (taken_by_action acts e (all_count m)))
  take_goes {m = m} (sending_takes x among e) r = once (taken_by_sending x r.4 r.5 among e (all_count m))

  opened_node : (l : Held) (v : Node) → Lives v → opens_node t v ≡ Some l → F (Lock l) (Handler v)
  opened_node l v (standing n here) e = opened n here e (all_count l)
  opened_node l v implied e = absurd (cc)

  ready_at : {v : Node} (i : ℕ) (place : Spot) → Comes E (At i place) v → IsReady v
  ready_at i place (inl e) = subst IsReady e tt
  ready_at i place (inr p) = ready_reached p

  lives_at : {v : Node} {m : Held} (i : ℕ) (place : Spot) → Comes E (At i place) v → Takes t program v m → Lives (At i place)
  lives_at i place (inl e) k = subst Lives (sym e) (lives_taking k)
  lives_at i place (inr p) k = lives_reaching p

  hold_goes : {l m : Held} → Holds t program l m → Reaches F (Lock l) (Lock m)
  hold_goes {l = l} (holds i place e p k) =
      again (opened_node l (At i place) (lives_at i place p k) e)
      (comes_join (comes_goes true p tt (lives_taking k)) (take_goes k (ready_at i place p)))

  holds_go : {l m : Held} → Reaches (Holds t program) l m → Reaches F (Lock l) (Lock m)
  holds_go (once h) = hold_goes h
  holds_go (again h p) = reaches_join (hold_goes h) (holds_go p)

  handler_round : (v : Node) (w : Vertex) → IsAt v → F (Handler v) w → Comes F w (Handler v) → IsRound true
  handler_round v w at (to_action {n = n} {k = k} acts) p = (n, k, comes_join p (once (to_action acts)))
  handler_round v w at (by_sending z acts is among e) p = absurd at
  handler_round v w at (taken_by_sending z acts is among e counted) p = absurd at

  lock_round : (m : Held) (w : Vertex) → F (Lock m) w → Comes F w (Lock m) → IsRound true
  lock_round m w (opened {h = h} n here e counted) p =
      let s = first_step (comes_join p (once (opened n here e counted))) in
      handler_round (At h.instance h.place) s.0 tt s.1 s.2

  -- a cycle of guards and turns passes through an action
  pub holds_round : (l : Held) → Reaches (Holds t program) l l → IsRound true
  holds_round l p = let s = first_step (holds_go p) in lock_round l s.0 s.1 s.2

  -- ---- back from an action on a cycle

  module _ (n k : ℕ) (h : Handled) (a : Act) (acts : Acts t program n k h a) where
    abbrev here : Node
    here = At h.instance h.place

    to_here : {m j : ℕ} {g : Handled} {b : Act} → Acts t program m j g b → (m ≡ n) → Comes E (At g.instance g.place) here
    to_here {j = j} {g = g} {b = b} theirs same =
        inl (ap (λ (x : Handled). At x.instance x.place) (one_handler (subst (λ (i : ℕ). Acts t program i j g b) same theirs) acts))

    -- where what is left of the cycle goes through handlers alone
    abbrev LeadsBack : Handled → Act → Type 0
    LeadsBack g b = (w : Node) × ActLeads t g.instance b w × Comes E w here

    abbrev Back : Vertex → Type 0
    Back (Handler v) = Comes E v here
    Back (Action m j) = (g : Handled) (b : Act) → Acts t program m j g b → LeadsBack g b
    Back (Lock (Turn i)) = (place : Spot) × (opens t i place ≡ Some (Turn i)) × Comes E (At i place) here
    Back (Lock (Guard i)) = ⊥

    back_turn : (g : Handled) (m : Held) → opens t g.instance g.place ≡ Some m → counts false m ≡ true → Comes E (At g.instance g.place) here → Back (Lock m)
    back_turn g (Turn i) e counted p =
        let own : g.instance ≡ i = own_turn t g.instance g.place i e in
        (g.place, subst (λ (x : ℕ). opens t x g.place ≡ Some (Turn i)) own e, subst (λ (x : ℕ). Comes E (At x g.place) here) own p)
    back_turn g (Guard i) e counted p = absurd (cc)

    back_taken : (g : Handled) (b : Act) (m : Held) → taken t g.instance b ≡ Some m → Back (Lock m) → LeadsBack g b
    back_taken g b (Turn i) e (place, o, p) =
        let d = turn_taken t g.instance b i e in (
          At g.instance place,
          dispatching d.0 (subst (λ (x : ℕ). opens t x place ≡ Some (Turn x)) (sym d.1) o),
          subst (λ (x : ℕ). Comes E (At x place) here) (sym d.1) p,
        )
    back_taken g b (Guard i) e p = absurd p

    back_step : (x y : Vertex) → Goes t program false x y → Back y → Back x
    back_step x y (to_action {h = g} {a = b} mine) p = let l = p g b mine in inr (join_comes (once (of_action mine l.1)) l.2)
    back_step x y (by_action {v = v} mine e) p = any_action LeadsBack mine (v, arriving e, p)
    back_step x y (taken_by_action {h = g} {a = b} {m = m} mine e counted) p = any_action LeadsBack mine (back_taken g b m e p)
    back_step x y (by_sending z mine is among e) p = inr (join_comes (once (of_sending z among e)) p)
    back_step x y (taken_by_sending {m = m} z mine is among e counted) p = absurd (only_guards z m e counted)
    back_step x y (opened {h = g} {m = m} i at e counted) p = back_turn g m e counted p

    back_last : (x y : Vertex) → Goes t program false x y → y ≡ Action n k → Back x
    back_last x y (to_action {n = m} mine) is = to_here mine (ap (number_of n) is)
    back_last x y (by_action {v = v} mine e) is = absurd (subst IsNoAction is tt)
    back_last x y (taken_by_action mine e counted) is = absurd (subst IsNoAction is tt)
    back_last x y (by_sending z mine at among e) is = absurd (subst IsNoAction is tt)
    back_last x y (taken_by_sending z mine at among e counted) is = absurd (subst IsNoAction is tt)
    back_last x y (opened i at e counted) is = absurd (subst IsNoAction is tt)

    back : {x y : Vertex} → y ≡ Action n k → Reaches (Goes t program false) x y → Back x
    back is (once {u = x} {v = y} g) = back_last x y g is
    back is (again {u = x} {v = y} g p) = back_step x y g (back is p)

    pub on_cycle : Reaches (Goes t program false) (Action n k) (Action n k) → IsOnCycle t program h a
    on_cycle p = back refl p h a acts

    -- where it may go through guards and turns too
    abbrev BackTo : Held → Type 0
    BackTo m = (l : Held) × (i : ℕ) × (place : Spot) × (opens t i place ≡ Some l) × Comes E (At i place) here × Comes (Holds t program) m l

    abbrev Crosses : Node → Type 0
    Crosses v = (w : Node) × (m : Held) × Comes E v w × Takes t program w m × BackTo m

    abbrev ActsBack : Handled → Act → Type 0
    ActsBack g b = LeadsBack g b ⊎ ((m : Held) × TakesAlong t program g.instance b m × BackTo m)

    abbrev Over : Vertex → Type 0
    Over (Handler v) = Comes E v here ⊎ Crosses v
    Over (Action m j) = (g : Handled) (b : Act) → Acts t program m j g b → ActsBack g b
    Over (Lock m) = BackTo m

    over_edge : {u v : Node} → E u v → Over (Handler v) → Over (Handler u)
    over_edge e (inl p) = inl (inr (join_comes (once e) p))
    over_edge e (inr (w, m, p, k, q)) = inr (w, m, inr (join_comes (once e) p), k, q)

    over_act : {m j : ℕ} (g : Handled) (b : Act) → Acts t program m j g b → ActsBack g b → Over (Handler (At g.instance g.place))
    over_act g b mine (inl (w, l, p)) = inl (inr (join_comes (once (of_action mine l)) p))
    over_act g b mine (inr (m, itself e, q)) = inr (At g.instance g.place, m, inl refl, action_takes mine e, q)
    over_act g b mine (inr (m, through {w = w} l p k, q)) = inr (w, m, inr (join_comes (once (of_action mine l)) p), k, q)

    over_led : (g : Handled) (b : Act) (v : Node) → led t g.instance b ≡ Some v → Over (Handler v) → ActsBack g b
    over_led g b v e (inl p) = inl (v, arriving e, p)
    over_led g b v e (inr (w, m, p, k, q)) = inr (m, through (arriving e) p k, q)

    over_opened : (g : Handled) (m : Held) → opens t g.instance g.place ≡ Some m → Over (Handler (At g.instance g.place)) → BackTo m
    over_opened g m e (inl p) = (m, g.instance, g.place, e, p, inl refl)
    over_opened g m e (inr (w, m2, p, k, (l, i, place, o, r, q))) = (l, i, place, o, r, inr (join_comes (once (holds g.instance g.place e p k)) q))

    over_step : (x y : Vertex) → F x y → Over y → Over x
    over_step x y (to_action {h = g} {a = b} mine) p = over_act g b mine (p g b mine)
    over_step x y (by_action {h = g} {a = b} {v = v} mine e) p = any_action ActsBack mine (over_led g b v e p)
    over_step x y (taken_by_action {m = m} mine e counted) p = any_action ActsBack mine (inr (m, itself e, p))
    over_step x y (by_sending z mine is among e) p = over_edge (of_sending z among e) p
    over_step x y (taken_by_sending {i = i} {c = k} {m = m} z mine is among e counted) p = inr (Implied i k, m, inl refl, sending_takes z among e, p)
    over_step x y (opened {h = g} {m = m} i at e counted) p = over_opened g m e p

    over_last : (x y : Vertex) → F x y → y ≡ Action n k → Over x
    over_last x y (to_action {n = m} mine) is = inl (to_here mine (ap (number_of n) is))
    over_last x y (by_action {v = v} mine e) is = absurd (subst IsNoAction is tt)
    over_last x y (taken_by_action mine e counted) is = absurd (subst IsNoAction is tt)
    over_last x y (by_sending z mine at among e) is = absurd (subst IsNoAction is tt)
    over_last x y (taken_by_sending z mine at among e counted) is = absurd (subst IsNoAction is tt)
    over_last x y (opened i at e counted) is = absurd (subst IsNoAction is tt)

    over : {x y : Vertex} → y ≡ Action n k → Reaches F x y → Over x
    over is (once {u = x} {v = y} g) = over_last x y g is
    over is (again {u = x} {v = y} g p) = over_step x y g (over is p)

    on_lock_by : HasNoCycle t program → ActsBack h a → IsOnLockCycle t program h a
    on_lock_by none (inl (w, l, p)) = absurd (none here (join_comes (once (of_action acts l)) p))
    on_lock_by none (inr (m, k, (l, i, place, o, p, q))) = record { lock = l; instance = i; place = place; opening = o; reached = p; next = m; taken = k; back = q }

    pub on_lock_cycle : HasNoCycle t program → Reaches F (Action n k) (Action n k) → IsOnLockCycle t program h a
    on_lock_cycle none p = on_lock_by none (over refl p h a acts)

  -- the handler and the action that an edge leads to
  acts_by : (b : Bool) (n k : ℕ) (x y : Vertex) → Goes t program b x y → y ≡ Action n k → (h : Handled) × (a : Act) × Acts t program n k h a
  acts_by b n k x y (to_action {n = m} {k = j} {h = h} {a = a} mine) is =
      (h, a, subst (λ (i : ℕ). Acts t program n i h a) (ap (place_of k) is) (subst (λ (i : ℕ). Acts t program i j h a) (ap (number_of n) is) mine))
  acts_by b n k x y (by_action {v = v} mine e) is = absurd (subst IsNoAction is tt)
  acts_by b n k x y (taken_by_action mine e counted) is = absurd (subst IsNoAction is tt)
  acts_by b n k x y (by_sending z mine at among e) is = absurd (subst IsNoAction is tt)
  acts_by b n k x y (taken_by_sending z mine at among e counted) is = absurd (subst IsNoAction is tt)
  acts_by b n k x y (opened i at e counted) is = absurd (subst IsNoAction is tt)

  pub acts_on : (b : Bool) (n k : ℕ) → Reaches (Goes t program b) (Action n k) (Action n k) → (h : Handled) × (a : Act) × Acts t program n k h a
  acts_on b n k p = let s = last_step p in acts_by b n k s.0 (Action n k) s.1 refl
