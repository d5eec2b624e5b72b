-- The edges that a program has between handlers, actions, guards and turns, one by one.
use Rattle.std.proofs.Common.{◌≡◌, inl, inr, ℕ, zero, suc, ◌+◌, Bool, true, false, cond, List, [], ◌∷◌, ◌++◌, flat_map, slice_get, Option, Some, None, refl, sym, subst, arith}
use Rattle.std.specs.List.{AllByRecursion}
use Rattle.fp_graph.specs.Visits.{Among}
use Rattle.fp_base.proofs.Lists.{each_append}
use Rattle.fp_tables.specs.Lookup.{Described}
use Rattle.fp_tables.specs.declared.program.Act.{Act}
use Rattle.fp_tables.specs.declared.program.Handler.{Handler as Handled}
use Rattle.fp_tables.specs.declared.program.Program.{Program}
use Rattle.fp_reach.specs.declared.node.Node.{Node}
use Rattle.fp_reach.specs.declared.node.Node.TheVariants.{At, Implied}
use Rattle.fp_reach.specs.declared.node.Arrival.{Arrival}
use Rattle.fp_reach.specs.declared.node.Lock.{Lock as Held}
use Rattle.fp_reach.specs.declared.vertex.Vertex.{Vertex}
use Rattle.fp_reach.specs.declared.vertex.Vertex.TheVariants.{Handler, Action, Lock}
use Rattle.fp_reach.specs.Nodes.{leads, guards, led, taken, opens, sends}
use Rattle.fp_reach.specs.Cycles.{Acts}
use Rattle.fp_reach.specs.Vertices.{counts, leading, taking, opening, sending, going_on, of_act, acts_from, of_handler, handlers_from}
use Rattle.fp_reach.proofs.Amid.{among_left, among_right, flat_among}

module _ (t : Described) (program : Program) (b : Bool) where
  pub data Goes : Vertex → Vertex → Type 0 where
    to_action : {n k : ℕ} {h : Handled} {a : Act} → Acts t program n k h a → Goes (Handler (At h.instance h.place)) (Action n k)
    by_action : {n k : ℕ} {h : Handled} {a : Act} {v : Node} → Acts t program n k h a → led t h.instance a ≡ Some v → Goes (Action n k) (Handler v)
    taken_by_action : {n k : ℕ} {h : Handled} {a : Act} {m : Held} → Acts t program n k h a → taken t h.instance a ≡ Some m → counts b m ≡ true → Goes (Action n k) (Lock m)
    by_sending : {n k i c : ℕ} {h : Handled} {a : Act} {v : Node} (x : Arrival) → Acts t program n k h a → led t h.instance a ≡ Some (Implied i c) → Among (sends t i c) x → leads t x ≡ Some v
        → Goes (Handler (Implied i c)) (Handler v)
    taken_by_sending : {n k i c : ℕ} {h : Handled} {a : Act} {m : Held} (x : Arrival) → Acts t program n k h a → led t h.instance a ≡ Some (Implied i c) → Among (sends t i c) x
        → guards t x ≡ Some m → counts b m ≡ true → Goes (Handler (Implied i c)) (Lock m)
    opened : {h : Handled} {m : Held} (n : ℕ) → slice_get program.handlers n ≡ Some h → opens t h.instance h.place ≡ Some m → counts b m ≡ true
        → Goes (Lock m) (Handler (At h.instance h.place))

-- ---- all that the list has

abbrev EachEdge : (Vertex → Vertex → Type 0) → List (Vertex × Vertex) → Type 0
EachEdge P = AllByRecursion (λ (e : Vertex × Vertex). P e.0 e.1)

module _ (P : Vertex → Vertex → Type 0) where
  each_among : (xs : List (Vertex × Vertex)) (x y : Vertex) → EachEdge P xs → Among xs (x, y) → P x y
  each_among [] x y h k = absurd k
  each_among (e ∷ xs) x y h (inl is) = subst (λ (w : Vertex × Vertex). P w.0 w.1) is h.0
  each_among (e ∷ xs) x y h (inr k) = each_among xs x y h.1 k

  each_leading : (from : Vertex) (o : Option Node) → ((v : Node) → o ≡ Some v → P from (Handler v)) → EachEdge P (leading from o)
  each_leading from None h = tt
  each_leading from (Some v) h = (h v refl, tt)

  one_if : (x y : Vertex) (c : Bool) → (c ≡ true → P x y) → EachEdge P (cond c ((x, y) ∷ []) [])
  one_if x y true h = (h refl, tt)
  one_if x y false h = tt

  each_taking : (b : Bool) (from : Vertex) (o : Option Held) → ((m : Held) → o ≡ Some m → counts b m ≡ true → P from (Lock m)) → EachEdge P (taking b from o)
  each_taking b from None h = tt
  each_taking b from (Some m) h = one_if from (Lock m) (counts b m) (h m refl)

  each_opening : (b : Bool) (u : Node) (o : Option Held) → ((m : Held) → o ≡ Some m → counts b m ≡ true → P (Lock m) (Handler u)) → EachEdge P (opening b u o)
  each_opening b u None h = tt
  each_opening b u (Some m) h = one_if (Lock m) (Handler u) (counts b m) (h m refl)

  each_of : {X : Type 0} (f : X → List (Vertex × Vertex)) (xs : List X) → ((x : X) → Among xs x → EachEdge P (f x)) → EachEdge P (flat_map f xs)
  each_of f [] h = tt
  each_of f (x ∷ xs) h = each_append (λ (e : Vertex × Vertex). P e.0 e.1) (f x) (flat_map f xs) (h x (inl refl)) (each_of f xs (λ y k. h y (inr k)))

module _ (t : Described) (program : Program) (b : Bool) where
  abbrev Stands : Vertex → Vertex → Type 0
  Stands = Goes t program b

  each_sending : {n k i c : ℕ} {h : Handled} {a : Act} → Acts t program n k h a → led t h.instance a ≡ Some (Implied i c) → EachEdge Stands (flat_map (sending t b (Implied i c)) (sends t i c))
  each_sending {i = i} {c = c} acts is =
      each_of Stands (sending t b (Implied i c)) (sends t i c)
      (λ x among.
      each_append (λ (e : Vertex × Vertex). Stands e.0 e.1) (leading (Handler (Implied i c)) (leads t x)) (taking b (Handler (Implied i c)) (guards t x))
      (each_leading Stands (Handler (Implied i c)) (leads t x) (λ v e. by_sending x acts is among e))
      (each_taking Stands b (Handler (Implied i c)) (guards t x) (λ m e counted. taken_by_sending x acts is among e counted)))

  each_going_on : {n k : ℕ} {h : Handled} {a : Act} → Acts t program n k h a → (o : Option Node) → led t h.instance a ≡ o → EachEdge Stands (going_on t b o)
  each_going_on acts None is = tt
  each_going_on acts (Some (At i place)) is = tt
  each_going_on acts (Some (Implied i c)) is = each_sending acts is

  each_of_act : {n k : ℕ} {h : Handled} {a : Act} → Acts t program n k h a → EachEdge Stands (of_act t b n h k a)
  each_of_act {n = n} {k = k} {h = h} {a = a} acts =
      let P : Vertex × Vertex → Type 0 = λ e. Stands e.0 e.1 in (
        to_action acts,
        each_append P (leading (Action n k) (led t h.instance a) ++ taking b (Action n k) (taken t h.instance a)) (going_on t b (led t h.instance a))
            (each_append P (leading (Action n k) (led t h.instance a)) (taking b (Action n k) (taken t h.instance a))
            (each_leading Stands (Action n k) (led t h.instance a) (λ v e. by_action acts e))
            (each_taking Stands b (Action n k) (taken t h.instance a) (λ m e counted. taken_by_action acts e counted)))
            (each_going_on acts (led t h.instance a) refl),
      )

  each_acts : (n : ℕ) (h : Handled) → slice_get program.handlers n ≡ Some h → (k : ℕ) (rest : List Act) → ((j : ℕ) (a : Act) → slice_get rest j ≡ Some a → slice_get h.acts (k + j) ≡ Some a)
      → EachEdge Stands (acts_from t b n h k rest)
  each_acts n h here k [] at = tt
  each_acts n h here k (a ∷ rest) at =
      let first : slice_get h.acts k ≡ Some a = let z : k + 0 ≡ k = omega arith in subst (λ (j : ℕ). slice_get h.acts j ≡ Some a) z (at 0 a refl) in
      each_append (λ (e : Vertex × Vertex). Stands e.0 e.1) (of_act t b n h k a) (acts_from t b n h (suc k) rest) (each_of_act (record { handler = here; action = first }))
      (each_acts n h here (suc k) rest (λ j x e. let same : k + suc j ≡ suc k + j = omega arith in subst (λ (m : ℕ). slice_get h.acts m ≡ Some x) same (at (suc j) x e)))

  each_handler : (n : ℕ) (h : Handled) → slice_get program.handlers n ≡ Some h → EachEdge Stands (of_handler t b n h)
  each_handler n h here =
      each_append (λ (e : Vertex × Vertex). Stands e.0 e.1) (opening b (At h.instance h.place) (opens t h.instance h.place)) (acts_from t b n h 0 h.acts)
      (each_opening Stands b (At h.instance h.place) (opens t h.instance h.place) (λ m e counted. opened n here e counted))
      (each_acts n h here 0 h.acts (λ j a e. let z : j ≡ 0 + j = omega arith in subst (λ (m : ℕ). slice_get h.acts m ≡ Some a) z e))

  each_handlers : (n : ℕ) (hs : List Handled) → ((j : ℕ) (h : Handled) → slice_get hs j ≡ Some h → slice_get program.handlers (n + j) ≡ Some h) → EachEdge Stands (handlers_from t b n hs)
  each_handlers n [] at = tt
  each_handlers n (h ∷ hs) at =
      let first : slice_get program.handlers n ≡ Some h = let z : n + 0 ≡ n = omega arith in subst (λ (j : ℕ). slice_get program.handlers j ≡ Some h) z (at 0 h refl) in
      each_append (λ (e : Vertex × Vertex). Stands e.0 e.1) (of_handler t b n h) (handlers_from t b (suc n) hs) (each_handler n h first)
      (each_handlers (suc n) hs
      (λ j x e. let same : n + suc j ≡ suc n + j = omega arith in subst (λ (m : ℕ). slice_get program.handlers m ≡ Some x) same (at (suc j) x e)))

  pub listed_goes : (x y : Vertex) → Among (handlers_from t b 0 program.handlers) (x, y) → Goes t program b x y
  listed_goes x y among =
      each_among Stands (handlers_from t b 0 program.handlers) x y
      (each_handlers 0 program.handlers (λ j h e. let z : j ≡ 0 + j = omega arith in subst (λ (m : ℕ). slice_get program.handlers m ≡ Some h) z e)) among

-- ---- and nothing else

leading_among : (from : Vertex) (o : Option Node) (v : Node) → o ≡ Some v → Among (leading from o) (from, Handler v)
leading_among from o v is = subst (λ (p : Option Node). Among (leading from p) (from, Handler v)) (sym is) (inl refl)

if_among : (x y : Vertex) (c : Bool) → c ≡ true → Among {A = Vertex × Vertex} (cond c ((x, y) ∷ []) []) (x, y)
if_among x y c is = subst (λ (d : Bool). Among {A = Vertex × Vertex} (cond d ((x, y) ∷ []) []) (x, y)) (sym is) (inl refl)

taking_among : (b : Bool) (from : Vertex) (o : Option Held) (m : Held) → o ≡ Some m → counts b m ≡ true → Among (taking b from o) (from, Lock m)
taking_among b from o m is counted = subst (λ (p : Option Held). Among (taking b from p) (from, Lock m)) (sym is) (if_among from (Lock m) (counts b m) counted)

opening_among : (b : Bool) (u : Node) (o : Option Held) (m : Held) → o ≡ Some m → counts b m ≡ true → Among (opening b u o) (Lock m, Handler u)
opening_among b u o m is counted = subst (λ (p : Option Held). Among (opening b u p) (Lock m, Handler u)) (sym is) (if_among (Lock m) (Handler u) (counts b m) counted)

module _ (t : Described) (program : Program) (b : Bool) where
  acts_among : (n : ℕ) (h : Handled) (e : Vertex × Vertex) (k j m : ℕ) (rest : List Act) (a : Act) → slice_get rest j ≡ Some a → m ≡ k + j → Among (of_act t b n h m a) e
      → Among (acts_from t b n h k rest) e
  acts_among n h e k j m [] a at is among = absurd (cc)
  acts_among n h e k zero m (x ∷ rest) a at is among =
      let same : x ≡ a = cc in
      let here : m ≡ k = omega arith in
      among_left (of_act t b n h k x) (acts_from t b n h (suc k) rest) e (subst (λ (i : ℕ). Among (of_act t b n h i x) e) here (subst (λ (y : Act). Among (of_act t b n h m y) e) (sym same) among))
  acts_among n h e k (suc j) m (x ∷ rest) a at is among =
      let on : m ≡ suc k + j = omega arith in
      among_right (of_act t b n h k x) (acts_from t b n h (suc k) rest) e (acts_among n h e (suc k) j m rest a at on among)

  handlers_among : (e : Vertex × Vertex) (n j m : ℕ) (hs : List Handled) (h : Handled) → slice_get hs j ≡ Some h → m ≡ n + j → Among (of_handler t b m h) e → Among (handlers_from t b n hs) e
  handlers_among e n j m [] h at is among = absurd (cc)
  handlers_among e n zero m (x ∷ hs) h at is among =
      let same : x ≡ h = cc in
      let here : m ≡ n = omega arith in
      among_left (of_handler t b n x) (handlers_from t b (suc n) hs) e
      (subst (λ (i : ℕ). Among (of_handler t b i x) e) here (subst (λ (y : Handled). Among (of_handler t b m y) e) (sym same) among))
  handlers_among e n (suc j) m (x ∷ hs) h at is among =
      let on : m ≡ suc n + j = omega arith in among_right (of_handler t b n x) (handlers_from t b (suc n) hs) e (handlers_among e (suc n) j m hs h at on among)

  abbrev all : List (Vertex × Vertex)
  all = handlers_from t b 0 program.handlers

  act_listed : {n k : ℕ} {h : Handled} {a : Act} (e : Vertex × Vertex) → Acts t program n k h a → Among (of_act t b n h k a) e → Among all e
  act_listed {n = n} {k = k} {h = h} {a = a} e acts among =
      let at_n : n ≡ 0 + n = omega arith in
      let at_k : k ≡ 0 + k = omega arith in
      handlers_among e 0 n n program.handlers h acts.handler at_n
      (among_right (opening b (At h.instance h.place) (opens t h.instance h.place)) (acts_from t b n h 0 h.acts) e (acts_among n h e 0 k k h.acts a acts.action at_k among))

  going_listed : {n k i c : ℕ} {h : Handled} {a : Act} (e : Vertex × Vertex) → Acts t program n k h a → led t h.instance a ≡ Some (Implied i c)
      → Among (flat_map (sending t b (Implied i c)) (sends t i c)) e → Among all e
  going_listed {n = n} {k = k} {i = i} {c = c} {h = h} {a = a} e acts is among =
      act_listed e acts
      (inr
      (among_right (leading (Action n k) (led t h.instance a) ++ taking b (Action n k) (taken t h.instance a)) (going_on t b (led t h.instance a)) e
      (subst (λ (o : Option Node). Among (going_on t b o) e) (sym is) among)))

  pub goes_listed : (x y : Vertex) → Goes t program b x y → Among (handlers_from t b 0 program.handlers) (x, y)
  goes_listed x y (to_action {n = n} {k = k} {h = h} acts) = act_listed (Handler (At h.instance h.place), Action n k) acts (inl refl)
  goes_listed x y (by_action {n = n} {k = k} {h = h} {a = a} {v = v} acts is) =
      act_listed (Action n k, Handler v) acts
      (inr
      (among_left (leading (Action n k) (led t h.instance a) ++ taking b (Action n k) (taken t h.instance a)) (going_on t b (led t h.instance a)) (Action n k, Handler v)
      (among_left (leading (Action n k) (led t h.instance a)) (taking b (Action n k) (taken t h.instance a)) (Action n k, Handler v) (leading_among (Action n k) (led t h.instance a) v is))))
  goes_listed x y (taken_by_action {n = n} {k = k} {h = h} {a = a} {m = m} acts is counted) =
      act_listed (Action n k, Lock m) acts
      (inr
      (among_left (leading (Action n k) (led t h.instance a) ++ taking b (Action n k) (taken t h.instance a)) (going_on t b (led t h.instance a)) (Action n k, Lock m)
      (among_right (leading (Action n k) (led t h.instance a)) (taking b (Action n k) (taken t h.instance a)) (Action n k, Lock m)
      (taking_among b (Action n k) (taken t h.instance a) m is counted))))
  goes_listed x y (by_sending {i = i} {c = c} {v = v} z acts is among e) =
      going_listed (Handler (Implied i c), Handler v) acts is
      (flat_among (sending t b (Implied i c)) (sends t i c) z (Handler (Implied i c), Handler v) among
      (among_left (leading (Handler (Implied i c)) (leads t z)) (taking b (Handler (Implied i c)) (guards t z)) (Handler (Implied i c), Handler v)
      (leading_among (Handler (Implied i c)) (leads t z) v e)))
  goes_listed x y (taken_by_sending {i = i} {c = c} {m = m} z acts is among e counted) =
      going_listed (Handler (Implied i c), Lock m) acts is
      (flat_among (sending t b (Implied i c)) (sends t i c) z (Handler (Implied i c), Lock m) among
      (among_right (leading (Handler (Implied i c)) (leads t z)) (taking b (Handler (Implied i c)) (guards t z)) (Handler (Implied i c), Lock m)
      (taking_among b (Handler (Implied i c)) (guards t z) m e counted)))
  goes_listed x y (opened {h = h} {m = m} n here is counted) =
      let at_n : n ≡ 0 + n = omega arith in
      handlers_among (Lock m, Handler (At h.instance h.place)) 0 n n program.handlers h here at_n
      (among_left (opening b (At h.instance h.place) (opens t h.instance h.place)) (acts_from t b n h 0 h.acts) (Lock m, Handler (At h.instance h.place))
      (opening_among b (At h.instance h.place) (opens t h.instance h.place) m is counted))
