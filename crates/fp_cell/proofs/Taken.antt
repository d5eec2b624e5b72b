-- What taking and putting do to pending calls.
use Rattle.std.proofs.Common.{◌≡◌, ℕ, ℤ, suc, ◌<◌, List, [], ◌∷◌, ◌++◌, map, length, Option, Some, Ok, Err, IsOk, OnOk, Result, refl, sym, ◌∙◌, ap, subst, arith}
use Rattle.std.proofs.lemmas.List.{length-map}
use Rattle.std.specs.Option.{option_map, MatchOption}
use Rattle.fp_queue.specs.declared.pending.Pending.{Pending as Queued}
use Rattle.fp_queue.specs.Contents.{Contents, with_last}
use Rattle.fp_queue.specs.Taking.{taken_of, rest_of, without_first}
use Rattle.fp_cell.specs.declared.calls.Call.{Call}
use Rattle.fp_cell.specs.Waiting.{Waiting, waiting, calls_of, AreNumbered, AreHeld, IsTaken, pending_of}
use Rattle.fp_events.specs.Instance.{Pending}
use Rattle.std.proofs.lemmas.Bool.{false≢true}
use Rattle.fp_cell.proofs.Numbered.{pushed, left, here, without_number}
use Rattle.fp_cell.proofs.Nexts.{IsNext, next_of}

taken_is : (ps : List (Queued Call)) (q : Queued Call) → IsNext ps q → taken_of ps ≡ Some q
taken_is ps q h = rw h.greatest h.first

rest_is : (ps : List (Queued Call)) (q : Queued Call) → IsNext ps q → rest_of ps ≡ without_first q.priority ps
rest_is ps q h = rw h.greatest refl

taken_from : (puts : ℕ) (ps : List (Queued Call)) → AreNumbered 0 puts ps →
    MatchOption (option_map (λ p. p.item) (taken_of ps)) ((map pending_of ps ≡ []) × (map pending_of (rest_of ps) ≡ []))
    (λ c. IsTaken (map pending_of ps) c (map pending_of (rest_of ps)))
taken_from puts [] n = (refl, refl)
taken_from puts (p ∷ ps) n = by (next_of p ps).0 (next_of p ps).1
  where
    by : (q : Queued Call) → IsNext (p ∷ ps) q →
        MatchOption (option_map (λ p. p.item) (taken_of (p ∷ ps))) ((map pending_of (p ∷ ps) ≡ []) × (map pending_of (rest_of (p ∷ ps)) ≡ []))
        (λ c. IsTaken (map pending_of (p ∷ ps)) c (map pending_of (rest_of (p ∷ ps))))
    by q h =
        rw (taken_is (p ∷ ps) q h)
        (record {
          next = pending_of q;
          is_next = h.next;
          number = refl;
          point = refl;
          with = refl;
          again = (here q.priority 0 puts (p ∷ ps) q n h.first).twice;
          others = ap (λ (qs : List (Queued Call)). map pending_of qs) (rest_is (p ∷ ps) q h) ∙ sym (without_number q.priority 0 puts (p ∷ ps) q n h.first);
        })

pub taken : (size puts : ℕ) (s : Waiting) (o : Option (Contents Call)) (q after : Contents Call) (r : Option Call) → waiting size puts o ≡ s → o ≡ Some q →
    r ≡ option_map (λ p. p.item) (taken_of q.pending) → after ≡ record q { pending = rest_of q.pending } → AreHeld size puts o →
    MatchOption r ((s.pending ≡ []) × (map pending_of after.pending ≡ [])) (λ c. IsTaken s.pending c (map pending_of after.pending))
taken size puts s o q after r seen is given left h =
    let e : map pending_of q.pending ≡ s.pending = ap (λ (x : Option (Contents Call)). (waiting size puts x).pending) (sym is) ∙ ap (λ (w : Waiting). w.pending) seen in
    let held : AreHeld size puts (Some q) = subst (λ (x : Option (Contents Call)). AreHeld size puts x) is h in
    rw (given, left)
    (subst (λ (ps : List Pending). MatchOption (option_map (λ p. p.item) (taken_of q.pending)) ((ps ≡ []) × (map pending_of (rest_of q.pending) ≡ []))
    (λ c. IsTaken ps c (map pending_of (rest_of q.pending)))) e (taken_from puts q.pending held.numbered))

rest_numbered : (puts : ℕ) (ps : List (Queued Call)) → AreNumbered 0 puts ps → AreNumbered 0 puts (rest_of ps)
rest_numbered puts [] n = n
rest_numbered puts (p ∷ ps) n = by (next_of p ps).0 (next_of p ps).1
  where
    by : (q : Queued Call) → IsNext (p ∷ ps) q → AreNumbered 0 puts (rest_of (p ∷ ps))
    by q h = rw (rest_is (p ∷ ps) q h) (left q.priority 0 puts (p ∷ ps) n)

pub held_rest : (size puts : ℕ) (o : Option (Contents Call)) (q after : Contents Call) → o ≡ Some q → after ≡ record q { pending = rest_of q.pending } →
    AreHeld size puts o → AreHeld size puts (Some after)
held_rest size puts o q after is e g =
    let h : AreHeld size puts (Some q) = subst (λ (x : Option (Contents Call)). AreHeld size puts x) is g in
    rw e (record { of_size = h.of_size; numbered = rest_numbered puts q.pending h.numbered })

more : (size puts : ℕ) (priority : ℤ) (call : Call) (q after : Contents Call) (r : Result (Unit {0}) Call) → IsOk r → OnOk r (after ≡ with_last q priority call) →
    call.number ≡ suc puts → call.again ≡ call.with → AreHeld size puts (Some q) → AreHeld size call.number (Some after)
more size puts priority call q after (Ok u) there ok number again h =
    rw ok
    (record {
      of_size = h.of_size;
      numbered = subst (λ (k : ℕ). AreNumbered 0 k (q.pending ++ record { priority = priority; item = call } ∷ [])) (sym number)
          (pushed 0 puts q.pending (record { priority = priority; item = call }) number again h.numbered);
    })
more size puts priority call q after (Err back) there ok number again h = absurd (false≢true there)

pub held_more : (size puts : ℕ) (s : Waiting) (o : Option (Contents Call)) (priority : ℤ) (call : Call) (q after : Contents Call) (r : Result (Unit {0}) Call) →
    waiting size puts o ≡ s → o ≡ Some q → (length q.pending < q.size → IsOk r) → OnOk r (after ≡ with_last q priority call) →
    length s.pending < s.size → call.number ≡ suc s.puts → call.again ≡ call.with → AreHeld size puts o → AreHeld size call.number (Some after)
held_more size puts s o priority call q after r seen is there ok room number again g =
    let h : AreHeld size puts (Some q) = subst (λ (x : Option (Contents Call)). AreHeld size puts x) is g in
    let e : length s.pending ≡ length q.pending =
    ap (λ (w : Waiting). length w.pending) (sym seen) ∙ ap (λ (x : Option (Contents Call)). length (map pending_of (calls_of x))) is ∙ length-map q.pending pending_of in
    let sized : s.size ≡ q.size = ap (λ (w : Waiting). w.size) (sym seen) ∙ sym h.of_size in
    more size puts priority call q after r (there (omega (arith, e, sized, room))) ok (number ∙ ap (λ (w : Waiting). suc w.puts) (sym seen)) again h
