-- The list of ports that members give, and what each member gives.
use Rattle.std.proofs.Common.{◌≡◌, ◌⊎◌, inl, inr, ◌∙◌, ℕ, zero, suc, ◌+◌, List, ◌∷◌, ◌++◌, length, slice_get, Some, refl, sym, ap, subst, append_assoc}
use Rattle.fp_base.proofs.Lists.{get_front}
use Rattle.fp_base.proofs.Options.{one_some, same_some, no_some}
use Rattle.fp_graph.proofs.Places.{get_joined, get_right}
use Rattle.fp_written_parts.specs.declared.port.WrittenPort.{WrittenPort}
use Rattle.fp_written_parts.specs.declared.port.WrittenImport.{WrittenImport}
use Rattle.fp_written_parts.specs.declared.member.WrittenInterface.{WrittenInterface}
use Rattle.fp_written_parts.specs.declared.member.WrittenMember.{WrittenMember}
use Rattle.fp_written_parts.specs.declared.member.WrittenMember.TheVariants.{Port, Import, Command, Event, Channel, Param, Match, Running}
use Rattle.fp_written_parts.specs.Giving.{IsCyclic, Gives, own, imported, GiveAll, LeadsToCycle, at_once, through}
use Rattle.fp_written_parts.specs.Giving.{none, port, import_, cyclic, command, event, channel, param, match, running}
use Rattle.fp_component_rules.specs.Gifts.{GivenAmong}

module _ (fs : List WrittenInterface) where
  -- ---- what a member gives, by its form

  pub record ImportGives (i : WrittenImport) (p : WrittenPort) : Type 0 where
    pub written : WrittenInterface
    pub here : slice_get fs i.interface ≡ Some written
    pub acyclic : IsCyclic fs i.interface → ⊥
    pub k : ℕ
    pub member : WrittenMember
    pub there : slice_get written.members k ≡ Some member
    pub gives : Gives fs member p

  abbrev pub GivesBy : WrittenMember → WrittenPort → Type 0
  GivesBy (Port q) p = q ≡ p
  GivesBy (Import i) p = ImportGives i p
  GivesBy _ p = ⊥

  pub gives_by : {m : WrittenMember} {p : WrittenPort} → Gives fs m p → GivesBy m p
  gives_by own = refl
  gives_by (imported {f = f} k {m = m} here acyclic there g) =
      record { written = f; here = here; acyclic = acyclic; k = k; member = m; there = there; gives = g }

  pub record ImportLeads (i : WrittenImport) : Type 0 where
    pub written : WrittenInterface
    pub here : slice_get fs i.interface ≡ Some written
    pub k : ℕ
    pub member : WrittenMember
    pub there : slice_get written.members k ≡ Some member
    pub leads : LeadsToCycle fs member

  abbrev pub LeadsBy : WrittenMember → Type 0
  LeadsBy (Import i) = IsCyclic fs i.interface ⊎ ImportLeads i
  LeadsBy _ = ⊥

  pub leads_by : {m : WrittenMember} → LeadsToCycle fs m → LeadsBy m
  leads_by (at_once c) = inl c
  leads_by (through {f = f} k {m = m} here there l) = inr (record { written = f; here = here; k = k; member = m; there = there; leads = l })

  -- ---- among several

  pub given_next : {m : WrittenMember} {ms : List WrittenMember} {p : WrittenPort} → GivenAmong fs ms p → GivenAmong fs (m ∷ ms) p
  given_next g = record { k = suc g.k; member = g.member; here = g.here; gives = g.gives }

  pub given_first : {m : WrittenMember} {ms : List WrittenMember} {p : WrittenPort} → Gives fs m p → GivenAmong fs (m ∷ ms) p
  given_first {m = m} g = record { k = zero; member = m; here = refl; gives = g }

  abbrev pub Stands : List WrittenPort → WrittenPort → Type 0
  Stands ps p = (k : ℕ) × (slice_get ps k ≡ Some p)

  stands_next : (q : WrittenPort) (ps : List WrittenPort) (p : WrittenPort) → Stands ps p → Stands (q ∷ ps) p
  stands_next q ps p t = (suc t.0, t.1)

  stands_front : (ps qs : List WrittenPort) (p : WrittenPort) → Stands ps p → Stands (ps ++ qs) p
  stands_front ps qs p t = (t.0, get_front ps qs t.0 p t.1)

  stands_behind : (ps qs : List WrittenPort) (p : WrittenPort) → Stands qs p → Stands (ps ++ qs) p
  stands_behind ps qs p t = (length ps + t.0, get_right ps qs p (length ps + t.0) t.0 refl t.1)

  -- ---- a port stands in the list exactly where a member gives it

  given_port : (q : WrittenPort) (ms : List WrittenMember) (k : ℕ) (p : WrittenPort) (ps : List WrittenPort) → slice_get (q ∷ ps) k ≡ Some p
      → ((j : ℕ) → slice_get ps j ≡ Some p → GivenAmong fs ms p) → GivenAmong fs (Port q ∷ ms) p
  given_port q ms zero p ps e rest = given_first (subst (λ (x : WrittenPort). Gives fs (Port q) x) (same_some e) own)
  given_port q ms (suc k) p ps e rest = given_next (rest k e)

  given_import : (i : WrittenImport) (f : WrittenInterface) (ms : List WrittenMember) (ps qs : List WrittenPort) (p : WrittenPort) → slice_get fs i.interface ≡ Some f
      → (IsCyclic fs i.interface → ⊥) → (k : ℕ) → slice_get (ps ++ qs) k ≡ Some p
      → ((j : ℕ) → slice_get ps j ≡ Some p → GivenAmong fs f.members p) → ((j : ℕ) → slice_get qs j ≡ Some p → GivenAmong fs ms p) → GivenAmong fs (Import i ∷ ms) p
  given_import i f ms ps qs p here acyclic k e inside behind = go (get_joined ps qs p k e)
    where
      go : (slice_get ps k ≡ Some p) ⊎ ((j : ℕ) × (k ≡ length ps + j) × (slice_get qs j ≡ Some p)) → GivenAmong fs (Import i ∷ ms) p
      go (inl h) = let g = inside k h in given_first (imported g.k here acyclic g.here g.gives)
      go (inr t) = given_next (behind t.0 t.2)

  pub in_given : {ms : List WrittenMember} {ps : List WrittenPort} → GiveAll fs ms ps → (k : ℕ) (p : WrittenPort) → slice_get ps k ≡ Some p → GivenAmong fs ms p
  in_given none k p e = absurd (cc)
  in_given (port {p = q} {ms = ms} {ps = ps} a) k p e = given_port q ms k p ps e (λ j h. in_given a j p h)
  in_given (import_ {i = i} {f = f} {ms = ms} {ps = ps} {qs = qs} here acyclic a b) k p e =
      given_import i f ms ps qs p here acyclic k e (λ j h. in_given a j p h) (λ j h. in_given b j p h)
  in_given (cyclic c a) k p e = given_next (in_given a k p e)
  in_given (command a) k p e = given_next (in_given a k p e)
  in_given (event a) k p e = given_next (in_given a k p e)
  in_given (channel a) k p e = given_next (in_given a k p e)
  in_given (param a) k p e = given_next (in_given a k p e)
  in_given (match a) k p e = given_next (in_given a k p e)
  in_given (running a) k p e = given_next (in_given a k p e)

  -- of the first member, and of those behind it
  stands_of : (m : WrittenMember) (ms : List WrittenMember) (p : WrittenPort) (P : Type 0) → (GivesBy m p → P) → (GivenAmong fs ms p → P) → GivenAmong fs (m ∷ ms) p → P
  stands_of m ms p P first rest g = go g.k g.here
    where
      go : (k : ℕ) → slice_get (m ∷ ms) k ≡ Some g.member → P
      go zero e = first (subst (λ (x : WrittenMember). GivesBy x p) (sym (same_some e)) (gives_by g.gives))
      go (suc k) e = rest (record { k = k; member = g.member; here = e; gives = g.gives })

  pub given_in : {ms : List WrittenMember} {ps : List WrittenPort} → GiveAll fs ms ps → (p : WrittenPort) → GivenAmong fs ms p → Stands ps p
  given_in none p g = no_some g.here
  given_in (port {p = q} {ms = ms} {ps = ps} a) p g =
      stands_of (Port q) ms p (Stands (q ∷ ps) p) (λ e. (zero, ap Some e)) (λ h. stands_next q ps p (given_in a p h)) g
  given_in (import_ {i = i} {f = f} {ms = ms} {ps = ps} {qs = qs} here acyclic a b) p g =
      stands_of (Import i) ms p (Stands (ps ++ qs) p)
      (λ t.
      let same : t.written ≡ f = one_some (slice_get fs i.interface) t.written f t.here here in
      stands_front ps qs p
      (given_in a p (record { k = t.k; member = t.member; here = subst (λ (x : WrittenInterface). slice_get x.members t.k ≡ Some t.member) same t.there; gives = t.gives })))
      (λ h. stands_behind ps qs p (given_in b p h)) g
  given_in (cyclic {i = i} {ms = ms} {ps = ps} c a) p g = stands_of (Import i) ms p (Stands ps p) (λ t. absurd (t.acyclic c)) (given_in a p) g
  given_in (command {c = x} {ms = ms} {ps = ps} a) p g = stands_of (Command x) ms p (Stands ps p) (λ h. absurd h) (given_in a p) g
  given_in (event {e = x} {ms = ms} {ps = ps} a) p g = stands_of (Event x) ms p (Stands ps p) (λ h. absurd h) (given_in a p) g
  given_in (channel {t = x} {ms = ms} {ps = ps} a) p g = stands_of (Channel x) ms p (Stands ps p) (λ h. absurd h) (given_in a p) g
  given_in (param {d = x} {ms = ms} {ps = ps} a) p g = stands_of (Param x) ms p (Stands ps p) (λ h. absurd h) (given_in a p) g
  given_in (match {d = x} {ms = ms} {ps = ps} a) p g = stands_of (Match x) ms p (Stands ps p) (λ h. absurd h) (given_in a p) g
  given_in (running {d = x} {ms = ms} {ps = ps} a) p g = stands_of (Running x) ms p (Stands ps p) (λ h. absurd h) (given_in a p) g

  -- ---- one list

  both_joined : {ps qs rs ss : List WrittenPort} → ps ≡ rs → qs ≡ ss → ps ++ qs ≡ rs ++ ss
  both_joined {qs = qs} {rs = rs} d e = ap (λ (xs : List WrittenPort). xs ++ qs) d ∙ ap (λ (xs : List WrittenPort). rs ++ xs) e

  -- the same members, known by an equation
  pub one_list : {ms ns : List WrittenMember} {ps qs : List WrittenPort} → ms ≡ ns → GiveAll fs ms ps → GiveAll fs ns qs → ps ≡ qs
  one_list {ps = ps} {qs = qs} same a b = go a (subst (λ (xs : List WrittenMember). GiveAll fs xs qs) (sym same) b)
    where
      go : {ms : List WrittenMember} {ps qs : List WrittenPort} → GiveAll fs ms ps → GiveAll fs ms qs → ps ≡ qs
      go none none = refl
      go (port {p = p} a) (port b) = ap (λ (xs : List WrittenPort). p ∷ xs) (go a b)
      go (import_ {i = i} {f = f} {ps = ps} here acyclic a c) (import_ {f = g} {ps = qs} there acyclic_too b d) =
          let same : g ≡ f = one_some (slice_get fs i.interface) g f there here in
          both_joined (go a (subst (λ (x : WrittenInterface). GiveAll fs x.members qs) same b)) (go c d)
      go (import_ here acyclic a c) (cyclic there d) = absurd (acyclic there)
      go (cyclic here a) (import_ there acyclic b d) = absurd (acyclic here)
      go (cyclic here a) (cyclic there b) = go a b
      go (command a) (command b) = go a b
      go (event a) (event b) = go a b
      go (channel a) (channel b) = go a b
      go (param a) (param b) = go a b
      go (match a) (match b) = go a b
      go (running a) (running b) = go a b

  -- ---- members one behind another

  pub all_joined : {ms ns : List WrittenMember} {ps qs : List WrittenPort} → GiveAll fs ms ps → GiveAll fs ns qs → GiveAll fs (ms ++ ns) (ps ++ qs)
  all_joined none b = b
  all_joined (port a) b = port (all_joined a b)
  all_joined {ns = ns} {qs = qs} (import_ {i = i} {ms = ms} {ps = ps} {qs = rs} here acyclic a c) b =
      subst (λ (xs : List WrittenPort). GiveAll fs (Import i ∷ (ms ++ ns)) xs) (sym (append_assoc ps rs qs)) (import_ here acyclic a (all_joined c b))
  all_joined (cyclic c a) b = cyclic c (all_joined a b)
  all_joined (command a) b = command (all_joined a b)
  all_joined (event a) b = event (all_joined a b)
  all_joined (channel a) b = channel (all_joined a b)
  all_joined (param a) b = param (all_joined a b)
  all_joined (match a) b = match (all_joined a b)
  all_joined (running a) b = running (all_joined a b)
