-- What a list of ports comes to, with more behind it.
use Rattle.std.proofs.Common.{◌≡◌, ◌||◌, ◌∙◌, ◌⊎◌, inl, inr, ℕ, zero, suc, Bool, true, false, MatchBool, List, [], ◌∷◌, ◌++◌, length, slice_get, Some, refl, sym, ap, subst}
use Rattle.std.specs.Prelude.{Result, Ok, Err, IfOk}
use Rattle.std.specs.List.{list_any}
use Rattle.std.proofs.lemmas.List.{append-nil}
use Rattle.std.proofs.lemmas.List.Folds.{list_any-append}
use Rattle.std.proofs.Math.Bool.{or-false}
use Rattle.fp_base.proofs.Lists.{get_front, get_last}
use Rattle.fp_base.proofs.Options.{one_some, same_some, no_some}
use Rattle.fp_base.proofs.Spots.{get_push}
use Rattle.fp_base.proofs.Bools.{flag_same}
use Rattle.fp_tables.specs.declared.component.Special.{Special}
use Rattle.fp_written_parts.specs.declared.port.WrittenPort.{WrittenPort}
use Rattle.fp_written_parts.specs.declared.port.WrittenImport.{WrittenImport}
use Rattle.fp_written_parts.specs.declared.dictionary.WrittenCommand.{WrittenCommand}
use Rattle.fp_written_parts.specs.declared.dictionary.WrittenEvent.{WrittenEvent}
use Rattle.fp_written_parts.specs.declared.dictionary.WrittenChannel.{WrittenChannel}
use Rattle.fp_written_parts.specs.declared.dictionary.WrittenParam.{WrittenParam}
use Rattle.fp_written_parts.specs.declared.member.WrittenMatch.{WrittenMatch}
use Rattle.fp_written_parts.specs.declared.member.WrittenRunning.{WrittenRunning}
use Rattle.fp_written_parts.specs.declared.member.WrittenInterface.{WrittenInterface}
use Rattle.fp_written_parts.specs.declared.member.WrittenMember.{WrittenMember}
use Rattle.fp_written_parts.specs.declared.member.WrittenMember.TheVariants.{Port, Import, Command, Event, Channel, Param, Match, Running}
use Rattle.fp_written_parts.specs.Giving.{IsCyclic, GiveAll, LeadsToCycle, at_once, through}
use Rattle.fp_written_parts.specs.Giving.{none, port, import_, cyclic, command, event, channel, param, match, running}
use Rattle.fp_component_rules.specs.declared.gift.Gift.{Gift}
use Rattle.fp_component_rules.specs.declared.interface_kinds.SpecialKinds.{SpecialKinds}
use Rattle.fp_component_rules.specs.Firsts.{has_kind, is_asynchronous, is_of_kind, of_each_name, with_port}
use Rattle.fp_component_rules.specs.Gifts.{IsGift, IsServed, LeadsAmong, Serves, SumsUp}
use Rattle.fp_component_rules.proofs.Listed.{LeadsBy, ImportLeads, all_joined, leads_by}
use Rattle.fp_component_rules.proofs.Named.{each_joined, each_pushed}

-- a test on one element more
any_pushed : {A : Type 0} (f : A → Bool) (xs : List A) (x : A) (b c : Bool) → b ≡ list_any f xs → c ≡ f x → (b || c) ≡ list_any f (xs ++ x ∷ [])
any_pushed f xs x b c is of =
    ap (λ (d : Bool). d || c) is ∙ ap (λ (d : Bool). list_any f xs || d) (of ∙ sym (or-false (f x))) ∙ sym (list_any-append f xs (x ∷ []))

any_joined : {A : Type 0} (f : A → Bool) (xs ys : List A) (b c : Bool) → b ≡ list_any f xs → c ≡ list_any f ys → (b || c) ≡ list_any f (xs ++ ys)
any_joined f xs ys b c is of = ap (λ (d : Bool). d || c) is ∙ ap (λ (d : Bool). list_any f xs || d) of ∙ sym (list_any-append f xs ys)

pub sums_pushed : (all : List WrittenPort) (p : WrittenPort) (gift after : Gift) (own : SpecialKinds) (is : Bool) → SumsUp all gift → after.firsts ≡ with_port p gift.firsts
    → ((s : Special) → has_kind after.kinds s ≡ (has_kind gift.kinds s || has_kind own s)) → ((s : Special) → has_kind own s ≡ is_of_kind s p.role)
    → after.asynchronous ≡ (gift.asynchronous || is) → is ≡ is_asynchronous p.role → SumsUp (all ++ p ∷ []) after
sums_pushed all p gift after own is sums firsts kinds of asynchronous told = record {
  firsts = firsts ∙ ap (with_port p) sums.firsts ∙ each_pushed p all;
  kinds = λ s. kinds s ∙ any_pushed (λ (q : WrittenPort). is_of_kind s q.role) all p (has_kind gift.kinds s) (has_kind own s) (sums.kinds s) (of s);
  asynchronous = asynchronous ∙ any_pushed (λ (q : WrittenPort). is_asynchronous q.role) all p gift.asynchronous is sums.asynchronous told;
}

pub sums_joined : (all more : List WrittenPort) (gift other after : Gift) → SumsUp all gift → SumsUp more other → after.firsts ≡ of_each_name (all ++ other.firsts)
    → ((s : Special) → has_kind after.kinds s ≡ (has_kind gift.kinds s || has_kind other.kinds s)) → after.asynchronous ≡ (gift.asynchronous || other.asynchronous)
    → SumsUp (all ++ more) after
sums_joined all more gift other after sums others firsts kinds asynchronous = record {
  firsts = firsts ∙ ap (λ (ps : List WrittenPort). of_each_name (all ++ ps)) others.firsts ∙ each_joined all more;
  kinds = λ s. kinds s ∙ any_joined (λ (q : WrittenPort). is_of_kind s q.role) all more (has_kind gift.kinds s) (has_kind other.kinds s) (sums.kinds s) (others.kinds s);
  asynchronous = asynchronous ∙ any_joined (λ (q : WrittenPort). is_asynchronous q.role) all more gift.asynchronous other.asynchronous sums.asynchronous others.asynchronous;
}

-- ---- flags

either_flag : {P Q R : Type 0} (a b : Bool) → MatchBool a P (P → ⊥) → MatchBool b Q (Q → ⊥) → (P → R) → (Q → R) → (R → P ⊎ Q) → MatchBool (a || b) R (R → ⊥)
either_flag true b p q left right back = left p
either_flag false true p q left right back = right q
either_flag {P = P} {Q = Q} false false p q left right back = λ r. neither (back r)
  where
    neither : P ⊎ Q → ⊥
    neither (inl h) = p h
    neither (inr h) = q h

module _ (fs : List WrittenInterface) where
  leads_front : (ms : List WrittenMember) (m : WrittenMember) → LeadsAmong fs ms → LeadsAmong fs (ms ++ m ∷ [])
  leads_front ms m l = record { k = l.k; member = l.member; here = get_front ms (m ∷ []) l.k l.member l.here; leads = l.leads }

  leads_last : (ms : List WrittenMember) (m : WrittenMember) → LeadsAmong fs (m ∷ []) → LeadsAmong fs (ms ++ m ∷ [])
  leads_last ms m l = go l.k l.here
    where
      go : (k : ℕ) → slice_get (m ∷ []) k ≡ Some l.member → LeadsAmong fs (ms ++ m ∷ [])
      go zero e = record { k = length ms; member = m; here = get_last ms m; leads = subst (LeadsToCycle fs) (sym (same_some e)) l.leads }
      go (suc k) e = absurd (cc)

  leads_either : (ms : List WrittenMember) (m : WrittenMember) → LeadsAmong fs (ms ++ m ∷ []) → LeadsAmong fs ms ⊎ LeadsAmong fs (m ∷ [])
  leads_either ms m l = go (get_push ms m l.member l.k l.here)
    where
      go : (slice_get ms l.k ≡ Some l.member) ⊎ ((l.k ≡ length ms) × (m ≡ l.member)) → LeadsAmong fs ms ⊎ LeadsAmong fs (m ∷ [])
      go (inl h) = inl (record { k = l.k; member = l.member; here = h; leads = l.leads })
      go (inr t) = inr (record { k = zero; member = m; here = refl; leads = subst (LeadsToCycle fs) (sym t.1) l.leads })

  -- ---- one member more

  pub gift_joined : (ms : List WrittenMember) (m : WrittenMember) (gift after : Gift) (h : IsGift fs ms gift) (more : List WrittenPort) (b : Bool) → GiveAll fs (m ∷ []) more
      → SumsUp (h.all ++ more) after → MatchBool b (LeadsAmong fs (m ∷ [])) (LeadsAmong fs (m ∷ []) → ⊥) → after.leads_to_cycle ≡ (gift.leads_to_cycle || b) → IsGift fs (ms ++ m ∷ []) after
  gift_joined ms m gift after h more b given sums leads is = record {
    all = h.all ++ more;
    given = all_joined fs h.given given;
    sums = sums;
    leads =
        subst (λ (flag : Bool). MatchBool flag (LeadsAmong fs (ms ++ m ∷ [])) (LeadsAmong fs (ms ++ m ∷ []) → ⊥)) (sym is)
        (either_flag gift.leads_to_cycle b h.leads leads (leads_front ms m) (leads_last ms m) (leads_either ms m));
  }

  -- a member that gives nothing
  pub gift_passed : (ms : List WrittenMember) (m : WrittenMember) (gift : Gift) → GiveAll fs (m ∷ []) [] → (LeadsBy fs m → ⊥) → IsGift fs ms gift → IsGift fs (ms ++ m ∷ []) gift
  gift_passed ms m gift given leads h =
      gift_joined ms m gift gift h [] false given (subst (λ (ps : List WrittenPort). SumsUp ps gift) (sym (append-nil h.all)) h.sums) (leads_not m leads) (sym (or-false gift.leads_to_cycle))
    where
      leads_not : (m : WrittenMember) → (LeadsBy fs m → ⊥) → LeadsAmong fs (m ∷ []) → ⊥
      leads_not m never l = go l.k l.here
        where
          go : (k : ℕ) → slice_get (m ∷ []) k ≡ Some l.member → ⊥
          go zero e = never (leads_by fs (subst (LeadsToCycle fs) (sym (same_some e)) l.leads))
          go (suc k) e = absurd (cc)

  -- no member
  pub gift_none : (gift : Gift) → SumsUp [] gift → gift.leads_to_cycle ≡ false → IsGift fs [] gift
  gift_none gift sums is = record {
    all = [];
    given = none;
    sums = sums;
    leads = subst (λ (b : Bool). MatchBool b (LeadsAmong fs []) (LeadsAmong fs [] → ⊥)) (sym is) (λ l. no_some l.here);
  }

  -- ---- imports

  only_leads : (i : WrittenImport) → LeadsAmong fs (Import i ∷ []) → LeadsBy fs (Import i)
  only_leads i l = go l.k l.here
    where
      go : (k : ℕ) → slice_get (Import i ∷ []) k ≡ Some l.member → LeadsBy fs (Import i)
      go zero e = leads_by fs (subst (LeadsToCycle fs) (sym (same_some e)) l.leads)
      go (suc k) e = absurd (cc)

  pub gift_imported : (i : WrittenImport) (f : WrittenInterface) (gift : Gift) → slice_get fs i.interface ≡ Some f → (IsCyclic fs i.interface → ⊥) → IsGift fs f.members gift
      → IsGift fs (Import i ∷ []) gift
  gift_imported i f gift here acyclic h = record {
    all = h.all ++ [];
    given = import_ here acyclic h.given none;
    sums = subst (λ (ps : List WrittenPort). SumsUp ps gift) (sym (append-nil h.all)) h.sums;
    leads = flag_same gift.leads_to_cycle to (λ l. back (only_leads i l)) h.leads;
  }
    where
      to : LeadsAmong fs f.members → LeadsAmong fs (Import i ∷ [])
      to l = record { k = zero; member = Import i; here = refl; leads = through l.k here l.here l.leads }

      back : IsCyclic fs i.interface ⊎ ImportLeads fs i → LeadsAmong fs f.members
      back (inl c) = absurd (acyclic c)
      back (inr t) =
          let same : t.written ≡ f = one_some (slice_get fs i.interface) t.written f t.here here in
          record { k = t.k; member = t.member; here = subst (λ (x : WrittenInterface). slice_get x.members t.k ≡ Some t.member) same t.there; leads = t.leads }

  pub gift_cyclic : (i : WrittenImport) (gift : Gift) → IsCyclic fs i.interface → SumsUp [] gift → gift.leads_to_cycle ≡ true → IsGift fs (Import i ∷ []) gift
  gift_cyclic i gift c sums is = record {
    all = [];
    given = cyclic c none;
    sums = sums;
    leads =
        subst (λ (b : Bool). MatchBool b (LeadsAmong fs (Import i ∷ [])) (LeadsAmong fs (Import i ∷ []) → ⊥)) (sym is)
        (record { k = zero; member = Import i; here = refl; leads = at_once c });
  }

  pub serves_one : (gifts : List Gift) (ms : List WrittenMember) (k : ℕ) (m : WrittenMember) → Serves fs gifts ms → slice_get ms k ≡ Some m → Serves fs gifts (m ∷ [])
  serves_one gifts ms k m serves at zero i e = serves k i (at ∙ e)
  serves_one gifts ms k m serves at (suc j) i e = no_some e

  -- what an import that is served gives
  pub with_served : (ms : List WrittenMember) (i : WrittenImport) (gift other after : Gift) → IsGift fs ms gift → IsGift fs (Import i ∷ []) other
      → ((all more : List WrittenPort) → SumsUp all gift → SumsUp more other → SumsUp (all ++ more) after) → after.leads_to_cycle ≡ (gift.leads_to_cycle || other.leads_to_cycle)
      → IsGift fs (ms ++ Import i ∷ []) after
  with_served ms i gift other after h g sums is =
      gift_joined ms (Import i) gift after h g.all other.leads_to_cycle g.given (sums h.all g.all h.sums g.sums) g.leads is

  -- a port
  pub with_own : (ms : List WrittenMember) (p : WrittenPort) (gift after : Gift) → IsGift fs ms gift → ((all : List WrittenPort) → SumsUp all gift → SumsUp (all ++ p ∷ []) after)
      → after.leads_to_cycle ≡ gift.leads_to_cycle → IsGift fs (ms ++ Port p ∷ []) after
  with_own ms p gift after h sums is =
      gift_joined ms (Port p) gift after h (p ∷ []) false (port none) (sums h.all h.sums) (λ l. leads_port l.k l.here l.leads) (is ∙ sym (or-false gift.leads_to_cycle))
    where
      leads_port : (k : ℕ) {m : WrittenMember} → slice_get (Port p ∷ []) k ≡ Some m → LeadsToCycle fs m → ⊥
      leads_port zero e l = leads_by fs (subst (LeadsToCycle fs) (sym (same_some e)) l)
      leads_port (suc k) e l = no_some e

  -- ---- of an answer

  pub if_own : {E : Type 0} (ms : List WrittenMember) (m : WrittenMember) (p q : WrittenPort) (gift : Gift) (r : Result Gift E) → m ≡ Port q → p ≡ q → IsGift fs ms gift
      → ((all : List WrittenPort) → SumsUp all gift → IfOk r (SumsUp (all ++ p ∷ []))) → IfOk r (λ (after : Gift). after.leads_to_cycle ≡ gift.leads_to_cycle)
      → IfOk r (IsGift fs (ms ++ m ∷ []))
  if_own ms m p q gift (Err e) is same h sums leads = tt
  if_own ms m p q gift (Ok after) is same h sums leads =
      subst (λ (x : WrittenMember). IsGift fs (ms ++ x ∷ []) after) (sym is)
      (with_own ms q gift after h (λ all s. subst (λ (x : WrittenPort). SumsUp (all ++ x ∷ []) after) same (sums all s)) leads)

  pub if_served : {E : Type 0} (ms : List WrittenMember) (i : WrittenImport) (gift other : Gift) (gifts : List Gift) (r : Result Gift E) → IsGift fs ms gift → IsServed fs gifts i
      → Some other ≡ slice_get gifts i.interface → ((all more : List WrittenPort) → SumsUp all gift → SumsUp more other → IfOk r (SumsUp (all ++ more)))
      → IfOk r (λ (after : Gift). after.leads_to_cycle ≡ (gift.leads_to_cycle || other.leads_to_cycle)) → IfOk r (IsGift fs (ms ++ Import i ∷ []))
  if_served ms i gift other gifts (Err e) h s at sums leads = tt
  if_served ms i gift other gifts (Ok after) h s at sums leads =
      let same : s.gift ≡ other = same_some (sym s.here ∙ sym at) in
      with_served ms i gift other after h (subst (IsGift fs (Import i ∷ [])) same s.is) sums leads

  -- members that give nothing
  pub passed_command : (ms : List WrittenMember) (m : WrittenMember) {x : WrittenCommand} (gift : Gift) → m ≡ Command x → IsGift fs ms gift → IsGift fs (ms ++ m ∷ []) gift
  passed_command ms m {x = x} gift is h =
      subst (λ (y : WrittenMember). IsGift fs (ms ++ y ∷ []) gift) (sym is) (gift_passed ms (Command x) gift (command none) (λ l. absurd l) h)

  pub passed_event : (ms : List WrittenMember) (m : WrittenMember) {x : WrittenEvent} (gift : Gift) → m ≡ Event x → IsGift fs ms gift → IsGift fs (ms ++ m ∷ []) gift
  passed_event ms m {x = x} gift is h =
      subst (λ (y : WrittenMember). IsGift fs (ms ++ y ∷ []) gift) (sym is) (gift_passed ms (Event x) gift (event none) (λ l. absurd l) h)

  pub passed_channel : (ms : List WrittenMember) (m : WrittenMember) {x : WrittenChannel} (gift : Gift) → m ≡ Channel x → IsGift fs ms gift → IsGift fs (ms ++ m ∷ []) gift
  passed_channel ms m {x = x} gift is h =
      subst (λ (y : WrittenMember). IsGift fs (ms ++ y ∷ []) gift) (sym is) (gift_passed ms (Channel x) gift (channel none) (λ l. absurd l) h)

  pub passed_param : (ms : List WrittenMember) (m : WrittenMember) {x : WrittenParam} (gift : Gift) → m ≡ Param x → IsGift fs ms gift → IsGift fs (ms ++ m ∷ []) gift
  passed_param ms m {x = x} gift is h =
      subst (λ (y : WrittenMember). IsGift fs (ms ++ y ∷ []) gift) (sym is) (gift_passed ms (Param x) gift (param none) (λ l. absurd l) h)

  pub passed_match : (ms : List WrittenMember) (m : WrittenMember) {x : WrittenMatch} (gift : Gift) → m ≡ Match x → IsGift fs ms gift → IsGift fs (ms ++ m ∷ []) gift
  passed_match ms m {x = x} gift is h =
      subst (λ (y : WrittenMember). IsGift fs (ms ++ y ∷ []) gift) (sym is) (gift_passed ms (Match x) gift (match none) (λ l. absurd l) h)

  pub passed_running : (ms : List WrittenMember) (m : WrittenMember) {x : WrittenRunning} (gift : Gift) → m ≡ Running x → IsGift fs ms gift → IsGift fs (ms ++ m ∷ []) gift
  passed_running ms m {x = x} gift is h =
      subst (λ (y : WrittenMember). IsGift fs (ms ++ y ∷ []) gift) (sym is) (gift_passed ms (Running x) gift (running none) (λ l. absurd l) h)
