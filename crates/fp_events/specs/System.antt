-- A system of numbered instances and numbered actors, whatever these do.
use Rattle.std.specs.Prelude.{◌≡◌, ℕ, suc, max, Option, Some}

-- S is the state of an instance, A the state of an actor, Q an ask, E an entry
pub record System (S A Q E : Type 0) : Type 0 where
  pub stamp : E → ℕ
  pub actor : E → ℕ
  pub instance : E → ℕ
  -- the states at the opening, by number
  pub first_instance : ℕ → S
  pub first_actor : ℕ → A
  -- the last stamp in a state
  pub instance_stamp : S → ℕ
  pub actor_stamp : A → ℕ
  -- what the actor of this number asks next, and of which instance
  pub due : ℕ → A → Option (ℕ × Q)
  -- what the instance of this number makes of an ask of an actor, given the actor's last stamp
  pub instance_part : ℕ → S → ℕ → Q → ℕ → Option (E × S)
  -- what the actor of this number makes of an entry
  pub actor_part : ℕ → A → E → Option A
  -- no stamp is above it
  pub steps : ℕ

-- what an entry that an instance part gives says of its stamps and numbers
pub record Gives {S A Q E : Type 0} (system : System S A Q E) (i seen : ℕ) (s : S) (e : E) (t : S) : Type 0 where
  pub instance : system.instance e ≡ i
  pub stamp : system.stamp e ≡ suc (max (system.instance_stamp s) seen)
  pub last : system.instance_stamp t ≡ system.stamp e

-- what an entry that an actor part takes says of its stamps and numbers
pub record Takes {S A Q E : Type 0} (system : System S A Q E) (a : ℕ) (x : A) (e : E) (z : A) : Type 0 where
  pub last : system.actor_stamp z ≡ system.stamp e
  pub ask : Q
  pub due : system.due a x ≡ Some (system.instance e, ask)

pub record Laws {S A Q E : Type 0} (system : System S A Q E) : Type 0 where
  pub first_instance : (i : ℕ) → system.instance_stamp (system.first_instance i) ≡ 0
  pub first_actor : (a : ℕ) → system.actor_stamp (system.first_actor a) ≡ 0
  pub gives : (i a seen : ℕ) (s t : S) (q : Q) (e : E) → system.instance_part i s a q seen ≡ Some (e, t) → Gives system i seen s e t
  pub takes : (a : ℕ) (x z : A) (e : E) → system.actor_part a x e ≡ Some z → Takes system a x e z
  -- an entry that the instance gives for some ask and some last stamp, and that the actor takes, is the one
  -- that the instance gives for the actor's due ask, where its stamp fits the actor's last one
  pub due_gives : (i a seen : ℕ) (s t : S) (q due : Q) (e : E) (x z : A) →
      system.instance_part i s a q seen ≡ Some (e, t) → system.actor_part a x e ≡ Some z → system.due a x ≡ Some (i, due) →
      system.stamp e ≡ suc (max (system.instance_stamp s) (system.actor_stamp x)) →
      system.instance_part i s a due (system.actor_stamp x) ≡ Some (e, t)

-- the actor takes whatever the instance gives for its due ask
abbrev pub IsTaking : {S A Q E : Type 0} → System S A Q E → Type 0
IsTaking {S} {A} {Q} {E} system = (a i : ℕ) (x : A) (q : Q) (s t : S) (e : E) →
    system.due a x ≡ Some (i, q) → system.instance_part i s a q (system.actor_stamp x) ≡ Some (e, t) →
    (system.actor e ≡ a) × (system.instance e ≡ i) × ((z : A) × (system.actor_part a x e ≡ Some z))

-- an entry changes the instance's state in one way, whichever ask it answers
abbrev pub IsOneChange : {S A Q E : Type 0} → System S A Q E → Type 0
IsOneChange {S} {A} {Q} {E} system = (i a m n : ℕ) (s t u : S) (q r : Q) (e : E) →
    system.instance_part i s a q m ≡ Some (e, t) → system.instance_part i s a r n ≡ Some (e, u) → t ≡ u
