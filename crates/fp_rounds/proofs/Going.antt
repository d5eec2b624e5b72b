-- Work after work, and what it leaves of all hands.
use Rattle.std.proofs.Common.{◌≡◌, ℕ, List, [], ◌∷◌, ◌++◌, ◌<◌, All, length, map, get_or, slice_index_or, take, drop, refl, ap, sym, ◌∙◌, arith, subst}
use Rattle.std.proofs.lemmas.List.{length-map, get_or-map}
use Rattle.std.proofs.lemmas.Option.{slice_get_within, get_or_from_slice_get, slice_get-get_or}
use Rattle.fp_base.proofs.Lists.{written_back}
use base.Growing.{prefix_refl, prefix_trans}
use Rattle.fp_plant.specs.Planted.{Handed, Planted, Gives, AreAll, Rests}
use Rattle.fp_rounds.specs.Changed.{EachChanged}
use Rattle.fp_rounds.specs.Going.{GoesOn, AllGoOn}

goes_then : (w : Planted) (a b c : Handed) → GoesOn w a b → GoesOn w b c → GoesOn w a c
goes_then w a b c p q = record { gives = q.gives; number = q.number ∙ p.number; trace = prefix_trans a.actor.trace b.actor.trace c.actor.trace p.trace q.trace }

stays : (w : Planted) (h : Handed) → Gives w h → GoesOn w h h
stays w h g = record { gives = g; number = refl; trace = prefix_refl h.actor.trace }

module _ {A : Type 0} (h : A → Handed) where
  at_map : (P : Handed → Type 0) (xs : List A) → All (λ x. P (h x)) xs → All P (map h xs)
  at_map P [] p k d within = absurd (omega (arith, within))
  at_map P (x ∷ xs) p k d within =
      let inside : k < length (x ∷ xs) = subst (λ n. k < n) (length-map (x ∷ xs) h) within in
      subst P (sym (get_or-map h (x ∷ xs) k x d inside)) (p k x inside)

  pub all_rest : (xs : List A) → All (λ x. Rests (h x)) xs → All Rests (map h xs)
  all_rest = at_map Rests

module _ {A : Type 0} (h : A → Handed) (w : Planted) where
  pub went_then : (xs ys zs : List A) → EachChanged (λ old new. GoesOn w (h old) (h new)) xs ys → EachChanged (λ old new. GoesOn w (h old) (h new)) ys zs → EachChanged (λ old new. GoesOn w (h old) (h new)) xs zs
  went_then xs ys zs p q =
      (q.0 ∙ p.0, λ i d within. goes_then w (h (slice_index_or xs i d)) (h (slice_index_or ys i d)) (h (slice_index_or zs i d)) (p.1 i d within) (q.1 i d (subst (λ n. i < n) (sym p.0) within)))

  pub still_given : (xs ys : List A) → EachChanged (λ old new. GoesOn w (h old) (h new)) xs ys → All (λ x. Gives w (h x)) ys
  still_given xs ys p k d within = (p.1 k d (subst (λ n. k < n) p.0 within)).gives

  lifted : (xs ys : List A) → EachChanged (λ old new. GoesOn w (h old) (h new)) xs ys → EachChanged (GoesOn w) (map h xs) (map h ys)
  lifted [] ys p = (length-map ys h ∙ p.0, λ i d within. absurd (omega (arith, within)))
  lifted (x ∷ xs) ys p = (
    length-map ys h ∙ (p.0 ∙ sym (length-map (x ∷ xs) h)),
    λ i d within.
        let inside : i < length (x ∷ xs) = subst (λ n. i < n) (length-map (x ∷ xs) h) within in
        let after : i < length ys = subst (λ n. i < n) (sym p.0) inside in
        let old : get_or (map h (x ∷ xs)) i d ≡ h (get_or (x ∷ xs) i x) = get_or-map h (x ∷ xs) i x d inside in
        let new : get_or (map h ys) i d ≡ h (get_or ys i x) = get_or-map h ys i x d after in
        subst (λ a. GoesOn w a (get_or (map h ys) i d)) (sym old) (subst (λ b. GoesOn w (h (get_or (x ∷ xs) i x)) b) (sym new) (p.1 i x inside)),
  )

all_went : (w : Planted) (hs ks : List Handed) → AreAll w hs → EachChanged (GoesOn w) hs ks → AllGoOn w hs ks
all_went w hs ks a p =
    record {
      all = record {
        count = p.0 ∙ a.count;
        each = λ k x e.
            let within : k < length hs = subst (λ n. k < n) p.0 (slice_get_within ks k x e) in
            let went : GoesOn w (get_or hs k x) (get_or ks k x) = p.1 k x within in
            let is : get_or ks k x ≡ x = get_or_from_slice_get ks k x x e in
            let was : Gives w (get_or hs k x) × ((get_or hs k x).actor.number ≡ k) = a.each k (get_or hs k x) (slice_get-get_or hs k x within) in
            (subst (λ z. Gives w z) is went.gives, sym (ap (λ z. z.actor.number) is) ∙ (went.number ∙ was.1));
      };
      each = p;
    }

pub all_stay : (w : Planted) (hs : List Handed) → AreAll w hs → AllGoOn w hs hs
all_stay w hs a = all_went w hs hs a (refl, λ i d within. stays w (get_or hs i d) ((a.each i (get_or hs i d) (slice_get-get_or hs i d within)).0))

module _ {A : Type 0} (h : A → Handed) (w : Planted) where
  pub all_given : (xs : List A) (hs : List Handed) → map h xs ≡ hs → AreAll w hs → All (λ x. Gives w (h x)) xs
  all_given xs hs e a k d within =
      let inside : k < length hs = subst (λ n. k < n) (sym (length-map xs h) ∙ ap length e) within in
      let is : get_or hs k (h d) ≡ h (get_or xs k d) = ap (λ z. get_or z k (h d)) (sym e) ∙ get_or-map h xs k d (h d) within in
      subst (λ z. Gives w z) is ((a.each k (get_or hs k (h d)) (slice_get-get_or hs k (h d) inside)).0)

  pub all_worked : (xs ys : List A) (hs ks : List Handed) → map h xs ≡ hs → EachChanged (λ old new. GoesOn w (h old) (h new)) xs ys → ks ≡ map h ys → AreAll w hs → AllGoOn w hs ks
  all_worked xs ys hs ks e p f a = all_went w hs ks a (subst (λ z. EachChanged (GoesOn w) z ks) e (subst (λ z. EachChanged (GoesOn w) (map h xs) z) (sym f) (lifted h w xs ys p)))

module _ {A : Type 0} (h : A → Handed) (w : Planted) where
  pub all_back : (vs slice new : List A) (n : ℕ) (hs ks : List Handed) → map h vs ≡ hs → slice ≡ vs → n ≡ length vs → EachChanged (λ old new. GoesOn w (h old) (h new)) slice new
      → ks ≡ map h (take n (new ++ drop (length new) vs)) → AreAll w hs → AllGoOn w hs ks
  all_back vs slice new n hs ks e is full p back a =
      let same : length new ≡ length vs = p.0 ∙ ap length is in
      all_worked h w slice new hs ks (ap (map h) is ∙ e) p (back ∙ ap (map h) (written_back n new vs full same)) a

pub ended_back : {A : Type 0} (h : A → Handed) (vs new : List A) (n : ℕ) (ks : List Handed) → n ≡ length vs → length new ≡ length vs → All (λ x. Rests (h x)) new
    → ks ≡ map h (take n (new ++ drop (length new) vs)) → All Rests ks
ended_back h vs new n ks full same rest back = subst (λ z. All Rests z) (sym (back ∙ ap (map h) (written_back n new vs full same))) (all_rest h new rest)
