-- Two lists that stand beside one list in the same way are one.
use Rattle.std.proofs.Common.{◌≡◌, ℕ, ◌<◌, ℤ, List, slice_get, Option, Some, None, sym, ◌∙◌, arith}
use Rattle.fp_base.proofs.Options.{same_some}
use Rattle.fp_base.proofs.Spots.{item_below}
use Rattle.fp_base.proofs.Lists.{get_within, same_items}
use Rattle.fp_components.specs.Resolved.{AreEach}

pub each_same : {A B : Type 0} (is : ℕ → A → B → Type 0) (xs : List A) (ys zs : List B) → ((k : ℕ) (x : A) (y z : B) → slice_get xs k ≡ Some x → is k x y → is k x z → y ≡ z)
    → AreEach is xs ys → AreEach is xs zs → ys ≡ zs
each_same is xs ys zs one h k =
    same_items ys zs (h.each ∙ sym k.each) (λ n y z at there.
    let low = get_within ys n y at in
    let x = item_below xs n (let long = h.each in omega (arith, low, long)) in
    one n x.0 y z x.1 (h.at n x.0 y x.1 at) (k.at n x.0 z x.1 there))
