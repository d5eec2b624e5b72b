use Rattle.std.proofs.Common.{◌≡◌, ◌↔◌, Bool, true, false, List, IsTrue, slice_get, inl, inr, refl, sym, ap, ◌∙◌}
use Rattle.std.proofs.lemmas.Result.{on_ok_weaker}
use Rattle.fp_machine_rules.proofs.reaching.add_vertex.Goals as goal

at_true : (b : Bool) (P : Type 0) → b ≡ true → IsTrue b ↔ P → P
at_true b P e h = h.0 e

at_false : (b : Bool) (P : Type 0) → b ≡ false → IsTrue b ↔ P → P → ⊥
at_false b P e h p = differ (h.1 p) e
  where
    differ : b ≡ true → b ≡ false → ⊥
    differ x y = cc

pub returns-then-is_new : goal.returns-then-is_new
returns-then-is_new c =
    let new = at_true _ _ c.if-is_new.true c.is_new.ensures in
    on_ok_weaker c.mark.result (λ e. inl (ap (λ (s : List Bool). slice_get s c.args.vertex) (sym c.deref.ensures.value) ∙ new, e.0, e.1)) c.mark.ensures

pub returns-else-is_new : goal.returns-else-is_new
returns-else-is_new c =
    inr (λ e. at_false _ _ c.if-is_new.false c.is_new.ensures (ap (λ (s : List Bool). slice_get s c.args.vertex) c.deref.ensures.value ∙ e), refl, refl)
