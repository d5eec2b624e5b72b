-- What is written of instances comes to one list of them.
use Rattle.std.proofs.Common.{◌≡◌, ◌<◌, ℤ, pos, List, Option, Some, None, sym, ap, ◌∙◌, arith}
use Rattle.fp_base.proofs.Lists.{get_within, same_items}
use Rattle.fp_base.proofs.Options.{one_some}
use Rattle.fp_base.proofs.Spots.{item_below}
use Rattle.fp_base.proofs.Numbers.{pos_same}
use Rattle.fp_tables.specs.declared.topology.Instance.{Instance}
use Rattle.fp_written_parts.specs.declared.port.Given.{Given}
use Rattle.fp_written_parts.specs.declared.instance.WrittenInstance.{WrittenInstance}
use Rattle.fp_instances.specs.Resolved.{AreInstances, IsInstance, IsNumber}

number_same : {A : Type 0} (here : A → ℤ) → ((m n : A) → here m ≡ here n → m ≡ n) → (o : Option Given) (a b : Option A) → IsNumber here o a → IsNumber here o b → a ≡ b
number_same here one None a b h k = h ∙ sym k
number_same {A = A} here one (Some g) a b h k = h.2 ∙ ap (λ (n : A). Some n) (one h.0 k.0 (one_some g.number (here h.0) (here k.0) h.1 k.1)) ∙ sym k.2

one_instance : (w : WrittenInstance) (x y : Instance) → IsInstance w x → IsInstance w y → x ≡ y
one_instance w x y h k =
    made (h.name ∙ sym k.name) (h.component ∙ sym k.component) (pos_same x.base y.base (one_some w.base.number (pos x.base) (pos y.base) h.base k.base))
    (number_same pos pos_same w.queue x.queue y.queue h.queue k.queue) (number_same pos pos_same w.stack x.stack y.stack h.stack k.stack)
    (number_same (λ (n : ℤ). n) (λ m n e. e) w.priority x.priority y.priority h.priority k.priority) (number_same pos pos_same w.cpu x.cpu y.cpu h.cpu k.cpu)
  where
    made : x.name ≡ y.name → x.component ≡ y.component → x.base ≡ y.base → x.queue ≡ y.queue → x.stack ≡ y.stack → x.priority ≡ y.priority → x.cpu ≡ y.cpu → x ≡ y
    made a b c d e f g i = record { name = a i; component = b i; base = c i; queue = d i; stack = e i; priority = f i; cpu = g i }

pub one_instances : (ws : List WrittenInstance) (xs ys : List Instance) → AreInstances ws xs → AreInstances ws ys → xs ≡ ys
one_instances ws xs ys h k =
    same_items xs ys (h.each ∙ sym k.each) (λ n x y at there.
    let low = get_within xs n x at in
    let w = item_below ws n (let long = h.each in omega (arith, low, long)) in
    one_instance w.0 x y (h.at n w.0 x w.1 at) (k.at n w.0 y w.1 there))
