use Rattle.p3_networks.proofs.Lemmas.{◌≡◌, ℕ, ◌+◌, ◌^◌, ◌<◌, length, get_or, power, layer_place}
use Rattle.p3_networks.proofs.twiddles.push_layer.Given as goal

-- the first 2 ^ l of them are there
abbrev pub invariant-loop-l : goal.invariant-loop-l
invariant-loop-l g l =
    let field = g.F.Valued in
    let old = l.fn.twiddles.items in
    record {
      size : length l.twiddles.items ≡ length old + 2 ^ l.l;
      before : (n : ℕ) → n < length old → get_or l.twiddles.items n field.zero ≡ get_or old n field.zero;
      entries : (e : ℕ) → e < 2 ^ l.l → field.value (get_or l.twiddles.items (length old + e) field.zero)
          ≡ field.ring.mul (field.value l.fn.first) (power field.ring (field.value l.fn.base) (layer_place l.fn.reversed l.fn.bits e));
    }
