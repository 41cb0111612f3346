-- Which packets are meant for the server, by each way out.
use mathlib.Core.Bool.{Bool, true, false, cond}
use mathlib.Core.List.{List}
use mathlib.Core.Path.{◌≡◌, refl, sym, ap, ◌∙◌}
use Prim.Native.Nat.{ℕ, ◌+◌, ◌*◌, ◌≤◌, ◌<◌}
use native.Mathlib.Nat.{mul-le-mul_left, mul-suc}
use native.Mathlib.Omega.{arith}
use borrow.Author.Tests.{le-leb, lt-leb, leb-true, eqb-true}
use mir.Val.{bool_byte}
use lib.ListN.{length, drop, get_or, length-drop}
use lib.Seq.{length-take-le}
use Rattle.laws.specs.Same.{same}
use Rattle.laws.proofs.Holds.{both}
use Rattle.wire_message.specs.Tags.{SRV}
use Rattle.wire_message.specs.Values.{has, value_of}
use Rattle.wire_packet.specs.Packet.{body}
use Rattle.wire_packet.specs.Request.{request_bad}
use Rattle.server_response.proofs.Replied.{lent-short}
use Rattle.server_batch.specs.Batch.{Batch, size_at, packet_in, packet_at, meant_for, meant_at}
use Rattle.server_batch.specs.Steps.{stay_test, stay_at, Held}

module _ (srv p : List ℕ) {t : Bool} (bad : t ≡ request_bad p) where
  pub meant-bad : t ≡ true → false ≡ meant_for srv p
  unfolding meant_for
  meant-bad e = simp (sym bad ∙ e)

  module _ (good : t ≡ false) {u : Bool} (tagged : u ≡ has (body p) SRV) where
    pub meant-same : {r : Bool} → u ≡ true → r ≡ same (value_of (body p) SRV) srv → r ≡ meant_for srv p
    unfolding meant_for
    meant-same e q = simp (sym bad ∙ good, sym tagged ∙ e) q

    pub meant-bare : u ≡ false → true ≡ meant_for srv p
    unfolding meant_for
    meant-bare e = simp (sym bad ∙ good, sym tagged ∙ e)

module _ (b : Batch) (i : ℕ) {n : ℕ} (size : n ≡ size_at b i) where
  pub meant-long : b.slot < n → false ≡ meant_at b i
  unfolding meant_at
  meant-long h = simp (lt-leb (size_at b i) b.slot (rw size at h))

  pub meant-short : {r : Bool} {p : List ℕ} → n ≤ b.slot → p ≡ packet_at b i → r ≡ meant_for b.srv p → r ≡ meant_at b i
  unfolding meant_at
  meant-short h e q = simp (le-leb (size_at b i) b.slot (rw size at h)) (q ∙ ap (meant_for b.srv) e)

-- ---- What is marked

-- a mark, as code has it
pub mark-is : (t : Bool) → bool_byte t ≡ cond t 1 0
mark-is true = refl
mark-is false = refl

-- whether a packet is answered, as code finds out
pub stay-is : (marks lengths : List ℕ) (least i : ℕ) {n : ℕ} {t : Bool} → t ≡ stay_test (get_or marks i 0) n least
    → n ≡ get_or lengths i 0 → t ≡ stay_at marks lengths least i
unfolding stay_at
stay-is marks lengths least i e q = e ∙ ap (λ (n : ℕ). stay_test (get_or marks i 0) n least) q

-- by its mark and its length a packet is answered; its mark is then 1
pub stay-marked : (marks lengths : List ℕ) (least i : ℕ) {t : Bool} → t ≡ stay_at marks lengths least i → t ≡ true
    → (get_or marks i 0 ≡ 1) × (least ≤ get_or lengths i 0)
unfolding stay_at
stay-marked marks lengths least i e y =
    let both = both _ _ (sym e ∙ y) in
    (eqb-true (get_or marks i 0) 1 both.0, leb-true least (get_or lengths i 0) both.1)

-- what is at the front of slot i is inside
pub slot-inside : (slot all i k n : ℕ) → slot * k ≤ all → i < k → n ≤ slot → slot * i + n ≤ all
slot-inside slot all i k n h g l = omega (arith, mul-suc slot i, mul-le-mul_left slot g)

-- what is marked and answered is inside, and so is not longer than a good request
module _ (packets : List ℕ) (slot : ℕ) (lengths marks : List ℕ) (held : Held packets slot lengths marks) (i least : ℕ)
    (below : i < length lengths) {t : Bool} (is : t ≡ stay_at marks lengths least i) (holds : t ≡ true) where
  abbrev marked : (get_or marks i 0 ≡ 1) × (least ≤ get_or lengths i 0)
  marked = stay-marked marks lengths least i is holds

  pub stay-inside : slot * i + get_or lengths i 0 ≤ length packets
  stay-inside = slot-inside slot (length packets) i (length lengths) _ held.whole below
      (held.inside i below marked.0)

  pub stay-good : request_bad (packet_in packets slot lengths i) ≡ false
  stay-good = held.good i below marked.0

  pub stay-short : least ≤ 2000
  unfolding packet_in
  stay-short =
      let size : length (packet_in packets slot lengths i) ≡ get_or lengths i 0 =
      length-take-le (get_or lengths i 0) (drop (slot * i) packets) (simp length-drop (omega (arith, stay-inside))) in
      omega (arith, marked.1, size, lent-short (packet_in packets slot lengths i) stay-good)
